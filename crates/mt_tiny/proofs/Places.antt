-- What is taken away from goals at positions.
use Rattle.std.proofs.Common.{◌≡◌, ◌+◌, ◌<◌, ℕ, zero, suc, Bool, false, List, [], ◌∷◌, ◌++◌, length, drop, get_or, Option, Some, None, refl, ap, sym, ◌∙◌, arith, nat_eq, if◌then◌else◌}
use Rattle.std.specs.Prelude.{remove}
use Rattle.std.proofs.Math.Seq.{drop-length}
use Rattle.std.proofs.lemmas.Bool.{eq-eqb, ne_eqb}
use Rattle.std.proofs.lemmas.List.{append_assoc, append-nil}
use Rattle.mt_tiny.specs.Goals.{Placed, taken, behind, before, with_taken, picked}
use Rattle.mt_tiny.proofs.GoalLists.{from-place}

pub taken-at : (p : ℕ) (xs : Placed) (k : ℕ) → k < length xs → ((j : ℕ) → j < k → (get_or xs j (0, 0)).0 ≡ p → ⊥) → (get_or xs k (0, 0)).0 ≡ p
    → taken p xs ≡ Some ((get_or xs k (0, 0)).1, remove xs k)
taken-at p [] k h n e = absurd (omega arith)
taken-at p (x ∷ xs) zero h n e = ap (λ (b : Bool). if b then Some (x.1, xs) else behind x (taken p xs)) (eq-eqb p x.0 (sym e))
taken-at p (x ∷ xs) (suc k) h n e =
    let first : x.0 ≡ p → ⊥ = n 0 (omega arith) in
    let other : nat_eq p x.0 ≡ false = ne_eqb p x.0 (λ (d : p ≡ x.0). first (sym d)) in
    let later : taken p xs ≡ Some ((get_or xs k (0, 0)).1, remove xs k) = taken-at p xs k (omega arith) (λ j l. n (suc j) (omega arith)) e in
    ap (λ (b : Bool). if b then Some (x.1, xs) else behind x (taken p xs)) other ∙ ap (behind x) later

pub taken-none : (p : ℕ) (xs : Placed) → ((j : ℕ) → j < length xs → (get_or xs j (0, 0)).0 ≡ p → ⊥) → taken p xs ≡ None
taken-none p [] n = refl
taken-none p (x ∷ xs) n =
    let first : x.0 ≡ p → ⊥ = n 0 (omega arith) in
    let other : nat_eq p x.0 ≡ false = ne_eqb p x.0 (λ (d : p ≡ x.0). first (sym d)) in
    let later : taken p xs ≡ None = taken-none p xs (λ j l. n (suc j) (omega arith)) in
    ap (λ (b : Bool). if b then Some (x.1, xs) else behind x (taken p xs)) other ∙ ap (behind x) later

pub place-at : (p : ℕ) (xs : Placed) (k : ℕ) → k < length xs → ((j : ℕ) → j < k → (get_or xs j (0, 0)).0 ≡ p → ⊥) → (get_or xs k (0, 0)).0 ≡ p
    → (k < length xs) × (taken p xs ≡ Some ((get_or xs k (0, 0)).1, remove xs k))
place-at p xs k h n e = (h, taken-at p xs k h n e)

pub ruleset place_rules = (place-at, taken-none)

-- goals before those that are picked
abbrev pub prefixed : List ℕ → Option (List ℕ × Placed) → Option (List ℕ × Placed)
prefixed gs None = None
prefixed gs (Some r) = Some (gs ++ r.0, r.1)

prefixed-none : (o : Option (List ℕ × Placed)) → prefixed [] o ≡ o
prefixed-none None = refl
prefixed-none (Some r) = refl

prefixed-before : (gs : List ℕ) (g : ℕ) (o : Option (List ℕ × Placed)) → prefixed gs (before g o) ≡ prefixed (gs ++ g ∷ []) o
prefixed-before gs g None = refl
prefixed-before gs g (Some r) = ap (λ (ys : List ℕ). Some (ys, r.1)) (sym (append_assoc gs (g ∷ []) r.0))

pub picked-start : (is : List ℕ) (xs : Placed) → prefixed [] (picked (drop 0 is) xs) ≡ picked is xs
picked-start is xs = prefixed-none (picked is xs)

pub picked-next : (gs is : List ℕ) (xs ys : Placed) (i g : ℕ) → i < length is → taken (get_or is i 0) xs ≡ Some (g, ys)
    → prefixed gs (picked (drop i is) xs) ≡ prefixed (gs ++ g ∷ []) (picked (drop (i + 1) is) ys)
picked-next gs is xs ys i g h e =
    ap (λ (r : List ℕ). prefixed gs (picked r xs)) (from-place is i 0 h)
    ∙ ap (λ (o : Option (ℕ × Placed)). prefixed gs (with_taken o (λ others. picked (drop (i + 1) is) others))) e
    ∙ prefixed-before gs g (picked (drop (i + 1) is) ys)

pub picked-none : (gs is : List ℕ) (xs : Placed) (i : ℕ) → i < length is → taken (get_or is i 0) xs ≡ None → prefixed gs (picked (drop i is) xs) ≡ None
picked-none gs is xs i h e =
    ap (λ (r : List ℕ). prefixed gs (picked r xs)) (from-place is i 0 h)
    ∙ ap (λ (o : Option (ℕ × Placed)). prefixed gs (with_taken o (λ others. picked (drop (i + 1) is) others))) e

pub picked-end : (gs is : List ℕ) (xs : Placed) → prefixed gs (picked (drop (length is) is) xs) ≡ Some (gs, xs)
picked-end gs is xs =
    ap (λ (r : List ℕ). prefixed gs (picked r xs)) (drop-length is) ∙ ap (λ (ys : List ℕ). Some (ys, xs)) (append-nil gs)

pub ruleset picked_rules = (picked-start, picked-next, picked-none, picked-end)
