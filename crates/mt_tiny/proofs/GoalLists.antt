-- Lists of goals, from a place on.
use Rattle.std.proofs.Common.{◌≡◌, ◌+◌, ◌<◌, ℕ, suc, Bool, true, false, cond, List, [], ◌∷◌, ◌++◌, length, drop, get_or, refl, ap, sym, ◌∙◌, arith, nat_eq, not, ◌&&◌, ◌||◌, add-one}
use Rattle.std.proofs.Math.Seq.{drop-cons, drop-length}
use Rattle.std.proofs.lemmas.List.{append_assoc, append-nil}
use Rattle.mt_tiny.specs.Provers.{ProverRules}
use Rattle.mt_tiny.specs.Goals.{Placed, numbered, goals_of, kept, stands_in, opened, any_open, may_focus}

-- from a place on: the item there, and what follows
pub from-place : {A : Type 0} (xs : List A) (i : ℕ) (d : A) → i < length xs → drop i xs ≡ get_or xs i d ∷ drop (i + 1) xs
from-place xs i d h = drop-cons xs i d h ∙ ap (λ (k : ℕ). get_or xs i d ∷ drop k xs) (sym (add-one i))

module _ {P A R : Type 0} (v : ProverRules P A R) (s : P) where
  pub opened-next : (gs : List ℕ) (i : ℕ) → i < length gs → opened v s (drop i gs) ≡ kept (v.is_open s (get_or gs i 0)) (get_or gs i 0) (opened v s (drop (i + 1) gs))
  opened-next gs i h = ap (opened v s) (from-place gs i 0 h)

  pub opened-open : (out gs : List ℕ) (i : ℕ) → i < length gs → v.is_open s (get_or gs i 0) ≡ true
      → out ++ opened v s (drop i gs) ≡ (out ++ get_or gs i 0 ∷ []) ++ opened v s (drop (i + 1) gs)
  opened-open out gs i h e =
      ap (λ (r : List ℕ). out ++ r) (opened-next gs i h ∙ ap (λ (b : Bool). kept b (get_or gs i 0) (opened v s (drop (i + 1) gs))) e)
      ∙ sym (append_assoc out (get_or gs i 0 ∷ []) (opened v s (drop (i + 1) gs)))

  pub opened-closed : (out gs : List ℕ) (i : ℕ) → i < length gs → v.is_open s (get_or gs i 0) ≡ false
      → out ++ opened v s (drop i gs) ≡ out ++ opened v s (drop (i + 1) gs)
  opened-closed out gs i h e =
      ap (λ (r : List ℕ). out ++ r) (opened-next gs i h ∙ ap (λ (b : Bool). kept b (get_or gs i 0) (opened v s (drop (i + 1) gs))) e)

  pub opened-end : (out gs : List ℕ) → out ++ opened v s (drop (length gs) gs) ≡ out
  opened-end out gs = ap (λ (r : List ℕ). out ++ opened v s r) (drop-length gs) ∙ append-nil out

  pub any_open-open : (gs : List ℕ) (i : ℕ) → i < length gs → v.is_open s (get_or gs i 0) ≡ true → any_open v s (drop i gs) ≡ true
  any_open-open gs i h e =
      ap (any_open v s) (from-place gs i 0 h) ∙ ap (λ (b : Bool). b || any_open v s (drop (i + 1) gs)) e

  pub any_open-closed : (gs : List ℕ) (i : ℕ) → i < length gs → v.is_open s (get_or gs i 0) ≡ false
      → any_open v s (drop i gs) ≡ any_open v s (drop (i + 1) gs)
  any_open-closed gs i h e =
      ap (any_open v s) (from-place gs i 0 h) ∙ ap (λ (b : Bool). b || any_open v s (drop (i + 1) gs)) e

  pub any_open-end : (gs : List ℕ) → any_open v s (drop (length gs) gs) ≡ false
  any_open-end gs = ap (any_open v s) (drop-length gs)

  pub any_open-append : (xs ys : List ℕ) → any_open v s (xs ++ ys) ≡ (any_open v s xs || any_open v s ys)
  any_open-append [] ys = refl
  any_open-append (x ∷ xs) ys =
      elim (v.is_open s x) as (λ b. (b || any_open v s (xs ++ ys)) ≡ ((b || any_open v s xs) || any_open v s ys)) [ true ↦ refl | false ↦ any_open-append xs ys ]

  pub may_focus-next : (gs : List ℕ) (i : ℕ) → i < length gs
      → may_focus v s (drop i gs) ≡ (v.is_open s (get_or gs i 0) && not (stands_in (get_or gs i 0) (drop (i + 1) gs)) && may_focus v s (drop (i + 1) gs))
  may_focus-next gs i h = ap (may_focus v s) (from-place gs i 0 h)

  pub may_focus-end : (gs : List ℕ) → may_focus v s (drop (length gs) gs) ≡ true
  may_focus-end gs = ap (may_focus v s) (drop-length gs)

  pub ruleset prover_lists = (opened-open, opened-closed, opened-end, any_open-open, any_open-closed, any_open-end, any_open-append, may_focus-next, may_focus-end)

pub stands_in-next : (n : ℕ) (gs : List ℕ) (i : ℕ) → i < length gs
    → stands_in n (drop i gs) ≡ cond (nat_eq n (get_or gs i 0)) true (stands_in n (drop (i + 1) gs))
stands_in-next n gs i h = ap (stands_in n) (from-place gs i 0 h)

pub stands_in-end : (n : ℕ) (gs : List ℕ) → stands_in n (drop (length gs) gs) ≡ false
stands_in-end n gs = ap (stands_in n) (drop-length gs)

pub numbered-next : (n : ℕ) (out : Placed) (gs : List ℕ) (i : ℕ) → i < length gs
    → out ++ numbered (n + i) (drop i gs) ≡ (out ++ (n + i, get_or gs i 0) ∷ []) ++ numbered (n + (i + 1)) (drop (i + 1) gs)
numbered-next n out gs i h =
    let e : suc (n + i) ≡ n + (i + 1) = omega arith in
    ap (λ (r : List ℕ). out ++ numbered (n + i) r) (from-place gs i 0 h)
    ∙ sym (append_assoc out ((n + i, get_or gs i 0) ∷ []) (numbered (suc (n + i)) (drop (i + 1) gs)))
    ∙ ap (λ (k : ℕ). (out ++ (n + i, get_or gs i 0) ∷ []) ++ numbered k (drop (i + 1) gs)) e

pub numbered-end : (n : ℕ) (out : Placed) (gs : List ℕ) → out ++ numbered (n + length gs) (drop (length gs) gs) ≡ out
numbered-end n out gs = ap (λ (r : List ℕ). out ++ numbered (n + length gs) r) (drop-length gs) ∙ append-nil out

pub goals_of-next : (out : List ℕ) (xs : Placed) (i : ℕ) (d : ℕ × ℕ) → i < length xs
    → out ++ goals_of (drop i xs) ≡ (out ++ (get_or xs i d).1 ∷ []) ++ goals_of (drop (i + 1) xs)
goals_of-next out xs i d h =
    ap (λ (r : Placed). out ++ goals_of r) (from-place xs i d h)
    ∙ sym (append_assoc out ((get_or xs i d).1 ∷ []) (goals_of (drop (i + 1) xs)))

pub goals_of-end : (out : List ℕ) (xs : Placed) → out ++ goals_of (drop (length xs) xs) ≡ out
goals_of-end out xs = ap (λ (r : Placed). out ++ goals_of r) (drop-length xs) ∙ append-nil out

pub ruleset plain_lists = (stands_in-next, stands_in-end, numbered-next, numbered-end, goals_of-next, goals_of-end)
