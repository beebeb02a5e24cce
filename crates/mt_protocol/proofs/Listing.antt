-- Lists that are made item by item.
use Rattle.std.proofs.Common.{◌≡◌, ◌∙◌, ◌<◌, ℕ, zero, suc, ◌+◌, List, [], ◌∷◌, ◌++◌, length, drop, refl, sym, ap, arith, add-one, append_assoc}
use Rattle.std.specs.Prelude.{slice_get}
use Rattle.mt_protocol.specs.Copies.{held, alone}
use Rattle.mt_protocol.specs.Scripts.{theorem_of, theorems}

-- the first of the items left
first_left : {A : Type 0} (xs : List A) (n : ℕ) → n < length xs → drop n xs ≡ held alone (slice_get xs n) ++ drop (suc n) xs
first_left [] n lt = absurd (omega arith)
first_left (x ∷ xs) zero lt = refl
first_left (x ∷ xs) (suc n) lt = first_left xs n (omega arith)

-- one more item is copied
pub one_more : {A : Type 0} (xs : List A) (n : ℕ) (before out all : List A) → n < length xs → before ++ drop n xs ≡ all → out ≡ before ++ held alone (slice_get xs n) → out ++ drop (n + 1) xs ≡ all
one_more xs n before out all lt e w =
    ap (λ l. l ++ drop (n + 1) xs) w ∙ append_assoc before (held alone (slice_get xs n)) _
    ∙ ap (λ k. before ++ (held alone (slice_get xs n) ++ drop k xs)) (add-one n)
    ∙ ap (λ l. before ++ l) (sym (first_left xs n lt)) ∙ e

-- one more theorem is written
pub theorem_more : (before : List ℕ) (now next : List ℕ) (n : ℕ) → now ≡ before ++ theorems n → next ≡ now ++ theorem_of n → next ≡ before ++ theorems (n + 1)
theorem_more before now next n e w =
    w ∙ ap (λ l. l ++ theorem_of n) e ∙ append_assoc before (theorems n) (theorem_of n) ∙ ap (λ k. before ++ theorems k) (sym (add-one n))
