-- Lists that are made item by item.
use Rattle.std.proofs.Common.{◌≡◌, ◌∙◌, ◌<◌, ℕ, zero, suc, ◌+◌, List, [], ◌∷◌, ◌++◌, length, drop, refl, sym, ap, arith, add-one, append_assoc}
use Rattle.std.specs.Prelude.{slice_get}
use Rattle.mt_term.specs.Declarations.{Environment}
use Rattle.mt_term.specs.States.{Note}
use Rattle.mt_printer.specs.EnvText.{held, held_lines, line_count}

-- what the first of the items left gives
first_left : {A B : Type 0} (g : A → List B) (f : List A → List B) → ((x : A) (xs : List A) → f (x ∷ xs) ≡ g x ++ f xs) → (xs : List A) (n : ℕ) → n < length xs → f (drop n xs) ≡ held g (slice_get xs n) ++ f (drop (suc n) xs)
first_left g f law [] n lt = absurd (omega arith)
first_left g f law (x ∷ xs) zero lt = law x xs
first_left g f law (x ∷ xs) (suc n) lt = first_left g f law xs n (omega arith)

-- one more item is done
pub one_more : {A B : Type 0} (g : A → List B) (f : List A → List B) → ((x : A) (xs : List A) → f (x ∷ xs) ≡ g x ++ f xs) → (xs : List A) (n : ℕ) (before out all : List B) → n < length xs → before ++ f (drop n xs) ≡ all → out ≡ before ++ held g (slice_get xs n) → out ++ f (drop (n + 1) xs) ≡ all
one_more g f law xs n before out all lt e w =
    ap (λ l. l ++ f (drop (n + 1) xs)) w ∙ append_assoc before (held g (slice_get xs n)) _
    ∙ ap (λ k. before ++ (held g (slice_get xs n) ++ f (drop k xs))) (add-one n)
    ∙ ap (λ l. before ++ l) (sym (first_left g f law xs n lt)) ∙ e

-- the first of the notes left, and the rest
lines_left : (E : Environment) (ns : List Note) (n : ℕ) → n < length ns → line_count E (drop n ns) ≡ held_lines E (slice_get ns n) + line_count E (drop (suc n) ns)
lines_left E [] n lt = absurd (omega arith)
lines_left E (x ∷ ns) zero lt = refl
lines_left E (x ∷ ns) (suc n) lt = lines_left E ns n (omega arith)

-- one more note is counted
pub count_more : (E : Environment) (ns : List Note) (n c k all : ℕ) → n < length ns → c + line_count E (drop n ns) ≡ all → k ≡ held_lines E (slice_get ns n) → c + k + line_count E (drop (n + 1) ns) ≡ all
count_more E ns n c k all lt e w =
    let left : line_count E (drop n ns) ≡ held_lines E (slice_get ns n) + line_count E (drop (suc n) ns) = lines_left E ns n lt in
    let next : line_count E (drop (n + 1) ns) ≡ line_count E (drop (suc n) ns) = ap (λ m. line_count E (drop m ns)) (add-one n) in
    omega (arith, left, next, e, w)
