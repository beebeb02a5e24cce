-- Elements of lists by their places.
use Rattle.std.proofs.Common.{◌≡◌, ◌<◌, ◌≤◌, ◌⊎◌, ℕ, zero, suc, ◌+◌, List, [], ◌∷◌, ◌++◌, length, take, drop, get_or, slice_get, Option, Some, None, refl, ap, sym, ◌∙◌, subst, arith, inl, inr}
use Rattle.std.proofs.lemmas.Option.{slice_get-get_or}

-- an element of the front of a list is one of the list
pub get_of_front : {A : Type 0} (xs : List A) (n i : ℕ) (a : A) → slice_get (take n xs) i ≡ Some a → slice_get xs i ≡ Some a
get_of_front [] zero i a e = e
get_of_front [] (suc n) i a e = e
get_of_front (x ∷ xs) zero zero a e = absurd (cc)
get_of_front (x ∷ xs) zero (suc i) a e = absurd (cc)
get_of_front (x ∷ xs) (suc n) zero a e = e
get_of_front (x ∷ xs) (suc n) (suc i) a e = get_of_front xs n i a e

-- an element of the front of a list stands before its end
pub get_before : {A : Type 0} (xs : List A) (n i : ℕ) (a : A) → slice_get (take n xs) i ≡ Some a → i < n
get_before [] zero i a e = absurd (cc)
get_before [] (suc n) i a e = absurd (cc)
get_before (x ∷ xs) zero zero a e = absurd (cc)
get_before (x ∷ xs) zero (suc i) a e = absurd (cc)
get_before (x ∷ xs) (suc n) zero a e = omega arith
get_before (x ∷ xs) (suc n) (suc i) a e = omega (arith, get_before xs n i a e)

-- an element of a list with one more at its end is one of the list, or that one
pub get_of_push : {A : Type 0} (xs : List A) (x : A) (i : ℕ) (a : A) → slice_get (xs ++ x ∷ []) i ≡ Some a
    → (slice_get xs i ≡ Some a) ⊎ ((i ≡ length xs) × (a ≡ x))
get_of_push [] x zero a e = inr (refl, cc)
get_of_push [] x (suc i) a e = absurd (cc)
get_of_push (y ∷ xs) x zero a e = inl e
get_of_push (y ∷ xs) x (suc i) a e =
    elim (get_of_push xs x i a e) as (λ _. (slice_get xs i ≡ Some a) ⊎ ((suc i ≡ suc (length xs)) × (a ≡ x)))
    [ inl h ↦ inl h | inr h ↦ inr (ap suc h.0, h.1) ]

pub take_of_take : {A : Type 0} (xs : List A) (m n : ℕ) → m ≤ n → take m (take n xs) ≡ take m xs
take_of_take xs zero n le = refl
take_of_take [] (suc m) zero le = refl
take_of_take [] (suc m) (suc n) le = refl
take_of_take (x ∷ xs) (suc m) zero le = absurd (omega arith)
take_of_take (x ∷ xs) (suc m) (suc n) le = ap (λ l. x ∷ l) (take_of_take xs m n (omega arith))

-- shorter fronts of lists with the same front
pub same_front : {A : Type 0} (xs ys : List A) (m n : ℕ) → m ≤ n → take n xs ≡ take n ys → take m xs ≡ take m ys
same_front xs ys m n le e = sym (take_of_take xs m n le) ∙ ap (λ l. take m l) e ∙ take_of_take ys m n le

-- an element that was read at a place
pub get_at : {A : Type 0} (xs : List A) (i : ℕ) (a : A) → i < length xs → a ≡ get_or xs i a → slice_get xs i ≡ Some a
get_at xs i a lt e = slice_get-get_or xs i a lt ∙ ap Some (sym e)

pub drop_all : {A : Type 0} (xs : List A) → drop (length xs) xs ≡ []
drop_all [] = refl
drop_all (x ∷ xs) = drop_all xs

-- one step of a count
pub one_on : (total i : ℕ) (f : ℕ → ℕ) → total ≡ i + f i → f i ≡ suc (f (suc i)) → total ≡ (i + 1) + f (i + 1)
one_on total i f e s = e ∙ ap (λ n. i + n) s ∙ more i (f (suc i)) ∙ ap (λ k. (i + 1) + f k) (next i)
  where
    more : (i n : ℕ) → i + suc n ≡ (i + 1) + n
    more i n = omega arith

    next : (i : ℕ) → suc i ≡ i + 1
    next i = omega arith
