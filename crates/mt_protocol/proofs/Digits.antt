-- Digits, and the numbers that they spell.
use Rattle.std.proofs.Common.{◌≡◌, ◌<◌, ◌≤◌, ℕ, zero, suc, ◌+◌, ◌-◌, ◌*◌, Bool, true, false, ◌&&◌, nat_le, if◌then◌else◌, List, [], ◌∷◌, length, drop, get_or, Option, Some, None, refl, sym, ap, ◌∙◌, arith, add-one}
use Rattle.std.proofs.lemmas.Bool.{le-leb, lt-leb}
use Rattle.mt_protocol.specs.Frames.{are_digits, is_digit, value_onto, capped, greatest}

digits_at : (xs : List ℕ) (i : ℕ) → i < length xs → are_digits (drop i xs) ≡ (is_digit (get_or xs i 0) && are_digits (drop (suc i) xs))
digits_at [] i lt = absurd (omega arith)
digits_at (x ∷ xs) zero lt = refl
digits_at (x ∷ xs) (suc i) lt = digits_at xs i (omega arith)

-- one more digit
pub digit_more : (xs : List ℕ) (i : ℕ) → i < length xs → is_digit (get_or xs i 0) ≡ true → are_digits xs ≡ are_digits (drop i xs) → are_digits xs ≡ are_digits (drop (i + 1) xs)
digit_more xs i lt d e = e ∙ digits_at xs i lt ∙ ap (λ b. b && are_digits (drop (suc i) xs)) d ∙ ap (λ k. are_digits (drop k xs)) (sym (add-one i))

-- something else
pub no_digit : (xs : List ℕ) (i : ℕ) → i < length xs → is_digit (get_or xs i 0) ≡ false → are_digits xs ≡ are_digits (drop i xs) → false ≡ are_digits xs
no_digit xs i lt d e = sym (e ∙ digits_at xs i lt ∙ ap (λ b. b && are_digits (drop (suc i) xs)) d)

pub dropped_all : {A : Type 0} (xs : List A) (i : ℕ) → length xs ≤ i → drop i xs ≡ []
dropped_all [] zero le = refl
dropped_all [] (suc i) le = refl
dropped_all (x ∷ xs) zero le = absurd (omega arith)
dropped_all (x ∷ xs) (suc i) le = dropped_all xs i (omega arith)

pub all_digits : (xs : List ℕ) (i : ℕ) → length xs ≤ i → are_digits xs ≡ are_digits (drop i xs) → true ≡ are_digits xs
all_digits xs i le e = sym (e ∙ ap are_digits (dropped_all xs i le))

onto_at : (xs : List ℕ) (i n : ℕ) → i < length xs → value_onto n (drop i xs) ≡ value_onto (n * 10 + (get_or xs i 0 - 48)) (drop (suc i) xs)
onto_at [] i n lt = absurd (omega arith)
onto_at (x ∷ xs) zero n lt = refl
onto_at (x ∷ xs) (suc i) n lt = onto_at xs i n (omega arith)

onto_grows : (ds : List ℕ) (n : ℕ) → n ≤ value_onto n ds
onto_grows [] n = omega arith
onto_grows (d ∷ ds) n = omega (arith, onto_grows ds (n * 10 + (d - 48)))

-- the value after one more digit
pub value_more : (xs : List ℕ) (i n m : ℕ) → i < length xs → value_onto n (drop i xs) ≡ value_onto 0 xs → m ≡ n * 10 + (get_or xs i 0 - 48)
    → value_onto m (drop (i + 1) xs) ≡ value_onto 0 xs
value_more xs i n m lt e is =
    ap (λ k. value_onto m (drop k xs)) (add-one i) ∙ ap (λ v. value_onto v (drop (suc i) xs)) is ∙ sym (onto_at xs i n lt) ∙ e

pub value_past : (xs : List ℕ) (i m : ℕ) → value_onto m (drop i xs) ≡ value_onto 0 xs → greatest < m → None ≡ capped (value_onto 0 xs)
value_past xs i m e lt = sym (ap (λ b. if b then Some (value_onto 0 xs) else None) (lt-leb (value_onto 0 xs) greatest (omega (arith, onto_grows (drop i xs) m, e))))

pub value_end : (xs : List ℕ) (i n : ℕ) → length xs ≤ i → value_onto n (drop i xs) ≡ value_onto 0 xs → n ≤ greatest → Some n ≡ capped (value_onto 0 xs)
value_end xs i n le e small =
    let is : n ≡ value_onto 0 xs = sym (ap (value_onto n) (dropped_all xs i le)) ∙ e in
    ap Some is ∙ sym (ap (λ b. if b then Some (value_onto 0 xs) else None) (le-leb (value_onto 0 xs) greatest (omega (arith, is))))
