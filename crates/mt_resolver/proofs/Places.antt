-- Places of names in lists.
use Rattle.std.proofs.Common.{◌≡◌, ℕ, zero, suc, ◌+◌, ◌≤◌, Bool, true, false, List, [], ◌∷◌, ◌++◌, length, take, drop, Option, Some, None, refl, sym, ap, ◌∙◌, arith}
use Rattle.std.specs.Prelude.{slice_get, if◌then◌else◌}
use Rattle.std.specs.Str.{bytes_eq}
use Rattle.std.proofs.Math.ListN.{drop_of_length-le}
use Rattle.mt_term.specs.Trees.{Bytes}
use Rattle.mt_resolver.specs.Resolution.{first_place, one_further, with_binders}
use Rattle.mt_resolver.specs.ScopeOf.{places_on}

pub places_on-further : (k : ℕ) (o : Option ℕ) → places_on (k + 1) o ≡ places_on k (one_further o)
places_on-further k None = refl
places_on-further k (Some i) = let e : k + 1 + i ≡ k + suc i = omega arith in ap Some e

pub places_on-zero : (o : Option ℕ) → places_on 0 o ≡ o
places_on-zero None = refl
places_on-zero (Some i) = let e : 0 + i ≡ i = omega arith in ap Some e

pub places_on-twice : (k n : ℕ) (o : Option ℕ) → places_on k (places_on n o) ≡ places_on (k + n) o
places_on-twice k n None = refl
places_on-twice k n (Some i) = let e : k + (n + i) ≡ k + n + i = omega arith in ap Some e

-- a place in two lists, the first of which has so many names
abbrev pub place_in_two : ℕ → Option ℕ → Option ℕ → Option ℕ
place_in_two n (Some i) o = Some i
place_in_two n None o = places_on n o

further_in_two : (n : ℕ) (p o : Option ℕ) → one_further (place_in_two n p o) ≡ place_in_two (suc n) (one_further p) o
further_in_two n (Some i) o = refl
further_in_two n None None = refl
further_in_two n None (Some i) = let e : suc (n + i) ≡ suc n + i = omega arith in ap Some e

place-append : (xs ys : List Bytes) (x : Bytes) → first_place (xs ++ ys) x ≡ place_in_two (length xs) (first_place xs x) (first_place ys x)
place-append [] ys x = sym (places_on-zero (first_place ys x))
place-append (z ∷ xs) ys x = by (bytes_eq z x) (place-append xs ys x)
  where
    by : (b : Bool) → first_place (xs ++ ys) x ≡ place_in_two (length xs) (first_place xs x) (first_place ys x) → (if b then Some 0 else one_further (first_place (xs ++ ys) x)) ≡ place_in_two (suc (length xs)) (if b then Some 0 else one_further (first_place xs x)) (first_place ys x)
    by true _ = refl
    by false rest = ap one_further rest ∙ further_in_two (length xs) (first_place xs x) (first_place ys x)

binders-append : (xs Γ Δ : List Bytes) → with_binders xs (Γ ++ Δ) ≡ with_binders xs Γ ++ Δ
binders-append [] Γ Δ = refl
binders-append (x ∷ xs) Γ Δ = binders-append xs (x ∷ Γ) Δ

binders-are : (xs Γ : List Bytes) → with_binders xs Γ ≡ with_binders xs [] ++ Γ
binders-are xs Γ = binders-append xs [] Γ

length-binders : (xs Γ : List Bytes) → length (with_binders xs Γ) ≡ length xs + length Γ
length-binders [] Γ = omega arith
length-binders (x ∷ xs) Γ = let e : length xs + suc (length Γ) ≡ suc (length xs) + length Γ = omega arith in length-binders xs (x ∷ Γ) ∙ e

place_in_binders : (xs Γ : List Bytes) (x : Bytes) → first_place (with_binders xs Γ) x ≡ place_in_two (length xs) (first_place (with_binders xs []) x) (first_place Γ x)
place_in_binders xs Γ x =
    let n : length (with_binders xs []) ≡ length xs = omega (arith, length-binders xs []) in
    ap (λ ys. first_place ys x) (binders-are xs Γ) ∙ place-append (with_binders xs []) Γ x
    ∙ ap (λ n. place_in_two n (first_place (with_binders xs []) x) (first_place Γ x)) n

-- a name among several binders, and one that is not among them
pub place_among : (xs Γ : List Bytes) (x : Bytes) (k i : ℕ) → first_place (with_binders xs []) x ≡ Some i → places_on k (first_place (with_binders xs Γ) x) ≡ Some (k + i)
place_among xs Γ x k i e = ap (places_on k) (place_in_binders xs Γ x ∙ ap (λ o. place_in_two (length xs) o (first_place Γ x)) e)

pub place_past : (xs Γ : List Bytes) (x : Bytes) (k : ℕ) → first_place (with_binders xs []) x ≡ None → places_on k (first_place (with_binders xs Γ) x) ≡ places_on (k + length xs) (first_place Γ x)
place_past xs Γ x k e =
    ap (places_on k) (place_in_binders xs Γ x ∙ ap (λ o. place_in_two (length xs) o (first_place Γ x)) e)
    ∙ places_on-twice k (length xs) (first_place Γ x)

-- one binder more
take-more : (xs Γ : List Bytes) (i : ℕ) (y : Bytes) → slice_get xs i ≡ Some y → with_binders (take (suc i) xs) Γ ≡ y ∷ with_binders (take i xs) Γ
take-more [] Γ i y e = let no : ⊥ = cc in absurd no
take-more (z ∷ xs) Γ zero y e = let same : z ≡ y = cc in ap (λ w. w ∷ Γ) same
take-more (z ∷ xs) Γ (suc i) y e = take-more xs (z ∷ Γ) i y e

pub place-binder : (xs : List Bytes) (i : ℕ) (y x : Bytes) (o p : Option ℕ) → slice_get xs i ≡ Some y → o ≡ first_place (with_binders (take i xs) []) x
    → p ≡ (if bytes_eq y x then Some 0 else one_further o) → p ≡ first_place (with_binders (take (i + 1) xs) []) x
place-binder xs i y x o p e f g =
    let s : suc i ≡ i + 1 = omega arith in
    g ∙ ap (λ q. if bytes_eq y x then Some 0 else one_further q) f
    ∙ ap (λ ys. first_place ys x) (sym (take-more xs [] i y e)) ∙ ap (λ j. first_place (with_binders (take j xs) []) x) s

-- a list of names, one by one
drop-name : (xs : List Bytes) (i : ℕ) (y : Bytes) → slice_get xs i ≡ Some y → drop i xs ≡ y ∷ drop (suc i) xs
drop-name [] i y e = let no : ⊥ = cc in absurd no
drop-name (z ∷ xs) zero y e = let same : z ≡ y = cc in ap (λ w. w ∷ xs) same
drop-name (z ∷ xs) (suc i) y e = drop-name xs i y e

module _ (xs : List Bytes) (x : Bytes) (i : ℕ) (y : Bytes) (at : slice_get xs i ≡ Some y) (before : first_place xs x ≡ places_on i (first_place (drop i xs) x)) where
  tested : (b : Bool) → bytes_eq y x ≡ b → first_place xs x ≡ places_on i (if b then Some 0 else one_further (first_place (drop (suc i) xs) x))
  tested b e = before ∙ ap (λ ys. places_on i (first_place ys x)) (drop-name xs i y at) ∙ ap (λ c. places_on i (if c then Some 0 else one_further (first_place (drop (suc i) xs) x))) e

  pub place-here : bytes_eq y x ≡ true → first_place xs x ≡ Some i
  place-here e = let z : i + 0 ≡ i = omega arith in tested true e ∙ ap Some z

  pub place-next : bytes_eq y x ≡ false → first_place xs x ≡ places_on (i + 1) (first_place (drop (i + 1) xs) x)
  place-next e =
      let s : suc i ≡ i + 1 = omega arith in
      tested false e ∙ sym (places_on-further i (first_place (drop (suc i) xs) x)) ∙ ap (λ j. places_on (i + 1) (first_place (drop j xs) x)) s

pub place-nowhere : (xs : List Bytes) (x : Bytes) (i : ℕ) → length xs ≤ i → first_place xs x ≡ places_on i (first_place (drop i xs) x) → first_place xs x ≡ None
place-nowhere xs x i e before = before ∙ ap (λ ys. places_on i (first_place ys x)) (drop_of_length-le xs e)

-- the newest name, and an older one
pub place_newest : (y x : Bytes) (Γ : List Bytes) (k : ℕ) → bytes_eq y x ≡ true → places_on k (first_place (y ∷ Γ) x) ≡ Some k
place_newest y x Γ k e = let here : k + 0 ≡ k = omega arith in ap (λ b. places_on k (if b then Some 0 else one_further (first_place Γ x))) e ∙ ap Some here

pub place_older : (y x : Bytes) (Γ : List Bytes) (k : ℕ) → bytes_eq y x ≡ false → places_on k (first_place (y ∷ Γ) x) ≡ places_on (k + 1) (first_place Γ x)
place_older y x Γ k e = ap (λ b. places_on k (if b then Some 0 else one_further (first_place Γ x))) e ∙ sym (places_on-further k (first_place Γ x))

pub ruleset place_rules = (place_among, place_past, place_newest, place_older, places_on-zero, place-binder, place-here, place-next, place-nowhere)
