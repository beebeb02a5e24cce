-- A fit name is one of the first candidates: there is one more of them than names to be avoided.
use Rattle.std.proofs.Common.{◌≡◌, ◌≢◌, ◌∙◌, ◌<◌, ◌≤◌, ◌^◌, ℕ, zero, suc, ◌+◌, ◌-◌, List, [], ◌∷◌, ◌++◌, length, refl, sym, ap, arith, add-one, append_assoc, length-append}
use Rattle.std.specs.Prelude.{Bool, true, false, ◌||◌, if◌then◌else◌, bytes_eq, codes}
use Rattle.std.specs.Fmt.{decimal}
use Rattle.std.proofs.lemmas.Slice.Eq.{bytes_eq-Decides}
use Rattle.std.proofs.lemmas.List.{append_cancel_left}
use Rattle.std.proofs.lemmas.Fmt.{decimal_injective}
use Rattle.mt_term.specs.Trees.{Bytes}
use Rattle.mt_printer.specs.Chosen.{candidate, first_fit, fit_name, is_one_of}

-- names but one
abbrev but : Bytes → List Bytes → List Bytes
but y [] = []
but y (x ∷ xs) = if bytes_eq x y then but y xs else (x ∷ but y xs)

no_true : false ≢ true
no_true e = cc

longer : (b : Bool) (x y : Bytes) (xs : List Bytes) → length (but y xs) ≤ length xs → length (if b then but y xs else (x ∷ but y xs)) ≤ suc (length xs)
longer true x y xs h = omega arith
longer false x y xs h = omega arith

not_longer : (y : Bytes) (xs : List Bytes) → length (but y xs) ≤ length xs
not_longer y [] = omega arith
not_longer y (x ∷ xs) = longer (bytes_eq x y) x y xs (not_longer y xs)

shorter_by : (b : Bool) (x y : Bytes) (xs : List Bytes) → (b || is_one_of xs y) ≡ true → (is_one_of xs y ≡ true → length (but y xs) < length xs) → length (if b then but y xs else (x ∷ but y xs)) < suc (length xs)
shorter_by true x y xs e h = let n = not_longer y xs in omega (arith, n)
shorter_by false x y xs e h = let n = h e in omega (arith, n)

shorter : (y : Bytes) (xs : List Bytes) → is_one_of xs y ≡ true → length (but y xs) < length xs
shorter y [] e = absurd (no_true e)
shorter y (x ∷ xs) e = shorter_by (bytes_eq x y) x y xs e (shorter y xs)

kept_after : (c : Bool) (z : Bytes) (xs ys : List Bytes) → (c || is_one_of xs z) ≡ true → (is_one_of xs z ≡ true → is_one_of ys z ≡ true) → (c || is_one_of ys z) ≡ true
kept_after true z xs ys e h = refl
kept_after false z xs ys e h = h e

drop_first : (c : Bool) (z : Bytes) (xs : List Bytes) → (c ≡ true → ⊥) → (c || is_one_of xs z) ≡ true → is_one_of xs z ≡ true
drop_first true z xs ne e = absurd (ne refl)
drop_first false z xs ne e = e

kept_by : (b : Bool) (x y z : Bytes) (xs : List Bytes) → bytes_eq x y ≡ b → y ≢ z → (bytes_eq x z || is_one_of xs z) ≡ true → (is_one_of xs z ≡ true → is_one_of (but y xs) z ≡ true) → is_one_of (if b then but y xs else (x ∷ but y xs)) z ≡ true
kept_by true x y z xs is ne e h =
    h (drop_first (bytes_eq x z) z xs (λ f. ne (sym ((bytes_eq-Decides x y).0 is) ∙ (bytes_eq-Decides x z).0 f)) e)
kept_by false x y z xs is ne e h = kept_after (bytes_eq x z) z xs (but y xs) e h

kept : (y z : Bytes) (xs : List Bytes) → y ≢ z → is_one_of xs z ≡ true → is_one_of (but y xs) z ≡ true
kept y z [] ne e = absurd (no_true e)
kept y z (x ∷ xs) ne e = kept_by (bytes_eq x y) x y z xs refl ne e (kept y z xs ne)

-- so many different names are no more than those that they are among
pigeons : (c : ℕ → Bytes) (k : ℕ) (xs : List Bytes) → ((i j : ℕ) → i < j → j < k → c i ≢ c j) → ((j : ℕ) → j < k → is_one_of xs (c j) ≡ true) → k ≤ length xs
pigeons c zero xs apart among = omega arith
pigeons c (suc k) xs apart among =
    let fewer = shorter (c k) xs (among k (omega arith)) in
    let rest = pigeons c k (but (c k) xs) (λ i j l m. apart i j l (omega arith)) (λ j l. kept (c k) (c j) xs (λ e. apart j k l (omega arith) (sym e)) (among j (omega arith))) in
    omega (arith, fewer, rest)

-- candidates differ
unlike_base : (x : Bytes) (d : Bytes) → x ≢ x ++ codes "_" ++ d
unlike_base x d e =
    let n = ap length (e ∙ append_assoc x (codes "_") d) in
    let m = length-append x (codes "_" ++ d) in
    let p = length-append (codes "_") d in
    omega (arith, n, m, p)

numbered : (x : Bytes) (i j : ℕ) → i < 2 ^ 64 → j < 2 ^ 64 → x ++ codes "_" ++ decimal i ≡ x ++ codes "_" ++ decimal j → i ≡ j
numbered x i j p q e = decimal_injective i j p q (append_cancel_left (x ++ codes "_") (decimal i) (decimal j) e)

pub candidates_apart : (x : Bytes) (i j : ℕ) → i < j → j < 2 ^ 64 → candidate x i ≢ candidate x j
candidates_apart x zero zero l h e = omega arith
candidates_apart x zero (suc j) l h e = unlike_base x (decimal (suc j)) e
candidates_apart x (suc i) zero l h e = omega arith
candidates_apart x (suc i) (suc j) l h e = let same = numbered x (suc i) (suc j) (omega arith) h e in omega (arith, same)

-- where so many candidates are avoided, so many names are
pub avoided_many : (avoided : List Bytes) (x : Bytes) (k : ℕ) → k ≤ 2 ^ 64 → ((j : ℕ) → j < k → is_one_of avoided (candidate x j) ≡ true) → k ≤ length avoided
avoided_many avoided x k h among = pigeons (candidate x) k avoided (λ i j l m. candidates_apart x i j l (omega arith)) among

-- the first fit candidate, where it is among those that are tried
found : (avoided : List Bytes) (x : Bytes) (m n k : ℕ) → m ≤ n → ((j : ℕ) → j < m → is_one_of avoided (candidate x (k + j)) ≡ true) → is_one_of avoided (candidate x (k + m)) ≡ false → first_fit avoided x n k ≡ candidate x (k + m)
found avoided x zero zero k le among not = ap (candidate x) (let e : k ≡ k + 0 = omega arith in e)
found avoided x zero (suc n) k le among not =
    let e : k + 0 ≡ k = omega arith in
    let no : is_one_of avoided (candidate x k) ≡ false = ap (λ i. is_one_of avoided (candidate x i)) (sym e) ∙ not in
    ap (λ b. if b then first_fit avoided x n (suc k) else candidate x k) no ∙ ap (candidate x) (sym e)
found avoided x (suc m) zero k le among not = absurd (omega arith)
found avoided x (suc m) (suc n) k le among not =
    let e : k + 0 ≡ k = omega arith in
    let there : is_one_of avoided (candidate x k) ≡ true = ap (λ i. is_one_of avoided (candidate x i)) (sym e) ∙ among 0 (omega arith) in
    let step : (j : ℕ) → k + suc j ≡ suc k + j = λ j. omega arith in
    ap (λ b. if b then first_fit avoided x n (suc k) else candidate x k) there
    ∙ found avoided x m n (suc k) (omega arith)
    (λ j l. ap (λ i. is_one_of avoided (candidate x i)) (sym (step j)) ∙ among (suc j) (omega arith))
    (ap (λ i. is_one_of avoided (candidate x i)) (sym (step m)) ∙ not)
    ∙ ap (candidate x) (sym (step m))

-- the first candidate that is not avoided is the fit name
pub fit_at : (avoided : List Bytes) (x : Bytes) (k : ℕ) → k < 2 ^ 64 → ((j : ℕ) → j < k → is_one_of avoided (candidate x j) ≡ true) → is_one_of avoided (candidate x k) ≡ false → fit_name avoided x ≡ candidate x k
unfolding fit_name
fit_at avoided x k h among not =
    let z : (j : ℕ) → 0 + j ≡ j = λ j. omega arith in
    found avoided x k (length avoided) 0 (avoided_many avoided x k (omega arith) among)
    (λ j l. ap (λ i. is_one_of avoided (candidate x i)) (z j) ∙ among j l)
    (ap (λ i. is_one_of avoided (candidate x i)) (z k) ∙ not)
    ∙ ap (candidate x) (z k)
