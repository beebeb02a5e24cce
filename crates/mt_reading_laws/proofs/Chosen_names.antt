-- A chosen name is none of the names that it must not be.
use Rattle.std.proofs.Common.{◌≡◌, ◌≢◌, ℕ, zero, suc, ◌+◌, ◌^◌, ◌<◌, ◌≤◌, Bool, true, false, cond, ◌||◌, List, [], ◌∷◌, ◌++◌, length, drop, refl, sym, ap, ap₂, ◌∙◌, arith, length-append}
use Rattle.std.specs.Prelude.{codes, bytes_eq}
use Rattle.std.specs.Set.{remove_key}
use Rattle.std.specs.Fmt.{decimal}
use Rattle.std.proofs.lemmas.Fmt.{decimal_injective}
use Rattle.std.proofs.lemmas.List.{drop_at}
use Rattle.std.proofs.lemmas.Map.Made.{length-remove_key}
use Rattle.mt_printer.specs.Chosen.{is_one_of, candidate, first_fit, fit_name}
use Rattle.mt_reading_laws.proofs.Bytes.{bytes-apart, bytes-equal}

-- two candidates differ
candidates-apart : (x : List ℕ) (i j : ℕ) → i < j → j < 2 ^ 64 → candidate x i ≢ candidate x j
candidates-apart x zero zero h small e = omega arith
candidates-apart x (suc i) zero h small e = omega arith
candidates-apart x zero (suc j) h small e =
    omega (arith, ap length e, length-append (x ++ codes "_") (decimal (suc j)), length-append x (codes "_"))
candidates-apart x (suc i) (suc j) h small e =
    let p : List ℕ = x ++ codes "_" in
    let same : decimal (suc i) ≡ decimal (suc j) = sym (drop_at p (decimal (suc i)) (length p) refl) ∙ ap (drop (length p)) e ∙ drop_at p (decimal (suc j)) (length p) refl in
    let number : suc i ≡ suc j = decimal_injective (suc i) (suc j) (omega arith) small same in
    omega arith

without-by : (c z y : List ℕ) (ys : List (List ℕ)) (b : Bool) → bytes_eq y c ≡ b → bytes_eq c z ≡ false → is_one_of (remove_key (λ y. bytes_eq y c) ys) z ≡ is_one_of ys z
    → is_one_of (cond b ys (y ∷ remove_key (λ y. bytes_eq y c) ys)) z ≡ is_one_of (y ∷ ys) z
without-by c z y ys true e h later = sym (ap (λ b. b || is_one_of ys z) (ap (λ w. bytes_eq w z) (bytes-equal y c e) ∙ h))
without-by c z y ys false e h later = ap (λ b. bytes_eq y z || b) later

-- a name that is taken out changes nothing for another name
without-same : (c z : List ℕ) (xs : List (List ℕ)) → bytes_eq c z ≡ false → is_one_of (remove_key (λ y. bytes_eq y c) xs) z ≡ is_one_of xs z
without-same c z [] h = refl
without-same c z (y ∷ ys) h = without-by c z y ys (bytes_eq y c) refl h (without-same c z ys h)

fit-same : (c x : List ℕ) (xs : List (List ℕ)) (more k : ℕ) → ((j : ℕ) → k ≤ j → j ≤ k + more → bytes_eq c (candidate x j) ≡ false)
    → first_fit (remove_key (λ y. bytes_eq y c) xs) x more k ≡ first_fit xs x more k
fit-same c x xs zero k h = refl
fit-same c x xs (suc more) k h =
    ap₂ (λ b r. cond b r (candidate x k)) (without-same c (candidate x k) xs (h k (omega arith) (omega arith))) (fit-same c x xs more (suc k) (λ j p q. h j (omega arith) (omega arith)))

-- the name that fits is a candidate
record Fit (x : List ℕ) (k more : ℕ) (z : List ℕ) : Type 0 where
  pub number : ℕ
  pub least : k ≤ number
  pub most : number ≤ k + more
  pub is : z ≡ candidate x number

fit-by : (x : List ℕ) (k more : ℕ) (b : Bool) (r : List ℕ) → Fit x (suc k) more r → Fit x k (suc more) (cond b r (candidate x k))
fit-by x k more true r f = let l = f.least in let m = f.most in record { number = f.number; least = omega arith; most = omega arith; is = f.is }
fit-by x k more false r f = record { number = k; least = omega arith; most = omega arith; is = refl }

fit-is : (xs : List (List ℕ)) (x : List ℕ) (more k : ℕ) → Fit x k more (first_fit xs x more k)
fit-is xs x zero k = record { number = k; least = omega arith; most = omega arith; is = refl }
fit-is xs x (suc more) k = fit-by x k more (is_one_of xs (candidate x k)) (first_fit xs x more (suc k)) (fit-is xs x more (suc k))

fits-by : (more : ℕ) (xs : List (List ℕ)) (x : List ℕ) (k : ℕ) (b : Bool) → is_one_of xs (candidate x k) ≡ b → length xs ≤ suc more → k + suc more < 2 ^ 64
    → ((ys : List (List ℕ)) → length ys ≤ more → is_one_of ys (first_fit ys x more (suc k)) ≡ false)
    → is_one_of xs (cond b (first_fit xs x more (suc k)) (candidate x k)) ≡ false
fits-by more xs x k false e h small later = e
fits-by more xs x k true e h small later =
    let c : List ℕ = candidate x k in
    let shorter : length (remove_key (λ y. bytes_eq y c) xs) + 1 ≡ length xs = length-remove_key (λ y. bytes_eq y c) xs e in
    let rest = later (remove_key (λ y. bytes_eq y c) xs) (omega arith) in
    let other : (j : ℕ) → suc k ≤ j → j ≤ suc k + more → bytes_eq c (candidate x j) ≡ false = λ j p q. bytes-apart c (candidate x j) (candidates-apart x k j (omega arith) (omega arith)) in
    let f = fit-is xs x more (suc k) in
    let z : List ℕ = first_fit xs x more (suc k) in
    sym (without-same c z xs (ap (bytes_eq c) f.is ∙ other f.number f.least f.most))
    ∙ ap (is_one_of (remove_key (λ y. bytes_eq y c) xs)) (sym (fit-same c x xs more (suc k) other)) ∙ rest

fits-from : (more : ℕ) (xs : List (List ℕ)) (x : List ℕ) (k : ℕ) → length xs ≤ more → k + more < 2 ^ 64 → is_one_of xs (first_fit xs x more k) ≡ false
fits-from zero [] x k h small = refl
fits-from zero (y ∷ ys) x k h small = absurd (let z : suc (length ys) ≤ 0 = h in omega arith)
fits-from (suc more) xs x k h small = fits-by more xs x k (is_one_of xs (candidate x k)) refl h small (λ ys l. fits-from more ys x (suc k) l (omega arith))

pub fit_name-fits : (xs : List (List ℕ)) (x : List ℕ) → length xs < 2 ^ 64 → is_one_of xs (fit_name xs x) ≡ false
unfolding fit_name
fit_name-fits xs x h = fits-from (length xs) xs x 0 (omega arith) (omega arith)
