-- Longest paths: no longer than there are names, the same at the same numbers, and with the newest constraint last.
use Rattle.std.proofs.Common.{◌≡◌, ℕ, zero, suc, ◌+◌, ◌<◌, ◌≤◌, cond, ltb, List, [], ◌∷◌, ◌++◌, length, get_or, refl, sym, ◌∙◌, ap, subst, inl, inr, arith, length-append}
use Rattle.std.specs.List.{All}
use Rattle.std.proofs.lemmas.List.{get_or_append_left, get_or_push}
use Rattle.std.proofs.lemmas.List.Elements.{All-cons, All-head, All-tail, All-push}
use Rattle.std.proofs.lemmas.Bool.{cases_lt, cases_eq}
use Rattle.std.proofs.lemmas.Bool.Decides.{nat_tests}
use Rattle.mt_term.specs.Universes.{Constraints, MeetsAll, Satisfiable}
use Rattle.mt_term.specs.UniverseOrder.{AreLongest}
use mathlib.Core.Path.{fun_ext}

-- the names below n that lead to z
leading : (ℕ → ℕ → ℕ) → ℕ → ℕ → ℕ
leading D zero z = 0
leading D (suc n) z = cond (ltb 0 (D n z)) 1 0 + leading D n z

leading_at_most : (D : ℕ → ℕ → ℕ) (n z : ℕ) → leading D n z ≤ n
unfolding leading
leading_at_most D zero z = omega arith
leading_at_most D (suc n) z = grind (arith, nat_tests, leading_at_most D n z)

leading_grows : (D : ℕ → ℕ → ℕ) (p q : ℕ) → ((a : ℕ) → 0 < D a p → 0 < D a q) → (n : ℕ) → leading D n p ≤ leading D n q
unfolding leading
leading_grows D p q on zero = omega arith
leading_grows D p q on (suc n) = let s : 0 < D n p → 0 < D n q = on n in grind (arith, nat_tests, leading_grows D p q on n, s)

leading_grows_more : (D : ℕ → ℕ → ℕ) (p q : ℕ) → ((a : ℕ) → 0 < D a p → 0 < D a q) → D q p ≡ 0 → 0 < D q q → (n : ℕ) → q < n → leading D n p < leading D n q
unfolding leading
leading_grows_more D p q on back own zero lt = absurd (omega arith)
leading_grows_more D p q on back own (suc n) lt =
    let s : 0 < D n p → 0 < D n q = on n in
    elim (cases_eq q n) [
      | inl e ↦ (let back' : D n p ≡ 0 = ap (λ x. D x p) (sym e) ∙ back in
          let own' : 0 < D n q = subst (λ x. 0 < D x q) e own in
          grind (arith, nat_tests, leading_grows D p q on n, back', own'))
      | inr ne ↦ grind (arith, nat_tests, s, leading_grows_more D p q on back own n (omega arith))
    ]

-- The constraints are on names below n.
module _ (n : ℕ) (cs : Constraints) (D : ℕ → ℕ → ℕ) (h : ℕ → ℕ) (l : AreLongest cs D h) (within : All (λ c. (c.0 < n) × (c.1 < n)) cs) where
  leading_meets : MeetsAll cs (leading D n)
  leading_meets k d lt =
      let p = (get_or cs k d).0 in
      let q = (get_or cs k d).1 in
      let up : h p < h q = l.meet k d lt in
      let b : 0 < D q p → h q + D q p ≤ h p + 1 = l.bound h l.meet q p in
      let back : D q p ≡ 0 = elim (cases_lt 0 (D q p)) [ inl x ↦ absurd (omega (arith, b x)) | inr x ↦ omega arith ] in
      leading_grows_more D p q (λ a x. let g : D a p < D a q = l.grow a k d lt x in omega arith) back (l.itself q) n (within k d lt).1

  pub short_paths : (a b : ℕ) → D a b ≤ n + 1
  short_paths a b =
      let at : 0 < D a b → leading D n a + D a b ≤ leading D n b + 1 = l.bound (leading D n) leading_meets a b in
      let most = leading_at_most D n b in
      elim (cases_lt 0 (D a b)) [ inl x ↦ omega (arith, at x) | inr x ↦ omega arith ]

  pub small_heights : (b : ℕ) → h b ≤ n
  small_heights b =
      let at = l.least (leading D n) leading_meets b in
      let most = leading_at_most D n b in
      omega arith

pub AreLongest-same : (cs : Constraints) (D D' : ℕ → ℕ → ℕ) (h h' : ℕ → ℕ) → AreLongest cs D h → ((a b : ℕ) → D' a b ≡ D a b) → ((b : ℕ) → h' b ≡ h b) → AreLongest cs D' h'
AreLongest-same cs D D' h h' l e f =
    let e' : D ≡ D' = fun_ext (λ a. fun_ext (λ b. sym (e a b))) in
    let f' : h ≡ h' = fun_ext (λ b. sym (f b)) in
    subst (λ x. AreLongest cs D' x) f' (subst (λ x. AreLongest cs x h) e' l)

pub All-front : {X : Type 0} (P : X → Type 0) (xs ys : List X) → All P (xs ++ ys) → All P xs
All-front P xs ys all k d lt = subst P (get_or_append_left xs ys d k lt) (all k d (omega (arith, length-append xs ys)))

pub All-last : {X : Type 0} (P : X → Type 0) (xs : List X) (x : X) → All P (xs ++ x ∷ []) → P x
All-last P xs x all = subst P (get_or_push xs x x (length xs) refl) (all (length xs) x (omega (arith, length-append xs (x ∷ []))))

pub All-to_front : {X : Type 0} (P : X → Type 0) (xs : List X) (x : X) → All P (xs ++ x ∷ []) → All P (x ∷ xs)
All-to_front P xs x all = All-cons P x xs (All-last P xs x all) (All-front P xs (x ∷ []) all)

pub All-to_back : {X : Type 0} (P : X → Type 0) (xs : List X) (x : X) → All P (x ∷ xs) → All P (xs ++ x ∷ [])
All-to_back P xs x all = All-push P xs x (All-tail P x xs all) (All-head P x xs all)

pub Satisfiable-to_front : (cs : Constraints) (c : ℕ × ℕ) → Satisfiable (cs ++ c ∷ []) → Satisfiable (c ∷ cs)
Satisfiable-to_front cs c s = (s.0, All-to_front (λ (p : ℕ × ℕ). s.0 p.0 < s.0 p.1) cs c s.1)

pub AreLongest-to_back : (cs : Constraints) (c : ℕ × ℕ) (D : ℕ → ℕ → ℕ) (h : ℕ → ℕ) → AreLongest (c ∷ cs) D h → AreLongest (cs ++ c ∷ []) D h
AreLongest-to_back cs c D h l = record {
  bound = λ v m a b. l.bound v (All-to_front (λ (p : ℕ × ℕ). v p.0 < v p.1) cs c m) a b;
  itself = l.itself;
  grow = λ a. All-to_back (λ (p : ℕ × ℕ). 0 < D a p.0 → D a p.0 < D a p.1) cs c (l.grow a);
  least = λ v m b. l.least v (All-to_front (λ (p : ℕ × ℕ). v p.0 < v p.1) cs c m) b;
  meet = All-to_back (λ (p : ℕ × ℕ). h p.0 < h p.1) cs c l.meet;
}
