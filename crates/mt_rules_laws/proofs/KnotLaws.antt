-- The laws of definitions that go on with themselves only after a charge.
use Rattle.std.specs.Prelude.{ℕ, zero, suc, ◌≡◌, ◌+◌, ◌≤◌, refl}
use Rattle.std.proofs.Common.{add-zero, sym, ◌∙◌, ap, arith}
use Rattle.mt_rules.specs.Charges.{Outcome, Done, Refused, Spent, Charged}
use Rattle.mt_rules.specs.Knot.{within, fixed}
use Rattle.mt_rules_laws.proofs.Charged.{Tied, Agree, AgreeAfter}

tied-back : {A : Type 0} (n : ℕ) (o o' : Outcome A) → Tied n 0 o o' → Tied n 0 o' o
tied-back n (Done a left) o' t = rw (t.1, add-zero) (t.0, ap (Done a) (sym (add-zero left)))
tied-back n (Refused r left) o' t = rw (t.1, add-zero) (t.0, ap (Refused r) (sym (add-zero left)))
tied-back n Spent o' t = rw (t refl) (λ e. refl)

tied-same : {A : Type 0} (n : ℕ) (o o' : Outcome A) → Tied n 0 o o' → o ≡ o'
tied-same n (Done a left) o' t = sym (t.1 ∙ ap (Done a) (add-zero left))
tied-same n (Refused r left) o' t = sym (t.1 ∙ ap (Refused r) (add-zero left))
tied-same n Spent o' t = sym (t refl)

-- the body goes on only after a charge, and looks at the allowance by charges alone
pub record IsCharged (Q : Type 0) (R : Q → Type 0) (body : ((q : Q) → Charged (R q)) → (q : Q) → Charged (R q)) : Type 0 where
  pub agrees : (k i : ℕ) (again again' : (q : Q) → Charged (R q)) → ((q : Q) → AgreeAfter k i (again q) (again' q))
      → (q : Q) → Agree k i (body again q) (body again' q)

module _ (Q : Type 0) (R : Q → Type 0) (body : ((q : Q) → Charged (R q)) → (q : Q) → Charged (R q)) (ok : IsCharged Q R body) where
  within-agree : (k j i : ℕ) → k ≤ j → (q : Q) → Agree k i (within Q R body k q) (within Q R body j q)
  within-agree zero zero i h q = ok.agrees 0 i _ _ (λ q'. tt) q
  within-agree zero (suc j) i h q = ok.agrees 0 i _ _ (λ q'. tt) q
  within-agree (suc k) zero i h q = absurd (omega arith)
  within-agree (suc k) (suc j) i h q =
      ok.agrees (suc k) i _ _ (λ q'. within-agree k j i (omega arith) q') q

  -- what is not spent at an allowance is the same at a greater one, with as much more left
  pub fixed-agree : (k i : ℕ) (q : Q) → Agree k i (fixed Q R body q) (fixed Q R body q)
  unfolding fixed
  fixed-agree k i q = record { at = λ n h. (within-agree n (n + i) i (omega arith) q).at n (omega arith) }

  within-fixed : (m : ℕ) (q : Q) → Agree m 0 (within Q R body m q) (fixed Q R body q)
  unfolding fixed
  within-fixed m q = record {
    at = λ n h.
        rw (add-zero n) (tied-back n _ _ (rw add-zero at ((within-agree n m 0 h q).at n (omega arith))));
  }

  fixed-at : (n : ℕ) (q : Q) → Tied n 0 (within Q R body n q n) (body (fixed Q R body) q (n + 0))
  fixed-at zero q = (ok.agrees 0 0 (λ q' n. Spent) (fixed Q R body) (λ q'. tt) q).at 0 (omega arith)
  fixed-at (suc m) q =
      (ok.agrees (suc m) 0 (λ q'. within Q R body m q') (fixed Q R body) (λ q'. within-fixed m q') q).at (suc m) (omega arith)

  -- the definition unfolds
  pub fixed-is : (q : Q) (n : ℕ) → fixed Q R body q n ≡ body (fixed Q R body) q n
  unfolding fixed
  fixed-is q n = tied-same n _ _ (fixed-at n q) ∙ ap (body (fixed Q R body) q) (add-zero n)
