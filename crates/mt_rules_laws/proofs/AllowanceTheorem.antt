-- The law on allowances, proved.
use Rattle.std.proofs.Common.{◌≡◌, refl, ◌+◌, ℕ, arith}
use Rattle.mt_rules.specs.Charges.{Outcome, Done, Refused, Spent, Charged}
use Rattle.mt_rules_laws.specs.AllowanceLaws.{with_more, GoesByAllowance, AllowanceLaw}
use Rattle.mt_rules_laws.proofs.Charged.{Tied, Agree, agree-rest}
use Rattle.mt_rules_laws.proofs.WeakHeadLaws.{whd-agree, step-agree, normal-agree}
use Rattle.mt_rules_laws.proofs.ComparisonLaws.{convert-agree}
use Rattle.mt_rules_laws.proofs.InferenceLaws.{infer-agree, elimination-agree, check_type-agree, check-agree}

with_more_tied : {A : Type 0} (n i : ℕ) (o o' : Outcome A) → (o ≡ Spent → ⊥) → Tied n i o o' → o' ≡ with_more i o
with_more_tied n i (Done a left) o' s t = t.1
with_more_tied n i (Refused r left) o' s t = t.1
with_more_tied n i Spent o' s t = absurd (s refl)

pub by_allowance : {A : Type 0} (m : Charged A) → ((k i : ℕ) → Agree k i m m) → GoesByAllowance m
by_allowance m h = (λ n i s. with_more_tied n i (m n) (m (n + i)) s ((h n i).at n (omega arith)), λ n. agree-rest m n (h n 0))

pub allowance_law : AllowanceLaw
allowance_law E S = (
  (λ t. by_allowance _ (λ k i. whd-agree E S k i t)),
  (λ t. by_allowance _ (λ k i. step-agree E S k i t)),
  (λ t. by_allowance _ (λ k i. normal-agree E S k i t)),
  (λ mode t u. by_allowance _ (λ k i. convert-agree E S k i mode t u)),
  (λ Γ t. by_allowance _ (λ k i. infer-agree E S k i Γ t)),
  (λ Γ f r. by_allowance _ (λ k i. elimination-agree E S k i Γ f r)),
  (λ ty. by_allowance _ (λ k i. check_type-agree E k i ty)),
  (λ term ty. by_allowance _ (λ k i. check-agree E k i term ty)),
)
