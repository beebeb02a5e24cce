-- What the kernel says, as a program hands it on.
use Rattle.std.specs.Prelude.{ℕ, ◌≡◌, ◌≤◌}
use Rattle.std.proofs.Common.{ap, arith}
use Rattle.mt_term.specs.Trees.{Tree}
use Rattle.mt_term.specs.Declarations.{Environment}
use Rattle.mt_term.specs.Reasons.{Reason, KernelRefused, number_of}
use Rattle.mt_rules.specs.Charges as charges
use Rattle.mt_rules.specs.Charges.{Outcome}
use Rattle.mt_rules.specs.KernelCheck.{check_type, check}
use Rattle.mt_term.specs.declared.universes.Sort.{Sort as AnySort}
use Rattle.mt_decl.specs.Answers.{Made, Refused, Spent, from_kernel}
use Rattle.mt_decl.specs.EntryLaws.{rest}
use Rattle.mt_decl.specs.Judging.{type_judged, term_judged}
use Rattle.mt_decl.proofs.Allowance.{kernel_goes, type_goes, check_goes}
use Rattle.mt_decl.proofs.Sequences.{kernel_rest}

module _ (E : Environment) (at : ℕ) where
  pub type-done : (T : Tree) (s : AnySort) (n l : ℕ) → check_type E T n ≡ charges.Done s l → type_judged E at T n ≡ Made s l
  unfolding type_judged
  type-done T s n l e = ap (λ (o : Outcome AnySort). from_kernel at o) e

  pub type-refused : (T : Tree) (r : Reason) (n l : ℕ) → check_type E T n ≡ charges.Refused r l → type_judged E at T n ≡ Refused (KernelRefused (number_of r)) at l
  unfolding type_judged
  type-refused T r n l e = ap (λ (o : Outcome AnySort). from_kernel at o) e

  pub type-spent : (T : Tree) (n : ℕ) → check_type E T n ≡ charges.Spent → type_judged E at T n ≡ Spent
  unfolding type_judged
  type-spent T n e = ap (λ (o : Outcome AnySort). from_kernel at o) e

  pub type-within : (T : Tree) (n : ℕ) → rest (type_judged E at T n) ≤ charges.rest (check_type E T n)
  unfolding type_judged
  type-within T n = omega (arith, kernel_rest at (check_type E T n))

  pub type-rest : (T : Tree) (n : ℕ) → rest (type_judged E at T n) ≤ n
  unfolding type_judged
  type-rest T n = (kernel_goes at (check_type E T) (type_goes E T)).1 n

  pub term-done : (t T : Tree) (z : Unit {0}) (n l : ℕ) → check E t T n ≡ charges.Done z l → term_judged E at t T n ≡ Made z l
  unfolding term_judged
  term-done t T z n l e = ap (λ (o : Outcome (Unit {0})). from_kernel at o) e

  pub term-refused : (t T : Tree) (r : Reason) (n l : ℕ) → check E t T n ≡ charges.Refused r l → term_judged E at t T n ≡ Refused (KernelRefused (number_of r)) at l
  unfolding term_judged
  term-refused t T r n l e = ap (λ (o : Outcome (Unit {0})). from_kernel at o) e

  pub term-spent : (t T : Tree) (n : ℕ) → check E t T n ≡ charges.Spent → term_judged E at t T n ≡ Spent
  unfolding term_judged
  term-spent t T n e = ap (λ (o : Outcome (Unit {0})). from_kernel at o) e

  pub term-within : (t T : Tree) (n : ℕ) → rest (term_judged E at t T n) ≤ charges.rest (check E t T n)
  unfolding term_judged
  term-within t T n = omega (arith, kernel_rest at (check E t T n))

  pub term-rest : (t T : Tree) (n : ℕ) → rest (term_judged E at t T n) ≤ n
  unfolding term_judged
  term-rest t T n = (kernel_goes at (check E t T) (check_goes E t T)).1 n

pub ruleset judging_rules = (type-done, type-refused, type-spent, type-within, term-done, term-refused, term-spent, term-within)
