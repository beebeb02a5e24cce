-- A yes of the kernel has derivations.
use Rattle.std.proofs.Common.{◌≡◌, ℕ}
use Rattle.mt_term.specs.Trees.{Tree}
use Rattle.mt_term.specs.declared.universes.Sort.{Sort as AnySort}
use Rattle.mt_term.specs.Declarations.{Environment}
use Rattle.mt_rules.specs.Charges.{Done}
use Rattle.mt_rules.specs.KernelCheck.{check, check_type}
use Rattle.mt_rules_laws.proofs.ReductionTheorems.{check_law, type_check_law}
use Rattle.mt_kernel.specs.Derived.{IsTypeDerived, IsTermDerived}
use Rattle.mt_kernel.proofs.Free.{no_metas_in_checked, no_metas_in_type}

pub term_derived : (E : Environment) (t T : Tree) (a left : ℕ) (x : Unit {0}) → check E t T a ≡ Done x left → IsTermDerived E t T
term_derived E t T a left x c = λ sound. check_law E sound t T x a left (λ m. (no_metas_in_checked E t T x a left c m).1) (λ m. (no_metas_in_checked E t T x a left c m).0) c

pub type_derived : (E : Environment) (T : Tree) (a left : ℕ) (s : AnySort) → check_type E T a ≡ Done s left → IsTypeDerived E T
type_derived E T a left s c = λ sound. (s, type_check_law E sound T s a left (no_metas_in_type E T s a left c) c)
