-- A normal form is reached by contractions.
use Rattle.std.proofs.Common.{◌≡◌, ℕ}
use Rattle.mt_term.specs.Trees.{Tree}
use Rattle.mt_term.specs.Declarations.{Environment}
use Rattle.mt_rules.specs.Charges.{Done}
use Rattle.mt_term.specs.Stores.{Store}
use Rattle.mt_rules.specs.WeakHead.{normal}
use Rattle.mt_rules_laws.specs.ReductionLaws.{ReachedFrom}
use Rattle.mt_rules_laws.proofs.ReductionTheorems.{normal_form_law}

pub normal_by : (E : Environment) (S : Store) (t u : Tree) (n l : ℕ) → normal E S t n ≡ Done u l → ReachedFrom E S t u
normal_by E S t u n l e = normal_form_law E S t u n l e
