-- What the kernel says, by names that stay as they are in a goal.
use Rattle.std.specs.Prelude.{ℕ}
use Rattle.mt_term.specs.Trees.{Tree}
use Rattle.mt_term.specs.Declarations.{Environment}
use Rattle.mt_rules.specs.KernelCheck.{check_type, check}
use Rattle.mt_term.specs.declared.universes.Sort.{Sort as AnySort}
use Rattle.mt_decl.specs.Answers.{Answering, by_kernel}

-- a closed type, and a closed term of a closed type, where a No is refused at a place
unfoldable pub type_judged : Environment → ℕ → Tree → Answering AnySort
type_judged E at T = by_kernel at (check_type E T)

unfoldable pub term_judged : Environment → ℕ → Tree → Tree → Answering (Unit {0})
term_judged E at t T = by_kernel at (check E t T)
