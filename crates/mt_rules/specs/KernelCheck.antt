-- What the kernel checks of closed terms, with its charges.
use Rattle.std.specs.Prelude.{[]}
use Rattle.mt_term.specs.Trees.{Tree}
use Rattle.mt_term.specs.Declarations.{Environment}
use Rattle.mt_rules.specs.Charges.{Charged, ◌>>=◌}
use Rattle.mt_term.specs.Stores.{no_store}
use Rattle.mt_rules.specs.Inference.{sorted, agrees, infer}
use Rattle.mt_term.specs.declared.modes.Mode.TheVariants.{AtMost}
use Rattle.mt_term.specs.declared.universes.Sort.{Sort as AnySort}

-- the sort of a closed type
unfoldable pub check_type : Environment → Tree → Charged AnySort
check_type E ty = sorted E no_store (infer E no_store [] ty)

-- a closed type has a sort, and the term's type is at most it
unfoldable pub check : Environment → Tree → Tree → Charged (Unit {0})
check E term ty = do
  s ← check_type E ty
  t ← infer E no_store [] term
  agrees E no_store [] AtMost t ty
