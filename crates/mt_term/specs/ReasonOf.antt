-- What a refusal of the program says.
use Rattle.std.specs.Prelude.{reverse}
use Rattle.mt_term.specs.TreeOf.{tree_of}
use Rattle.mt_term.specs.Reasons.{Reason, Lex, Syntax, Incomplete, TooDeep, Unbound, Taken}
use Rattle.mt_term.specs.Reasons.{Mismatch, NotAFunction, NotASort, NoExpected, Cycle, NotPositive}
use Rattle.mt_term.specs.Reasons.{NotGuarded, BadElimination, BadHint, BadCoercion, OpenMetas}
use Rattle.mt_term.specs.Reasons.{NoGoal, NoBranch, NoSuchPosition, NotHere, KernelRefused, Spent}
use Rattle.mt_term.specs.declared.refusals.Refusal.{Refusal}
use Rattle.mt_term.specs.declared.refusals.Refusal.TheVariants as refusal

abbrev pub reason_of : Refusal → Reason
reason_of refusal.Lex = Lex
reason_of refusal.Syntax = Syntax
reason_of refusal.Incomplete = Incomplete
reason_of refusal.TooDeep = TooDeep
reason_of (refusal.Unbound x) = Unbound x
reason_of (refusal.Taken x) = Taken x
reason_of (refusal.Mismatch context inferred expected known) =
    Mismatch (reverse context) (tree_of inferred) (tree_of expected) known
reason_of refusal.NotAFunction = NotAFunction
reason_of refusal.NotASort = NotASort
reason_of refusal.NoExpected = NoExpected
reason_of refusal.Cycle = Cycle
reason_of refusal.NotPositive = NotPositive
reason_of refusal.NotGuarded = NotGuarded
reason_of refusal.BadElimination = BadElimination
reason_of refusal.BadHint = BadHint
reason_of refusal.BadCoercion = BadCoercion
reason_of refusal.OpenMetas = OpenMetas
reason_of refusal.NoGoal = NoGoal
reason_of refusal.NoBranch = NoBranch
reason_of refusal.NoSuchPosition = NoSuchPosition
reason_of refusal.NotHere = NotHere
reason_of (refusal.KernelRefused n) = KernelRefused n
reason_of refusal.Spent = Spent
