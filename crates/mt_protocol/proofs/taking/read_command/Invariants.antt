use Rattle.std.proofs.Common.{◌-◌, length}
use Rattle.mt_protocol.proofs.Gathering.{Gathers}
use Rattle.mt_protocol.proofs.taking.read_command.Given as goal

abbrev pub invariant-pieces : goal.invariant-pieces
invariant-pieces g l = Gathers l.fn.ahead l.ahead (g.I.Source.left l.fn.input) (g.I.Source.left l.input) (g.I.Source.faults l.fn.input) (g.I.Source.faults l.input)

abbrev pub decreases-pieces : goal.decreases-pieces
decreases-pieces g l = 16777217 - length l.ahead.bytes
