use Rattle.std.proofs.Common.{◌≡◌, drop}
use Rattle.mt_tiny.specs.Goals.{picked}
use Rattle.mt_tiny.proofs.Places.{prefixed}
use Rattle.mt_tiny.proofs.lists.picked.Given as goal

abbrev pub invariant-loop-position : goal.invariant-loop-position
invariant-loop-position l = prefixed l.goals (picked (drop l.position-index l.positions) l.others) ≡ picked l.positions l.initial.others
