use Rattle.std.proofs.Common.{◌≡◌, drop}
use Rattle.mt_tiny.specs.Goals.{stands_in}
use Rattle.mt_tiny.proofs.lists.stands_in.Given as goal

abbrev pub invariant-loop-other : goal.invariant-loop-other
invariant-loop-other l = stands_in l.number (drop l.other-index l.numbers) ≡ stands_in l.number l.numbers
