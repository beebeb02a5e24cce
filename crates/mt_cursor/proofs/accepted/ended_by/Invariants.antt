use Rattle.std.proofs.Common.{◌≡◌, ◌+◌, drop}
use Rattle.mt_cursor.specs.Cursors.{spans}
use Rattle.mt_cursor.specs.Sessions.{first_passing, ends_by}
use Rattle.mt_cursor.proofs.accepted.ended_by.Given as goal

abbrev pub invariant-loop-count : goal.invariant-loop-count
invariant-loop-count g l = first_passing (ends_by l.fn.pos) (spans l.accepted) ≡ l.count + first_passing (ends_by l.fn.pos) (spans (drop l.count l.accepted))
