use Rattle.std.proofs.Common.{◌≡◌, ◌+◌, drop}
use Rattle.mt_cursor.specs.Cursors.{spans}
use Rattle.mt_cursor.specs.Sessions.{first_passing, is_seen_by}
use Rattle.mt_cursor.proofs.accepted.seen_by.Given as goal

abbrev pub invariant-loop-count : goal.invariant-loop-count
invariant-loop-count g l = first_passing (is_seen_by l.fn.start) (spans l.accepted) ≡ l.count + first_passing (is_seen_by l.fn.start) (spans (drop l.count l.accepted))
