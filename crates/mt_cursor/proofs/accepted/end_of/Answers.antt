use Rattle.std.proofs.Common.{◌≡◌, ◌-◌, length, slice_get, Some, sym, arith}
use Rattle.std.proofs.lemmas.Option.{slice_get_within}
use Rattle.mt_cursor.proofs.Running.{last_end}
use Rattle.mt_cursor.proofs.accepted.end_of.Goals as goal

pub returns-in-Some : goal.returns-in-Some
returns-in-Some g c =
    let get : slice_get c.args.accepted.now (length c.args.accepted.now - 1) ≡ Some c.in-Some.last.now = sym c.in-Some.ensures.value in
    sym (last_end c.args.accepted.now (length c.args.accepted.now - 1) 0 c.in-Some.last.now get
    (omega (arith, slice_get_within c.args.accepted.now (length c.args.accepted.now - 1) c.in-Some.last.now get)))
