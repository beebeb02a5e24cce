use Rattle.std.proofs.Common.{◌≡◌, [], take}
use Rattle.mt_resolver.specs.Resolution.{first_place, with_binders}
use Rattle.mt_resolver.proofs.scopes.last_place.Given as goal

abbrev pub invariant-loop-i : goal.invariant-loop-i
invariant-loop-i l = l.found ≡ first_place (with_binders (take l.i l.names) []) l.name
