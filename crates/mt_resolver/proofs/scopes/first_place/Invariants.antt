use Rattle.std.proofs.Common.{◌≡◌, drop}
use Rattle.mt_resolver.specs.Resolution.{first_place}
use Rattle.mt_resolver.specs.ScopeOf.{places_on}
use Rattle.mt_resolver.proofs.scopes.first_place.Given as goal

abbrev pub invariant-loop-i : goal.invariant-loop-i
invariant-loop-i l = first_place l.names l.name ≡ places_on l.i (first_place (drop l.i l.names) l.name)
