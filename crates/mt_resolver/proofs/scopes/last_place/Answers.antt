use Rattle.std.proofs.Common.{sym}
use Rattle.mt_resolver.proofs.Places.{place-binder}
use Rattle.mt_resolver.proofs.scopes.last_place.Goals as goal

pub loop-i-preserved : goal.loop-i-preserved
loop-i-preserved c =
    place-binder c.args.names.now c.loop-i.i c.in-Some.other.now c.args.name.now c.loop-i.found c.in_ok-found.found (sym c.in-Some.ensures) c.loop-i.invariant c.in_ok-found.ensures
