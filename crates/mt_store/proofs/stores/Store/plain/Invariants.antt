use Rattle.std.proofs.Common.{◌≡◌, take}
use Rattle.mt_store.specs.Held.{metavariables_in}
use Rattle.mt_store.proofs.stores.Store.plain.Given as goal

abbrev pub invariant-loop-held : goal.invariant-loop-held
invariant-loop-held l = l.metas ≡ metavariables_in l.pool (take l.held-index l.self)
