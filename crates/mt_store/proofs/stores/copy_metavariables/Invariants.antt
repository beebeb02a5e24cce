use Rattle.std.proofs.Common.{◌≡◌, take}
use Rattle.mt_store.proofs.stores.copy_metavariables.Given as goal

abbrev pub invariant-loop-meta : goal.invariant-loop-meta
invariant-loop-meta l = l.copied.items ≡ take l.meta-index l.metas
