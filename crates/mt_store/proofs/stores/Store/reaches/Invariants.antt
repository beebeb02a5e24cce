use Rattle.std.proofs.Common.{◌-◌, ◌^◌}
use Rattle.mt_store.proofs.SearchLaws.{IsSearch}
use Rattle.mt_store.proofs.stores.Store.reaches.Given as goal

abbrev pub invariant-search : goal.invariant-search
invariant-search l = IsSearch l.self l.pool l.fn.t l.n l.at l.found

abbrev pub decreases-search : goal.decreases-search
decreases-search l = 2 ^ 64 - l.at
