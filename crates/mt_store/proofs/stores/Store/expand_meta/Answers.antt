use Rattle.std.proofs.Common.{sym}
use Rattle.mt_store.proofs.AddLaws.{adds_absent}
use Rattle.mt_store.proofs.stores.Store.expand_meta.Goals as goal

pub returns-in-None : goal.returns-in-None
returns-in-None c = adds_absent c.args.found.now c.args.self.now c.args.n (sym c.in-None.ensures)
