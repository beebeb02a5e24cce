use Rattle.mt_pool.specs.Region.{tree_at}
use Rattle.mt_store.specs.Held.{store_in}
use Rattle.mt_store.proofs.ChangeLaws.{extends_assigned, proper_assigned}
use Rattle.mt_store.proofs.HeldLaws.{open_there, puts_assigned}
use Rattle.mt_store.proofs.stores.Store.assign.Goals as goal

pub set_body-requires : goal.set_body-requires
set_body-requires c = open_there c.args.pool.now c.args.self.now c.args.n c.requires.open

pub returns-clause-puts : goal.returns-clause-puts
returns-clause-puts c = puts_assigned c.args.pool.now c.args.self.now c.args.n c.args.body c.set_body.new.self c.requires.open c.set_body.ensures

pub returns-clause-extends : goal.returns-clause-extends
returns-clause-extends c =
    let h = c.requires.open in
    extends_assigned (store_in c.args.pool.now c.args.self.now) (store_in c.args.pool.now c.set_body.new.self) c.args.n h.declared (tree_at c.args.pool.now c.args.body)
    h.there h.no_body (returns-clause-puts c h.declared h.there)

pub returns-clause-proper : goal.returns-clause-proper
returns-clause-proper c =
    let h = c.requires.open in
    proper_assigned (store_in c.args.pool.now c.args.self.now) (store_in c.args.pool.now c.set_body.new.self) c.args.n h.declared (tree_at c.args.pool.now c.args.body)
    h.there h.no_body (returns-clause-puts c h.declared h.there)
