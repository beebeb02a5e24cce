use Rattle.std.proofs.Common.{◌∙◌, ◌++◌, ◌∷◌, [], List, ap}
use Rattle.mt_pool.specs.declared.contexts.HeldHyp.{HeldHyp}
use Rattle.mt_store.specs.Held.{new_meta, new_in, store_in}
use Rattle.mt_store.proofs.ChangeLaws.{extends_new, proper_new}
use Rattle.mt_store.proofs.HeldLaws.{fresh_new, puts_new}
use Rattle.mt_store.proofs.stores.Store.declare.Goals as goal

pub returns-clause-puts : goal.returns-clause-puts
returns-clause-puts c =
    puts_new c.args.pool.now c.args.self.now c.count-n.result c.args.context.now c.args.ty c.push.new.self c.count-n.ensures
    (c.in_ok-push.ensures.ok ∙ ap (λ (Γ : List HeldHyp). c.args.self.now ++ new_meta Γ c.args.ty ∷ []) c.in_ok-context.ensures)

pub returns-clause-extends : goal.returns-clause-extends
returns-clause-extends c =
    extends_new (store_in c.args.pool.now c.args.self.now) (store_in c.args.pool.now c.push.new.self) c.count-n.result (new_in c.args.pool.now c.args.context.now c.args.ty)
    (fresh_new c.args.pool.now c.args.self.now c.count-n.result c.count-n.ensures) (returns-clause-puts c)

pub returns-clause-proper : goal.returns-clause-proper
returns-clause-proper c =
    proper_new (store_in c.args.pool.now c.args.self.now) (store_in c.args.pool.now c.push.new.self) c.count-n.result (new_in c.args.pool.now c.args.context.now c.args.ty)
    (fresh_new c.args.pool.now c.args.self.now c.count-n.result c.count-n.ensures) (returns-clause-puts c)
