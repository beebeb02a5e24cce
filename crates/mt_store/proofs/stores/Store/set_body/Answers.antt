use Rattle.std.proofs.Common.{ap, ◌∙◌, ◌<◌, List, length, sym, subst}
use Rattle.mt_store.specs.declared.metavariables.HeldMeta.{HeldMeta}
use Rattle.mt_store.specs.Held.{assigned}
use Rattle.mt_store.proofs.HeldLaws.{set_assigned}
use Rattle.mt_store.proofs.stores.Store.set_body.Goals as goal

pub returns : goal.returns
returns c =
    let within : c.args.n < length c.self.inside.metas.items = subst (λ (ms : List HeldMeta). c.args.n < length ms) (sym c.self.view_is) c.requires in
    set_assigned c.self.inside.metas.items c.args.n c.args.body c.index_mut.result.now within c.index_mut.ensures.value
    ∙ ap (λ (ms : List HeldMeta). assigned ms c.args.n c.args.body) c.self.view_is
