use Rattle.std.proofs.Common.{[], ◌∷◌, take, sym, subst}
use Rattle.mt_store.specs.Search.{types_held, Adds}
use Rattle.mt_store.proofs.AddLaws.{adds_then, types_more}
use Rattle.mt_store.proofs.found.Found.insert_types.Goals as goal

pub loop-hyp-preserved : goal.loop-hyp-preserved
loop-hyp-preserved c =
    let i = c.loop-hyp.hyp-index in
    let a = adds_then c.args.self.now c.loop-hyp.self c.insert.new.self (types_held (take i c.args.context.now)) (c.hyp-item.result.ty ∷ []) c.loop-hyp.invariant c.in_ok-insert.ensures in
    subst (Adds c.args.self.now c.insert.new.self) (sym (types_more c.args.context.now i c.hyp-item.result c.loop-hyp-test.true c.hyp-item.is)) a
