use Rattle.std.proofs.Common.{◌≡◌, ◌-◌, IsTrue, ◌↔◌, Bool, slice_get, ap, ◌∙◌, arith}
use Rattle.mt_pool.specs.Region.{tree_at}
use Rattle.mt_pool.specs.HeldOf.{constructors_in}
use Rattle.mt_positivity.specs.Deciding.{is_positive}
use Rattle.mt_positivity.specs.Entries.{IsPositiveLast}
use Rattle.mt_positivity.proofs.Entries.{constructor_held, last-iff, some_last, ok-map}
use Rattle.mt_positivity.proofs.constructors.is_last_positive.Goals as goal

pub is_positive-requires-clause-constructor : goal.is_positive-requires-clause-constructor
is_positive-requires-clause-constructor c = constructor_held _ c.args.cons.now (c.len.result - 1) c.in-Some.last.now c.requires.cons (c.in-Some.ensures {u = tt})

pub returns-in-Some : goal.returns-in-Some
returns-in-Some c =
    let e = c.in-Some.ensures {u = tt} ∙ ap (λ k. slice_get c.args.cons.now (k - 1)) c.len.ensures in
    ok-map (λ (b : Bool). b ≡ is_positive c.args.number c.args.params (tree_at c.args.pool.now c.args.ty) (tree_at c.args.pool.now c.in-Some.last.now.ty))
    (λ (b : Bool). IsTrue b ↔ IsPositiveLast c.args.number c.args.params (tree_at c.args.pool.now c.args.ty) (constructors_in c.args.pool.now c.args.cons.now))
    (λ b h. last-iff c.args.pool.now b c.args.number c.args.params (tree_at c.args.pool.now c.args.ty) c.args.cons.now c.in-Some.last.now e h)
    c.is_positive.result c.is_positive.ensures

pub returns-in-None : goal.returns-in-None
returns-in-None c = absurd (some_last c.args.cons.now (c.len.result - 1) (omega (arith, c.requires.some)) (c.in-None.ensures {u = tt}))
