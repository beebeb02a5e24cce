use Rattle.std.proofs.Common.{◌≡◌, Bool}
use Rattle.mt_pool.specs.Region.{tree_at}
use Rattle.mt_positivity.specs.Deciding.{is_positive}
use Rattle.mt_positivity.proofs.Entries.{ok-map}
use Rattle.mt_decl.proofs.ConstructingRules.{positive-one}
use Rattle.mt_decl.proofs.constructing.is_held_positive.Goals as goal

pub returns : goal.returns
returns c =
    ok-map _ (λ (b : Bool). b ≡ is_positive c.args.number c.args.params (tree_at c.args.pool.now c.args.ty) (tree_at c.args.pool.now c.args.closed))
    (λ b h. positive-one c.args.pool.now b c.args.number c.args.params c.args.ty c.args.closed _ _ c.in_ok-cons.ensures h)
    c.positive.result c.positive.ensures
