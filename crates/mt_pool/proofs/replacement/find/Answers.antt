use Rattle.std.proofs.Common.{◌-◌, ◌<◌, length, arith}
use Rattle.mt_pool.proofs.Replaced.{fill-found, fill-past, all-at}
use Rattle.mt_pool.proofs.replacement.find.Goals as goal

pub returns-then-i-ids-clause-tree : goal.returns-then-i-ids-clause-tree
returns-then-i-ids-clause-tree c = λ p σ. fill-found p σ c.args.ids.now c.args.i record { at = 0 } c.if-i-ids.true

pub returns-then-i-ids-clause-below : goal.returns-then-i-ids-clause-below
returns-then-i-ids-clause-below c =
    let l : length c.args.ids.now - 1 - c.args.i < length c.args.ids.now = omega (arith, c.if-i-ids.true) in
    λ n h. all-at n c.args.ids.now (length c.args.ids.now - 1 - c.args.i) record { at = 0 } h l

pub returns-else-i-ids-clause-tree : goal.returns-else-i-ids-clause-tree
returns-else-i-ids-clause-tree c = λ p σ. fill-past p σ c.args.ids.now c.args.i c.if-i-ids.false
