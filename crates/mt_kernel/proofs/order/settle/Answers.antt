use Rattle.std.proofs.Common.{◌≡◌, ◌<◌, ◌+◌, ◌*◌, length, ap, arith}
use Rattle.std.specs.Prelude.{sum}
use Rattle.mt_kernel.proofs.Rows.{sum_short}
use Rattle.mt_kernel.proofs.order.settle.Goals as goal

pub returns-in-Settled-clause-bound : goal.returns-in-Settled-clause-bound
returns-in-Settled-clause-bound c v o m h = c.lengthen_by_all.ensures.bound v o m (c.rounds.invariant.bound v o m h)

pub returns-in-Endless-clause-bound : goal.returns-in-Endless-clause-bound
returns-in-Endless-clause-bound c v o m h = c.lengthen_by_all.ensures.bound v o m (c.rounds.invariant.bound v o m h)

pub rounds-preserved : goal.rounds-preserved
rounds-preserved c = record {
  size = omega (arith, c.lengthen_by_all.ensures.size, c.rounds.invariant.size);
  short = c.lengthen_by_all.ensures.short;
  bound = λ v o m h. c.lengthen_by_all.ensures.bound v o m (c.rounds.invariant.bound v o m h);
  grown = λ b. omega (arith, c.lengthen_by_all.ensures.grown b, c.rounds.invariant.grown b);
}

pub rounds-smaller : goal.rounds-smaller
rounds-smaller c =
    let most = sum_short c.lengthen_by_all.new.row.items c.lengthen_by_all.ensures.short in
    let more : sum c.rounds.row.items < sum c.lengthen_by_all.new.row.items = c.lengthen_by_all.ensures.rises c.in-Longer.is in
    let same = ap (λ n. n * (n + 1)) c.lengthen_by_all.ensures.size in
    omega (arith, most, more, same)
