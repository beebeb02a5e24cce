use Rattle.std.proofs.Common.{arith}
use Rattle.mt_term.specs.EnvironmentOf.{environment_of}
use Rattle.mt_printer.proofs.Listing.{count_more}
use Rattle.mt_printer.proofs.notes.line_count.Goals as goal

pub loop-n-preserved : goal.loop-n-preserved
loop-n-preserved c = record {
  same = count_more (environment_of c.args.env.now) c.args.notes.now c.loop-n.n _ _ _ (rw c.len-n-end.ensures at c.loop-n-test.true) c.loop-n.invariant.same c.lines_at-count.ensures.is;
  most = omega (arith, c.loop-n.invariant.most, c.lines_at-count.ensures.most);
}
