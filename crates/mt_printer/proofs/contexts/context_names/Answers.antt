use Rattle.mt_printer.specs.ScopeOf.{trees_behind}
use Rattle.mt_printer.proofs.Naming.{names_more}
use Rattle.mt_printer.proofs.contexts.context_names.Goals as goal

pub loop-n-preserved : goal.loop-n-preserved
loop-n-preserved c = record {
  scope = c.in_ok-put_name.ensures.scope;
  names = names_more c.args.env.now.entries (trees_behind c.args.parts.now) c.args.context.now c.loop-n.n c.loop-n.names _ _
      (rw c.len-n-end.ensures at c.loop-n-test.true) c.loop-n.invariant.names c.in_ok-put_name.ensures.names;
}
