use Rattle.std.proofs.Common.{sym}
use Rattle.mt_term.specs.ConstructorOf.{constructor_of}
use Rattle.mt_resolver.proofs.Tables.{constructors-next, Extends-further}
use Rattle.mt_resolver.proofs.table.Table.add_constructors.Goals as goal

pub loop-k-preserved : goal.loop-k-preserved
loop-k-preserved c = record {
  same = constructors-next c.args.self.now c.loop-k.self c.add_name.new.self c.args.number c.loop-k.k c.args.cons.now (constructor_of c.in-Some.constructor.now) (sym c.in-Some.ensures) c.loop-k.invariant.same
      c.in_ok-add_name.ensures.ok;
  kept = Extends-further c.args.self.now c.loop-k.self c.add_name.new.self c.loop-k.invariant.kept c.in_ok-add_name.ensures.kept;
}
