use Rattle.std.proofs.Common.{refl}
use Rattle.mt_term.specs.EnvironmentOf.{environment_of}
use Rattle.mt_printer.specs.EnvText.{constructor_text, constructors_text}
use Rattle.mt_printer.proofs.Listing.{one_more}
use Rattle.mt_printer.proofs.entries.put_constructors.Goals as goal

pub loop-k-preserved : goal.loop-k-preserved
loop-k-preserved c =
    one_more (constructor_text (environment_of c.args.env.now) c.args.names.now c.args.params) (constructors_text (environment_of c.args.env.now) c.args.names.now c.args.params) (λ x xs. refl) c.args.cons.now c.loop-k.k _ _ _
    (rw c.len-k-end.ensures at c.loop-k-test.true) c.loop-k.invariant c.in_ok-put_constructor.ensures
