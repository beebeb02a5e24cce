use Rattle.std.proofs.Common.{refl}
use Rattle.mt_term.specs.EnvironmentOf.{environment_of}
use Rattle.mt_printer.specs.EnvText.{equation_text, equations_text}
use Rattle.mt_printer.proofs.Listing.{one_more}
use Rattle.mt_printer.proofs.notes.put_equations.Goals as goal

pub loop-n-preserved : goal.loop-n-preserved
loop-n-preserved c =
    one_more (equation_text (environment_of c.args.env.now) c.args.names.now) (equations_text (environment_of c.args.env.now) c.args.names.now) (λ x xs. refl) c.args.eqs.now c.loop-n.n _ _ _
    (rw c.len-n-end.ensures at c.loop-n-test.true) c.loop-n.invariant c.in_ok-put_equation.ensures
