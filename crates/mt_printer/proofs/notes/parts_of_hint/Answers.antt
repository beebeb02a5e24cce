use Rattle.std.proofs.Common.{refl}
use Rattle.mt_printer.specs.EnvText.{equation_part, terms_in}
use Rattle.mt_printer.proofs.Listing.{one_more}
use Rattle.mt_printer.proofs.notes.parts_of_hint.Goals as goal

pub loop-n-preserved : goal.loop-n-preserved
loop-n-preserved c =
    one_more equation_part terms_in (λ x xs. refl) c.args.hint.now.eqs c.loop-n.n _ _ _
    (rw c.len-n-end.ensures at c.loop-n-test.true) c.loop-n.invariant c.in_ok-put_term_of.ensures
