use Rattle.std.proofs.Common.{refl}
use Rattle.mt_term.specs.EnvironmentOf.{environment_of}
use Rattle.mt_printer.specs.EnvText.{note_text, notes_text}
use Rattle.mt_printer.proofs.Listing.{one_more}
use Rattle.mt_printer.proofs.notes.put_notes.Goals as goal

pub loop-n-preserved : goal.loop-n-preserved
loop-n-preserved c =
    one_more (note_text (environment_of c.args.env.now)) (notes_text (environment_of c.args.env.now)) (λ x xs. refl) c.args.notes.now c.loop-n.n _ _ _
    (rw c.len-n-end.ensures at c.loop-n-test.true) c.loop-n.invariant c.in_ok-put_note_at.ensures
