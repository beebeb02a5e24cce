-- What hints and notes of the program say.
use Rattle.std.specs.Prelude.{Option, Some, None}
use Rattle.mt_term.specs.TreeOf.{tree_of}
use Rattle.mt_term.specs.States.{Hint, Note, EntryNote, ConstraintNote, HintNote, CoercionNote}
use Rattle.mt_term.specs.declared.notes.PlainHint.{PlainHint}
use Rattle.mt_term.specs.declared.notes.Note.{Note as TheNote}
use Rattle.mt_term.specs.declared.notes.Note.TheVariants as noted
use denote.Bor.{Bor}

abbrev pub hint_of : PlainHint → Hint
hint_of h =
    record {
      precedence = h.precedence;
      vars = h.vars;
      eqs = h.eqs;
      left = tree_of h.left;
      right = tree_of h.right;
    }

abbrev pub note_of : TheNote → Note
note_of (noted.Entry n) = EntryNote n
note_of (noted.Constraint n) = ConstraintNote n
note_of (noted.Hint h) = HintNote (hint_of h)
note_of (noted.Coercion x) = CoercionNote x

abbrev pub seen_note : Option (Bor TheNote) → Option Note
seen_note None = None
seen_note (Some n) = Some (note_of n.now)
