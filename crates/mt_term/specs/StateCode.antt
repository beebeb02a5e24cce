-- How metavariables, equations, hints and notes are stored.
use Rattle.std.specs.Prelude.{ℕ, List, Option, ◌⊎◌, ◌≡◌, refl}
use Rattle.std.specs.Coded.{Coded, code_by, coded×, coded⊎, coded_ℕ, coded_list, coded_option}
use mathlib.Core.Logic.{inl, inr}
use Rattle.mt_term.specs.Trees.{Tree, Bytes}
use Rattle.mt_term.specs.TreeCode.{tree_code}
use Rattle.mt_term.specs.Declarations.{Hypothesis}
use Rattle.mt_term.specs.DeclarationCode.{hypothesis_code}
use Rattle.mt_term.specs.States.{Metavariable, Equation, Hint, Note, EntryNote, ConstraintNote}
use Rattle.mt_term.specs.States.{HintNote, CoercionNote}

abbrev pub metavariable_code : Coded Metavariable
metavariable_code =
    code_by (List Hypothesis × (Tree × Option Tree))
    (coded× (coded_list hypothesis_code) (coded× tree_code (coded_option tree_code)))
    (λ m. (m.context, (m.ty, m.body)))
    (λ p. record { context = p.0; ty = p.1.0; body = p.1.1 })
    (λ _. refl)

abbrev pub equation_code : Coded Equation
equation_code =
    code_by (ℕ × Tree) (coded× coded_ℕ tree_code) (λ e. (e.place, e.term))
    (λ p. record { place = p.0; term = p.1 }) (λ _. refl)

abbrev pub hint_code : Coded Hint
hint_code =
    code_by (ℕ × (List Hypothesis × (List Equation × (Tree × Tree))))
    (coded× coded_ℕ
    (coded× (coded_list hypothesis_code)
    (coded× (coded_list equation_code) (coded× tree_code tree_code))))
    (λ h. (h.precedence, (h.vars, (h.eqs, (h.left, h.right)))))
    (λ p. record {
      precedence = p.0;
      vars = p.1.0;
      eqs = p.1.1.0;
      left = p.1.1.1.0;
      right = p.1.1.1.1;
    })
    (λ _. refl)

abbrev pub NoteChoice : Type 0
NoteChoice = (ℕ ⊎ ℕ) ⊎ (Hint ⊎ Bytes)

abbrev pub choice_of : Note → NoteChoice
choice_of (EntryNote n) = inl (inl n)
choice_of (ConstraintNote n) = inl (inr n)
choice_of (HintNote h) = inr (inl h)
choice_of (CoercionNote x) = inr (inr x)

abbrev pub chosen : NoteChoice → Note
chosen (inl (inl n)) = EntryNote n
chosen (inl (inr n)) = ConstraintNote n
chosen (inr (inl h)) = HintNote h
chosen (inr (inr x)) = CoercionNote x

pub chosen_back : (n : Note) → chosen (choice_of n) ≡ n
chosen_back (EntryNote n) = refl
chosen_back (ConstraintNote n) = refl
chosen_back (HintNote h) = refl
chosen_back (CoercionNote x) = refl

abbrev pub note_code : Coded Note
note_code =
    code_by NoteChoice (coded⊎ (coded⊎ coded_ℕ coded_ℕ) (coded⊎ hint_code (coded_list coded_ℕ)))
    choice_of chosen chosen_back
