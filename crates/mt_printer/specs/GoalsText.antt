-- The text of an open proof. All its types and terms are instances over the store.
use Rattle.std.specs.Prelude.{ℕ, Bool, true, false, List, [], ◌∷◌, ◌++◌, length, codes, Option}
use Rattle.std.specs.Prelude.{Some, None, slice_get}
use Rattle.std.specs.Fmt.{decimal}
use Rattle.mt_term.specs.Trees.{Tree, Bytes, Meta, End}
use Rattle.mt_term.specs.Declarations.{Environment, Hypothesis}
use Rattle.mt_term.specs.States.{Metavariable}
use Rattle.mt_term.specs.ScriptState.{State, Proof}
use Rattle.mt_term.specs.Instancing.{instance, instances}
use Rattle.mt_printer.specs.Telescopes.{lines, telescope_names, telescope_text}
use Rattle.mt_printer.specs.EnvText.{text_under}

abbrev pub line_end : Bytes
line_end = 10 ∷ []

-- what stands before the type of a goal
abbrev pub goal_sign : Bytes
goal_sign = 32 ∷ 32 ∷ 226 ∷ 138 ∷ 162 ∷ 32 ∷ []

abbrev pub no_proof_text : Bytes
no_proof_text = codes "proof none" ++ line_end

-- hypotheses and a type under them
abbrev pub sequent_text : Environment → List Hypothesis → Tree → Bytes
sequent_text E hs G =
    telescope_text E lines hs (G ∷ []) ++ goal_sign ++ text_under E
    (telescope_names E.entries hs (G ∷ [])) G ++ line_end

-- the context and the type of a metavariable
abbrev pub metavariable_text : Environment → List Metavariable → Option Metavariable → Bytes
metavariable_text E ms None = []
metavariable_text E ms (Some m) = sequent_text E (instances ms m.context) (instance ms m.ty)

-- whether a goal is in focus
abbrev pub focus_text : Bool → Bytes
focus_text true = codes " focus" ++ line_end
focus_text false = codes " later" ++ line_end

abbrev pub goal_text : Environment → List Metavariable → (ℕ × Bool) → Bytes
goal_text E ms g =
    codes "goal " ++ decimal g.0 ++ focus_text g.1 ++ metavariable_text E ms (slice_get ms g.0)

abbrev pub each_goal_text : Environment → List Metavariable → List (ℕ × Bool) → Bytes
each_goal_text E ms [] = []
each_goal_text E ms (g ∷ gs) = goal_text E ms g ++ each_goal_text E ms gs

abbrev pub goals_word : Bytes
goals_word = 10 ∷ codes "goals "

-- the name and the statement
unfoldable pub statement_text : Environment → List Metavariable → Proof → Bytes
statement_text E ms p =
    codes "proof " ++ p.name ++ codes " : " ++ text_under E [] (instance ms p.ty)

-- the number of goals, and the goals
unfoldable pub all_goals_text : Environment → List Metavariable → Proof → Bytes
all_goals_text E ms p =
    goals_word ++ decimal (length p.goals) ++ line_end ++ each_goal_text E ms p.goals

-- the term
unfoldable pub root_text : Environment → List Metavariable → Proof → Bytes
root_text E ms p = codes "term " ++ text_under E [] (instance ms (Meta p.root End)) ++ line_end

abbrev pub proof_text : Environment → List Metavariable → Proof → Bytes
proof_text E ms p = statement_text E ms p ++ all_goals_text E ms p ++ root_text E ms p

abbrev pub open_proof_text : Environment → List Metavariable → Option Proof → Bytes
open_proof_text E ms None = no_proof_text
open_proof_text E ms (Some p) = proof_text E ms p

-- the statement of the open proof, its goals and its term; or that there is none
unfoldable pub goals_text : State → Bytes
goals_text s = open_proof_text s.env s.store s.proof
