-- Examples that the definitions of lines and goals compute to.
use Rattle.std.specs.Prelude.{◌≡◌, refl, List, [], ◌∷◌, ◌++◌, false, true, codes, Some, None}
use Rattle.std.specs.Fmt.{digits}
use Rattle.mt_term.specs.Trees.{Tree, Var, Sort, Prod, Lam, App, Const, Ind, Con, Meta, End, Item}
use Rattle.mt_term.specs.Declarations.{Environment, Axiom, Inductive, Recursive}
use Rattle.mt_term.specs.States.{EntryNote, ConstraintNote, HintNote, CoercionNote}
use Rattle.mt_term.specs.ScriptState.{State}
use Rattle.mt_term.specs.declared.universes.Sort.TheVariants.{Prop, Typ}
use Rattle.mt_printer.specs.Chosen.{fit_name}
use Rattle.mt_printer.specs.TermText.{forall_sign, lambda_sign, arrow_text}
use Rattle.mt_printer.specs.Telescopes.{telescope_names, telescope_text}
use Rattle.mt_printer.specs.EnvText.{constraint_word, env_text, given_text, concludes_text}
use Rattle.mt_printer.specs.EnvText.{equated_text, hint_under, hint_word, line_count, made_of_text}
use Rattle.mt_printer.specs.EnvText.{matches_text, note_text, recursive_rest, becomes_text}
use Rattle.mt_printer.specs.EnvText.{typed_text, unit_end}
use Rattle.mt_printer.specs.GoalsText.{all_goals_text, goal_sign, goals_text, root_text}
use Rattle.mt_printer.specs.GoalsText.{statement_text}

abbrev small : Tree
small = Sort (Typ (record { base = 0; atoms = [] }))

-- equality, a corecursive constant and a generated principle
abbrev sample : Environment
sample = record {
  entries =
      Inductive (codes "eq") false 2
      (Prod (codes "A") small (Prod (codes "x") (Var 0) (Prod (codes "_") (Var 1) (Sort Prop))))
      (record { name = codes "refl"; ty = Prod (codes "A") small (Prod (codes "x") (Var 0) (App (App (App (Ind 0) (Var 1)) (Var 0)) (Var 0))) } ∷ [])
      true
      ∷ Recursive (codes "zeros") true 0 0 (Ind 0) (Const 1) false
      ∷ Recursive (codes "eq_ind") false 0 0 (Ind 0) (Ind 0) true
      ∷ Recursive (codes "f") false 1 0 (Prod (codes "n") (Ind 0) (Ind 0))
      (Lam (codes "n") (Ind 0) (App (Const 3) (Var 0))) false ∷ [];
  names = codes "a" ∷ codes "b" ∷ [];
  below = (0, 1) ∷ [];
}

inductive_line : note_text sample (EntryNote 0) ≡ codes "inductive eq (A:Type[0]) (x:A) : A" ++
    arrow_text ++ codes "Prop" ++ made_of_text ++ codes " | refl : eq A x x" ++ unit_end
unfolding fit_name digits telescope_names telescope_text
inductive_line = refl

corecursive_line : note_text sample (EntryNote 1) ≡ codes "let corec zeros : eq" ++ becomes_text ++
    codes "zeros" ++ unit_end
unfolding telescope_names telescope_text recursive_rest
corecursive_line = refl

recursive_line : note_text sample (EntryNote 3) ≡ codes "let rec f (n:eq) on n : eq" ++ becomes_text
    ++ codes "f n" ++ unit_end
unfolding fit_name telescope_names telescope_text recursive_rest
recursive_line = refl

principle_line : note_text sample (EntryNote 2) ≡ []
principle_line = refl

counted : line_count sample (EntryNote 0 ∷ EntryNote 2 ∷ ConstraintNote 0 ∷ []) ≡ 2
counted = refl

constraint_line : note_text sample (ConstraintNote 0) ≡ codes "universe constraint a < b" ++
    unit_end
unfolding constraint_word
constraint_line = refl

-- a variable without a name has one, and an equation's term stands under the variables before its
-- own
hint_line : note_text sample
    (HintNote (record { precedence = 0; vars = record { name = codes "g"; ty = Ind 0 } ∷ record { name = codes "_"; ty = Var 0 } ∷ []; eqs = record { place = 1; term = Var 0 } ∷ []; left = App (Const 1) (Var 0); right = Const 1 }))
    ≡ codes "unification hint 0" ++ given_text ++ codes " g:eq, x:g; x" ++ equated_text ++ codes "g"
    ++ concludes_text ++ codes "zeros x" ++ matches_text ++ codes "zeros" ++ unit_end
unfolding fit_name digits telescope_names telescope_text hint_under hint_word
hint_line = refl

bare_hint_line : note_text sample
    (HintNote (record { precedence = 0; vars = []; eqs = []; left = Const 1; right = Const 1 }))
    ≡ codes "unification hint 0" ++ given_text ++ concludes_text ++ codes "zeros" ++ matches_text ++
    codes "zeros" ++ unit_end
unfolding digits telescope_names telescope_text hint_under hint_word
bare_hint_line = refl

-- the first metavariable's body stands on the second, which is open under one hypothesis
abbrev state : State
state = record {
  env = sample;
  store =
      record { context = []; ty = Ind 0; body = Some (Meta 1 (Item (Const 1) End)) }
      ∷ record
      { context = record { name = codes "_"; ty = Ind 0 } ∷ []; ty = App (App (Ind 0) (Var 0)) (Meta 0 End); body = None }
      ∷ [];
  proof = Some (record { name = codes "p"; ty = Ind 0; root = 0; goals = (1, false) ∷ [] });
  units = 0;
  place = 0;
  notes = [];
}

open_goal : goals_text state ≡
    codes "proof p : eq" ++ (10 ∷ codes "goals 1") ++ (10 ∷ codes "goal 1 later") ++
    (10 ∷ codes "  x : eq") ++ (10 ∷ [])
    ++ goal_sign ++ codes "eq x ?1[zeros]" ++ (10 ∷ codes "term ?1[zeros]") ++ (10 ∷ [])
unfolding fit_name digits telescope_names telescope_text goals_text statement_text all_goals_text
    root_text
open_goal = refl
