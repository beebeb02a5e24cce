-- The text of accepted commands, each as a script has it.
use Rattle.std.specs.Prelude.{ℕ, ◌+◌, Bool, true, false, not, if◌then◌else◌, List, [], ◌∷◌, ◌++◌}
use Rattle.std.specs.Prelude.{codes, Option, Some, None, is_some, slice_get, take}
use Rattle.std.specs.Fmt.{decimal}
use Rattle.mt_term.specs.Trees.{Tree, Bytes}
use Rattle.mt_term.specs.Declarations.{Declaration, Axiom, Definition, Inductive, Recursive}
use Rattle.mt_term.specs.Declarations.{Constructor, Environment, Hypothesis}
use Rattle.mt_term.specs.States.{Equation, Hint, Note, EntryNote, ConstraintNote, HintNote}
use Rattle.mt_term.specs.States.{CoercionNote}
use Rattle.mt_term.specs.ScriptState.{State}
use Rattle.mt_printer.specs.Chosen.{Scope, scope_of_names}
use Rattle.mt_printer.specs.TermText.{term_text, universe_name}
use Rattle.mt_printer.specs.Telescopes.{Style, groups, variables, telescope_names, telescope_text}
use Rattle.mt_printer.specs.Telescopes.{leading, under_binders, name_at}

-- what stands before a body, and before constructors
abbrev pub becomes_text : Bytes
becomes_text = 32 ∷ 226 ∷ 137 ∷ 157 ∷ 32 ∷ []

abbrev pub made_of_text : Bytes
made_of_text = 32 ∷ 226 ∷ 137 ∷ 157 ∷ []

-- what stands before the variables, the terms and the conclusion of a hint, and between its sides
abbrev pub given_text : Bytes
given_text = 32 ∷ 226 ∷ 137 ∷ 148 ∷ []

abbrev pub equated_text : Bytes
equated_text = 32 ∷ 226 ∷ 137 ∷ 159 ∷ 32 ∷ []

abbrev pub concludes_text : Bytes
concludes_text = 32 ∷ 226 ∷ 138 ∷ 162 ∷ 32 ∷ []

abbrev pub matches_text : Bytes
matches_text = 32 ∷ 226 ∷ 137 ∷ 161 ∷ 32 ∷ []

abbrev pub unit_end : Bytes
unit_end = 46 ∷ 10 ∷ []

-- a term under hypotheses of these names
abbrev pub text_under : Environment → List Bytes → Tree → Bytes
text_under E xs t = term_text E (scope_of_names xs []) t

-- a list for something, where it is there
abbrev pub held : {A B : Type 0} → (A → List B) → Option A → List B
held f None = []
held f (Some x) = f x

abbrev pub alone : {A : Type 0} → A → List A
alone x = x ∷ []

-- the type of a constructor under the parameters
abbrev pub constructor_part : ℕ → Constructor → List Tree
constructor_part p c = under_binders p c.ty ∷ []

abbrev pub parts_of_constructors : ℕ → List Constructor → List Tree
parts_of_constructors p [] = []
parts_of_constructors p (c ∷ cs) = constructor_part p c ++ parts_of_constructors p cs

-- a constructor and its type, under parameters of these names
abbrev pub constructor_text : Environment → List Bytes → ℕ → Constructor → Bytes
constructor_text E xs p c =
    codes " | " ++ c.name ++ codes " : " ++ text_under E xs (under_binders p c.ty)

abbrev pub constructors_text : Environment → List Bytes → ℕ → List Constructor → Bytes
constructors_text E xs p [] = []
constructors_text E xs p (c ∷ cs) = constructor_text E xs p c ++ constructors_text E xs p cs

abbrev pub inductive_word : Bool → Bytes
inductive_word false = codes "inductive "
inductive_word true = codes "coinductive "

-- the head, the parts and the constructors of an inductive type
abbrev pub inductive_parts : ℕ → Tree → List Constructor → List Tree
inductive_parts p T cs = under_binders p T ∷ parts_of_constructors p cs

abbrev pub inductive_under : Environment → List Bytes → ℕ → Tree → List Constructor → Bytes
inductive_under E xs p T cs =
    codes " : " ++ text_under E xs (under_binders p T) ++ made_of_text ++ constructors_text E xs p
    cs

abbrev pub inductive_text : Environment → Bytes → Bool → ℕ → Tree → List Constructor → Bytes
inductive_text E x co p T cs =
    inductive_word co ++ x ++ telescope_text E groups (leading p T) (inductive_parts p T cs)
    ++ inductive_under E (telescope_names E.entries (leading p T) (inductive_parts p T cs)) p T cs
    ++ unit_end

abbrev pub recursive_word : Bool → Bytes
recursive_word false = codes "let rec "
recursive_word true = codes "let corec "

-- the recursive place
abbrev pub place_text : Bool → List Bytes → ℕ → Bytes
place_text false xs r = codes " on " ++ name_at xs r
place_text true xs r = []

-- the type and the body of a recursive function under its binders
abbrev pub recursive_parts : ℕ → Tree → Tree → List Tree
recursive_parts n T b = under_binders n T ∷ under_binders n b ∷ []

-- what stands after the binders, which have these names
unfoldable pub recursive_rest : Environment → List Bytes → Bool → ℕ → Tree → Tree → Bytes
recursive_rest E xs co r T b =
    place_text co xs r ++ codes " : " ++ text_under E xs T ++ becomes_text ++ text_under E xs b

abbrev pub recursive_text : Environment → Bytes → Bool → ℕ → ℕ → Tree → Tree → Bytes
recursive_text E x co n r T b =
    recursive_word co ++ x ++ telescope_text E groups (leading n T) (recursive_parts n T b)
    ++ recursive_rest E (telescope_names E.entries (leading n T) (recursive_parts n T b)) co r
    (under_binders n T) (under_binders n b) ++ unit_end

-- a name and its closed type
unfoldable pub typed_text : Environment → Bytes → Tree → Bytes
typed_text E x T = x ++ codes " : " ++ text_under E [] T

-- an entry that was written, as a line; a generated principle prints nothing
abbrev pub entry_text : Environment → Declaration → Bytes
entry_text E (Axiom x T) = codes "axiom " ++ typed_text E x T ++ unit_end
entry_text E (Definition x T b) =
    codes "definition " ++ typed_text E x T ++ becomes_text ++ text_under E [] b ++ unit_end
entry_text E (Inductive x co p T cs l) = inductive_text E x co p T cs
entry_text E (Recursive x co n r T b true) = []
entry_text E (Recursive x co n r T b false) = recursive_text E x co n r T b

abbrev pub held_entry_text : Environment → Option Declaration → Bytes
held_entry_text E None = []
held_entry_text E (Some d) = entry_text E d

unfoldable pub constraint_word : Bytes
constraint_word = codes "universe constraint "

-- the constraint that one universe is below another
abbrev pub pair_text : List Bytes → ℕ → ℕ → Bytes
pair_text names low high =
    constraint_word ++ universe_name names low ++ codes " < " ++ universe_name names high ++
    unit_end

abbrev pub constraint_text : List Bytes → Option (ℕ × ℕ) → Bytes
constraint_text names None = []
constraint_text names (Some c) = pair_text names c.0 c.1

-- the terms of equations
abbrev pub equation_part : Equation → List Tree
equation_part e = e.term ∷ []

abbrev pub terms_in : List Equation → List Tree
terms_in [] = []
terms_in (e ∷ es) = equation_part e ++ terms_in es

abbrev pub hint_parts : Hint → List Tree
hint_parts h = terms_in h.eqs ++ (h.left ∷ h.right ∷ [])

-- an equation; its term stands under the variables before its own
abbrev pub equation_text : Environment → List Bytes → Equation → Bytes
equation_text E xs e =
    codes "; " ++ name_at xs e.place ++ equated_text ++ text_under E (take e.place xs) e.term

abbrev pub equations_text : Environment → List Bytes → List Equation → Bytes
equations_text E xs [] = []
equations_text E xs (e ∷ es) = equation_text E xs e ++ equations_text E xs es

-- what stands after the variables of a hint, which have these names
unfoldable pub hint_under : Environment → List Bytes → Hint → Bytes
hint_under E xs h =
    equations_text E xs h.eqs ++ concludes_text ++ text_under E xs h.left ++ matches_text ++
    text_under E xs h.right

unfoldable pub hint_word : Bytes
hint_word = codes "unification hint "

abbrev pub hint_text : Environment → Hint → Bytes
hint_text E h =
    hint_word ++ decimal h.precedence ++ given_text ++ telescope_text E variables h.vars
    (hint_parts h)
    ++ hint_under E (telescope_names E.entries h.vars (hint_parts h)) h ++ unit_end

-- the line of a note
abbrev pub note_text : Environment → Note → Bytes
note_text E (EntryNote n) = held_entry_text E (slice_get E.entries n)
note_text E (ConstraintNote n) = constraint_text E.names (slice_get E.below n)
note_text E (HintNote h) = hint_text E h
note_text E (CoercionNote x) = codes "coercion " ++ x ++ unit_end

-- an entry that is there and is no generated principle
abbrev pub is_written : Option Declaration → Bool
is_written None = false
is_written (Some (Recursive x co n r T b made)) = not made
is_written (Some d) = true

-- a note has a line
abbrev pub has_line : Environment → Note → Bool
has_line E (EntryNote n) = is_written (slice_get E.entries n)
has_line E (ConstraintNote n) = is_some (slice_get E.below n)
has_line E (HintNote h) = true
has_line E (CoercionNote x) = true

-- how many lines a note has
abbrev pub lines_of : Environment → Note → ℕ
lines_of E n = if has_line E n then 1 else 0

abbrev pub held_lines : Environment → Option Note → ℕ
held_lines E None = 0
held_lines E (Some n) = lines_of E n

-- how many notes have a line
abbrev pub line_count : Environment → List Note → ℕ
line_count E [] = 0
line_count E (n ∷ ns) = lines_of E n + line_count E ns

abbrev pub notes_text : Environment → List Note → Bytes
notes_text E [] = []
notes_text E (n ∷ ns) = note_text E n ++ notes_text E ns

-- the number of lines, and the lines of all accepted commands in order
unfoldable pub env_text : State → Bytes
env_text s =
    codes "env " ++ decimal (line_count s.env s.notes) ++ (10 ∷ []) ++ notes_text s.env s.notes
