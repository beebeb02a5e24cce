-- Hypotheses, binder groups and variables of hints: all of them are named.
use Rattle.std.specs.Prelude.{ℕ, zero, suc, List, [], ◌∷◌, ◌++◌, codes, slice_get, unwrap_or}
use Rattle.mt_term.specs.Trees.{Tree, Bytes, Prod, Lam}
use Rattle.mt_term.specs.Declarations.{Declaration, Environment, Hypothesis}
use Rattle.mt_printer.specs.Chosen.{Scope, chosen, scope_of_names}
use Rattle.mt_printer.specs.TermText.{term_text}

-- what stands before the first hypothesis and before each further one, between name and type, and
-- after the type
pub record Style : Type 0 where
  pub first : Bytes
  pub further : Bytes
  pub between : Bytes
  pub after : Bytes

-- a binder group: ` (x:A)`
abbrev pub groups : Style
groups = record { first = codes " ("; further = codes " ("; between = codes ":"; after = codes ")" }

-- a hypothesis of a goal: a line `  x : A`
abbrev pub lines : Style
lines = record { first = codes "  "; further = codes "  "; between = codes " : "; after = 10 ∷ [] }

-- a variable of a hint: ` x:A`, and `, x:A` after others
abbrev pub variables : Style
variables = record { first = codes " "; further = codes ", "; between = codes ":"; after = [] }

abbrev pub types_in : List Hypothesis → List Tree
types_in [] = []
types_in (h ∷ hs) = h.ty ∷ types_in hs

-- the name chosen for a hypothesis after others of these names, with further hypotheses and parts
-- under it
abbrev pub next_name : List Declaration → List Bytes → Bytes → List Hypothesis → List Tree → Bytes
next_name es xs x hs parts = chosen es (scope_of_names xs []) x (types_in hs ++ parts)

-- the names of hypotheses, oldest first, after others
abbrev pub names_after : List Declaration → List Bytes → List Hypothesis → List Tree → List Bytes
names_after es xs [] parts = xs
names_after es xs (h ∷ hs) parts =
    names_after es (xs ++ next_name es xs h.name hs parts ∷ []) hs parts

-- the text of hypotheses after others, with what stands before the next of them
abbrev pub text_after : Environment → Style → Bytes → List Bytes → List Hypothesis → List Tree
    → Bytes
text_after E style before xs [] parts = []
text_after E style before xs (h ∷ hs) parts =
    before ++ next_name E.entries xs h.name hs parts ++ style.between ++ term_text E
    (scope_of_names xs []) h.ty ++ style.after
    ++ text_after E style style.further (xs ++ next_name E.entries xs h.name hs parts ∷ []) hs parts

-- the names and the text of hypotheses, with parts under all of them
unfoldable pub telescope_names : List Declaration → List Hypothesis → List Tree → List Bytes
telescope_names es hs parts = names_after es [] hs parts

unfoldable pub telescope_text : Environment → Style → List Hypothesis → List Tree → Bytes
telescope_text E style hs parts = text_after E style style.first [] hs parts

-- as many products as stand before a type, at most so many, as hypotheses
abbrev pub leading : ℕ → Tree → List Hypothesis
leading zero T = []
leading (suc n) (Prod x A B) = record { name = x; ty = A } ∷ leading n B
leading (suc n) T = []

-- what stands under at most so many products and abstractions
abbrev pub under_binders : ℕ → Tree → Tree
under_binders zero t = t
under_binders (suc n) (Prod x A B) = under_binders n B
under_binders (suc n) (Lam x A b) = under_binders n b
under_binders (suc n) t = t

-- the name at a place; no bytes where there is none
abbrev pub name_at : List Bytes → ℕ → Bytes
name_at xs n = unwrap_or (slice_get xs n) []

-- The text of a term whose variables are shown by these names, the newest last.
unfoldable pub printed : Environment → List Bytes → Tree → Bytes
printed E names t = term_text E (scope_of_names names []) t
