-- Units of each production, and each fault.
use Rattle.std.specs.Prelude.{◌≡◌, ℕ, List, [], ◌∷◌, ◌++◌, false, true, codes, replicate, Option, Some, None, refl}
use lib.Utf8.{encode}
use Rattle.std.specs.Str.{chars}
use Rattle.unicode_ident.proofs.Computing.{unicode_ident}
use Rattle.mt_term.specs.Reasons.{Lex, Syntax, Incomplete, TooDeep}
use Rattle.mt_term_parser.specs.declared.raw.RawSort.TheVariants as sort
use Rattle.mt_term_parser.specs.Written.{Term, Name, Sort, App, Argument, NoArgument, Given, Absent}
use Rattle.mt_term_parser.specs.Readings.{Reading, Got, Stops}
use Rattle.mt_tiny.specs.declared.Tiny.TheVariants as tiny
use Rattle.mt_tactical.specs.Tacticals.{End, Item, Action, Skip, Semicolon, Dot, Branches, Focus, NoBranch, Branch}
use Rattle.mt_tactical.specs.declared.Pick.TheVariants as pick
use Rattle.mt_unit_parser.specs.WrittenUnits.{Deed, WrittenKind, WrittenUnit, Whd, Intro, Exact, Refine, Apply, Cut, Lapply, Change, Normalize, Assumption, Constructor, Generalize, Clear, Cases, Elim, Constraint, Axiom, Definition, Inductive, Recursive, Hint, Coercion, Theorem, Qed, Step, Block}
use Rattle.mt_unit_parser.specs.Blocks.{unit, sequence, AtEnd, AtFault, units}

-- a unit that begins a text and is closed by its own last token
abbrev whole : ℕ → WrittenKind → Reading (Option WrittenUnit)
whole end k = Got (Some (record { start = 0; end = end; seen = end; kind = k })) end

-- a phrase that begins a text, and the end of the sign that closes it
abbrev phrase : ℕ → ℕ → WrittenKind → Reading (Option WrittenUnit)
phrase end seen k = Got (Some (record { start = 0; end = end; seen = seen; kind = k })) seen

abbrev acts : ℕ → ℕ → Deed → Reading (Option WrittenUnit)
acts end seen d = phrase end seen (Step (tiny.Action (record { start = 0; deed = d })))

-- `≝`, `≔`, `≟`, `≡` and `⊢`
abbrev is_defined : List ℕ
is_defined = 226 ∷ 137 ∷ 157 ∷ []

abbrev colon_equals : List ℕ
colon_equals = 226 ∷ 137 ∷ 148 ∷ []

abbrev is_sought : List ℕ
is_sought = 226 ∷ 137 ∷ 159 ∷ []

abbrev is_same : List ℕ
is_same = 226 ∷ 137 ∷ 161 ∷ []

abbrev follows : List ℕ
follows = 226 ∷ 138 ∷ 162 ∷ []

nothing : unit (codes " (* *)") 0 ≡ Got None 0
unfolding chars encode unicode_ident
nothing = refl

constraint_unit : unit (codes "universe constraint a<b.") 0 ≡ whole 24 (Constraint (codes "a") (codes "b"))
unfolding chars encode unicode_ident
constraint_unit = refl

axiom_unit : unit (codes "axiom a : Prop.") 0 ≡ whole 15 (Axiom (codes "a") (Term 10 (Sort sort.Prop)))
unfolding chars encode unicode_ident
axiom_unit = refl

definition_unit : unit (codes "definition a" ++ is_defined ++ codes "b.") 0 ≡ whole 17 (Definition (codes "a") Absent (Term 15 (Name (codes "b"))))
unfolding chars encode unicode_ident
definition_unit = refl

typed_definition : unit (codes "definition a:A" ++ is_defined ++ codes "b.") 0 ≡ whole 19 (Definition (codes "a") (Given (Term 13 (Name (codes "A")))) (Term 17 (Name (codes "b"))))
unfolding chars encode unicode_ident
typed_definition = refl

-- the bar before the first constructor may be left out
inductive_unit : unit (codes "inductive L(A:S):T" ++ is_defined ++ codes "|n:U|c:V.") 0 ≡ whole 30 (Inductive false (record { name = codes "A"; type = Term 14 (Name (codes "S")) } ∷ []) (record { name = codes "L"; arity = Term 17 (Name (codes "T")); cons = record { at = 22; name = codes "n"; type = Term 24 (Name (codes "U")) } ∷ record { at = 26; name = codes "c"; type = Term 28 (Name (codes "V")) } ∷ [] } ∷ []))
unfolding chars encode unicode_ident
inductive_unit = refl

without_bar : unit (codes "inductive L:T" ++ is_defined ++ codes "n:U.") 0 ≡ whole 20 (Inductive false [] (record { name = codes "L"; arity = Term 12 (Name (codes "T")); cons = record { at = 16; name = codes "n"; type = Term 18 (Name (codes "U")) } ∷ [] } ∷ []))
unfolding chars encode unicode_ident
without_bar = refl

coinductive_unit : unit (codes "coinductive E:T" ++ is_defined ++ codes ".") 0 ≡ whole 19 (Inductive true [] (record { name = codes "E"; arity = Term 14 (Name (codes "T")); cons = [] } ∷ []))
unfolding chars encode unicode_ident
coinductive_unit = refl

recursive_unit : unit (codes "let rec f(x:A)on x:B" ++ is_defined ++ codes "t.") 0 ≡ whole 25 (Recursive false (record { name = codes "f"; groups = record { name = codes "x"; type = Term 12 (Name (codes "A")) } ∷ []; on = Some (codes "x"); type = Term 19 (Name (codes "B")); body = Term 23 (Name (codes "t")) } ∷ []))
unfolding chars encode unicode_ident
recursive_unit = refl

corecursive_unit : unit (codes "let corec f:B" ++ is_defined ++ codes "t.") 0 ≡ whole 18 (Recursive true (record { name = codes "f"; groups = []; on = None; type = Term 12 (Name (codes "B")); body = Term 16 (Name (codes "t")) } ∷ []))
unfolding chars encode unicode_ident
corecursive_unit = refl

hint_unit : unit (codes "unification hint 3 " ++ colon_equals ++ codes "x:A,y:B;x" ++ is_sought ++ codes "y" ++ follows ++ codes "a" ++ is_same ++ codes "b.") 0 ≡ whole 44 (Hint 3 (record { name = codes "x"; type = Term 24 (Name (codes "A")) } ∷ record { name = codes "y"; type = Term 28 (Name (codes "B")) } ∷ []) (record { name = codes "x"; term = Term 34 (Name (codes "y")) } ∷ []) (Term 38 (Name (codes "a"))) (Term 42 (Name (codes "b"))))
unfolding chars encode unicode_ident
hint_unit = refl

bare_hint : unit (codes "unification hint 0 " ++ colon_equals ++ follows ++ codes "a" ++ is_same ++ codes "b.") 0 ≡ whole 31 (Hint 0 [] [] (Term 25 (Name (codes "a"))) (Term 29 (Name (codes "b"))))
unfolding chars encode unicode_ident
bare_hint = refl

coercion_unit : unit (codes "coercion c.") 0 ≡ whole 11 (Coercion (codes "c"))
unfolding chars encode unicode_ident
coercion_unit = refl

theorem_unit : unit (codes "theorem t:A.") 0 ≡ whole 12 (Theorem (codes "t") (Term 10 (Name (codes "A"))))
unfolding chars encode unicode_ident
theorem_unit = refl

qed_unit : unit (codes "qed.") 0 ≡ whole 4 Qed
unfolding chars encode unicode_ident
qed_unit = refl

-- `seen` of a phrase is the end of the sign that closes it
intro_sign : unit (codes "#_ ;") 0 ≡ acts 2 4 (Intro (codes "_"))
unfolding chars encode unicode_ident
intro_sign = refl

intro_word : unit (codes "intro x.") 0 ≡ acts 7 8 (Intro (codes "x"))
unfolding chars encode unicode_ident
intro_word = refl

exact_action : unit (codes "exact a[") 0 ≡ acts 7 8 (Exact (Term 6 (Name (codes "a"))))
unfolding chars encode unicode_ident
exact_action = refl

refine_action : unit (codes "refine a[") 0 ≡ acts 8 9 (Refine (Term 7 (Name (codes "a"))))
unfolding chars encode unicode_ident
refine_action = refl

apply_action : unit (codes "apply a[") 0 ≡ acts 7 8 (Apply (Term 6 (Name (codes "a"))))
unfolding chars encode unicode_ident
apply_action = refl

cut_action : unit (codes "cut a[") 0 ≡ acts 5 6 (Cut (Term 4 (Name (codes "a"))))
unfolding chars encode unicode_ident
cut_action = refl

lapply_action : unit (codes "lapply a[") 0 ≡ acts 8 9 (Lapply (Term 7 (Name (codes "a"))))
unfolding chars encode unicode_ident
lapply_action = refl

change_action : unit (codes "change a[") 0 ≡ acts 8 9 (Change (Term 7 (Name (codes "a"))))
unfolding chars encode unicode_ident
change_action = refl

generalize_action : unit (codes "generalize a[") 0 ≡ acts 12 13 (Generalize (Term 11 (Name (codes "a"))))
unfolding chars encode unicode_ident
generalize_action = refl

cases_action : unit (codes "cases a[") 0 ≡ acts 7 8 (Cases (Term 6 (Name (codes "a"))))
unfolding chars encode unicode_ident
cases_action = refl

elim_action : unit (codes "elim a[") 0 ≡ acts 6 7 (Elim (Term 5 (Name (codes "a"))))
unfolding chars encode unicode_ident
elim_action = refl

apply_sign : unit (codes "@f a|") 0 ≡ acts 4 5 (Apply (Term 1 (App (Term 1 (Name (codes "f"))) (Argument (Term 3 (Name (codes "a"))) NoArgument))))
unfolding chars encode unicode_ident
apply_sign = refl

whd_action : unit (codes "whd ]") 0 ≡ acts 3 5 Whd
unfolding chars encode unicode_ident
whd_action = refl

normalize_action : unit (codes "normalize}") 0 ≡ acts 9 10 Normalize
unfolding chars encode unicode_ident
normalize_action = refl

assumption_action : unit (codes "assumption.") 0 ≡ acts 10 11 Assumption
unfolding chars encode unicode_ident
assumption_action = refl

constructor_action : unit (codes "constructor 2.") 0 ≡ acts 13 14 (Constructor 2)
unfolding chars encode unicode_ident
constructor_action = refl

clear_action : unit (codes "clear x.") 0 ≡ acts 7 8 (Clear (codes "x"))
unfolding chars encode unicode_ident
clear_action = refl

skip_phrase : unit (codes "skip;") 0 ≡ phrase 4 5 (Step tiny.Skip)
unfolding chars encode unicode_ident
skip_phrase = refl

unfocus_phrase : unit (codes "unfocus .") 0 ≡ phrase 7 9 (Step tiny.Unfocus)
unfolding chars encode unicode_ident
unfocus_phrase = refl

focus_phrase : unit (codes "focus 1,2 .") 0 ≡ phrase 9 11 (Step (tiny.Focus (1 ∷ 2 ∷ [])))
unfolding chars encode unicode_ident
focus_phrase = refl

dot_step : unit (codes ".") 0 ≡ whole 1 (Step tiny.Dot)
unfolding chars encode unicode_ident
dot_step = refl

semicolon_step : unit (codes ";") 0 ≡ whole 1 (Step tiny.Semicolon)
unfolding chars encode unicode_ident
semicolon_step = refl

open_step : unit (codes "[") 0 ≡ whole 1 (Step tiny.BranchOpen)
unfolding chars encode unicode_ident
open_step = refl

bar_step : unit (codes "|") 0 ≡ whole 1 (Step tiny.Bar)
unfolding chars encode unicode_ident
bar_step = refl

close_step : unit (codes "]") 0 ≡ whole 1 (Step tiny.BranchClose)
unfolding chars encode unicode_ident
close_step = refl

positions_step : unit (codes "1,2: x") 0 ≡ whole 4 (Step (tiny.Positions (1 ∷ 2 ∷ [])))
unfolding chars encode unicode_ident
positions_step = refl

wildcard_step : unit (codes "* :") 0 ≡ whole 3 (Step tiny.Wildcard)
unfolding chars encode unicode_ident
wildcard_step = refl

block_unit : unit (codes "{ skip;. }") 0 ≡ whole 10 (Block (Item (Skip 2) (Item (Semicolon 6) (Item (Dot 7) End))))
unfolding chars encode unicode_ident
block_unit = refl

empty_block : unit (codes "{}") 0 ≡ whole 2 (Block End)
unfolding chars encode unicode_ident
empty_block = refl

action_block : unit (codes "{whd;#x}") 0 ≡ whole 8 (Block (Item (Action 1 (record { start = 1; deed = Whd })) (Item (Semicolon 4) (Item (Action 5 (record { start = 5; deed = Intro (codes "x") })) End))))
unfolding chars encode unicode_ident
action_block = refl

branch_block : unit (codes "{[*:|skip|2:]}") 0 ≡ whole 14 (Block (Item (Branches (Branch 1 (pick.Rest 2) End (Branch 4 pick.Next (Item (Skip 5) End) (Branch 9 (pick.Positions 10 (2 ∷ [])) End NoBranch))) 12) End))
unfolding chars encode unicode_ident
branch_block = refl

focus_block : unit (codes "{focus 1.skip unfocus}") 0 ≡ whole 22 (Block (Item (Focus 1 (1 ∷ []) true 8 (Item (Skip 9) End) 14) End))
unfolding chars encode unicode_ident
focus_block = refl

focus_semicolon : unit (codes "{focus 1;unfocus;}") 0 ≡ whole 18 (Block (Item (Focus 1 (1 ∷ []) false 8 End 9) (Item (Semicolon 16) End)))
unfolding chars encode unicode_ident
focus_semicolon = refl

no_token : unit (codes "axiom a : %.") 0 ≡ Stops Lex 10
unfolding chars encode unicode_ident
no_token = refl

-- of two faults the first one decides
no_token_needed : unit (codes "axiom % a") 0 ≡ Stops Lex 6
unfolding chars encode unicode_ident
no_token_needed = refl

closing_no_token : unit (codes "whd %") 0 ≡ Stops Lex 4
unfolding chars encode unicode_ident
closing_no_token = refl

leading_zero : unit (codes "constructor 01.") 0 ≡ Stops Lex 12
unfolding chars encode unicode_ident
leading_zero = refl

misplaced : unit (codes "axiom a Prop.") 0 ≡ Stops Syntax 8
unfolding chars encode unicode_ident
misplaced = refl

-- `_` names nothing
binder_is_no_name : unit (codes "axiom _ : Prop.") 0 ≡ Stops Syntax 6
unfolding chars encode unicode_ident
binder_is_no_name = refl

unclosed_phrase : unit (codes "whd skip") 0 ≡ Stops Syntax 4
unfolding chars encode unicode_ident
unclosed_phrase = refl

no_unit : unit (codes "whds") 0 ≡ Stops Syntax 0
unfolding chars encode unicode_ident
no_unit = refl

reserved_word : unit (codes "in") 0 ≡ Stops Syntax 0
unfolding chars encode unicode_ident
reserved_word = refl

bar_before_arms : unit (codes "exact match a with [|c") 0 ≡ Stops Syntax 20
unfolding chars encode unicode_ident
bar_before_arms = refl

not_focused : unit (codes "{focus 1 skip") 0 ≡ Stops Syntax 9
unfolding chars encode unicode_ident
not_focused = refl

cut_off : unit (codes "axiom a : Prop") 0 ≡ Stops Incomplete 14
unfolding chars encode unicode_ident
cut_off = refl

cut_off_phrase : unit (codes "whd ") 0 ≡ Stops Incomplete 4
unfolding chars encode unicode_ident
cut_off_phrase = refl

cut_off_block : unit (codes "{skip") 0 ≡ Stops Incomplete 5
unfolding chars encode unicode_ident
cut_off_block = refl

open_comment : unit (codes " (* a") 0 ≡ Stops Incomplete 5
unfolding chars encode unicode_ident
open_comment = refl

two_units : units (codes "qed. ; x") ≡ ((record { start = 0; end = 4; seen = 4; kind = Qed } ∷ record { start = 5; end = 6; seen = 6; kind = Step tiny.Semicolon } ∷ []), AtFault Syntax 7)
unfolding chars encode unicode_ident
two_units = refl

-- where no further sequence may be open
full_item : sequence 0 (codes "skip") 0 ≡ Stops TooDeep 0
unfolding chars encode unicode_ident
full_item = refl

full_separator : sequence 0 (codes " ;") 0 ≡ Stops TooDeep 1
unfolding chars encode unicode_ident
full_separator = refl

full_misplaced : sequence 0 (codes "x") 0 ≡ Stops Syntax 0
unfolding chars encode unicode_ident
full_misplaced = refl

-- an empty sequence has no first token
full_empty : sequence 0 (codes "]") 0 ≡ Got End 0
unfolding chars encode unicode_ident
full_empty = refl

full_cut_off : sequence 0 (codes "") 0 ≡ Stops Incomplete 0
unfolding chars encode unicode_ident
full_cut_off = refl

-- a term within a sequence counts with it
last_term : sequence 2 (codes "exact a") 0 ≡ Got (Item (Action 0 (record { start = 0; deed = Exact (Term 6 (Name (codes "a"))) })) End) 7
unfolding chars encode unicode_ident
last_term = refl

term_too_deep : sequence 1 (codes "exact a") 0 ≡ Stops TooDeep 6
unfolding chars encode unicode_ident
term_too_deep = refl

-- 200 sequences in one another, and 201
deepest : unit (codes "{" ++ replicate 199 91 ++ codes "skip") 0 ≡ Stops Incomplete 204
unfolding chars encode unicode_ident
deepest = refl

too_deep : unit (codes "{" ++ replicate 200 91 ++ codes "skip") 0 ≡ Stops TooDeep 201
unfolding chars encode unicode_ident
too_deep = refl
