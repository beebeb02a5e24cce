-- The grammar of closed tacticals, and units as a whole.
use Rattle.std.specs.Prelude.{ℕ, zero, suc, ◌+◌, ◌-◌, Bool, true, false, ◌||◌, ◌&&◌, ◌==◌}
use Rattle.std.specs.Prelude.{if◌then◌else◌, List, [], ◌∷◌, ◌++◌, length, bytes_eq, codes, Option}
use Rattle.std.specs.Prelude.{Some, None, Result, Ok, Err}
use Rattle.mt_lexer.specs.declared.Token.{Token}
use Rattle.mt_lexer.specs.declared.TokenKind.{TokenKind}
use Rattle.mt_lexer.specs.declared.TokenKind.TheVariants as kind
use Rattle.mt_lexer.specs.declared.LexStop.{LexStop}
use Rattle.mt_lexer.specs.declared.LexStop.TheVariants as lex
use Rattle.mt_lexer.specs.Tokens.{next_token}
use Rattle.mt_term.specs.Reasons.{Reason, Lex, Syntax, Incomplete, TooDeep}
use Rattle.mt_tactical.specs.Tacticals.{Sequence, Step, Choices, End, Item, Action, Skip, Semicolon}
use Rattle.mt_tactical.specs.Tacticals.{Dot, Branches, Focus, NoBranch, Branch}
use Rattle.mt_tactical.specs.declared.Pick.{Pick}
use Rattle.mt_tactical.specs.declared.Pick.TheVariants as pick
use Rattle.mt_term_parser.specs.Readings.{Reading, Got, Stops, then_read, many_from, needed}
use Rattle.mt_term_parser.specs.Readings.{word_of, sign_of, is_word, is_name_kind, passed, sign}
use Rattle.mt_term_parser.specs.Readings.{number, seen, sees, sees_sign, sees_word}
use Rattle.mt_term_parser.specs.Grammar.{separated}
use Rattle.mt_tiny.specs.declared.Tiny.{Tiny}
use Rattle.mt_tiny.specs.declared.Tiny.TheVariants as tiny
use Rattle.mt_unit_parser.specs.declared.words.Verb.{Verb}
use Rattle.mt_unit_parser.specs.declared.words.Command.{Command}
use Rattle.mt_unit_parser.specs.declared.words.Command.TheVariants as command
use Rattle.mt_unit_parser.specs.declared.words.Lead.{Lead}
use Rattle.mt_unit_parser.specs.declared.words.Lead.TheVariants as lead
use Rattle.mt_unit_parser.specs.WrittenUnits.{WrittenAction, WrittenKind, WrittenUnit}
use Rattle.mt_unit_parser.specs.WrittenUnits.{Step as OneStep, Block}
use Rattle.mt_unit_parser.specs.Units.{is_spelled, spelled, nums, constraint, assumed, theorem}
use Rattle.mt_unit_parser.specs.Units.{defined, inductive, letting, hint, coercion, qed, verb_of}
use Rattle.mt_unit_parser.specs.Units.{action}

-- ---- items

abbrev pub lead_of_sign : ℕ → Lead
lead_of_sign c =
    if c == 91
    then lead.Open
    else (if c == 59 then lead.Semicolon else (if c == 46 then lead.Dot else lead.Other))

abbrev pub lead_of_rest : List ℕ → Token → Lead
lead_of_rest text t =
    if is_spelled (codes "skip") text t then lead.Skip else
    (if is_spelled (codes "focus") text t then lead.Focus else lead_of_sign (sign_of text t))

abbrev pub lead_by : Option Verb → List ℕ → Token → Lead
lead_by (Some v) text t = lead.Action v
lead_by None text t = lead_of_rest text t

-- what a token is in a sequence
abbrev pub lead_of : List ℕ → Token → Lead
lead_of text t = lead_by (verb_of text t) text t

abbrev pub begins_item : Lead → Bool
begins_item (lead.Action v) = true
begins_item lead.Skip = true
begins_item lead.Open = true
begins_item lead.Focus = true
begins_item _ = false

abbrev pub is_separator : Lead → Bool
is_separator lead.Semicolon = true
is_separator lead.Dot = true
is_separator _ = false

-- ---- lists

abbrev pub Block' : Type 0
Block' = Sequence WrittenAction

abbrev pub Step' : Type 0
Step' = Step WrittenAction

-- a sign, and the item after it if there is one
pub record WrittenLed : Type 0 where
  pub sign : Step'
  pub item : Option Step'

abbrev pub item_onto : Option Step' → Block' → Block'
item_onto None more = more
item_onto (Some s) more = Item s more

abbrev pub led_onto : List WrittenLed → Block' → Block'
led_onto [] more = more
led_onto (l ∷ rest) more = Item l.sign (item_onto l.item (led_onto rest more))

pub record WrittenBranch : Type 0 where
  pub at : ℕ
  pub pick : Pick
  pub body : Block'

abbrev pub choices_onto : List WrittenBranch → Choices WrittenAction → Choices WrittenAction
choices_onto [] more = more
choices_onto (b ∷ rest) more = Branch b.at b.pick b.body (choices_onto rest more)

abbrev pub choices : List WrittenBranch → Choices WrittenAction
choices bs = choices_onto bs NoBranch

-- ---- parts of items; `inner` reads a sequence within the sequence

-- the place of a sign
abbrev pub placed : ℕ → List ℕ → ℕ → Reading ℕ
placed c text at = then_read (needed text at) (λ t _. passed (sign_of text t == c) t t.start)

abbrev pub is_number_kind : TokenKind → Bool
is_number_kind (kind.Number n) = true
is_number_kind _ = false

-- nums ":" with the place of the first number
abbrev pub positions : List ℕ → Token → Reading Pick
positions text t =
    then_read (nums text t.start)
    (λ ns a. then_read (sign 58 text a) (λ _ end. Got (pick.Positions t.start ns) end))

-- "*" ":"
abbrev pub rest_of : List ℕ → Token → Reading Pick
rest_of text t = then_read (sign 58 text t.end) (λ _ end. Got (pick.Rest t.start) end)

abbrev pub pick_by : Option Token → List ℕ → ℕ → Reading Pick
pick_by None text at = Got pick.Next at
pick_by (Some t) text at =
    if is_number_kind t.kind
    then positions text t
    else (if sign_of text t == 42 then rest_of text t else Got pick.Next at)

-- [nums ":" | "*" ":"]
abbrev pub picked : List ℕ → ℕ → Reading Pick
picked text at = pick_by (seen text at) text at

-- br = [nums ":" | "*" ":"] seq, after its sign at a place
abbrev pub branch : (ℕ → Reading Block') → List ℕ → ℕ → ℕ → Reading WrittenBranch
branch inner text start at =
    then_read (picked text at) (λ p a.
    then_read (inner a) (λ s end. Got (record { at = start; pick = p; body = s }) end))

-- "|" br
abbrev pub barred : (ℕ → Reading Block') → List ℕ → ℕ → Reading WrittenBranch
barred inner text at = then_read (placed 124 text at) (λ start a. branch inner text start a)

-- br { "|" br } after "["
abbrev pub branch_list : (ℕ → Reading Block') → List ℕ → ℕ → ℕ → Reading (List WrittenBranch)
branch_list inner text start at =
    then_read (branch inner text start at) (λ b a.
    then_read (many_from text (sees_sign 124 text) (barred inner text) a)
    (λ more end. Got (b ∷ more) end))

-- br { "|" br } "]" after "["
abbrev pub branches : (ℕ → Reading Block') → List ℕ → ℕ → ℕ → Reading Step'
branches inner text start at =
    then_read (branch_list inner text start at) (λ bs a.
    then_read (placed 93 text a) (λ close end. Got (Branches (choices bs) close) end))

abbrev pub is_dot : Lead → Bool
is_dot lead.Dot = true
is_dot _ = false

-- ";" or "."
abbrev pub separator : List ℕ → ℕ → Reading (Bool × ℕ)
separator text at =
    then_read (needed text at)
    (λ t _. passed (is_separator (lead_of text t)) t (is_dot (lead_of text t), t.start))

abbrev pub unfocus_place : List ℕ → ℕ → Reading ℕ
unfocus_place text at =
    then_read (needed text at) (λ t _. passed (is_spelled (codes "unfocus") text t) t t.start)

-- nums (";" | ".") seq "unfocus" after "focus"
abbrev pub focus : (ℕ → Reading Block') → List ℕ → ℕ → ℕ → Reading Step'
focus inner text start at =
    then_read (nums text at) (λ ns a.
    then_read (separator text a) (λ s b.
    then_read (inner b) (λ body c.
    then_read (unfocus_place text c) (λ u end. Got (Focus start ns s.0 s.1 body u) end))))

-- the item that begins with this token, within so many sequences
abbrev pub item_by : Lead → ℕ → (ℕ → Reading Block') → List ℕ → Token → Reading Step'
item_by (lead.Action v) depth inner text t =
    then_read (action v depth text t) (λ a end. Got (Action t.start a) end)
item_by lead.Skip depth inner text t = Got (Skip t.start) t.end
item_by lead.Open depth inner text t = branches inner text t.start t.end
item_by lead.Focus depth inner text t = focus inner text t.start t.end
item_by _ depth inner text t = Stops Syntax t.start

abbrev pub optional_by : Option Token → ℕ → (ℕ → Reading Block') → List ℕ → ℕ
    → Reading (Option Step')
optional_by None depth inner text at = Got None at
optional_by (Some t) depth inner text at =
    if begins_item (lead_of text t)
    then then_read (item_by (lead_of text t) depth inner text t) (λ s end. Got (Some s) end)
    else Got None at

-- an item, or nothing
abbrev pub optional_item : ℕ → (ℕ → Reading Block') → List ℕ → ℕ → Reading (Option Step')
optional_item depth inner text at = optional_by (seen text at) depth inner text at

abbrev pub separated_by : Bool × ℕ → Step'
separated_by s = if s.0 then Dot s.1 else Semicolon s.1

-- (";" | ".") item
abbrev pub led_item : ℕ → (ℕ → Reading Block') → List ℕ → ℕ → Reading WrittenLed
led_item depth inner text at =
    then_read (separator text at) (λ s a.
    then_read (optional_item depth inner text a)
    (λ i end. Got (record { sign = separated_by s; item = i }) end))

abbrev pub sees_separator : List ℕ → ℕ → Bool
sees_separator text at = sees (λ t. is_separator (lead_of text t)) text at

-- item { (";" | ".") item }
abbrev pub items : ℕ → (ℕ → Reading Block') → List ℕ → ℕ → Reading Block'
items depth inner text at =
    then_read (optional_item depth inner text at) (λ first a.
    then_read (many_from text (sees_separator text) (led_item depth inner text) a)
    (λ rest end. Got (item_onto first (led_onto rest End)) end))

-- what may follow a sequence
abbrev pub ends_sequence : List ℕ → Token → Bool
ends_sequence text t =
    (sign_of text t == 125) || (sign_of text t == 124) || (sign_of text t == 93)
    || is_spelled (codes "unfocus") text t

abbrev pub full_at : Lead → ℕ → Reading Block'
full_at l place = Stops (if begins_item l || is_separator l then TooDeep else Syntax) place

-- where no further sequence may be open, an empty one may stand
abbrev pub full : List ℕ → ℕ → Token → Reading Block'
full text at t = if ends_sequence text t then Got End at else full_at (lead_of text t) t.start

-- a sequence, where this many terms and sequences may be open, it among them
abbrev pub sequence : ℕ → List ℕ → ℕ → Reading Block'
sequence zero text at = then_read (needed text at) (λ t _. full text at t)
sequence (suc room) text at = items (200 - room) (sequence room text) text at

-- ---- units

-- what follows a phrase: one of `.` `;` `[` `|` `]` `}`
abbrev pub closes : ℕ → Bool
closes c = (c == 46) || (c == 59) || (c == 91) || (c == 124) || (c == 93) || (c == 125)

-- a unit that ends here, where the next token has to close it
abbrev pub phrase : ℕ → WrittenKind → List ℕ → ℕ → Reading WrittenUnit
phrase start k text end =
    then_read (needed text end)
    (λ t _. passed (closes (sign_of text t)) t (record { start = start; end = end; seen = t.end; kind = k }))

-- any other unit
abbrev pub plain : ℕ → Reading WrittenKind → Reading WrittenUnit
plain start r =
    then_read r (λ k end. Got (record { start = start; end = end; seen = end; kind = k }) end)

-- ---- what a unit begins with

abbrev pub later_command : List ℕ → Command
later_command w =
    if bytes_eq w (codes "unification") then command.Unification else
    (if bytes_eq w (codes "coercion") then command.Coercion else
    (if bytes_eq w (codes "theorem") then command.Theorem else
    (if bytes_eq w (codes "qed") then command.Qed else command.Other)))

abbrev pub command_of_word : List ℕ → Command
command_of_word w =
    if bytes_eq w (codes "universe") then command.Universe else
    (if bytes_eq w (codes "axiom") then command.Axiom else
    (if bytes_eq w (codes "definition") then command.Definition else
    (if bytes_eq w (codes "inductive") then command.Inductive else
    (if bytes_eq w (codes "coinductive") then command.Coinductive else later_command w))))

abbrev pub command_of : List ℕ → Token → Command
command_of text t =
    if is_word (codes "let") text t then command.Let else
    (if is_name_kind t.kind then command_of_word (word_of text t) else command.Other)

-- the rest of a command
abbrev pub command_by : Command → List ℕ → Token → Reading WrittenKind
command_by command.Universe text t = constraint text t.end
command_by command.Axiom text t = assumed text t.end
command_by command.Definition text t = defined text t.end
command_by command.Inductive text t = inductive false text t.end
command_by command.Coinductive text t = inductive true text t.end
command_by command.Let text t = letting text t.end
command_by command.Unification text t = hint text t.end
command_by command.Coercion text t = coercion text t.end
command_by command.Theorem text t = theorem text t.end
command_by command.Qed text t = qed text t.end
command_by command.Other text t = Stops Syntax t.start

-- "{" seq "}"
abbrev pub block : List ℕ → ℕ → Reading WrittenKind
block text at =
    then_read (sequence 200 text at)
    (λ s a. then_read (sign 125 text a) (λ _ end. Got (Block s) end))

-- nums ":"
abbrev pub named : List ℕ → Token → Reading WrittenKind
named text t =
    then_read (nums text t.start)
    (λ ns a. then_read (sign 58 text a) (λ _ end. Got (OneStep (tiny.Positions ns)) end))

-- "*" ":"
abbrev pub all_named : List ℕ → ℕ → Reading WrittenKind
all_named text at = then_read (sign 58 text at) (λ _ end. Got (OneStep tiny.Wildcard) end)

abbrev pub signed_step : ℕ → List ℕ → Token → Reading WrittenKind
signed_step c text t =
    if c == 124 then Got (OneStep tiny.Bar) t.end else
    (if c == 93 then Got (OneStep tiny.BranchClose) t.end else
    (if c == 42 then all_named text t.end else
    (if c == 123 then block text t.end else Stops Syntax t.start)))

abbrev pub other_kind : List ℕ → Token → Reading WrittenKind
other_kind text t =
    if is_number_kind t.kind then named text t else signed_step (sign_of text t) text t

abbrev pub other_step : List ℕ → Token → Reading WrittenUnit
other_step text t =
    if is_spelled (codes "unfocus") text t
    then phrase t.start (OneStep tiny.Unfocus) text t.end
    else plain t.start (other_kind text t)

-- a single step, or a block
abbrev pub step_by : Lead → List ℕ → Token → Reading WrittenUnit
step_by (lead.Action v) text t =
    then_read (action v 0 text t) (λ a end. phrase t.start (OneStep (tiny.Action a)) text end)
step_by lead.Skip text t = phrase t.start (OneStep tiny.Skip) text t.end
step_by lead.Focus text t =
    then_read (nums text t.end) (λ ns end. phrase t.start (OneStep (tiny.Focus ns)) text end)
step_by lead.Open text t = plain t.start (Got (OneStep tiny.BranchOpen) t.end)
step_by lead.Semicolon text t = plain t.start (Got (OneStep tiny.Semicolon) t.end)
step_by lead.Dot text t = plain t.start (Got (OneStep tiny.Dot) t.end)
step_by lead.Other text t = other_step text t

abbrev pub is_command : Command → Bool
is_command command.Other = false
is_command _ = true

-- the unit that begins with this token
abbrev pub unit_by : List ℕ → Token → Reading WrittenUnit
unit_by text t =
    if is_command (command_of text t)
    then plain t.start (command_by (command_of text t) text t)
    else step_by (lead_of text t) text t

abbrev pub unit_from_kind : TokenKind → List ℕ → Token → Reading (Option WrittenUnit)
unit_from_kind kind.End text t = Got None 0
unit_from_kind _ text t = then_read (unit_by text t) (λ u end. Got (Some u) end)

abbrev pub unit_from : Result Token LexStop → List ℕ → Reading (Option WrittenUnit)
unit_from (Ok t) text = unit_from_kind t.kind text t
unit_from (Err (lex.Lex at)) text = Stops Lex at
unit_from (Err (lex.Incomplete at)) text = Stops Incomplete at

-- the unit that begins at a place, or the end of the text
abbrev pub unit : List ℕ → ℕ → Reading (Option WrittenUnit)
unit text at = unit_from (next_token text at) text

-- ---- all units of a text

-- how the units of a text end
pub data Ending : Type 0 where
  AtEnd : Ending
  AtFault : Reason → ℕ → Ending

-- units from a place on; `bound` bounds their number
abbrev pub units_from : ℕ → List ℕ → ℕ → List WrittenUnit × Ending
units_from zero text at = ([], AtEnd)
units_from (suc bound) text at =
    elim (unit text at) [
      | Got found end ↦ elim found [
        | None ↦ ([], AtEnd)
        | Some u ↦ (u ∷ (units_from bound text u.end).0, (units_from bound text u.end).1)
      ]
      | Stops r place ↦ ([], AtFault r place)
    ]

-- the units of a text, and how they end: no text has more units than bytes
abbrev pub units : List ℕ → List WrittenUnit × Ending
units text = units_from (suc (length text)) text 0
