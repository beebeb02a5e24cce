-- The text of replies.
use Rattle.std.specs.Prelude.{ℕ, List, [], ◌∷◌, ◌++◌, codes, reverse}
use Rattle.std.specs.Fmt.{decimal}
use Rattle.mt_term.specs.Trees.{Tree, Bytes}
use Rattle.mt_term.specs.Declarations.{Declaration, Environment, Hypothesis}
use Rattle.mt_term.specs.Reasons.{Reason, Lex, Syntax, Incomplete, TooDeep, Unbound, Taken, Mismatch, NotAFunction, NotASort, NoExpected, Cycle, NotPositive, NotGuarded, BadElimination, BadHint, BadCoercion, OpenMetas, NoGoal, NoBranch, NoSuchPosition, NotHere, KernelRefused, Spent, number_of}
use Rattle.mt_term.specs.EnvironmentOf.{environment_of}
use Rattle.mt_term.specs.ReasonOf.{reason_of}
use Rattle.mt_printer.specs.Contexts.{context_names}
use Rattle.mt_printer.specs.Telescopes.{printed}
use Rattle.mt_protocol.specs.declared.replies.Reply.{Reply}
use Rattle.mt_protocol.specs.declared.replies.Reply.TheVariants.{Place, No, BadEdit}

abbrev pub line_end : Bytes
line_end = 10 ∷ []

-- a word, the number of accepted units and the place
abbrev pub placed : Bytes → ℕ → ℕ → Bytes
placed word units place = word ++ decimal units ++ codes " " ++ decimal place

unfoldable pub place_text : ℕ → ℕ → Bytes
place_text units place = placed (codes "ok ") units place ++ line_end

abbrev pub reason_name : Reason → Bytes
reason_name Lex = codes "Lex"
reason_name Syntax = codes "Syntax"
reason_name Incomplete = codes "Incomplete"
reason_name TooDeep = codes "TooDeep"
reason_name (Unbound x) = codes "Unbound"
reason_name (Taken x) = codes "Taken"
reason_name (Mismatch Γ T U es) = codes "Mismatch"
reason_name NotAFunction = codes "NotAFunction"
reason_name NotASort = codes "NotASort"
reason_name NoExpected = codes "NoExpected"
reason_name Cycle = codes "Cycle"
reason_name NotPositive = codes "NotPositive"
reason_name NotGuarded = codes "NotGuarded"
reason_name BadElimination = codes "BadElimination"
reason_name BadHint = codes "BadHint"
reason_name BadCoercion = codes "BadCoercion"
reason_name OpenMetas = codes "OpenMetas"
reason_name NoGoal = codes "NoGoal"
reason_name NoBranch = codes "NoBranch"
reason_name NoSuchPosition = codes "NoSuchPosition"
reason_name NotHere = codes "NotHere"
reason_name (KernelRefused n) = codes "KernelRefused"
reason_name Spent = codes "Spent"

-- the number and the name of a refusal, its place and its column
abbrev pub fault_text : Reason → Bytes
fault_text r = codes " " ++ decimal (number_of r) ++ codes " " ++ reason_name r

abbrev pub spot_text : ℕ → ℕ → Bytes
spot_text at column = codes " " ++ decimal at ++ codes " " ++ decimal column ++ line_end

abbrev pub name_line : Bytes → Bytes
name_line x = codes "  name " ++ x ++ line_end

abbrev pub reason_line : ℕ → Bytes
reason_line n = codes "  reason " ++ decimal n ++ line_end

-- an environment followed by more entries
abbrev pub followed_by : Environment → List Declaration → Environment
followed_by E es = record { entries = E.entries ++ es; names = E.names; below = E.below }

abbrev pub expected_word : Bytes
expected_word = line_end ++ codes "  expected "

-- the two types of a mismatch, under variables of these names
abbrev pub type_lines : Environment → List Bytes → Tree → Tree → Bytes
type_lines E xs T U = codes "  inferred " ++ printed E xs T ++ expected_word ++ printed E xs U ++ line_end

-- the names are those of the context, oldest first, chosen against the two types alone
abbrev pub mismatch_lines : Environment → List Hypothesis → Tree → Tree → Bytes
mismatch_lines E hs T U = type_lines E (context_names E.entries hs (T ∷ U ∷ [])) T U

-- the further lines of a refusal
abbrev pub more_text : Environment → Reason → Bytes
more_text E (Unbound x) = name_line x
more_text E (Taken x) = name_line x
more_text E (Mismatch Γ T U es) = mismatch_lines (followed_by E es) (reverse Γ) T U
more_text E (KernelRefused n) = reason_line n
more_text E _ = []

unfoldable pub refusal_text : ℕ → ℕ → Reason → ℕ → ℕ → Environment → Bytes
refusal_text units place r at column E = placed (codes "no ") units place ++ fault_text r ++ spot_text at column ++ more_text E r

unfoldable pub bad_edit_text : Bytes
bad_edit_text = codes "bad edit" ++ line_end

-- what is written for a reply
abbrev pub reply_text : Reply → Bytes
reply_text (Place units place) = place_text units place
reply_text (No units place fault column env) = refusal_text units place (reason_of fault.refusal) fault.at column (environment_of env)
reply_text BadEdit = bad_edit_text
