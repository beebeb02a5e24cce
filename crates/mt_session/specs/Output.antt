-- The text of replies and states.
use Rattle.std.specs.Prelude.{ℕ, Bool, false, if◌then◌else◌, List, [], ◌∷◌, ◌++◌, length, codes, Option, Some, None, nat_lt}
use Rattle.std.specs.Str.{is_utf8}
use Rattle.std.specs.Fmt.{decimal}
use Rattle.mt_term.specs.Trees.{Bytes}
use Rattle.mt_term.specs.Reasons.{Reason, Lex, Syntax, Incomplete, TooDeep, Unbound, Taken, Mismatch, NotAFunction, NotASort, NoExpected, Cycle, NotPositive, NotGuarded, BadElimination, BadHint, BadCoercion, OpenMetas, NoGoal, NoBranch, NoSuchPosition, NotHere, KernelRefused, Spent, number_of}
use Rattle.mt_term.specs.ScriptState.{State}
use Rattle.mt_printer.specs.Columns.{column_of}
use Rattle.mt_printer.specs.EnvText.{env_text}
use Rattle.mt_printer.specs.GoalsText.{goals_text}
use Rattle.mt_session.specs.declared.serving.Status.{Status}
use Rattle.mt_session.specs.declared.serving.Status.TheVariants.{Done as RunDone, Refused as RunRefused, BadFrame, TooLong}
use Rattle.mt_session.specs.Moves.{Fault}
use Rattle.mt_session.specs.Runs.{Run, run, cost, is_clean}

abbrev pub line_end : List ℕ
line_end = 10 ∷ []

-- a word, the number of accepted units and the place
abbrev pub placed : List ℕ → ℕ → ℕ → List ℕ
placed word units place = word ++ decimal units ++ codes " " ++ decimal place

-- the reply where no unit was refused
abbrev pub ok_text : ℕ → ℕ → List ℕ
ok_text units place = placed (codes "ok ") units place ++ line_end

abbrev pub reason_name : Reason → List ℕ
reason_name Lex = codes "Lex"
reason_name Syntax = codes "Syntax"
reason_name Incomplete = codes "Incomplete"
reason_name TooDeep = codes "TooDeep"
reason_name (Unbound x) = codes "Unbound"
reason_name (Taken x) = codes "Taken"
reason_name (Mismatch Γ T U es) = codes "Mismatch"
reason_name NotAFunction = codes "NotAFunction"
reason_name NotASort = codes "NotASort"
reason_name NoExpected = codes "NoExpected"
reason_name Cycle = codes "Cycle"
reason_name NotPositive = codes "NotPositive"
reason_name NotGuarded = codes "NotGuarded"
reason_name BadElimination = codes "BadElimination"
reason_name BadHint = codes "BadHint"
reason_name BadCoercion = codes "BadCoercion"
reason_name OpenMetas = codes "OpenMetas"
reason_name NoGoal = codes "NoGoal"
reason_name NoBranch = codes "NoBranch"
reason_name NoSuchPosition = codes "NoSuchPosition"
reason_name NotHere = codes "NotHere"
reason_name (KernelRefused n) = codes "KernelRefused"
reason_name Spent = codes "Spent"

-- the number and the name of a refusal
abbrev pub fault_text : Reason → List ℕ
fault_text r = codes " " ++ decimal (number_of r) ++ codes " " ++ reason_name r

-- the place of a refusal, and its column
abbrev pub spot_text : ℕ → ℕ → List ℕ
spot_text at column = codes " " ++ decimal at ++ codes " " ++ decimal column ++ line_end

-- the line that says the name, or the kernel's reason
abbrev pub name_line : Bytes → List ℕ
name_line x = codes "  name " ++ x ++ line_end

abbrev pub more_of : Reason → List ℕ
more_of (Unbound x) = name_line x
more_of (Taken x) = name_line x
more_of (KernelRefused n) = codes "  reason " ++ decimal n ++ line_end
more_of _ = []

-- the reply where a unit was refused
abbrev pub no_text : ℕ → ℕ → Reason → ℕ → ℕ → List ℕ
no_text units place r at column =
    placed (codes "no ") units place ++ fault_text r ++ spot_text at column ++ more_of r

abbrev pub end_text : List ℕ
end_text = codes "end" ++ line_end

-- a state: the number of accepted units and the place, the environment, the proof
abbrev pub state_text : State → List ℕ
state_text s = placed (codes "state ") s.units s.place ++ line_end ++ env_text s ++ goals_text s ++ end_text

abbrev pub reply : Bytes → State → Option Fault → Bytes
reply text s None = ok_text s.units s.place
reply text s (Some f) = no_text s.units s.place f.0 f.1 (column_of text f.1)

-- the last reply, and the state
abbrev pub run_text : Bytes → Run → Bytes
run_text text r = reply text r.state r.fault ++ state_text r.state

-- the most bytes of a script
abbrev pub most : ℕ
most = 1048576

-- whether there are more bytes than a script may have
abbrev pub is_too_long : Bytes → Bool
is_too_long bytes = nat_lt most (length bytes)

-- whether the bytes are a script
abbrev pub is_script : Bytes → Bool
is_script bytes = if is_too_long bytes then false else is_utf8 bytes

-- what is written for an input, the status, and the charges
abbrev pub output_of : Bytes → Bytes
output_of bytes = if is_script bytes then run_text bytes (run bytes) else []

abbrev pub script_status : Bytes → Status
script_status bytes = if is_clean (run bytes) then RunDone else RunRefused

abbrev pub status_of : Bytes → Status
status_of bytes = if is_too_long bytes then TooLong else (if is_utf8 bytes then script_status bytes else BadFrame)

abbrev pub charges_of : Bytes → ℕ
charges_of bytes = if is_script bytes then cost bytes else 0
