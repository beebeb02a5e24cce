-- Kinds of endings.
use Rattle.std.specs.Prelude.{◌≤◌, ℕ, List, Option, length}
use Rattle.std.specs.Io.KnownBytes.{Consumes}
use Rattle.mt_session.specs.declared.serving.Status.{Status}
use Rattle.mt_session.specs.declared.serving.Status.TheVariants.{Done, Refused, Usage, BadFrame, TooLong, ReadFault, WriteFault, OutOfMemory}

-- the input was read to its end, or as far as decides the run, and all was written
abbrev pub IsWhole : Status → Type 0
IsWhole Done = Unit {0}
IsWhole Refused = Unit {0}
IsWhole BadFrame = Unit {0}
IsWhole TooLong = Unit {0}
IsWhole _ = ⊥

-- the run was cut off after its input was read, or for want of memory
abbrev pub IsCut : Status → Type 0
IsCut WriteFault = Unit {0}
IsCut OutOfMemory = Unit {0}
IsCut _ = ⊥

-- no unit was tried
abbrev pub IsUnread : Status → Type 0
IsUnread Usage = Unit {0}
IsUnread ReadFault = Unit {0}
IsUnread _ = ⊥

-- an ending after a script was read that is not too long
abbrev pub IsAnswer : Status → Type 0
IsAnswer Usage = ⊥
IsAnswer TooLong = ⊥
IsAnswer ReadFault = ⊥
IsAnswer _ = Unit {0}

-- the exit status of the program
abbrev pub code_of : Status → ℕ
code_of Done = 0
code_of Refused = 1
code_of Usage = 2
code_of BadFrame = 3
code_of TooLong = 4
code_of ReadFault = 5
code_of WriteFault = 6
code_of OutOfMemory = 7

-- the source gave at most so many bytes, where it tells them
abbrev pub GivesAtMost : ℕ → Option (List ℕ) → Option (List ℕ) → Type 0
GivesAtMost n old new = (given : List ℕ) × (length given ≤ n) × Consumes old new given
