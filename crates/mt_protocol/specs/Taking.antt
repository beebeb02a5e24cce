-- What a call that reads a command says of the bytes that it held and took.
use Rattle.std.specs.Prelude.{◌≡◌, ◌<◌, ◌≤◌, ◌⊎◌, ℕ, ◌+◌, ◌-◌, List, [], ◌∷◌, ◌++◌, length, drop, Option, Result, Ok, Err}
use Rattle.std.specs.Io.KnownBytes.{Consumes, IsAtEnd}
use Rattle.mt_text.specs.Causes.{Rose}
use Rattle.mt_term.specs.Trees.{Bytes}
use Rattle.mt_protocol.specs.declared.commands.Command.{Command}
use Rattle.mt_protocol.specs.declared.commands.CommandStop.{CommandStop}
use Rattle.mt_protocol.specs.declared.commands.CommandStop.TheVariants.{End, BadFrame, TooLong, ReadFault, OutOfMemory}
use Rattle.mt_protocol.specs.declared.frames.Shown.{Shown}
use Rattle.mt_protocol.specs.declared.frames.Shown.TheVariants.{Whole, Bad, Long, More}
use Rattle.mt_protocol.specs.Frames.{limited}

-- bytes read ahead, and how many bytes were read
pub record Held : Type 0 where
  pub bytes : Bytes
  pub read : ℕ

-- how many bytes of the input stand before a command's place
abbrev pub used : Held → ℕ
used h = h.read - length h.bytes

-- a command was read: these are its bytes, and those after it are held
pub record IsRead (before : ℕ) (bytes : Bytes) (new : Held) (c : Command) : Type 0 where
  pub size : ℕ
  pub is : limited before bytes ≡ Whole c size
  pub within : size ≤ length bytes
  pub held : new.bytes ≡ drop size bytes

-- by the answer, of the bytes held and taken
abbrev pub Answers : ℕ → Bytes → Held → Option Bytes → ℕ → ℕ → Result Command CommandStop → Type 0
Answers before bytes new left faults now (Ok c) = IsRead before bytes new c
Answers before bytes new left faults now (Err End) = (bytes ≡ []) × (new.bytes ≡ bytes) × IsAtEnd left
Answers before bytes new left faults now (Err BadFrame) =
    (new.bytes ≡ bytes) × ((limited before bytes ≡ Bad) ⊎ ((limited before bytes ≡ More) × (0 < length bytes) × IsAtEnd left))
Answers before bytes new left faults now (Err TooLong) = (new.bytes ≡ bytes) × (limited before bytes ≡ Long)
Answers before bytes new left faults now (Err ReadFault) = (new.bytes ≡ bytes) × (limited before bytes ≡ More) × Rose faults now
Answers before bytes new left faults now (Err OutOfMemory) = new.bytes ≡ bytes

-- some bytes were taken from the source, and the answer is that of the bytes held and taken
pub record Takes (old new : Held) (source left : Option Bytes) (faults now : ℕ) (result : Result Command CommandStop) : Type 0 where
  pub given : Bytes
  pub taken : Consumes source left given
  pub read : new.read ≡ old.read + length given
  pub later : faults ≤ now
  pub answer : Answers (used old) (old.bytes ++ given) new left faults now result

-- more bytes were taken, as many as are told
pub record Fills (old new : Held) (source left : Option Bytes) (count : ℕ) : Type 0 where
  pub given : Bytes
  pub taken : Consumes source left given
  pub bytes : new.bytes ≡ old.bytes ++ given
  pub read : new.read ≡ old.read + length given
  pub counted : count ≡ length given
  pub end : count ≡ 0 → IsAtEnd left

abbrev pub FillsTo : Held → Held → Option Bytes → Option Bytes → ℕ → ℕ → Result ℕ CommandStop → Type 0
FillsTo old new source left faults now (Ok n) = Fills old new source left n × (faults ≤ now)
FillsTo old new source left faults now (Err ReadFault) = (new ≡ old) × Consumes source left [] × (faults ≤ now) × Rose faults now
FillsTo old new source left faults now (Err OutOfMemory) = (new ≡ old) × Consumes source left [] × (faults ≤ now)
FillsTo old new source left faults now (Err stop) = ⊥

-- why no command is read where the input ends after these bytes
abbrev pub stop_at_end : Bytes → CommandStop
stop_at_end [] = End
stop_at_end (b ∷ bs) = BadFrame
