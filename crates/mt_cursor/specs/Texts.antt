-- What is made of bytes and of a text with a range replaced.
use Rattle.std.specs.Prelude.{◌≡◌, ◌≤◌, ◌+◌, ◌++◌, ℕ, true, false, length, take, drop, string_bytes, String, Option, Some, None, Result, Ok, Err, nat_le}
use Rattle.std.specs.Str.{IsUtf8, IsCharBoundary}
use Rattle.mt_term.specs.Trees.{Bytes}
use Rattle.mt_term.specs.declared.refusals.Halt.TheVariants as halt
use Rattle.mt_cursor.specs.declared.stops.CursorStop.{CursorStop}
use Rattle.mt_cursor.specs.declared.stops.CursorStop.TheVariants.{BadEdit, Halt as Halted}
use Rattle.mt_cursor.specs.Sessions.{CanReplace, is_text, most, replaced}

-- a text of these bytes
pub record HasBytes {A : Type 0} (s : String A) (bytes : Bytes) : Type 0 where
  pub is : string_bytes s ≡ bytes
  pub utf8 : IsUtf8 (string_bytes s)

abbrev pub IsTextOf : {A : Type 0} → Bytes → Result (String A) CursorStop → Type 0
IsTextOf bytes (Ok s) = (is_text bytes ≡ true) × HasBytes s bytes
IsTextOf bytes (Err BadEdit) = is_text bytes ≡ false
IsTextOf bytes (Err (Halted halt.OutOfMemory)) = Unit {0}
IsTextOf bytes (Err (Halted h)) = ⊥

abbrev pub Replaces : {A : Type 0} → ℕ → ℕ → Bytes → Bytes → Result (String A) CursorStop → Type 0
Replaces start del new text (Ok s) = CanReplace start del new text × HasBytes s (replaced start del new text)
Replaces start del new text (Err BadEdit) = ¬ (CanReplace start del new text)
Replaces start del new text (Err (Halted halt.OutOfMemory)) = Unit {0}
Replaces start del new text (Err (Halted h)) = ⊥

-- or memory is wanting
abbrev pub Splices : {A : Type 0} → ℕ → ℕ → Bytes → Bytes → Result (String A) CursorStop → Type 0
Splices start end new text (Ok s) = HasBytes s (take start text ++ new ++ drop end text)
Splices start end new text (Err (Halted halt.OutOfMemory)) = Unit {0}
Splices start end new text (Err stop) = ⊥

-- a copy of a text that is not too long, or memory is wanting
abbrev pub IsCopyOf : {A : Type 0} → Bytes → Result (String A) CursorStop → Type 0
IsCopyOf text (Ok s) = (nat_le (length text) most ≡ true) × HasBytes s text
IsCopyOf text (Err BadEdit) = nat_le (length text) most ≡ false
IsCopyOf text (Err (Halted halt.OutOfMemory)) = Unit {0}
IsCopyOf text (Err (Halted h)) = ⊥

-- a range is inside the text and on the bounds of characters
abbrev pub IsRange : ℕ → ℕ → Bytes → Type 0
IsRange start del text = IsCharBoundary text start × IsCharBoundary text (start + del)

abbrev pub IsEndOf : ℕ → ℕ → Bytes → Option ℕ → Type 0
IsEndOf start del text (Some end) = (end ≡ start + del) × IsRange start del text
IsEndOf start del text None = ¬ (IsRange start del text)
