-- Texts that are copied, and texts with a range replaced.
use Rattle.std.proofs.Common.{◌≡◌, ◌≤◌, ℕ, ◌+◌, ◌-◌, Bool, true, false, ◌&&◌, nat_le, List, [], ◌∷◌, ◌++◌, length, take, drop, Result, Ok, Err, refl, sym, ap, ◌∙◌, subst, arith, length-append}
use Rattle.std.proofs.lemmas.Bool.{leb-true}
use Rattle.std.proofs.lemmas.List.{take-append-le, take_all, length-take-le, append_assoc}
use Rattle.std.proofs.lemmas.Str.{IsUtf8-from_is_utf8, is_utf8-from_IsUtf8}
use Rattle.std.proofs.Common.{length-drop, String}
use Rattle.std.specs.Str.{IsUtf8, IsCharBoundary, is_utf8}
use Rattle.mt_term.specs.Trees.{Bytes}
use Rattle.mt_term.specs.declared.refusals.Halt.TheVariants as halt
use Rattle.mt_cursor.specs.declared.stops.CursorStop.{CursorStop}
use Rattle.mt_cursor.specs.declared.stops.CursorStop.TheVariants.{BadEdit, Halt as Halted}
use Rattle.mt_cursor.specs.Sessions.{CanReplace, is_text, most, replaced}
use Rattle.mt_cursor.specs.Texts.{HasBytes, IsCopyOf, IsTextOf, Replaces, Splices}

text_by : (bytes : Bytes) (b : Bool) → is_utf8 bytes ≡ true → nat_le (length bytes) most ≡ b → is_text bytes ≡ b
text_by bytes b utf8 short = ap (λ u. u && nat_le (length bytes) most) utf8 ∙ short

pub copy_is_text : {A : Type 0} (bytes : Bytes) (r : Result (String A) CursorStop) → is_utf8 bytes ≡ true → IsCopyOf bytes r → IsTextOf bytes r
copy_is_text bytes (Ok s) utf8 h = (text_by bytes true utf8 h.0, h.1)
copy_is_text bytes (Err BadEdit) utf8 h = text_by bytes false utf8 h
copy_is_text bytes (Err (Halted (halt.Refused f))) utf8 h = h
copy_is_text bytes (Err (Halted halt.Spent)) utf8 h = h
copy_is_text bytes (Err (Halted halt.OutOfMemory)) utf8 h = h

no_text_by : (bytes : Bytes) (b : Bool) → is_utf8 bytes ≡ b → ¬ (IsUtf8 bytes) → is_text bytes ≡ false
no_text_by bytes true e none = absurd (none (IsUtf8-from_is_utf8 bytes e))
no_text_by bytes false e none = ap (λ u. u && nat_le (length bytes) most) e

pub no_text : (bytes : Bytes) → ¬ (IsUtf8 bytes) → is_text bytes ≡ false
no_text bytes none = no_text_by bytes (is_utf8 bytes) refl none

pub splice_replaces : {A : Type 0} (start del : ℕ) (new text : Bytes) (r : Result (String A) CursorStop) → IsCharBoundary text start → IsCharBoundary text (start + del)
    → IsUtf8 new → nat_le (length text - del + length new) most ≡ true → Splices start (start + del) new text r → Replaces start del new text r
splice_replaces start del new text (Ok s) first last utf8 room h =
    (record { first = first; last = last; new_text = is_utf8-from_IsUtf8 new utf8; short = leb-true (length text - del + length new) most room }, h)
splice_replaces start del new text (Err BadEdit) first last utf8 room h = absurd h
splice_replaces start del new text (Err (Halted (halt.Refused f))) first last utf8 room h = h
splice_replaces start del new text (Err (Halted halt.Spent)) first last utf8 room h = h
splice_replaces start del new text (Err (Halted halt.OutOfMemory)) first last utf8 room h = h

-- what stands before the range stays
pub replaced_front : (start del : ℕ) (new text : Bytes) → start ≤ length text → take start text ≡ take start (replaced start del new text)
replaced_front start del new text le =
    sym (ap (take start) (append_assoc (take start text) new (drop (start + del) text))
    ∙ take-append-le start (take start text) (new ++ drop (start + del) text) (subst (λ n. start ≤ n) (sym (length-take-le start text le)) (omega arith))
    ∙ take_all start (take start text) (subst (λ n. n ≤ start) (sym (length-take-le start text le)) (omega arith)))

pub replaced_short : (start del : ℕ) (new text : Bytes) → CanReplace start del new text → length (replaced start del new text) ≤ most
replaced_short start del new text can =
    let a : length (replaced start del new text) ≡ length (take start text ++ new) + length (drop (start + del) text) = length-append (take start text ++ new) (drop (start + del) text) in
    let b : length (take start text ++ new) ≡ length (take start text) + length new = length-append (take start text) new in
    omega (arith, a, b, length-take-le start text can.first.0, length-drop (start + del) text, can.short, can.first.0, can.last.0)
