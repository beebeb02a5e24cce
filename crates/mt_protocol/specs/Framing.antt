-- The text that follows a line, as the code finds it.
use Rattle.std.specs.Prelude.{◌≡◌, ◌<◌, ◌≤◌, ℕ, ◌&&◌, true, false, eqb, length, take, slice_index}
use Rattle.std.specs.Str.{is_utf8}
use Rattle.mt_term.specs.Trees.{Bytes}
use Rattle.mt_protocol.specs.declared.frames.Framed.{Framed}
use Rattle.mt_protocol.specs.declared.frames.Framed.TheVariants.{Text, Bad, Long, More}
use Rattle.mt_protocol.specs.Frames.{most_text}

-- by what is found of a text of so many bytes
abbrev pub IsFramed : ℕ → Bytes → Framed → Type 0
IsFramed len rest Long = most_text < len
IsFramed len rest More = (len ≤ most_text) × (length rest ≤ len)
IsFramed len rest (Text text) = (len ≤ most_text) × (len < length rest) × (text.now ≡ take len rest) × ((eqb (slice_index rest len) 10 && is_utf8 (take len rest)) ≡ true)
IsFramed len rest Bad = (len ≤ most_text) × (len < length rest) × ((eqb (slice_index rest len) 10 && is_utf8 (take len rest)) ≡ false)
