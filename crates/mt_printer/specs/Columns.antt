-- The column of a place of a text.
use Rattle.std.specs.Prelude.{ℕ, zero, suc, ◌+◌, false, eqb, if◌then◌else◌, List, slice_index}
use Rattle.std.specs.Prelude.{slice_range, chars}
use Rattle.unicode_width.specs.Width.{str_width}

-- the place after the last line end before a place, or 0
abbrev pub line_start : List ℕ → ℕ → ℕ
line_start text zero = 0
line_start text (suc n) = if eqb (slice_index text n) 10 then suc n else line_start text n

abbrev pub line_before : List ℕ → ℕ → List ℕ
line_before text at = slice_range text (line_start text at) at

-- one more than the width of the text from the last line end
abbrev pub column_of : List ℕ → ℕ → ℕ
column_of text at = str_width false (chars (line_before text at)) + 1
