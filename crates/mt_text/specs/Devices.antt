-- Devices in memory, as contracts see them.
use Rattle.std.specs.Prelude.{ℕ, List, ◌+◌, ◌-◌, ◌^◌, min}

-- a source in memory: the bytes still to come, at most how many a read gives, the numbers of the
-- reads that fail,
-- the number of the next read (which stands at its type's end), and the count of faults
pub record SourceView : Type 0 where
  pub coming : List ℕ
  pub piece : ℕ
  pub failing : List ℕ
  pub turn : ℕ
  pub count : ℕ

-- a sink in memory: what it got, how many bytes it holds at most, and the rest as for a source
pub record SinkView : Type 0 where
  pub held : List ℕ
  pub room : ℕ
  pub piece : ℕ
  pub failing : List ℕ
  pub turn : ℕ
  pub count : ℕ

-- the number after n, for the numbers of calls
abbrev pub next_turn : ℕ → ℕ
next_turn n = min (n + 1) (2 ^ 128 - 1)
