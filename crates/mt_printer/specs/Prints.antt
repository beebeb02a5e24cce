-- What a call that prints a text says of the sink.
use Rattle.std.specs.Prelude.{◌≡◌, ◌≤◌, ℕ, List, Option, Result, OnOk, IfErr}
use Rattle.std.specs.Io.KnownBytes.{Appends}
use Rattle.mt_text.specs.Causes.{AppendsPrefix, Rose}
use Rattle.mt_printer.specs.declared.printing.PrintStop.{PrintStop}
use Rattle.mt_printer.specs.declared.printing.PrintStop.TheVariants.{WriteFault, OutOfMemory}

-- a failing sink: its count rose and it got a prefix of the text; want of memory: it got nothing
abbrev pub Stops : Option (List ℕ) → Option (List ℕ) → ℕ → ℕ → List ℕ → PrintStop → Type 0
Stops old new before now text WriteFault = Rose before now × AppendsPrefix old new text
Stops old new before now text OutOfMemory = (new ≡ old) × (now ≡ before)

-- all of the text was appended, or the call stopped as above; the count of faults never falls
pub record Prints {T : Type 0} (old new : Option (List ℕ)) (before now : ℕ) (text : List ℕ)
    (result : Result T PrintStop) : Type 0 where
  pub all : OnOk result (Appends old new text)
  pub stops : IfErr result (Stops old new before now text)
  pub later : before ≤ now
