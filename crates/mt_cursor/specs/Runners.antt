-- What a runner means: how it reads a unit, what a unit makes of a state, and what its calls say of these.
use Rattle.std.specs.Prelude.{◌≡◌, ◌<◌, ◌≤◌, ◌+◌, ℕ, List, length, take, Option, Some, None, Result, Ok, Err}
use Rattle.std.specs.Str.{IsUtf8, IsCharBoundary}
use Rattle.mt_term.specs.Trees.{Bytes}
use Rattle.mt_term.specs.Reasons.{Reason}
use Rattle.mt_term.specs.ReasonOf.{reason_of}
use Rattle.mt_term.specs.declared.refusals.Fault.{Fault as HeldFault}
use Rattle.mt_term.specs.declared.refusals.Halt.{Halt}
use Rattle.mt_term.specs.declared.refusals.Halt.TheVariants.{Refused as HaltRefused, Spent as HaltSpent, OutOfMemory}
use Rattle.mt_text.specs.declared.UnitSpan.{UnitSpan}

-- why a unit is refused, and the place
abbrev pub Fault : Type 0
Fault = Reason × ℕ

-- what stands at a place of a text: a unit, nothing more, or a fault
pub data Parsed : Type 0 where
  Found : UnitSpan → Parsed
  AtEnd : Parsed
  Faults : Fault → Parsed

-- what a unit makes of a state, with what it costs
pub data Stepped (S : Type 0) : Type 0 where
  Becomes : S → ℕ → Stepped S
  Refuses : Fault → ℕ → Stepped S
  Spends : ℕ → Stepped S

-- the two functions of a runner
pub record Rules (S : Type 0) : Type 0 where
  pub parse : Bytes → ℕ → Parsed
  pub step : S → Bytes → UnitSpan → Stepped S

abbrev pub cost_of : {S : Type 0} → Stepped S → ℕ
cost_of (Becomes s c) = c
cost_of (Refuses b c) = c
cost_of (Spends c) = c

-- a unit that is read at some place of a text
pub record IsUnitOf {S : Type 0} (rules : Rules S) (text : Bytes) (u : UnitSpan) : Type 0 where
  pub at : ℕ
  pub bound : IsCharBoundary text at
  pub is : rules.parse text at ≡ Found u

-- ---- laws

-- a unit begins at its place or after it, is not empty, lies in the bytes that decide it, and has its places on the bounds of characters
pub record IsPlaced (text : Bytes) (at : ℕ) (u : UnitSpan) : Type 0 where
  pub after : at ≤ u.start
  pub order : u.start < u.end
  pub reach : u.end ≤ u.seen
  pub within : u.seen ≤ length text
  pub start : IsCharBoundary text u.start
  pub stop : IsCharBoundary text u.end
  pub bound : IsCharBoundary text u.seen

abbrev pub PlaceLaw : {S : Type 0} → Rules S → Type 0
PlaceLaw rules = (text : Bytes) (at : ℕ) (u : UnitSpan) → IsUtf8 text → IsCharBoundary text at
    → rules.parse text at ≡ Found u → IsPlaced text at u

-- the place of a fault is the bound of a character
abbrev pub FaultLaw : {S : Type 0} → Rules S → Type 0
FaultLaw rules = (text : Bytes) (at : ℕ) (b : Fault) → IsUtf8 text → IsCharBoundary text at
    → rules.parse text at ≡ Faults b → IsCharBoundary text b.1

abbrev pub StepFaultLaw : {S : Type 0} → Rules S → Type 0
StepFaultLaw {S} rules = (s : S) (text : Bytes) (u : UnitSpan) (b : Fault) (c : ℕ) → IsUtf8 text → IsUnitOf rules text u
    → rules.step s text u ≡ Refuses b c → IsCharBoundary text b.1

-- a unit and its step are those of each text that begins with the same `seen` bytes
pub record IsSameUnit {S : Type 0} (rules : Rules S) (a b : Bytes) (at : ℕ) (u : UnitSpan) : Type 0 where
  pub unit : rules.parse b at ≡ Found u
  pub step : (s : S) → rules.step s b u ≡ rules.step s a u

abbrev pub SeenLaw : {S : Type 0} → Rules S → Type 0
SeenLaw rules = (a b : Bytes) (at : ℕ) (u : UnitSpan) → IsUtf8 a → IsUtf8 b → IsCharBoundary a at
    → rules.parse a at ≡ Found u → take u.seen a ≡ take u.seen b → IsSameUnit rules a b at u

-- ---- answers

abbrev pub fault_of : HeldFault → Fault
fault_of f = (reason_of f.refusal, f.at)

-- what is read, by the answer; want of memory says nothing
abbrev pub Parses : Parsed → Result (Option UnitSpan) Halt → Type 0
Parses p (Ok (Some u)) = p ≡ Found u
Parses p (Ok None) = p ≡ AtEnd
Parses p (Err (HaltRefused f)) = p ≡ Faults (fault_of f)
Parses p (Err HaltSpent) = ⊥
Parses p (Err OutOfMemory) = Unit {0}

-- the step of a unit, by the answer and the states before and after: nothing changes but by an accepted unit
abbrev pub StepsTo : {S : Type 0} → Stepped S → S → S → Result (Unit {0}) Halt → Type 0
StepsTo d old new (Ok _) = d ≡ Becomes new (cost_of d)
StepsTo d old new (Err (HaltRefused f)) = (d ≡ Refuses (fault_of f) (cost_of d)) × (new ≡ old)
StepsTo d old new (Err HaltSpent) = (d ≡ Spends (cost_of d)) × (new ≡ old)
StepsTo d old new (Err OutOfMemory) = new ≡ old

-- the count of steps before and after: exactly the cost, or at most that where memory is wanting
abbrev pub Costs : ℕ → ℕ → ℕ → Result (Unit {0}) Halt → Type 0
Costs cost before now (Err OutOfMemory) = now ≤ before + cost
Costs cost before now _ = now ≡ before + cost

-- all marks that are live stay so, with their states
abbrev pub MarksKept : {M S : Type 0} → (M → Option S) → (M → Option S) → Type 0
MarksKept {M} {S} old new = (m : M) (s : S) → old m ≡ Some s → new m ≡ Some s

-- so do those that are not younger than a mark
abbrev pub OlderKept : {M S : Type 0} → (M → ℕ) → M → (M → Option S) → (M → Option S) → Type 0
OlderKept {M} {S} age m old new = (other : M) (s : S) → age other ≤ age m → old other ≡ Some s → new other ≡ Some s

-- no live mark is younger
abbrev pub IsNewest : {M S : Type 0} → (M → ℕ) → M → (M → Option S) → Type 0
IsNewest {M} {S} age m marked = (other : M) (s : S) → marked other ≡ Some s → age other ≤ age m
