-- A cursor as contracts see it: a session over a runner, with a mark of the state before each accepted unit.
use Rattle.std.specs.Prelude.{◌≡◌, ◌≤◌, ◌⊎◌, ℕ, ◌+◌, List, [], ◌∷◌, ◌++◌, length, slice_get, unwrap_or, Option, Some, None, Result, Ok, Err, Bool, true, false}
use Rattle.std.specs.Str.{IsUtf8, is_utf8}
use Rattle.mt_term.specs.Trees.{Bytes}
use Rattle.mt_term.specs.declared.refusals.Halt.{Halt}
use Rattle.mt_term.specs.declared.refusals.Halt.TheVariants as halt
use Rattle.mt_text.specs.declared.UnitSpan.{UnitSpan}
use Rattle.mt_cursor.specs.declared.accepted.Accepted.{Accepted}
use Rattle.mt_cursor.specs.declared.stops.CursorStop.{CursorStop}
use Rattle.mt_cursor.specs.declared.stops.CursorStop.TheVariants.{BadEdit, Halt as Halted}
use Rattle.mt_cursor.specs.Runners.{Rules, Found, Stepped, Becomes, Refuses, Spends, fault_of, cost_of}
use Rattle.mt_cursor.specs.Sessions.{Standing, Session, Outcome, Hindrance, Refused, Spent, Turn, Goes, Over, Stops, turn, place_of, ends_within, fold, loaded, retracted, edited, is_text, most, CanReplace}

-- a runner, a text, and the accepted units, oldest first
pub record View (R M : Type 0) : Type 0 where
  pub runner : R
  pub text : Bytes
  pub accepted : List (Accepted M)

abbrev pub spans : {M : Type 0} → List (Accepted M) → List UnitSpan
spans [] = []
spans (a ∷ rest) = a.span ∷ spans rest

abbrev pub units_in : {R M : Type 0} → View R M → List UnitSpan
units_in v = spans v.accepted

abbrev pub session_in : {R M : Type 0} → View R M → Session
session_in v = record { text = v.text; count = length v.accepted }

abbrev pub standing_in : {R M S : Type 0} → (R → S) → View R M → Standing S
standing_in state v = record { units = units_in v; state = state v.runner }

-- the state in which it began: that of the oldest mark, or the present one
abbrev pub start_by : {R M S : Type 0} → (R → S) → (R → M → Option S) → R → List (Accepted M) → S
start_by state marked r [] = state r
start_by state marked r (a ∷ rest) = unwrap_or (marked r a.before) (state r)

abbrev pub start_of : {R M S : Type 0} → (R → S) → (R → M → Option S) → View R M → S
start_of state marked v = start_by state marked v.runner v.accepted

-- the runner is where the accepted units of the text lead from a state, and each mark leads back to the state before its unit
pub record IsRunFrom {R M S : Type 0} (rules : Rules S) (state : R → S) (marked : R → M → Option S) (age : M → ℕ) (s : S) (v : View R M) : Type 0 where
  pub utf8 : IsUtf8 v.text
  pub short : length v.text ≤ most
  pub now : standing_in state v ≡ fold rules v.text s (length v.accepted)
  pub before : (i : ℕ) (a : Accepted M) → slice_get v.accepted i ≡ Some a → marked v.runner a.before ≡ Some (fold rules v.text s i).state
  pub ages : (i j : ℕ) (a b : Accepted M) → i ≤ j → slice_get v.accepted i ≡ Some a → slice_get v.accepted j ≡ Some b → age a.before ≤ age b.before

-- it is a run from the state in which it began, in which no unit is accepted
pub record IsRun {R M S : Type 0} (rules : Rules S) (state : R → S) (marked : R → M → Option S) (age : M → ℕ) (IsEmpty : S → Type 0) (v : View R M) : Type 0 where
  pub empty : IsEmpty (start_of state marked v)
  pub run : IsRunFrom rules state marked age (start_of state marked v) v

-- ---- answers

-- nothing changed
pub record Unchanged {R M S : Type 0} (state : R → S) (old new : View R M) : Type 0 where
  pub text : new.text ≡ old.text
  pub accepted : new.accepted ≡ old.accepted
  pub same_state : state new.runner ≡ state old.runner

abbrev pub LoadsTo : {R M S : Type 0} → (R → S) → Bytes → View R M → View R M → Result (Unit {0}) CursorStop → Type 0
LoadsTo state text old new (Ok _) = (is_text text ≡ true) × (session_in new ≡ loaded text)
LoadsTo state text old new (Err BadEdit) = (is_text text ≡ false) × Unchanged state old new
LoadsTo state text old new (Err (Halted halt.OutOfMemory)) = Unchanged state old new
LoadsTo state text old new (Err (Halted h)) = ⊥

abbrev pub RetractsTo : {R M S : Type 0} → (R → S) → ℕ → View R M → View R M → Result (Unit {0}) CursorStop → Type 0
RetractsTo state n old new (Ok _) = session_in new ≡ retracted n (session_in old)
RetractsTo state n old new (Err (Halted halt.OutOfMemory)) = Unchanged state old new
RetractsTo state n old new (Err h) = ⊥

abbrev pub EditsTo : {R M S : Type 0} → (R → S) → ℕ → ℕ → Bytes → View R M → View R M → Result (Unit {0}) CursorStop → Type 0
EditsTo state start del bytes old new (Ok _) = CanReplace start del bytes old.text × (session_in new ≡ edited start del bytes (units_in old) (session_in old))
EditsTo state start del bytes old new (Err BadEdit) = ¬ (CanReplace start del bytes old.text) × Unchanged state old new
EditsTo state start del bytes old new (Err (Halted halt.OutOfMemory)) = Unchanged state old new
EditsTo state start del bytes old new (Err (Halted h)) = ⊥

-- why a command was hindered that takes units; want of memory hinders for no reason of the session
abbrev pub HindersAs : Option Hindrance → Result (Unit {0}) CursorStop → Type 0
HindersAs h (Ok _) = h ≡ None
HindersAs h (Err (Halted (halt.Refused f))) = h ≡ Some (Refused (fault_of f))
HindersAs h (Err (Halted halt.Spent)) = h ≡ Some Spent
HindersAs h (Err _) = ⊥

-- a command that takes units led to its outcome, at exactly its cost
pub record Reaches {R M S : Type 0} (state : R → S) (o : Outcome S) (before now : ℕ) (new : View R M) (result : Result (Unit {0}) CursorStop) : Type 0 where
  pub standing : standing_in state new ≡ o.standing
  pub why : HindersAs o.hindrance result
  pub cost : now ≡ before + o.cost

-- it was cut off for want of memory between a number of units and its outcome, at no more than its cost
pub record IsCutOff {R M S : Type 0} (least : ℕ) (o : Outcome S) (before now : ℕ) (new : View R M) : Type 0 where
  pub from : least ≤ length new.accepted
  pub to : length new.accepted ≤ length o.standing.units
  pub cost : now ≤ before + o.cost

abbrev pub AdvancesTo : {R M S : Type 0} → (R → S) → Outcome S → ℕ → ℕ → View R M → View R M → Result (Unit {0}) CursorStop → Type 0
AdvancesTo state o before now old new (Err (Halted halt.OutOfMemory)) = IsCutOff (length old.accepted) o before now new
AdvancesTo state o before now old new result = Reaches state o before now new result

-- going to a place: as above from the units that were kept, or nothing changed for want of memory
abbrev pub GoesTo : {R M S : Type 0} → (R → S) → Standing S → Outcome S → ℕ → ℕ → View R M → View R M → Result (Unit {0}) CursorStop → Type 0
GoesTo state kept o before now old new (Err (Halted halt.OutOfMemory)) = (Unchanged state old new × (now ≡ before)) ⊎ IsCutOff (length kept.units) o before now new
GoesTo state kept o before now old new result = Reaches state o before now new result

-- one unit: it was accepted or not, or it is hindered; nothing changes but by an accepted unit
pub record Accepts {R M S : Type 0} (state : R → S) (t : Turn S) (before now : ℕ) (new : View R M) : Type 0 where
  pub cost : ℕ
  pub is : t ≡ Goes (standing_in state new) cost
  pub steps : now ≡ before + cost

pub record Hinders {R M S : Type 0} (state : R → S) (t : Turn S) (h : Hindrance) (before now : ℕ) (old new : View R M) : Type 0 where
  pub cost : ℕ
  pub is : t ≡ Stops h cost
  pub steps : now ≡ before + cost
  pub same : Unchanged state old new

-- what a turn costs
abbrev pub cost_in : {S : Type 0} → Turn S → ℕ
cost_in (Goes st c) = c
cost_in Over = 0
cost_in (Stops h c) = c

abbrev pub TakesTo : {R M S : Type 0} → (R → S) → Turn S → ℕ → ℕ → View R M → View R M → Result Bool Halt → Type 0
TakesTo state t before now old new (Ok true) = Accepts state t before now new
TakesTo state t before now old new (Ok false) = (t ≡ Over) × (now ≡ before) × Unchanged state old new
TakesTo state t before now old new (Err (halt.Refused f)) = Hinders state t (Refused (fault_of f)) before now old new
TakesTo state t before now old new (Err halt.Spent) = Hinders state t Spent before now old new
TakesTo state t before now old new (Err halt.OutOfMemory) = (now ≤ before + cost_in t) × Unchanged state old new

-- what is read of the next unit
abbrev pub NextIs : {S : Type 0} → Rules S → Option ℕ → Bytes → Standing S → Result (Option UnitSpan) Halt → Type 0
NextIs rules limit text st (Ok (Some u)) = (rules.parse text (place_of st.units) ≡ Found u) × (ends_within limit u ≡ true)
NextIs rules limit text st (Ok None) = turn rules limit text st ≡ Over
NextIs rules limit text st (Err (halt.Refused f)) = turn rules limit text st ≡ Stops (Refused (fault_of f)) 0
NextIs rules limit text st (Err halt.Spent) = ⊥
NextIs rules limit text st (Err halt.OutOfMemory) = Unit {0}

-- a unit whose step is this was accepted, or nothing changed
pub record Adds {R M S : Type 0} (state : R → S) (d : Stepped S) (u : UnitSpan) (before now : ℕ) (old new : View R M) : Type 0 where
  pub is : d ≡ Becomes (state new.runner) (cost_of d)
  pub units : units_in new ≡ units_in old ++ u ∷ []
  pub steps : now ≡ before + cost_of d

pub record Leaves {R M S : Type 0} (state : R → S) (cost before now : ℕ) (old new : View R M) : Type 0 where
  pub steps : now ≡ before + cost
  pub same : Unchanged state old new

abbrev pub AddsTo : {R M S : Type 0} → (R → S) → Stepped S → UnitSpan → ℕ → ℕ → View R M → View R M → Result (Unit {0}) Halt → Type 0
AddsTo state d u before now old new (Ok _) = Adds state d u before now old new
AddsTo state d u before now old new (Err (halt.Refused f)) = (d ≡ Refuses (fault_of f) (cost_of d)) × Leaves state (cost_of d) before now old new
AddsTo state d u before now old new (Err halt.Spent) = (d ≡ Spends (cost_of d)) × Leaves state (cost_of d) before now old new
AddsTo state d u before now old new (Err halt.OutOfMemory) = (now ≤ before + cost_of d) × Unchanged state old new
