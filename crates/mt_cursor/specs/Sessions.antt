-- Sessions: a text and how many of its units are accepted. What each command makes of one.
use Rattle.std.specs.Prelude.{◌≡◌, ◌≤◌, ◌⊎◌, ℕ, zero, suc, ◌+◌, ◌-◌, Bool, true, false, ◌&&◌, if◌then◌else◌, nat_lt, nat_le, List, [], ◌∷◌, ◌++◌, length, take, drop, Option, Some, None}
use Rattle.std.specs.Str.{is_utf8, IsUtf8, IsCharBoundary}
use Rattle.mt_term.specs.Trees.{Bytes}
use Rattle.mt_text.specs.declared.UnitSpan.{UnitSpan}
use Rattle.mt_cursor.specs.Runners.{Fault, Parsed, Found, AtEnd, Faults, Stepped, Becomes, Refuses, Spends, Rules}

-- ---- units of a text, one after another

-- units that were accepted, oldest first, and the state after them
pub record Standing (S : Type 0) : Type 0 where
  pub units : List UnitSpan
  pub state : S

-- the end of the last of these units, after others that end at a place
abbrev pub end_after : ℕ → List UnitSpan → ℕ
end_after at [] = at
end_after at (u ∷ us) = end_after u.end us

-- where the next unit is read
abbrev pub place_of : List UnitSpan → ℕ
place_of us = end_after 0 us

abbrev pub without_units : {S : Type 0} → S → Standing S
without_units s = record { units = []; state = s }

abbrev pub with_unit : {S : Type 0} → Standing S → UnitSpan → S → Standing S
with_unit st u s = record { units = st.units ++ u ∷ []; state = s }

-- why no further unit is accepted
pub data Hindrance : Type 0 where
  Refused : Fault → Hindrance
  Spent : Hindrance

-- the next unit: it is accepted, at a cost; there is none; or it is hindered, at a cost
pub data Turn (S : Type 0) : Type 0 where
  Goes : Standing S → ℕ → Turn S
  Over : Turn S
  Stops : Hindrance → ℕ → Turn S

-- a unit ends no later than a limit, where there is one
abbrev pub ends_within : Option ℕ → UnitSpan → Bool
ends_within None u = true
ends_within (Some limit) u = nat_le u.end limit

abbrev pub turn_by_step : {S : Type 0} → Standing S → UnitSpan → Stepped S → Turn S
turn_by_step st u (Becomes s cost) = Goes (with_unit st u s) cost
turn_by_step st u (Refuses b cost) = Stops (Refused b) cost
turn_by_step st u (Spends cost) = Stops Spent cost

abbrev pub turn_by : {S : Type 0} → Rules S → Option ℕ → Bytes → Standing S → Parsed → Turn S
turn_by rules limit text st (Found u) = if ends_within limit u then turn_by_step st u (rules.step st.state text u) else Over
turn_by rules limit text st AtEnd = Over
turn_by rules limit text st (Faults b) = Stops (Refused b) 0

-- the next unit of a text, where it ends within the limit
abbrev pub turn : {S : Type 0} → Rules S → Option ℕ → Bytes → Standing S → Turn S
turn rules limit text st = turn_by rules limit text st (rules.parse text (place_of st.units))

abbrev pub standing_after : {S : Type 0} → Standing S → Turn S → Standing S
standing_after st (Goes next cost) = next
standing_after st Over = st
standing_after st (Stops h cost) = st

-- with the next unit, where it is accepted
abbrev pub with_next : {S : Type 0} → Rules S → Bytes → Standing S → Standing S
with_next rules text st = standing_after st (turn rules None text st)

-- the first k units of a text from a state, and the state after them; fewer where not all are accepted
abbrev pub fold : {S : Type 0} → Rules S → Bytes → S → ℕ → Standing S
fold rules text s zero = without_units s
fold rules text s (suc k) = with_next rules text (fold rules text s k)

-- ---- several units

-- where a command stands that takes units one after another, why it stopped, if it was hindered, and what it cost
pub record Outcome (S : Type 0) : Type 0 where
  pub standing : Standing S
  pub hindrance : Option Hindrance
  pub cost : ℕ

abbrev pub ended : {S : Type 0} → Standing S → Outcome S
ended st = record { standing = st; hindrance = None; cost = 0 }

abbrev pub costing : {S : Type 0} → ℕ → Outcome S → Outcome S
costing c o = record { standing = o.standing; hindrance = o.hindrance; cost = c + o.cost }

abbrev pub outcome_after : {S : Type 0} → Standing S → (Standing S → Outcome S) → Turn S → Outcome S
outcome_after st go (Goes next cost) = costing cost (go next)
outcome_after st go Over = ended st
outcome_after st go (Stops h cost) = record { standing = st; hindrance = Some h; cost = cost }

-- at most n more units
abbrev pub advanced : {S : Type 0} → Rules S → Bytes → ℕ → Standing S → Outcome S
advanced rules text zero st = ended st
advanced rules text (suc n) st = outcome_after st (advanced rules text n) (turn rules None text st)

-- at most n more units, while they are before a place and end within it
abbrev pub moved : {S : Type 0} → Rules S → Bytes → ℕ → ℕ → Standing S → Outcome S
moved rules text pos zero st = ended st
moved rules text pos (suc n) st =
    if nat_lt (place_of st.units) pos then outcome_after st (moved rules text pos n) (turn rules (Some pos) text st) else ended st

-- ---- sessions

-- a text, and the number of its units that are accepted
pub record Session : Type 0 where
  pub text : Bytes
  pub count : ℕ

-- the accepted units of a session that began in a state, and its state
abbrev pub standing : {S : Type 0} → Rules S → S → Session → Standing S
standing rules s c = fold rules c.text s c.count

-- all units that it counts are accepted
abbrev pub IsWhole : {S : Type 0} → Rules S → S → Session → Type 0
IsWhole rules s c = length (standing rules s c).units ≡ c.count

-- how many units stand first that pass a test
abbrev pub first_passing : (UnitSpan → Bool) → List UnitSpan → ℕ
first_passing test [] = 0
first_passing test (u ∷ us) = if test u then suc (first_passing test us) else 0

-- a unit ends at a place or before it; a unit is decided by what stands before a place
abbrev pub ends_by : ℕ → UnitSpan → Bool
ends_by pos u = nat_le u.end pos

abbrev pub is_seen_by : ℕ → UnitSpan → Bool
is_seen_by start u = nat_le u.seen start

-- the most bytes of a text
abbrev pub most : ℕ
most = 1048576

-- bytes that may be a text
abbrev pub is_text : Bytes → Bool
is_text bytes = is_utf8 bytes && nat_le (length bytes) most

-- a text with a range replaced
abbrev pub replaced : ℕ → ℕ → Bytes → Bytes → Bytes
replaced start del new text = take start text ++ new ++ drop (start + del) text

-- a range may be replaced by these bytes: it is inside the text and on the bounds of characters, and what comes is a text
pub record CanReplace (start del : ℕ) (new text : Bytes) : Type 0 where
  pub first : IsCharBoundary text start
  pub last : IsCharBoundary text (start + del)
  pub new_text : is_utf8 new ≡ true
  pub short : length text - del + length new ≤ most

abbrev pub loaded : Bytes → Session
loaded text = record { text = text; count = 0 }

abbrev pub retracted : ℕ → Session → Session
retracted n c = record { text = c.text; count = c.count - n }

abbrev pub edited : ℕ → ℕ → Bytes → List UnitSpan → Session → Session
edited start del new units c = record { text = replaced start del new c.text; count = first_passing (is_seen_by start) units }

-- the units that end by a place, and the state after them
abbrev pub kept_by : {S : Type 0} → Rules S → S → ℕ → Session → Standing S
kept_by rules s pos c = fold rules c.text s (first_passing (ends_by pos) (standing rules s c).units)

-- as many units as bring the session to a place
abbrev pub gone_to : {S : Type 0} → Rules S → S → ℕ → Session → Outcome S
gone_to rules s pos c = moved rules c.text pos pos (kept_by rules s pos c)

-- ---- lists of commands

pub data Command : Type 0 where
  Load : Bytes → Command
  Advance : ℕ → Command
  Retract : ℕ → Command
  Goto : ℕ → Command
  Edit : ℕ → ℕ → Bytes → Command

-- the session with this many units accepted
abbrev pub counted : {S : Type 0} → Session → Outcome S → Session
counted c o = record { text = c.text; count = length o.standing.units }

-- the session after a command that is carried out
abbrev pub after : {S : Type 0} → Rules S → S → Command → Session → Session
after rules s (Load text) c = loaded text
after rules s (Advance n) c = counted c (advanced rules c.text n (standing rules s c))
after rules s (Retract n) c = retracted n c
after rules s (Goto pos) c = counted c (gone_to rules s pos c)
after rules s (Edit start del new) c = edited start del new (standing rules s c).units c

-- a command may be carried out: what is loaded is a text, and a range may be replaced
abbrev pub Allowed : Command → Session → Type 0
Allowed (Load text) c = is_text text ≡ true
Allowed (Edit start del new) c = CanReplace start del new c.text
Allowed _ c = Unit {0}

-- one session follows another by commands; one that is not carried out changes nothing
pub data Leads {S : Type 0} (rules : Rules S) (s : S) : List Command → Session → Session → Type 0 where
  Stays : (c : Session) → Leads rules s [] c c
  Carried : (k : Command) (ks : List Command) (c d : Session) → Allowed k c → Leads rules s ks (after rules s k c) d → Leads rules s (k ∷ ks) c d
  Passed : (k : Command) (ks : List Command) (c d : Session) → ¬ (Allowed k c) → Leads rules s ks c d → Leads rules s (k ∷ ks) c d

-- the empty session
abbrev pub no_text : Session
no_text = loaded []

-- after any list of commands all units that are counted are those of running the text from scratch
abbrev pub ScratchLaw : {S : Type 0} → Rules S → Type 0
ScratchLaw {S} rules = (s : S) (ks : List Command) (c : Session) → Leads rules s ks no_text c → IsUtf8 c.text × IsWhole rules s c
