-- A run of a script from the empty state.
use Rattle.std.specs.Prelude.{ℕ, zero, suc, ◌+◌, Bool, true, false, ◌&&◌, [], length, Option, Some, None}
use Rattle.mt_term.specs.Trees.{Bytes}
use Rattle.mt_term.specs.ScriptState.{Proof, State}
use Rattle.mt_term_parser.specs.Readings.{Reading, Got, Stops}
use Rattle.mt_unit_parser.specs.WrittenUnits.{WrittenUnit}
use Rattle.mt_unit_parser.specs.Blocks.{unit}
use Rattle.mt_session.specs.Moves.{Fault, Move, Goes, Fails, move, charges_in}

-- the allowance of each unit
abbrev pub allowance : ℕ
allowance = 100000

-- the state before the first unit
abbrev pub empty_state : State
empty_state = record { env = record { entries = []; names = []; below = [] }; store = []; proof = None; units = 0; place = 0; notes = [] }

-- where a run ends: the state, and what was refused, if anything was
pub record Run : Type 0 where
  pub state : State
  pub fault : Option Fault

abbrev pub ended : State → Option Fault → Run
ended s f = record { state = s; fault = f }

-- by what is read: a fault, the end, or a unit
abbrev pub by_reading : {A : Type 0} → Reading (Option WrittenUnit) → (Fault → A) → A → (WrittenUnit → A) → A
by_reading (Stops r at) wrong end go = wrong (r, at)
by_reading (Got None e) wrong end go = end
by_reading (Got (Some u) e) wrong end go = go u

abbrev pub by_move : {A : Type 0} → Move → (Fault → A) → (State → A) → A
by_move (Goes s left) wrong go = go s
by_move (Fails b left) wrong go = wrong b

-- at most n more units, from a state
abbrev pub run_from : Bytes → ℕ → State → Run
run_from text zero s = ended s None
run_from text (suc n) s =
    by_reading (unit text s.place) (λ b. ended s (Some b)) (ended s None)
    (λ u. by_move (move s u allowance) (λ b. ended s (Some b)) (λ t. run_from text n t))

-- a unit takes at least one byte
unfoldable pub run : Bytes → Run
run text = run_from text (suc (length text)) empty_state

-- what at most n more units cost together, with the one that is refused
abbrev pub cost_from : Bytes → ℕ → State → ℕ
cost_from text zero s = 0
cost_from text (suc n) s =
    by_reading (unit text s.place) (λ b. 0) 0
    (λ u. charges_in allowance (move s u allowance) + by_move (move s u allowance) (λ b. 0) (λ t. cost_from text n t))

unfoldable pub cost : Bytes → ℕ
cost text = cost_from text (suc (length text)) empty_state

-- nothing was refused, and no proof is open
abbrev pub has_no_fault : Option Fault → Bool
has_no_fault None = true
has_no_fault (Some b) = false

abbrev pub has_no_proof : Option Proof → Bool
has_no_proof None = true
has_no_proof (Some p) = false

abbrev pub is_clean : Run → Bool
is_clean r = has_no_fault r.fault && has_no_proof r.state.proof
