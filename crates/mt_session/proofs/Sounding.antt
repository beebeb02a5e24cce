-- Each state of a run is derivable.
use Rattle.std.proofs.Common.{◌≡◌, ℕ, zero, suc, Bool, true, false, Option, Some, None, refl, subst}
use Rattle.std.specs.Prelude.{IfSome, if◌then◌else◌}
use Rattle.mt_term.specs.Trees.{Bytes}
use Rattle.mt_term.specs.Naming.{naming}
use Rattle.mt_rules.specs.Charges.{Outcome, Done, Refused, Spent}
use Rattle.mt_term.specs.ScriptState.{State}
use Rattle.mt_calculus.specs.Derivable.{Derivable}
use Rattle.mt_term_parser.specs.Readings.{Reading, Got, Stops}
use Rattle.mt_unit_parser.specs.WrittenUnits.{WrittenUnit}
use Rattle.mt_unit_parser.specs.Blocks.{unit}
use Rattle.mt_resolver.specs.Resolution.{Resolution, Found, Faults}
use Rattle.mt_term.specs.Declarations.{Declaration}
use Rattle.mt_decl.specs.Answers.{Answer, Made}
use Rattle.mt_decl.specs.Answers as answers
use Rattle.mt_decl.specs.Declaring.{declared_entry}
use Rattle.mt_decl.proofs.Sound.{declared_law}
use Rattle.mt_decl.proofs.Names.{names_law}
use Rattle.mt_session.specs.Tasks.{Task, judged, changed, with_entry_noted}
use Rattle.mt_session.specs.Plans.{asked, declares, takes_charge}
use Rattle.mt_session.specs.Moves.{Move, Goes, Fails, move_by, move_for, after_charge, move_by_entry, move_asked, move_declared, move}
use Rattle.mt_env.specs.Names.{Distinct}
use Rattle.mt_session.specs.Ready.{SoundState, IsTaskOf}
use Rattle.mt_session.specs.Runs.{Run, run_from, by_reading, by_move, ended, empty_state, allowance}
use Rattle.mt_session.proofs.Deriving.{derivable}
use Rattle.mt_session.proofs.Growing.{sound_none}
use Rattle.mt_session.proofs.Changing.{changed_sound, entry_sound}
use Rattle.mt_session.proofs.Fitting.{asked_task}

module _ (s : State) (h : SoundState s) (start end : ℕ) where
  by_outcome : (k : Task) (n : ℕ) (o : Outcome (Unit {0})) (t : State) (left : ℕ) → IsTaskOf s k → judged s.env k n ≡ o → move_by s start end k o ≡ Goes t left → SoundState t
  by_outcome k n (Done z rest) t left f e g = let same : changed s end k ≡ t = cc in subst SoundState same (changed_sound s end n rest z k h f e)
  by_outcome k n (Refused r rest) t left f e g = let no : ⊥ = cc in absurd no
  by_outcome k n Spent t left f e g = let no : ⊥ = cc in absurd no

  by_task : (r : Resolution Task) (n : ℕ) (t : State) (left : ℕ) → ((k : Task) → r ≡ Found k → IsTaskOf s k) → move_for s start end r n ≡ Goes t left → SoundState t
  by_task (Found k) n t left f g = by_outcome k n (judged s.env k n) t left (f k refl) refl g
  by_task (Faults r at) n t left f g = let no : ⊥ = cc in absurd no

  by_charge : (b : Bool) (r : Resolution Task) (n : ℕ) (t : State) (left : ℕ) → ((k : Task) → r ≡ Found k → IsTaskOf s k) → after_charge b start (move_for s start end r) n ≡ Goes t left → SoundState t
  by_charge false r n t left f g = by_task r n t left f g
  by_charge true r zero t left f g = let no : ⊥ = cc in absurd no
  by_charge true r (suc n) t left f g = by_task r n t left f g

-- a unit keeps a state sound
module _ (s : State) (u : WrittenUnit) (n : ℕ) (t : State) (left : ℕ) (h : SoundState s) where
  asked_sound : move_asked s u n ≡ Goes t left → SoundState t
  asked_sound g = by_charge s h u.start u.end (takes_charge s.proof u.kind) (asked s u.start u.kind) n t left (λ k e. asked_task s h u.start u.kind k e) g

  by_entry : (o : Answer Declaration) → declared_entry s.env u.start u.kind n ≡ o → move_by_entry s u.start u.end o ≡ Goes t left → SoundState t
  by_entry (Made d rest) e g =
      let same : with_entry_noted s u.end d ≡ t = cc in
      subst SoundState same (entry_sound s u.end d h (declared_law s.env h.env u.start u.kind d n rest e).0 (names_law s.env u.start u.kind d n rest e h.names))
  by_entry (answers.Refused r at rest) e g = let no : ⊥ = cc in absurd no
  by_entry answers.Spent e g = let no : ⊥ = cc in absurd no

  by_kind : (b : Bool) → (if b then move_declared s u n else move_asked s u n) ≡ Goes t left → SoundState t
  by_kind true g = by_entry (declared_entry s.env u.start u.kind n) refl g
  by_kind false g = asked_sound g

  pub move_sound : move s u n ≡ Goes t left → SoundState t
  move_sound g = by_kind (declares s.proof u.kind) g

moved_sound : (m : Move) (s : State) (go : State → Run) → SoundState s → ((t : State) (left : ℕ) → m ≡ Goes t left → SoundState (go t).state) → SoundState (by_move m (λ b. ended s (Some b)) go).state
moved_sound (Goes t left) s go h g = g t left refl
moved_sound (Fails b left) s go h g = h

read_sound : (r : Reading (Option WrittenUnit)) (s : State) (go : WrittenUnit → Run) → SoundState s → ((u : WrittenUnit) → SoundState (go u).state) → SoundState (by_reading r (λ b. ended s (Some b)) (ended s None) go).state
read_sound (Stops r at) s go h g = h
read_sound (Got None e) s go h g = h
read_sound (Got (Some u) e) s go h g = g u

run_sound : (text : Bytes) (n : ℕ) (s : State) → SoundState s → SoundState (run_from text n s).state
run_sound text zero s h = h
run_sound text (suc n) s h =
    read_sound (unit text s.place) s (λ u. by_move (move s u allowance) (λ b. ended s (Some b)) (λ t. run_from text n t)) h (λ u.
    moved_sound (move s u allowance) s (λ t. run_from text n t) h (λ t left e. run_sound text n t (move_sound s u allowance t left h e)))

pub empty_sound : SoundState empty_state
empty_sound = record {
  env = sound_none;
  names = tt;
  metas = λ n m is. let no : ⊥ = cc in absurd no;
  proof = tt;
}

each_derivable : (text : Bytes) (n : ℕ) → Derivable (run_from text n empty_state).state
each_derivable text n = derivable (run_from text n empty_state).state (run_sound text n empty_state empty_sound)

-- and no name stands twice in it
each_named_once : (text : Bytes) (n : ℕ) → Distinct (naming (run_from text n empty_state).state.env.entries)
each_named_once text n = (run_sound text n empty_state empty_sound).names

pub named_once_where_told : (o : Option Bytes) → IfSome o (λ bytes. (n : ℕ) → Distinct (naming (run_from bytes n empty_state).state.env.entries))
named_once_where_told None = tt
named_once_where_told (Some bytes) = each_named_once bytes

pub derivable_where_told : (o : Option Bytes) → IfSome o (λ bytes. (n : ℕ) → Derivable (run_from bytes n empty_state).state)
derivable_where_told None = tt
derivable_where_told (Some bytes) = each_derivable bytes
