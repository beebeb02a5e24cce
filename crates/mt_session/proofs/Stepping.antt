-- Steps of a run.
use Rattle.std.proofs.Common.{◌≡◌, ◌<◌, ◌≤◌, ℕ, zero, suc, ◌+◌, ◌-◌, Bool, true, false, List, length, Option, Some, None, refl, ap, ◌∙◌, sym, subst, arith}
use Rattle.std.specs.Prelude.{Result, Ok, Err, IfOk, OnOk, OnErr, if◌then◌else◌}
use Rattle.std.specs.Str.{IsUtf8, IsCharBoundary}
use Rattle.std.proofs.lemmas.Str.{IsCharBoundary-start}
use Rattle.mt_term.specs.Declarations.{Declaration}
use Rattle.mt_rules.specs.Charges.{Outcome, Done, Refused, Spent}
use Rattle.mt_term.specs.ScriptState.{State}
use Rattle.mt_term.specs.declared.refusals.Fault.{Fault as HeldFault}
use Rattle.mt_term_parser.specs.Readings.{Reading, Got, Stops}
use Rattle.mt_unit_parser.specs.WrittenUnits.{WrittenUnit}
use Rattle.mt_unit_parser.specs.Blocks.{unit}
use Rattle.mt_resolver.specs.Resolution.{Resolution, Found, Faults}
use Rattle.mt_decl.specs.Answers.{Answer, Made}
use Rattle.mt_decl.specs.Answers as answers
use Rattle.mt_decl.specs.Declaring.{declared_entry}
use Rattle.mt_session.specs.declared.sessions.Session.{Session}
use Rattle.mt_session.specs.declared.running.Step.{Step}
use Rattle.mt_session.specs.declared.running.Step.TheVariants.{Accepted, Ended}
use Rattle.mt_session.specs.Tasks.{Task, Order, Begin, Close, Rest, Finish, judged, changed, with_entry_noted}
use Rattle.mt_session.specs.Plans.{asked, declares, takes_charge}
use Rattle.mt_session.specs.Moves.{Move, Goes, Fails, move_by, move_for, after_charge, move_by_entry, move_asked, move_declared, move, charges_in}
use Rattle.mt_session.specs.Ready.{SoundState}
use Rattle.mt_session.specs.Runs.{run, run_from, cost, cost_from, by_reading, by_move, ended, empty_state, allowance}
use Rattle.mt_session.specs.Sessions.{AreTables, IsReady, state_in}
use Rattle.mt_session.specs.Steps.{Accepts, Refuses, MovesAs, GoesOn, IsOver, StepIs, CostIs, run_on, cost_on, fault_of, fault_in}
use Rattle.mt_session.proofs.Sounding.{empty_sound, move_sound}

-- ---- where a unit leads

-- it ends where the state does, and is one more
record Leads (s t : State) (end : ℕ) : Type 0 where
  pub place : t.place ≡ end
  pub count : t.units ≡ s.units + 1

leads_changed : (s : State) (end : ℕ) (k : Task) → Leads s (changed s end k) end
leads_changed s end (Order a b) = record { place = refl; count = refl }
leads_changed s end (Begin x T) = record { place = refl; count = refl }
leads_changed s end (Close n T t) = record { place = refl; count = refl }
leads_changed s end Rest = record { place = refl; count = refl }
leads_changed s end (Finish x T b) = record { place = refl; count = refl }

module _ (s : State) (start end : ℕ) (t : State) (left : ℕ) where
  leads_by : (k : Task) (o : Outcome (Unit {0})) → move_by s start end k o ≡ Goes t left → Leads s t end
  leads_by k (Done z rest) g = let same : changed s end k ≡ t = cc in subst (λ u. Leads s u end) same (leads_changed s end k)
  leads_by k (Refused r rest) g = let no : ⊥ = cc in absurd no
  leads_by k Spent g = let no : ⊥ = cc in absurd no

  leads_for : (r : Resolution Task) (n : ℕ) → move_for s start end r n ≡ Goes t left → Leads s t end
  leads_for (Found k) n g = leads_by k (judged s.env k n) g
  leads_for (Faults r at) n g = let no : ⊥ = cc in absurd no

  leads_after : (b : Bool) (r : Resolution Task) (n : ℕ) → after_charge b start (move_for s start end r) n ≡ Goes t left → Leads s t end
  leads_after false r n g = leads_for r n g
  leads_after true r zero g = let no : ⊥ = cc in absurd no
  leads_after true r (suc n) g = leads_for r n g

  leads_entry : (o : Answer Declaration) → move_by_entry s start end o ≡ Goes t left → Leads s t end
  leads_entry (Made d rest) g = let same : with_entry_noted s end d ≡ t = cc in subst (λ u. Leads s u end) same (record { place = refl; count = refl })
  leads_entry (answers.Refused r at rest) g = let no : ⊥ = cc in absurd no
  leads_entry answers.Spent g = let no : ⊥ = cc in absurd no

module _ (s : State) (u : WrittenUnit) (n : ℕ) (t : State) (left : ℕ) where
  leads_kind : (b : Bool) → (if b then move_declared s u n else move_asked s u n) ≡ Goes t left → Leads s t u.end
  leads_kind true g = leads_entry s u.start u.end t left (declared_entry s.env u.start u.kind n) g
  leads_kind false g = leads_after s u.start u.end t left (takes_charge s.proof u.kind) (asked s u.start u.kind) n g

  leads : move s u n ≡ Goes t left → Leads s t u.end
  leads g = leads_kind (declares s.proof u.kind) g

-- ---- one unit

module _ (text : List ℕ) (old : Session) where
  -- by what is read
  run_read : (n : ℕ) (r : Reading (Option WrittenUnit)) → unit text old.place ≡ r → run_on text (suc n) old ≡ by_reading r (λ b. ended (state_in old) (Some b)) (ended (state_in old) None) (λ u. by_move (move (state_in old) u allowance) (λ b. ended (state_in old) (Some b)) (λ t. run_from text n t))
  run_read n r e = ap (λ r. by_reading r (λ b. ended (state_in old) (Some b)) (ended (state_in old) None) (λ u. by_move (move (state_in old) u allowance) (λ b. ended (state_in old) (Some b)) (λ t. run_from text n t))) e

  cost_read : (n : ℕ) (r : Reading (Option WrittenUnit)) → unit text old.place ≡ r → cost_on text (suc n) old ≡ by_reading r (λ b. 0) 0 (λ u. charges_in allowance (move (state_in old) u allowance) + by_move (move (state_in old) u allowance) (λ b. 0) (λ t. cost_from text n t))
  cost_read n r e = ap (λ r. by_reading r (λ b. 0) 0 (λ u. charges_in allowance (move (state_in old) u allowance) + by_move (move (state_in old) u allowance) (λ b. 0) (λ t. cost_from text n t))) e

  -- no unit is there
  pub over_end : (m : ℕ) → unit text old.place ≡ Got None m → IsOver text old old None
  over_end m e = record { same = λ n. run_read n (Got None m) e }

  pub over_fault : (f : HeldFault) → unit text old.place ≡ Stops (fault_of f).0 (fault_of f).1 → IsOver text old old (Some f)
  over_fault f e = record { same = λ n. run_read n (Stops (fault_of f).0 (fault_of f).1) e }

  pub cost_end : (m before : ℕ) → unit text old.place ≡ Got None m → (n : ℕ) → before + cost_on text (suc n) old ≡ before
  cost_end m before e n = let none = cost_read n (Got None m) e in omega (arith, none)

  pub cost_fault : (f : HeldFault) (before : ℕ) → unit text old.place ≡ Stops (fault_of f).0 (fault_of f).1 → (n : ℕ) → before + cost_on text (suc n) old ≡ before
  cost_fault f before e n = let none = cost_read n (Stops (fault_of f).0 (fault_of f).1) e in omega (arith, none)

  module _ (u : WrittenUnit) (m : ℕ) (e : unit text old.place ≡ Got (Some u) m) where
    goes : (new : Session) → old.place < u.end → Accepts (move (state_in old) u allowance) new → GoesOn text old new
    goes new past a =
        let to = leads (state_in old) u allowance (state_in new) a.left a.is in record {
          same = λ n. run_read n (Got (Some u) m) e ∙ ap (λ v. by_move v (λ b. ended (state_in old) (Some b)) (λ t. run_from text n t)) a.is;
          place = omega (arith, past, to.place);
          count = to.count;
        }

    over : (new : Session) (f : HeldFault) → state_in new ≡ state_in old → Refuses (move (state_in old) u allowance) f → IsOver text old new (Some f)
    over new f same a = record { same = λ n. run_read n (Got (Some u) m) e ∙ ap (λ v. by_move v (λ b. ended (state_in old) (Some b)) (λ t. run_from text n t)) a.is ∙ ap (λ t. ended t (Some (fault_of f))) (sym same) }

    pub step_of_unit : {E : Type 0} (new : Session) (r : Result Step E) → old.place < u.end → IfOk r (λ s. MovesAs (move (state_in old) u allowance) old new s) → IfOk r (λ s. StepIs text old new s)
    step_of_unit new (Ok Accepted) past a = goes new past a.0
    step_of_unit new (Ok (Ended None)) past a = absurd a
    step_of_unit new (Ok (Ended (Some f))) past a = over new f a.1 a.0
    step_of_unit new (Err x) past a = tt

    ready : (new : Session) → IsReady text old → old.place < u.end → IsCharBoundary text u.end → Accepts (move (state_in old) u allowance) new → AreTables new → IsReady text new
    ready new h past at a tables =
        let to = leads (state_in old) u allowance (state_in new) a.left a.is in record {
          tables = tables;
          sound = move_sound (state_in old) u allowance (state_in new) a.left h.sound a.is;
          count = omega (arith, to.place, to.count, h.count, past);
          place = subst (IsCharBoundary text) (sym to.place) at;
        }

    still : (new : Session) → IsReady text old → state_in new ≡ state_in old → AreTables new → IsReady text new
    still new h same tables =
        let units : new.units ≡ old.units = ap (λ (t : State). t.units) same in
        let place : new.place ≡ old.place = ap (λ (t : State). t.place) same in record {
          tables = tables;
          sound = subst SoundState (sym same) h.sound;
          count = omega (arith, units, place, h.count);
          place = subst (IsCharBoundary text) (sym place) h.place;
        }

    pub ready_of_unit : {E : Type 0} (new : Session) (r : Result Step E) → IsReady text old → old.place < u.end → IsCharBoundary text u.end → IfOk r (λ s. MovesAs (move (state_in old) u allowance) old new s) → OnOk r (IsReady text new)
    ready_of_unit new (Ok Accepted) h past at a = ready new h past at a.0 a.1
    ready_of_unit new (Ok (Ended None)) h past at a = absurd a
    ready_of_unit new (Ok (Ended (Some f))) h past at a = still new h a.1 a.2
    ready_of_unit new (Err x) h past at a = tt

    cost_moved : (n : ℕ) (v : Move) → move (state_in old) u allowance ≡ v → cost_on text (suc n) old ≡ charges_in allowance (move (state_in old) u allowance) + by_move v (λ b. 0) (λ t. cost_from text n t)
    cost_moved n v g = cost_read n (Got (Some u) m) e ∙ ap (λ v. charges_in allowance (move (state_in old) u allowance) + by_move v (λ b. 0) (λ t. cost_from text n t)) g

    pub cost_of_unit : {E : Type 0} (new : Session) (before now : ℕ) (r : Result Step E) → IfOk r (λ s. MovesAs (move (state_in old) u allowance) old new s) → OnOk r (now ≡ before + charges_in allowance (move (state_in old) u allowance)) → IfOk r (λ s. CostIs text old new before now s)
    cost_of_unit new before now (Ok Accepted) a c = λ n. let whole = cost_moved n (Goes (state_in new) a.0.left) a.0.is in omega (arith, whole, c)
    cost_of_unit new before now (Ok (Ended None)) a c = absurd a
    cost_of_unit new before now (Ok (Ended (Some f))) a c = λ n. let whole = cost_moved n (Fails (fault_of f) a.0.left) a.0.is in omega (arith, whole, c)
    cost_of_unit new before now (Err x) a c = tt

    pub most_of_unit : {E : Type 0} (before now : ℕ) (r : Result Step E) → OnErr r (now ≤ before + charges_in allowance (move (state_in old) u allowance)) → OnErr r ((n : ℕ) → now ≤ before + cost_on text (suc n) old)
    most_of_unit before now (Ok s) c = tt
    most_of_unit before now (Err x) c = λ n. let whole = cost_moved n (move (state_in old) u allowance) refl in omega (arith, whole, c)

-- ---- the whole run

pub goes_on : (text : List ℕ) (old new : Session) → IsReady text old → GoesOn text old new → run_on text (suc (length text) - old.units) old ≡ run text → run_on text (suc (length text) - new.units) new ≡ run text
goes_on text old new ready went e =
    let n = length text - old.units in
    let before : suc (length text) - old.units ≡ suc n = omega (arith, ready.count, ready.place.0) in
    let after : suc (length text) - new.units ≡ n = omega (arith, went.count) in
    ap (λ k. run_on text k new) after ∙ sym (went.same n) ∙ ap (λ k. run_on text k old) (sym before) ∙ e

pub is_over : (text : List ℕ) (old new : Session) (f : Option HeldFault) → IsReady text old → IsOver text old new f → run_on text (suc (length text) - old.units) old ≡ run text → run text ≡ ended (state_in new) (fault_in f)
is_over text old new f ready over e =
    let n = length text - old.units in
    let before : suc (length text) - old.units ≡ suc n = omega (arith, ready.count, ready.place.0) in
    sym e ∙ ap (λ k. run_on text k old) before ∙ over.same n

pub ready_first : (text : List ℕ) (s : Session) → IsUtf8 text → state_in s ≡ empty_state → AreTables s → IsReady text s
ready_first text s u first tables =
    let units : s.units ≡ 0 = ap (λ (t : State). t.units) first in
    let place : s.place ≡ 0 = ap (λ (t : State). t.place) first in record {
      tables = tables;
      sound = subst SoundState (sym first) empty_sound;
      count = omega (arith, units);
      place = subst (IsCharBoundary text) (sym place) (IsCharBoundary-start text u);
    }

pub run_first : (text : List ℕ) (s : Session) → state_in s ≡ empty_state → run_on text (suc (length text) - s.units) s ≡ run text
unfolding run
run_first text s first =
    let units : s.units ≡ 0 = ap (λ (t : State). t.units) first in
    let n : suc (length text) - s.units ≡ suc (length text) = omega (arith, units) in
    ap (λ k. run_from text k (state_in s)) n ∙ ap (run_from text (suc (length text))) first

pub cost_first : (text : List ℕ) (s : Session) (n : ℕ) → state_in s ≡ empty_state → n + cost_on text (suc (length text) - s.units) s ≡ n + cost text
unfolding cost
cost_first text s n first =
    let units : s.units ≡ 0 = ap (λ (t : State). t.units) first in
    let k : suc (length text) - s.units ≡ suc (length text) = omega (arith, units) in
    ap (λ c. n + c) (ap (λ k. cost_from text k (state_in s)) k ∙ ap (cost_from text (suc (length text))) first)

pub cost_goes_on : (text : List ℕ) (old new : Session) (before now all : ℕ) → IsReady text old → GoesOn text old new → ((n : ℕ) → before + cost_on text (suc n) old ≡ now + cost_on text n new) → before + cost_on text (suc (length text) - old.units) old ≡ all → now + cost_on text (suc (length text) - new.units) new ≡ all
cost_goes_on text old new before now all ready went c e =
    let n = length text - old.units in
    let one : suc (length text) - old.units ≡ suc n = omega (arith, ready.count, ready.place.0) in
    let two : suc (length text) - new.units ≡ n = omega (arith, went.count) in
    ap (λ k. now + cost_on text k new) two ∙ sym (c n) ∙ ap (λ k. before + cost_on text k old) (sym one) ∙ e

pub cost_is_over : (text : List ℕ) (old : Session) (before now all : ℕ) → IsReady text old → ((n : ℕ) → before + cost_on text (suc n) old ≡ now) → before + cost_on text (suc (length text) - old.units) old ≡ all → now ≡ all
cost_is_over text old before now all ready c e =
    let n = length text - old.units in
    let one : suc (length text) - old.units ≡ suc n = omega (arith, ready.count, ready.place.0) in
    sym (c n) ∙ ap (λ k. before + cost_on text k old) (sym one) ∙ e

pub cost_is_cut : (text : List ℕ) (old : Session) (before now all : ℕ) → IsReady text old → ((n : ℕ) → now ≤ before + cost_on text (suc n) old) → before + cost_on text (suc (length text) - old.units) old ≡ all → now ≤ all
cost_is_cut text old before now all ready c e =
    let n = length text - old.units in
    let one : suc (length text) - old.units ≡ suc n = omega (arith, ready.count, ready.place.0) in
    let same = ap (λ k. before + cost_on text k old) (sym one) ∙ e in
    omega (arith, c n, same)
