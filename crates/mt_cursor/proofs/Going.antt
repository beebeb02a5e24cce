-- Commands that take units one after another: how far they are, and where they end.
use Rattle.std.proofs.Common.{◌≡◌, ◌<◌, ◌≤◌, ℕ, zero, suc, ◌+◌, ◌-◌, Bool, true, false, if◌then◌else◌, nat_lt, List, [], ◌∷◌, ◌++◌, length, Option, Some, None, Result, Ok, Err, inr, refl, ap, sym, ◌∙◌, subst, arith, length-append}
use Rattle.std.proofs.lemmas.Bool.{lt-ltb, le-ltb}
use Rattle.mt_term.specs.Trees.{Bytes}
use Rattle.mt_term.specs.declared.refusals.Halt.{Halt}
use Rattle.mt_term.specs.declared.refusals.Halt.TheVariants as halt
use Rattle.mt_text.specs.declared.UnitSpan.{UnitSpan}
use Rattle.mt_cursor.specs.declared.accepted.Accepted.{Accepted as AcceptedUnit}
use Rattle.mt_cursor.specs.declared.stops.CursorStop.{CursorStop}
use Rattle.mt_cursor.specs.declared.stops.CursorStop.TheVariants.{BadEdit, Halt as Halted}
use Rattle.mt_cursor.specs.Runners.{Rules, fault_of}
use Rattle.mt_cursor.specs.Sessions.{Standing, Outcome, Hindrance, Refused, Spent, Turn, Goes, Over, Stops, turn, place_of, ended, costing, outcome_after, advanced, moved}
use Rattle.mt_cursor.specs.Cursors.{View, units_in, standing_in, Unchanged, Accepts, Hinders, Reaches, IsCutOff, AdvancesTo, GoesTo, TakesTo, cost_in, HindersAs}
use Rattle.mt_cursor.proofs.Folding.{Accepted, accepted}
use Rattle.mt_cursor.proofs.Running.{spans_length}

-- what is left to do leads, with what was paid so far, to the whole outcome
pub record OnPath {S : Type 0} (whole rest : Outcome S) (before now : ℕ) : Type 0 where
  pub paid : ℕ
  pub same : whole ≡ costing paid rest
  pub steps : now ≡ before + paid

costing_zero : {S : Type 0} (o : Outcome S) → o ≡ costing 0 o
costing_zero o = ap (λ n. record { standing = o.standing; hindrance = o.hindrance; cost = n }) (none o.cost)
  where
    none : (n : ℕ) → n ≡ 0 + n
    none n = omega arith

costing_twice : {S : Type 0} (a b : ℕ) (o : Outcome S) → costing a (costing b o) ≡ costing (a + b) o
costing_twice a b o = ap (λ n. record { standing = o.standing; hindrance = o.hindrance; cost = n }) (both a b o.cost)
  where
    both : (a b n : ℕ) → a + (b + n) ≡ a + b + n
    both a b n = omega arith

pub path_start : {S : Type 0} (o : Outcome S) (before : ℕ) → OnPath o o before before
path_start o before = record { paid = 0; same = costing_zero o; steps = omega arith }

-- a unit was accepted
pub path_on : {S : Type 0} (whole : Outcome S) (st next : Standing S) (go : Standing S → Outcome S) (t : Turn S) (c before now later : ℕ)
    → OnPath whole (outcome_after st go t) before now → t ≡ Goes next c → later ≡ now + c → OnPath whole (go next) before later
path_on whole st next go t c before now later path went steps = record {
  paid = path.paid + c;
  same = path.same ∙ ap (λ u. costing path.paid (outcome_after st go u)) went ∙ costing_twice path.paid c (go next);
  steps = omega (arith, path.steps, steps);
}

-- ---- the ends

abbrev pub reached : {S : Type 0} → Standing S → Option Hindrance → ℕ → Outcome S
reached st h c = record { standing = st; hindrance = h; cost = c }

pub path_end : {R M S : Type 0} (state : R → S) (whole : Outcome S) (st : Standing S) (v : View R M) (before now later : ℕ)
    → OnPath whole (ended st) before now → later ≡ now → standing_in state v ≡ st → Reaches state whole before later v (Ok tt)
path_end state whole st v before now later path same is = record {
  standing = is ∙ sym (ap (λ o. o.standing) path.same);
  why = ap (λ o. o.hindrance) path.same;
  cost = same ∙ path.steps ∙ ap (λ n. before + n) (plus_none path.paid ∙ sym (ap (λ o. o.cost) path.same));
}
  where
    plus_none : (n : ℕ) → n ≡ n + 0
    plus_none n = omega arith

stays : {R M S : Type 0} (state : R → S) (old new : View R M) → Unchanged state old new → standing_in state new ≡ standing_in state old
stays state old new kept =
    ap (λ xs. standing_in state (record { runner = new.runner; text = new.text; accepted = xs })) kept.accepted
    ∙ ap (λ s. record { units = units_in old; state = s }) kept.same_state

pub path_over : {R M S : Type 0} (state : R → S) (whole : Outcome S) (st : Standing S) (go : Standing S → Outcome S) (t : Turn S) (old new : View R M) (before now later : ℕ)
    → OnPath whole (outcome_after st go t) before now → st ≡ standing_in state old → t ≡ Over → later ≡ now → Unchanged state old new
    → Reaches state whole before later new (Ok tt)
path_over state whole st go t old new before now later path is over same kept =
    path_end state whole st new before now later
    (subst (λ u. OnPath whole (outcome_after st go u) before now) over path) same (stays state old new kept ∙ sym is)

path_stopped : {R M S : Type 0} (state : R → S) (whole : Outcome S) (st : Standing S) (go : Standing S → Outcome S) (t : Turn S) (h : Hindrance) (old new : View R M) (before now later : ℕ)
    (stop : CursorStop) → HindersAs (Some h) (Err stop) → OnPath whole (outcome_after st go t) before now → st ≡ standing_in state old
    → Hinders state t h now later old new → Reaches state whole before later new (Err stop)
path_stopped state whole st go t h old new before now later stop why path is hinders =
    let e : whole ≡ costing path.paid (reached st (Some h) hinders.cost) = path.same ∙ ap (λ u. costing path.paid (outcome_after st go u)) hinders.is in
    record {
      standing = stays state old new hinders.same ∙ sym is ∙ sym (ap (λ o. o.standing) e);
      why = subst (λ x. HindersAs x (Err stop)) (sym (ap (λ o. o.hindrance) e)) why;
      cost = hinders.steps ∙ ap (λ n. n + hinders.cost) path.steps ∙ assoc before path.paid hinders.cost ∙ ap (λ n. before + n) (sym (ap (λ o. o.cost) e));
    }
  where
    assoc : (a b c : ℕ) → (a + b) + c ≡ a + (b + c)
    assoc a b c = omega arith

-- no unit is lost on the way
abbrev pub Grows : {S : Type 0} → (Standing S → Outcome S) → Type 0
Grows {S} go = (st : Standing S) → length st.units ≤ length (go st).standing.units

pub path_cut : {R M S : Type 0} (rules : Rules S) (limit : Option ℕ) (text : Bytes) (state : R → S) (whole : Outcome S) (st : Standing S) (go : Standing S → Outcome S)
    (old new : View R M) (least before now later : ℕ)
    → OnPath whole (outcome_after st go (turn rules limit text st)) before now → st ≡ standing_in state old → Unchanged state old new
    → later ≤ now + cost_in (turn rules limit text st) → least ≤ length old.accepted → Grows go → IsCutOff least whole before later new
path_cut rules limit text state whole st go old new least before now later path is kept steps from grows =
    cut_by (turn rules limit text st) refl path steps
  where
    count : length new.accepted ≡ length st.units
    count = ap length kept.accepted ∙ sym (spans_length old.accepted) ∙ sym (ap (λ s. length s.units) is)

    cut_by : (t : Turn _) → turn rules limit text st ≡ t → OnPath whole (outcome_after st go t) before now → later ≤ now + cost_in t → IsCutOff least whole before later new
    cut_by (Goes next c) e p le =
        let a : Accepted rules text st next c = accepted rules limit text st next c e in
        let n : length next.units ≡ length st.units + 1 = ap (λ s. length s.units) a.is ∙ length-append st.units (a.unit ∷ []) in
        let w : length whole.standing.units ≡ length (go next).standing.units = ap (λ o. length o.standing.units) p.same in
        let k : whole.cost ≡ p.paid + (c + (go next).cost) = ap (λ o. o.cost) p.same in
        record { from = subst (λ m. least ≤ m) (sym (ap length kept.accepted)) from; to = omega (arith, count, n, w, grows next); cost = omega (arith, p.steps, k) }
    cut_by Over e p le =
        let w : length whole.standing.units ≡ length st.units = ap (λ o. length o.standing.units) p.same in
        let k : whole.cost ≡ p.paid + 0 = ap (λ o. o.cost) p.same in
        record { from = subst (λ m. least ≤ m) (sym (ap length kept.accepted)) from; to = omega (arith, count, w); cost = omega (arith, p.steps, k) }
    cut_by (Stops h c) e p le =
        let w : length whole.standing.units ≡ length st.units = ap (λ o. length o.standing.units) p.same in
        let k : whole.cost ≡ p.paid + c = ap (λ o. o.cost) p.same in
        record { from = subst (λ m. least ≤ m) (sym (ap length kept.accepted)) from; to = omega (arith, count, w); cost = omega (arith, p.steps, k) }

outcome_grows : {S : Type 0} (rules : Rules S) (limit : Option ℕ) (text : Bytes) (st : Standing S) (go : Standing S → Outcome S) (t : Turn S)
    → turn rules limit text st ≡ t → Grows go → length st.units ≤ length (outcome_after st go t).standing.units
outcome_grows rules limit text st go (Goes next c) e grows =
    let a : Accepted rules text st next c = accepted rules limit text st next c e in
    let n : length next.units ≡ length st.units + 1 = ap (λ s. length s.units) a.is ∙ length-append st.units (a.unit ∷ []) in
    omega (arith, n, grows next)
outcome_grows rules limit text st go Over e grows = omega arith
outcome_grows rules limit text st go (Stops h c) e grows = omega arith

pub advanced_grows : {S : Type 0} (rules : Rules S) (text : Bytes) (n : ℕ) → Grows (advanced rules text n)
advanced_grows rules text zero st = omega arith
advanced_grows rules text (suc n) st = outcome_grows rules None text st (advanced rules text n) (turn rules None text st) refl (advanced_grows rules text n)

moved_grows_by : {S : Type 0} (b : Bool) (st : Standing S) (o : Outcome S) → length st.units ≤ length o.standing.units
    → length st.units ≤ length (if b then o else ended st).standing.units
moved_grows_by true st o le = le
moved_grows_by false st o le = omega arith

pub moved_grows : {S : Type 0} (rules : Rules S) (text : Bytes) (pos n : ℕ) → Grows (moved rules text pos n)
moved_grows rules text pos zero st = omega arith
moved_grows rules text pos (suc n) st =
    moved_grows_by (nat_lt (place_of st.units) pos) st _
    (outcome_grows rules (Some pos) text st (moved rules text pos n) (turn rules (Some pos) text st) refl (moved_grows rules text pos n))

-- by the halt of a turn
pub path_hindered : {R M S : Type 0} (rules : Rules S) (limit : Option ℕ) (text : Bytes) (state : R → S) (whole : Outcome S) (st : Standing S) (go : Standing S → Outcome S)
    (first old new : View R M) (before now later : ℕ) (h : Halt)
    → OnPath whole (outcome_after st go (turn rules limit text st)) before now → st ≡ standing_in state old
    → TakesTo state (turn rules limit text st) now later old new (Err h) → length first.accepted ≤ length old.accepted → Grows go
    → AdvancesTo state whole before later first new (Err (Halted h))
path_hindered rules limit text state whole st go first old new before now later (halt.Refused f) path is takes from grows =
    path_stopped state whole st go (turn rules limit text st) (Refused (fault_of f)) old new before now later (Halted (halt.Refused f)) refl path is takes
path_hindered rules limit text state whole st go first old new before now later halt.Spent path is takes from grows =
    path_stopped state whole st go (turn rules limit text st) Spent old new before now later (Halted halt.Spent) refl path is takes
path_hindered rules limit text state whole st go first old new before now later halt.OutOfMemory path is takes from grows =
    path_cut rules limit text state whole st go old new (length first.accepted) before now later path is takes.1 takes.0 from grows

-- ---- one more unit to go

pub advanced_on : {S : Type 0} (rules : Rules S) (text : Bytes) (n : ℕ) (st : Standing S) → 0 < n
    → advanced rules text n st ≡ outcome_after st (advanced rules text (n - 1)) (turn rules None text st)
advanced_on rules text zero st lt = absurd (omega arith)
advanced_on rules text (suc n) st lt = ap (λ k. outcome_after st (advanced rules text k) (turn rules None text st)) (less n)
  where
    less : (n : ℕ) → n ≡ suc n - 1
    less n = omega arith

pub advanced_none : {S : Type 0} (rules : Rules S) (text : Bytes) (n : ℕ) (st : Standing S) → n ≤ 0 → advanced rules text n st ≡ ended st
advanced_none rules text zero st le = refl
advanced_none rules text (suc n) st le = absurd (omega arith)

pub moved_on : {S : Type 0} (rules : Rules S) (text : Bytes) (pos n : ℕ) (st : Standing S) → 0 < n → place_of st.units < pos
    → moved rules text pos n st ≡ outcome_after st (moved rules text pos (n - 1)) (turn rules (Some pos) text st)
moved_on rules text pos zero st lt before = absurd (omega arith)
moved_on rules text pos (suc n) st lt before =
    ap (λ b. if b then outcome_after st (moved rules text pos n) (turn rules (Some pos) text st) else ended st) (lt-ltb (place_of st.units) pos before)
    ∙ ap (λ k. outcome_after st (moved rules text pos k) (turn rules (Some pos) text st)) (less n)
  where
    less : (n : ℕ) → n ≡ suc n - 1
    less n = omega arith

pub moved_there : {S : Type 0} (rules : Rules S) (text : Bytes) (pos n : ℕ) (st : Standing S) → pos ≤ place_of st.units → moved rules text pos n st ≡ ended st
moved_there rules text pos zero st le = refl
moved_there rules text pos (suc n) st le =
    ap (λ b. if b then outcome_after st (moved rules text pos n) (turn rules (Some pos) text st) else ended st) (le-ltb (place_of st.units) pos le)

pub moved_none : {S : Type 0} (rules : Rules S) (text : Bytes) (pos n : ℕ) (st : Standing S) → n ≤ 0 → moved rules text pos n st ≡ ended st
moved_none rules text pos zero st le = refl
moved_none rules text pos (suc n) st le = absurd (omega arith)

-- ---- advance

pub advance_goes : {R M S : Type 0} (rules : Rules S) (state : R → S) (whole : Outcome S) (n : ℕ) (old new : View R M) (before now later : ℕ) → 0 < n
    → OnPath whole (advanced rules old.text n (standing_in state old)) before now → Accepts state (turn rules None old.text (standing_in state old)) now later new
    → new.text ≡ old.text → OnPath whole (advanced rules new.text (n - 1) (standing_in state new)) before later
advance_goes rules state whole n old new before now later lt path went text =
    subst (λ t. OnPath whole (advanced rules t (n - 1) (standing_in state new)) before later) (sym text)
    (path_on whole (standing_in state old) (standing_in state new) (advanced rules old.text (n - 1)) (turn rules None old.text (standing_in state old)) went.cost before now later
    (subst (λ o. OnPath whole o before now) (advanced_on rules old.text n (standing_in state old) lt) path) went.is went.steps)

pub advance_over : {R M S : Type 0} (rules : Rules S) (state : R → S) (whole : Outcome S) (n : ℕ) (old new : View R M) (before now later : ℕ) → 0 < n
    → OnPath whole (advanced rules old.text n (standing_in state old)) before now → turn rules None old.text (standing_in state old) ≡ Over → later ≡ now → Unchanged state old new
    → Reaches state whole before later new (Ok tt)
advance_over rules state whole n old new before now later lt path over same kept =
    path_over state whole (standing_in state old) (advanced rules old.text (n - 1)) (turn rules None old.text (standing_in state old)) old new before now later
    (subst (λ o. OnPath whole o before now) (advanced_on rules old.text n (standing_in state old) lt) path) refl over same kept

pub advance_hindered : {R M S : Type 0} (rules : Rules S) (state : R → S) (whole : Outcome S) (n : ℕ) (first old new : View R M) (before now later : ℕ) (h : Halt) → 0 < n
    → OnPath whole (advanced rules old.text n (standing_in state old)) before now → TakesTo state (turn rules None old.text (standing_in state old)) now later old new (Err h)
    → length first.accepted ≤ length old.accepted → AdvancesTo state whole before later first new (Err (Halted h))
advance_hindered rules state whole n first old new before now later h lt path takes more =
    path_hindered rules None old.text state whole (standing_in state old) (advanced rules old.text (n - 1)) first old new before now later h
    (subst (λ o. OnPath whole o before now) (advanced_on rules old.text n (standing_in state old) lt) path) refl takes more (advanced_grows rules old.text (n - 1))

pub advance_done : {R M S : Type 0} (rules : Rules S) (state : R → S) (whole : Outcome S) (n : ℕ) (v : View R M) (before now : ℕ) → n ≤ 0
    → OnPath whole (advanced rules v.text n (standing_in state v)) before now → Reaches state whole before now v (Ok tt)
advance_done rules state whole n v before now le path =
    path_end state whole (standing_in state v) v before now now
    (subst (λ o. OnPath whole o before now) (advanced_none rules v.text n (standing_in state v) le) path) refl refl

-- ---- goto

pub goto_goes : {R M S : Type 0} (rules : Rules S) (state : R → S) (whole : Outcome S) (pos n : ℕ) (old new : View R M) (before now later : ℕ) → 0 < n → place_of (units_in old) < pos
    → OnPath whole (moved rules old.text pos n (standing_in state old)) before now → Accepts state (turn rules (Some pos) old.text (standing_in state old)) now later new
    → new.text ≡ old.text → OnPath whole (moved rules new.text pos (n - 1) (standing_in state new)) before later
goto_goes rules state whole pos n old new before now later lt there path went text =
    subst (λ t. OnPath whole (moved rules t pos (n - 1) (standing_in state new)) before later) (sym text)
    (path_on whole (standing_in state old) (standing_in state new) (moved rules old.text pos (n - 1)) (turn rules (Some pos) old.text (standing_in state old)) went.cost before now later
    (subst (λ o. OnPath whole o before now) (moved_on rules old.text pos n (standing_in state old) lt there) path) went.is went.steps)

pub goto_over : {R M S : Type 0} (rules : Rules S) (state : R → S) (whole : Outcome S) (pos n : ℕ) (old new : View R M) (before now later : ℕ) → 0 < n → place_of (units_in old) < pos
    → OnPath whole (moved rules old.text pos n (standing_in state old)) before now → turn rules (Some pos) old.text (standing_in state old) ≡ Over → later ≡ now → Unchanged state old new
    → Reaches state whole before later new (Ok tt)
goto_over rules state whole pos n old new before now later lt there path over same kept =
    path_over state whole (standing_in state old) (moved rules old.text pos (n - 1)) (turn rules (Some pos) old.text (standing_in state old)) old new before now later
    (subst (λ o. OnPath whole o before now) (moved_on rules old.text pos n (standing_in state old) lt there) path) refl over same kept

pub goto_hindered : {R M S : Type 0} (rules : Rules S) (state : R → S) (whole : Outcome S) (pos n : ℕ) (first old new : View R M) (before now later : ℕ) (h : Halt) → 0 < n → place_of (units_in old) < pos
    → OnPath whole (moved rules old.text pos n (standing_in state old)) before now → TakesTo state (turn rules (Some pos) old.text (standing_in state old)) now later old new (Err h)
    → length first.accepted ≤ length old.accepted → AdvancesTo state whole before later first new (Err (Halted h))
goto_hindered rules state whole pos n first old new before now later h lt there path takes more =
    path_hindered rules (Some pos) old.text state whole (standing_in state old) (moved rules old.text pos (n - 1)) first old new before now later h
    (subst (λ o. OnPath whole o before now) (moved_on rules old.text pos n (standing_in state old) lt there) path) refl takes more (moved_grows rules old.text pos (n - 1))

pub goto_done : {R M S : Type 0} (rules : Rules S) (state : R → S) (whole : Outcome S) (pos n : ℕ) (v : View R M) (before now : ℕ) → n ≤ 0
    → OnPath whole (moved rules v.text pos n (standing_in state v)) before now → Reaches state whole before now v (Ok tt)
goto_done rules state whole pos n v before now le path =
    path_end state whole (standing_in state v) v before now now
    (subst (λ o. OnPath whole o before now) (moved_none rules v.text pos n (standing_in state v) le) path) refl refl

pub goto_there : {R M S : Type 0} (rules : Rules S) (state : R → S) (whole : Outcome S) (pos n : ℕ) (v : View R M) (before now : ℕ) → pos ≤ place_of (units_in v)
    → OnPath whole (moved rules v.text pos n (standing_in state v)) before now → Reaches state whole before now v (Ok tt)
goto_there rules state whole pos n v before now le path =
    path_end state whole (standing_in state v) v before now now
    (subst (λ o. OnPath whole o before now) (moved_there rules v.text pos n (standing_in state v) le) path) refl refl

-- no unit is lost by one that is accepted
pub accepts_more : {R M S : Type 0} (rules : Rules S) (limit : Option ℕ) (state : R → S) (old new : View R M) (now later : ℕ)
    → Accepts state (turn rules limit old.text (standing_in state old)) now later new → length old.accepted ≤ length new.accepted
accepts_more rules limit state old new now later went =
    let a : Accepted rules old.text (standing_in state old) (standing_in state new) went.cost = accepted rules limit old.text (standing_in state old) (standing_in state new) went.cost went.is in
    let n : length (units_in new) ≡ length (units_in old) + 1 = ap (λ s. length s.units) a.is ∙ length-append (units_in old) (a.unit ∷ []) in
    omega (arith, n, spans_length old.accepted, spans_length new.accepted)

-- going on from the units that were kept
goes_on_by : {R M S : Type 0} (state : R → S) (kept : Standing S) (o : Outcome S) (old w new : View R M) (before now : ℕ) (r : Result (Unit {0}) CursorStop)
    → length w.accepted ≡ length kept.units → AdvancesTo state o before now w new r → GoesTo state kept o before now old new r
goes_on_by state kept o old w new before now (Ok a) count goes = goes
goes_on_by state kept o old w new before now (Err BadEdit) count goes = goes
goes_on_by state kept o old w new before now (Err (Halted (halt.Refused f))) count goes = goes
goes_on_by state kept o old w new before now (Err (Halted halt.Spent)) count goes = goes
goes_on_by state kept o old w new before now (Err (Halted halt.OutOfMemory)) count goes = inr (subst (λ n. IsCutOff n o before now new) count goes)

pub goes_on : {R M S : Type 0} (rules : Rules S) (state : R → S) (pos : ℕ) (kept : Standing S) (text : Bytes) (old w new : View R M) (before now : ℕ) (r : Result (Unit {0}) CursorStop)
    → standing_in state w ≡ kept → w.text ≡ text → AdvancesTo state (moved rules w.text pos pos (standing_in state w)) before now w new r
    → GoesTo state kept (moved rules text pos pos kept) before now old new r
goes_on rules state pos kept text old w new before now r is same goes =
    goes_on_by state kept (moved rules text pos pos kept) old w new before now r (sym (spans_length w.accepted) ∙ ap (λ s. length s.units) is)
    (subst (λ s. AdvancesTo state (moved rules text pos pos s) before now w new r) is
    (subst (λ t. AdvancesTo state (moved rules t pos pos (standing_in state w)) before now w new r) same goes))
