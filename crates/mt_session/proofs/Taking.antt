-- A unit is taken: its own charge, what it asks for, and what the kernel says.
use Rattle.std.proofs.Common.{◌≡◌, ◌≤◌, ℕ, ◌+◌, Bool, true, false, Option, Some, None, refl, ap, ◌∙◌, sym, subst, arith}
use Rattle.std.specs.Prelude.{Result, Ok, Err, IfOk, OnOk, OnErr, if◌then◌else◌}
use Rattle.mt_term.specs.Reasons.{Reason, KernelRefused, number_of, Spent as AllowanceSpent}
use Rattle.mt_rules.specs.Charges.{Outcome, Done, Refused, Spent}
use Rattle.mt_term.specs.ScriptState.{Proof, State}
use Rattle.mt_term.specs.declared.refusals.Fault.{Fault as HeldFault}
use Rattle.mt_unit_parser.specs.WrittenUnits.{WrittenKind, WrittenUnit}
use Rattle.mt_resolver.specs.Resolution.{Resolution, Found, Faults}
use Rattle.mt_kernel.specs.Answers.{charge_of}
use Rattle.mt_session.specs.declared.sessions.Session.{Session}
use Rattle.mt_session.specs.declared.running.Step.{Step}
use Rattle.mt_session.specs.Tasks.{Task, judged, changed}
use Rattle.mt_session.specs.Plans.{asked, declares, takes_charge}
use Rattle.mt_session.specs.Moves.{Move, Goes, Fails, move_by, move_for, after_charge, move, move_asked, move_declared, charges_in}
use Rattle.mt_session.specs.Sessions.{state_in}
use Rattle.mt_session.specs.Steps.{Accepts, Refuses, MovesAs, fault_of, refusal_of}
use Rattle.mt_session.proofs.Lasting.{charges_judged, after_own}

-- ---- by the kernel's outcome

module _ (s : State) (start end : ℕ) (k : Task) where
  pub accepts_by : (o : Outcome (Unit {0})) (new : Session) → refusal_of o ≡ None → state_in new ≡ changed s end k → Accepts (move_by s start end k o) new
  accepts_by (Done z left) new n e = record { left = left; is = ap (λ t. Goes t left) (sym e) }
  accepts_by (Refused r left) new n e = let no : ⊥ = cc in absurd no
  accepts_by Spent new n e = let no : ⊥ = cc in absurd no

  pub refuses_by : (o : Outcome (Unit {0})) (f : HeldFault) → refusal_of o ≡ Some (fault_of f).0 → f.at ≡ start → Refuses (move_by s start end k o) f
  refuses_by (Done z left) f n e = let no : ⊥ = cc in absurd no
  refuses_by (Refused r left) f n e = let same : KernelRefused (number_of r) ≡ (fault_of f).0 = cc in record { left = left; is = ap (λ c. Fails (c, start) left) same ∙ ap (λ at. Fails ((fault_of f).0, at) left) (sym e) }
  refuses_by Spent f n e = let same : AllowanceSpent ≡ (fault_of f).0 = cc in record { left = 0; is = ap (λ c. Fails (c, start) 0) same ∙ ap (λ at. Fails ((fault_of f).0, at) 0) (sym e) }

-- ---- by what the unit asks for

module _ (s : State) (start end : ℕ) where
  charged_found : (b : Bool) (k : Task) → charges_in 100000 (after_charge b start (move_for s start end (Found k)) 100000) ≡ (if b then 1 else 0) + charge_of (if b then 99999 else 100000) (judged s.env k (if b then 99999 else 100000))
  charged_found true k = charges_judged s start end 99999 1 k
  charged_found false k = charges_judged s start end 100000 0 k

  charged_faults : (b : Bool) (r : Reason) (at : ℕ) → charges_in 100000 (after_charge b start (move_for s start end (Faults r at)) 100000) ≡ (if b then 1 else 0)
  charged_faults true r at = refl
  charged_faults false r at = refl

  charged_least : (b : Bool) (r : Resolution Task) → (if b then 1 else 0) ≤ charges_in 100000 (after_charge b start (move_for s start end r) 100000)
  charged_least b (Found k) = let e = charged_found b k in omega (arith, e)
  charged_least b (Faults r at) = let e = charged_faults b r at in omega (arith, e)

module _ (s : State) (u : WrittenUnit) where
  pub cost_found : (k : Task) (n before mid now : ℕ) → asked s u.start u.kind ≡ Found k → n ≡ (if takes_charge s.proof u.kind then 99999 else 100000) → mid ≡ before + (if takes_charge s.proof u.kind then 1 else 0) → now ≡ mid + charge_of n (judged s.env k n) → now ≡ before + charges_in 100000 (move_asked s u 100000)
  cost_found k n before mid now e a b c =
      let whole = charged_found s u.start u.end (takes_charge s.proof u.kind) k in
      let same = ap (λ r. charges_in 100000 (after_charge (takes_charge s.proof u.kind) u.start (move_for s u.start u.end r) 100000)) e in
      let part = ap (λ m. charge_of m (judged s.env k m)) a in
      omega (arith, whole, same, part, b, c)

  pub most_found : (k : Task) (n before mid now : ℕ) → asked s u.start u.kind ≡ Found k → n ≡ (if takes_charge s.proof u.kind then 99999 else 100000) → mid ≡ before + (if takes_charge s.proof u.kind then 1 else 0) → now ≤ mid + charge_of n (judged s.env k n) → now ≤ before + charges_in 100000 (move_asked s u 100000)
  most_found k n before mid now e a b c =
      let whole = charged_found s u.start u.end (takes_charge s.proof u.kind) k in
      let same = ap (λ r. charges_in 100000 (after_charge (takes_charge s.proof u.kind) u.start (move_for s u.start u.end r) 100000)) e in
      let part = ap (λ m. charge_of m (judged s.env k m)) a in
      omega (arith, whole, same, part, b, c)

  pub cost_faults : (r : Reason) (at before now : ℕ) → asked s u.start u.kind ≡ Faults r at → now ≡ before + (if takes_charge s.proof u.kind then 1 else 0) → now ≡ before + charges_in 100000 (move_asked s u 100000)
  cost_faults r at before now e b =
      let whole = charged_faults s u.start u.end (takes_charge s.proof u.kind) r at in
      let same = ap (λ r. charges_in 100000 (after_charge (takes_charge s.proof u.kind) u.start (move_for s u.start u.end r) 100000)) e in
      omega (arith, whole, same, b)

  pub most_any : (before now : ℕ) → now ≡ before + (if takes_charge s.proof u.kind then 1 else 0) → now ≤ before + charges_in 100000 (move_asked s u 100000)
  most_any before now b =
      let least = charged_least s u.start u.end (takes_charge s.proof u.kind) (asked s u.start u.kind) in omega (arith, least, b)

  pub moves_found : {E : Type 0} (old new : Session) (k : Task) (n : ℕ) (r : Result Step E) → asked s u.start u.kind ≡ Found k → n ≡ (if takes_charge s.proof u.kind then 99999 else 100000) → IfOk r (λ st. MovesAs (move_by s u.start u.end k (judged s.env k n)) old new st) → IfOk r (λ st. MovesAs (move_asked s u 100000) old new st)
  moves_found old new k n r e a h =
      let own = after_own (takes_charge s.proof u.kind) u.start (move_for s u.start u.end (asked s u.start u.kind)) in
      let same : move_asked s u 100000 ≡ move_by s u.start u.end k (judged s.env k n) =
      own ∙ ap (λ q. move_for s u.start u.end q (if takes_charge s.proof u.kind then 99999 else 100000)) e ∙ ap (λ m. move_by s u.start u.end k (judged s.env k m)) (sym a) in
      subst (λ m. IfOk r (λ st. MovesAs m old new st)) (sym same) h

  pub refuses_faults : (f : HeldFault) → asked s u.start u.kind ≡ Faults (fault_of f).0 (fault_of f).1 → Refuses (move_asked s u 100000) f
  refuses_faults f e =
      let own = after_own (takes_charge s.proof u.kind) u.start (move_for s u.start u.end (asked s u.start u.kind)) in record {
        left = if takes_charge s.proof u.kind then 99999 else 100000;
        is = own ∙ ap (λ q. move_for s u.start u.end q (if takes_charge s.proof u.kind then 99999 else 100000)) e;
      }

  pub cost_of_found : {A E : Type 0} (k : Task) (n before mid now : ℕ) (r : Result A E) → asked s u.start u.kind ≡ Found k → n ≡ (if takes_charge s.proof u.kind then 99999 else 100000) → mid ≡ before + (if takes_charge s.proof u.kind then 1 else 0) → OnOk r (now ≡ mid + charge_of n (judged s.env k n)) → OnOk r (now ≡ before + charges_in 100000 (move_asked s u 100000))
  cost_of_found k n before mid now (Ok a) e p q c = cost_found k n before mid now e p q c
  cost_of_found k n before mid now (Err x) e p q c = tt

  pub most_of_found : {A E : Type 0} (k : Task) (n before mid now : ℕ) (r : Result A E) → asked s u.start u.kind ≡ Found k → n ≡ (if takes_charge s.proof u.kind then 99999 else 100000) → mid ≡ before + (if takes_charge s.proof u.kind then 1 else 0) → OnErr r (now ≤ mid + charge_of n (judged s.env k n)) → OnErr r (now ≤ before + charges_in 100000 (move_asked s u 100000))
  most_of_found k n before mid now (Ok a) e p q c = tt
  most_of_found k n before mid now (Err x) e p q c = most_found k n before mid now e p q c

  -- by whether the unit declares an entry

  declared_is : (b : Bool) → declares s.proof u.kind ≡ b → move s u 100000 ≡ (if b then move_declared s u 100000 else move_asked s u 100000)
  declared_is b e = ap (λ c. if c then move_declared s u 100000 else move_asked s u 100000) e

  pub move_is_declared : declares s.proof u.kind ≡ true → move s u 100000 ≡ move_declared s u 100000
  move_is_declared e = declared_is true e

  pub move_is_asked : declares s.proof u.kind ≡ false → move s u 100000 ≡ move_asked s u 100000
  move_is_asked e = declared_is false e

  moved_as : {E : Type 0} (old new : Session) (r : Result Step E) (m : Move) → move s u 100000 ≡ m → IfOk r (λ st. MovesAs m old new st) → IfOk r (λ st. MovesAs (move s u 100000) old new st)
  moved_as old new r m e h = subst (λ v. IfOk r (λ st. MovesAs v old new st)) (sym e) h

  cost_as : {A E : Type 0} (before now : ℕ) (r : Result A E) (m : Move) → move s u 100000 ≡ m → OnOk r (now ≡ before + charges_in 100000 m) → OnOk r (now ≡ before + charges_in 100000 (move s u 100000))
  cost_as before now r m e h = subst (λ v. OnOk r (now ≡ before + charges_in 100000 v)) (sym e) h

  most_as : {A E : Type 0} (before now : ℕ) (r : Result A E) (m : Move) → move s u 100000 ≡ m → OnErr r (now ≤ before + charges_in 100000 m) → OnErr r (now ≤ before + charges_in 100000 (move s u 100000))
  most_as before now r m e h = subst (λ v. OnErr r (now ≤ before + charges_in 100000 v)) (sym e) h

  pub moves_declared : {E : Type 0} (old new : Session) (r : Result Step E) → declares s.proof u.kind ≡ true → IfOk r (λ st. MovesAs (move_declared s u 100000) old new st) → IfOk r (λ st. MovesAs (move s u 100000) old new st)
  moves_declared old new r e h = moved_as old new r (move_declared s u 100000) (move_is_declared e) h

  pub cost_declared : {A E : Type 0} (before now : ℕ) (r : Result A E) → declares s.proof u.kind ≡ true → OnOk r (now ≡ before + charges_in 100000 (move_declared s u 100000)) → OnOk r (now ≡ before + charges_in 100000 (move s u 100000))
  cost_declared before now r e h = cost_as before now r (move_declared s u 100000) (move_is_declared e) h

  pub most_declared : {A E : Type 0} (before now : ℕ) (r : Result A E) → declares s.proof u.kind ≡ true → OnErr r (now ≤ before + charges_in 100000 (move_declared s u 100000)) → OnErr r (now ≤ before + charges_in 100000 (move s u 100000))
  most_declared before now r e h = most_as before now r (move_declared s u 100000) (move_is_declared e) h

  pub moves_asked : {E : Type 0} (old new : Session) (r : Result Step E) → declares s.proof u.kind ≡ false → IfOk r (λ st. MovesAs (move_asked s u 100000) old new st) → IfOk r (λ st. MovesAs (move s u 100000) old new st)
  moves_asked old new r e h = moved_as old new r (move_asked s u 100000) (move_is_asked e) h

  pub cost_asked : {A E : Type 0} (before now : ℕ) (r : Result A E) → declares s.proof u.kind ≡ false → OnOk r (now ≡ before + charges_in 100000 (move_asked s u 100000)) → OnOk r (now ≡ before + charges_in 100000 (move s u 100000))
  cost_asked before now r e h = cost_as before now r (move_asked s u 100000) (move_is_asked e) h

  pub most_asked : {A E : Type 0} (before now : ℕ) (r : Result A E) → declares s.proof u.kind ≡ false → OnErr r (now ≤ before + charges_in 100000 (move_asked s u 100000)) → OnErr r (now ≤ before + charges_in 100000 (move s u 100000))
  most_asked before now r e h = most_as before now r (move_asked s u 100000) (move_is_asked e) h

-- a unit that declares an entry stands outside a proof
pub declares_outside : (p : Option Proof) (k : WrittenKind) → declares p k ≡ true → p ≡ None
declares_outside None k e = refl
declares_outside (Some q) k e = let no : ⊥ = cc in absurd no
