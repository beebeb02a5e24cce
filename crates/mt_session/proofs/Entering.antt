-- A unit declares an entry: the entry comes, or the unit is refused, with what it costs.
use Rattle.std.proofs.Common.{◌≡◌, ◌≤◌, ℕ, ◌+◌, ◌-◌, refl, ap, ◌∙◌, sym, arith}
use Rattle.mt_term.specs.Declarations.{Declaration}
use Rattle.mt_term.specs.Reasons.{Spent as AllowanceSpent}
use Rattle.mt_term.specs.ScriptState.{State}
use Rattle.mt_term.specs.declared.refusals.Fault.{Fault as HeldFault}
use Rattle.mt_unit_parser.specs.WrittenUnits.{WrittenUnit}
use Rattle.mt_decl.specs.Answers.{Answer, Made, Refused, Spent}
use Rattle.mt_decl.specs.Declaring.{declared_entry}
use Rattle.mt_decl.specs.EntryLaws.{rest}
use Rattle.mt_decl.proofs.Allowance.{allowance_law}
use Rattle.mt_session.specs.declared.sessions.Session.{Session}
use Rattle.mt_session.specs.Tasks.{with_entry_noted}
use Rattle.mt_session.specs.Moves.{Goes, Fails, move_by_entry, move_declared, charges_in}
use Rattle.mt_session.specs.Sessions.{state_in}
use Rattle.mt_session.specs.Steps.{Accepts, Refuses, fault_of}

module _ (s : State) (start end : ℕ) where
  -- what is charged is what is not left
  charged : (n : ℕ) (o : Answer Declaration) → rest o ≤ n → charges_in n (move_by_entry s start end o) ≡ n - rest o
  charged n (Made d left) h = refl
  charged n (Refused r at left) h = refl
  charged n Spent h = refl

module _ (s : State) (u : WrittenUnit) where
  abbrev answer : Answer Declaration
  answer = declared_entry s.env u.start u.kind 100000

  left_at_most : rest answer ≤ 100000
  left_at_most = (allowance_law s.env u.start u.kind).1 100000

  whole : (before now left : ℕ) → rest answer ≡ left → now + left ≡ before + 100000 → now ≡ before + charges_in 100000 (move_declared s u 100000)
  whole before now left e sum = let c = charged s u.start u.end 100000 answer left_at_most in let le = left_at_most in omega (arith, c, le, e, sum)

  pub cost_of_entry : (d : Declaration) (before now left : ℕ) → answer ≡ Made d left → now + left ≡ before + 100000 → now ≡ before + charges_in 100000 (move_declared s u 100000)
  cost_of_entry d before now left e sum = whole before now left (ap rest e) sum

  pub cost_of_refusal : (f : HeldFault) (before now left : ℕ) → answer ≡ Refused (fault_of f).0 (fault_of f).1 left → now + left ≡ before + 100000 → now ≡ before + charges_in 100000 (move_declared s u 100000)
  cost_of_refusal f before now left e sum = whole before now left (ap rest e) sum

  pub cost_of_end : (before now left : ℕ) → answer ≡ Spent → left ≡ 0 → now + left ≡ before + 100000 → now ≡ before + charges_in 100000 (move_declared s u 100000)
  cost_of_end before now left e none sum = whole before now left (ap rest e ∙ sym none) sum

  pub most_of_entry : (before now left : ℕ) → rest answer ≤ left → now + left ≡ before + 100000 → now ≤ before + charges_in 100000 (move_declared s u 100000)
  most_of_entry before now left le sum = let c = charged s u.start u.end 100000 answer left_at_most in omega (arith, c, le, sum)

  pub accepts_entry : (d : Declaration) (left : ℕ) (new : Session) → answer ≡ Made d left → state_in new ≡ with_entry_noted s u.end d → Accepts (move_declared s u 100000) new
  accepts_entry d left new e is = record { left = left; is = ap (move_by_entry s u.start u.end) e ∙ ap (λ t. Goes t left) (sym is) }

  pub refuses_entry : (f : HeldFault) (left : ℕ) → answer ≡ Refused (fault_of f).0 (fault_of f).1 left → Refuses (move_declared s u 100000) f
  refuses_entry f left e = record { left = left; is = ap (move_by_entry s u.start u.end) e }

  pub refuses_end : (f : HeldFault) → answer ≡ Spent → fault_of f ≡ (AllowanceSpent, u.start) → Refuses (move_declared s u 100000) f
  refuses_end f e is = record { left = 0; is = ap (move_by_entry s u.start u.end) e ∙ ap (λ b. Fails b 0) (sym is) }
