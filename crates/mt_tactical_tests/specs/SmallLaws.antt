-- The small prover meets what is asked of a prover.
use Rattle.std.proofs.Common.{◌≡◌, ◌+◌, ◌-◌, ◌/◌, ◌%◌, ◌<◌, ◌≤◌, ℕ, zero, suc, Bool, true, false, not, ◌&&◌, ◌||◌, List, [], ◌∷◌, nat_eq, ltb, leb, refl, ap, sym, ◌∙◌, subst, arith, if◌then◌else◌}
use Rattle.std.specs.List.{list_any}
use Rattle.std.proofs.lemmas.Bool.{leb-true, le-leb, ltb-true, lt-ltb}
use Rattle.mt_tiny.specs.Outcomes.{Outcome, Done, Stopped, rest}
use Rattle.mt_tiny.specs.Provers.{LeavesNoMore, KeepsClosed, SucceedsOn, Leads, Nowhere, Further}
use Rattle.mt_tactical_tests.specs.Small.{SmallState, is_closed, is_goal, is_refused, from_on, with_other, apply, small}
use Rattle.mt_tactical_tests.specs.declared.prover.SmallStop.{SmallStop}
use Rattle.mt_tactical_tests.specs.declared.prover.SmallStop.TheVariants as stops

-- by whether it is refused, and whether the allowance suffices
abbrev outcome : ℕ → ℕ → SmallState → ℕ → Bool → Bool → Outcome SmallStop (SmallState × List ℕ)
outcome a g s n refused enough =
    if refused then Stopped stops.Refused n else
    (if enough then Done ((s.0 + a / 10 % 10, with_other g (a / 100) s.1), from_on s.0 (a / 10 % 10)) (n - a % 10) else Stopped stops.Spent 0)

outcome-rest : (a g : ℕ) (s : SmallState) (n : ℕ) (refused enough : Bool) → rest (outcome a g s n refused enough) ≤ n
outcome-rest a g s n true enough = omega arith
outcome-rest a g s n false true = omega arith
outcome-rest a g s n false false = omega arith

pub small-leaves_no_more : LeavesNoMore small
small-leaves_no_more a g s n = outcome-rest a g s n (is_refused a s) (leb (a % 10) n)

succeeds : (a g : ℕ) (s : SmallState) (n i : ℕ) (x : SmallState × List ℕ) (left : ℕ) (refused enough : Bool) → leb (a % 10) n ≡ enough
    → outcome a g s n refused enough ≡ Done x left → outcome a g s (n + i) refused (leb (a % 10) (n + i)) ≡ Done x (left + i)
succeeds a g s n i x left true enough h e = absurd cc
succeeds a g s n i x left false false h e = absurd cc
succeeds a g s n i x left false true h e =
    let l : a % 10 ≤ n = leb-true (a % 10) n h in
    let m : leb (a % 10) (n + i) ≡ true = le-leb (a % 10) (n + i) (omega arith) in
    let same : n - a % 10 ≡ left = cc in
    let more : n + i - a % 10 ≡ left + i = omega arith in
    let answer : ((s.0 + a / 10 % 10, with_other g (a / 100) s.1), from_on s.0 (a / 10 % 10)) ≡ x = cc in
    ap (λ b. outcome a g s (n + i) false b) m ∙ ap (λ y. Done y (n + i - a % 10)) answer ∙ ap (λ j. Done x j) more

pub small-succeeds_on : SucceedsOn small
small-succeeds_on a g s n i x left e = succeeds a g s n i x left (is_refused a s) (leb (a % 10) n) refl e

-- more goals, and of the closed ones none fewer
record Grows (s t : SmallState) : Type 0 where
  goals : s.0 ≤ t.0
  closed : (g : ℕ) → is_closed s g ≡ true → is_closed t g ≡ true

or-true : (b c : Bool) → c ≡ true → (b || c) ≡ true
or-true true c e = refl
or-true false c e = e

other-closed : (g h k : ℕ) (s : SmallState) → is_closed s k ≡ true → is_closed (s.0, with_other g h s.1) k ≡ true
other-closed g zero k s e = or-true (nat_eq g k) (is_closed s k) e
other-closed g (suc h) k s e = or-true (nat_eq (suc h) k) (nat_eq g k || is_closed s k) (or-true (nat_eq g k) (is_closed s k) e)

step-grows : (a g : ℕ) (s u : SmallState) (n left : ℕ) (gs : List ℕ) (refused enough : Bool) → outcome a g s n refused enough ≡ Done (u, gs) left → Grows s u
step-grows a g s u n left gs true enough e = absurd cc
step-grows a g s u n left gs false false e = absurd cc
step-grows a g s u n left gs false true e =
    let pair : ((s.0 + a / 10 % 10, with_other g (a / 100) s.1), from_on s.0 (a / 10 % 10)) ≡ (u, gs) = cc in
    let same : (s.0 + a / 10 % 10, with_other g (a / 100) s.1) ≡ u = ap (λ (z : SmallState × List ℕ). z.0) pair in
    subst (λ t. Grows s t) same (record { goals = omega arith; closed = λ k h. other-closed g (a / 100) k s h })

leads-grows : (s t : SmallState) → Leads small s t → Grows s t
leads-grows _ _ (Nowhere s) = record { goals = omega arith; closed = λ g e. e }
leads-grows _ _ (Further s t u a g n left gs l e) =
    let before : Grows s t = leads-grows s t l in
    let last : Grows t u = step-grows a g t u n left gs (is_refused a t) (leb (a % 10) n) e in
    record { goals = omega arith; closed = λ k h. last.closed k (before.closed k h) }

is_goal-of : (b c : Bool) → (b && c) ≡ true → b ≡ true
is_goal-of true c e = refl
is_goal-of false c e = absurd cc

closed-of : (b c : Bool) → b ≡ true → (b && not c) ≡ false → c ≡ true
closed-of true true h e = refl
closed-of true false h e = absurd cc
closed-of false c h e = absurd cc

and-false : (b c : Bool) → c ≡ true → (b && not c) ≡ false
and-false true true e = refl
and-false true false e = absurd cc
and-false false c e = refl

pub small-keeps_closed : KeepsClosed small
small-keeps_closed s t u g l m h e =
    let first : Grows s t = leads-grows s t l in
    let later : Grows t u = leads-grows t u m in
    let there : g < s.0 = ltb-true g s.0 (is_goal-of (is_goal s g) (not (is_closed s g)) h) in
    let still : is_goal t g ≡ true = lt-ltb g t.0 (omega (arith, first.goals)) in
    and-false (is_goal u g) (is_closed u g) (later.closed g (closed-of (is_goal t g) (is_closed t g) still e))
