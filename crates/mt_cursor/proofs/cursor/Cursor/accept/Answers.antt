use Rattle.std.proofs.Common.{◌≡◌, ◌+◌, ◌∷◌, [], ◌++◌, sym, ◌∙◌, ap, subst, string_bytes, is_ok, if◌then◌else◌}
use Rattle.mt_cursor.specs.declared.accepted.Accepted.{Accepted}
use Rattle.mt_cursor.specs.Cursors.{View, start_of, units_in, Adds, IsRun}
use Rattle.mt_cursor.specs.Runners.{Found, Becomes, IsUnitOf, MarksKept, cost_of}
use Rattle.mt_cursor.specs.Sessions.{place_of}
use Rattle.mt_cursor.proofs.Running.{Follows, adds, grown, kept, next_is_unit, same_where_hindered}
use Rattle.mt_cursor.proofs.cursor.Cursor.accept.Goals as goal

pub step-requires : goal.step-requires
step-requires g c =
    let v : View g.row.R.Denot g.row.R-Mark.Denot = record { runner = c.self.inside.runner; text = string_bytes c.self.inside.text; accepted = c.self.inside.accepted.items } in
    let found = subst (λ w. g.R.Runner.rules.parse w.text (place_of (units_in w)) ≡ Found c.args.unit) (sym c.self.view_is) c.requires in
    subst (λ t. IsUnitOf g.R.Runner.rules t c.args.unit) (sym c.as_str.ensures.value)
    (next_is_unit g.R.Runner.rules g.R.Runner.state g.R.Runner.marked g.R.Runner.age g.R.Runner.IsEmpty v c.args.unit c.self.invariant g.met.R.Runner.placed found)

pub invariant_of-self-in_err-step : goal.invariant_of-self-in_err-step
invariant_of-self-in_err-step g c =
    let v : View g.row.R.Denot g.row.R-Mark.Denot = record { runner = c.self.inside.runner; text = string_bytes c.self.inside.text; accepted = c.self.inside.accepted.items } in
    let f = kept g.R.Runner.rules g.R.Runner.state g.R.Runner.marked g.R.Runner.age g.R.Runner.IsEmpty v c.step.new.self c.self.invariant
    (same_where_hindered _ _ _ c.in_err-step.field-0.0 c.in_err-step.ensures.step) c.step.ensures.marks in
    subst (λ xs. IsRun g.R.Runner.rules g.R.Runner.state g.R.Runner.marked g.R.Runner.age g.R.Runner.IsEmpty (record { runner = c.step.new.self; text = v.text; accepted = xs })) (sym c.reserve.ensures.items) f.run

pub returns-in_err-step-clause-start : goal.returns-in_err-step-clause-start
returns-in_err-step-clause-start g c =
    let v : View g.row.R.Denot g.row.R-Mark.Denot = record { runner = c.self.inside.runner; text = string_bytes c.self.inside.text; accepted = c.self.inside.accepted.items } in
    let f = kept g.R.Runner.rules g.R.Runner.state g.R.Runner.marked g.R.Runner.age g.R.Runner.IsEmpty v c.step.new.self c.self.invariant
    (same_where_hindered _ _ _ c.in_err-step.field-0.0 c.in_err-step.ensures.step) c.step.ensures.marks in
    subst (λ xs. start_of g.R.Runner.state g.R.Runner.marked (record { runner = c.step.new.self; text = v.text; accepted = xs }) ≡ start_of g.R.Runner.state g.R.Runner.marked c.args.self.now) (sym c.reserve.ensures.items)
    (f.start ∙ ap (start_of g.R.Runner.state g.R.Runner.marked) c.self.view_is)

pub returns-in_err-step-clause-run : goal.returns-in_err-step-clause-run
returns-in_err-step-clause-run g c = invariant_of-self-in_err-step g c

pub invariant_of-self-2 : goal.invariant_of-self-2
invariant_of-self-2 g c =
    let v : View g.row.R.Denot g.row.R-Mark.Denot = record { runner = c.self.inside.runner; text = string_bytes c.self.inside.text; accepted = c.self.inside.accepted.items } in
    let a : Accepted g.row.R-Mark.Denot = record { span = c.args.unit; before = c.in_ok-before.before } in
    let found = subst (λ w. g.R.Runner.rules.parse w.text (place_of (units_in w)) ≡ Found c.args.unit) (sym c.self.view_is) c.requires in
    let step = subst (λ t. g.R.Runner.rules.step (g.R.Runner.state v.runner) t c.args.unit ≡ Becomes (g.R.Runner.state c.step.new.self) (cost_of (g.R.Runner.rules.step (g.R.Runner.state v.runner) t c.args.unit)))
    c.as_str.ensures.value c.in_ok-step.ensures.step in
    let pushed : c.push.new.self.items ≡ v.accepted ++ a ∷ [] =
    c.push.ensures.items ∙ ap (λ r. if is_ok r then c.reserve.new.self.items ++ a ∷ [] else c.reserve.new.self.items) c.unwrap.ensures ∙ ap (λ xs. xs ++ a ∷ []) c.reserve.ensures.items in
    let f = grown g.R.Runner.rules g.R.Runner.state g.R.Runner.marked g.R.Runner.age g.R.Runner.IsEmpty v c.step.new.self a _ c.self.invariant found step
    c.in_ok-before.ensures.marked c.in_ok-before.ensures.newest c.step.ensures.marks in
    subst (λ xs. IsRun g.R.Runner.rules g.R.Runner.state g.R.Runner.marked g.R.Runner.age g.R.Runner.IsEmpty (record { runner = c.step.new.self; text = v.text; accepted = xs })) (sym pushed) f.run

pub returns-clause-step : goal.returns-clause-step
returns-clause-step g c =
    let v : View g.row.R.Denot g.row.R-Mark.Denot = record { runner = c.self.inside.runner; text = string_bytes c.self.inside.text; accepted = c.self.inside.accepted.items } in
    let a : Accepted g.row.R-Mark.Denot = record { span = c.args.unit; before = c.in_ok-before.before } in
    let found = subst (λ w. g.R.Runner.rules.parse w.text (place_of (units_in w)) ≡ Found c.args.unit) (sym c.self.view_is) c.requires in
    let step = subst (λ t. g.R.Runner.rules.step (g.R.Runner.state v.runner) t c.args.unit ≡ Becomes (g.R.Runner.state c.step.new.self) (cost_of (g.R.Runner.rules.step (g.R.Runner.state v.runner) t c.args.unit)))
    c.as_str.ensures.value c.in_ok-step.ensures.step in
    let pushed : c.push.new.self.items ≡ v.accepted ++ a ∷ [] =
    c.push.ensures.items ∙ ap (λ r. if is_ok r then c.reserve.new.self.items ++ a ∷ [] else c.reserve.new.self.items) c.unwrap.ensures ∙ ap (λ xs. xs ++ a ∷ []) c.reserve.ensures.items in
    let cost = subst (λ t. c.step.new.steps ≡ c.args.steps.now + cost_of (g.R.Runner.rules.step (g.R.Runner.state v.runner) t c.args.unit)) c.as_str.ensures.value c.in_ok-step.ensures.cost in
    subst (λ w. Adds g.R.Runner.state (g.R.Runner.rules.step (g.R.Runner.state w.runner) w.text c.args.unit) c.args.unit c.args.steps.now c.step.new.steps w (record { runner = c.step.new.self; text = v.text; accepted = c.push.new.self.items })) c.self.view_is
    (subst (λ xs. Adds g.R.Runner.state (g.R.Runner.rules.step (g.R.Runner.state v.runner) v.text c.args.unit) c.args.unit c.args.steps.now c.step.new.steps v (record { runner = c.step.new.self; text = v.text; accepted = xs })) (sym pushed)
    (adds g.R.Runner.rules g.R.Runner.state v c.step.new.self a c.args.steps.now c.step.new.steps step cost))

pub returns-clause-start : goal.returns-clause-start
returns-clause-start g c =
    let v : View g.row.R.Denot g.row.R-Mark.Denot = record { runner = c.self.inside.runner; text = string_bytes c.self.inside.text; accepted = c.self.inside.accepted.items } in
    let a : Accepted g.row.R-Mark.Denot = record { span = c.args.unit; before = c.in_ok-before.before } in
    let found = subst (λ w. g.R.Runner.rules.parse w.text (place_of (units_in w)) ≡ Found c.args.unit) (sym c.self.view_is) c.requires in
    let step = subst (λ t. g.R.Runner.rules.step (g.R.Runner.state v.runner) t c.args.unit ≡ Becomes (g.R.Runner.state c.step.new.self) (cost_of (g.R.Runner.rules.step (g.R.Runner.state v.runner) t c.args.unit)))
    c.as_str.ensures.value c.in_ok-step.ensures.step in
    let pushed : c.push.new.self.items ≡ v.accepted ++ a ∷ [] =
    c.push.ensures.items ∙ ap (λ r. if is_ok r then c.reserve.new.self.items ++ a ∷ [] else c.reserve.new.self.items) c.unwrap.ensures ∙ ap (λ xs. xs ++ a ∷ []) c.reserve.ensures.items in
    let f = grown g.R.Runner.rules g.R.Runner.state g.R.Runner.marked g.R.Runner.age g.R.Runner.IsEmpty v c.step.new.self a _ c.self.invariant found step
    c.in_ok-before.ensures.marked c.in_ok-before.ensures.newest c.step.ensures.marks in
    subst (λ xs. start_of g.R.Runner.state g.R.Runner.marked (record { runner = c.step.new.self; text = v.text; accepted = xs }) ≡ start_of g.R.Runner.state g.R.Runner.marked c.args.self.now) (sym pushed)
    (f.start ∙ ap (start_of g.R.Runner.state g.R.Runner.marked) c.self.view_is)

pub returns-clause-run : goal.returns-clause-run
returns-clause-run g c = invariant_of-self-2 g c
