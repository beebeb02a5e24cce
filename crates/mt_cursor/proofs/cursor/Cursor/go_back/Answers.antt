use Rattle.std.proofs.Common.{◌≡◌, Some, sym, ◌∙◌, ap, subst, slice_get, take, string_bytes}
use Rattle.mt_cursor.specs.Cursors.{View, IsRun, start_of}
use Rattle.mt_cursor.proofs.Running.{is_marked, kept, backed}
use Rattle.mt_cursor.proofs.cursor.Cursor.go_back.Goals as goal

pub back_to-requires : goal.back_to-requires
back_to-requires g c =
    let v : View g.row.R.Denot g.row.R-Mark.Denot = record { runner = c.self.inside.runner; text = string_bytes c.self.inside.text; accepted = c.self.inside.accepted.items } in
    let get : slice_get v.accepted c.args.count ≡ Some c.in-Some.next.now = sym (c.in-Some.ensures ∙ ap (λ xs. slice_get xs c.args.count) c.deref.ensures.value) in
    is_marked g.R.Runner.rules g.R.Runner.state g.R.Runner.marked g.R.Runner.age (start_of g.R.Runner.state g.R.Runner.marked v) v c.args.count c.in-Some.next.now c.self.invariant.run get

pub invariant_of-self : goal.invariant_of-self
invariant_of-self g c =
    let v : View g.row.R.Denot g.row.R-Mark.Denot = record { runner = c.self.inside.runner; text = string_bytes c.self.inside.text; accepted = c.self.inside.accepted.items } in
    let f = kept g.R.Runner.rules g.R.Runner.state g.R.Runner.marked g.R.Runner.age g.R.Runner.IsEmpty v c.back_to.new.self c.self.invariant c.in_err-back_to.ensures.same c.in_err-back_to.ensures.marks in
    f.run

pub returns-in_err-back_to-clause-start : goal.returns-in_err-back_to-clause-start
returns-in_err-back_to-clause-start g c =
    let v : View g.row.R.Denot g.row.R-Mark.Denot = record { runner = c.self.inside.runner; text = string_bytes c.self.inside.text; accepted = c.self.inside.accepted.items } in
    let f = kept g.R.Runner.rules g.R.Runner.state g.R.Runner.marked g.R.Runner.age g.R.Runner.IsEmpty v c.back_to.new.self c.self.invariant c.in_err-back_to.ensures.same c.in_err-back_to.ensures.marks in
    f.start ∙ ap (start_of g.R.Runner.state g.R.Runner.marked) c.self.view_is

pub returns-in_err-back_to-clause-run : goal.returns-in_err-back_to-clause-run
returns-in_err-back_to-clause-run g c = invariant_of-self g c

pub invariant_of-self-in-Some : goal.invariant_of-self-in-Some
invariant_of-self-in-Some g c =
    let v : View g.row.R.Denot g.row.R-Mark.Denot = record { runner = c.self.inside.runner; text = string_bytes c.self.inside.text; accepted = c.self.inside.accepted.items } in
    let get : slice_get v.accepted c.args.count ≡ Some c.in-Some.next.now = sym (c.in-Some.ensures ∙ ap (λ xs. slice_get xs c.args.count) c.deref.ensures.value) in
    let f = backed g.R.Runner.rules g.R.Runner.state g.R.Runner.marked g.R.Runner.age g.R.Runner.IsEmpty v c.back_to.new.self c.args.count c.in-Some.next.now c.self.invariant get c.in_ok-back_to.ensures.back c.in_ok-back_to.ensures.older in
    subst (λ xs. IsRun g.R.Runner.rules g.R.Runner.state g.R.Runner.marked g.R.Runner.age g.R.Runner.IsEmpty (record { runner = c.back_to.new.self; text = v.text; accepted = xs })) (sym c.truncate.ensures.items) f.run

pub returns-in_ok-back_to-clause-start : goal.returns-in_ok-back_to-clause-start
returns-in_ok-back_to-clause-start g c =
    let v : View g.row.R.Denot g.row.R-Mark.Denot = record { runner = c.self.inside.runner; text = string_bytes c.self.inside.text; accepted = c.self.inside.accepted.items } in
    let get : slice_get v.accepted c.args.count ≡ Some c.in-Some.next.now = sym (c.in-Some.ensures ∙ ap (λ xs. slice_get xs c.args.count) c.deref.ensures.value) in
    let f = backed g.R.Runner.rules g.R.Runner.state g.R.Runner.marked g.R.Runner.age g.R.Runner.IsEmpty v c.back_to.new.self c.args.count c.in-Some.next.now c.self.invariant get c.in_ok-back_to.ensures.back c.in_ok-back_to.ensures.older in
    subst (λ xs. start_of g.R.Runner.state g.R.Runner.marked (record { runner = c.back_to.new.self; text = v.text; accepted = xs }) ≡ start_of g.R.Runner.state g.R.Runner.marked c.args.self.now) (sym c.truncate.ensures.items)
    (f.start ∙ ap (start_of g.R.Runner.state g.R.Runner.marked) c.self.view_is)

pub returns-in_ok-back_to-clause-run : goal.returns-in_ok-back_to-clause-run
returns-in_ok-back_to-clause-run g c = invariant_of-self-in-Some g c
