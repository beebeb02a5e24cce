use Rattle.std.proofs.Common.{◌≡◌, ◌≤◌, length, take, sym, ◌∙◌, ap, subst, string_bytes}
use Rattle.mt_cursor.specs.Cursors.{View, IsRun, start_of, session_in, units_in, spans}
use Rattle.mt_cursor.specs.Sessions.{first_passing, ends_by, kept_by}
use Rattle.mt_cursor.proofs.Going.{goes_on}
use Rattle.mt_cursor.proofs.Running.{front_within, kept_from}
use Rattle.mt_cursor.proofs.cursor.Cursor.goto.Goals as goal

pub go_back-requires : goal.go_back-requires
go_back-requires g c =
    let v : View g.row.R.Denot g.row.R-Mark.Denot = record { runner = c.self.inside.runner; text = string_bytes c.self.inside.text; accepted = c.self.inside.accepted.items } in
    let n : c.ended_by-count.result ≡ first_passing (ends_by c.args.pos) (units_in v) = c.ended_by-count.ensures ∙ ap (λ xs. first_passing (ends_by c.args.pos) (spans xs)) c.deref.ensures.value in
    subst (λ w. c.ended_by-count.result ≤ length w.accepted) c.self.view_is
    (subst (λ k. k ≤ length v.accepted) (sym n) (front_within (ends_by c.args.pos) v.accepted))

pub returns-clause-goto : goal.returns-clause-goto
returns-clause-goto g c =
    let v : View g.row.R.Denot g.row.R-Mark.Denot = record { runner = c.self.inside.runner; text = string_bytes c.self.inside.text; accepted = c.self.inside.accepted.items } in
    let n : c.ended_by-count.result ≡ first_passing (ends_by c.args.pos) (units_in v) = c.ended_by-count.ensures ∙ ap (λ xs. first_passing (ends_by c.args.pos) (spans xs)) c.deref.ensures.value in
    let old = c.args.self.now in
    let w = c.go_back.new.self in
    let run = subst (IsRun g.R.Runner.rules g.R.Runner.state g.R.Runner.marked g.R.Runner.age g.R.Runner.IsEmpty) c.self.view_is c.self.invariant in
    let accepted : w.accepted ≡ take (first_passing (ends_by c.args.pos) (units_in old)) old.accepted =
    c.in_ok-go_back.ensures.back ∙ ap (λ k. take k old.accepted) (n ∙ ap (λ q. first_passing (ends_by c.args.pos) (units_in q)) c.self.view_is) in
    goes_on g.R.Runner.rules g.R.Runner.state c.args.pos (kept_by g.R.Runner.rules (start_of g.R.Runner.state g.R.Runner.marked old) c.args.pos (session_in old)) old.text old w c.go_on.new.self c.args.steps.now c.go_on.new.steps c.go_on.result
    (kept_from g.R.Runner.rules g.R.Runner.state g.R.Runner.marked g.R.Runner.age old w c.args.pos run.run c.go_back.ensures.run.run c.go_back.ensures.text c.go_back.ensures.start accepted)
    c.go_back.ensures.text c.go_on.ensures.goes
