use Rattle.std.proofs.Common.{◌≡◌, ◌≤◌, Some, None, length, sym, ◌∙◌, ap, subst, slice_get, string_bytes, IfSome}
use Rattle.mt_printer.specs.Prints.{Prints}
use Rattle.mt_cursor.specs.Cursors.{View, IsRun, start_of, session_in, units_in, spans}
use Rattle.mt_cursor.specs.Sessions.{kept_by, fold, first_passing, ends_by}
use Rattle.mt_cursor.proofs.Running.{is_marked, kept_is, last_state, front_within}
use Rattle.mt_cursor.proofs.cursor.Cursor.show_at.Goals as goal

pub show_at-requires : goal.show_at-requires
show_at-requires g c =
    let v : View g.row.R.Denot g.row.R-Mark.Denot = record { runner = c.self.inside.runner; text = string_bytes c.self.inside.text; accepted = c.self.inside.accepted.items } in
    let get : slice_get v.accepted c.ended_by-count.result ≡ Some c.in-Some.next.now = sym (c.in-Some.ensures ∙ ap (λ xs. slice_get xs c.ended_by-count.result) c.deref-2.ensures.value) in
    is_marked g.R.Runner.rules g.R.Runner.state g.R.Runner.marked g.R.Runner.age (start_of g.R.Runner.state g.R.Runner.marked v) v c.ended_by-count.result c.in-Some.next.now c.self.invariant.run get

pub returns-in-Some : goal.returns-in-Some
returns-in-Some g c =
    let v : View g.row.R.Denot g.row.R-Mark.Denot = record { runner = c.self.inside.runner; text = string_bytes c.self.inside.text; accepted = c.self.inside.accepted.items } in
    let n : c.ended_by-count.result ≡ first_passing (ends_by c.args.pos) (units_in v) = c.ended_by-count.ensures ∙ ap (λ xs. first_passing (ends_by c.args.pos) (spans xs)) c.deref.ensures.value in
    let kept : (kept_by g.R.Runner.rules (start_of g.R.Runner.state g.R.Runner.marked v) c.args.pos (session_in v)).state ≡ (fold g.R.Runner.rules v.text (start_of g.R.Runner.state g.R.Runner.marked v) c.ended_by-count.result).state =
    ap (λ st. st.state) (kept_is g.R.Runner.rules g.R.Runner.state g.R.Runner.marked g.R.Runner.age (start_of g.R.Runner.state g.R.Runner.marked v) v c.args.pos c.self.invariant.run ∙ ap (fold g.R.Runner.rules v.text (start_of g.R.Runner.state g.R.Runner.marked v)) (sym n)) in
    let get : slice_get v.accepted c.ended_by-count.result ≡ Some c.in-Some.next.now = sym (c.in-Some.ensures ∙ ap (λ xs. slice_get xs c.ended_by-count.result) c.deref-2.ensures.value) in
    subst (λ w. Prints (g.O.Sink.got c.args.out.now) (g.O.Sink.got c.show_at.new.out) (g.O.Sink.faults c.args.out.now) (g.O.Sink.faults c.show_at.new.out) (g.R.Runner.shown (kept_by g.R.Runner.rules (start_of g.R.Runner.state g.R.Runner.marked w) c.args.pos (session_in w)).state) c.show_at.result) c.self.view_is
    (subst (λ q. Prints (g.O.Sink.got c.args.out.now) (g.O.Sink.got c.show_at.new.out) (g.O.Sink.faults c.args.out.now) (g.O.Sink.faults c.show_at.new.out) (g.R.Runner.shown q) c.show_at.result) (sym kept)
    (subst (λ o. IfSome o (λ q. Prints (g.O.Sink.got c.args.out.now) (g.O.Sink.got c.show_at.new.out) (g.O.Sink.faults c.args.out.now) (g.O.Sink.faults c.show_at.new.out) (g.R.Runner.shown q) c.show_at.result)) (c.self.invariant.run.before c.ended_by-count.result c.in-Some.next.now get) c.show_at.ensures))

pub returns-in-None : goal.returns-in-None
returns-in-None g c =
    let v : View g.row.R.Denot g.row.R-Mark.Denot = record { runner = c.self.inside.runner; text = string_bytes c.self.inside.text; accepted = c.self.inside.accepted.items } in
    let n : c.ended_by-count.result ≡ first_passing (ends_by c.args.pos) (units_in v) = c.ended_by-count.ensures ∙ ap (λ xs. first_passing (ends_by c.args.pos) (spans xs)) c.deref.ensures.value in
    let kept : (kept_by g.R.Runner.rules (start_of g.R.Runner.state g.R.Runner.marked v) c.args.pos (session_in v)).state ≡ (fold g.R.Runner.rules v.text (start_of g.R.Runner.state g.R.Runner.marked v) c.ended_by-count.result).state =
    ap (λ st. st.state) (kept_is g.R.Runner.rules g.R.Runner.state g.R.Runner.marked g.R.Runner.age (start_of g.R.Runner.state g.R.Runner.marked v) v c.args.pos c.self.invariant.run ∙ ap (fold g.R.Runner.rules v.text (start_of g.R.Runner.state g.R.Runner.marked v)) (sym n)) in
    let none : slice_get v.accepted c.ended_by-count.result ≡ None = sym (c.in-None.ensures ∙ ap (λ xs. slice_get xs c.ended_by-count.result) c.deref-2.ensures.value) in
    let le : c.ended_by-count.result ≤ length v.accepted = subst (λ k. k ≤ length v.accepted) (sym n) (front_within (ends_by c.args.pos) v.accepted) in
    let last : g.R.Runner.state v.runner ≡ (fold g.R.Runner.rules v.text (start_of g.R.Runner.state g.R.Runner.marked v) c.ended_by-count.result).state = last_state g.R.Runner.rules g.R.Runner.state g.R.Runner.marked g.R.Runner.age (start_of g.R.Runner.state g.R.Runner.marked v) v c.ended_by-count.result c.self.invariant.run le none in
    subst (λ w. Prints (g.O.Sink.got c.args.out.now) (g.O.Sink.got c.show.new.out) (g.O.Sink.faults c.args.out.now) (g.O.Sink.faults c.show.new.out) (g.R.Runner.shown (kept_by g.R.Runner.rules (start_of g.R.Runner.state g.R.Runner.marked w) c.args.pos (session_in w)).state) c.show.result) c.self.view_is
    (subst (λ q. Prints (g.O.Sink.got c.args.out.now) (g.O.Sink.got c.show.new.out) (g.O.Sink.faults c.args.out.now) (g.O.Sink.faults c.show.new.out) (g.R.Runner.shown q) c.show.result) (last ∙ sym kept)
    (subst (λ w. Prints (g.O.Sink.got c.args.out.now) (g.O.Sink.got c.show.new.out) (g.O.Sink.faults c.args.out.now) (g.O.Sink.faults c.show.new.out) (g.R.Runner.shown (g.R.Runner.state w.runner)) c.show.result) (sym c.self.view_is) c.show.ensures))
