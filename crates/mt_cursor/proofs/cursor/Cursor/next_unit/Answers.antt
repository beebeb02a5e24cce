use Rattle.std.proofs.Common.{◌≡◌, sym, ◌∙◌, ap, subst, string_bytes}
use Rattle.std.specs.Str.{IsCharBoundary}
use Rattle.mt_cursor.specs.Cursors.{View, start_of, spans}
use Rattle.mt_cursor.specs.Sessions.{place_of}
use Rattle.mt_cursor.proofs.Running.{run_placed}
use Rattle.mt_cursor.proofs.cursor.Cursor.next_unit.Goals as goal

pub parse_at-requires : goal.parse_at-requires
parse_at-requires g c =
    let v : View g.row.R.Denot g.row.R-Mark.Denot = record { runner = c.self.inside.runner; text = string_bytes c.self.inside.text; accepted = c.self.inside.accepted.items } in
    let at = run_placed g.R.Runner.rules g.R.Runner.state g.R.Runner.marked g.R.Runner.age (start_of g.R.Runner.state g.R.Runner.marked v) v c.self.invariant.run g.met.R.Runner.placed in
    subst (λ t. IsCharBoundary t c.end_of-place.result) (sym c.as_str.ensures.value)
    (subst (IsCharBoundary v.text) (sym (c.end_of-place.ensures ∙ ap (λ xs. place_of (spans xs)) c.deref.ensures.value)) at)
