use Rattle.std.proofs.Common.{◌≡◌, ◌≤◌, ℕ, length, take, sym, ◌∙◌, ap, subst, string_bytes}
use Rattle.std.proofs.lemmas.List.{length-take-le}
use Rattle.mt_term.specs.Trees.{Bytes}
use Rattle.mt_cursor.specs.Cursors.{View, IsRun, start_of, session_in, units_in, spans}
use Rattle.mt_cursor.specs.Sessions.{CanReplace, Session, first_passing, is_seen_by, most, replaced}
use Rattle.mt_cursor.proofs.Folding.{AllPass}
use Rattle.mt_cursor.proofs.Running.{front_within, seen_front, changed_text}
use Rattle.mt_cursor.proofs.Texting.{replaced_front, replaced_short}
use Rattle.mt_cursor.proofs.cursor.Cursor.edit.Goals as goal

abbrev session : Bytes → ℕ → Session
session t n = record { text = t; count = n }

both : (a b : Bytes) (m n : ℕ) → a ≡ b → m ≡ n → session a m ≡ session b n
both a b m n e f = ap (λ t. session t m) e ∙ ap (session b) f

pub go_back-requires : goal.go_back-requires
go_back-requires g c =
    let v : View g.row.R.Denot g.row.R-Mark.Denot = record { runner = c.self.inside.runner; text = string_bytes c.self.inside.text; accepted = c.self.inside.accepted.items } in
    let n : c.seen_by-count.result ≡ first_passing (is_seen_by c.args.start) (units_in v) = c.seen_by-count.ensures ∙ ap (λ xs. first_passing (is_seen_by c.args.start) (spans xs)) c.deref.ensures.value in
    subst (λ w. c.seen_by-count.result ≤ length w.accepted) c.self.view_is
    (subst (λ k. k ≤ length v.accepted) (sym n) (front_within (is_seen_by c.args.start) v.accepted))

pub invariant_of-self : goal.invariant_of-self
invariant_of-self g c =
    let v : View g.row.R.Denot g.row.R-Mark.Denot = record { runner = c.self.inside.runner; text = string_bytes c.self.inside.text; accepted = c.self.inside.accepted.items } in
    let w : View g.row.R.Denot g.row.R-Mark.Denot = record { runner = c.self-2.inside.runner; text = string_bytes c.self-2.inside.text; accepted = c.self-2.inside.accepted.items } in
    let n : c.seen_by-count.result ≡ first_passing (is_seen_by c.args.start) (units_in v) = c.seen_by-count.ensures ∙ ap (λ xs. first_passing (is_seen_by c.args.start) (spans xs)) c.deref.ensures.value in
    let here : c.as_str.result.now ≡ c.args.self.now.text = c.as_str.ensures.value ∙ ap (λ q. q.text) c.self.view_is in
    let accepted : w.accepted ≡ take (first_passing (is_seen_by c.args.start) (units_in v)) v.accepted =
    ap (λ q. q.accepted) c.self-2.view_is ∙ c.in_ok-go_back.ensures.back ∙ ap (λ q. take c.seen_by-count.result q.accepted) (sym c.self.view_is) ∙ ap (λ k. take k v.accepted) n in
    let same : w.text ≡ c.as_str.result.now = ap (λ q. q.text) c.self-2.view_is ∙ c.go_back.ensures.text ∙ sym here in
    let whole = string_bytes c.in_ok-whole.whole in
    let f = changed_text g.R.Runner.rules g.R.Runner.state g.R.Runner.marked g.R.Runner.age g.R.Runner.IsEmpty w whole c.args.start c.self-2.invariant g.met.R.Runner.placed g.met.R.Runner.seen
    c.in_ok-whole.ensures.1.utf8
    (subst (λ t. length t ≤ most) (sym c.in_ok-whole.ensures.1.is) (replaced_short c.args.start c.args.del c.args.text.now c.as_str.result.now c.in_ok-whole.ensures.0))
    (ap (take c.args.start) same ∙ replaced_front c.args.start c.args.del c.args.text.now c.as_str.result.now c.in_ok-whole.ensures.0.first.0 ∙ ap (take c.args.start) (sym c.in_ok-whole.ensures.1.is))
    (subst (λ xs. AllPass (is_seen_by c.args.start) (spans xs)) (sym accepted) (seen_front c.args.start v.accepted)) in
    f.run

pub returns-clause-edit : goal.returns-clause-edit
returns-clause-edit g c =
    let v : View g.row.R.Denot g.row.R-Mark.Denot = record { runner = c.self.inside.runner; text = string_bytes c.self.inside.text; accepted = c.self.inside.accepted.items } in
    let w : View g.row.R.Denot g.row.R-Mark.Denot = record { runner = c.self-2.inside.runner; text = string_bytes c.self-2.inside.text; accepted = c.self-2.inside.accepted.items } in
    let n : c.seen_by-count.result ≡ first_passing (is_seen_by c.args.start) (units_in v) = c.seen_by-count.ensures ∙ ap (λ xs. first_passing (is_seen_by c.args.start) (spans xs)) c.deref.ensures.value in
    let here : c.as_str.result.now ≡ c.args.self.now.text = c.as_str.ensures.value ∙ ap (λ q. q.text) c.self.view_is in
    let accepted : w.accepted ≡ take (first_passing (is_seen_by c.args.start) (units_in v)) v.accepted =
    ap (λ q. q.accepted) c.self-2.view_is ∙ c.in_ok-go_back.ensures.back ∙ ap (λ q. take c.seen_by-count.result q.accepted) (sym c.self.view_is) ∙ ap (λ k. take k v.accepted) n in
    let text : string_bytes c.in_ok-whole.whole ≡ replaced c.args.start c.args.del c.args.text.now c.args.self.now.text =
    c.in_ok-whole.ensures.1.is ∙ ap (replaced c.args.start c.args.del c.args.text.now) here in
    let count : length w.accepted ≡ first_passing (is_seen_by c.args.start) (units_in c.args.self.now) =
    ap length accepted ∙ length-take-le (first_passing (is_seen_by c.args.start) (units_in v)) v.accepted (front_within (is_seen_by c.args.start) v.accepted)
    ∙ ap (λ q. first_passing (is_seen_by c.args.start) (units_in q)) c.self.view_is in (
      subst (CanReplace c.args.start c.args.del c.args.text.now) here c.in_ok-whole.ensures.0,
      both (string_bytes c.in_ok-whole.whole) (replaced c.args.start c.args.del c.args.text.now c.args.self.now.text) (length w.accepted) (first_passing (is_seen_by c.args.start) (units_in c.args.self.now)) text count,
    )

pub returns-clause-run : goal.returns-clause-run
returns-clause-run g c = invariant_of-self g c
