use Rattle.std.proofs.Common.{◌≡◌, ◌∙◌, ◌<◌, ◌≤◌, length, sym, ap, arith}
use Rattle.std.specs.Prelude.{slice_get, Some, None}
use Rattle.mt_printer.specs.TermText.{variable_text}
use Rattle.mt_printer.proofs.Turning.{turned_at, turned_none}
use Rattle.mt_printer.proofs.scopes.Scope.name.Goals as goal

pub returns-then-i-count : goal.returns-then-i-count
returns-then-i-count c =
    let v = c.self.inside.shown in
    let past : length v.items ≤ c.args.i = omega (arith, c.if-i-count.true, c.len-count.ensures, v.ok.0) in
    sym (ap variable_text (ap (λ s. slice_get s c.args.i) (sym c.self.view_is) ∙ turned_none v.items c.args.i past))

pub returns-in-Some : goal.returns-in-Some
returns-in-Some c =
    let v = c.self.inside.shown in
    let within : c.args.i < c.len-count.result = omega (arith, c.if-i-count.false) in
    let got = turned_at v.items c.len-count.result c.args.i _ (c.len-count.ensures ∙ v.ok.0) within c.index.ensures ∙ ap Some c.in-Some.is in
    c.as_bytes.ensures ∙ sym (ap variable_text (ap (λ s. slice_get s c.args.i) (sym c.self.view_is) ∙ got))

pub returns-in-None : goal.returns-in-None
returns-in-None c =
    let v = c.self.inside.shown in
    let within : c.args.i < c.len-count.result = omega (arith, c.if-i-count.false) in
    let got = turned_at v.items c.len-count.result c.args.i _ (c.len-count.ensures ∙ v.ok.0) within c.index.ensures ∙ ap Some c.in-None.is in
    sym (ap variable_text (ap (λ s. slice_get s c.args.i) (sym c.self.view_is) ∙ got))
