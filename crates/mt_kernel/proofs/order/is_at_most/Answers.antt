use Rattle.std.proofs.Common.{◌≡◌, ◌∙◌, Bool, sym, subst, IfOk, arith}
use Rattle.std.specs.List.{list_all}
use Rattle.mt_term.specs.Universes.{value}
use Rattle.mt_term.specs.UniverseOrder.{at_most, is_covered, path, height}
use Rattle.mt_kernel.proofs.Rows.{value_by_row, too_low, by_atoms}
use Rattle.mt_kernel.proofs.order.is_at_most.Goals as goal

pub returns-then-least_value-from : goal.returns-then-least_value-from
returns-then-least_value-from c =
    let cs = c.args.below.now in
    let w = c.args.w.now in
    let least : c.least_value.result ≡ value (height cs) w = c.least_value.ensures ∙ value_by_row cs c.args.heights.now c.requires.heights w in
    sym (too_low cs c.args.u.now w c.requires.acyclic (omega (arith, least, c.from.ensures, c.if-least_value-from.true)))

pub returns : goal.returns
returns c =
    let cs = c.args.below.now in
    let u = c.args.u.now in
    let w = c.args.w.now in
    let least : c.least_value.result ≡ value (height cs) w = c.least_value.ensures ∙ value_by_row cs c.args.heights.now c.requires.heights w in
    let same : list_all (is_covered (path cs) c.as_slice-2.result.now) c.as_slice.result.now ≡ at_most cs u w =
    (λ i. list_all (is_covered (path cs) (c.as_slice-2.ensures i)) (c.as_slice.ensures i))
    ∙ sym (by_atoms cs u w c.requires.acyclic (omega (arith, least, c.from.ensures, c.if-least_value-from.false))) in
    subst (λ x. IfOk c.all_covered.result (λ (b : Bool). b ≡ x)) same c.all_covered.ensures
