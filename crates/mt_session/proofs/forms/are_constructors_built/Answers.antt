use Rattle.std.proofs.Common.{◌≡◌, true, sym, ◌∙◌, arith}
use Rattle.mt_session.proofs.Shapes.{cons_next}
use Rattle.mt_session.proofs.forms.are_constructors_built.Goals as goal

pub loop-i-preserved : goal.loop-i-preserved
loop-i-preserved c =
    let on : c.in_ok-is_built.field-0 ≡ true = first_of (search (c.if-not-branch.false), grind (arith, c.if-not-branch.false)) in
    c.loop-i.invariant ∙ cons_next c.args.cons.now c.loop-i.i c.in-Some.con.now (sym c.in-Some.ensures) (sym c.in_ok-is_built.ensures ∙ on)
