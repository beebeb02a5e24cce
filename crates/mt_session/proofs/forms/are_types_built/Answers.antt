use Rattle.std.proofs.Common.{◌≡◌, length, map, true, sym, ◌∙◌, arith}
use Rattle.mt_term_parser.specs.WrittenOf.{written_of}
use Rattle.mt_resolver.specs.Built.{is_built}
use Rattle.mt_unit_parser.specs.UnitOf.{con_of}
use Rattle.mt_session.specs.Plans.{are_constructors_built}
use Rattle.mt_session.proofs.Shapes.{type_alone, and_true, and_false}
use Rattle.mt_session.proofs.forms.are_types_built.Goals as goal

pub returns-in_ok-are_constructors_built-in-Some : goal.returns-in_ok-are_constructors_built-in-Some
returns-in_ok-are_constructors_built-in-Some c =
    let one : length c.args.types.now ≡ 1 = omega (arith, c.len.ensures, c.if-len-ne1.false) in
    c.in_ok-are_constructors_built-in-Some.ensures
    ∙ sym (type_alone c.args.types.now c.in-Some.ty.now one (sym c.in-Some.ensures)
    ∙ and_true (is_built true (written_of c.in-Some.ty.now.arity)) (are_constructors_built (map con_of c.in-Some.ty.now.cons)) (sym c.in_ok-is_built-in-Some.ensures ∙ c.if-branch.true))

pub returns-else-branch : goal.returns-else-branch
returns-else-branch c =
    let one : length c.args.types.now ≡ 1 = omega (arith, c.len.ensures, c.if-len-ne1.false) in
    c.if-branch.false
    ∙ sym (type_alone c.args.types.now c.in-Some.ty.now one (sym c.in-Some.ensures)
    ∙ and_false (is_built true (written_of c.in-Some.ty.now.arity)) (are_constructors_built (map con_of c.in-Some.ty.now.cons)) (sym c.in_ok-is_built-in-Some.ensures ∙ c.if-branch.false))
