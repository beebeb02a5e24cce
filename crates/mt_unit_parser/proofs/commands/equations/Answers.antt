use Rattle.std.proofs.Common.{◌∷◌, ◌++◌, [], map, sym, ap, ◌∙◌, arith, rules}
use Rattle.std.proofs.lemmas.Result.{err_from_is_err_and}
use Rattle.mt_term_parser.proofs.Rows.{Row-begins, Row-separated, Row-separated-map, Row-one, Row-push, Row-halts, Row-ends}
use Rattle.mt_unit_parser.proofs.Lists.{Row-onto, Row-followed}
use Rattle.mt_unit_parser.specs.UnitOf.{group_of, con_of, eq_of}
use Rattle.mt_unit_parser.proofs.commands.equations.Goals as goal

pub row-init : goal.row-init
row-init c = record { boundary = c.requires; order = omega arith; row = rw c.new-eqs.ensures (Row-begins c.args.text.now _ _ c.args.at) }

pub returns-in_err-eq-clause-reads : goal.returns-in_err-eq-clause-reads
returns-in_err-eq-clause-reads c =
    let p = err_from_is_err_and c.from_residual.result c.from_residual.ensures.1 in
    let h = Row-halts _ _ _ _ _ _ c.in_err-eq.field-0.0 c.row.invariant.row (sym c.sees_sign.ensures.value ∙ c.row-test.true) (c.sees_sign.ensures.inside c.row-test.true) c.in_err-eq.ensures.reads in
    rw (p.1, p.2) h

pub row-preserved : goal.row-preserved
row-preserved c = record {
  boundary = c.in_ok-eq.ensures.end.1;
  order = omega (arith, c.in_ok-eq.ensures.end.0);
  row = Row-push eq_of _ _ _ _ _ _ _ _ c.in_ok-eq.eq c.row.invariant.row (sym c.sees_sign.ensures.value ∙ c.row-test.true) (c.sees_sign.ensures.inside c.row-test.true)
      c.in_ok-eq.ensures.reads c.in_ok-eq.ensures.end.0 c.in_ok-push.ensures.ok;
}

pub returns-clause-reads : goal.returns-clause-reads
returns-clause-reads c = Row-ends _ _ _ _ _ _ c.row.invariant.row (sym c.sees_sign.ensures.value ∙ c.row-test.false)
