use Rattle.std.proofs.Common.{sym, ◌∙◌, arith}
use Rattle.std.proofs.lemmas.Result.{err_from_is_err_and}
use Rattle.mt_term_parser.proofs.Rows.{Row-begins, Row-one, Row-halts, Row-ends}
use Rattle.mt_term_parser.proofs.readings.binders_at.Goals as goal

pub row-init : goal.row-init
row-init c = record {
  boundary = c.requires;
  order = omega arith;
  row = rw c.new-names.ensures (Row-begins c.args.text.now _ _ c.args.at);
}

pub returns-in_err-name-clause-reads : goal.returns-in_err-name-clause-reads
returns-in_err-name-clause-reads c =
    let p = err_from_is_err_and c.from_residual.result c.from_residual.ensures.1 in
    let h = Row-halts _ _ _ _ _ _ c.in_err-name.field-0.0 c.row.invariant.row (sym c.sees_binder.ensures.value ∙ c.row-test.true) (c.sees_binder.ensures.inside c.row-test.true) c.in_err-name.ensures.reads in
    rw (p.1, p.2) h

pub row-preserved : goal.row-preserved
row-preserved c = record {
  boundary = c.in_ok-name.ensures.end.1;
  order = omega (arith, c.in_ok-name.ensures.end.0);
  row = rw c.in_ok-push.ensures.ok
      (Row-one _ _ _ _ _ _ _ _ c.row.invariant.row (sym c.sees_binder.ensures.value ∙ c.row-test.true) (c.sees_binder.ensures.inside c.row-test.true) c.in_ok-name.ensures.reads c.in_ok-name.ensures.end.0);
}

pub returns-clause-reads : goal.returns-clause-reads
returns-clause-reads c = Row-ends _ _ _ _ _ _ c.row.invariant.row (sym c.sees_binder.ensures.value ∙ c.row-test.false)
