use Rattle.std.proofs.Common.{◌∷◌, ◌++◌, [], map, sym, ap, ◌∙◌, arith, rules}
use Rattle.std.proofs.lemmas.Result.{err_from_is_err_and}
use Rattle.mt_term_parser.proofs.Rows.{Row-begins, Row-separated, Row-separated-map, Row-one, Row-push, Row-halts, Row-ends}
use Rattle.mt_unit_parser.proofs.Lists.{Row-onto, Row-followed}
use Rattle.mt_unit_parser.specs.UnitOf.{group_of, con_of, eq_of}
use Rattle.mt_unit_parser.proofs.commands.constructor_list.Goals as goal

pub row-init : goal.row-init
row-init c = record {
  boundary = c.in_ok-first.ensures.end.1;
  order = c.in_ok-first.ensures.end.0;
  row = Row-separated-map con_of 124 c.args.text.now _ c.args.at _ c.in_ok-first.first _ c.in_ok-first.ensures.reads
      (c.in_ok-push.ensures.ok ∙ ap (λ xs. xs ++ c.in_ok-first.first ∷ []) c.new-cons.ensures);
}

pub returns-in_err-con-clause-reads : goal.returns-in_err-con-clause-reads
returns-in_err-con-clause-reads c =
    let p = err_from_is_err_and c.from_residual-in_err-con.result c.from_residual-in_err-con.ensures.1 in
    let h = Row-halts _ _ _ _ _ _ c.in_err-con.field-0.0 c.row.invariant.row (sym c.sees_sign.ensures.value ∙ c.row-test.true) (c.sees_sign.ensures.inside c.row-test.true) c.in_err-con.ensures.reads in
    rw (p.1, p.2) h

pub row-preserved : goal.row-preserved
row-preserved c = record {
  boundary = c.in_ok-con.ensures.end.1;
  order = omega (arith, c.in_ok-con.ensures.end.0);
  row = Row-push con_of _ _ _ _ _ _ _ _ c.in_ok-con.con c.row.invariant.row (sym c.sees_sign.ensures.value ∙ c.row-test.true) (c.sees_sign.ensures.inside c.row-test.true)
      c.in_ok-con.ensures.reads c.in_ok-con.ensures.end.0 c.in_ok-push-2.ensures.ok;
}

pub returns-clause-reads : goal.returns-clause-reads
returns-clause-reads c = Row-ends _ _ _ _ _ _ c.row.invariant.row (sym c.sees_sign.ensures.value ∙ c.row-test.false)
