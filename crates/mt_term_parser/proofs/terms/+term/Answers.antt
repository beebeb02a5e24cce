use Rattle.std.proofs.Common.{◌∷◌, ◌++◌, [], sym, ap, ◌∙◌, arith, rules}
use Rattle.std.proofs.lemmas.Result.{err_from_is_err_and}
use Rattle.mt_term_parser.specs.WrittenOf.{written_of, case_of}
use Rattle.mt_term_parser.proofs.Rows.{Row-begins, Row-separated-map, Row-push, Row-halts, Row-ends}
use Rattle.mt_term_parser.proofs.Rooms.{term-opened, term-halts}
use Rattle.mt_term_parser.proofs.terms.+term.Goals as goal

pub arguments-row-init : goal.arguments-row-init
arguments-row-init t c = record {
  boundary = search rules;
  order = omega arith;
  row = rw c.new-args.ensures.items (Row-begins c.args.text.now _ _ c.args.at);
}

pub arguments-returns-in_err-arg-clause-reads : goal.arguments-returns-in_err-arg-clause-reads
arguments-returns-in_err-arg-clause-reads t c =
    let p = err_from_is_err_and c.from_residual-in_err-arg.result c.from_residual-in_err-arg.ensures.1 in
    let h = Row-halts _ _ _ _ _ _ c.in_err-arg.field-0.0 c.row.invariant.row (sym c.sees_argument.ensures.value ∙ c.row-test.true) (c.sees_argument.ensures.inside c.row-test.true) c.in_err-arg.ensures.reads in
    rw (p.1, p.2) h

pub arguments-row-preserved : goal.arguments-row-preserved
arguments-row-preserved t c = record {
  boundary = c.in_ok-arg.ensures.end.1;
  order = omega (arith, c.in_ok-arg.ensures.end.0);
  row = Row-push written_of _ _ _ _ _ _ _ _ c.in_ok-arg.arg c.row.invariant.row (sym c.sees_argument.ensures.value ∙ c.row-test.true) (c.sees_argument.ensures.inside c.row-test.true)
      c.in_ok-arg.ensures.reads c.in_ok-arg.ensures.end.0 c.in_ok-push_raw.ensures;
}

pub arguments-returns-clause-reads : goal.arguments-returns-clause-reads
arguments-returns-clause-reads t c = Row-ends _ _ _ _ _ _ c.row.invariant.row (sym c.sees_argument.ensures.value ∙ c.row-test.false)

pub arms-row-init : goal.arms-row-init
arms-row-init t c = record {
  boundary = c.in_ok-first.ensures.end.1;
  order = c.in_ok-first.ensures.end.0;
  row = Row-separated-map case_of 124 c.args.text.now _ c.args.at _ c.in_ok-first.first _ c.in_ok-first.ensures.reads
      (c.in_ok-push_arm.ensures ∙ ap (λ xs. xs ++ c.in_ok-first.first ∷ []) c.new-arms.ensures.items);
}

pub arms-returns-in_err-arm-clause-reads : goal.arms-returns-in_err-arm-clause-reads
arms-returns-in_err-arm-clause-reads t c =
    let p = err_from_is_err_and c.from_residual-in_err-arm.result c.from_residual-in_err-arm.ensures.1 in
    let h = Row-halts _ _ _ _ _ _ c.in_err-arm.field-0.0 c.row.invariant.row (sym c.sees_sign.ensures.value ∙ c.row-test.true) (c.sees_sign.ensures.inside c.row-test.true) c.in_err-arm.ensures.reads in
    rw (p.1, p.2) h

pub arms-row-preserved : goal.arms-row-preserved
arms-row-preserved t c = record {
  boundary = c.in_ok-arm.ensures.end.1;
  order = omega (arith, c.in_ok-arm.ensures.end.0);
  row = Row-push case_of _ _ _ _ _ _ _ _ c.in_ok-arm.arm c.row.invariant.row (sym c.sees_sign.ensures.value ∙ c.row-test.true) (c.sees_sign.ensures.inside c.row-test.true)
      c.in_ok-arm.ensures.reads c.in_ok-arm.ensures.end.0 c.in_ok-push_arm-2.ensures;
}

pub arms-returns-clause-reads : goal.arms-returns-clause-reads
arms-returns-clause-reads t c = Row-ends _ _ _ _ _ _ c.row.invariant.row (sym c.sees_sign.ensures.value ∙ c.row-test.false)

pub term-returns-in_err-token-clause-reads : goal.term-returns-in_err-token-clause-reads
term-returns-in_err-token-clause-reads t c =
    let p = err_from_is_err_and c.from_residual.result c.from_residual.ensures.1 in
    let h = term-halts c.args.room c.args.text.now c.args.at c.in_err-token.field-0.0 c.in_err-token.ensures.reads in
    rw (p.1, p.2) h

pub term-returns-clause-reads : goal.term-returns-clause-reads
term-returns-clause-reads t c =
    rw (term-opened c.args.room c.args.text.now c.args.at c.in_ok-token.token c.lead_of-lead.result (omega arith) c.in_ok-token.ensures.reads c.lead_of-lead.ensures) c.term_by.ensures.reads
