use Rattle.std.proofs.Common.{◌∷◌, ◌++◌, ◌-◌, [], map, sym, ap, ◌∙◌, arith, rules}
use Rattle.std.proofs.lemmas.Result.{err_from_is_err_and}
use Rattle.mt_term_parser.proofs.Rows.{Row-begins, Row-push, Row-halts, Row-ends}
use Rattle.mt_unit_parser.specs.BlockOf.{branch_of, led_of}
use Rattle.mt_unit_parser.specs.Blocks.{sequence}
use Rattle.mt_unit_parser.proofs.Lists.{Row-followed, led_item-reads, led_item-halts}
use Rattle.mt_unit_parser.proofs.Sequences.{sequence-opened, sequence-full}
use Rattle.mt_unit_parser.proofs.blocks.+sequence.Goals as goal

pub led_items-row-init : goal.led_items-row-init
led_items-row-init t c = record {
  boundary = search rules;
  order = omega arith;
  row = rw c.new-items.ensures.items (Row-begins c.args.text.now _ _ c.args.at);
}

pub led_items-returns-in_err-item-clause-reads : goal.led_items-returns-in_err-item-clause-reads
led_items-returns-in_err-item-clause-reads t c =
    let p = err_from_is_err_and c.from_residual-in_err-item.result c.from_residual-in_err-item.ensures.1 in
    let h = Row-halts _ _ _ _ _ _ c.in_err-item.field-0.0 c.row.invariant.row (sym c.sees_separator.ensures.value ∙ c.row-test.true) (c.sees_separator.ensures.inside c.row-test.true) c.in_err-item.ensures.reads in
    rw (p.1, p.2) h

pub led_items-row-preserved : goal.led_items-row-preserved
led_items-row-preserved t c = record {
  boundary = c.in_ok-item.ensures.end.1;
  order = omega (arith, c.in_ok-item.ensures.end.0);
  row = Row-push led_of _ _ _ _ _ _ _ _ c.in_ok-item.item c.row.invariant.row (sym c.sees_separator.ensures.value ∙ c.row-test.true) (c.sees_separator.ensures.inside c.row-test.true)
      c.in_ok-item.ensures.reads c.in_ok-item.ensures.end.0 c.in_ok-push_led.ensures;
}

pub led_items-returns-clause-reads : goal.led_items-returns-clause-reads
led_items-returns-clause-reads t c = Row-ends _ _ _ _ _ _ c.row.invariant.row (sym c.sees_separator.ensures.value ∙ c.row-test.false)

pub branch_list-row-init : goal.branch_list-row-init
branch_list-row-init t c = record {
  boundary = c.in_ok-first.ensures.end.1;
  order = c.in_ok-first.ensures.end.0;
  row = Row-followed c.args.text.now _ _ _ _ (branch_of c.in_ok-first.first) _ c.in_ok-first.ensures.reads
      (ap (map branch_of) (c.in_ok-push_branch.ensures ∙ ap (λ xs. xs ++ c.in_ok-first.first ∷ []) c.new-list.ensures.items));
}

pub branch_list-returns-in_err-item-clause-reads : goal.branch_list-returns-in_err-item-clause-reads
branch_list-returns-in_err-item-clause-reads t c =
    let p = err_from_is_err_and c.from_residual-in_err-item.result c.from_residual-in_err-item.ensures.1 in
    let h = Row-halts _ _ _ _ _ _ c.in_err-item.field-0.0 c.row.invariant.row (sym c.sees_sign.ensures.value ∙ c.row-test.true) (c.sees_sign.ensures.inside c.row-test.true) c.in_err-item.ensures.reads in
    rw (p.1, p.2) h

pub branch_list-row-preserved : goal.branch_list-row-preserved
branch_list-row-preserved t c = record {
  boundary = c.in_ok-item.ensures.end.1;
  order = omega (arith, c.in_ok-item.ensures.end.0);
  row = Row-push branch_of _ _ _ _ _ _ _ _ c.in_ok-item.item c.row.invariant.row (sym c.sees_sign.ensures.value ∙ c.row-test.true) (c.sees_sign.ensures.inside c.row-test.true)
      c.in_ok-item.ensures.reads c.in_ok-item.ensures.end.0 c.in_ok-push_branch-2.ensures;
}

pub branch_list-returns-clause-reads : goal.branch_list-returns-clause-reads
branch_list-returns-clause-reads t c = Row-ends _ _ _ _ _ _ c.row.invariant.row (sym c.sees_sign.ensures.value ∙ c.row-test.false)

pub sequence-returns-clause-reads : goal.sequence-returns-clause-reads
sequence-returns-clause-reads t c = rw (sequence-opened c.args.room c.args.text.now c.args.at (omega arith)) c.items.ensures.reads

pub led_item-returns-in_err-item-clause-reads : goal.led_item-returns-in_err-item-clause-reads
led_item-returns-in_err-item-clause-reads t c =
    let p = err_from_is_err_and c.from_residual-in_err-item.result c.from_residual-in_err-item.ensures.1 in
    let h = led_item-halts (200 - c.args.room) (sequence c.args.room c.args.text.now) c.args.text.now c.args.at c.in_ok-dot.after_sign (c.in_ok-dot.dot, c.in_ok-dot.place) c.in_err-item.field-0.0 c.in_ok-dot.ensures.reads c.in_err-item.ensures.reads in
    rw (p.1, p.2) h

pub led_item-returns-clause-reads : goal.led_item-returns-clause-reads
led_item-returns-clause-reads t c =
    led_item-reads (200 - c.args.room) (sequence c.args.room c.args.text.now) c.args.text.now c.args.at c.in_ok-dot.after_sign c.in_ok-item.end (c.in_ok-dot.dot, c.in_ok-dot.place) _ c.in_ok-dot.ensures.reads c.in_ok-item.ensures.reads
