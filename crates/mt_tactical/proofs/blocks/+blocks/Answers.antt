use Rattle.std.proofs.lemmas.Result.{err_from_is_err_and}
use Rattle.mt_tactical.specs.TacticalOf.{sequence_of, choices_of}
use Rattle.std.proofs.Common.{◌≡◌}
use Rattle.mt_tiny.specs.Outcomes.{Done}
use Rattle.mt_tactical.specs.Meaning.{chosen}
use Rattle.mt_tactical.proofs.Running.{branching-first, focus-first, body-stops}
use Rattle.mt_tactical.proofs.blocks.+blocks.Goals as goal

pub run_branching-returns-in_err-depth_left-clause-outcome : goal.run_branching-returns-in_err-depth_left-clause-outcome
run_branching-returns-in_err-depth_left-clause-outcome g t c =
    let p = err_from_is_err_and c.from_residual.result c.from_residual.ensures.1 in
    rw p.1
    (branching-first g.P.Prover.rules g.met.P.Prover.leaves_no_more g.P.Prover.cause_of (choices_of g.P.Prover.deed_of c.args.choices.now) c.args.close
    (g.P.Prover.state_of c.args.prover.now) c.args.focus c.args.pending (g.P.Prover.allowance c.args.prover.now) p.0.at p.0.stop p.2)

pub run_branching-returns-in_err-open-clause-outcome : goal.run_branching-returns-in_err-open-clause-outcome
run_branching-returns-in_err-open-clause-outcome g t c =
    let p = err_from_is_err_and c.from_residual-in_err-open.result c.from_residual-in_err-open.ensures.1 in
    rw p.1
    (branching-first g.P.Prover.rules g.met.P.Prover.leaves_no_more g.P.Prover.cause_of (choices_of g.P.Prover.deed_of c.args.choices.now) c.args.close
    (g.P.Prover.state_of c.args.prover.now) c.args.focus c.args.pending (g.P.Prover.allowance c.args.prover.now) p.0.at p.0.stop p.2)

pub run_branching-returns-in_err-left-clause-outcome : goal.run_branching-returns-in_err-left-clause-outcome
run_branching-returns-in_err-left-clause-outcome g t c =
    let p = err_from_is_err_and c.from_residual-in_err-left.result c.from_residual-in_err-left.ensures.1 in
    rw p.1
    (branching-first g.P.Prover.rules g.met.P.Prover.leaves_no_more g.P.Prover.cause_of (choices_of g.P.Prover.deed_of c.args.choices.now) c.args.close
    (g.P.Prover.state_of c.args.prover.now) c.args.focus c.args.pending (g.P.Prover.allowance c.args.prover.now) p.0.at p.0.stop p.2)

pub run_focus-returns-in_err-depth_left-clause-outcome : goal.run_focus-returns-in_err-depth_left-clause-outcome
run_focus-returns-in_err-depth_left-clause-outcome g t c =
    let p = err_from_is_err_and c.from_residual.result c.from_residual.ensures.1 in
    rw p.1
    (focus-first g.P.Prover.rules g.met.P.Prover.leaves_no_more g.P.Prover.cause_of c.args.signs.at c.args.numbers.now c.args.signs.dot c.args.signs.sign
    (sequence_of g.P.Prover.deed_of c.args.body.now) c.args.signs.unfocus
    (g.P.Prover.state_of c.args.prover.now) c.args.focus c.args.pending (g.P.Prover.allowance c.args.prover.now) p.0.at p.0.stop p.2)

pub run_focus-returns-in_err-first-clause-outcome : goal.run_focus-returns-in_err-first-clause-outcome
run_focus-returns-in_err-first-clause-outcome g t c =
    let p = err_from_is_err_and c.from_residual-in_err-first.result c.from_residual-in_err-first.ensures.1 in
    rw p.1
    (focus-first g.P.Prover.rules g.met.P.Prover.leaves_no_more g.P.Prover.cause_of c.args.signs.at c.args.numbers.now c.args.signs.dot c.args.signs.sign
    (sequence_of g.P.Prover.deed_of c.args.body.now) c.args.signs.unfocus
    (g.P.Prover.state_of c.args.prover.now) c.args.focus c.args.pending (g.P.Prover.allowance c.args.prover.now) p.0.at p.0.stop p.2)

pub run_branches-returns-in_err-focus-clause-outcome : goal.run_branches-returns-in_err-focus-clause-outcome
run_branches-returns-in_err-focus-clause-outcome g t c =
    let p = err_from_is_err_and c.from_residual-in_err-focus.result c.from_residual-in_err-focus.ensures.1 in
    let same = rw c.in-Item.is at c.loop-rest.invariant.same in
    let body = rw c.deref-branch.ensures at c.in_err-focus.ensures.outcome in
    let choice : chosen g.P.Prover.rules c.in-Item.branch.value.at c.in-Item.branch.value.pick c.loop-rest.left (g.P.Prover.allowance c.loop-rest.prover)
    ≡ Done (c.in_ok-taken.taken, c.in_ok-taken.more) (g.P.Prover.allowance c.loop-rest.prover) = rw (← c.deref-branch.ensures) c.in_ok-taken.ensures in
    rw (p.1, p.2)
    (body-stops g.P.Prover.rules g.met.P.Prover.leaves_no_more g.P.Prover.cause_of c.in-Item.branch.value.at c.in-Item.branch.value.pick
    (sequence_of g.P.Prover.deed_of c.in-Item.branch.value.body) (choices_of g.P.Prover.deed_of c.in-Item.others.value)
    (g.P.Prover.state_of c.loop-rest.prover) c.loop-rest.done c.loop-rest.left (g.P.Prover.allowance c.loop-rest.prover) (g.P.Prover.allowance c.loop-rest.prover)
    c.in_ok-taken.taken c.new-none.result c.in_ok-taken.more (g.P.Prover.allowance c.run.new.prover) c.in_err-focus.field-0.0.at c.in_err-focus.field-0.0.stop
    _ same choice c.new-none.ensures body)
