use Rattle.std.proofs.Common.{rules, arith, reverse}
use Rattle.std.proofs.lemmas.Grind.{common_steps}
use Rattle.mt_tiny.proofs.steps.take_step.Goals as goal

pub returns-in-Action-clause-outcome : goal.returns-in-Action-clause-outcome
returns-in-Action-clause-outcome g c = let h = c.step_action.ensures.outcome (reverse c.args.below.now.items) in first_of (search rules, grind (arith, common_steps))

pub returns-in-Dot-clause-outcome : goal.returns-in-Dot-clause-outcome
returns-in-Dot-clause-outcome g c = let h = c.step_dot.ensures.outcome (reverse c.args.below.now.items) in first_of (search rules, grind (arith, common_steps))

pub returns-in-Bar-clause-outcome : goal.returns-in-Bar-clause-outcome
returns-in-Bar-clause-outcome g c = let h = c.step_bar.ensures.outcome (reverse c.args.below.now.items) in first_of (search rules, grind (arith, common_steps))

pub returns-in-Positions-clause-outcome : goal.returns-in-Positions-clause-outcome
returns-in-Positions-clause-outcome g c = let h = c.step_positions.ensures.outcome (reverse c.args.below.now.items) in first_of (search rules, grind (arith, common_steps))

pub returns-in-Wildcard-clause-outcome : goal.returns-in-Wildcard-clause-outcome
returns-in-Wildcard-clause-outcome g c = let h = c.step_wildcard.ensures.outcome (reverse c.args.below.now.items) in first_of (search rules, grind (arith, common_steps))
