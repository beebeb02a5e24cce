use Rattle.std.proofs.Common.{subst, sym, ◌≡◌, Some}
use Rattle.mt_term.specs.EnvironmentOf.{environment_of}
use Rattle.mt_term.specs.TreeOf.{tree_of, trees_of}
use Rattle.mt_rules.specs.Answers.{Answers}
use Rattle.mt_kernel.specs.Contexts.{hypotheses_of}
use Rattle.mt_kernel.specs.Fitting.{branch_goal}
use Rattle.mt_kernel.proofs.Branching.{by_goal, goal as goal_of}
use Rattle.mt_kernel.proofs.inference.+infer.Goals as goal

-- dropping the goal of the branch changes nothing
pub infer_branch-returns-clause-answer : goal.infer_branch-returns-clause-answer
infer_branch-returns-clause-answer g t c =
    let found = rw c.in-Some.is at c.in_ok-goal.ensures in
    let given : branch_goal c.args.number (trees_of c.args.params.now) c.args.k (tree_of c.args.ty.now) (tree_of c.args.returns.now) c.args.branch.now.names ≡ Some (goal_of (tree_of c.in-Some.goal.own) (tree_of c.in-Some.goal.ty)) = sym found in
    subst (λ o. Answers (λ a. a) o c.check_branch.new.left c.check_branch.result) (sym (by_goal (environment_of c.args.env.now) (hypotheses_of c.args.context.now) c.args.number (trees_of c.args.params.now) (tree_of c.args.returns.now) c.args.k (tree_of c.args.ty.now) c.args.branch.now.names (tree_of c.args.branch.now.body) c.args.left.now _ _ given)) c.check_branch.ensures.answer
