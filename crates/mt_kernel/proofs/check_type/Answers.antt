use Rattle.std.proofs.Common.{arith, ap}
use Rattle.mt_rules.specs.Charges.{rest}
use Rattle.mt_term.specs.TreeOf.{tree_of}
use Rattle.mt_rules_laws.proofs.InferenceLaws.{check_type-rest}
use Rattle.mt_term.specs.EnvironmentOf.{environment_of}
use Rattle.mt_kernel.proofs.Typed.{type_derived}
use Rattle.mt_kernel.proofs.check_type.Goals as goal

pub overflow_sub-result : goal.overflow_sub-result
overflow_sub-result g c =
    let answer = rw c.in-Ok.is at c.check_sort.ensures.answer in
    omega (arith, check_type-rest (environment_of c.args.env.now) (tree_of c.args.ty.now) c.args.allowance, ap rest answer)

pub returns-in-Ok-clause-typed : goal.returns-in-Ok-clause-typed
returns-in-Ok-clause-typed g c =
    let answer = rw c.in-Ok.is at c.check_sort.ensures.answer in
    λ yes. type_derived (environment_of c.args.env.now) (tree_of c.args.ty.now) c.args.allowance _ _ answer
