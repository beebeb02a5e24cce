use Rattle.std.proofs.Common.{◌≡◌, ◌∙◌, ◌&&◌, List, Bool, Some, ap, sym, subst, drop, slice_get}
use Rattle.mt_term.specs.Declarations.{Constructor}
use Rattle.mt_term.specs.EnvironmentOf.{environment_of}
use Rattle.mt_term.specs.TreeOf.{tree_of}
use Rattle.mt_decl.specs.Constructing.{constructed_on}
use Rattle.mt_decl.specs.Declares.{Declares}
use Rattle.mt_decl.specs.Declaring.{DeclaredConstructors}
use Rattle.mt_decl.specs.TelescopeOf.{hypotheses_of}
use Rattle.mt_decl.proofs.ConstructingRules.{on-next}
use Rattle.mt_decl.proofs.constructing.+declare_constructors.Goals as goal

pub returns-in_ok-made-in-Some-clause-answer : goal.returns-in_ok-made-in-Some-clause-answer
returns-in_ok-made-in-Some-clause-answer g t c =
    let there : slice_get c.args.cons.now c.args.from ≡ Some c.in-Some.con.now = cc (c.in-Some.ensures) in
    let step = on-next (environment_of c.args.env.now) c.args.start c.args.family.now.number (hypotheses_of c.args.family.now.params.now) (tree_of c.args.family.now.ty.now) c.args.family.now.sort.now c.args.only c.args.made.0 c.args.made.1 c.args.cons.now c.args.from c.in-Some.con.now there _ c.in_ok-next-in-Some.next c.args.left.now _ c.in_ok-next-in-Some.ensures c.in_ok-one-in-Some.ensures.answer in
    let first = ap (λ (cs : List Constructor). constructed_on (environment_of c.args.env.now) c.args.start c.args.family.now.number (hypotheses_of c.args.family.now.params.now) (tree_of c.args.family.now.ty.now) c.args.family.now.sort.now c.args.only cs (c.args.made.1 && c.in_ok-one-in-Some.one.1) (drop c.in_ok-next-in-Some.next c.args.cons.now) c.declare_constructor.new.left) (sym c.in_ok-made-in-Some.ensures.0) in
    let second = ap (λ (b : Bool). constructed_on (environment_of c.args.env.now) c.args.start c.args.family.now.number (hypotheses_of c.args.family.now.params.now) (tree_of c.args.family.now.ty.now) c.args.family.now.sort.now c.args.only c.in_ok-made-in-Some.made.0 b (drop c.in_ok-next-in-Some.next c.args.cons.now) c.declare_constructor.new.left) (sym c.in_ok-made-in-Some.ensures.1) in
    subst (λ o. Declares {A = DeclaredConstructors} {B = DeclaredConstructors} (λ d. d) o c.declare_constructors.new.left c.declare_constructors.result) (sym (step ∙ first ∙ second)) c.declare_constructors.ensures.answer
