use Rattle.std.proofs.Common.{◌++◌, ◌∷◌, [], sym, ap, ◌∙◌, subst, List, ℕ}
use Rattle.std.proofs.lemmas.Result.{err_from_is_err_and}
use Rattle.mt_term.specs.ConstructorOf.{constructor_of}
use Rattle.mt_term.specs.Trees.{Con}
use Rattle.mt_env.specs.Refusals.{AreRefusedBy}
use Rattle.mt_env.proofs.EnteringLaws.{entered_next, refused_next}
use Rattle.mt_env.proofs.adding.enter_constructors.Goals as goal

pub returns-in_err-enter_name-clause-cause : goal.returns-in_err-enter_name-clause-cause
returns-in_err-enter_name-clause-cause c =
    let p = err_from_is_err_and c.from_residual.result c.from_residual.ensures.1 in
    let h = refused_next c.in_err-enter_name.field-0.0 c.args.table.now c.args.number c.args.cons.now c.loop-k.k (constructor_of c.in-Some.constructor.now) c.loop-k.table
    (sym c.in-Some.ensures) c.loop-k.invariant.0
    (subst (λ (x : List ℕ). AreRefusedBy c.in_err-enter_name.field-0.0 c.loop-k.table ((x, Con c.args.number c.loop-k.k) ∷ [])) c.as_bytes.ensures c.in_err-enter_name.ensures.cause) in
    rw (p.1, p.2) h

pub loop-k-preserved : goal.loop-k-preserved
loop-k-preserved c = (
  entered_next c.args.table.now c.args.number c.args.cons.now c.loop-k.k (constructor_of c.in-Some.constructor.now) c.loop-k.table c.enter_name.new.table
      (sym c.in-Some.ensures) c.loop-k.invariant.0
      (c.in_ok-enter_name.ensures.ok ∙ ap (λ (x : List ℕ). c.loop-k.table ++ (x, Con c.args.number c.loop-k.k) ∷ []) c.as_bytes.ensures),
  c.in_ok-enter_name.ensures.distinct,
)
