use Rattle.std.proofs.Common.{rules, arith, ◌<◌, length, List, ap, subst, sym, ◌∙◌}
use Rattle.mt_term.specs.declared.universes.Sort.{Sort as AnySort}
use Rattle.mt_rules.specs.Charges.{Outcome}
use Rattle.mt_pool.specs.declared.nodes.TermId.{TermId}
use Rattle.mt_pool.specs.Region.{ids_of, AllBelow}
use Rattle.mt_pool.proofs.Region.{all-below, length-kept, tree-kept, kept-then}
use Rattle.mt_env.specs.Environments.{HeldEnvironment}
use Rattle.mt_store.specs.declared.metavariables.HeldMeta.{HeldMeta}
use Rattle.mt_store.specs.Held.{store_in, StoreBelow}
use Rattle.mt_store.proofs.HeldLaws.{store-kept, store-below}
use Rattle.mt_layers.specs.Environments.{environment_in, EnvBelow}
use Rattle.mt_rules.specs.Answers.{Answers}
use Rattle.mt_layers.proofs.Kept.{env-kept, env-below}
use Rattle.mt_infer.proofs.Held.{scope-kept, scope-below}
use Rattle.mt_infer.proofs.Matches.{arity-kept}
use Rattle.mt_infer.proofs.Stepping.{elimination_step}
use Rattle.mt_store.specs.Search.{types_held}
use Rattle.mt_infer.proofs.TermByTerm.{meta_made, terms_made}
use Rattle.mt_infer.proofs.+infer.Goals as goal
use denote.Bor.{Bor}

pub matching::elimination-returns-clause-outcome : goal.matching::elimination-returns-clause-outcome
matching::elimination-returns-clause-outcome g t c =
    let first = c.on_params.ensures.kept in
    let second = c.infer.ensures.kept in
    let kept = kept-then _ _ _ first second in
    let same_env = ap (λ (v : Bor HeldEnvironment). environment_in c.infer.new.w.pool.now v.now) c.infer.ensures.env ∙ env-kept _ _ _ kept c.requires.env_held in
    let same_store = ap (λ (v : List HeldMeta). store_in c.infer.new.w.pool.now v) (ap (λ s. s.now) c.infer.ensures.store) ∙ store-kept _ _ _ kept c.requires.store_held in
    let named = c.in_ok-on_its_params.ensures.tree in
    let applied = tree-kept _ _ c.in_ok-on_its_params.on_its_params second named.0 ∙ named.1 in
    let same = elimination_step _ _ _ c.args.w.now.pool.now c.args.family.now _ _ _ _ _ _ _ _ _ _ _ _ _ c.in_ok-ty.ensures.outcome (env-kept _ _ _ first c.requires.env_held) (store-kept _ _ _ first c.requires.store_held) (scope-kept _ _ c.args.scope.now first c.requires.scope_held) (tree-kept _ _ c.args.r first c.requires.function) same_env same_store (scope-kept _ _ c.args.scope.now kept c.requires.scope_held) (arity-kept _ _ c.args.family.now kept c.requires.family) applied in
    subst (λ (o : Outcome AnySort). Answers (λ (s : AnySort). s) o c.elimination_sort.new.w.left c.elimination_sort.result) (sym same) c.elimination_sort.ensures.outcome

pub metavariables::infer_metavariable-returns-clause-outcome : goal.metavariables::infer_metavariable-returns-clause-outcome
metavariables::infer_metavariable-returns-clause-outcome g t c =
    let charged = c.in_ok-charge.ensures.ok in
    let p = c.charge.new.self.pool.now in
    meta_made c.args.w.now.pool.now c.charge.new.self.pool.now c.infer_terms.new.w.pool.now c.under.new.self c.args.w.now.env.now c.charge.new.self.env.now c.args.w.now.store.now c.charge.new.self.store.now
    c.args.scope.now c.args.n (ids_of c.args.s.now) c.deref.result.now (ids_of c.in_ok-types.types) c.new-2.result.items c.context.result.now c.type_of-ty.result c.in_ok-under.field-0 c.args.w.now.left c.charge.new.self.left c.infer_terms.new.w.left c.in_ok-infer_terms.field-0
    c.in_ok-charge.ensures.pool (ap (λ r. r.now) c.in_ok-charge.ensures.env) (ap (λ r. r.now) c.in_ok-charge.ensures.store) charged.0 charged.1 (c.context.ensures.context p) (c.type_of-ty.ensures.ty p)
    c.type_of-ty.ensures.below c.requires.store_held c.requires.terms c.infer_terms.ensures.kept (c.deref.ensures.value ∙ c.in_ok-terms.ensures) (c.in_ok-types.ensures ∙ ap types_held c.as_slice.ensures) c.new-2.ensures.items
    c.in_ok-infer_terms.ensures.outcome c.in_ok-under.ensures.tree.1

pub metavariables::infer_terms-infer_terms-requires : goal.metavariables::infer_terms-infer_terms-requires
metavariables::infer_terms-infer_terms-requires g t c κs within =
    let first = rw c.in-Item-Item.is-0 at c.requires.terms in
    let inside : c.in-Item-Item.t.at < length c.check_term.new.w.pool.now = omega (arith, first.0, length-kept _ _ c.check_term.ensures.kept) in
    let earlier = c.in_ok-earlier-in-Item-Item.ensures.held _ (all-below _ _ c.args.earlier.items c.check_term.ensures.kept c.requires.earlier_held) inside in
    let second = rw c.in-Item-Item.is-1 at c.requires.types_held in
    let checked = c.in_ok-check_term-in-Item-Item.ensures in
    let rest : AllBelow (length c.check_term.new.w.pool.now) (ids_of c.deref-in-Item-Item.result.now) =
    subst (λ (ks : List TermId). AllBelow (length c.check_term.new.w.pool.now) ks) (sym (ap ids_of c.deref-in-Item-Item.ensures)) (all-below _ _ _ c.check_term.ensures.kept first.1) in
    let more : AllBelow (length c.check_term.new.w.pool.now) (ids_of c.deref-in-Item-Item-2.result.now) =
    subst (λ (ks : List TermId). AllBelow (length c.check_term.new.w.pool.now) ks) (sym (ap ids_of c.deref-in-Item-Item-2.ensures)) (all-below _ _ _ c.check_term.ensures.kept second.1) in
    let scope = scope-below _ _ c.args.scope.now c.check_term.ensures.kept c.requires.scope_held in
    let env : EnvBelow (length c.check_term.new.w.pool.now) c.check_term.new.w.env.now =
    subst (λ (v : HeldEnvironment). EnvBelow (length c.check_term.new.w.pool.now) v) (sym (ap (λ r. r.now) checked.env)) (env-below _ _ c.args.w.now.env.now c.check_term.ensures.kept c.requires.env_held) in
    let store : StoreBelow (length c.check_term.new.w.pool.now) c.check_term.new.w.store.now =
    subst (λ (ms : List HeldMeta). StoreBelow (length c.check_term.new.w.pool.now) ms) (sym (ap (λ r. r.now) checked.store)) (store-below _ _ c.args.w.now.store.now c.check_term.ensures.kept c.requires.store_held) in
    (search rules, (search rules, (search rules, (search rules, (rest, (more, (earlier, (scope, (env, store)))))))))

pub metavariables::infer_terms-returns-in_ok-earlier-in-Item-Item-clause-outcome : goal.metavariables::infer_terms-returns-in_ok-earlier-in-Item-Item-clause-outcome
metavariables::infer_terms-returns-in_ok-earlier-in-Item-Item-clause-outcome g t c =
    let here = c.in-Item-Item in
    let first = rw here.is-0 at c.requires.terms in
    let second = rw here.is-1 at c.requires.types_held in
    let checked = c.in_ok-check_term-in-Item-Item.ensures in
    let same = terms_made c.args.w.now.pool.now c.check_term.new.w.pool.now c.args.w.now.env.now c.check_term.new.w.env.now c.args.w.now.store.now c.check_term.new.w.store.now c.args.scope.now here.t here.ty _ (ids_of c.deref-in-Item-Item.result.now) _ (ids_of c.deref-in-Item-Item-2.result.now) c.args.earlier.items c.in_ok-earlier-in-Item-Item.earlier.items c.deref.result.now c.args.w.now.left c.check_term.new.w.left c.in_ok-check_term-in-Item-Item.field-0
    (ap (λ r. r.now) checked.env) (ap (λ r. r.now) checked.store) checked.kept c.requires.env_held c.requires.store_held c.requires.scope_held first.0 first.1 second.1 c.requires.earlier_held
    (ap ids_of c.deref-in-Item-Item.ensures) (ap ids_of c.deref-in-Item-Item-2.ensures) c.deref.ensures.value (c.in_ok-earlier-in-Item-Item.ensures.trees c.check_term.new.w.pool.now) checked.outcome in
    rw (here.is-0, here.is-1) (subst (λ (o : Outcome (Unit {0})). Answers (λ (a : Unit {0}). a) o c.infer_terms.new.w.left c.infer_terms.result) (sym same) c.infer_terms.ensures.outcome)
