use Rattle.std.proofs.Common.{List, ap, subst, sym, ◌∙◌}
use Rattle.mt_term.specs.declared.universes.Sort.{Sort as AnySort}
use Rattle.mt_rules.specs.Charges.{Outcome}
use Rattle.mt_pool.proofs.Region.{tree-kept, kept-then}
use Rattle.mt_env.specs.Environments.{HeldEnvironment}
use Rattle.mt_store.specs.declared.metavariables.HeldMeta.{HeldMeta}
use Rattle.mt_store.specs.Held.{store_in}
use Rattle.mt_store.proofs.HeldLaws.{store-kept}
use Rattle.mt_layers.specs.Environments.{environment_in}
use Rattle.mt_rules.specs.Answers.{Answers}
use Rattle.mt_layers.proofs.Kept.{env-kept}
use Rattle.mt_infer.proofs.Held.{scope-kept}
use Rattle.mt_infer.proofs.Stepping.{index_step}
use Rattle.mt_infer.proofs.elimination.+elimination_sort.Goals as goal
use denote.Bor.{Bor}

pub eliminated_over-returns-clause-outcome : goal.eliminated_over-returns-clause-outcome
eliminated_over-returns-clause-outcome g t c =
    let first = c.on_newest.ensures.kept in
    let second = c.product_over.ensures.kept in
    let kept = kept-then _ _ _ first second in
    let same_env = ap (λ (v : Bor HeldEnvironment). environment_in c.product_over.new.w.pool.now v.now) c.product_over.ensures.env ∙ env-kept _ _ _ kept c.requires.env_held in
    let same_store = ap (λ (v : List HeldMeta). store_in c.product_over.new.w.pool.now v) (ap (λ s. s.now) c.product_over.ensures.store) ∙ store-kept _ _ _ kept c.requires.store_held in
    let named = c.in_ok-on_index.ensures.tree in
    let newest = tree-kept _ _ c.in_ok-on_index.on_index second named.0 ∙ named.1 in
    let same = index_step _ _ _ c.args.large _ _ _ _ _ _ _ _ _ _ _ _ _ _ _ _ _ c.in_ok-product.ensures.outcome
    (env-kept _ _ _ first c.requires.env_held) (store-kept _ _ _ first c.requires.store_held) (scope-kept _ _ c.args.scope.now first c.requires.scope_held) (tree-kept _ _ c.args.ty first c.requires.type_held) (tree-kept _ _ c.args.index first c.requires.index_held)
    same_env same_store (scope-kept _ _ c.args.scope.now kept c.requires.scope_held) (tree-kept _ _ c.args.rest kept c.requires.rest_held) newest in
    subst (λ (o : Outcome AnySort). Answers (λ (s : AnySort). s) o c.elimination_sort.new.w.left c.elimination_sort.result) (sym same) c.elimination_sort.ensures.outcome
