-- Two matches whose motives are convertible, in a pool that has grown since.
use Rattle.std.proofs.Common.{Bool, true, ◌&&◌, nat_eq, ℕ, ◌<◌, ◌≡◌, List, length, refl, sym, ◌∙◌, subst}
use Rattle.std.proofs.lemmas.Bool.{eq-eqb}
use Rattle.mt_env.specs.Environments.{HeldEnvironment}
use Rattle.mt_layers.specs.Environments.{environment_in, EnvBelow}
use Rattle.mt_layers.proofs.Kept.{env-kept}
use Rattle.mt_pool.specs.declared.nodes.TermId.{TermId}
use Rattle.mt_pool.specs.Region.{arms_at, tree_at, ArmsBelow, Kept}
use Rattle.mt_pool.proofs.Region.{arms-kept, tree-kept}
use Rattle.mt_store.specs.declared.metavariables.HeldMeta.{HeldMeta}
use Rattle.mt_store.specs.Held.{store_in, StoreBelow}
use Rattle.mt_store.proofs.HeldLaws.{store-kept}
use Rattle.mt_rules.specs.Charges.{Done}
use Rattle.mt_rules.specs.Comparison.{convert, same_shapes, spines}
use Rattle.mt_term.specs.Trees.{Bytes, Tree, Match}
use Rattle.mt_term.specs.declared.modes.Mode.TheVariants.{Equal}
use Rattle.mt_rules_laws.proofs.ComparisonRules.{matches, spines-match-yes}

-- one type, and branches of one shape
pub fits : (e d : ℕ) (b : Bool) → e ≡ d → b ≡ true → (nat_eq e d && b) ≡ true
fits e d b same shape = rw (eq-eqb e d same, shape) refl

module _ (p q : List Tree) (env after : HeldEnvironment) (kept : Kept p q) (held : EnvBelow (length p) env) (same : after ≡ env)
    (metas later : List HeldMeta) (held_metas : StoreBelow (length p) metas) (same_metas : later ≡ metas) where
  pub then_matched : (e d : ℕ) (r c s t : TermId) (bs cs : List (List Bytes × TermId)) (n l : ℕ)
      → c.at < length p → t.at < length p → ArmsBelow (length p) bs → ArmsBelow (length p) cs
      → (nat_eq e d && same_shapes (arms_at p bs) (arms_at p cs)) ≡ true
      → convert (environment_in p env) (store_in p metas) Equal (tree_at p r) (tree_at p s) n ≡ Done true l
      → spines (environment_in p env) (store_in p metas) (Match e (tree_at p r) (tree_at p c) (arms_at p bs)) (Match d (tree_at p s) (tree_at p t) (arms_at p cs)) n
      ≡ matches (environment_in q after) (store_in q later) (tree_at q c) (tree_at q t) (arms_at q bs) (arms_at q cs) l
  then_matched e d r c s t bs cs n l first second firsts seconds shapes agreed =
      spines-match-yes (environment_in p env) (store_in p metas) e d (tree_at p r) (tree_at p c) (tree_at p s) (tree_at p t) (arms_at p bs) (arms_at p cs) n l shapes agreed
      ∙ sym (λ i. matches (subst (λ (v : HeldEnvironment). environment_in q v ≡ environment_in p env) (sym same) (env-kept p q env kept held) i) (subst (λ (v : List HeldMeta). store_in q v ≡ store_in p metas) (sym same_metas) (store-kept p q metas kept held_metas) i) (tree-kept p q c kept first i) (tree-kept p q t kept second i) (arms-kept p q bs kept firsts i) (arms-kept p q cs kept seconds i) l)
