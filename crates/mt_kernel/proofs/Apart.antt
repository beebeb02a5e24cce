-- A sort, a product and an abstraction are no head on arguments.
use Rattle.std.proofs.Common.{ℕ, ◌≡◌, false, refl}
use Rattle.mt_term.specs.Trees.{Bytes, Tree, Sort, Prod, Lam}
use Rattle.mt_term.specs.declared.universes.Sort.{Sort as AnySort}
use Rattle.mt_term.specs.Declarations.{Environment}
use Rattle.mt_rules.specs.Charges.{Done}
use Rattle.mt_term.specs.Stores.{Store}
use Rattle.mt_rules.specs.Comparison.{spines}
use Rattle.mt_rules_laws.proofs.ComparisonRules.{spines_rules}
use Rattle.mt_rules_laws.proofs.ComparisonApart.{apart_rules}

module _ (E : Environment) (S : Store) (u : Tree) (n : ℕ) where
  pub sort_is_no_spine : (s : AnySort) → spines E S (Sort s) u n ≡ Done false n
  unfolding spines
  sort_is_no_spine s = refl

  pub product_is_no_spine : (x : Bytes) (a b : Tree) → spines E S (Prod x a b) u n ≡ Done false n
  unfolding spines
  product_is_no_spine x a b = refl

  pub abstraction_is_no_spine : (x : Bytes) (a b : Tree) → spines E S (Lam x a b) u n ≡ Done false n
  unfolding spines
  abstraction_is_no_spine x a b = refl

pub ruleset spine_rules = (spines_rules, apart_rules, sort_is_no_spine, product_is_no_spine, abstraction_is_no_spine)
