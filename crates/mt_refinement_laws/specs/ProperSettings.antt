-- Settings that mention no metavariable.
use Rattle.std.specs.Prelude.{List, [], ◌∷◌}
use Rattle.mt_unification_laws.specs.ProperStores.{MetaFree, MetaFreeEnvironment, MetaFreeHints}
use Rattle.mt_refinement_rules.specs.Coercions.{Coercion}
use Rattle.mt_refinement_rules.specs.Settings.{Setting}

-- no metavariable stands in coercions and their types
abbrev pub MetaFreeCoercions : List Coercion → Type 0
MetaFreeCoercions [] = Unit {0}
MetaFreeCoercions (c ∷ cs) = (MetaFree c.term × MetaFree c.ty) × MetaFreeCoercions cs

pub record MetaFreeSetting (S : Setting) : Type 0 where
  pub env : MetaFreeEnvironment S.env
  pub hints : MetaFreeHints S.hints
  pub coercions : MetaFreeCoercions S.coercions
