-- Settings over which refinement is sound.
use Rattle.std.specs.Prelude.{List, [], ◌∷◌, true}
use Rattle.mt_term.specs.Declarations.{Environment}
use Rattle.mt_term.specs.Stores.{no_store}
use Rattle.mt_calculus.specs.Typing.{Has, Holds}
use Rattle.mt_calculus.specs.SoundEnvironment.{SoundEnvironment}
use Rattle.mt_unification_laws.specs.TypedHints.{SoundHints}
use Rattle.mt_refinement_rules.specs.Coercions.{Coercion}
use Rattle.mt_refinement_rules.specs.Settings.{Setting}

-- over the empty store each coercion has its type
abbrev pub TypedCoercions : Environment → List Coercion → Type 0
TypedCoercions E [] = Unit {0}
TypedCoercions E (c ∷ cs) = Holds E true no_store [] (Has c.term c.ty) × TypedCoercions E cs

-- a setting is sound: its environment and its hints are, and its coercions have their types
pub record SoundSetting (S : Setting) : Type 0 where
  pub env : SoundEnvironment S.env
  pub hints : SoundHints S.env S.hints
  pub coercions : TypedCoercions S.env S.coercions
