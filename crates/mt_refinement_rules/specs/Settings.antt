-- What refinement works in.
use Rattle.std.specs.Prelude.{List}
use Rattle.mt_term.specs.Declarations.{Environment}
use Rattle.mt_term.specs.States.{Hint}
use Rattle.mt_refinement_rules.specs.Coercions.{Coercion}

-- an environment, and the hints and the coercions in the order in which they were accepted
pub record Setting : Type 0 where
  pub env : Environment
  pub hints : List Hint
  pub coercions : List Coercion
