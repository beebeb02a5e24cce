-- The forms of raw terms that can be taken by their names.
use Rattle.std.specs.Prelude.{Bool, true, false, ◌&&◌}
use Rattle.mt_term_parser.specs.Written.{Written, Form, Arguments, Cases, Term, Name, Sort, Lam}
use Rattle.mt_term_parser.specs.Written.{Prod, App, Match, Given, NoArgument, Argument, NoCase}
use Rattle.mt_term_parser.specs.Written.{Case}

abbrev pub has_case : Cases → Bool
has_case NoCase = false
has_case (Case x xs b arms) = true

-- Names, sorts, products, abstractions with a type and applications; and, where matches are taken
-- too, matches with a return term and at least one arm.
abbrev mutual
  pub is_built : Bool → Written → Bool
  is_built matches (Term at f) = is_built_form matches f

  pub is_built_form : Bool → Form → Bool
  is_built_form matches (Name x) = true
  is_built_form matches (Sort s) = true
  is_built_form matches (Lam x (Given A) b) = is_built matches A && is_built matches b
  is_built_form matches (Prod x A B) = is_built matches A && is_built matches B
  is_built_form matches (App f args) = is_built matches f && are_built matches args
  is_built_form matches (Match c (Given R) arms) =
      matches && has_case arms && is_built matches c && is_built matches R
      && are_cases_built matches arms
  is_built_form matches _ = false

  pub are_built : Bool → Arguments → Bool
  are_built matches NoArgument = true
  are_built matches (Argument a args) = is_built matches a && are_built matches args

  pub are_cases_built : Bool → Cases → Bool
  are_cases_built matches NoCase = true
  are_cases_built matches (Case x xs b arms) = is_built matches b && are_cases_built matches arms
