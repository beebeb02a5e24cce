-- Parts of the definitions, by names that stay as they are in a goal.
use Rattle.std.specs.Prelude.{ℕ, Bool, List}
use Rattle.mt_term.specs.Trees.{Tree}
use Rattle.mt_term.specs.Declarations.{Hypothesis, Environment}
use Rattle.mt_rules.specs.Charges.{Charged}
use Rattle.mt_term.specs.declared.universes.Sort.{Sort as AnySort}
use Rattle.mt_decl.specs.Answers.{Answering, by_kernel, is_accepted}
use Rattle.mt_decl.specs.Declaring.{argument_check, arguments_fit, do_arguments_fit, argument_sorts}

-- the check of an argument's sort,
unfoldable pub checking : Environment → AnySort → List Hypothesis → Tree → Charged (Unit {0})
checking E s Γ A = argument_check E s Γ A

-- the same, where a No is refused at a place, and where it is an answer,
unfoldable pub judging : Environment → ℕ → AnySort → List Hypothesis → Tree → Answering (Unit {0})
judging E start s Γ A = by_kernel start (argument_check E s Γ A)

unfoldable pub accepting : Environment → AnySort → List Hypothesis → Tree → Answering Bool
accepting E s Γ A = is_accepted (argument_check E s Γ A)

-- and the arguments in order
unfoldable pub fitting : Environment → ℕ → AnySort → List Hypothesis → Tree → Answering (Unit {0})
fitting E start s Γ C = arguments_fit E start s Γ C

unfoldable pub all_fitting : Environment → AnySort → List Hypothesis → Tree → Answering Bool
all_fitting E s Γ C = do_arguments_fit E s Γ C

-- whether the sorts of the arguments allow a match into every sort
unfoldable pub sorting : Environment → ℕ → AnySort → Bool → List Hypothesis → Tree → Answering Bool
sorting E start s only Γ C = argument_sorts E start s only Γ C
