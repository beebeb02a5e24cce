-- Environments that grow by entries.
use Rattle.std.specs.Prelude.{◌≡◌, ◌++◌, List}
use Rattle.mt_term.specs.Declarations.{Declaration, Environment}

-- further entries stand after the old ones, and nothing else changes
pub record Grows (E E' : Environment) : Type 0 where
  pub more : List Declaration
  pub entries : E'.entries ≡ E.entries ++ more
  pub names : E'.names ≡ E.names
  pub below : E'.below ≡ E.below
