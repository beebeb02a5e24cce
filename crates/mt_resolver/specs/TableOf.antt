-- What the program's tables of names say.
use Rattle.std.specs.Prelude.{◌≡◌, ◌++◌, List, Option, Some, None}
use Rattle.mt_term.specs.Trees.{Tree, Bytes, Const, Ind, Con}
use Rattle.mt_term.specs.Declarations.{Declaration}
use Rattle.mt_term.specs.Naming.{Naming, find, named}
use Rattle.mt_resolver.specs.declared.meanings.Meaning.{Meaning}
use Rattle.mt_resolver.specs.declared.meanings.Meaning.TheVariants as meaning

abbrev pub tree_meant : Meaning → Tree
tree_meant (meaning.Constant n) = Const n
tree_meant (meaning.Type n) = Ind n
tree_meant (meaning.Constructor n k) = Con n k

abbrev pub seen_meaning : Option Meaning → Option Tree
seen_meaning None = None
seen_meaning (Some m) = Some (tree_meant m)

-- each name stands for the same
pub record FindsSame (a b : Naming) : Type 0 where
  pub each : (x : Bytes) → find a x ≡ find b x

-- each name stands for what it stands for in an environment of these entries
pub record AreNamesOf (names : Naming) (es : List Declaration) : Type 0 where
  pub each : (x : Bytes) → find names x ≡ named es x

-- some names stand after the old ones
pub record Extends (old new : Naming) : Type 0 where
  pub more : Naming
  pub is : new ≡ old ++ more
