-- When an arm of a match is of a constructor.
use Rattle.std.specs.Prelude.{ℕ, ◌+◌, Bool, ◌&&◌, nat_eq, List, length}
use Rattle.std.specs.Str.{bytes_eq}
use Rattle.mt_term.specs.Trees.{Bytes}
use Rattle.mt_term.specs.Declarations.{Constructor}
use Rattle.mt_term.specs.Substitution.{products}

-- an arm of this name has the constructor's name, and as many names as the constructor has
-- arguments past p parameters
unfoldable pub fits : ℕ → Constructor → Bytes → List Bytes → Bool
fits p c x xs = bytes_eq c.name x && nat_eq (length xs + p) (products c.ty)
