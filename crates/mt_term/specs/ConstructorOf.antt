-- What a constructor of the program says.
use Rattle.std.specs.Prelude.{Option, Some, None}
use Rattle.mt_term.specs.TreeOf.{tree_of}
use Rattle.mt_term.specs.Declarations.{Constructor}
use Rattle.mt_term.specs.declared.constructors.Constructor.{Constructor as TheConstructor}
use denote.Bor.{Bor}

abbrev pub constructor_of : TheConstructor → Constructor
constructor_of c = record { name = c.name; ty = tree_of c.ty }

abbrev pub seen_constructor : Option (Bor TheConstructor) → Option Constructor
seen_constructor None = None
seen_constructor (Some c) = Some (constructor_of c.now)
