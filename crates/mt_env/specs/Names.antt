-- What names stand for.
use Rattle.std.specs.Prelude.{◌≡◌, [], ◌∷◌, Option, Some, None}
use Rattle.mt_term.specs.Trees.{Tree, Const, Ind, Con}
use Rattle.mt_term.specs.Naming.{Naming, find}
use Rattle.mt_env.specs.declared.refs.Ref.{Ref}
use Rattle.mt_env.specs.declared.refs.Ref.TheVariants.{Const as ConstRef, Ind as IndRef}
use Rattle.mt_env.specs.declared.refs.Ref.TheVariants.{Con as ConRef}

-- the term that a reference says
abbrev pub term_of : Ref → Tree
term_of (ConstRef n) = Const n
term_of (IndRef n) = Ind n
term_of (ConRef n k) = Con n k

abbrev pub said : Option Ref → Option Tree
said None = None
said (Some r) = Some (term_of r)

-- no name stands twice
abbrev pub Distinct : Naming → Type 0
Distinct [] = Unit {0}
Distinct (n ∷ ns) = (find ns n.0 ≡ None) × Distinct ns
