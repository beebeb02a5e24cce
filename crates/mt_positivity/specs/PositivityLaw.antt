-- The tests of positivity are the relations, as statements.
use Rattle.std.specs.Prelude.{◌↔◌, ℕ, IsTrue}
use Rattle.mt_term.specs.Trees.{Tree}
use Rattle.mt_calculus.specs.Positivity.{Avoids, RecursiveArgument, Positive}
use Rattle.mt_positivity.specs.Deciding.{avoids, is_recursive, is_positive}

-- a term does not mention an entry exactly where the test says so
abbrev pub AvoidingLaw : Type 0
AvoidingLaw = (n : ℕ) (t : Tree) → IsTrue (avoids n t) ↔ Avoids n t

-- a type is that of a recursive place exactly where the test says so
abbrev pub RecursivePlaceLaw : Type 0
RecursivePlaceLaw = (n q indices d : ℕ) (A : Tree) →
    IsTrue (is_recursive n q indices d A) ↔ RecursiveArgument n q indices d A

-- a constructor of type n, with p parameters and the type T, is positive exactly where the test
-- says so
abbrev pub PositivityLaw : Type 0
PositivityLaw = (n p : ℕ) (T C : Tree) → IsTrue (is_positive n p T C) ↔ Positive n p T C
