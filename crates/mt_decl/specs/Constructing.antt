-- Constructors, by names that stay as they are in a goal.
use Rattle.std.specs.Prelude.{ℕ, Bool, ◌&&◌, List, ◌++◌, length, map}
use Rattle.mt_term.specs.Trees.{Tree, Bytes}
use Rattle.mt_term.specs.Declarations.{Hypothesis, Constructor, Environment}
use Rattle.mt_term.specs.declared.universes.Sort.{Sort as AnySort}
use Rattle.mt_term_parser.specs.Written.{Written}
use Rattle.mt_unit_parser.specs.declared.units.RawCon.{RawCon}
use Rattle.mt_unit_parser.specs.UnitOf.{con_of}
use Rattle.mt_positivity.specs.Deciding.{is_positive}
use Rattle.mt_decl.specs.Answers.{Answering, make, ◌>>=◌}
use Rattle.mt_decl.specs.Telescopes.{generalized}
use Rattle.mt_decl.specs.Declaring.{NewFamily, DeclaredConstructors, or_not_positive}
use Rattle.mt_decl.specs.Declaring.{declared_constructor, declared_constructors}
use Rattle.mt_decl.specs.Fitting.{sorting}
use Rattle.mt_decl.specs.Judging.{type_judged}

abbrev pub family : ℕ → List Hypothesis → Tree → AnySort → NewFamily
family number Γ T s = record { number = number; params = Γ; ty = T; sort = s }

-- a constructor that is positive: the sorts of its arguments, and the kernel on its closed type
unfoldable pub finished : Environment → ℕ → List Hypothesis → AnySort → Bool → Bytes → Tree
    → Answering (Constructor × Bool)
finished E start Γ s only x C = do
  large ← sorting E start s only Γ C
  _ ← type_judged E start (generalized Γ C)
  make (record { name = x; ty = generalized Γ C }, large)

-- a constructor, from its type under the parameters on
unfoldable pub typed : Environment → ℕ → ℕ → List Hypothesis → Tree → AnySort → Bool → ℕ → Bytes
    → Tree → Answering (Constructor × Bool)
typed E start number Γ T s only at x C = do
  _ ← or_not_positive at (is_positive number (length Γ) T (generalized Γ C))
  finished E start Γ s only x C

-- one constructor
unfoldable pub constructed : Environment → ℕ → ℕ → List Hypothesis → Tree → AnySort → Bool → ℕ
    → Bytes → Written → Answering (Constructor × Bool)
constructed E start number Γ T s only at x w =
    declared_constructor E start (family number Γ T s) only (record { at = at; name = x; type = w })

abbrev pub joined : List Constructor → Bool → DeclaredConstructors → Answering DeclaredConstructors
joined before all d = make (before ++ d.0, all && d.1)

-- further constructors, after those that are declared
unfoldable pub constructed_on : Environment → ℕ → ℕ → List Hypothesis → Tree → AnySort → Bool
    → List Constructor → Bool → List RawCon → Answering DeclaredConstructors
constructed_on E start number Γ T s only before all cs = do
  d ← declared_constructors E start (family number Γ T s) only (map con_of cs)
  joined before all d
