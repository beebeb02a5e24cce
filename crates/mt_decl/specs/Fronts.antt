-- The parts of the definitions that cost nothing, by names that stay as they are in a goal.
use Rattle.std.specs.Prelude.{ℕ, Bool, ◌||◌, if◌then◌else◌, List, [], ◌∷◌}
use Rattle.mt_term.specs.Trees.{Tree, Bytes}
use Rattle.mt_term.specs.Declarations.{Environment}
use Rattle.mt_term.specs.Reasons.{Taken}
use Rattle.mt_term.specs.Naming.{named}
use Rattle.mt_term_parser.specs.Written.{Written}
use Rattle.mt_unit_parser.specs.declared.units.RawCon.{RawCon}
use Rattle.mt_resolver.specs.Resolution.{Resolution, Found, Faults, then_found, resolved}
use Rattle.mt_decl.specs.Declaring.{is_something, stands_in}

-- a name is in use, or one of the earlier ones
unfoldable pub known : Environment → List Bytes → Bytes → Bool
known E earlier x = is_something (named E.entries x) || stands_in x earlier

-- each name is new, after earlier ones
unfoldable pub newness : Environment → ℕ → List Bytes → List Bytes → Resolution (Unit {0})
newness E start earlier [] = Found tt
newness E start earlier (x ∷ xs) =
    if known E earlier x then Faults (Taken x) start else newness E start (x ∷ earlier) xs

-- the names of constructors as they are written
abbrev pub names_in : List RawCon → List Bytes
names_in [] = []
names_in (c ∷ cs) = c.name ∷ names_in cs

-- a new name and then a closed type
unfoldable pub opening : Environment → ℕ → Bytes → Written → Resolution Tree
opening E start x w = then_found (newness E start [] (x ∷ [])) (λ z. resolved E [] w)
