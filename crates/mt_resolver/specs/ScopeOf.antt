-- The names that the program's scopes hold.
use Rattle.std.specs.Prelude.{ℕ, ◌+◌, List, [], ◌∷◌, Option, Some, None}
use Rattle.mt_term.specs.Trees.{Bytes}
use Rattle.mt_resolver.specs.Resolution.{with_binders}
use Rattle.mt_resolver.specs.declared.scopes.Scope.{Scope, Empty, More', Binders'}

-- the names of the hypotheses, innermost first
abbrev pub names_of : Scope → List Bytes
names_of Empty = []
names_of (More' x q rest) = x.now ∷ names_of rest
names_of (Binders' xs q rest) = with_binders xs.now (names_of rest)

-- a place, where so many names stand before
abbrev pub places_on : ℕ → Option ℕ → Option ℕ
places_on k None = None
places_on k (Some i) = Some (k + i)
