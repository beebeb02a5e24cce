-- Maxima of universe expressions, a part at a time.
use Rattle.std.specs.Prelude.{ℕ, max, List, [], ◌∷◌, ◌++◌}
use Rattle.mt_term.specs.Trees.{Bytes}
use Rattle.mt_term.specs.declared.universes.UnivExpr.{UnivExpr}
use Rattle.mt_term_parser.specs.declared.raw.Part.{Part}
use Rattle.mt_term_parser.specs.declared.raw.Part.TheVariants as part
use Rattle.mt_resolver.specs.Resolution.{Resolution, Found, then_found, first_place, or_unbound}

-- a maximum with one part more
abbrev pub part_after : List Bytes → ℕ → Part → UnivExpr → Resolution UnivExpr
part_after names at (part.Number k) u = Found (record { base = max u.base k; atoms = u.atoms })
part_after names at (part.Name x k) u =
    then_found (or_unbound x at (first_place names x))
    (λ n. Found (record { base = u.base; atoms = u.atoms ++ record { name = n; offset = k } ∷ [] }))
