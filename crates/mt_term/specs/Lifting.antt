-- Variables raised from a place on, and a term for the variable at a place.
use Rattle.std.specs.Prelude.{ℕ, zero, suc, ◌+◌}
use Rattle.mt_term.specs.Trees.{Tree, Var}
use Rattle.mt_term.specs.Substitution.{up_ren, ren, then_as, up, sub}

-- the variables from a place on are raised
abbrev pub raise : ℕ → ℕ → ℕ → ℕ
raise by zero i = i + by
raise by (suc from) i = up_ren (raise by from) i

abbrev pub lift : ℕ → ℕ → Tree → Tree
lift by from t = ren (raise by from) t

-- u, which stands under the variables past the place, for the variable there; those past it go down
-- by one
abbrev pub put : ℕ → Tree → ℕ → Tree
put zero u i = then_as u Var i
put (suc at) u i = up (put at u) i

abbrev pub substitute : ℕ → Tree → Tree → Tree
substitute at u t = sub (put at u) t
