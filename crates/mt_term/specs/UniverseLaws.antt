-- The values of the forms that typing makes of universe expressions, as statements.
use Rattle.std.specs.Prelude.{◌≡◌, ◌+◌, max, Some}
use Rattle.mt_term.specs.declared.universes.UnivExpr.{UnivExpr}
use Rattle.mt_term.specs.Universes.{Valuation, value}
use Rattle.mt_term.specs.UniverseForms.{IsNormal, normal_form, maximum, raised}

-- the normal form is normal, and has the values of its expression
abbrev pub NormalValueLaw : Type 0
NormalValueLaw = (u : UnivExpr) →
    IsNormal (normal_form u) × ((v : Valuation) → value v (normal_form u) ≡ value v u)

-- an expression that is normal is its own normal form
abbrev pub NormalKeptLaw : Type 0
NormalKeptLaw = (u : UnivExpr) → IsNormal u → normal_form u ≡ u

-- the values of the maximum are the greater ones
abbrev pub MaximumValueLaw : Type 0
MaximumValueLaw = (u w : UnivExpr) (v : Valuation) →
    value v (maximum u w) ≡ max (value v u) (value v w)

-- the values of the raised expression are one higher
abbrev pub RaisedValueLaw : Type 0
RaisedValueLaw = (u r : UnivExpr) → raised u ≡ Some r →
    (v : Valuation) → value v r ≡ value v u + 1
