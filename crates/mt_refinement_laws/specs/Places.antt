-- The places in a raw term.
use Rattle.std.specs.Prelude.{◌≡◌, ◌⊎◌, ℕ}
use Rattle.mt_term_parser.specs.Written.{Written, Form, Arguments, Cases, Term, Lam, Prod, App, Match, Cast, Absent, Given, NoArgument, Argument, NoCase, Case}

-- a place is that of the first token of a raw term, or of one that stands in it
abbrev mutual
  pub IsPlaceIn : Written → ℕ → Type 0
  IsPlaceIn (Term p f) at = (p ≡ at) ⊎ IsPlaceInside f at

  pub IsPlaceInside : Form → ℕ → Type 0
  IsPlaceInside (Lam x Absent b) at = IsPlaceIn b at
  IsPlaceInside (Lam x (Given A) b) at = IsPlaceIn A at ⊎ IsPlaceIn b at
  IsPlaceInside (Prod x A B) at = IsPlaceIn A at ⊎ IsPlaceIn B at
  IsPlaceInside (App f args) at = IsPlaceIn f at ⊎ IsPlaceInOne args at
  IsPlaceInside (Match c Absent arms) at = IsPlaceIn c at ⊎ IsPlaceInBody arms at
  IsPlaceInside (Match c (Given R) arms) at = IsPlaceIn c at ⊎ (IsPlaceIn R at ⊎ IsPlaceInBody arms at)
  IsPlaceInside (Cast t T) at = IsPlaceIn t at ⊎ IsPlaceIn T at
  IsPlaceInside f at = ⊥

  pub IsPlaceInOne : Arguments → ℕ → Type 0
  IsPlaceInOne NoArgument at = ⊥
  IsPlaceInOne (Argument a args) at = IsPlaceIn a at ⊎ IsPlaceInOne args at

  pub IsPlaceInBody : Cases → ℕ → Type 0
  IsPlaceInBody NoCase at = ⊥
  IsPlaceInBody (Case x xs b arms) at = IsPlaceIn b at ⊎ IsPlaceInBody arms at
