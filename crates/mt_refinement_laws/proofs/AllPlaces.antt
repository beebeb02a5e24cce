-- Properties of all places in a raw term.
use Rattle.std.specs.Prelude.{ℕ}
use Rattle.std.proofs.Common.{refl, inl, inr}
use Rattle.mt_term_parser.specs.Written.{Written, Form, Arguments, Cases, Term, Name, Con, Hole, Vector, Sort, Lam, Prod, App, Match, Cast, Absent, Given, NoArgument, Argument, NoCase, Case}
use Rattle.mt_refinement_laws.specs.Places.{IsPlaceIn, IsPlaceInside, IsPlaceInOne, IsPlaceInBody}

-- the place of the first token of each raw term that stands in one has a property
abbrev mutual
  pub AllPlaces : (ℕ → Type 0) → Written → Type 0
  AllPlaces P (Term at f) = P at × AllPlacesInside P f

  pub AllPlacesInside : (ℕ → Type 0) → Form → Type 0
  AllPlacesInside P (Lam x Absent b) = AllPlaces P b
  AllPlacesInside P (Lam x (Given A) b) = AllPlaces P A × AllPlaces P b
  AllPlacesInside P (Prod x A B) = AllPlaces P A × AllPlaces P B
  AllPlacesInside P (App f args) = AllPlaces P f × AllPlacesIn P args
  AllPlacesInside P (Match c Absent arms) = AllPlaces P c × AllPlacesOf P arms
  AllPlacesInside P (Match c (Given R) arms) = AllPlaces P c × AllPlaces P R × AllPlacesOf P arms
  AllPlacesInside P (Cast t T) = AllPlaces P t × AllPlaces P T
  AllPlacesInside P f = Unit {0}

  pub AllPlacesIn : (ℕ → Type 0) → Arguments → Type 0
  AllPlacesIn P NoArgument = Unit {0}
  AllPlacesIn P (Argument a args) = AllPlaces P a × AllPlacesIn P args

  pub AllPlacesOf : (ℕ → Type 0) → Cases → Type 0
  AllPlacesOf P NoCase = Unit {0}
  AllPlacesOf P (Case x xs b arms) = AllPlaces P b × AllPlacesOf P arms

-- what each place in a raw term has
mutual
  pub all_places : (P : ℕ → Type 0) (w : Written) → ((at : ℕ) → IsPlaceIn w at → P at) → AllPlaces P w
  all_places P (Term p f) h = (h p (inl refl), all_inside P f (λ at i. h at (inr i)))

  all_inside : (P : ℕ → Type 0) (f : Form) → ((at : ℕ) → IsPlaceInside f at → P at) → AllPlacesInside P f
  all_inside P (Name x) h = tt
  all_inside P (Con e k) h = tt
  all_inside P Hole h = tt
  all_inside P Vector h = tt
  all_inside P (Sort s) h = tt
  all_inside P (Lam x Absent b) h = all_places P b h
  all_inside P (Lam x (Given A) b) h = (all_places P A (λ at i. h at (inl i)), all_places P b (λ at i. h at (inr i)))
  all_inside P (Prod x A B) h = (all_places P A (λ at i. h at (inl i)), all_places P B (λ at i. h at (inr i)))
  all_inside P (App f args) h = (all_places P f (λ at i. h at (inl i)), all_in P args (λ at i. h at (inr i)))
  all_inside P (Match c Absent arms) h = (all_places P c (λ at i. h at (inl i)), all_of P arms (λ at i. h at (inr i)))
  all_inside P (Match c (Given R) arms) h = (all_places P c (λ at i. h at (inl i)), all_places P R (λ at i. h at (inr (inl i))), all_of P arms (λ at i. h at (inr (inr i))))
  all_inside P (Cast t T) h = (all_places P t (λ at i. h at (inl i)), all_places P T (λ at i. h at (inr i)))

  all_in : (P : ℕ → Type 0) (args : Arguments) → ((at : ℕ) → IsPlaceInOne args at → P at) → AllPlacesIn P args
  all_in P NoArgument h = tt
  all_in P (Argument a args) h = (all_places P a (λ at i. h at (inl i)), all_in P args (λ at i. h at (inr i)))

  all_of : (P : ℕ → Type 0) (arms : Cases) → ((at : ℕ) → IsPlaceInBody arms at → P at) → AllPlacesOf P arms
  all_of P NoCase h = tt
  all_of P (Case x xs b arms) h = (all_places P b (λ at i. h at (inl i)), all_of P arms (λ at i. h at (inr i)))
