-- Whether a term reaches a metavariable, as a test.
use Rattle.std.specs.Prelude.{ℕ, zero, suc, List, [], ◌∷◌, length, nat_eq, Bool, true, false, ◌||◌, Option, Some, None, slice_get}
use Rattle.mt_term.specs.Trees.{Tree, Trees, Arms, Var, Sort, Prod, Lam, App, Const, Ind, Con, Match, Meta, End, Item, NoArm, Arm}
use Rattle.mt_term.specs.Declarations.{Hypothesis}
use Rattle.mt_term.specs.States.{Metavariable}

-- some metavariable that stands in a term passes a test
abbrev mutual
  pub some_meta : (ℕ → Bool) → Tree → Bool
  some_meta p (Var i) = false
  some_meta p (Sort s) = false
  some_meta p (Prod x a b) = some_meta p a || some_meta p b
  some_meta p (Lam x a b) = some_meta p a || some_meta p b
  some_meta p (App f a) = some_meta p f || some_meta p a
  some_meta p (Const c) = false
  some_meta p (Ind e) = false
  some_meta p (Con e k) = false
  some_meta p (Match e r c bs) = some_meta p r || (some_meta p c || some_meta_arms p bs)
  some_meta p (Meta n s) = p n || some_meta_all p s

  pub some_meta_all : (ℕ → Bool) → Trees → Bool
  some_meta_all p End = false
  some_meta_all p (Item t s) = some_meta p t || some_meta_all p s

  pub some_meta_arms : (ℕ → Bool) → Arms → Bool
  some_meta_arms p NoArm = false
  some_meta_arms p (Arm xs b bs) = some_meta p b || some_meta_arms p bs

-- some metavariable that stands in the type of a hypothesis
abbrev pub some_meta_of : (ℕ → Bool) → List Hypothesis → Bool
some_meta_of p [] = false
some_meta_of p (h ∷ hs) = some_meta p h.ty || some_meta_of p hs

-- some metavariable that stands in a body
abbrev pub some_meta_in : (ℕ → Bool) → Option Tree → Bool
some_meta_in p None = false
some_meta_in p (Some b) = some_meta p b

-- some metavariable that stands in the context, the type or the body of another
abbrev pub some_meta_held : (ℕ → Bool) → Option Metavariable → Bool
some_meta_held p None = false
some_meta_held p (Some m) = some_meta_of p m.context || (some_meta p m.ty || some_meta_in p m.body)

-- metavariable m is n, or n is reached from it, seen through so many metavariables; further on nothing is seen, and n may be reached
abbrev pub leads_to : List Metavariable → ℕ → ℕ → ℕ → Bool
leads_to ms n zero m = true
leads_to ms n (suc k) m = nat_eq m n || some_meta_held (leads_to ms n k) (slice_get ms m)

-- Metavariable n is reached from a term. Where no metavariable is below itself, a way goes through no more of them than there are.
abbrev pub reaches : List Metavariable → Tree → ℕ → Bool
reaches ms t n = some_meta (leads_to ms n (suc (length ms))) t
