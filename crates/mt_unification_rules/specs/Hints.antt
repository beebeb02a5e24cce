-- Hints: which are tried for two terms, in which order, and their variables as new metavariables.
use Rattle.std.specs.Prelude.{ℕ, zero, suc, List, [], ◌∷◌, ◌++◌, length, if◌then◌else◌, nat_eq, nat_lt, Bool, true, false, ◌&&◌, Option, Some, None}
use Rattle.mt_term.specs.Trees.{Tree, Trees, Var, App, Const, Ind, Con, End, Item}
use Rattle.mt_term.specs.Substitution.{under, join, count}
use Rattle.mt_term.specs.Declarations.{Hypothesis}
use Rattle.mt_term.specs.States.{Equation, Hint}
use Rattle.mt_term.specs.Alike.{is_alike}
use Rattle.mt_unification_rules.specs.Placeholders.{Metas, placeholder}

-- the head of a term, where it is an entry or a constructor
abbrev pub head_entry : Tree → Option Tree
head_entry (App f a) = head_entry f
head_entry (Const c) = Some (Const c)
head_entry (Ind e) = Some (Ind e)
head_entry (Con e k) = Some (Con e k)
head_entry t = None

-- a hint to be tried, and whether its sides are exchanged
pub record Candidate : Type 0 where
  pub hint : Hint
  pub swapped : Bool

abbrev pub is_head : Option Tree → Tree → Bool
is_head None a = false
is_head (Some h) a = is_alike h a

-- the sides of a hint have these heads
abbrev pub heads_are : Hint → Tree → Tree → Bool
heads_are h a b = is_head (head_entry h.left) a && is_head (head_entry h.right) b

abbrev pub picked_if : Bool → Candidate → List Candidate
picked_if true c = c ∷ []
picked_if false c = []

-- direct before swapped; both where the two sides of the hint have one head
abbrev pub picks_of : Hint → Tree → Tree → List Candidate
picks_of h a b = picked_if (heads_are h a b) (record { hint = h; swapped = false }) ++ picked_if (heads_are h b a) (record { hint = h; swapped = true })

-- before the first of a higher precedence: of one precedence the older stays first
abbrev pub inserted : Candidate → List Candidate → List Candidate
inserted c [] = c ∷ []
inserted c (d ∷ ds) = if nat_lt c.hint.precedence d.hint.precedence then c ∷ d ∷ ds else d ∷ inserted c ds

abbrev pub all_inserted : List Candidate → List Candidate → List Candidate
all_inserted [] ds = ds
all_inserted (c ∷ cs) ds = all_inserted cs (inserted c ds)

-- the candidates of hints, the oldest first, after those of older ones
abbrev pub picked : List Hint → Tree → Tree → List Candidate → List Candidate
picked [] a b ds = ds
picked (h ∷ hs) a b ds = picked hs a b (all_inserted (picks_of h a b) ds)

-- the candidates for two heads; none where a side has no such head
abbrev pub candidates : List Hint → Option Tree → Option Tree → List Candidate
candidates hs (Some a) (Some b) = picked hs a b []
candidates hs o p = []

-- a new metavariable for each variable, oldest first, its type under the earlier ones; and these
abbrev pub with_variables : Metas → List Hypothesis → List Hypothesis → Trees → Metas × Trees
with_variables ms Γ [] us = (ms, us)
with_variables ms Γ (x ∷ xs) us =
    with_variables ((placeholder ms Γ (under us x.ty)).store) Γ xs (join us (Item ((placeholder ms Γ (under us x.ty)).term) End))

-- the first terms of a list, at most so many
abbrev pub first_terms : ℕ → Trees → Trees
first_terms zero s = End
first_terms (suc n) End = End
first_terms (suc n) (Item t s) = Item t (first_terms n s)

-- the term that an equation gives to the variable at a place
abbrev pub equation_at : List Equation → ℕ → Option Tree
equation_at [] i = None
equation_at (e ∷ es) i = if nat_eq e.place i then Some e.term else equation_at es i

-- a variable with so many later ones: its equation's term under the solutions of the earlier ones, or else itself
abbrev pub solution_of : Option Tree → ℕ → Trees → Tree
solution_of None later s = Var later
solution_of (Some t) later s = under s t

abbrev pub solved : List Equation → List Hypothesis → Trees → Trees
solved es [] s = s
solved es (x ∷ xs) s = solved es xs (join s (Item (solution_of (equation_at es (count s)) (length xs) s) End))

-- a term for each variable of a hint, oldest first, by its equations, through and through, under all the variables
abbrev pub solution : Hint → Trees
solution h = solved h.eqs h.vars End
