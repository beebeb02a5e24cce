-- The actions `cases` and `elim`: a goal is split by the constructors of a term's type.
--
-- The term is refined without an expected type; the weak head of its type must be an inductive type
-- e on parameters p and indices i, else BadElimination, and for `elim` e must have a principle,
-- else
-- BadElimination. The motive R abstracts over the indices and the term; it must be one for e on p.
--
-- `cases`: for each constructor in order a new goal under its arguments, R on the indices of its
-- result and on it; the goal is closed by the match of the term with these bodies.
-- `elim`: for each constructor in order a new goal of its premise, with R for the predicate; the
-- goal is closed by the principle on p, R, these, i and the term.
use Rattle.std.specs.Prelude.{ℕ, zero, suc, List, [], ◌∷◌, Bool, true, false, Option, Some, None}
use Rattle.std.specs.Prelude.{slice_get}
use Rattle.mt_term.specs.Trees.{Tree, Trees, Arms, Const, Con, Match, End, Item, NoArm, Arm}
use Rattle.mt_term.specs.Substitution.{apps, join, count}
use Rattle.mt_term.specs.Declarations.{Hypothesis, Constructor, Declaration, Recursive}
use Rattle.mt_term.specs.Spines.{at_args}
use Rattle.mt_term.specs.Stores.{store_of}
use Rattle.mt_rules.specs.WeakHead.{whd}
use Rattle.mt_rules.specs.Inference.{Family, eliminable, as_family, branch_context, branch_type}
use Rattle.mt_rules.specs.Inference.{elimination}
use Rattle.mt_term_parser.specs.Written.{Written}
use Rattle.mt_unification_rules.specs.Placeholders.{Metas, Typed, placeholder}
use Rattle.mt_refinement_rules.specs.Placed.{Placed, found, ◌>>=◌, by, in_store}
use Rattle.mt_refinement_rules.specs.Refinement.{refine}
use Rattle.mt_refinement_rules.specs.Settings.{Setting}
use Rattle.mt_action_rules.specs.Goals.{Goal, Rule}
use Rattle.mt_induction_rules.specs.Giving.{give_term}
use Rattle.mt_induction_rules.specs.Motives.{motive}
use Rattle.mt_induction_rules.specs.Premises.{recursive_places, premise}
use Rattle.mt_induction_rules.specs.Telescopes.{argument_names}

-- ---- by a match

-- constructor k of a family on its parameters
abbrev pub constructor_on : Family → ℕ → Tree
constructor_on f k = apps (Con f.number k) f.params

-- a new goal for each constructor, from number k on, under its arguments; and the branches
abbrev pub branch_goals : ℕ → List Hypothesis → Family → Tree → ℕ → List Constructor → Metas
    → Placed (Metas × Arms)
branch_goals at Γ f R k [] ms = found (ms, NoArm)
branch_goals at Γ f R k (c ∷ cs) ms = do
  u ← by at (eliminable (at_args c.ty f.params))
  U ← by at (eliminable (branch_type (count f.params) R (constructor_on f k) u (argument_names u)))
  b ← found (placeholder ms (branch_context Γ u (argument_names u)) U)
  bs ← branch_goals at Γ f R (suc k) cs b.store
  found (bs.0, Arm (argument_names u) b.term bs.1)

-- the goal is closed by the match of a term of a family
abbrev pub by_branches : Setting → ℕ → Goal → Typed → Family → Tree → Placed Metas
by_branches S at g t f R = do
  bs ← branch_goals at g.context f R zero f.constructors t.store
  give_term S at g bs.0 (Match f.number R t.term bs.1)

-- ---- by the principle

-- the principle of type e: the function that was made after it
abbrev pub made_function : ℕ → Option Declaration → Option Tree
made_function n (Some (Recursive x co k r T b true)) = Some (Const n)
made_function n d = None

abbrev pub principle_of : List Declaration → ℕ → Option Tree
principle_of es e = made_function (suc e) (slice_get es (suc e))

-- the premise of constructor k of a family, whose type on the parameters is u, for a motive
abbrev pub premise_at : Family → Tree → ℕ → Constructor → Tree → Tree
premise_at f R k c u =
    premise (count f.params) R (constructor_on f k)
    (recursive_places f.number (count f.params) (count f.indices) c.ty) u

-- a new goal for each constructor, from number k on, of its premise; and these
abbrev pub premise_goals : ℕ → List Hypothesis → Family → Tree → ℕ → List Constructor → Metas
    → Placed (Metas × Trees)
premise_goals at Γ f R k [] ms = found (ms, End)
premise_goals at Γ f R k (c ∷ cs) ms = do
  u ← by at (eliminable (at_args c.ty f.params))
  p ← found (placeholder ms Γ (premise_at f R k c u))
  ps ← premise_goals at Γ f R (suc k) cs p.store
  found (ps.0, Item p.term ps.1)

-- a principle on a term of a family, with a motive and premises
abbrev pub on_premises : Tree → Typed → Family → Tree → Trees → Tree
on_premises q t f R ps =
    apps q (join f.params (Item R (join ps (join f.indices (Item t.term End)))))

-- the goal is closed by a principle on a term of a family
abbrev pub by_premises : Setting → ℕ → Goal → Tree → Typed → Family → Tree → Placed Metas
by_premises S at g q t f R = do
  ps ← premise_goals at g.context f R zero f.constructors t.store
  give_term S at g ps.0 (on_premises q t f R ps.1)

-- ---- the rule

-- what closes the goal, by a term of a family and a motive
abbrev pub Closing : Type 0
Closing = Typed → Family → Tree → Placed Metas

-- a match, or else the principle of type e, which must be there
abbrev pub closing : Setting → ℕ → Goal → Bool → ℕ → Placed Closing
closing S at g false e = found (by_branches S at g)
closing S at g true e = do
  q ← by at (eliminable (principle_of S.env.entries e))
  found (by_premises S at g q)

-- The rule of `cases` and, by the principle, of `elim` of a raw term, for an action at a place. A
-- refusal of the motive shows types as instances in the store after the term.
unfoldable pub split : Setting → Bool → ℕ → Written → Rule
split S by_principle at w g ms = do
  t ← refine S ms g.context w None
  u ← by at (whd S.env (store_of t.store) t.ty)
  f ← by at (eliminable (as_family S.env.entries u))
  close ← closing S at g by_principle f.number
  _ ← in_store t.store (by at (elimination S.env (store_of t.store) g.context f (motive t f g.ty)))
  close t f (motive t f g.ty)
