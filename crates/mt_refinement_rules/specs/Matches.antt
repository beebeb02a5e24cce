-- The rule of matches.
use Rattle.std.specs.Prelude.{ℕ, zero, suc, List, [], ◌∷◌, Option, Some, None}
use Rattle.mt_term.specs.Trees.{Bytes, Tree, Arms, Var, Prod, Lam, App, Ind, Con, Match, End, Item, NoArm, Arm}
use Rattle.mt_term.specs.Substitution.{ren, apps, join, count}
use Rattle.mt_term.specs.Declarations.{Hypothesis, Constructor}
use Rattle.mt_term.specs.Reasons.{NoExpected, BadElimination}
use Rattle.mt_term.specs.Stores.{store_of}
use Rattle.mt_term.specs.Spines.{motive_on_all, at_args}
use Rattle.mt_rules.specs.WeakHead.{whd}
use Rattle.mt_rules.specs.Inference.{Family, eliminable, checked, as_family, branch_context, branch_type, elimination}
use Rattle.mt_unification_rules.specs.Placeholders.{Metas}
use Rattle.mt_term_parser.specs.Written.{Cases}
use Rattle.mt_resolver.specs.Resolution.{name_all}
use Rattle.mt_refinement_rules.specs.Placed.{Placed, found, faults, ◌>>=◌, by, in_store}
use Rattle.mt_refinement_rules.specs.Settings.{Setting}
use Rattle.mt_refinement_rules.specs.Finishing.{Refinement, finish}

-- the binder `_`
abbrev pub unnamed : Bytes
unnamed = 95 ∷ []

-- a type abstracted over the indices of an inductive type of this arity, and over that type, h, on them
abbrev pub constant_return : Tree → Tree → Tree → Tree
constant_return (Prod x a b) h U = Lam unnamed a (constant_return b (App (ren suc h) (Var zero)) (ren suc U))
constant_return u h U = Lam unnamed h (ren suc U)

-- the motive of a match on an inductive type
abbrev pub Return : Type 0
Return = Metas → List Hypothesis → Option Tree → Family → Placed (Metas × Tree)

-- the return term
abbrev pub written_return : Refinement → Return
written_return term ms Γ o f = do
  t ← term ms Γ None
  found (t.store, t.term)

-- without one it is made of the expected type, for a match at this place
abbrev pub expected_return : ℕ → Return
expected_return at ms Γ (Some U) f = found (ms, constant_return f.arity (apps (Ind f.number) f.params) U)
expected_return at ms Γ None f = faults NoExpected at

-- the bodies of a match on an inductive type with this motive: for these constructors, from number k on
abbrev pub Bodies : Type 0
Bodies = Metas → List Hypothesis → Family → Tree → ℕ → List Constructor → Placed (Metas × Arms)

abbrev pub no_body : Bodies
no_body ms Γ f r k cs = found (ms, NoArm)

-- the body of an arm with these names, and then the others; the match is at this place
abbrev pub one_body : ℕ → List Bytes → Refinement → Bodies → Bodies
one_body at xs body others ms Γ f r k [] = faults BadElimination at
one_body at xs body others ms Γ f r k (c ∷ cs) = do
  u ← by at (eliminable (at_args c.ty f.params))
  U ← by at (eliminable (branch_type (count f.params) r (apps (Con f.number k) f.params) u xs))
  b ← body ms (branch_context Γ u xs) (Some U)
  bs ← others b.store Γ f r (suc k) cs
  found (bs.0, Arm xs b.term bs.1)

-- a match with these arms; a refusal of its motive shows types as instances in the store that this was given
abbrev pub by_match : Setting → ℕ → Refinement → Return → Cases → Bodies → Refinement
by_match S at matched return arms bodies ms Γ o = do
  c ← matched ms Γ None
  u ← by at (whd S.env (store_of c.store) c.ty)
  f ← by at (eliminable (as_family S.env.entries u))
  _ ← by at (checked (name_all (count f.params) f.constructors arms))
  r ← return c.store Γ o f
  _ ← in_store r.0 (by at (elimination S.env (store_of r.0) Γ f r.1))
  bs ← bodies r.0 Γ f r.1 zero f.constructors
  finish S at Γ o (record { store = bs.0; term = Match f.number r.1 c.term bs.1; ty = motive_on_all r.1 (join f.indices (Item c.term End)) })
