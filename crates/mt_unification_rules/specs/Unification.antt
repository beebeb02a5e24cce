-- Unification, with its charges: two terms are made equal, or the first at most the second, by bodies for open metavariables.
use Rattle.std.specs.Prelude.{ℕ, List, [], ◌∷◌, reverse, if◌then◌else◌, nat_eq, nat_lt, Bool, true, false, not, ◌&&◌, Option, Some, None, is_none, slice_get, slice_set}
use Rattle.mt_term.specs.Trees.{Tree, Trees, Arms, Sort, Prod, Lam, App, Const, Match, Meta, End, Item, NoArm, Arm}
use Rattle.mt_term.specs.Substitution.{under}
use Rattle.mt_term.specs.Spines.{item_at}
use Rattle.mt_term.specs.Declarations.{Hypothesis, Environment}
use Rattle.mt_term.specs.Reasons.{Unbound, Mismatch}
use Rattle.mt_term.specs.States.{Equation, Hint, is_open, meta_with_body}
use Rattle.mt_rules.specs.Charges.{Charged, give, refuse, ◌>>=◌, charge, tried}
use Rattle.mt_rules.specs.Knot.{fixed}
use Rattle.mt_term.specs.Alike.{is_alike}
use Rattle.mt_term.specs.Stores.{Store, store_of}
use Rattle.mt_term.specs.Instancing.{assigned_body, instance}
use Rattle.mt_rules.specs.WeakHead.{body_under, step}
use Rattle.mt_rules.specs.Comparison.{same_shapes, sorts_fit, convert}
use Rattle.mt_rules.specs.Inference.{infer}
use Rattle.mt_term.specs.declared.modes.Mode.{Mode}
use Rattle.mt_term.specs.declared.modes.Mode.TheVariants.{Equal, AtMost}
use Rattle.mt_unification_rules.specs.Hints.{head_entry, Candidate, candidates, with_variables, first_terms}
use Rattle.mt_unification_rules.specs.Placeholders.{Metas}
use Rattle.mt_unification_rules.specs.Reach.{reaches}
use Rattle.mt_unification_rules.specs.TakingBack.{taken_back}

-- the store, the context, the mode and the two terms
abbrev pub Question : Type 0
Question = Metas × List Hypothesis × Mode × Tree × Tree

-- no rule applies; the question gives the reason in the end
abbrev pub refused : {A : Type 0} → Charged A
refused = refuse (Unbound [])

-- only what is there, and only where it is so
abbrev pub known : {A : Type 0} → Option A → Charged A
known None = refused
known (Some a) = give a

abbrev pub only_if : Bool → Charged (Unit {0})
only_if true = give tt
only_if false = refused

-- a term whose head is an assigned metavariable, with the body for it
abbrev pub with_argument : Tree → Option Tree → Option Tree
with_argument a None = None
with_argument a (Some f) = Some (App f a)

abbrev pub head_replaced : Metas → Tree → Option Tree
head_replaced ms (Meta n s) = body_under (assigned_body (slice_get ms n)) s
head_replaced ms (App f a) = with_argument a (head_replaced ms f)
head_replaced ms t = None

-- both are one metavariable, under terms that may differ
abbrev pub same_meta : Tree → Tree → Bool
same_meta (Meta n s) (Meta m r) = nat_eq n m
same_meta t u = false

-- which of two sides is unfolded first: one that is higher
pub data Rank : Type 0 where
  Lowest : Rank
  Numbered : ℕ → Rank
  Highest : Rank

abbrev pub is_higher : Rank → Rank → Bool
is_higher Highest Highest = false
is_higher Highest s = true
is_higher (Numbered c) Lowest = true
is_higher (Numbered c) (Numbered d) = nat_lt d c
is_higher r s = false

-- the rank of a term by its head; an abstraction counts only where it has an argument
abbrev pub rank_of : Bool → Tree → Rank
rank_of applied (App f a) = rank_of true f
rank_of applied (Const c) = Numbered c
rank_of applied (Match e r c bs) = Highest
rank_of true (Lam x a b) = Highest
rank_of applied t = Lowest

abbrev pub rank : Tree → Rank
rank t = rank_of false t

-- the bodies of two lists of branches, pairwise; they are only compared
abbrev pub same_bodies : Environment → Store → Arms → Arms → Charged (Unit {0})
same_bodies E S NoArm NoArm = give tt
same_bodies E S (Arm xs b bs) (Arm ys c cs) = do
  same ← convert E S Equal b c
  _ ← only_if same
  same_bodies E S bs cs
same_bodies E S bs cs = refused

-- v becomes the body of n, where n is open and not reached from it
abbrev pub given : Metas → ℕ → Tree → Charged Metas
given ms n v = do
  m ← known (slice_get ms n)
  _ ← only_if (is_none m.body && not (reaches ms v n))
  give (slice_set ms n (meta_with_body m v))

-- hints; `again` is unification, after a charge
module _ (again : Question → Charged Metas) where
  -- each equation's variable and its term, in order, on the new metavariables of a hint
  abbrev pub by_equations : List Hypothesis → Trees → List Equation → Metas → Charged Metas
  by_equations Γ us [] ms = give ms
  by_equations Γ us (e ∷ es) ms = do
    x ← known (item_at us e.place)
    ms' ← again (ms, Γ, Equal, x, under (first_terms e.place us) e.term)
    by_equations Γ us es ms'

  -- a hint on its new metavariables: its left side with t, its right side with u, and then its equations
  abbrev pub by_sides : List Hypothesis → Hint → Metas × Trees → Tree → Tree → Charged Metas
  by_sides Γ h v t u = do
    ms ← again (v.0, Γ, Equal, under v.1 h.left, t)
    ms' ← again (ms, Γ, Equal, under v.1 h.right, u)
    by_equations Γ v.1 h.eqs ms'

  -- a candidate: one charge, and then the hint, its left side with the right term where the sides are exchanged
  abbrev pub by_direction : Metas → List Hypothesis → Tree → Tree → Hint → Bool → Charged Metas
  by_direction ms Γ t u h false = by_sides Γ h (with_variables ms Γ h.vars End) t u
  by_direction ms Γ t u h true = by_sides Γ h (with_variables ms Γ h.vars End) u t

  abbrev pub by_hint : Metas → List Hypothesis → Tree → Tree → Candidate → Charged Metas
  by_hint ms Γ t u c = charge (by_direction ms Γ t u c.hint c.swapped)

  -- each candidate tried, in order
  abbrev pub by_hints : Metas → List Hypothesis → Tree → Tree → List Candidate → Charged Metas
  by_hints ms Γ t u [] = refused
  by_hints ms Γ t u (c ∷ cs) = tried (by_hint ms Γ t u c) (by_hints ms Γ t u cs)

-- the other rules
module _ (E : Environment) (again : Question → Charged Metas) where
  -- the instance of u, taken back along s, becomes the body of n, where its type unifies with that of n
  abbrev pub assign : Metas → ℕ → Trees → Tree → Charged Metas
  assign ms n s u = do
    v ← known (taken_back s (instance ms u))
    _ ← only_if (not (reaches ms v n))
    m ← known (slice_get ms n)
    t ← infer E (store_of ms) (reverse m.context) v
    ms' ← again (ms, reverse m.context, AtMost, t, m.ty)
    given ms' n v

  -- a term that is an open metavariable is assigned to the other term
  abbrev pub assign_side : Metas → Tree → Tree → Charged Metas
  assign_side ms (Meta n s) u = do
    _ ← only_if (is_open (slice_get ms n))
    assign ms n s u
  assign_side ms t u = refused

  -- the left side, or else the right one
  abbrev pub by_assignment : Metas → Tree → Tree → Charged Metas
  by_assignment ms t u = do
    _ ← only_if (not (same_meta t u))
    tried (assign_side ms t u) (assign_side ms u t)

  -- the terms of two lists, pairwise
  abbrev pub by_terms : Metas → List Hypothesis → Trees → Trees → Charged Metas
  by_terms ms Γ End End = give ms
  by_terms ms Γ (Item t s) (Item u r) = do
    ms' ← again (ms, Γ, Equal, t, u)
    by_terms ms' Γ s r
  by_terms ms Γ s r = refused

  -- equal shapes, part by part; the bodies of branches are only compared
  abbrev pub by_parts : Metas → List Hypothesis → Tree → Tree → Charged Metas
  by_parts ms Γ (App f a) (App g b) = do
    ms' ← again (ms, Γ, Equal, f, g)
    again (ms', Γ, Equal, a, b)
  by_parts ms Γ (Lam x a b) (Lam y c d) = do
    ms' ← again (ms, Γ, Equal, a, c)
    again (ms', record { name = x; ty = a } ∷ Γ, Equal, b, d)
  by_parts ms Γ (Match e r c bs) (Match f p d cs) = do
    _ ← only_if (nat_eq e f && same_shapes bs cs)
    ms' ← again (ms, Γ, Equal, r, p)
    ms'' ← again (ms', Γ, Equal, c, d)
    _ ← same_bodies E (store_of ms'') bs cs
    give ms''
  by_parts ms Γ (Meta n s) (Meta m r) = do
    _ ← only_if (nat_eq n m && is_open (slice_get ms n))
    by_terms ms Γ s r
  by_parts ms Γ t u = refused

  -- goes on with a step of a side, where it has one
  abbrev pub on_step : (Tree → Question) → Charged Metas → Option Tree → Charged Metas
  on_step with other None = other
  on_step with other (Some t) = again (with t)

  -- one step of the higher side, the left where none is, and else of the other side
  abbrev pub by_step : Metas → List Hypothesis → Mode → Tree → Tree → Charged Metas → Charged Metas
  by_step ms Γ mode t u other =
      if is_higher (rank u) (rank t)
      then (step E (store_of ms) u >>= on_step (λ u'. (ms, Γ, mode, t, u')) (step E (store_of ms) t >>= on_step (λ t'. (ms, Γ, mode, t', u)) other))
      else (step E (store_of ms) t >>= on_step (λ t'. (ms, Γ, mode, t', u)) (step E (store_of ms) u >>= on_step (λ u'. (ms, Γ, mode, t, u')) other))

  -- two sorts, and two products
  abbrev pub by_types : Metas → List Hypothesis → Mode → Tree → Tree → Charged Metas
  by_types ms Γ mode (Sort s) (Sort r) = if sorts_fit E.below mode s r then give ms else refused
  by_types ms Γ mode (Prod x a b) (Prod y c d) = do
    ms' ← again (ms, Γ, Equal, a, c)
    again (ms', record { name = x; ty = a } ∷ Γ, mode, b, d)
  by_types ms Γ mode t u = refused

  -- begins anew where the head of a side is an assigned metavariable, the left first
  abbrev pub by_bodies : (Tree → Question) → (Tree → Question) → Option Tree → Option Tree → Charged Metas → Charged Metas
  by_bodies left right (Some t) o other = charge (again (left t))
  by_bodies left right None (Some u) other = charge (again (right u))
  by_bodies left right None None other = other

  -- the rules, in order, with these hints; of assignment, parts and hints the next is tried where one is refused
  abbrev pub by_rules : List Hint → Metas → List Hypothesis → Mode → Tree → Tree → Charged Metas
  by_rules H ms Γ mode t u =
      if is_alike t u then give ms else
      by_bodies (λ t'. (ms, Γ, mode, t', u)) (λ u'. (ms, Γ, mode, t, u')) (head_replaced ms t) (head_replaced ms u)
      (tried (by_assignment ms t u)
      (tried (by_parts ms Γ t u)
      (tried (by_hints again ms Γ t u (candidates H (head_entry t) (head_entry u)))
      (by_step ms Γ mode t u
      (by_types ms Γ mode t u)))))

-- one charge for each question; the reason of a refusal shows the two terms
abbrev pub unify_by : Environment → List Hint → (Question → Charged Metas) → Question → Charged Metas
unify_by E H again (ms, Γ, mode, t, u) = charge (tried (by_rules E again H ms Γ mode t u) (refuse (Mismatch Γ t u [])))

-- unification with hints, in the order in which they were accepted, of a question
unfoldable pub unified : Environment → List Hint → Question → Charged Metas
unified E H = fixed Question (λ q. Metas) (unify_by E H)

-- unification
unfoldable pub unify : Environment → List Hint → Metas → List Hypothesis → Mode → Tree → Tree → Charged Metas
unify E H ms Γ mode t u = unified E H (ms, Γ, mode, t, u)
