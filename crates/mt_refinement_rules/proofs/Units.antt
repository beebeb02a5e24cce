-- Units for examples: what axioms, definitions, hints, coercions and a raw term against a goal answer, and what they cost. Their names are taken to be new.
use Rattle.std.specs.Prelude.{ℕ, suc, ◌-◌, List, [], ◌∷◌, length, reverse, drop, if◌then◌else◌, Bool, true, false, ◌&&◌, ◌||◌, not, nat_eq, is_some, Option, Some, None, slice_get}
use Rattle.std.specs.Str.{bytes_eq}
use Rattle.mt_term.specs.Trees.{Bytes, Tree}
use Rattle.mt_term.specs.Substitution.{under}
use Rattle.mt_term.specs.Declarations.{Hypothesis, Declaration, Axiom, Definition, Environment}
use Rattle.mt_term.specs.Reasons.{Reason, BadHint, BadCoercion, Mismatch, OpenMetas}
use Rattle.mt_term.specs.States.{Equation, Hint, is_open}
use Rattle.mt_rules.specs.Charges as charged
use Rattle.mt_rules.specs.Charges.{Outcome}
use Rattle.mt_term.specs.Stores.{no_store}
use Rattle.mt_term.specs.Instancing.{instance}
use Rattle.mt_rules.specs.Comparison.{convert}
use Rattle.mt_rules.specs.KernelCheck.{check_type, check}
use Rattle.mt_term.specs.declared.modes.Mode.TheVariants.{Equal}
use Rattle.mt_unification_rules.specs.Hints.{head_entry, solution}
use Rattle.mt_unification_rules.specs.Placeholders.{Metas, Typed}
use Rattle.mt_unification_rules.specs.Reach.{reaches}
use Rattle.mt_term_parser.specs.Written.{Written}
use Rattle.mt_resolver.specs.Resolution.{Resolution, Found, Faults}
use Rattle.mt_refinement_rules.specs.Placed.{Placed, found, faults, ◌>>=◌, by, by_kernel, only}
use Rattle.mt_refinement_rules.specs.Coercions.{Coercion, coercion_of}
use Rattle.mt_refinement_rules.specs.Settings.{Setting}
use Rattle.mt_refinement_rules.specs.Finishing.{as_type}
use Rattle.mt_refinement_rules.specs.Refinement.{place_of, refined, refine}

-- what a unit answers, and what is left of the allowance
pub data Answer : Type 0 where
  Accepted : ℕ → Answer
  Refused : Reason → ℕ → ℕ → Answer
  Spent : Answer
  NoAnswer : Answer

abbrev pub answer : {A : Type 0} → Outcome (Resolution A) → Answer
answer (charged.Done (Found a) left) = Accepted left
answer (charged.Done (Faults r at) left) = Refused r at left
answer (charged.Refused r left) = NoAnswer
answer charged.Spent = Spent

abbrev pub charges : {A : Type 0} → Placed A → ℕ → Answer
charges m n = answer (m n)

-- OpenMetas where a metavariable is open
abbrev none_open : Metas → Bool
none_open [] = true
none_open (m ∷ ms) = not (is_open (Some m)) && none_open ms

abbrev closed : Metas → ℕ → Placed (Unit {0})
closed ms at = only (none_open ms) OpenMetas at

abbrev pub typed_axiom : Setting → ℕ → Bytes → Written → Placed Declaration
typed_axiom S start x T = do
  A ← as_type S (place_of T) (refined S T) [] []
  _ ← closed A.store start
  _ ← by_kernel start (check_type S.env (instance A.store A.term))
  found (Axiom x (instance A.store A.term))

abbrev pub definition : Setting → ℕ → Bytes → Written → Written → Placed Declaration
definition S start x T b = do
  A ← as_type S (place_of T) (refined S T) [] []
  t ← refine S A.store [] b (Some A.term)
  _ ← closed t.store start
  _ ← by_kernel start (check S.env (instance t.store t.term) (instance t.store A.term))
  found (Definition x (instance t.store A.term) (instance t.store t.term))

abbrev pub untyped : Setting → ℕ → Bytes → Written → Placed Declaration
untyped S start x b = do
  t ← refine S [] [] b None
  _ ← closed t.store start
  _ ← by_kernel start (check S.env (instance t.store t.term) (instance t.store t.ty))
  found (Definition x (instance t.store t.ty) (instance t.store t.term))

-- ---- hints

-- variables in order, each type under the earlier ones
abbrev variables : Setting → List (Bytes × Written) → Metas → List Hypothesis → Placed (Metas × List Hypothesis)
variables S [] ms Γ = found (ms, Γ)
variables S (x ∷ xs) ms Γ = do
  A ← as_type S (place_of x.1) (refined S x.1) ms Γ
  variables S xs A.store (record { name = x.0; ty = A.term } ∷ Γ)

-- the newest variable of a name, from the innermost on
abbrev newest : Bytes → ℕ → List Hypothesis → Option ℕ
newest x i [] = None
newest x i (h ∷ hs) = if bytes_eq h.name x then Some i else newest x (suc i) hs

abbrev has_equation : ℕ → List Equation → Bool
has_equation i [] = false
has_equation i (e ∷ es) = nat_eq e.place i || has_equation i es

abbrev or_bad : ℕ → Option ℕ → Placed ℕ
or_bad at None = faults BadHint at
or_bad at (Some i) = found i

abbrev type_of : Option Hypothesis → Option Tree
type_of None = None
type_of (Some h) = Some h.ty

-- equations in order, for variables innermost first; these with their places from the oldest
abbrev equations : Setting → ℕ → List Hypothesis → List (Bytes × Written) → Metas → List Equation → Placed (Metas × List Equation)
equations S start Γ [] ms es = found (ms, es)
equations S start Γ (x ∷ xs) ms es = do
  i ← or_bad start (newest x.0 0 Γ)
  _ ← only (not (has_equation (length Γ - suc i) es)) BadHint start
  t ← refine S ms (drop (suc i) Γ) x.1 (type_of (slice_get Γ i))
  equations S start Γ xs t.store (record { place = length Γ - suc i; term = t.term } ∷ es)

abbrev instances_of : Metas → List Hypothesis → List Hypothesis
instances_of ms [] = []
instances_of ms (h ∷ hs) = record { name = h.name; ty = instance ms h.ty } ∷ instances_of ms hs

abbrev instances_in : Metas → List Equation → List Equation
instances_in ms [] = []
instances_in ms (e ∷ es) = record { place = e.place; term = instance ms e.term } ∷ instances_in ms es

abbrev accepted : Setting → ℕ → Hint → Placed Hint
accepted S start h = do
  _ ← only (is_some (head_entry h.left) && is_some (head_entry h.right)) BadHint start
  same ← by start (convert S.env no_store Equal (under (solution h) h.left) (under (solution h) h.right))
  _ ← only same BadHint start
  found h

abbrev pub hint : Setting → ℕ → ℕ → List (Bytes × Written) → List (Bytes × Written) → Written → Written → Placed Hint
hint S start precedence xs es left right = do
  Γ ← variables S xs [] []
  es' ← equations S start Γ.1 es Γ.0 []
  l ← refine S es'.0 Γ.1 left None
  r ← refine S l.store Γ.1 right None
  _ ← closed r.store start
  accepted S start (record {
    precedence = precedence;
    vars = reverse (instances_of r.store Γ.1);
    eqs = reverse (instances_in r.store es'.1);
    left = instance r.store l.term;
    right = instance r.store r.term;
  })

-- ---- coercions

-- the coercions of these names
abbrev with_one : Option Coercion → List Coercion → List Coercion
with_one None cs = cs
with_one (Some c) cs = c ∷ cs

abbrev pub coercions : Environment → List Bytes → List Coercion
coercions E [] = []
coercions E (x ∷ xs) = with_one (coercion_of E x) (coercions E xs)

abbrev pub coercion : Setting → ℕ → Bytes → Placed (Unit {0})
coercion S start x = only (is_some (coercion_of S.env x)) BadCoercion start

-- ---- a raw term against a goal, metavariable 0 of this type in the empty context, after the charge of an action

abbrev fill : ℕ → Tree → Typed → Placed Metas
fill at T t = only (is_open (slice_get t.store 0) && not (reaches t.store t.term 0)) (Mismatch [] T T []) at >>= (λ z. found t.store)

abbrev pub goal : Setting → ℕ → Tree → Written → Placed Metas
goal S start T w = charged.charge (refine S (record { context = []; ty = T; body = None } ∷ []) [] w (Some T) >>= fill start T)
