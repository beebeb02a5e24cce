-- What steps and tacticals do to lists of goals. Goals go by their numbers.
use Rattle.std.specs.Prelude.{ℕ, suc, Bool, true, false, not, ◌&&◌, ◌||◌, List, [], ◌∷◌, ◌++◌, Option, None, Some, if◌then◌else◌, nat_eq}
use Rattle.mt_tiny.specs.Outcomes.{Charged, give, stop, ◌>>=◌, stopping}
use Rattle.mt_tiny.specs.Provers.{ProverRules}

-- why a step is refused; a stop of the prover is passed on
pub data Refusal (R : Type 0) : Type 0 where
  NoGoal : Refusal R
  NoBranch : Refusal R
  NoSuchPosition : Refusal R
  NotHere : Refusal R
  ByProver : R → Refusal R

-- goals at positions
abbrev pub Placed : Type 0
Placed = List (ℕ × ℕ)

-- the goals at positions from this one on
abbrev pub numbered : ℕ → List ℕ → Placed
numbered i [] = []
numbered i (g ∷ gs) = (i, g) ∷ numbered (suc i) gs

abbrev pub goals_of : Placed → List ℕ
goals_of [] = []
goals_of (x ∷ xs) = x.1 ∷ goals_of xs

-- the focused goal at its position, then what is left
abbrev pub positioned : ℕ → List ℕ → Placed → Placed
positioned fresh [] left = left
positioned fresh (g ∷ gs) left = (fresh, g) ∷ left

abbrev pub behind : ℕ × ℕ → Option (ℕ × Placed) → Option (ℕ × Placed)
behind x None = None
behind x (Some r) = Some (r.0, x ∷ r.1)

-- the goal at a position, and the others
abbrev pub taken : ℕ → Placed → Option (ℕ × Placed)
taken i [] = None
taken i (x ∷ xs) = if nat_eq i x.0 then Some (x.1, xs) else behind x (taken i xs)

abbrev pub before : ℕ → Option (List ℕ × Placed) → Option (List ℕ × Placed)
before g None = None
before g (Some r) = Some (g ∷ r.0, r.1)

abbrev pub with_taken : Option (ℕ × Placed) → (Placed → Option (List ℕ × Placed)) → Option (List ℕ × Placed)
with_taken None go = None
with_taken (Some r) go = before r.0 (go r.1)

-- the goals at these positions as named, and the others; none where one is not there or is named twice
abbrev pub picked : List ℕ → Placed → Option (List ℕ × Placed)
picked [] xs = Some ([], xs)
picked (i ∷ is) xs = with_taken (taken i xs) (λ others. picked is others)

abbrev pub stands_in : ℕ → List ℕ → Bool
stands_in i [] = false
stands_in i (j ∷ js) = if nat_eq i j then true else stands_in i js

abbrev pub kept : Bool → ℕ → List ℕ → List ℕ
kept true g gs = g ∷ gs
kept false g gs = gs

module _ {P A R : Type 0} (v : ProverRules P A R) where
  -- without closed goals
  abbrev pub opened : P → List ℕ → List ℕ
  opened s [] = []
  opened s (g ∷ gs) = kept (v.is_open s g) g (opened s gs)

  abbrev pub any_open : P → List ℕ → Bool
  any_open s [] = false
  any_open s (g ∷ gs) = v.is_open s g || any_open s gs

  -- all are open, and none stands twice
  abbrev pub may_focus : P → List ℕ → Bool
  may_focus s [] = true
  may_focus s (g ∷ gs) = v.is_open s g && not (stands_in g gs) && may_focus s gs

  -- by the first goal and the others, where there is one
  abbrev pub unless_none : List ℕ → List ℕ × List ℕ → (ℕ → List ℕ → List ℕ × List ℕ) → List ℕ × List ℕ
  unless_none [] x f = x
  unless_none (g ∷ gs) x f = f g gs

  -- focus and pending after `.`
  abbrev pub dotted : P → List ℕ → List ℕ → List ℕ × List ℕ
  dotted s focus pending =
      unless_none (opened s focus)
      (unless_none (opened s pending) (focus, pending) (λ g others. (g ∷ [], others)))
      (λ g others. (g ∷ [], others ++ pending))

  abbrev pub Acting : Type 0
  Acting = Charged (Refusal R) (P × List ℕ)

  abbrev pub if_open : Bool → Acting → Acting → Acting
  if_open true m o = m
  if_open false m o = o

  -- the new goals after those that there are
  abbrev pub after : List ℕ → P × List ℕ → P × List ℕ
  after new x = (x.0, new ++ x.1)

  -- an action on each goal that is open at its turn; the new goals one after the other
  abbrev pub on_goals : A → List ℕ → P → Acting
  on_goals a [] s = give (s, [])
  on_goals a (g ∷ gs) s =
      if_open (v.is_open s g)
      (stopping ByProver (v.apply a g s) >>= (λ x. on_goals a gs x.0 >>= (λ y. give (after x.1 y))))
      (on_goals a gs s)

  -- an action on the focus
  abbrev pub acted : A → P → List ℕ → Acting
  acted a s focus = if_open (any_open s focus) (on_goals a focus s) (stop NoGoal)
