-- The meaning of a closed tactical: from a state, focus and pending to the same. It knows no levels.
use Rattle.std.specs.Prelude.{ℕ, Bool, true, false, List, [], ◌∷◌, ◌++◌, Option, None, Some}
use Rattle.mt_tactical.specs.Tacticals.{Sequence, Step, Choices, End, Item, Action, Skip, Semicolon, Dot, Branches, Focus, NoBranch, Branch}
use Rattle.mt_tactical.specs.declared.Pick.{Pick}
use Rattle.mt_tactical.specs.declared.Pick.TheVariants as pick
use Rattle.mt_tiny.specs.Outcomes.{Charged, give, stop, ◌>>=◌, stopping}
use Rattle.mt_tiny.specs.Provers.{ProverRules}
use Rattle.mt_tiny.specs.Goals.{Refusal, NoGoal, NoSuchPosition, NotHere, Placed, numbered, goals_of, picked, opened, any_open, may_focus, dotted, acted}
use Rattle.mt_tiny.specs.Goals.{NoBranch as NoBranchLeft}
use Rattle.mt_tiny.specs.Stepping.{Stacked, stack, with_lists}
use Rattle.mt_tiny.specs.declared.levels.Level.{Level}

-- why a tactical stops, and the place of what stops
abbrev pub Stop : Type 0 → Type 0
Stop R = Refusal R × ℕ

-- the place of `[`
abbrev pub first_place : {A : Type 0} → Choices A → ℕ → ℕ
first_place NoBranch close = close
first_place (Branch at choice body others) close = at

module _ {P A R : Type 0} (v : ProverRules P A R) where
  -- a state, focus and pending
  abbrev pub Lists : Type 0
  Lists = Charged (Stop R) (P × List ℕ × List ℕ)

  -- a state and the goals of all branches
  abbrev pub Gathered : Type 0
  Gathered = Charged (Stop R) (P × List ℕ)

  abbrev pub at_place : {B : Type 0} → ℕ → Charged (Refusal R) B → Charged (Stop R) B
  at_place at m = stopping (λ r. (r, at)) m

  -- branches on these open goals, numbered from 1
  abbrev pub branched : ℕ → (Placed → Gathered) → List ℕ → List ℕ → Lists
  branched at go [] p = stop (NoGoal, at)
  branched at go (g ∷ gs) p = go (numbered 1 (g ∷ gs)) >>= (λ x. give (x.0, opened v x.0 x.1, p))

  -- focus and pending after the sign that follows the numbers of `focus`
  abbrev pub signed : Bool → P → List ℕ → List ℕ × List ℕ
  signed true s ns = dotted v s ns []
  signed false s ns = (ns, [])

  abbrev pub unfocused : ℕ → P → Bool → List ℕ → List ℕ → Lists
  unfocused at s false f p = give (s, f, p)
  unfocused at s true f p = stop (NotHere, at)

  abbrev pub focused : ℕ → ℕ → Bool → Lists → List ℕ → List ℕ → Lists
  focused at unfocus false go f p = stop (NoGoal, at)
  focused at unfocus true go f p = go >>= (λ x. unfocused unfocus x.0 (any_open v x.0 (x.1 ++ x.2)) f p)

  -- the goals that a branch takes, and those that it leaves
  abbrev pub Chosen : Type 0
  Chosen = Charged (Stop R) (List ℕ × Placed)

  abbrev pub at_positions : ℕ → Option (List ℕ × Placed) → Chosen
  at_positions at None = stop (NoSuchPosition, at)
  at_positions at (Some r) = give r

  abbrev pub by_pick : Pick → ℕ × ℕ → Placed → Chosen
  by_pick pick.Next x more = give (x.1 ∷ [], more)
  by_pick (pick.Positions at is) x more = at_positions at (picked is (x ∷ more))
  by_pick (pick.Rest at) x more = give (goals_of (x ∷ more), [])

  -- of the goals that are left, by the pick of a branch at this place
  abbrev pub chosen : ℕ → Pick → Placed → Chosen
  chosen at choice [] = stop (NoBranchLeft, at)
  chosen at choice (x ∷ more) = by_pick choice x more

  abbrev mutual
    pub meaning : Sequence A → P → List ℕ → List ℕ → Lists
    meaning End s f p = give (s, f, p)
    meaning (Item i rest) s f p = item i s f p >>= (λ x. meaning rest x.0 x.1 x.2)

    pub item : Step A → P → List ℕ → List ℕ → Lists
    item (Action at a) s f p = at_place at (acted v a s f) >>= (λ x. give (x.0, x.1, p))
    item (Skip at) s f p = give (s, f, p)
    item (Semicolon at) s f p = give (s, f, p)
    item (Dot at) s f p = give (s, (dotted v s f p).0, (dotted v s f p).1)
    item (Branches bs close) s f p = branched (first_place bs close) (λ left. branches bs s [] left) (opened v s f) p
    item (Focus at ns dot sign body unfocus) s f p =
        focused at unfocus (may_focus v s ns) (meaning body s (signed dot s ns).0 (signed dot s ns).1) f p

    -- the goals of the branches so far, and those that are left
    pub branches : Choices A → P → List ℕ → Placed → Gathered
    branches NoBranch s done left = give (s, done ++ goals_of left)
    branches (Branch at choice body others) s done left =
        chosen at choice left >>= (λ y. meaning body s y.0 [] >>= (λ x. branches others x.0 (done ++ x.1 ++ x.2) y.1))

  -- a block in braces, as one step of a stack
  abbrev pub block_step : Sequence A → P → Level → List Level → Charged (Stop R) (P × Stacked)
  block_step c s T bs = meaning c s T.focus T.pending >>= (λ x. give (x.0, stack (with_lists T (x.1, x.2)) bs))
