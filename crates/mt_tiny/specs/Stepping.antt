-- One step of a tinycal on a stack of levels.
use Rattle.std.specs.Prelude.{ℕ, zero, suc, Bool, true, false, List, [], ◌∷◌, ◌++◌, Option, None, Some}
use Rattle.mt_tiny.specs.Outcomes.{Outcome, Done, Stopped, Charged, give, stop, ◌>>=◌}
use Rattle.mt_tiny.specs.Provers.{ProverRules}
use Rattle.mt_tiny.specs.Goals.{Refusal, NoGoal, NoBranch, NoSuchPosition, NotHere, Placed, numbered, goals_of, positioned, picked, opened, any_open, may_focus, dotted, acted}
use Rattle.mt_tiny.specs.declared.Tiny.{Tiny}
use Rattle.mt_tiny.specs.declared.Tiny.TheVariants as tiny
use Rattle.mt_tiny.specs.declared.levels.Level.{Level}
use Rattle.mt_tiny.specs.declared.levels.Tag.{Tag}
use Rattle.mt_tiny.specs.declared.levels.Tag.TheVariants as tag

-- a stack is never empty: its top, and the levels below, nearest first
pub record Stacked : Type 0 where
  pub top : Level
  pub below : List Level

abbrev pub stack : Level → List Level → Stacked
stack T bs = record { top = T; below = bs }

-- a level with this focus alone
abbrev pub focused : Tag → List ℕ → Level
focused t focus = record { focus = focus; pending = []; done = []; left = []; fresh = 0; tag = t }

-- a stack of one level
abbrev pub bottom : List ℕ → Stacked
bottom focus = stack (focused tag.Bottom focus) []

-- the level with this focus and pending, and fresh 0
abbrev pub with_lists : Level → List ℕ × List ℕ → Level
with_lists T x = record T { focus = x.0; pending = x.1; fresh = 0 }

module _ {P A R : Type 0} (v : ProverRules P A R) where
  abbrev pub Answer : Type 0
  Answer = Charged (Refusal R) (P × Stacked)

  -- the level of a first branch on these goals
  abbrev pub first_branch : ℕ → List ℕ → Level
  first_branch g gs = record { focus = g ∷ []; pending = []; done = []; left = numbered 2 gs; fresh = 1; tag = tag.Branch }

  abbrev pub opening : P → Level → List Level → List ℕ → Answer
  opening s T bs [] = stop NoGoal
  opening s T bs (g ∷ gs) = give (s, stack (first_branch g gs) (record T { focus = []; fresh = 0 } ∷ bs))

  abbrev pub in_branch : Tag → Answer → Answer
  in_branch tag.Branch m = m
  in_branch tag.Bottom m = stop NotHere
  in_branch tag.Focus m = stop NotHere

  abbrev pub in_focus : Tag → Answer → Answer
  in_focus tag.Focus m = m
  in_focus tag.Bottom m = stop NotHere
  in_focus tag.Branch m = stop NotHere

  abbrev pub if_fresh : ℕ → Answer → Answer
  if_fresh zero m = stop NotHere
  if_fresh (suc k) m = m

  abbrev pub next_branch : P → Level → List Level → Placed → Answer
  next_branch s T bs [] = stop NoBranch
  next_branch s T bs (x ∷ more) =
      give (s, stack (record T { focus = x.1 ∷ []; pending = []; done = T.done ++ T.focus ++ T.pending; left = more; fresh = x.0 }) bs)

  abbrev pub at_positions : P → Level → List Level → Option (List ℕ × Placed) → Answer
  at_positions s T bs None = stop NoSuchPosition
  at_positions s T bs (Some r) = give (s, stack (record T { focus = r.0; left = r.1; fresh = 0 }) bs)

  -- the level below, changed, if there is one
  abbrev pub lower : P → List Level → (Level → Level) → Answer
  lower s [] f = stop NotHere
  lower s (B ∷ bs) f = give (s, stack (f B) bs)

  abbrev pub zooming : P → Level → List Level → List ℕ → Bool → Answer
  zooming s T bs ns false = stop NoGoal
  zooming s T bs ns true = give (s, stack (focused tag.Focus ns) (record T { fresh = 0 } ∷ bs))

  abbrev pub leaving : P → List Level → Bool → Answer
  leaving s bs false = lower s bs (λ B. B)
  leaving s bs true = stop NotHere

  -- one step, with the top and the levels below
  abbrev pub tiny_step : Tiny A → P → Level → List Level → Answer
  tiny_step (tiny.Action a) s T bs = acted v a s T.focus >>= (λ x. give (x.0, stack (record T { focus = x.1; fresh = 0 }) bs))
  tiny_step tiny.Semicolon s T bs = give (s, stack T bs)
  tiny_step tiny.Skip s T bs = give (s, stack T bs)
  tiny_step tiny.Dot s T bs = give (s, stack (with_lists T (dotted v s T.focus T.pending)) bs)
  tiny_step tiny.BranchOpen s T bs = opening s T bs (opened v s T.focus)
  tiny_step tiny.Bar s T bs = in_branch T.tag (next_branch s T bs T.left)
  tiny_step (tiny.Positions is) s T bs = if_fresh T.fresh (at_positions s T bs (picked is (positioned T.fresh T.focus T.left)))
  tiny_step tiny.Wildcard s T bs =
      if_fresh T.fresh (give (s, stack (record T { focus = goals_of (positioned T.fresh T.focus T.left); left = []; fresh = 0 }) bs))
  tiny_step tiny.BranchClose s T bs =
      in_branch T.tag (lower s bs (λ B. record B { focus = opened v s (T.done ++ T.focus ++ T.pending ++ goals_of T.left) }))
  tiny_step (tiny.Focus ns) s T bs = zooming s T bs ns (may_focus v s ns)
  tiny_step tiny.Unfocus s T bs = in_focus T.tag (leaving s bs (any_open v s (T.focus ++ T.pending)))

  -- one step of a stack
  abbrev pub step : Tiny A → P → Stacked → Answer
  step t s L = tiny_step t s L.top L.below

  abbrev pub onward : Outcome (Refusal R) (P × Stacked) → (P → Stacked → Option (P × Stacked)) → Option (P × Stacked)
  onward (Done x left) f = f x.0 x.1
  onward (Stopped r left) f = None

  -- steps in a row, each at the full allowance k; none where one stops
  abbrev pub stepped : ℕ → List (Tiny A) → P → Stacked → Option (P × Stacked)
  stepped k [] s L = Some (s, L)
  stepped k (t ∷ ts) s L = onward (tiny_step t s L.top L.below k) (λ s' L'. stepped k ts s' L')
