-- Examples over a small prover: a state is its open goals; an action has a cost, the goals that it closes besides its own, and new goals.
use Rattle.std.proofs.Common.{◌≡◌, ℕ, zero, suc, false, List, [], ◌∷◌, ◌++◌, Some, None, refl, if◌then◌else◌}
use Rattle.mt_tiny.specs.Outcomes.{Done, Stopped, Charged}
use Rattle.mt_tiny.specs.Provers.{ProverRules}
use Rattle.mt_tiny.specs.Goals.{NoGoal, NotHere, ByProver, stands_in, picked, acted}
use Rattle.mt_tiny.specs.Stepping.{Stacked, stack, tiny_step, stepped}
use Rattle.mt_tiny.specs.declared.levels.Level.{Level}
use Rattle.mt_tiny.specs.declared.levels.Tag.TheVariants as tag
use Rattle.mt_tiny.specs.declared.Tiny.TheVariants as tiny
use Rattle.mt_tactical.specs.Tacticals.{Sequence, End, Item, Action, Skip, Semicolon, Dot, Branches, Focus, NoBranch, Branch}
use Rattle.mt_tactical.specs.declared.Pick.TheVariants as pick
use Rattle.mt_tactical.specs.Meaning.{meaning}
use Rattle.mt_tactical.specs.Tinycals.{tinycals}

record Act : Type 0 where
  cost : ℕ
  closes : List ℕ
  new : List ℕ

abbrev without : List ℕ → List ℕ → List ℕ
without [] cs = []
without (g ∷ gs) cs = if stands_in g cs then without gs cs else (g ∷ without gs cs)

-- what an action that spends the allowance stops with
abbrev spent : ℕ
spent = 23

abbrev paid : {A : Type 0} → ℕ → A → Charged ℕ A
paid zero a n = Done a n
paid (suc c) a zero = Stopped spent zero
paid (suc c) a (suc n) = paid c a n

abbrev small : ProverRules (List ℕ) Act ℕ
small = record { is_open = λ s g. stands_in g s; apply = λ a g s. paid a.cost (without s (g ∷ a.closes) ++ a.new, a.new) }

abbrev act : ℕ → List ℕ → List ℕ → Act
act c cs ns = record { cost = c; closes = cs; new = ns }

abbrev bottom : List ℕ → List ℕ → Stacked
bottom f p = stack (record { focus = f; pending = p; done = []; left = []; fresh = 0; tag = tag.Bottom }) []

abbrev from : List ℕ → List ℕ → Level
from f p = record { focus = f; pending = p; done = []; left = []; fresh = 0; tag = tag.Bottom }

-- three goals from one
abbrev mk3 : Act
mk3 = act 13 [] (1 ∷ 2 ∷ 3 ∷ [])

abbrev exact_O : Act
exact_O = act 3 [] []

abbrev exact_refl : Act
exact_refl = act 14 [] []

-- closes the first goal as well
abbrev refl_too : Act
refl_too = act 25 (1 ∷ []) []

-- `[ 1,2:`
two_positions : stepped small 20 (tiny.Action mk3 ∷ tiny.Semicolon ∷ tiny.BranchOpen ∷ tiny.Positions (1 ∷ 2 ∷ []) ∷ []) (0 ∷ []) (bottom (0 ∷ []) [])
    ≡ Some (1 ∷ 2 ∷ 3 ∷ [], stack (record { focus = 1 ∷ 2 ∷ []; pending = []; done = []; left = (3, 3) ∷ []; fresh = 0; tag = tag.Branch }) (from [] [] ∷ []))
two_positions = refl

-- `@mk3; [ 1,2: exact O | exact (refl nat O) ]`
abbrev block_a : Sequence Act
block_a =
    Item (Action 0 mk3) (Item (Semicolon 4) (Item (Branches
    (Branch 6 (pick.Positions 8 (1 ∷ 2 ∷ [])) (Item (Action 13 exact_O) End) (Branch 21 pick.Next (Item (Action 23 exact_refl) End) NoBranch)) 42) End))

steps_a : stepped small 14 (tinycals block_a) (0 ∷ []) (bottom (0 ∷ []) []) ≡ Some ([], bottom [] [])
steps_a = refl

meaning_a : meaning small block_a (0 ∷ []) (0 ∷ []) [] 33 ≡ Done ([], [], []) 0
meaning_a = refl

spent_a : meaning small block_a (0 ∷ []) (0 ∷ []) [] 32 ≡ Stopped (ByProver spent, 23) 0
spent_a = refl

-- `[ 3: @refl | exact O`: the second focuses a goal that is closed, and is NoGoal
positions_left : stepped small 30 (tiny.BranchOpen ∷ tiny.Positions (3 ∷ []) ∷ tiny.Action refl_too ∷ tiny.Bar ∷ []) (1 ∷ 2 ∷ 3 ∷ []) (bottom (1 ∷ 2 ∷ 3 ∷ []) [])
    ≡ Some (2 ∷ [], stack (record { focus = 1 ∷ []; pending = []; done = []; left = (2, 2) ∷ []; fresh = 1; tag = tag.Branch }) (from [] [] ∷ []))
positions_left = refl

no_goal : meaning small (Item (Branches (Branch 0 (pick.Positions 2 (3 ∷ [])) (Item (Action 5 refl_too) End) (Branch 12 pick.Next (Item (Action 14 exact_O) End) NoBranch)) 22) End)
    (1 ∷ 2 ∷ 3 ∷ []) (1 ∷ 2 ∷ 3 ∷ []) [] 30 ≡ Stopped (NoGoal, 14) 5
no_goal = refl

-- `[ 3: @refl | skip | exact O ] ; skip` costs 28
costs_28 : meaning small (Item (Branches (Branch 0 (pick.Positions 2 (3 ∷ [])) (Item (Action 5 refl_too) End) (Branch 12 pick.Next (Item (Skip 14) End)
    (Branch 19 pick.Next (Item (Action 21 exact_O) End) NoBranch))) 29) (Item (Semicolon 31) (Item (Skip 33) End)))
    (1 ∷ 2 ∷ 3 ∷ []) (1 ∷ 2 ∷ 3 ∷ []) [] 28 ≡ Done ([], [], []) 0
costs_28 = refl

-- `[ | exact O ]. focus 3; @refl; unfocus`: back to lists that hold closed goals
abbrev block_c : Sequence Act
block_c =
    Item (Branches (Branch 0 pick.Next End (Branch 2 pick.Next (Item (Action 4 exact_O) End) NoBranch)) 12) (Item (Dot 13)
    (Item (Focus 15 (3 ∷ []) false 22 (Item (Action 24 refl_too) End) 31) End))

meaning_c : meaning small block_c (1 ∷ 2 ∷ 3 ∷ []) (1 ∷ 2 ∷ 3 ∷ []) [] 28 ≡ Done ([], 1 ∷ [], 3 ∷ []) 0
meaning_c = refl

steps_c : stepped small 25 (tinycals block_c) (1 ∷ 2 ∷ 3 ∷ []) (bottom (1 ∷ 2 ∷ 3 ∷ []) []) ≡ Some ([], bottom (1 ∷ []) (3 ∷ []))
steps_c = refl

-- the converse fails: the block spends its one allowance where no step does
abbrev three : Sequence Act
three = Item (Action 0 (act 1 [] (1 ∷ []))) (Item (Semicolon 3) (Item (Action 5 (act 1 [] (2 ∷ []))) (Item (Semicolon 8) (Item (Action 10 (act 1 [] (3 ∷ []))) End))))

three_spent : meaning small three (0 ∷ []) (0 ∷ []) [] 2 ≡ Stopped (ByProver spent, 10) 0
three_spent = refl

three_stepped : stepped small 2 (tinycals three) (0 ∷ []) (bottom (0 ∷ []) []) ≡ Some (3 ∷ [], bottom (3 ∷ []) [])
three_stepped = refl

-- fresh may differ: of `skip` alone it stays, where a block sets it to 0
fresh_stays : tiny_step small tiny.Skip (1 ∷ []) (record { focus = 1 ∷ []; pending = []; done = []; left = []; fresh = 1; tag = tag.Branch }) [] 5
    ≡ Done (1 ∷ [], stack (record { focus = 1 ∷ []; pending = []; done = []; left = []; fresh = 1; tag = tag.Branch }) []) 5
fresh_stays = refl

-- `.` looks past closed goals, in focus first, then in pending; where none is open nothing changes
dot_in_focus : tiny_step small tiny.Dot (2 ∷ 3 ∷ 5 ∷ []) (from (1 ∷ 2 ∷ 3 ∷ []) (4 ∷ 5 ∷ [])) [] 0 ≡ Done (2 ∷ 3 ∷ 5 ∷ [], bottom (2 ∷ []) (3 ∷ 4 ∷ 5 ∷ [])) 0
dot_in_focus = refl

dot_in_pending : tiny_step small tiny.Dot (5 ∷ 6 ∷ []) (from (1 ∷ []) (4 ∷ 5 ∷ 6 ∷ [])) [] 0 ≡ Done (5 ∷ 6 ∷ [], bottom (5 ∷ []) (6 ∷ [])) 0
dot_in_pending = refl

dot_nowhere : tiny_step small tiny.Dot [] (from (1 ∷ []) (4 ∷ [])) [] 0 ≡ Done ([], bottom (1 ∷ []) (4 ∷ [])) 0
dot_nowhere = refl

-- positions are taken in the order named; one that is not there, or is named twice, is none
abbrev placed : List (ℕ × ℕ)
placed = (1, 7) ∷ (2, 8) ∷ (3, 9) ∷ []

in_order : picked (3 ∷ 1 ∷ []) placed ≡ Some (9 ∷ 7 ∷ [], (2, 8) ∷ [])
in_order = refl

not_there : picked (1 ∷ 4 ∷ []) placed ≡ None
not_there = refl

named_twice : picked (2 ∷ 2 ∷ []) placed ≡ None
named_twice = refl

-- a goal that another goal's turn has closed is passed over; a focus without an open goal is refused, at no cost
turns : acted small refl_too (1 ∷ 2 ∷ 3 ∷ []) (2 ∷ 1 ∷ 3 ∷ []) 60 ≡ Done ([], []) 10
turns = refl

no_open_goal : acted small exact_O (1 ∷ []) (2 ∷ 3 ∷ []) 60 ≡ Stopped NoGoal 60
no_open_goal = refl

-- the new goals stand one after the other, in the order of their goals
new_goals : tiny_step small (tiny.Action (act 0 [] (7 ∷ 8 ∷ []))) (1 ∷ 2 ∷ []) (from (2 ∷ 1 ∷ []) (5 ∷ [])) [] 3
    ≡ Done (7 ∷ 8 ∷ 7 ∷ 8 ∷ [], bottom (7 ∷ 8 ∷ 7 ∷ 8 ∷ []) (5 ∷ [])) 3
new_goals = refl

-- `]` gathers done, focus, pending and what is left, and keeps the pending goals of the level below
gathered : tiny_step small tiny.BranchClose (1 ∷ 2 ∷ 3 ∷ 4 ∷ 5 ∷ [])
    (record { focus = 2 ∷ 6 ∷ []; pending = 3 ∷ []; done = 1 ∷ []; left = (4, 4) ∷ []; fresh = 0; tag = tag.Branch }) (from [] (5 ∷ []) ∷ []) 0
    ≡ Done (1 ∷ 2 ∷ 3 ∷ 4 ∷ 5 ∷ [], bottom (1 ∷ 2 ∷ 3 ∷ 4 ∷ []) (5 ∷ [])) 0
gathered = refl

-- `unfocus` looks at the pending goals too
pending_too : tiny_step small tiny.Unfocus (3 ∷ []) (record { focus = 2 ∷ []; pending = 3 ∷ []; done = []; left = []; fresh = 0; tag = tag.Focus }) (from [] [] ∷ []) 0
    ≡ Stopped NotHere 0
pending_too = refl

-- only straight after `[` or `|` are there positions
not_fresh : tiny_step small (tiny.Positions (1 ∷ [])) (1 ∷ []) (from (1 ∷ []) []) [] 0 ≡ Stopped NotHere 0
not_fresh = refl
