-- The tinycals of a closed tactical, in the order written.
use Rattle.std.specs.Prelude.{Bool, true, false, List, [], ◌∷◌, ◌++◌}
use Rattle.mt_tactical.specs.Tacticals.{Sequence, Step, Choices, End, Item, Action, Skip, Semicolon, Dot, Branches, Focus, NoBranch, Branch}
use Rattle.mt_tactical.specs.declared.Pick.{Pick}
use Rattle.mt_tactical.specs.declared.Pick.TheVariants as pick
use Rattle.mt_tiny.specs.declared.Tiny.{Tiny}
use Rattle.mt_tiny.specs.declared.Tiny.TheVariants as tiny

abbrev pub pick_tinies : {A : Type 0} → Pick → List (Tiny A)
pick_tinies pick.Next = []
pick_tinies (pick.Positions at is) = tiny.Positions is ∷ []
pick_tinies (pick.Rest at) = tiny.Wildcard ∷ []

abbrev pub sign_of : {A : Type 0} → Bool → Tiny A
sign_of true = tiny.Dot
sign_of false = tiny.Semicolon

-- what stands before a branch: `[` before the first, which is given with the branches, and `|` before each other
abbrev mutual
  pub tinycals : {A : Type 0} → Sequence A → List (Tiny A)
  tinycals End = []
  tinycals (Item i rest) = item_tinies i ++ tinycals rest

  pub item_tinies : {A : Type 0} → Step A → List (Tiny A)
  item_tinies (Action at a) = tiny.Action a ∷ []
  item_tinies (Skip at) = tiny.Skip ∷ []
  item_tinies (Semicolon at) = tiny.Semicolon ∷ []
  item_tinies (Dot at) = tiny.Dot ∷ []
  item_tinies (Branches bs close) = tiny.BranchOpen ∷ (branch_tinies [] bs ++ (tiny.BranchClose ∷ []))
  item_tinies (Focus at ns dot sign body unfocus) = tiny.Focus ns ∷ (sign_of dot ∷ (tinycals body ++ (tiny.Unfocus ∷ [])))

  pub branch_tinies : {A : Type 0} → List (Tiny A) → Choices A → List (Tiny A)
  branch_tinies bar NoBranch = []
  branch_tinies bar (Branch at pick body others) = bar ++ (pick_tinies pick ++ (tinycals body ++ branch_tinies (tiny.Bar ∷ []) others))
