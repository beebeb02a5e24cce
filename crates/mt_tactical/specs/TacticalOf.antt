-- What the program's closed tacticals say.
use Rattle.mt_tactical.specs.Tacticals.{Sequence, Step, Choices, End, Item, Action, Skip, Semicolon, Dot, Branches, Focus, NoBranch, Branch}
use Rattle.mt_tactical.specs.declared.Tactical.{Tactical, End as TacticalEnd, Item' as TacticalItem'}
use Rattle.mt_tactical.specs.declared.TacItem.{TacItem, Action as TacAction, Skip as TacSkip, Semicolon as TacSemicolon, Dot as TacDot, Branches as TacBranching, Focus as TacFocusing}
use Rattle.mt_tactical.specs.declared.TacBranches.{TacBranches, End as NoTacBranch, Item' as TacBranch'}

abbrev mutual
  pub sequence_of : {T A : Type 0} → (T → A) → Tactical T → Sequence A
  sequence_of view TacticalEnd = End
  sequence_of view (TacticalItem' p s q rest) = Item (step_of view s) (sequence_of view rest)

  pub step_of : {T A : Type 0} → (T → A) → TacItem T → Step A
  step_of view (TacAction at a) = Action at (view a)
  step_of view (TacSkip at) = Skip at
  step_of view (TacSemicolon at) = Semicolon at
  step_of view (TacDot at) = Dot at
  step_of view (TacBranching bs close) = Branches (choices_of view bs) close
  step_of view (TacFocusing at numbers dot sign body unfocus) = Focus at numbers dot sign (sequence_of view body) unfocus

  pub choices_of : {T A : Type 0} → (T → A) → TacBranches T → Choices A
  choices_of view NoTacBranch = NoBranch
  choices_of view (TacBranch' p at pick body q rest) = Branch at pick (sequence_of view body) (choices_of view rest)
