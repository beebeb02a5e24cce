-- Marks and arguments as the code holds them.
use Rattle.std.specs.Prelude.{ℕ, zero, suc, ◌<◌, Bool, if◌then◌else◌, List, [], ◌∷◌, Option, Some, None}
use Rattle.mt_term.specs.Trees.{Tree, Trees, Arms, Prod, End, Item}
use Rattle.mt_term.specs.Declarations.{Environment}
use Rattle.mt_calculus.specs.Guard.{Mark, Place, Smaller, Other}
use Rattle.mt_pool.specs.Region.{tree_at}
use Rattle.mt_positivity.specs.Deciding.{is_recursive}
use Rattle.mt_guard.specs.Deciding.{guards_arms, guards_branches, is_opened, mark_by}
use Rattle.mt_guard.specs.declared.marks.Mark.{Mark as HeldMark}
use Rattle.mt_guard.specs.declared.marks.Mark.TheVariants.{Place as HeldPlace, Smaller as HeldSmaller, Other as HeldOther}
use Rattle.mt_guard.specs.declared.marks.Marks.{Marks, Empty, More', Others'}
use Rattle.mt_guard.specs.declared.marks.Args.{Args, End as NoMore, More' as MoreArgs}

abbrev pub mark_of : HeldMark → Mark
mark_of HeldPlace = Place
mark_of HeldSmaller = Smaller
mark_of HeldOther = Other

abbrev pub marked : Option HeldMark → Option Mark
marked None = None
marked (Some m) = Some (mark_of m)

-- so many further variables of which nothing is known
abbrev pub other_marks : ℕ → List Mark → List Mark
other_marks zero ms = ms
other_marks (suc n) ms = other_marks n (Other ∷ ms)

-- marks, the innermost first
abbrev pub marks_of : Marks → List Mark
marks_of Empty = []
marks_of (More' m q rest) = mark_of m ∷ marks_of rest
marks_of (Others' n q rest) = other_marks n (marks_of rest)

-- the marks of so many variables of a branch before others, by the rest of its constructor's type
abbrev pub marks_many : ℕ → ℕ → ℕ → ℕ → ℕ → Tree → ℕ → List Mark → List Mark
marks_many e p indices l d C zero ms = ms
marks_many e p indices (suc l) d (Prod y A C) (suc n) ms = marks_many e p indices l d C (suc n) ms
marks_many e p indices zero d (Prod y A C) (suc n) ms = marks_many e p indices zero (suc d) C n (mark_by (is_recursive e p indices d A) ∷ ms)
marks_many e p indices l d _ (suc n) ms = other_marks (suc n) ms

-- arguments, the first of which is the innermost
abbrev pub args_in : List Tree → Args → Trees
args_in p NoMore = End
args_in p (MoreArgs a q rest) = Item (tree_at p a) (args_in p rest)

abbrev pub ArgsBelow : ℕ → Args → Type 0
ArgsBelow n NoMore = Unit {0}
ArgsBelow n (MoreArgs a q rest) = (a.at < n) × ArgsBelow n rest

-- whether the branches of a match on a term are guarded
abbrev pub guards_match : Environment → ℕ → ℕ → ℕ → List Mark → Tree → Arms → Bool
guards_match E f r e ms c bs = if is_opened ms c then guards_branches E f r e zero ms bs else guards_arms E f r ms bs
