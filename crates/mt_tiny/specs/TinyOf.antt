-- A step with its action read otherwise.
use Rattle.mt_tiny.specs.declared.Tiny.{Tiny}
use Rattle.mt_tiny.specs.declared.Tiny.TheVariants as tiny

abbrev pub tiny_of : {T A : Type 0} → (T → A) → Tiny T → Tiny A
tiny_of view (tiny.Action a) = tiny.Action (view a)
tiny_of view tiny.Semicolon = tiny.Semicolon
tiny_of view tiny.Dot = tiny.Dot
tiny_of view tiny.BranchOpen = tiny.BranchOpen
tiny_of view tiny.Bar = tiny.Bar
tiny_of view tiny.BranchClose = tiny.BranchClose
tiny_of view (tiny.Positions is) = tiny.Positions is
tiny_of view tiny.Wildcard = tiny.Wildcard
tiny_of view (tiny.Focus ns) = tiny.Focus ns
tiny_of view tiny.Unfocus = tiny.Unfocus
tiny_of view tiny.Skip = tiny.Skip
