use Rattle.mt_printer.proofs.Turning.{shown_here, shown_later}
use Rattle.mt_printer.proofs.scopes.is_shown.Goals as goal
use Rattle.std.proofs.Common.{sym, ◌∙◌}

pub returns-then-shows : goal.returns-then-shows
returns-then-shows c = shown_here _ _ _ _ c.loop-x-test.true c.x-item.is (sym c.if-shows.true ∙ c.shows.ensures) c.loop-x.invariant

pub loop-x-preserved : goal.loop-x-preserved
loop-x-preserved c = shown_later _ _ _ _ c.loop-x-test.true c.x-item.is (sym c.shows.ensures ∙ c.if-shows.false) c.loop-x.invariant
