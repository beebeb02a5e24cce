use Rattle.std.proofs.Common.{◌∙◌, ap}
use Rattle.mt_printer.specs.ScopeOf.{outer}
use Rattle.mt_printer.proofs.Turning.{turned_pop}
use Rattle.mt_printer.proofs.scopes.Scope.pop.Goals as goal

pub returns : goal.returns
returns c = turned_pop _ _ _ _ _ c.pop.ensures.items c.self.inside.shown.ok.0 c.pop.new.self.ok.0 c.pop.ensures.cases ∙ ap outer c.self.view_is
