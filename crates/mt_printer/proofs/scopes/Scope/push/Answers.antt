use Rattle.std.proofs.Common.{◌∙◌, ◌∷◌, ap, []}
use Rattle.mt_printer.specs.ScopeOf.{turned}
use Rattle.mt_printer.proofs.Turning.{turned_push}
use Rattle.mt_printer.proofs.scopes.Scope.push.Goals as goal

pub returns : goal.returns
returns c = ap (λ xs. turned xs []) c.in_ok-push.ensures.items ∙ turned_push c.self.inside.shown.items c.args.shown [] ∙ ap (λ s. c.args.shown ∷ s) c.self.view_is
