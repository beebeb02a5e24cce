use Rattle.std.proofs.Common.{[], length, ap, ◌∙◌, arith}
use Rattle.mt_printer.proofs.NamedLaws.{length_turned}
use Rattle.mt_printer.proofs.scopes.Scope.len.Goals as goal

pub returns-clause-is : goal.returns-clause-is
returns-clause-is c =
    let all = length_turned c.self.inside.shown.items [] in
    let same = ap length c.self.view_is in
    omega (arith, all, same, c.len.ensures)
