use Rattle.std.proofs.Common.{◌∙◌, ap}
use Rattle.mt_term.specs.Naming.{find, Naming}
use Rattle.mt_resolver.specs.TableOf.{seen_meaning}
use Rattle.mt_resolver.proofs.Tables.{lookup-find}
use Rattle.mt_resolver.proofs.table.Table.find.Goals as goal

pub returns : goal.returns
returns c =
    ap seen_meaning (c.copied.ensures ∙ c.get.ensures.value) ∙ lookup-find c.self.inside.names.entries c.args.name.now
    ∙ ap (λ (ns : Naming). find ns c.args.name.now) c.self.view_is
