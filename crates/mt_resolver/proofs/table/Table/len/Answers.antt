use Rattle.std.proofs.Common.{◌∙◌, length, sym, ap}
use Rattle.std.proofs.lemmas.List.{length-map}
use Rattle.mt_resolver.proofs.Tables.{seen_entry}
use Rattle.mt_resolver.proofs.table.Table.len.Goals as goal

pub returns : goal.returns
returns c = c.len.ensures.len ∙ sym (length-map c.self.inside.names.entries seen_entry) ∙ ap length c.self.view_is
