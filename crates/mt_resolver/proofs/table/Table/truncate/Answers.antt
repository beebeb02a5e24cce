use Rattle.std.proofs.Common.{◌∙◌, map, take, sym, ap}
use Rattle.std.proofs.lemmas.List.{take-map}
use Rattle.mt_resolver.proofs.Tables.{seen_entry}
use Rattle.mt_resolver.proofs.table.Table.truncate.Goals as goal

pub returns : goal.returns
returns c =
    ap (map seen_entry) c.truncate.ensures.entries ∙ sym (take-map seen_entry c.args.count c.self.inside.names.entries)
    ∙ ap (take c.args.count) c.self.view_is
