use Rattle.std.proofs.Common.{◌∙◌, take, map, sym, ap}
use Rattle.std.proofs.lemmas.List.{take-map}
use Rattle.mt_term.specs.EntryOf.{declaration_of}
use Rattle.mt_term.proofs.entries.Entries.truncate.Goals as goal

pub returns : goal.returns
returns c =
    ap (map declaration_of) c.truncate.ensures.items ∙ sym (take-map declaration_of c.args.count c.self.inside.items.items)
    ∙ ap (take c.args.count) c.self.view_is
