use Rattle.std.proofs.Common.{◌≡◌, ◌∙◌, ◌++◌, ◌∷◌, [], false, map, ap}
use Rattle.std.specs.Prelude.{is_some}
use Rattle.mt_term.specs.Naming.{find, Naming}
use Rattle.mt_resolver.specs.TableOf.{tree_meant}
use Rattle.mt_resolver.proofs.Tables.{seen_entry, insert-last}
use Rattle.mt_resolver.proofs.table.Table.insert.Goals as goal

pub returns-clause-ok : goal.returns-clause-ok
returns-clause-ok c =
    let fresh : is_some (find (map seen_entry c.self.inside.names.entries) c.args.key.items) ≡ false =
    ap (λ (ns : Naming). is_some (find ns c.args.key.items)) c.self.view_is ∙ c.requires in
    ap (map seen_entry) c.in_ok-insert.ensures.entries
    ∙ insert-last c.self.inside.names.entries c.args.key c.args.meaning fresh
    ∙ ap (λ (ns : Naming). ns ++ (c.args.key.items, tree_meant c.args.meaning) ∷ []) c.self.view_is
