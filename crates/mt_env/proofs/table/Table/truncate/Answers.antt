use Rattle.std.proofs.Common.{◌∙◌, map, take, ap, sym, ℕ, Vec, Global}
use Rattle.std.proofs.lemmas.List.{take-map}
use Rattle.mt_env.specs.declared.refs.Ref.{Ref}
use Rattle.mt_term.specs.Trees.{Tree, Bytes}
use Rattle.mt_env.specs.Names.{term_of}
use Rattle.mt_env.proofs.table.Table.truncate.Goals as goal

pub returns : goal.returns
returns c =
    let seen : Vec ℕ Global × Ref → Bytes × Tree = λ e. (e.0.items, term_of e.1) in
    ap (map seen) c.truncate.ensures.entries ∙ sym (take-map seen c.args.len c.self.inside.refs.entries)
    ∙ ap (take c.args.len) c.self.view_is
