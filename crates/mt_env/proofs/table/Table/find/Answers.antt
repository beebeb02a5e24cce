use Rattle.std.proofs.Common.{◌∙◌, ap, ℕ, Vec, Global}
use Rattle.mt_term.specs.Naming.{Naming, find}
use Rattle.mt_env.specs.Names.{said}
use Rattle.mt_env.proofs.NameLaws.{found_name}
use Rattle.mt_env.proofs.table.Table.find.Goals as goal

pub returns : goal.returns
returns c =
    let items = λ (v : Vec ℕ Global). v.items in
    ap said (c.copied.ensures ∙ c.get.ensures.value) ∙ found_name items c.self.inside.refs.entries c.args.name.now
    ∙ ap (λ (ns : Naming). find ns c.args.name.now) c.self.view_is
