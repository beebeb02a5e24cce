use Rattle.std.proofs.Common.{◌≡◌, ◌∙◌, ◌++◌, ◌∷◌, [], None, map, ap, List, ℕ, Vec, Global}
use Rattle.mt_env.specs.declared.refs.Ref.{Ref}
use Rattle.mt_term.specs.Naming.{Naming, find}
use Rattle.mt_term.specs.Trees.{Tree, Bytes}
use Rattle.mt_env.specs.Names.{term_of}
use Rattle.mt_env.proofs.NameLaws.{entry_last}
use Rattle.mt_env.proofs.table.Table.insert.Goals as goal

pub returns-clause-ok : goal.returns-clause-ok
returns-clause-ok c =
    let items = λ (v : Vec ℕ Global). v.items in
    let seen : Vec ℕ Global × Ref → Bytes × Tree = λ e. (e.0.items, term_of e.1) in
    let same : c.in_ok-name.name.items ≡ c.args.name.now = c.in_ok-name.ensures.items_if_clones_equal (λ x y h. h) in
    let names : map seen c.self.inside.refs.entries ≡ c.args.self.now = c.self.view_is in
    let fresh : find (map seen c.self.inside.refs.entries) c.in_ok-name.name.items ≡ None =
    ap (λ (ns : Naming). find ns c.in_ok-name.name.items) names ∙ ap (find c.args.self.now) same ∙ c.requires in
    ap (map seen) c.in_ok-insert.ensures.entries ∙ entry_last items c.self.inside.refs.entries c.in_ok-name.name c.args.r fresh
    ∙ ap (λ (ns : Naming). ns ++ (c.in_ok-name.name.items, term_of c.args.r) ∷ []) names
    ∙ ap (λ (x : List ℕ). c.args.self.now ++ (x, term_of c.args.r) ∷ []) same
