use Rattle.std.proofs.Common.{◌∙◌, ap, []}
use Rattle.mt_term.specs.Naming.{Naming, find, naming}
use Rattle.mt_env.specs.Environments.{HeldEnvironment, declarations_in}
use Rattle.mt_env.proofs.NamingLaws.{names_any}
use Rattle.mt_env.proofs.environments.Env.find.Goals as goal

pub returns : goal.returns
returns c = λ p.
    c.find.ensures ∙ ap (find c.self.inside.table) c.as_bytes.ensures
    ∙ ap (λ (ns : Naming). find ns c.args.name.now) (c.self.invariant.names_are ∙ names_any [] p c.self.inside.entries.items)
    ∙ ap (λ (e : HeldEnvironment). find (naming (declarations_in p e.entries)) c.args.name.now) c.self.view_is
