use Rattle.std.proofs.Common.{◌≡◌, ◌∙◌, ap, sym, length, take}
use Rattle.mt_env.specs.Environments.{HeldEnvironment, names_held}
use Rattle.mt_env.proofs.NamingLaws.{kept_take}
use Rattle.mt_env.proofs.environments.Env.back_to.Goals as goal

pub invariant_of-self : goal.invariant_of-self
invariant_of-self c =
    let k = c.args.mark.now.entries in
    let e : c.start_of-start.result ≡ length (names_held (take k c.self.inside.entries.items)) =
    c.start_of-start.ensures ∙ ap (λ (x : HeldEnvironment). length (names_held (take k x.entries))) (sym c.self.view_is) in
    rw (c.truncate-3.ensures.items, c.truncate-2.ensures.items, c.truncate.ensures)
    (kept_take c.self.inside.entries.items c.self.inside.starts.items c.self.inside.table k c.start_of-start.result c.self.invariant e)
