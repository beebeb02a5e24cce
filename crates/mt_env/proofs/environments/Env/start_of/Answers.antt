use Rattle.std.proofs.Common.{◌≡◌, ◌<◌, ◌≤◌, ◌∙◌, ap, sym, List, ℕ, length, take, slice_index_or, zero-add, arith}
use Rattle.mt_term.specs.Naming.{Naming}
use Rattle.mt_pool.specs.declared.held.Held.{Held}
use Rattle.mt_env.specs.Environments.{HeldEnvironment, names_held}
use Rattle.mt_env.proofs.NamingLaws.{start_at, starts_count, take_all}
use Rattle.mt_env.proofs.environments.Env.start_of.Goals as goal

pub returns-then-entries-len : goal.returns-then-entries-len
returns-then-entries-len c =
    let es = c.self.inside.entries.items in
    let k = c.args.entries in
    let l : length c.self.inside.starts.items ≡ length es = ap (λ (s : List ℕ). length s) c.self.invariant.starts_are ∙ starts_count 0 es in
    let b : k < length es = omega (arith, c.if-entries-len.true, c.len.ensures, c.self.inside.starts.ok.0) in
    c.index.ensures ∙ ap (λ (s : List ℕ). slice_index_or s k c.index.result.now) c.self.invariant.starts_are
    ∙ start_at 0 0 es k c.index.result.now b ∙ zero-add (length (names_held (take k es)))
    ∙ ap (λ (x : HeldEnvironment). length (names_held (take k x.entries))) c.self.view_is

pub returns-else-entries-len : goal.returns-else-entries-len
returns-else-entries-len c =
    let es = c.self.inside.entries.items in
    let k = c.args.entries in
    let l : length c.self.inside.starts.items ≡ length es = ap (λ (s : List ℕ). length s) c.self.invariant.starts_are ∙ starts_count 0 es in
    let b : length es ≤ k = omega (arith, c.if-entries-len.false, c.len.ensures, c.self.inside.starts.ok.0) in
    c.len-else-entries-len.ensures ∙ ap (λ (ns : Naming). length ns) c.self.invariant.names_are
    ∙ ap (λ (l : List Held). length (names_held l)) (sym (take_all k es b))
    ∙ ap (λ (x : HeldEnvironment). length (names_held (take k x.entries))) c.self.view_is
