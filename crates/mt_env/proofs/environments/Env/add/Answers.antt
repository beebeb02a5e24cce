use Rattle.std.proofs.Common.{◌≡◌, ◌++◌, ℕ, List, length, sym, ap, ◌∙◌, subst}
use Rattle.std.proofs.lemmas.Result.{err_from_is_err_and}
use Rattle.mt_term.specs.Declarations.{Declaration}
use Rattle.mt_term.specs.EntryOf.{declaration_of}
use Rattle.mt_term.specs.Naming.{Naming, naming_entry}
use Rattle.mt_pool.specs.declared.held.Held.{Held}
use Rattle.mt_pool.specs.HeldOf.{declaration_in}
use Rattle.mt_env.specs.declared.stops.EnvStop.{EnvStop}
use Rattle.mt_env.specs.declared.stops.EnvStop.TheVariants.{Taken, OutOfMemory}
use Rattle.mt_env.specs.Environments.{HeldEnvironment, names_held}
use Rattle.mt_env.specs.Names.{Distinct}
use Rattle.mt_env.specs.Refusals.{AreRefusedBy, IsRefusedBy}
use Rattle.mt_env.proofs.NamingLaws.{kept_more, names_last}
use Rattle.mt_env.proofs.environments.Env.add.Goals as goal

refusal_of : (e : EnvStop) (es : List Held) (names : Naming) (n : ℕ) (d : Declaration) → names ≡ names_held es → n ≡ length es
    → AreRefusedBy e names (naming_entry n d) → IsRefusedBy e es d
refusal_of Taken es names n d q m h = λ r. h (subst Distinct (names_last es d ∙ (λ i. sym q i ++ naming_entry (sym m i) d)) r)
refusal_of OutOfMemory es names n d q m h = tt

pub returns-in_err-enter_all-clause-cause : goal.returns-in_err-enter_all-clause-cause
returns-in_err-enter_all-clause-cause c =
    let p = err_from_is_err_and c.from_residual-in_err-enter_all.result c.from_residual-in_err-enter_all.ensures.1 in
    let n : c.len-number.result ≡ length c.self.inside.entries.items = c.len-number.ensures ∙ c.self.inside.entries.ok.0 in
    let h = refusal_of c.in_err-enter_all.field-0.0 c.self.inside.entries.items c.self.inside.table c.len-number.result (declaration_of c.args.entry.now)
    c.self.invariant.names_are n c.in_err-enter_all.ensures.cause in
    let g = subst (λ (x : HeldEnvironment). IsRefusedBy c.in_err-enter_all.field-0.0 x.entries (declaration_of c.args.entry.now)) c.self.view_is h in
    rw (p.1, p.2) g

pub invariant_of-self-in-Ok : goal.invariant_of-self-in-Ok
invariant_of-self-in-Ok c =
    let n : c.len-number.result ≡ length c.self.inside.entries.items = c.len-number.ensures ∙ c.self.inside.entries.ok.0 in
    let e : c.enter_all.new.table ≡ c.self.inside.table ++ naming_entry (length c.self.inside.entries.items) (declaration_in c.hold.new.pool c.in_ok-held.held) =
    c.in_ok-enter_all.ensures.ok ∙ (λ i. c.self.inside.table ++ naming_entry (n i) (sym c.in_ok-held.ensures.says i)) in
    rw (c.in-Ok.ensures.entries, c.in-Ok.ensures.starts, c.len-start.ensures)
    (kept_more c.self.inside.entries.items c.self.inside.starts.items c.self.inside.table c.hold.new.pool c.in_ok-held.held c.enter_all.new.table
    c.self.invariant e c.in_ok-enter_all.ensures.distinct)

pub returns-in-Ok-clause-distinct : goal.returns-in-Ok-clause-distinct
returns-in-Ok-clause-distinct c =
    let n : c.len-number.result ≡ length c.self.inside.entries.items = c.len-number.ensures ∙ c.self.inside.entries.ok.0 in
    let e : c.enter_all.new.table ≡ c.self.inside.table ++ naming_entry (length c.self.inside.entries.items) (declaration_in c.hold.new.pool c.in_ok-held.held) =
    c.in_ok-enter_all.ensures.ok ∙ (λ i. c.self.inside.table ++ naming_entry (n i) (sym c.in_ok-held.ensures.says i)) in
    let k = kept_more c.self.inside.entries.items c.self.inside.starts.items c.self.inside.table c.hold.new.pool c.in_ok-held.held c.enter_all.new.table
    c.self.invariant e c.in_ok-enter_all.ensures.distinct in
    subst Distinct (k.names_are ∙ ap names_held (sym c.in-Ok.ensures.entries)) k.distinct
