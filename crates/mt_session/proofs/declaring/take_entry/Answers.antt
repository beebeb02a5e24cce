use Rattle.std.proofs.Common.{[], ◌∷◌, ◌++◌, sym, subst}
use Rattle.mt_term.specs.EntryOf.{declaration_of}
use Rattle.mt_term.specs.EnvironmentOf.{environment_of}
use Rattle.mt_term.specs.Naming.{naming}
use Rattle.mt_term.specs.ScriptState.{State}
use Rattle.mt_env.specs.Names.{Distinct}
use Rattle.mt_unit_parser.specs.UnitOf.{kind_of, unit_of}
use Rattle.mt_decl.proofs.Names.{names_law}
use Rattle.mt_session.specs.Sessions.{state_in}
use Rattle.mt_session.proofs.Entering.{cost_of_entry, cost_of_refusal}
use Rattle.mt_session.proofs.declaring.take_entry.Goals as goal

pub enter-requires-clause-names : goal.enter-requires-clause-names
enter-requires-clause-names g c =
    let a = c.in-Ok.ensures.answer in
    subst (λ (s : State). Distinct (naming (s.env.entries ++ declaration_of c.in-Ok.entry ∷ []))) (sym c.declare.ensures.state)
    (names_law (environment_of c.args.session.now.env) c.args.unit.now.span.start (kind_of c.args.unit.now.kind) (declaration_of c.in-Ok.entry) 100000 a.0 a.1 c.requires.sound.names)

pub returns-in_ok-enter-in-Ok-clause-cost : goal.returns-in_ok-enter-in-Ok-clause-cost
returns-in_ok-enter-in-Ok-clause-cost g c =
    let a = c.in-Ok.ensures.answer in
    cost_of_entry (state_in c.args.session.now) (unit_of c.args.unit.now) (declaration_of c.in-Ok.entry) c.args.steps.now c.declare.new.steps a.0 a.1 a.2

pub returns-in-Err-Refused-clause-cost : goal.returns-in-Err-Refused-clause-cost
returns-in-Err-Refused-clause-cost g c =
    let a = rw c.in-Err-Refused.field-0-is at c.in-Err-Refused.ensures.answer in
    cost_of_refusal (state_in c.args.session.now) (unit_of c.args.unit.now) c.in-Err-Refused.fault c.args.steps.now c.declare.new.steps a.0 a.1 a.2
