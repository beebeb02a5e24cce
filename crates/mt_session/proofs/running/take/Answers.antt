use Rattle.std.proofs.Common.{sym, ◌∙◌}
use Rattle.mt_unit_parser.specs.UnitOf.{kind_of, unit_of}
use Rattle.mt_session.specs.Sessions.{state_in}
use Rattle.mt_session.proofs.Taking.{declares_outside, moves_declared, moves_asked, cost_declared, cost_asked, most_declared, most_asked}
use Rattle.mt_session.proofs.running.take.Goals as goal

pub take_entry-requires-clause-outside : goal.take_entry-requires-clause-outside
take_entry-requires-clause-outside g c =
    declares_outside (state_in c.args.session.now).proof (kind_of c.args.unit.now.kind) (sym c.in_ok-is_entry.ensures ∙ c.if-is_entry.true)

pub returns-then-is_entry : goal.returns-then-is_entry
returns-then-is_entry g c =
    let e = sym c.in_ok-is_entry.ensures ∙ c.if-is_entry.true in
    let s = state_in c.args.session.now in
    let u = unit_of c.args.unit.now in record {
      moves = moves_declared s u c.args.session.now c.take_entry.new.session c.take_entry.result e c.take_entry.ensures.moves;
      cost = cost_declared s u c.args.steps.now c.take_entry.new.steps c.take_entry.result e c.take_entry.ensures.cost;
      wanting = most_declared s u c.args.steps.now c.take_entry.new.steps c.take_entry.result e c.take_entry.ensures.wanting;
    }

pub returns-else-is_entry : goal.returns-else-is_entry
returns-else-is_entry g c =
    let e = sym c.in_ok-is_entry.ensures ∙ c.if-is_entry.false in
    let s = state_in c.args.session.now in
    let u = unit_of c.args.unit.now in record {
      moves = moves_asked s u c.args.session.now c.take_asked.new.session c.take_asked.result e c.take_asked.ensures.moves;
      cost = cost_asked s u c.args.steps.now c.take_asked.new.steps c.take_asked.result e c.take_asked.ensures.cost;
      wanting = most_asked s u c.args.steps.now c.take_asked.new.steps c.take_asked.result e c.take_asked.ensures.wanting;
    }
