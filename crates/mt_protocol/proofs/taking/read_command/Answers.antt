use Rattle.std.proofs.Common.{◌≡◌, ◌≤◌, length, Err, sym, ◌∙◌, ap, subst}
use Rattle.mt_protocol.specs.declared.frames.Shown.TheVariants.{Whole, More}
use Rattle.mt_protocol.specs.Frames.{limited, IsWithin}
use Rattle.mt_protocol.specs.Taking.{Fills, Takes, used}
use Rattle.mt_protocol.proofs.Gathering.{gather_start, takes_end, takes_whole}
use Rattle.mt_protocol.proofs.taking.read_command.Goals as goal

pub pieces-init : goal.pieces-init
pieces-init g c = gather_start _ _ _

pub pass-requires : goal.pass-requires
pass-requires g c =
    subst (λ l. c.in-Whole.size ≤ length l) c.bytes.ensures (subst (IsWithin (length c.bytes.result.now)) c.in-Whole.is c.in_ok-command.ensures.within)

pub returns-in-Whole : goal.returns-in-Whole
returns-in-Whole g c =
    let shown : limited (used c.pieces.ahead) c.pieces.ahead.bytes ≡ c.in_ok-command.field-0 =
    ap (λ n. limited n c.pieces.ahead.bytes) (sym c.used.ensures.is) ∙ ap (limited c.used.result) (sym c.bytes.ensures) ∙ sym c.in_ok-command.ensures.is in
    takes_whole c.args.ahead.now c.pieces.ahead c.pass.new.self _ _ _ _ c.in-Whole.size c.in-Whole.command c.pieces.invariant c.used.ensures.within (shown ∙ c.in-Whole.is)
    (subst (λ l. c.in-Whole.size ≤ length l) c.bytes.ensures (subst (IsWithin (length c.bytes.result.now)) c.in-Whole.is c.in_ok-command.ensures.within)) c.pass.ensures

pub returns-then-branch-eq0 : goal.returns-then-branch-eq0
returns-then-branch-eq0 g c =
    let shown : limited (used c.pieces.ahead) c.pieces.ahead.bytes ≡ c.in_ok-command.field-0 =
    ap (λ n. limited n c.pieces.ahead.bytes) (sym c.used.ensures.is) ∙ ap (limited c.used.result) (sym c.bytes.ensures) ∙ sym c.in_ok-command.ensures.is in
    subst (λ s. Takes c.args.ahead.now c.fill.new.self (g.I.Source.left c.args.input.now) (g.I.Source.left c.fill.new.input) (g.I.Source.faults c.args.input.now) (g.I.Source.faults c.fill.new.input) (Err s)) (sym c.at_end.ensures)
    (takes_end c.args.ahead.now c.pieces.ahead c.fill.new.self (g.I.Source.left c.args.input.now) (g.I.Source.left c.pieces.input) (g.I.Source.left c.fill.new.input)
    (g.I.Source.faults c.args.input.now) (g.I.Source.faults c.pieces.input) (g.I.Source.faults c.fill.new.input) c.pieces.invariant c.used.ensures.within (shown ∙ c.in-More.is)
    (subst (Fills c.pieces.ahead c.fill.new.self (g.I.Source.left c.pieces.input) (g.I.Source.left c.fill.new.input)) c.if-branch-eq0.true c.in_ok-fill.ensures.0) c.in_ok-fill.ensures.1)
