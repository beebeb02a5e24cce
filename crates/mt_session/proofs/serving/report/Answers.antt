use Rattle.std.proofs.Common.{◌∙◌, subst, arith}
use Rattle.std.specs.Io.KnownBytes.{Appends}
use Rattle.std.proofs.lemmas.Str.{is_utf8-from_IsUtf8}
use Rattle.mt_text.specs.Causes.{AppendsPrefix}
use Rattle.mt_session.proofs.Endings.{text_is_script, good_status, good_output, script_charged, script_at_most}
use Rattle.mt_session.proofs.serving.report.Goals as goal

pub returns-in-Ok-clause-whole : goal.returns-in-Ok-clause-whole
returns-in-Ok-clause-whole g c = λ w.
    let yes = text_is_script _ c.utf8.text c.requires in
    let h = c.write_report.ensures.whole w in
    (h.0 ∙ good_status _ _ c.requires (is_utf8-from_IsUtf8 _ c.utf8.text) c.in-Ok.ensures.clean, subst (Appends _ _) (good_output _ _ yes c.in-Ok.ensures.text) h.1)

pub returns-in-Ok-clause-cut : goal.returns-in-Ok-clause-cut
returns-in-Ok-clause-cut g c = λ w.
    let yes = text_is_script _ c.utf8.text c.requires in
    let h = c.write_report.ensures.cut w in
    subst (AppendsPrefix _ _) (good_output _ _ yes c.in-Ok.ensures.text) h.1

pub returns-in-Ok-clause-charges : goal.returns-in-Ok-clause-charges
returns-in-Ok-clause-charges g c = λ _.
    let yes = text_is_script _ c.utf8.text c.requires in script_charged _ c.args.steps.now _ yes c.in-Ok.ensures.cost

pub returns-in-Ok-clause-at_most : goal.returns-in-Ok-clause-at_most
returns-in-Ok-clause-at_most g c =
    let yes = text_is_script _ c.utf8.text c.requires in
    script_at_most _ c.args.steps.now _ yes (omega (arith, c.in-Ok.ensures.cost))

pub returns-in-Err-clause-at_most : goal.returns-in-Err-clause-at_most
returns-in-Err-clause-at_most g c =
    let yes = text_is_script _ c.utf8.text c.requires in script_at_most _ c.args.steps.now _ yes c.in-Err.ensures.wanting
