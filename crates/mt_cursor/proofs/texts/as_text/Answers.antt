use Rattle.std.proofs.Common.{subst}
use Rattle.std.proofs.lemmas.Str.{is_utf8-from_IsUtf8}
use Rattle.mt_cursor.specs.Texts.{IsCopyOf}
use Rattle.mt_cursor.proofs.Texting.{copy_is_text, no_text}
use Rattle.mt_cursor.proofs.texts.as_text.Goals as goal

pub returns-in-Ok : goal.returns-in-Ok
returns-in-Ok c =
    copy_is_text c.args.bytes.now c.copied.result (is_utf8-from_IsUtf8 c.args.bytes.now c.in-Ok.ensures.cases.1)
    (subst (λ t. IsCopyOf t c.copied.result) c.in-Ok.ensures.cases.0 c.copied.ensures)

pub returns-in-Err : goal.returns-in-Err
returns-in-Err c = no_text c.args.bytes.now c.in-Err.ensures.cases.0
