use Rattle.std.proofs.Common.{sym, ◌∙◌}
use Rattle.mt_lexer.proofs.Characters.{chars_from-step, IsCharBoundary-step, drop-step}
use Rattle.mt_lexer.proofs.gaps.char_at.Goals as goal

pub returns-in-Some-clause-inside : goal.returns-in-Some-clause-inside
returns-in-Some-clause-inside c _ =
    chars_from-step c.args.text.now _ c.args.at c.in-Some.c c.utf8.text c.requires
    (sym c.range_from.ensures.value ∙ sym c.chars.ensures.rest ∙ c.in-Some.ensures.steps.0)

pub returns-in-Some-clause-next : goal.returns-in-Some-clause-next
returns-in-Some-clause-next c _ =
    IsCharBoundary-step c.args.text.now _ c.args.at c.in-Some.c c.utf8.text c.requires
    (sym c.range_from.ensures.value ∙ sym c.chars.ensures.rest ∙ c.in-Some.ensures.steps.0)

pub returns-in-Some-clause-bytes : goal.returns-in-Some-clause-bytes
returns-in-Some-clause-bytes c _ =
    drop-step c.args.text.now _ c.args.at c.in-Some.c
    (sym c.range_from.ensures.value ∙ sym c.chars.ensures.rest ∙ c.in-Some.ensures.steps.0)
