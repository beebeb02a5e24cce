use Rattle.std.proofs.Common.{◌≡◌, ◌+◌, ◌-◌, nat_le, true, length, sym, ◌∙◌, subst}
use Rattle.std.proofs.lemmas.Str.{IsUtf8-from_is_utf8}
use Rattle.mt_cursor.specs.Sessions.{most}
use Rattle.mt_cursor.specs.Texts.{Splices}
use Rattle.mt_cursor.proofs.Texting.{splice_replaces}
use Rattle.mt_cursor.proofs.texts.with_range.Goals as goal

pub returns-then-has_room : goal.returns-then-has_room
returns-then-has_room c =
    splice_replaces c.args.start c.args.del c.args.new.now c.args.text.now c.spliced.result c.requires.first c.requires.last c.in-Ok.ensures.cases.1
    (subst (λ n. nat_le (length c.args.text.now - c.args.del + length n) most ≡ true) c.in-Ok.ensures.cases.0 (sym c.has_room.ensures ∙ c.if-has_room.true))
    (subst (λ e. Splices c.args.start e c.args.new.now c.args.text.now c.spliced.result) c.requires.end
    (subst (λ n. Splices c.args.start c.args.end n c.args.text.now c.spliced.result) c.in-Ok.ensures.cases.0 c.spliced.ensures))

pub returns-in-Err : goal.returns-in-Err
returns-in-Err c = λ r. c.in-Err.ensures.cases.0 (IsUtf8-from_is_utf8 c.args.new.now r.new_text)
