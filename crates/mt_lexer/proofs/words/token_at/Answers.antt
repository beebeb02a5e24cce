use Rattle.std.proofs.Common.{sym, ap, ◌∙◌}
use Rattle.mt_lexer.specs.Tokens.{is_start, token_at}
use Rattle.mt_lexer.proofs.Characters.{chars_from-end, start-continues}
use Rattle.mt_lexer.proofs.words.token_at.Goals as goal

pub returns-then-at-text-clause-token : goal.returns-then-at-text-clause-token
returns-then-at-text-clause-token c = sym (ap (token_at c.args.at) (chars_from-end c.args.text.now c.args.at c.if-at-text.true))

pub name_token-requires-clause-starts : goal.name_token-requires-clause-starts
name_token-requires-clause-starts c = start-continues _ (ap is_start (sym c.char_at-c.ensures.value) ∙ sym c.is_start.ensures ∙ c.if-is_start.true)
