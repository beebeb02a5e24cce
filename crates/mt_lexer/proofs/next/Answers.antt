use Rattle.mt_lexer.proofs.Standing.{IsPlaced-before}
use Rattle.mt_lexer.proofs.next.Goals as goal

pub returns-clause-placed : goal.returns-clause-placed
returns-clause-placed c = IsPlaced-before _ _ _ c.token_at.result c.in_ok-start.ensures.after c.token_at.ensures.placed
