-- The body of a metavariable under its terms, where it has one.
use Rattle.std.proofs.Common.{◌≡◌, Option, Some, None, ap}
use Rattle.mt_term.specs.Trees.{Tree, Trees}
use Rattle.mt_term.specs.Substitution.{under}
use Rattle.mt_rules.specs.WeakHead.{body_under}

pub no-body : (o : Option Tree) (s : Trees) → None ≡ o → None ≡ body_under o s
no-body o s e = ap (λ q. body_under q s) e

pub some-body : (o : Option Tree) (s : Trees) (b : Tree) → Some b ≡ o → Some (under s b) ≡ body_under o s
some-body o s b e = ap (λ q. body_under q s) e

pub ruleset body_rules = (no-body, some-body)
