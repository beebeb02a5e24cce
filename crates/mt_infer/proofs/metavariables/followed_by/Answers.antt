use Rattle.std.proofs.Common.{List, ap, subst, sym, ◌∙◌}
use Rattle.mt_pool.specs.declared.nodes.TermId.{TermId}
use Rattle.mt_pool.specs.Region.{trees_at, AllBelow}
use Rattle.mt_infer.proofs.TermByTerm.{all-then, trees-then}
use Rattle.mt_infer.proofs.metavariables.followed_by.Goals as goal

pub returns-clause-trees : goal.returns-clause-trees
returns-clause-trees c = λ p. ap (trees_at p) c.in_ok-push.ensures.items ∙ trees-then p c.args.ids.items c.args.id

pub returns-clause-held : goal.returns-clause-held
returns-clause-held c = λ n b l. subst (λ (ks : List TermId). AllBelow n ks) (sym c.in_ok-push.ensures.items) (all-then n c.args.ids.items c.args.id b l)
