use Rattle.std.proofs.Common.{◌≡◌, ◌++◌, OnOk, reverse, sym, subst}
use Rattle.std.proofs.lemmas.List.{reverse-reverse}
use Rattle.mt_term.specs.EnvironmentOf.{environment_of}
use Rattle.mt_term.specs.TreeOf.{tree_of}
use Rattle.mt_protocol.specs.Replies.{followed_by, mismatch_lines}
use Rattle.mt_protocol.proofs.replies.put_known.Goals as goal

pub returns : goal.returns
returns c =
    subst (λ hs. OnOk c.put_mismatch.result (c.put_mismatch.new.out.items ≡ c.args.out.now.items ++ mismatch_lines (followed_by (environment_of c.args.env.now) c.args.known.now) hs (tree_of c.args.inferred.now) (tree_of c.args.expected.now)))
    (sym (reverse-reverse c.args.context.now))
    (subst (λ E. OnOk c.put_mismatch.result (c.put_mismatch.new.out.items ≡ c.args.out.now.items ++ mismatch_lines E c.args.context.now (tree_of c.args.inferred.now) (tree_of c.args.expected.now)))
    c.in_ok-env.ensures c.put_mismatch.ensures)
