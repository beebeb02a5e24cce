use Rattle.std.proofs.Common.{Bool, true, subst, sym, ap, ◌∙◌, ◌≡◌}
use Rattle.mt_layers.specs.Environments.{environment_in}
use Rattle.mt_rules.specs.Answers.{Answers}
use Rattle.mt_pool.specs.Region.{arms_at, branches_of, tree_at, tree_in}
use Rattle.mt_store.specs.Held.{store_in}
use Rattle.mt_rules.specs.Charges.{Done, Outcome}
use Rattle.mt_rules.specs.Comparison.{heads, same_shapes, spines}
use Rattle.mt_term.specs.Trees.{Tree}
use Rattle.mt_convert.proofs.Matched.{fits, then_matched}
use Rattle.mt_convert.proofs.comparison.+convert.Goals as goal

pub same_heads_at-returns-clause-outcome : goal.same_heads_at-returns-clause-outcome
same_heads_at-returns-clause-outcome g t c =
    let E = environment_in c.args.w.now.pool.now c.args.w.now.env.now in
    let S = store_in c.args.w.now.pool.now c.args.w.now.store.now in
    let p = c.args.w.now.pool.now in
    let first : tree_in p c.in_ok-head.head ≡ tree_at p c.args.t = sym c.in_ok-head.ensures.tree in
    let second : tree_in p c.in_ok-other.other ≡ tree_at p c.args.u = sym c.in_ok-other.ensures.tree in
    let same : heads E S c.args.mode (tree_in p c.in_ok-head.head) (tree_in p c.in_ok-other.other) c.args.w.now.left ≡ heads E S c.args.mode (tree_at p c.args.t) (tree_at p c.args.u) c.args.w.now.left =
    ap (λ (a : Tree). heads E S c.args.mode a (tree_in p c.in_ok-other.other) c.args.w.now.left) first ∙ ap (λ (b : Tree). heads E S c.args.mode (tree_at p c.args.t) b c.args.w.now.left) second in
    subst (λ (o : Outcome Bool). Answers (λ (b : Bool). b) o c.same_heads.new.w.left c.same_heads.result) same c.same_heads.ensures.outcome

pub same_spine_at-returns-clause-outcome : goal.same_spine_at-returns-clause-outcome
same_spine_at-returns-clause-outcome g t c =
    let E = environment_in c.args.w.now.pool.now c.args.w.now.env.now in
    let S = store_in c.args.w.now.pool.now c.args.w.now.store.now in
    let p = c.args.w.now.pool.now in
    let first : tree_in p c.in_ok-head.head ≡ tree_at p c.args.t = sym c.in_ok-head.ensures.tree in
    let second : tree_in p c.in_ok-other.other ≡ tree_at p c.args.u = sym c.in_ok-other.ensures.tree in
    let same : spines E S (tree_in p c.in_ok-head.head) (tree_in p c.in_ok-other.other) c.args.w.now.left ≡ spines E S (tree_at p c.args.t) (tree_at p c.args.u) c.args.w.now.left =
    ap (λ (a : Tree). spines E S a (tree_in p c.in_ok-other.other) c.args.w.now.left) first ∙ ap (λ (b : Tree). spines E S (tree_at p c.args.t) b c.args.w.now.left) second in
    subst (λ (o : Outcome Bool). Answers (λ (b : Bool). b) o c.same_spine.new.w.left c.same_spine.result) same c.same_spine.ensures.outcome

pub same_spine-returns-else-not-branch-3-clause-outcome : goal.same_spine-returns-else-not-branch-3-clause-outcome
same_spine-returns-else-not-branch-3-clause-outcome g t c =
    let p = c.args.w.now.pool.now in
    let after = c.convert-in-Match-Match.new.w in
    let here = c.in-Match-Match in
    let first = rw here.is-0 at c.requires.first in
    let second = rw here.is-1 at c.requires.second in
    let known = c.in_ok-convert-in-Match-Match.ensures in
    let one_type : here.e ≡ here.d = c.if-e-d-2.false in
    let fit : c.in_ok-same_shapes-in-Match-Match.field-0 ≡ true = c.if-not-branch-2.false in
    let shapes = fits here.e here.d (same_shapes (arms_at p (branches_of here.bs)) (arms_at p (branches_of here.cs))) one_type (sym (c.in_ok-same_shapes-in-Match-Match.ensures p) ∙ fit) in
    let yes : c.in_ok-convert-in-Match-Match.field-0 ≡ true = c.if-not-branch-3.false in
    let rule = then_matched p after.pool.now c.args.w.now.env.now after.env.now known.kept c.requires.env_held (ap (λ r. r.now) known.env) c.args.w.now.store.now after.store.now c.requires.store_held (ap (λ r. r.now) known.store) here.e here.d here.r here.c here.p here.t (branches_of here.bs) (branches_of here.cs) c.args.w.now.left after.left
    first.1 second.1 first.2 second.2 shapes (known.outcome ∙ ap (λ (b : Bool). Done b after.left) yes) in
    rw (here.is-0, here.is-1) (subst (λ (o : Outcome Bool). Answers (λ (b : Bool). b) o c.same_matched.new.w.left c.same_matched.result) (sym rule) c.same_matched.ensures.outcome)
