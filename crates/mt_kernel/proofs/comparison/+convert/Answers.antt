use Rattle.std.proofs.Common.{subst, sym, ap, ◌∙◌, ◌≡◌, ◌-◌, false}
use Rattle.mt_term.specs.Alike.{is_alike}
use Rattle.mt_rules.specs.Charges.{Done}
use Rattle.mt_rules.specs.WeakHead.{whd}
use Rattle.mt_term.specs.Stores.{no_store}
use Rattle.mt_term.specs.TreeOf.{tree_of}
use Rattle.mt_rules_laws.proofs.ComparisonRules.{convert-heads}
use Rattle.mt_rules.specs.Answers.{Answers}
use Rattle.mt_term.specs.EnvironmentOf.{environment_of}
use Rattle.mt_kernel.proofs.comparison.+convert.Goals as goal

pub convert-returns-clause-answer : goal.convert-returns-clause-answer
convert-returns-clause-answer g t c =
    let E = environment_of c.args.env.now in
    let left = tree_of c.args.t.now in
    let right = tree_of c.args.u.now in
    let charged = c.in_ok-charge.ensures.ok in
    let other : is_alike left right ≡ false = cc (c.if-alike.ensures, c.if-alike.false, c.alike.ensures) in
    let first : whd E no_store left (c.args.left.now - 1) ≡ Done (tree_of c.in_ok-head.head) c.whd.new.left =
    ap (λ x. whd E no_store x (c.args.left.now - 1)) (sym c.in_ok-copy.ensures) ∙ ap (λ n. whd E no_store (tree_of c.in_ok-copy.field-0) n) (sym charged.1) ∙ c.in_ok-head.ensures.answer in
    let second : whd E no_store right c.whd.new.left ≡ Done (tree_of c.in_ok-other.other) c.whd-2.new.left =
    ap (λ x. whd E no_store x c.whd.new.left) (sym c.in_ok-copy-2.ensures) ∙ c.in_ok-other.ensures.answer in
    subst (λ o. Answers (λ b. b) o c.same_heads.new.left c.same_heads.result) (sym (convert-heads E no_store c.args.mode left right _ _ _ _ _ charged.0 other first second)) c.same_heads.ensures.answer
