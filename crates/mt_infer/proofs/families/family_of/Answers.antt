use Rattle.mt_pool.proofs.Region.{all-below}
use Rattle.mt_infer.specs.Families.{FamilyBelow}
use Rattle.mt_infer.proofs.Held.{types-below}
use Rattle.mt_infer.proofs.families.family_of.Goals as goal

pub at_args-requires-clause-others : goal.at_args-requires-clause-others
at_args-requires-clause-others c = rw c.in-Some.is at (c.in_ok-first-in-Some-Inductive.ensures.held _ c.requires.others)

pub returns-in-Some-2-clause-held : goal.returns-in-Some-2-clause-held
unfolding FamilyBelow
returns-in-Some-2-clause-held c =
    let kept = c.at_args.ensures.kept in
    let params = rw c.in-Some.is at (c.in_ok-first-in-Some-Inductive.ensures.held _ c.requires.others) in
    let indices = c.in_ok-indices-in-Some-Inductive.ensures.held _ (c.all_but.ensures.held _ c.requires.others) in
    let arity = rw c.in-Some-2.is at c.in_ok-arity-in-Some-Inductive.ensures.held in
    let entry = c.in-Some-Inductive.ensures.held _ c.requires.env_held in
    let held = rw c.in-Some-Inductive.field-0-is at entry in
    (all-below _ _ _ kept params, all-below _ _ _ kept indices, arity, types-below _ _ _ kept held.1)
