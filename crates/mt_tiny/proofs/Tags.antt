-- What a step may do by the tag of its level.
use Rattle.std.proofs.Common.{◌≡◌, refl}
use Rattle.mt_tiny.specs.Provers.{ProverRules}
use Rattle.mt_tiny.specs.Stepping.{Answer, in_branch, in_focus}
use Rattle.mt_tiny.specs.declared.levels.Tag.{Tag}
use Rattle.mt_tiny.specs.declared.levels.Tag.TheVariants as tag

module _ {P A R : Type 0} (v : ProverRules P A R) where
  pub in_branch-is : (t : Tag) (m : Answer v) → t ≡ tag.Branch → in_branch v t m ≡ m
  in_branch-is tag.Branch m e = refl
  in_branch-is tag.Bottom m e = absurd cc
  in_branch-is tag.Focus m e = absurd cc

  pub in_focus-is : (t : Tag) (m : Answer v) → t ≡ tag.Focus → in_focus v t m ≡ m
  in_focus-is tag.Focus m e = refl
  in_focus-is tag.Bottom m e = absurd cc
  in_focus-is tag.Branch m e = absurd cc
