use Rattle.mt_infer.specs.Families.{FamilyBelow}
use Rattle.mt_infer.proofs.families.constructor_type_at.Goals as goal

pub returns-clause-held : goal.returns-clause-held
unfolding FamilyBelow
returns-clause-held c = λ m h. c.constructor_type.ensures.held m h.3
