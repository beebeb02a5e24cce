use Rattle.mt_decl.proofs.Sound.{declared_law}
use Rattle.mt_decl.proofs.declared_is_sound.Goals as goal

pub returns : goal.returns
returns c = record { law = declared_law }
