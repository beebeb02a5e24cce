use Rattle.std.proofs.Common.{refl, arith}
use Rattle.mt_universe.specs.Tables.{alone}
use Rattle.mt_universe.proofs.TableLaws.{entries_all}
use Rattle.mt_universe.proofs.paths.clear.Goals as goal

pub returns : goal.returns
returns c = entries_all c.loop-i.paths alone c.loop-i.invariant.0 (λ k lt. c.loop-i.invariant.1 k (omega arith)) (λ a b p. refl) (λ a b p. refl)
