use Rattle.std.proofs.Common.{arith}
use Rattle.mt_universe.proofs.TableLaws.{AreFresh-written_back}
use Rattle.mt_universe.proofs.paths.make_tables.Goals as goal

pub returns-clause-ok : goal.returns-clause-ok
returns-clause-ok c = AreFresh-written_back _ _ _ _ _ _
    (omega (arith, c.clear_tables.ensures.paths_made, c.in_ok-lengths.ensures.len))
    (omega (arith, c.clear_tables.ensures.heights_made, c.in_ok-zeros.ensures.len))
    c.clear_tables.ensures
