use Rattle.mt_cursor.proofs.Scratch.{scratch}
use Rattle.mt_cursor.proofs.laws.accepted_from_scratch.Goals as goal

pub returns : goal.returns
returns g c = record { law = scratch g.R.Runner.rules g.met.R.Runner.placed g.met.R.Runner.seen }
