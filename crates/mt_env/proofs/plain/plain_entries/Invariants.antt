use Rattle.std.proofs.Common.{◌≡◌, take}
use Rattle.mt_env.specs.Environments.{declarations_in}
use Rattle.mt_env.proofs.plain.plain_entries.Given as goal

abbrev pub invariant-loop-entry : goal.invariant-loop-entry
invariant-loop-entry l = l.entries ≡ declarations_in l.pool (take l.entry-index l.held)
