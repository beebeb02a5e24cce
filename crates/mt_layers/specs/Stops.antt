-- Stops that are no refusals.
use Rattle.mt_term.specs.declared.refusals.Stop.{Stop}
use Rattle.mt_term.specs.declared.refusals.Stop.TheVariants.{Refused as StopRefused}
use Rattle.mt_term.specs.declared.refusals.Stop.TheVariants.{Spent as StopSpent, OutOfMemory}

-- a stop that is no refusal
abbrev pub IsNoRefusal : Stop → Type 0
IsNoRefusal (StopRefused r) = ⊥
IsNoRefusal StopSpent = Unit {0}
IsNoRefusal OutOfMemory = Unit {0}
