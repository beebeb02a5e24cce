-- Why a graph refuses a constraint.
use Rattle.std.specs.Prelude.{◌<◌, ◌≤◌, length}
use Rattle.mt_term.specs.Universes.{Satisfiable}
use Rattle.mt_universe.specs.Graphs.{Universes}
use Rattle.mt_universe.specs.declared.stops.GraphStop.{GraphStop}
use Rattle.mt_universe.specs.declared.stops.GraphStop.TheVariants.{TooMany, Cycle, OutOfMemory}

-- With the constraint the graph would be g: a 257th name refuses it, and then a cycle.
abbrev pub IsRefusedBy : GraphStop → Universes → Type 0
IsRefusedBy TooMany g = 256 < length g.names
IsRefusedBy Cycle g = (length g.names ≤ 256) × (Satisfiable g.below → ⊥)
IsRefusedBy OutOfMemory g = Unit {0}
