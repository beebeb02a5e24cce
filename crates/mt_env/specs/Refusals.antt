-- Why an environment refuses an entry.
use Rattle.std.specs.Prelude.{List, [], ◌∷◌, ◌++◌}
use Rattle.mt_term.specs.Declarations.{Declaration}
use Rattle.mt_term.specs.Naming.{Naming, naming}
use Rattle.mt_pool.specs.declared.held.Held.{Held}
use Rattle.mt_env.specs.declared.stops.EnvStop.{EnvStop}
use Rattle.mt_env.specs.declared.stops.EnvStop.TheVariants.{Taken, OutOfMemory}
use Rattle.mt_env.specs.Environments.{declarations_in}
use Rattle.mt_env.specs.Names.{Distinct}

-- With the new names some name would stand twice.
abbrev pub AreRefusedBy : EnvStop → Naming → Naming → Type 0
AreRefusedBy Taken old new = Distinct (old ++ new) → ⊥
AreRefusedBy OutOfMemory old new = Unit {0}

-- With the entry some name would stand twice: one of the entry's names is in use, or stands twice
-- in the entry.
abbrev pub IsRefusedBy : EnvStop → List Held → Declaration → Type 0
IsRefusedBy Taken es d = Distinct (naming (declarations_in [] es ++ d ∷ [])) → ⊥
IsRefusedBy OutOfMemory es d = Unit {0}
