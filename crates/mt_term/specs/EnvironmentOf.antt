-- The environment that the program's environment says.
use Rattle.mt_term.specs.Declarations.{Environment}
use Rattle.mt_term.specs.declared.environment.PlainEnv.{PlainEnv}

abbrev pub environment_of : PlainEnv → Environment
environment_of env = record { entries = env.entries; names = env.names; below = env.below }
