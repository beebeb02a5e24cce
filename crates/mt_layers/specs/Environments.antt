-- What is found in an environment that is held in a pool.
use Rattle.std.specs.Prelude.{ℕ, ◌<◌, List, Option, Some, None}
use Rattle.mt_term.specs.Trees.{Tree}
use Rattle.mt_term.specs.Declarations.{Declaration, Environment}
use Rattle.mt_pool.specs.declared.held.Held.{Held}
use Rattle.mt_pool.specs.declared.nodes.TermId.{TermId}
use Rattle.mt_pool.specs.HeldOf.{declaration_in, HeldBelow}
use Rattle.mt_pool.specs.Region.{tree_at}
use Rattle.mt_env.specs.Environments.{HeldEnvironment, EntriesBelow, environment_in as said_in}
use denote.Bor.{Bor}

-- the environment over the trees of a pool, as one word
unfoldable pub environment_in : List Tree → HeldEnvironment → Environment
environment_in p env = said_in p env

-- where n is the length of a pool, it holds the environment
unfoldable pub EnvBelow : ℕ → HeldEnvironment → Type 0
EnvBelow n env = EntriesBelow n env.entries

-- an entry that was found
abbrev pub declaration_seen : List Tree → Option (Bor Held) → Option Declaration
declaration_seen p None = None
declaration_seen p (Some h) = Some (declaration_in p h.now)

abbrev pub SeenBelow : ℕ → Option (Bor Held) → Type 0
SeenBelow n None = Unit {0}
SeenBelow n (Some h) = HeldBelow n h.now

-- an optional id
abbrev pub found_in : List Tree → Option TermId → Option Tree
found_in p None = None
found_in p (Some t) = Some (tree_at p t)

abbrev pub FoundBelow : ℕ → Option TermId → Type 0
FoundBelow n None = Unit {0}
FoundBelow n (Some t) = t.at < n
