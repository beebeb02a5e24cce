-- Laws over the definitions of printed text.
use Rattle.std.specs.Prelude.{List}
use Rattle.mt_term.specs.Trees.{Tree}
use Rattle.mt_term.specs.States.{Metavariable}
use Rattle.mt_term.specs.Stores.{Acyclic, AllMetas, InStore, Owned, store_of}
use Rattle.mt_term.specs.Instances.{InstanceOf}
use Rattle.mt_term.specs.Instancing.{instance}

-- over a store in which no metavariable is below itself, what is printed of a term that mentions
-- the store's own metavariables alone is its instance
abbrev pub InstanceFunctionLaw : Type 0
InstanceFunctionLaw =
    (ms : List Metavariable)
    → Acyclic (store_of ms)
    → Owned (store_of ms)
    → (t : Tree)
    → AllMetas (InStore (store_of ms)) t
    → InstanceOf (store_of ms) t (instance ms t)
