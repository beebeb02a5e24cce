-- What a metavariable of the program says.
use Rattle.std.specs.Prelude.{Option, Some, None}
use Rattle.mt_term.specs.Trees.{Tree}
use Rattle.mt_term.specs.TreeOf.{tree_of}
use Rattle.mt_term.specs.States.{Metavariable}
use Rattle.mt_term.specs.declared.terms.Term.{Term}
use Rattle.mt_term.specs.declared.stores.PlainMeta.{PlainMeta}
use denote.Bor.{Bor}

abbrev pub body_of : Option Term → Option Tree
body_of None = None
body_of (Some t) = Some (tree_of t)

abbrev pub metavariable_of : PlainMeta → Metavariable
metavariable_of m = record { context = m.context; ty = tree_of m.ty; body = body_of m.body }

abbrev pub seen_metavariable : Option (Bor PlainMeta) → Option Metavariable
seen_metavariable None = None
seen_metavariable (Some m) = Some (metavariable_of m.now)
