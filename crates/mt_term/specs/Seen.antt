-- What references to the program's values say.
use Rattle.std.specs.Prelude.{Option, Some, None}
use Rattle.mt_term.specs.Trees.{Tree}
use Rattle.mt_term.specs.TreeOf.{tree_of}
use Rattle.mt_term.specs.declared.terms.Term.{Term}
use denote.Bor.{Bor}

-- the value behind an optional reference
abbrev pub seen : {A : Type 0} → Option (Bor A) → Option A
seen None = None
seen (Some x) = Some x.now

-- the tree behind an optional reference
abbrev pub seen_tree : Option (Bor Term) → Option Tree
seen_tree None = None
seen_tree (Some t) = Some (tree_of t.now)
