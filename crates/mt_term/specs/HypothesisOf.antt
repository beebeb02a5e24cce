-- What a hypothesis of the program says.
use Rattle.std.specs.Prelude.{Option, Some, None}
use Rattle.mt_term.specs.TreeOf.{tree_of}
use Rattle.mt_term.specs.Declarations.{Hypothesis}
use Rattle.mt_term.specs.declared.hypotheses.Hyp.{Hyp}
use denote.Bor.{Bor}

abbrev pub hypothesis_of : Hyp → Hypothesis
hypothesis_of h = record { name = h.name; ty = tree_of h.ty }

abbrev pub seen_hypothesis : Option (Bor Hyp) → Option Hypothesis
seen_hypothesis None = None
seen_hypothesis (Some h) = Some (hypothesis_of h.now)
