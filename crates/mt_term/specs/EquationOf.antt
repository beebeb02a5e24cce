-- What an equation of a hint of the program says.
use Rattle.std.specs.Prelude.{Option, Some, None}
use Rattle.mt_term.specs.TreeOf.{tree_of}
use Rattle.mt_term.specs.States.{Equation}
use Rattle.mt_term.specs.declared.equations.PlainEq.{PlainEq}
use denote.Bor.{Bor}

abbrev pub equation_of : PlainEq → Equation
equation_of e = record { place = e.place; term = tree_of e.term }

abbrev pub seen_equation : Option (Bor PlainEq) → Option Equation
seen_equation None = None
seen_equation (Some e) = Some (equation_of e.now)
