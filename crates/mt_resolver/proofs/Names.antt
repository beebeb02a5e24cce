-- What names stand for.
use Rattle.std.proofs.Common.{◌≡◌, ℕ, Some, None, List, sym, ap, ◌∙◌}
use Rattle.mt_term.specs.Trees.{Tree, Bytes, Var}
use Rattle.mt_term.specs.Declarations.{Environment}
use Rattle.mt_term.specs.Naming.{Naming, find, named}
use Rattle.mt_resolver.specs.Resolution.{Found, Faults, first_place, variable_or, meant, or_unbound}
use Rattle.mt_resolver.specs.TableOf.{AreNamesOf}
use Rattle.mt_term.specs.Reasons.{Unbound}

module _ (E : Environment) (T : Naming) (names : AreNamesOf T (E.entries)) (Γ : List Bytes) (x : Bytes) (at : ℕ) where
  pub meant-variable : (i : ℕ) → first_place Γ x ≡ Some i → or_unbound x at (meant E Γ x) ≡ Found (Var i)
  meant-variable i e = ap (λ p. or_unbound x at (variable_or p (named (E.entries) x))) e

  pub meant-named : (t : Tree) → first_place Γ x ≡ None → find T x ≡ Some t → or_unbound x at (meant E Γ x) ≡ Found t
  meant-named t e f = ap (λ p. or_unbound x at (variable_or p (named (E.entries) x))) e ∙ ap (or_unbound x at) (sym (names.each x) ∙ f)

  pub meant-nothing : first_place Γ x ≡ None → find T x ≡ None → or_unbound x at (meant E Γ x) ≡ Faults (Unbound x) at
  meant-nothing e f = ap (λ p. or_unbound x at (variable_or p (named (E.entries) x))) e ∙ ap (or_unbound x at) (sym (names.each x) ∙ f)

pub ruleset name_rules = (meant-variable, meant-named, meant-nothing)
