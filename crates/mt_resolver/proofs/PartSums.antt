-- Parts of sorts, one at a time.
use Rattle.std.proofs.Common.{◌≡◌, ℕ, zero, suc, ◌+◌, max, List, [], ◌∷◌, ◌++◌, drop, Option, Some, None, refl, sym, ap, ◌∙◌, arith}
use Rattle.std.specs.Prelude.{slice_get}
use Rattle.std.proofs.lemmas.List.{append_assoc, append-nil}
use Rattle.mt_term.specs.Trees.{Bytes}
use Rattle.mt_term.specs.declared.universes.Atom.{Atom}
use Rattle.mt_term.specs.declared.universes.UnivExpr.{UnivExpr}
use Rattle.mt_term_parser.specs.declared.raw.Part.{Part}
use Rattle.mt_term_parser.specs.declared.raw.Part.TheVariants as part
use Rattle.mt_resolver.specs.Sums.{part_after}
use Rattle.mt_resolver.specs.Resolves.{HaltsAs}
use Rattle.mt_term.specs.declared.refusals.Halt.{Halt}
use Rattle.mt_term.specs.declared.refusals.Halt.TheVariants as halt
use Rattle.std.proofs.Math.Seq.{drop-nil}
use Rattle.mt_resolver.specs.Resolution.{Resolution, Found, Faults, then_found, first_place, or_unbound, resolved_parts}

-- the maximum with a further expression
abbrev pub onto : UnivExpr → Resolution UnivExpr → Resolution UnivExpr
onto u r = then_found r (λ w. Found (record { base = max u.base w.base; atoms = u.atoms ++ w.atoms }))

pub onto-nothing : (r : Resolution UnivExpr) → onto (record { base = 0; atoms = [] }) r ≡ r
onto-nothing (Found u) = let e : max 0 u.base ≡ u.base = omega arith in ap (λ b. Found (record { base = b; atoms = u.atoms })) e
onto-nothing (Faults reason at) = refl

-- the part at a place, and those after it
pub drop-part : (parts : List Part) (i : ℕ) (p : Part) → slice_get parts i ≡ Some p → drop i parts ≡ p ∷ drop (suc i) parts
drop-part [] i p e = let no : ⊥ = cc in absurd no
drop-part (q ∷ parts) zero p e = let same : q ≡ p = cc in ap (λ r. r ∷ parts) same
drop-part (q ∷ parts) (suc i) p e = drop-part parts i p e

drop-past : (parts : List Part) (i : ℕ) → slice_get parts i ≡ None → drop i parts ≡ []
drop-past [] i e = drop-nil i
drop-past (q ∷ parts) zero e = let no : ⊥ = cc in absurd no
drop-past (q ∷ parts) (suc i) e = drop-past parts i e

module _ (names : List Bytes) (at : ℕ) where
  onto-numbers : (u : UnivExpr) (k : ℕ) (r : Resolution UnivExpr) → onto u (then_found r (λ w. Found (record { base = max k w.base; atoms = w.atoms }))) ≡ onto (record { base = max u.base k; atoms = u.atoms }) r
  onto-numbers u k (Found w) = let e : max u.base (max k w.base) ≡ max (max u.base k) w.base = omega arith in ap (λ b. Found (record { base = b; atoms = u.atoms ++ w.atoms })) e
  onto-numbers u k (Faults reason place) = refl

  onto-names : (u : UnivExpr) (a : Atom) (r : Resolution UnivExpr) → onto u (then_found r (λ w. Found (record { base = w.base; atoms = a ∷ w.atoms }))) ≡ onto (record { base = u.base; atoms = u.atoms ++ a ∷ [] }) r
  onto-names u a (Found w) = ap (λ (more : List Atom). Found (record { base = max u.base w.base; atoms = more })) (sym (append_assoc u.atoms (a ∷ []) w.atoms))
  onto-names u a (Faults reason place) = refl

  onto-part : (u : UnivExpr) (p : Part) (parts : List Part) → onto u (resolved_parts names at (p ∷ parts)) ≡ then_found (part_after names at p u) (λ w. onto w (resolved_parts names at parts))
  onto-part u (part.Number k) parts = onto-numbers u k (resolved_parts names at parts)
  onto-part u (part.Name x k) parts = by (first_place names x)
    where
      by : (o : Option ℕ) → onto u (then_found (or_unbound x at o) (λ n. then_found (resolved_parts names at parts) (λ w. Found (record { base = w.base; atoms = record { name = n; offset = k } ∷ w.atoms }))))
          ≡ then_found (then_found (or_unbound x at o) (λ n. Found (record { base = u.base; atoms = u.atoms ++ record { name = n; offset = k } ∷ [] }))) (λ w. onto w (resolved_parts names at parts))
      by None = refl
      by (Some n) = onto-names u (record { name = n; offset = k }) (resolved_parts names at parts)

  -- one part more
  pub part-step : (parts : List Part) (i : ℕ) (u : UnivExpr) (p : Part) (d : Resolution UnivExpr) → slice_get parts i ≡ Some p → d ≡ onto u (resolved_parts names at (drop i parts))
      → d ≡ then_found (part_after names at p u) (λ w. onto w (resolved_parts names at (drop (i + 1) parts)))
  part-step parts i u p d e f =
      let next : suc i ≡ i + 1 = omega arith in
      f ∙ ap (λ ps. onto u (resolved_parts names at ps)) (drop-part parts i p e) ∙ onto-part u p (drop (suc i) parts)
      ∙ ap (λ n. then_found (part_after names at p u) (λ w. onto w (resolved_parts names at (drop n parts)))) next

  -- no part more
  pub part-none : (parts : List Part) (i : ℕ) (u : UnivExpr) (d : Resolution UnivExpr) → slice_get parts i ≡ None → d ≡ onto u (resolved_parts names at (drop i parts)) → d ≡ Found u
  part-none parts i u d e f =
      let b : max u.base 0 ≡ u.base = omega arith in
      f ∙ ap (λ ps. onto u (resolved_parts names at ps)) (drop-past parts i e)
      ∙ ap (λ b. Found (record { base = b; atoms = u.atoms ++ [] })) b
      ∙ ap (λ (more : List Atom). Found (record { base = u.base; atoms = more })) (append-nil u.atoms)

  -- a fault at a part
  pub part-halts : (parts : List Part) (i : ℕ) (u : UnivExpr) (p : Part) (d : Resolution UnivExpr) (h : Halt) → slice_get parts i ≡ Some p → d ≡ onto u (resolved_parts names at (drop i parts))
      → HaltsAs (part_after names at p u) h → HaltsAs d h
  part-halts parts i u p d (halt.Refused fault) e f g =
      part-step parts i u p d e f ∙ ap (λ (r : Resolution UnivExpr). then_found r (λ w. onto w (resolved_parts names at (drop (i + 1) parts)))) g
  part-halts parts i u p d halt.Spent e f g = g
  part-halts parts i u p d halt.OutOfMemory e f g = tt
