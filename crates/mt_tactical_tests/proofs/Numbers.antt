-- Numbers from a place on.
use Rattle.std.proofs.Common.{◌≡◌, ◌+◌, ◌-◌, ◌<◌, ℕ, zero, suc, List, [], ◌∷◌, ◌++◌, refl, ap, sym, ◌∙◌, arith}
use Rattle.std.proofs.lemmas.List.{append_assoc, append-nil}
use Rattle.mt_tactical_tests.specs.Small.{from_on}

pub from_on-next : (out : List ℕ) (a c i : ℕ) → i < c
    → out ++ from_on (a + i) (c - i) ≡ (out ++ (a + i) ∷ []) ++ from_on (a + (i + 1)) (c - (i + 1))
from_on-next out a c i h =
    let e : c - i ≡ suc (c - (i + 1)) = omega arith in
    let f : suc (a + i) ≡ a + (i + 1) = omega arith in
    ap (λ (k : ℕ). out ++ from_on (a + i) k) e
    ∙ sym (append_assoc out ((a + i) ∷ []) (from_on (suc (a + i)) (c - (i + 1))))
    ∙ ap (λ (j : ℕ). (out ++ (a + i) ∷ []) ++ from_on j (c - (i + 1))) f

pub from_on-end : (out : List ℕ) (a c : ℕ) → out ++ from_on (a + c) (c - c) ≡ out
from_on-end out a c =
    let e : c - c ≡ 0 = omega arith in
    ap (λ (k : ℕ). out ++ from_on (a + c) k) e ∙ append-nil out

pub ruleset from_on_rules = (from_on-next, from_on-end)
