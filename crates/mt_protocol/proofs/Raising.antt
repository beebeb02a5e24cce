-- Numerals as they are written.
use Rattle.std.proofs.Common.{◌≡◌, ◌<◌, ℕ, zero, suc, ◌-◌, ◌++◌, codes, Result, Ok, Err, OnOk, refl, sym, ap, arith, ◌∙◌, append_assoc}
use Rattle.mt_term.specs.Trees.{Bytes}
use Rattle.mt_protocol.specs.Scripts.{raised, raised_argument, enclosed}

pub raised_more : (k : ℕ) (x : Bytes) → 1 < k → raised k x ≡ codes "S (" ++ raised (k - 1) x ++ codes ")"
raised_more zero x lt = absurd (omega arith)
raised_more (suc zero) x lt = absurd (omega arith)
raised_more (suc (suc k)) x lt = ap (λ n. codes "S (" ++ raised n x ++ codes ")") (less k)
  where
    less : (k : ℕ) → suc k ≡ suc (suc k) - 1
    less k = omega arith

pub argument_more : (k : ℕ) (x : Bytes) → 0 < k → raised_argument k x ≡ codes "(" ++ raised k x ++ codes ")"
argument_more zero x lt = absurd (omega arith)
argument_more (suc k) x lt = refl

on_ok : {A E : Type 0} (P Q : Type 0) (r : Result A E) → (P → Q) → OnOk r P → OnOk r Q
on_ok P Q (Ok a) f h = f h
on_ok P Q (Err e) f h = h

-- three pieces at the end of a text
pub three_put : {A E : Type 0} (before first second last a b c all : Bytes) (r : Result A E) → first ≡ before ++ a → second ≡ first ++ b → all ≡ a ++ b ++ c
    → OnOk r (last ≡ second ++ c) → OnOk r (last ≡ before ++ all)
three_put before first second last a b c all r e f g h =
    on_ok (last ≡ second ++ c) (last ≡ before ++ all) r
    (λ l. l ∙ ap (λ t. t ++ c) (f ∙ ap (λ t. t ++ b) e) ∙ ap (λ t. t ++ c) (append_assoc before a b) ∙ append_assoc before (a ++ b) c ∙ ap (λ t. before ++ t) (sym g)) h
