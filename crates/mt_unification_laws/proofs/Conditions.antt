-- What the parts of unification that look at a condition yield.
use Rattle.std.specs.Prelude.{◌≡◌, refl, if◌then◌else◌, Bool, true, false, not, Option, Some, None, is_none}
use Rattle.mt_rules.specs.Charges.{Charged}
use Rattle.mt_rules_laws.proofs.Yields.{Yields, gives, refuses, untrue}
use Rattle.mt_unification_rules.specs.Unification.{known, only_if}

pub known_yields : {A : Type 0} (o : Option A) → Yields (known o) (λ a. o ≡ Some a)
known_yields {A = A} None = refuses (λ (a : A). None ≡ Some a) _
known_yields {A = A} (Some a) = gives (λ (b : A). Some a ≡ Some b) a refl

pub only_if_yields : (b : Bool) → Yields (only_if b) (λ z. b ≡ true)
only_if_yields true = gives (λ z. true ≡ true) tt refl
only_if_yields false = refuses (λ z. false ≡ true) _

pub either_yields : {A : Type 0} (P : A → Type 0) (b : Bool) (m r : Charged A) → (b ≡ true → Yields m P) → Yields r P → Yields (if b then m else r) P
either_yields P true m r y z = y refl
either_yields P false m r y z = z

pub none_is : {A : Type 0} (o : Option A) → is_none o ≡ true → o ≡ None
none_is None e = refl
none_is (Some a) e = untrue e

pub not_true : (b : Bool) → not b ≡ true → b ≡ false
not_true true e = untrue e
not_true false e = refl
