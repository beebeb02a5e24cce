-- What a definition with charges and places finds, whatever the allowance: one rule for each way to put it together.
use Rattle.std.specs.Prelude.{◌≡◌, ℕ}
use Rattle.std.proofs.Common.{subst}
use Rattle.mt_term.specs.Reasons.{Reason}
use Rattle.mt_rules.specs.Charges.{Outcome, Done, Refused, Spent, Charged, give, charge}
use Rattle.mt_rules_laws.proofs.Yields.{Yields, gives, charges, then_yields}
use Rattle.mt_unification_rules.specs.Placeholders.{Metas}
use Rattle.mt_resolver.specs.Resolution.{Resolution, Found, Faults}
use Rattle.mt_refinement_rules.specs.Placed.{Placed, found, faults, on_found, ◌>>=◌, on_fault, tried, with_place, by, shown, in_store}

-- what is found has the property
abbrev pub IfFound : {A : Type 0} → (A → Type 0) → Resolution A → Type 0
IfFound P (Found a) = P a
IfFound P (Faults r at) = Unit {0}

pub record Finds {A : Type 0} (m : Placed A) (P : A → Type 0) : Type 0 where
  pub yields : Yields m (IfFound P)

pub finds : {A : Type 0} (P : A → Type 0) (a : A) → P a → Finds (found a) P
finds P a p = record { yields = gives (IfFound P) (Found a) p }

pub finds_nothing : {A : Type 0} (P : A → Type 0) (r : Reason) (at : ℕ) → Finds (faults r at) P
finds_nothing P r at = record { yields = gives (IfFound P) (Faults r at) tt }

-- an answer without charges
pub answers : {A : Type 0} (P : A → Type 0) (o : Resolution A) → IfFound P o → Finds (give o) P
answers P o p = record { yields = gives (IfFound P) o p }

-- a charge first
pub charge_finds : {A : Type 0} (P : A → Type 0) (m : Placed A) → Finds m P → Finds (charge m) P
charge_finds P m y = record { yields = charges (IfFound P) m y.yields }

-- from a definition without places
abbrev if_done : {A : Type 0} → (A → Type 0) → Outcome (Resolution A) → Type 0
if_done P (Done q k) = IfFound P q
if_done P (Refused r k) = Unit {0}
if_done P Spent = Unit {0}

pub by_finds : {A : Type 0} (P : A → Type 0) (at : ℕ) (m : Charged A) → Yields m P → Finds (by at m) P
by_finds {A = A} P at m y = record { yields = λ n o l e. go o l (m n) (λ a k. y n a k) e }
  where
    go : (o : Resolution A) (l : ℕ) (p : Outcome A) → ((a : A) (k : ℕ) → p ≡ Done a k → P a) → with_place at p ≡ Done o l → IfFound P o
    go o l (Done a k) h g = subst (if_done P) g (h a k (λ i. Done a k))
    go o l (Refused r k) h g = subst (if_done P) g tt
    go o l Spent h g = absurd cc

-- nothing is asked
pub finds_any : {A : Type 0} (m : Placed A) → Finds m (λ a. Unit {0})
finds_any {A = A} m = record { yields = λ n o l e. go o }
  where
    go : (o : Resolution A) → IfFound (λ (a : A). Unit {0}) o
    go (Found a) = tt
    go (Faults r at) = tt

on_found_finds : {A B : Type 0} (P : A → Type 0) (Q : B → Type 0) (f : A → Placed B) → ((a : A) → P a → Finds (f a) Q) → (o : Resolution A) → IfFound P o → Yields (on_found f o) (IfFound Q)
on_found_finds P Q f h (Found a) p = (h a p).yields
on_found_finds P Q f h (Faults r at) p = (finds_nothing Q r at).yields

-- a sequence
pub then_finds : {A B : Type 0} (P : A → Type 0) (Q : B → Type 0) (m : Placed A) (f : A → Placed B) → Finds m P → ((a : A) → P a → Finds (f a) Q) → Finds (m >>= f) Q
then_finds P Q m f y h = record { yields = then_yields (IfFound P) (IfFound Q) m (on_found f) y.yields (on_found_finds P Q f h) }

-- after a part of which nothing is asked
pub on_any : {A B : Type 0} (Q : B → Type 0) (m : Placed A) (f : A → Placed B) → ((a : A) → Finds (f a) Q) → Finds (m >>= f) Q
on_any Q m f h = then_finds (λ a. Unit {0}) Q m f (finds_any m) (λ a z. h a)

on_fault_finds : {A : Type 0} (P : A → Type 0) (f : Reason → ℕ → Placed A) → ((r : Reason) (at : ℕ) → Finds (f r at) P) → (o : Resolution A) → IfFound P o → Yields (on_fault f o) (IfFound P)
on_fault_finds P f h (Found a) p = (finds P a p).yields
on_fault_finds P f h (Faults r at) p = (h r at).yields

-- a tried part
pub try_finds : {A : Type 0} (P : A → Type 0) (m : Placed A) (f : Reason → ℕ → Placed A) → Finds m P → ((r : Reason) (at : ℕ) → Finds (f r at) P) → Finds (tried m f) P
try_finds P m f y h = record { yields = then_yields (IfFound P) (IfFound P) m (on_fault f) y.yields (on_fault_finds P f h) }

-- a property that follows
pub so_finds : {A : Type 0} (P Q : A → Type 0) (m : Placed A) → ((a : A) → P a → Q a) → Finds m P → Finds m Q
so_finds {A = A} P Q m f y = record { yields = λ n o l e. go o (y.yields n o l e) }
  where
    go : (o : Resolution A) → IfFound P o → IfFound Q o
    go (Found a) p = f a p
    go (Faults r at) p = tt

-- a refusal that shows instances
pub in_store_finds : {A : Type 0} (P : A → Type 0) (ms : Metas) (m : Placed A) → Finds m P → Finds (in_store ms m) P
in_store_finds P ms m y = try_finds P m _ y (λ r at. finds_nothing P (shown ms r) at)
