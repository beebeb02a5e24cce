-- The places of refusals, whatever the allowance: one rule for each way to put a definition together.
use Rattle.std.specs.Prelude.{◌≡◌, ℕ, zero, suc}
use Rattle.std.proofs.Common.{subst}
use Rattle.mt_term.specs.Reasons.{Reason}
use Rattle.mt_rules.specs.Charges.{Outcome, Done, Refused, Spent, Charged, give, and_then, charge}
use Rattle.mt_rules.specs.Knot.{within, fixed}
use Rattle.mt_unification_rules.specs.Placeholders.{Metas}
use Rattle.mt_resolver.specs.Resolution.{Resolution, Found, Faults}
use Rattle.mt_refinement_rules.specs.Placed.{Placed, found, faults, on_found, ◌>>=◌, on_fault, tried, with_place, by, shown, in_store}

-- a refusal has a place, with the property
abbrev pub HasPlace : {A : Type 0} → (ℕ → Type 0) → Outcome (Resolution A) → Type 0
HasPlace P (Done (Found a) left) = Unit {0}
HasPlace P (Done (Faults r at) left) = P at
HasPlace P (Refused r left) = ⊥
HasPlace P Spent = Unit {0}

-- the place of what is refused has the property
abbrev pub IfFaults : {A : Type 0} → (ℕ → Type 0) → Resolution A → Type 0
IfFaults P (Found a) = Unit {0}
IfFaults P (Faults r at) = P at

pub record Placing {A : Type 0} (P : ℕ → Type 0) (m : Placed A) : Type 0 where
  pub at : (n : ℕ) → HasPlace P (m n)

module _ (P : ℕ → Type 0) where
  pub finds_place : {A : Type 0} (a : A) → Placing P (found a)
  finds_place a = record { at = λ n. tt }

  pub at_place : {A : Type 0} (r : Reason) (at : ℕ) → P at → Placing {A = A} P (faults r at)
  at_place r at p = record { at = λ n. p }

  -- an answer without charges
  pub answer_place : {A : Type 0} (o : Resolution A) → IfFaults P o → Placing P (give o)
  answer_place (Found a) p = record { at = λ n. tt }
  answer_place (Faults r at) p = record { at = λ n. p }

  -- a definition without places, whose refusals have this place
  pub by_place : {A : Type 0} (at : ℕ) (m : Charged A) → P at → Placing P (by at m)
  by_place {A = A} at m p = record { at = λ n. go (m n) }
    where
      go : (o : Outcome A) → HasPlace P (with_place at o)
      go (Done a l) = tt
      go (Refused r l) = p
      go Spent = tt

  pub charge_place : {A : Type 0} (m : Placed A) → Placing P m → Placing P (charge m)
  charge_place m h = record { at = λ n. go n }
    where
      go : (n : ℕ) → HasPlace P (charge m n)
      go zero = tt
      go (suc n) = h.at n

  -- a sequence
  pub then_place : {A B : Type 0} (m : Placed A) (f : A → Placed B) → Placing P m → ((a : A) → Placing P (f a)) → Placing P (m >>= f)
  then_place {A = A} m f h j = record { at = λ n. go (m n) (h.at n) }
    where
      go : (o : Outcome (Resolution A)) → HasPlace P o → HasPlace P (and_then o (on_found f))
      go (Done (Found a) l) p = (j a).at l
      go (Done (Faults r at) l) p = p
      go (Refused r l) p = p
      go Spent p = tt

  -- a tried part
  pub try_place : {A : Type 0} (m : Placed A) (f : Reason → ℕ → Placed A) → Placing P m → ((r : Reason) (at : ℕ) → P at → Placing P (f r at)) → Placing P (tried m f)
  try_place {A = A} m f h j = record { at = λ n. go (m n) (h.at n) }
    where
      go : (o : Outcome (Resolution A)) → HasPlace P o → HasPlace P (and_then o (on_fault f))
      go (Done (Found a) l) p = tt
      go (Done (Faults r at) l) p = (j r at p).at l
      go (Refused r l) p = p
      go Spent p = tt

  -- a refusal that shows instances
  pub in_store_place : {A : Type 0} (ms : Metas) (m : Placed A) → Placing P m → Placing P (in_store ms m)
  in_store_place ms m h = try_place m _ h (λ r at p. at_place (shown ms r) at p)

  -- a definition that goes on with itself
  module _ (Q A : Type 0) (body : ((q : Q) → Placed A) → (q : Q) → Placed A) (keeps : (again : (q : Q) → Placed A) → ((q : Q) → Placing P (again q)) → (q : Q) → Placing P (body again q)) where
    within_place : (k : ℕ) (q : Q) → Placing P (within Q (λ q. Resolution A) body k q)
    within_place zero q = keeps (λ q n. Spent) (λ q. record { at = λ n. tt }) q
    within_place (suc k) q = keeps (λ q. within Q (λ q. Resolution A) body k q) (within_place k) q

    pub fixed_place : (q : Q) → Placing P (fixed Q (λ q. Resolution A) body q)
    unfolding fixed
    fixed_place q = record { at = λ n. (within_place n q).at n }

-- as equations
pub no_refusal : {A : Type 0} (P : ℕ → Type 0) (o : Outcome (Resolution A)) (r : Reason) (l : ℕ) → HasPlace P o → o ≡ Refused r l → ⊥
no_refusal P o r l h e = subst (HasPlace P) e h

pub fault_place : {A : Type 0} (P : ℕ → Type 0) (o : Outcome (Resolution A)) (r : Reason) (at l : ℕ) → HasPlace P o → o ≡ Done (Faults r at) l → P at
fault_place P o r at l h e = subst (HasPlace P) e h
