-- The record of laws, one rule for each way to put a definition together.
use Rattle.std.specs.Prelude.{◌≡◌, ◌≤◌, ◌+◌, refl, ℕ, zero, suc}
use Rattle.std.proofs.Common.{sym, ap, ◌∙◌, subst, arith}
use Rattle.mt_term.specs.Reasons.{Reason}
use Rattle.mt_rules.specs.Charges.{Outcome, Done, Refused, Spent, Charged, and_then, charge, rest}
use Rattle.mt_rules_laws.specs.AllowanceLaws.{with_more, GoesByAllowance}
use Rattle.mt_rules_laws.proofs.Yields.{Yields}
use Rattle.mt_unification_rules.specs.Placeholders.{Metas}
use Rattle.mt_resolver.specs.Resolution.{Resolution, Found, Faults}
use Rattle.mt_refinement_rules.specs.Placed.{Placed, found, faults, on_found, ◌>>=◌, on_fault, tried, with_place, by, shown, in_store}
use Rattle.mt_refinement_laws.specs.Meets.{Met, Meets}

pub found_meets : {A : Type 0} (Q : A → Type 0) (R : Reason → ℕ → Type 0) (a : A) → Q a → Meets Q R (found a)
found_meets Q R a q = record { goes = (λ n i s. refl, λ n. omega arith); at = λ n. q }

pub faults_meet : {A : Type 0} (Q : A → Type 0) (R : Reason → ℕ → Type 0) (r : Reason) (at : ℕ) → R r at → Meets Q R (faults r at)
faults_meet Q R r at p = record { goes = (λ n i s. refl, λ n. omega arith); at = λ n. p }

-- a definition without places, at a place
pub by_meets : {A : Type 0} (Q : A → Type 0) (R : Reason → ℕ → Type 0) (at : ℕ) (m : Charged A) → GoesByAllowance m → Yields m Q → ((r : Reason) → R r at) → Meets Q R (by at m)
by_meets {A = A} Q R at m g y p = record { goes = (λ n i s. more n i (m n) refl s, λ n. left n (m n) (g.1 n)); at = λ n. met n (m n) refl }
  where
    met : (n : ℕ) (o : Outcome A) → m n ≡ o → Met Q R (with_place at o)
    met n (Done a l) e = y n a l e
    met n (Refused r l) e = p r
    met n Spent e = tt

    left : (n : ℕ) (o : Outcome A) → rest o ≤ n → rest (with_place at o) ≤ n
    left n (Done a l) h = h
    left n (Refused r l) h = h
    left n Spent h = h

    placed_more : (i : ℕ) (o : Outcome A) → with_place at (with_more i o) ≡ with_more i (with_place at o)
    placed_more i (Done a l) = refl
    placed_more i (Refused r l) = refl
    placed_more i Spent = refl

    not_spent : (o : Outcome A) → (with_place at o ≡ Spent → ⊥) → o ≡ Spent → ⊥
    not_spent o s e = s (ap (with_place at) e)

    more : (n i : ℕ) (o : Outcome A) → m n ≡ o → (with_place at (m n) ≡ Spent → ⊥) → with_place at (m (n + i)) ≡ with_more i (with_place at (m n))
    more n i o e s = ap (with_place at) (g.0 n i (not_spent (m n) s)) ∙ placed_more i (m n)

-- a charge first
pub charge_meets : {A : Type 0} (Q : A → Type 0) (R : Reason → ℕ → Type 0) (m : Placed A) → Meets Q R m → Meets Q R (charge m)
charge_meets {A = A} Q R m h = record { goes = (more, left); at = met }
  where
    met : (n : ℕ) → Met Q R (charge m n)
    met zero = tt
    met (suc n) = h.at n

    left : (n : ℕ) → rest (charge m n) ≤ n
    left zero = omega arith
    left (suc n) = omega (arith, h.goes.1 n)

    more : (n i : ℕ) → (charge m n ≡ Spent → ⊥) → charge m (n + i) ≡ with_more i (charge m n)
    more zero i s = absurd (s refl)
    more (suc n) i s = let e : suc n + i ≡ suc (n + i) = omega arith in ap (charge m) e ∙ h.goes.0 n i s

module _ {A B : Type 0} (P : Resolution A → Type 0) (Q : B → Type 0) (R : Reason → ℕ → Type 0) (m : Placed A) (f : Resolution A → Placed B) (g : GoesByAllowance m) (none : (n : ℕ) (r : Reason) (l : ℕ) → m n ≡ Refused r l → ⊥)
    (holds : (n : ℕ) (a : Resolution A) (l : ℕ) → m n ≡ Done a l → P a) (next : (a : Resolution A) → P a → Meets Q R (f a)) where
  -- a sequence, of which the second part is known where the first says P
  then_met : Meets Q R (λ n. and_then (m n) f)
  then_met = record { goes = (λ n i s. more n i (m n) refl s, λ n. left n (m n) refl); at = λ n. met n (m n) refl }
    where
      met : (n : ℕ) (o : Outcome (Resolution A)) → m n ≡ o → Met Q R (and_then o f)
      met n (Done a l) e = (next a (holds n a l e)).at l
      met n (Refused r l) e = none n r l e
      met n Spent e = tt

      left : (n : ℕ) (o : Outcome (Resolution A)) → m n ≡ o → rest (and_then o f) ≤ n
      left n (Done a l) e =
          let h : l ≤ n = subst (λ (o : Outcome (Resolution A)). rest o ≤ n) e (g.1 n) in
          omega (arith, h, (next a (holds n a l e)).goes.1 l)
      left n (Refused r l) e = absurd (none n r l e)
      left n Spent e = omega arith

      more : (n i : ℕ) (o : Outcome (Resolution A)) → m n ≡ o → (and_then (m n) f ≡ Spent → ⊥) → and_then (m (n + i)) f ≡ with_more i (and_then (m n) f)
      more n i (Done a l) e s =
          let q : m (n + i) ≡ Done a (l + i) = g.0 n i (λ z. s (ap (λ o. and_then o f) z)) ∙ ap (with_more i) e in
          ap (λ o. and_then o f) q ∙ ((next a (holds n a l e)).goes.0 l i (λ z. s (ap (λ o. and_then o f) e ∙ z)) ∙ ap (λ o. with_more i (and_then o f)) (sym e))
      more n i (Refused r l) e s = absurd (none n r l e)
      more n i Spent e s = absurd (s (ap (λ o. and_then o f) e))

-- what an outcome that meets its properties gives
abbrev IfMet : {A : Type 0} → (A → Type 0) → (Reason → ℕ → Type 0) → Resolution A → Type 0
IfMet Q R (Found a) = Q a
IfMet Q R (Faults r at) = R r at

if_met : {A : Type 0} (Q : A → Type 0) (R : Reason → ℕ → Type 0) (o : Outcome (Resolution A)) (a : Resolution A) (l : ℕ) → Met Q R o → o ≡ Done a l → IfMet Q R a
if_met Q R o (Found a) l h e = subst (Met Q R) e h
if_met Q R o (Faults r at) l h e = subst (Met Q R) e h

never_bare : {A : Type 0} (Q : A → Type 0) (R : Reason → ℕ → Type 0) (o : Outcome (Resolution A)) (r : Reason) (l : ℕ) → Met Q R o → o ≡ Refused r l → ⊥
never_bare Q R o r l h e = subst (Met Q R) e h

-- a sequence
pub then_meets : {A B : Type 0} (P : A → Type 0) (Q : B → Type 0) (R : Reason → ℕ → Type 0) (m : Placed A) (f : A → Placed B) → Meets P R m → ((a : A) → P a → Meets Q R (f a)) → Meets Q R (m >>= f)
then_meets {A = A} P Q R m f h k =
    then_met (IfMet P R) Q R m (on_found f) h.goes (λ n r l e. never_bare P R (m n) r l (h.at n) e) (λ n a l e. if_met P R (m n) a l (h.at n) e) next
  where
    next : (a : Resolution A) → IfMet P R a → Meets Q R (on_found f a)
    next (Found a) p = k a p
    next (Faults r at) p = faults_meet Q R r at p

-- a tried part
pub try_meets : {A : Type 0} (Q : A → Type 0) (R R' : Reason → ℕ → Type 0) (m : Placed A) (f : Reason → ℕ → Placed A) → Meets Q R m → ((r : Reason) (at : ℕ) → R r at → Meets Q R' (f r at)) → Meets Q R' (tried m f)
try_meets {A = A} Q R R' m f h k =
    then_met (IfMet Q R) Q R' m (on_fault f) h.goes (λ n r l e. never_bare Q R (m n) r l (h.at n) e) (λ n a l e. if_met Q R (m n) a l (h.at n) e) next
  where
    next : (a : Resolution A) → IfMet Q R a → Meets Q R' (on_fault f a)
    next (Found a) p = found_meets Q R' a p
    next (Faults r at) p = k r at p

-- a refusal that shows instances
pub in_store_meets : {A : Type 0} (Q : A → Type 0) (R R' : Reason → ℕ → Type 0) (ms : Metas) (m : Placed A) → Meets Q R m → ((r : Reason) (at : ℕ) → R r at → R' (shown ms r) at) → Meets Q R' (in_store ms m)
in_store_meets Q R R' ms m h k = try_meets Q R R' m (λ r at. faults (shown ms r) at) h (λ r at p. faults_meet Q R' (shown ms r) at (k r at p))

-- a property that follows
pub so_meets : {A : Type 0} (P Q : A → Type 0) (R R' : Reason → ℕ → Type 0) (m : Placed A) → Meets P R m → ((a : A) → P a → Q a) → ((r : Reason) (at : ℕ) → R r at → R' r at) → Meets Q R' m
so_meets {A = A} P Q R R' m h f g = record { goes = h.goes; at = λ n. go (m n) (h.at n) }
  where
    go : (o : Outcome (Resolution A)) → Met P R o → Met Q R' o
    go (Done (Found a) l) p = f a p
    go (Done (Faults r at) l) p = g r at p
    go (Refused r l) p = p
    go Spent p = tt

-- from the laws one by one
pub meets_of : {A : Type 0} (Q : A → Type 0) (R : Reason → ℕ → Type 0) (m : Placed A) → GoesByAllowance m → ((n : ℕ) (a : A) (l : ℕ) → m n ≡ Done (Found a) l → Q a) → ((n : ℕ) (r : Reason) (at l : ℕ) → m n ≡ Done (Faults r at) l → R r at) → ((n : ℕ) (r : Reason) (l : ℕ) → m n ≡ Refused r l → ⊥) → Meets Q R m
meets_of {A = A} Q R m g f p none = record { goes = g; at = λ n. go n (m n) refl }
  where
    go : (n : ℕ) (o : Outcome (Resolution A)) → m n ≡ o → Met Q R o
    go n (Done (Found a) l) e = f n a l e
    go n (Done (Faults r at) l) e = p n r at l e
    go n (Refused r l) e = none n r l e
    go n Spent e = tt
