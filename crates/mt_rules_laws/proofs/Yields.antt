-- What a definition with charges yields, whatever the allowance: one rule for each way to put it together.
use Rattle.std.specs.Prelude.{◌≡◌, ℕ, zero, suc, true, false, Some, None}
use Rattle.std.proofs.Common.{ap, subst}
use Rattle.mt_term.specs.Reasons.{Reason}
use Rattle.mt_rules.specs.Charges.{Outcome, Done, Refused, Spent, Charged, give, refuse, and_then, ◌>>=◌, charge, or_else, tried}
use Rattle.mt_rules.specs.Knot.{within, fixed}

-- each answer has the property
abbrev pub Yields : {A : Type 0} → Charged A → (A → Type 0) → Type 0
Yields {A = A} m P = (n : ℕ) (a : A) (r : ℕ) → m n ≡ Done a r → P a

value_or : {A : Type 0} → A → Outcome A → A
value_or b (Done a r) = a
value_or b (Refused r l) = b
value_or b Spent = b

done_inj : {A : Type 0} {a b : A} {r l : ℕ} → Done a r ≡ Done b l → a ≡ b
unfolding value_or
done_inj {a = a} e = ap (value_or a) e

pub gives : {A : Type 0} (P : A → Type 0) (a : A) → P a → Yields (give a) P
gives P a p n b r e = subst P (done_inj e) p

pub refuses : {A : Type 0} (P : A → Type 0) (q : Reason) → Yields (refuse {A = A} q) P
refuses P q n b r e = absurd cc

pub charges : {A : Type 0} (P : A → Type 0) (m : Charged A) → Yields m P → Yields (charge m) P
charges P m y zero a r e = absurd cc
charges P m y (suc n) a r e = y n a r e

pub then_yields : {A B : Type 0} (P : A → Type 0) (Q : B → Type 0) (m : Charged A) (f : A → Charged B) → Yields m P → ((a : A) → P a → Yields (f a) Q) → Yields (m >>= f) Q
then_yields {A = A} {B = B} P Q m f y k n b r e = go (m n) (λ a l. y n a l) e
  where
    go : (o : Outcome A) → ((a : A) (l : ℕ) → o ≡ Done a l → P a) → and_then o f ≡ Done b r → Q b
    go (Done a l) h g = k a (h a l (λ i. Done a l)) l b r g
    go (Refused s l) h g = absurd cc
    go Spent h g = absurd cc

pub tries : {A : Type 0} (P : A → Type 0) (m other : Charged A) → Yields m P → Yields other P → Yields (tried m other) P
tries {A = A} P m other y z n b r e = go (m n) (λ a l. y n a l) e
  where
    go : (o : Outcome A) → ((a : A) (l : ℕ) → o ≡ Done a l → P a) → or_else o other ≡ Done b r → P b
    go (Done a l) h g = subst P (done_inj g) (h a l (λ i. Done a l))
    go (Refused s l) h g = z l b r g
    go Spent h g = absurd cc

-- a property that follows
pub so_yields : {A : Type 0} (P Q : A → Type 0) (m : Charged A) → ((a : A) → P a → Q a) → Yields m P → Yields m Q
so_yields P Q m f y n a r e = f a (y n a r e)

-- a definition that goes on with itself: what the body keeps, the definition yields
module _ (Q : Type 0) (R : Q → Type 0) (body : ((q : Q) → Charged (R q)) → (q : Q) → Charged (R q)) (P : (q : Q) → R q → Type 0)
    (keeps : (again : (q : Q) → Charged (R q)) → ((q : Q) → Yields (again q) (P q)) → (q : Q) → Yields (body again q) (P q)) where
  within_yields : (k : ℕ) (q : Q) → Yields (within Q R body k q) (P q)
  within_yields zero q = keeps (λ q n. Spent) (λ q n a r e. absurd cc) q
  within_yields (suc k) q = keeps (λ q. within Q R body k q) (within_yields k) q

  pub fixed_yields : (q : Q) → Yields (fixed Q R body q) (P q)
  unfolding fixed
  fixed_yields q n a r e = within_yields n q n a r e

-- facts of optional values
pub some_is : {A : Type 0} {a b : A} → Some a ≡ Some b → a ≡ b
some_is {a = a} e = ap (elim [ None ↦ a | Some x ↦ x ]) e

pub nothing : {A : Type 0} {a : A} {X : Type 0} → None ≡ Some a → X
nothing e = absurd cc

pub untrue : {X : Type 0} → false ≡ true → X
untrue e = absurd cc
