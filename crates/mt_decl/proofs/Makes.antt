-- What a unit's answer has as its property, whatever the allowance: one rule for each way to put it together.
use Rattle.std.proofs.Common.{true, false, ◌≡◌, ℕ, refl, subst}
use Rattle.mt_term.specs.Reasons.{Reason}
use Rattle.mt_rules.specs.Charges as charges
use Rattle.mt_rules.specs.Charges.{Outcome, Charged}
use Rattle.mt_rules_laws.proofs.Yields.{Yields}
use Rattle.mt_resolver.specs.Resolution.{Resolution, Found, Faults}
use Rattle.mt_decl.specs.Answers.{Answer, Made, Refused, Spent, Answering, make, refuse, and_then, ◌>>=◌, taken, from_kernel, by_kernel, yes_or_no, is_accepted}
use Rattle.mt_decl.proofs.Free.{Finds}

-- each answer has the property
abbrev pub Makes : {A : Type 0} → Answering A → (A → Type 0) → Type 0
Makes {A = A} m P = (n : ℕ) (a : A) (l : ℕ) → m n ≡ Made a l → P a

made_is : {A : Type 0} {a b : A} {n l : ℕ} → Made a n ≡ Made b l → a ≡ b
made_is e = cc

pub makes : {A : Type 0} (P : A → Type 0) (a : A) → P a → Makes (make a) P
makes P a p n b l e = subst P (made_is e) p

pub refuses : {A : Type 0} (P : A → Type 0) (r : Reason) (at : ℕ) → Makes (refuse {A = A} r at) P
refuses P r at n b l e = let no : ⊥ = cc in absurd no

pub then_makes : {A B : Type 0} (P : A → Type 0) (Q : B → Type 0) (m : Answering A) (f : A → Answering B) → Makes m P → ((a : A) → P a → Makes (f a) Q) → Makes (m >>= f) Q
then_makes {A = A} {B = B} P Q m f y k n b l e = go (m n) (λ a r. y n a r) e
  where
    go : (o : Answer A) → ((a : A) (r : ℕ) → o ≡ Made a r → P a) → and_then o f ≡ Made b l → Q b
    go (Made a r) h g = k a (h a r refl) r b l g
    go (Refused s at r) h g = let no : ⊥ = cc in absurd no
    go Spent h g = let no : ⊥ = cc in absurd no

-- a property that follows
pub so_makes : {A : Type 0} (P Q : A → Type 0) (m : Answering A) → ((a : A) → P a → Q a) → Makes m P → Makes m Q
so_makes P Q m f y n a l e = f a (y n a l e)

pub any_made : {A : Type 0} (m : Answering A) → Makes m (λ a. Unit {0})
any_made m n a l e = tt

pub taken_makes : {A : Type 0} (P : A → Type 0) (r : Resolution A) → Finds r P → Makes (taken r) P
taken_makes P (Found a) f = makes P a (f a refl)
taken_makes P (Faults r at) f = refuses P r at

pub kernel_makes : {A : Type 0} (P : A → Type 0) (at : ℕ) (m : Charged A) → Yields m P → Makes (by_kernel at m) P
kernel_makes {A = A} P at m y n b l e = go (m n) (λ a r. y n a r) e
  where
    go : (o : Outcome A) → ((a : A) (r : ℕ) → o ≡ charges.Done a r → P a) → from_kernel at o ≡ Made b l → P b
    go (charges.Done a r) h g = makes P a (h a r refl) r b l g
    go (charges.Refused q r) h g = let no : ⊥ = cc in absurd no
    go charges.Spent h g = let no : ⊥ = cc in absurd no

pub accepted_makes : {A : Type 0} (P : Type 0) (m : Charged A) → Yields m (λ a. P) → Makes (is_accepted m) (λ b. b ≡ true → P)
accepted_makes {A = A} P m y n b l e = go (m n) (λ a r. y n a r) e
  where
    go : (o : Outcome A) → ((a : A) (r : ℕ) → o ≡ charges.Done a r → P) → yes_or_no o ≡ Made b l → b ≡ true → P
    go (charges.Done a r) h g t = h a r refl
    go (charges.Refused q r) h g t = let same : false ≡ b = cc in let no : ⊥ = cc in absurd no
    go charges.Spent h g t = let no : ⊥ = cc in absurd no
