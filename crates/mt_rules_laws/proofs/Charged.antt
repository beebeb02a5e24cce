-- The laws of charges, sequences and tried parts: what is not spent at an allowance is the same at a greater one, with as much more left, and never more is left than was given.
use Rattle.std.specs.Prelude.{ℕ, zero, suc, ◌≡◌, ◌+◌, ◌≤◌, refl, Bool, true, false, if◌then◌else◌}
use Rattle.std.proofs.Common.{zero-add, ◌∙◌, ap, arith}
use Rattle.mt_term.specs.Reasons.{Reason}
use Rattle.mt_rules.specs.Charges.{Outcome, Done, Refused, Spent, Charged, give, refuse, ◌>>=◌, charge, tried, and_then, or_else, rest}

-- from n of an allowance the first came to an outcome; with i more the other comes to the same with i more left,
-- and, where i is 0, it is spent where the first is
abbrev pub Tied : {A : Type 0} → ℕ → ℕ → Outcome A → Outcome A → Type 0
Tied n i (Done a left) o = (left ≤ n) × (o ≡ Done a (left + i))
Tied n i (Refused r left) o = (left ≤ n) × (o ≡ Refused r (left + i))
Tied n i Spent o = i ≡ 0 → o ≡ Spent

-- they are tied at each allowance up to k
pub record Agree {A : Type 0} (k i : ℕ) (m m' : Charged A) : Type 0 where
  pub at : (n : ℕ) → n ≤ k → Tied n i (m n) (m' (n + i))

-- the same below k, as after a charge
abbrev pub AgreeAfter : {A : Type 0} → ℕ → ℕ → Charged A → Charged A → Type 0
AgreeAfter zero i m m' = Unit {0}
AgreeAfter (suc k) i m m' = Agree k i m m'

pub give-agree : {A : Type 0} (k i : ℕ) (a : A) → Agree k i (give a) (give a)
give-agree k i a = record { at = λ n h. (omega arith, refl) }

pub refuse-agree : {A : Type 0} (k i : ℕ) (r : Reason) → Agree {A = A} k i (refuse r) (refuse r)
refuse-agree k i r = record { at = λ n h. (omega arith, refl) }

-- an outcome that is tied is tied from more, too
tied-from : {A : Type 0} (n n' i : ℕ) (o o' : Outcome A) → n ≤ n' → Tied n i o o' → Tied n' i o o'
tied-from n n' i (Done a left) o' h t = (omega (arith, t.0), t.1)
tied-from n n' i (Refused r left) o' h t = (omega (arith, t.0), t.1)
tied-from n n' i Spent o' h t = t

charge-at : {A : Type 0} (k i : ℕ) (m m' : Charged A) → AgreeAfter k i m m' → (n : ℕ) → n ≤ k → Tied n i (charge m n) (charge m' (n + i))
charge-at k i m m' t zero h = λ e. ap (charge m') (zero-add i ∙ e)
charge-at zero i m m' t (suc n) h = absurd (omega arith)
charge-at (suc k) i m m' t (suc n) h =
    let s : suc n + i ≡ suc (n + i) = omega arith in
    rw s (tied-from n (suc n) i (m n) (m' (n + i)) (omega arith) (t.at n (omega arith)))

pub charge-agree : {A : Type 0} (k i : ℕ) (m m' : Charged A) → AgreeAfter k i m m' → Agree k i (charge m) (charge m')
charge-agree k i m m' t = record { at = charge-at k i m m' t }

and_then-tied : {A B : Type 0} (k i : ℕ) (f f' : A → Charged B) → ((a : A) → Agree k i (f a) (f' a))
    → (n : ℕ) (o o' : Outcome A) → n ≤ k → Tied n i o o' → Tied n i (and_then o f) (and_then o' f')
and_then-tied k i f f' s n (Done a left) o' h t =
    rw t.1 (tied-from left n i (f a left) (f' a (left + i)) t.0 ((s a).at left (omega (arith, t.0))))
and_then-tied k i f f' s n (Refused r left) o' h t = rw t.1 (t.0, refl)
and_then-tied k i f f' s n Spent o' h t = λ e. rw (t e) refl

pub then-agree : {A B : Type 0} (k i : ℕ) (m m' : Charged A) (f f' : A → Charged B) → Agree k i m m' → ((a : A) → Agree k i (f a) (f' a))
    → Agree k i (m >>= f) (m' >>= f')
then-agree k i m m' f f' t s = record { at = λ n h. and_then-tied k i f f' s n (m n) (m' (n + i)) h (t.at n h) }

or_else-tied : {A : Type 0} (k i : ℕ) (r r' : Charged A) → Agree k i r r'
    → (n : ℕ) (o o' : Outcome A) → n ≤ k → Tied n i o o' → Tied n i (or_else o r) (or_else o' r')
or_else-tied k i r r' s n (Done a left) o' h t = rw t.1 (t.0, refl)
or_else-tied k i r r' s n (Refused e left) o' h t =
    rw t.1 (tied-from left n i (r left) (r' (left + i)) t.0 (s.at left (omega (arith, t.0))))
or_else-tied k i r r' s n Spent o' h t = λ e. rw (t e) refl

pub tried-agree : {A : Type 0} (k i : ℕ) (m m' r r' : Charged A) → Agree k i m m' → Agree k i r r' → Agree k i (tried m r) (tried m' r')
tried-agree k i m m' r r' t s = record { at = λ n h. or_else-tied k i r r' s n (m n) (m' (n + i)) h (t.at n h) }

-- a choice
pub if-agree : {A : Type 0} (k i : ℕ) (b : Bool) (m m' r r' : Charged A) → Agree k i m m' → Agree k i r r'
    → Agree k i (if b then m else r) (if b then m' else r')
if-agree k i true m m' r r' h s = h
if-agree k i false m m' r r' h s = s

-- no more is left than was given
pub tied-rest : {A : Type 0} (n : ℕ) (o o' : Outcome A) → Tied n 0 o o' → rest o ≤ n
tied-rest n (Done a left) o' t = t.0
tied-rest n (Refused r left) o' t = t.0
tied-rest n Spent o' t = omega arith

pub agree-rest : {A : Type 0} (m : Charged A) (n : ℕ) → Agree n 0 m m → rest (m n) ≤ n
agree-rest m n h = tied-rest n _ _ (h.at n (omega arith))

-- sequences in a row
pub then-then : {A B C : Type 0} (o : Outcome A) (f : A → Charged B) (g : B → Charged C) → and_then (and_then o f) g ≡ and_then o (λ a l. and_then (f a l) g)
then-then (Done a left) f g = refl
then-then (Refused r left) f g = refl
then-then Spent f g = refl

-- a sequence leaves no more than its first part
pub then-rest : {A B : Type 0} (o : Outcome A) (f : A → Charged B) → ((a : A) (l : ℕ) → rest (f a l) ≤ l) → rest (and_then o f) ≤ rest o
then-rest (Done a left) f h = h a left
then-rest (Refused r left) f h = omega arith
then-rest Spent f h = omega arith

pub charge-rest : {A : Type 0} (m : Charged A) → ((l : ℕ) → rest (m l) ≤ l) → (l : ℕ) → rest (charge m l) ≤ l
charge-rest m h zero = omega arith
charge-rest m h (suc l) = omega (arith, h l)
