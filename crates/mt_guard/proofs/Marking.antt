-- Marks of variables one by one, and of the variables of a branch.
use Rattle.std.proofs.Common.{Bool, ℕ, zero, suc, ◌+◌, ◌-◌, ◌<◌, ◌≤◌, ◌≡◌, List, [], ◌∷◌, length, Option, Some, None, slice_get, refl, ap, ◌∙◌, arith}
use Rattle.mt_term.specs.Trees.{Tree, Bytes, Prod}
use Rattle.mt_calculus.specs.Guard.{Mark, Other, others}
use Rattle.mt_term.specs.Declarations.{Declaration, Inductive, Constructor, Environment}
use Rattle.mt_term.specs.Substitution.{products}
use Rattle.mt_positivity.specs.Deciding.{is_recursive}
use Rattle.mt_guard.specs.Deciding.{marks, mark_by, constructor_marks, entry_marks, branch_marks}
use Rattle.mt_guard.specs.Lookups.{Making, made_of, making_of, making_at}
use Rattle.mt_guard.specs.Marking.{other_marks, marks_many}

other-later : (n k : ℕ) (ms : List Mark) → slice_get (other_marks n ms) (n + k) ≡ slice_get ms k
other-later zero k ms = ap (slice_get ms) (omega arith)
other-later (suc n) k ms = ap (slice_get (other_marks n (Other ∷ ms))) (omega arith) ∙ other-later n (suc k) (Other ∷ ms)

pub other-past : (n i : ℕ) (ms : List Mark) → n ≤ i → slice_get (other_marks n ms) i ≡ slice_get ms (i - n)
other-past n i ms h = ap (slice_get (other_marks n ms)) (omega (arith, h)) ∙ other-later n (i - n) ms

other_first : (n i k : ℕ) (ms : List Mark) → i + suc k ≡ n → slice_get (other_marks n ms) i ≡ Some Other
other_first zero i k ms h = absurd (omega (arith, h))
other_first (suc n) i zero ms h = ap (slice_get (other_marks n (Other ∷ ms))) (omega (arith, h)) ∙ other-later n zero (Other ∷ ms)
other_first (suc n) i (suc k) ms h = other_first n i k (Other ∷ ms) (omega (arith, h))

pub other-before : (n i : ℕ) (ms : List Mark) → i < n → slice_get (other_marks n ms) i ≡ Some Other
other-before n i ms h = other_first n i (n - suc i) ms (omega (arith, h))

pub ruleset mark_rules = (other-past, other-before)

pub others-many : (xs : List Bytes) (ms : List Mark) → others xs ms ≡ other_marks (length xs) ms
others-many [] ms = refl
others-many (x ∷ xs) ms = others-many xs (Other ∷ ms)

-- they depend on the number of names alone
pub marks-many : (e p indices l d : ℕ) (C : Tree) (xs : List Bytes) (ms : List Mark) → marks e p indices l d C xs ms ≡ marks_many e p indices l d C (length xs) ms
marks-many e p indices l d C [] ms = refl
marks-many e p indices (suc l) d (Prod y A C) (x ∷ xs) ms = marks-many e p indices l d C (x ∷ xs) ms
marks-many e p indices zero d (Prod y A C) (x ∷ xs) ms = marks-many e p indices zero (suc d) C xs (mark_by (is_recursive e p indices d A) ∷ ms)
marks-many e p indices l d _ (x ∷ xs) ms = others-many xs (Other ∷ ms)

-- the marks of so many variables of a branch, where its constructor is looked up
abbrev making_marks : ℕ → Option Making → ℕ → List Mark → List Mark
making_marks e None n ms = other_marks n ms
making_marks e (Some m) n ms = marks_many e m.params m.indices m.params zero m.constructor n ms

constructor-making : (e p k : ℕ) (co : Bool) (T : Tree) (o : Option Constructor) (xs : List Bytes) (ms : List Mark) → constructor_marks e p T o xs ms ≡ making_marks e (made_of co p T o) (length xs) ms
constructor-making e p k co T None xs ms = others-many xs ms
constructor-making e p k co T (Some c) xs ms = marks-many e p (products T - p) p zero c.ty xs ms

pub entry-making : (e k : ℕ) (d : Option Declaration) (xs : List Bytes) (ms : List Mark) → entry_marks e k d xs ms ≡ making_marks e (making_of d k) (length xs) ms
entry-making e k (Some (Inductive x co p T cs l)) xs ms = constructor-making e p k co T (slice_get cs k) xs ms
entry-making e k _ xs ms = others-many xs ms

-- the marks of a branch by what is looked up of its constructor
pub branch-making : (E : Environment) (e k : ℕ) (xs : List Bytes) (ms : List Mark) → branch_marks E e k xs ms ≡ making_marks e (making_at E e k) (length xs) ms
branch-making E e k xs ms = entry-making e k (slice_get E.entries e) xs ms

pub ruleset branch_rules = (others-many, entry-making, branch-making)
