-- The last constructor of an entry.
use Rattle.std.specs.Prelude.{ℕ, ◌-◌, ◌<◌, List, length, IfSome, slice_get}
use Rattle.mt_term.specs.Trees.{Tree}
use Rattle.mt_term.specs.Declarations.{Constructor, Declaration, Inductive}
use Rattle.mt_calculus.specs.Positivity.{Positive}
use Rattle.mt_pool.specs.declared.held.Held.{Held}
use Rattle.mt_pool.specs.declared.held.Held.TheVariants.{Inductive as HeldInductive}

-- an inductive type with a constructor
abbrev pub HasConstructor : Held → Type 0
HasConstructor (HeldInductive name co params ty cons large) = 0 < length cons
HasConstructor _ = ⊥

-- the last of these constructors of type n is positive
abbrev pub IsPositiveLast : ℕ → ℕ → Tree → List Constructor → Type 0
IsPositiveLast n p T cs = IfSome (slice_get cs (length cs - 1)) (λ c. Positive n p T c.ty)

-- the last constructor of the inductive type n is positive
abbrev pub LastIsPositive : ℕ → Declaration → Type 0
LastIsPositive n (Inductive x co p T cs l) = IsPositiveLast n p T cs
LastIsPositive n _ = ⊥
