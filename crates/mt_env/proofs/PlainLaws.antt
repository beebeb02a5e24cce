-- Ids that stand at a place of what is held.
use Rattle.std.proofs.Common.{ℕ, zero, suc, ◌<◌, List, [], ◌∷◌, length, take, slice_index_or, arith}
use Rattle.mt_pool.specs.declared.held.HeldConstructor.{HeldConstructor}
use Rattle.mt_pool.specs.declared.held.Held.{Held}
use Rattle.mt_pool.specs.HeldOf.{ConstructorsBelow, HeldBelow}
use Rattle.mt_env.specs.Environments.{EntriesBelow}

pub constructor_at : (n : ℕ) (cs : List HeldConstructor) (i : ℕ) (d : HeldConstructor) → ConstructorsBelow n cs → i < length cs → (slice_index_or cs i d).ty.at < n
constructor_at n [] i d h l = absurd (omega arith)
constructor_at n (c ∷ cs) zero d h l = h.0
constructor_at n (c ∷ cs) (suc i) d h l = constructor_at n cs i d h.1 (omega arith)

pub entry_at : (n : ℕ) (es : List Held) (i : ℕ) (d : Held) → EntriesBelow n es → i < length es → HeldBelow n (slice_index_or es i d)
entry_at n [] i d h l = absurd (omega arith)
entry_at n (e ∷ es) zero d h l = h.0
entry_at n (e ∷ es) (suc i) d h l = entry_at n es i d h.1 (omega arith)

pub first_below : (n k : ℕ) (es : List Held) → EntriesBelow n es → EntriesBelow n (take k es)
first_below n zero es h = tt
first_below n (suc k) [] h = tt
first_below n (suc k) (e ∷ es) h = (h.0, first_below n k es h.1)

pub ruleset held_at = (constructor_at, entry_at)
