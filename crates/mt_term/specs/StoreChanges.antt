-- How stores change: one extends another, and one is another but for one metavariable.
use Rattle.std.specs.Prelude.{◌≡◌, ◌≢◌, ℕ, Some}
use Rattle.mt_term.specs.Trees.{Tree}
use Rattle.mt_term.specs.Stores.{Declared, Store}

-- a metavariable is kept: it has the same context and type, and its body if it has one
pub record Kept (d c : Declared) : Type 0 where
  pub context : c.context ≡ d.context
  pub ty : c.ty ≡ d.ty
  pub body : (b : Tree) → d.body ≡ Some b → c.body ≡ Some b

-- a store extends another: each metavariable of that one is kept in it
abbrev pub Extends : Store → Store → Type 0
Extends S S' =
    (n : ℕ) (d : Declared) → S.at n ≡ Some d → (c : Declared) × (S'.at n ≡ Some c) × Kept d c

-- a store is another but for metavariable n, which is d
pub record Puts (S : Store) (n : ℕ) (d : Declared) (S' : Store) : Type 0 where
  pub new : S'.at n ≡ Some d
  pub others : (m : ℕ) → n ≢ m → S'.at m ≡ S.at m

-- an open metavariable with a body
abbrev pub with_body : Declared → Tree → Declared
with_body d v = record { context = d.context; ty = d.ty; body = Some v }
