-- Sound stores.
use Rattle.std.specs.Prelude.{◌≡◌, ℕ, Some, true}
use Rattle.mt_term.specs.Trees.{Tree}
use Rattle.mt_term.specs.Declarations.{Environment}
use Rattle.mt_term.specs.Stores.{Declared, Store, Owned, Below}
use Rattle.mt_calculus.specs.Typing.{IsContext, IsType, Has, Holds}

-- a store is the part of another that a set holds
pub record Part (S : Store) (P : ℕ → Type 0) (T : Store) : Type 0 where
  pub held : (m : ℕ) (d : Declared) → T.at m ≡ Some d → P m × (S.at m ≡ Some d)
  pub all : (m : ℕ) (d : Declared) → P m → S.at m ≡ Some d → T.at m ≡ Some d

-- Metavariable n is sound: it is not below itself; and over the part of the store that is below it,
-- its context is a context, its type is a type in it, and a body of it has that type in it.
pub record SoundMetavariable (E : Environment) (S : Store) (n : ℕ) (d : Declared) : Type 0 where
  pub apart : Below S d n → ⊥
  pub part : Store
  pub is_part : Part S (Below S d) part
  pub context : Holds E true part (d.context) IsContext
  pub ty : Holds E true part (d.context) (IsType (d.ty))
  pub body : (b : Tree) → d.body ≡ Some b → Holds E true part (d.context) (Has b (d.ty))

-- a store is sound: it mentions its own metavariables alone, and each of them is sound
pub record SoundStore (E : Environment) (S : Store) : Type 0 where
  pub owned : Owned S
  pub metavariables : (n : ℕ) (d : Declared) → S.at n ≡ Some d → SoundMetavariable E S n d
