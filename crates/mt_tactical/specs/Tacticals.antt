-- Closed tacticals as trees that know no pointers.
use Rattle.std.specs.Prelude.{ℕ, Bool, List}
use Rattle.mt_tactical.specs.declared.Pick.{Pick}

mutual
  -- items in the order written
  pub data Sequence (A : Type 0) : Type 0 where
    End : Sequence A
    Item : Step A → Sequence A → Sequence A

  pub data Step (A : Type 0) : Type 0 where
    Action : ℕ → A → Step A
    Skip : ℕ → Step A
    Semicolon : ℕ → Step A
    Dot : ℕ → Step A
    -- the branches, and the place of `]`
    Branches : Choices A → ℕ → Step A
    -- the place of `focus`, the numbers, whether the first sign is `.`, its place, the body, and the place of `unfocus`
    Focus : ℕ → List ℕ → Bool → ℕ → Sequence A → ℕ → Step A

  pub data Choices (A : Type 0) : Type 0 where
    NoBranch : Choices A
    Branch : ℕ → Pick → Sequence A → Choices A → Choices A
