-- Terms as definitions speak of them: trees.
use Rattle.std.specs.Prelude.{ℕ, List}
use Rattle.mt_term.specs.declared.universes.Sort.{Sort as AnySort}

-- a name, as its bytes
abbrev pub Bytes : Type 0
Bytes = List ℕ

mutual
  -- variables are counted from the innermost binder; a match has its type's number, the return
  -- function, the matched term and the branches
  pub data Tree : Type 0 where
    Var : ℕ → Tree
    Sort : AnySort → Tree
    Prod : Bytes → Tree → Tree → Tree
    Lam : Bytes → Tree → Tree → Tree
    App : Tree → Tree → Tree
    Const : ℕ → Tree
    Ind : ℕ → Tree
    Con : ℕ → ℕ → Tree
    Match : ℕ → Tree → Tree → Arms → Tree
    Meta : ℕ → Trees → Tree

  -- a list of trees, as the terms of a metavariable: oldest hypothesis first
  pub data Trees : Type 0 where
    End : Trees
    Item : Tree → Trees → Trees

  -- the branches of a match: the names that a body stands under, oldest first, and the body
  pub data Arms : Type 0 where
    NoArm : Arms
    Arm : List Bytes → Tree → Arms → Arms
