-- Instances: every assigned metavariable replaced by its body under its terms, through and through.
use Rattle.std.specs.Prelude.{◌≡◌, ℕ, List, [], ◌∷◌, Option, Some, None}
use Rattle.mt_term.specs.declared.universes.Sort.{Sort as AnySort}
use Rattle.mt_term.specs.Trees.{Tree, Trees, Arms, Bytes, Var, Sort, Prod, Lam, App, Const, Ind}
use Rattle.mt_term.specs.Trees.{Con, Match, Meta, End, Item, NoArm, Arm}
use Rattle.mt_term.specs.Substitution.{under}
use Rattle.mt_term.specs.Stores.{Declared, Store, body_of}

mutual
  -- the second term is the instance of the first
  pub data InstanceOf (S : Store) : Tree → Tree → Type 0 where
    inst_var : {i : ℕ} → InstanceOf S (Var i) (Var i)
    inst_sort : {s : AnySort} → InstanceOf S (Sort s) (Sort s)
    inst_prod : {x : Bytes} {A A' B B' : Tree}
        → InstanceOf S A A' → InstanceOf S B B'
        → InstanceOf S (Prod x A B) (Prod x A' B')
    inst_lam : {x : Bytes} {A A' b b' : Tree}
        → InstanceOf S A A' → InstanceOf S b b'
        → InstanceOf S (Lam x A b) (Lam x A' b')
    inst_app : {f f' a a' : Tree}
        → InstanceOf S f f' → InstanceOf S a a'
        → InstanceOf S (App f a) (App f' a')
    inst_const : {c : ℕ} → InstanceOf S (Const c) (Const c)
    inst_ind : {e : ℕ} → InstanceOf S (Ind e) (Ind e)
    inst_con : {e k : ℕ} → InstanceOf S (Con e k) (Con e k)
    inst_match : {e : ℕ} {R R' c c' : Tree} {bs bs' : Arms}
        → InstanceOf S R R' → InstanceOf S c c' → InstanceArms S bs bs'
        → InstanceOf S (Match e R c bs) (Match e R' c' bs')
    -- a metavariable without a body stays
    inst_open : {n : ℕ} {s s' : Trees}
        → body_of (S.at n) ≡ None → InstanceAll S s s'
        → InstanceOf S (Meta n s) (Meta n s')
    -- an assigned one is the instance of its body under the instances of its terms
    inst_assigned : {n : ℕ} {s s' : Trees} {b b' : Tree}
        → body_of (S.at n) ≡ Some b → InstanceOf S b b' → InstanceAll S s s'
        → InstanceOf S (Meta n s) (under s' b')

  -- term by term
  pub data InstanceAll (S : Store) : Trees → Trees → Type 0 where
    inst_end : InstanceAll S End End
    inst_item : {t t' : Tree} {s s' : Trees}
        → InstanceOf S t t' → InstanceAll S s s'
        → InstanceAll S (Item t s) (Item t' s')

  -- branch by branch
  pub data InstanceArms (S : Store) : Arms → Arms → Type 0 where
    inst_no_arm : InstanceArms S NoArm NoArm
    inst_arm : {xs : List Bytes} {b b' : Tree} {bs bs' : Arms}
        → InstanceOf S b b' → InstanceArms S bs bs'
        → InstanceArms S (Arm xs b bs) (Arm xs b' bs')

-- hypothesis by hypothesis
pub data InstanceContext (S : Store) : List Tree → List Tree → Type 0 where
  inst_empty : InstanceContext S [] []
  inst_hypothesis : {Γ Γ' : List Tree} {A A' : Tree}
      → InstanceContext S Γ Γ' → InstanceOf S A A'
      → InstanceContext S (A ∷ Γ) (A' ∷ Γ')

-- an open metavariable with the instances of its context and type
pub record OpenInstance (S : Store) (d c : Declared) : Type 0 where
  pub opened : c.body ≡ None
  pub context : InstanceContext S (d.context) (c.context)
  pub ty : InstanceOf S (d.ty) (c.ty)

-- The second store is the instance of the first: its open metavariables alone, under their numbers,
-- with the instances of their contexts and types.
pub record InstanceOfStore (S S' : Store) : Type 0 where
  pub absent : (n : ℕ) → S.at n ≡ None → S'.at n ≡ None
  pub assigned : (n : ℕ) (d : Declared) (b : Tree)
      → S.at n ≡ Some d → d.body ≡ Some b
      → S'.at n ≡ None
  pub opened : (n : ℕ) (d : Declared)
      → S.at n ≡ Some d → d.body ≡ None
      → (c : Declared) × (S'.at n ≡ Some c) × OpenInstance S d c
