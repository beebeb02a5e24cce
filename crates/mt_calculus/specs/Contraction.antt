-- Contraction, written t ⟶ u, at any place of a term, over an environment E and a store S.
use Rattle.std.specs.Prelude.{◌≡◌, ℕ, zero, suc, Bool, true, false, List, length, Some, slice_get}
use Rattle.mt_term.specs.Trees.{Tree, Trees, Arms, Bytes, Var, Prod, Lam, App, Const, Con}
use Rattle.mt_term.specs.Trees.{Match, Meta, Item, Arm}
use Rattle.mt_term.specs.Substitution.{sub, one, fill, under, apps, all_but, count, products}
use Rattle.mt_term.specs.Declarations.{Constructor, Definition, Inductive, Recursive, Environment}
use Rattle.mt_term.specs.Stores.{Declared, Store}

-- branch k has these names and this body
pub data ArmAt : Arms → ℕ → List Bytes → Tree → Type 0 where
  arm_here : {xs : List Bytes} {b : Tree} {bs : Arms} → ArmAt (Arm xs b bs) zero xs b
  arm_later : {ys xs : List Bytes} {a b : Tree} {bs : Arms} {k : ℕ} → ArmAt bs k xs b
      → ArmAt (Arm ys a bs) (suc k) xs b

-- a term stands in a list at place r, from 0
pub data ItemAt (a : Tree) : Trees → ℕ → Type 0 where
  item_here : {s : Trees} → ItemAt a (Item a s) zero
  item_later : {t : Tree} {s : Trees} {r : ℕ} → ItemAt a s r → ItemAt a (Item t s) (suc r)

-- entry e is an inductive or coinductive type with these parts
pub record InductiveOf (E : Environment) (e : ℕ) : Type 0 where
  pub name : Bytes
  pub co : Bool
  pub params : ℕ
  pub ty : Tree
  pub cons : List Constructor
  pub large : Bool
  pub entry : slice_get (E.entries) e ≡ Some (Inductive name co params ty cons large)

-- constructor k of entry e has the type C; the parts of the entry
pub record ConstructorOf (E : Environment) (e k : ℕ) (C : Tree) : Type 0 where
  pub name : Bytes
  pub co : Bool
  pub params : ℕ
  pub ty : Tree
  pub cons : List Constructor
  pub large : Bool
  pub con_name : Bytes
  pub entry : slice_get (E.entries) e ≡ Some (Inductive name co params ty cons large)
  pub con : slice_get cons k ≡ Some (record { name = con_name; ty = C })

mutual
  -- one contraction
  pub data Contracts (E : Environment) (S : Store) : Tree → Tree → Type 0 where
    -- An abstraction on an argument.
    --     (λ x : A. b) a  ⟶  b[a]
    beta : {x : Bytes} {A b a : Tree} → Contracts E S (App (Lam x A b) a) (sub (one a) b)
    -- A definition, with the body b.
    --     c  ⟶  b
    delta : {c : ℕ} {x : Bytes} {T b : Tree} → slice_get (E.entries) c ≡ Some (Definition x T b)
        → Contracts E S (Const c) b
    -- A metavariable with the body b.
    --     ?n s  ⟶  b[s]
    assigned : {n : ℕ} {s : Trees} {d : Declared} {b : Tree}
        → S.at n ≡ Some d → d.body ≡ Some b
        → Contracts E S (Meta n s) (under s b)
    -- A match on a constructor with all its arguments: ps for the parameters, and as many us as its
    -- branch (xs. b) has names.
    --     match e R (e.k ps us) bs  ⟶  b[us]
    iota : {e k : ℕ} {C R b : Tree} (s : Trees) {bs : Arms} {xs : List Bytes}
        → (o : ConstructorOf E e k C) → count s ≡ products C → ArmAt bs k xs b
        → length xs ≡ count (all_but o.params s)
        → Contracts E S (Match e R (apps (Con e k) s) bs) (sub (fill (all_but o.params s) Var) b)
    -- A recursive function with the body b, where the term at its place among s is a constructor
    -- with all its arguments.
    --     c s  ⟶  b s
    unfold_rec : (c : ℕ) {n r e k : ℕ} {x : Bytes} {made : Bool} {T b C : Tree} {s : Trees}
        (us : Trees)
        → slice_get (E.entries) c ≡ Some (Recursive x false n r T b made)
        → ItemAt (apps (Con e k) us) s r
        → ConstructorOf E e k C
        → count us ≡ products C
        → Contracts E S (apps (Const c) s) (apps b s)
    -- A corecursive function with the body b, where it is matched on.
    --     match e R (c s) bs  ⟶  match e R (b s) bs
    unfold_co : (c : ℕ) {n r e : ℕ} {x : Bytes} {made : Bool} {T b R : Tree} (s : Trees)
        {bs : Arms}
        → slice_get (E.entries) c ≡ Some (Recursive x true n r T b made)
        → Contracts E S (Match e R (apps (Const c) s) bs) (Match e R (apps b s) bs)
    -- In one part of a term.
    in_dom : {x : Bytes} {A A' B : Tree} → Contracts E S A A'
        → Contracts E S (Prod x A B) (Prod x A' B)
    in_cod : {x : Bytes} {A B B' : Tree} → Contracts E S B B'
        → Contracts E S (Prod x A B) (Prod x A B')
    in_type : {x : Bytes} {A A' b : Tree} → Contracts E S A A'
        → Contracts E S (Lam x A b) (Lam x A' b)
    in_body : {x : Bytes} {A b b' : Tree} → Contracts E S b b'
        → Contracts E S (Lam x A b) (Lam x A b')
    in_fun : {f f' a : Tree} → Contracts E S f f' → Contracts E S (App f a) (App f' a)
    in_arg : {f a a' : Tree} → Contracts E S a a' → Contracts E S (App f a) (App f a')
    in_return : {e : ℕ} {R R' c : Tree} {bs : Arms} → Contracts E S R R'
        → Contracts E S (Match e R c bs) (Match e R' c bs)
    in_matched : {e : ℕ} {R c c' : Tree} {bs : Arms} → Contracts E S c c'
        → Contracts E S (Match e R c bs) (Match e R c' bs)
    in_arms : {e : ℕ} {R c : Tree} {bs bs' : Arms} → ContractsArms E S bs bs'
        → Contracts E S (Match e R c bs) (Match e R c bs')
    in_terms : {n : ℕ} {s s' : Trees} → ContractsIn E S s s'
        → Contracts E S (Meta n s) (Meta n s')

  -- one contraction in one term of a list
  pub data ContractsIn (E : Environment) (S : Store) : Trees → Trees → Type 0 where
    in_first : {t t' : Tree} {s : Trees} → Contracts E S t t'
        → ContractsIn E S (Item t s) (Item t' s)
    in_rest : {t : Tree} {s s' : Trees} → ContractsIn E S s s'
        → ContractsIn E S (Item t s) (Item t s')

  -- one contraction in the body of one branch
  pub data ContractsArms (E : Environment) (S : Store) : Arms → Arms → Type 0 where
    in_arm : {xs : List Bytes} {b b' : Tree} {bs : Arms} → Contracts E S b b'
        → ContractsArms E S (Arm xs b bs) (Arm xs b' bs)
    in_later : {xs : List Bytes} {b : Tree} {bs bs' : Arms} → ContractsArms E S bs bs'
        → ContractsArms E S (Arm xs b bs) (Arm xs b bs')
