-- The guard of recursive and corecursive functions.
--
-- Guard of f at place r. It is judged without reduction, on the body under its binders, whose types
-- do not mention f. The type of the binder at r is, as it stands, an inductive (not coinductive)
-- type on arguments. A set of smaller variables starts empty. f occurs only on arguments of which
-- the one at place r is a smaller variable or an application of one; the arguments are guarded too.
-- In a match whose matched term is the variable at r, a smaller variable or an application of one,
-- the branch variables at recursive places join the set in their branch. All other parts are
-- guarded part by part.
--
-- Guard of a corecursive f. Its result type is, as it stands, a coinductive type on arguments. The
-- body is under no constructor: f does not occur in it; or it is an abstraction without f in its
-- type and with such a body; or a match, without f in the motive and the matched term, whose motive
-- is, as it stands, abstractions and then a coinductive type on arguments, with such bodies; or a
-- constructor of a coinductive type whose arguments do not mention f but at recursive places, where
-- each is such a term or f on arguments without f.
use Rattle.std.specs.Prelude.{◌≡◌, ◌≢◌, ◌<◌, ℕ, zero, suc, ◌-◌, Bool, true, false}
use Rattle.std.specs.Prelude.{List, [], ◌∷◌, Some, None, slice_get}
use Rattle.mt_term.specs.declared.universes.Sort.{Sort as AnySort}
use Rattle.mt_term.specs.Trees.{Tree, Trees, Arms, Bytes, Var, Sort, Prod, Lam, App}
use Rattle.mt_term.specs.Trees.{Const, Ind, Con, Match, Meta, End, Item, NoArm, Arm}
use Rattle.mt_term.specs.Substitution.{apps, products}
use Rattle.mt_term.specs.Declarations.{Constructor, Inductive, Environment, constructor_at}
use Rattle.mt_calculus.specs.Contraction.{ItemAt, ConstructorOf}
use Rattle.mt_calculus.specs.Positivity.{Avoids, AvoidsAll, RecursiveArgument}

-- What is known of a variable: it is the one at place r, or smaller than that one, or neither.
pub data Mark : Type 0 where
  Place : Mark
  Smaller : Mark
  Other : Mark

-- Further variables of which nothing is known.
abbrev pub others : List Bytes → List Mark → List Mark
others [] ms = ms
others (x ∷ xs) ms = others xs (Other ∷ ms)

-- A smaller variable, or an application of one.
pub data IsSmaller (ms : List Mark) : Tree → Type 0 where
  smaller : (i : ℕ) (us : Trees)
      → slice_get ms i ≡ Some Smaller
      → IsSmaller ms (apps (Var i) us)

-- The variable at place r, a smaller one, or an application of a smaller one.
pub data IsOpened (ms : List Mark) : Tree → Type 0 where
  at_place : {i : ℕ} → slice_get ms i ≡ Some Place → IsOpened ms (Var i)
  at_smaller : {t : Tree} → IsSmaller ms t → IsOpened ms t

-- ---- the variables of a branch

-- The marks of a branch's variables before others, by the rest of its constructor's type, of type e
-- with p parameters. So many parameters are left, and so many arguments passed.
pub data MarkedBy (e p indices : ℕ)
    : ℕ → ℕ → Tree → List Bytes → List Mark → List Mark → Type 0 where
  -- no name is left
  no_name : {l d : ℕ} {C : Tree} {ms : List Mark}
      → MarkedBy e p indices l d C [] ms ms
  -- a parameter has no variable
  past_parameter : {l d : ℕ} {y x : Bytes} {A C : Tree} {xs : List Bytes} {ms ms' : List Mark}
      → MarkedBy e p indices l d C (x ∷ xs) ms ms'
      → MarkedBy e p indices (suc l) d (Prod y A C) (x ∷ xs) ms ms'
  -- the variable of a recursive place is smaller
  recursive_name : {d : ℕ} {y x : Bytes} {A C : Tree} {xs : List Bytes} {ms ms' : List Mark}
      → RecursiveArgument e p indices d A
      → MarkedBy e p indices zero (suc d) C xs (Smaller ∷ ms) ms'
      → MarkedBy e p indices zero d (Prod y A C) (x ∷ xs) ms ms'
  -- the variable of another argument is not
  other_name : {d : ℕ} {y x : Bytes} {A C : Tree} {xs : List Bytes} {ms ms' : List Mark}
      → (RecursiveArgument e p indices d A → ⊥)
      → MarkedBy e p indices zero (suc d) C xs (Other ∷ ms) ms'
      → MarkedBy e p indices zero d (Prod y A C) (x ∷ xs) ms ms'
  -- nor is one without an argument
  no_argument : {l d : ℕ} {x : Bytes} {C : Tree} {xs : List Bytes} {ms ms' : List Mark}
      → products C ≡ zero
      → MarkedBy e p indices l d C xs (Other ∷ ms) ms'
      → MarkedBy e p indices l d C (x ∷ xs) ms ms'

-- The marks in branch k of a match on type e.
pub data BranchMarks (E : Environment) (e k : ℕ) (xs : List Bytes) (ms : List Mark)
    : List Mark → Type 0 where
  of_constructor : {C : Tree} {ms' : List Mark} → (o : ConstructorOf E e k C)
      → MarkedBy e o.params (products o.ty - o.params) o.params zero C xs ms ms'
      → BranchMarks E e k xs ms ms'
  of_none : constructor_at (E.entries) e k ≡ None → BranchMarks E e k xs ms (others xs ms)

-- ---- recursive functions

mutual
  -- A term is guarded for the recursive function f of place r.
  pub data Guarded (E : Environment) (f r : ℕ) : List Mark → Tree → Type 0 where
    --  a is the argument at place r    a is smaller    the arguments are guarded
    -- --------------------------------------------------------------------------- (call)
    --                             f on arguments
    guarded_call : {ms : List Mark} {a : Tree} (s : Trees)
        → ItemAt a s r → IsSmaller ms a → GuardedAll E f r ms s
        → Guarded E f r ms (apps (Const f) s)
    --  c is opened    R and c are guarded    so is each body, with the marks of its branch
    -- ------------------------------------------------------------------------------------- (open)
    --                           match c return R with bodies
    guarded_cases : {ms : List Mark} {e : ℕ} {R c : Tree} {bs : Arms}
        → IsOpened ms c → Guarded E f r ms R → Guarded E f r ms c
        → GuardedBranches E f r e zero ms bs
        → Guarded E f r ms (Match e R c bs)
    --  c is not opened    R, c and each body are guarded
    -- --------------------------------------------------- (another match)
    --           match c return R with bodies
    guarded_match : {ms : List Mark} {e : ℕ} {R c : Tree} {bs : Arms}
        → (IsOpened ms c → ⊥) → Guarded E f r ms R → Guarded E f r ms c
        → GuardedArms E f r ms bs
        → Guarded E f r ms (Match e R c bs)
    -- any other term is guarded where its parts are; f alone is not
    guarded_var : {ms : List Mark} {i : ℕ} → Guarded E f r ms (Var i)
    guarded_sort : {ms : List Mark} {s : AnySort} → Guarded E f r ms (Sort s)
    guarded_prod : {ms : List Mark} {x : Bytes} {A B : Tree}
        → Guarded E f r ms A → Guarded E f r (Other ∷ ms) B
        → Guarded E f r ms (Prod x A B)
    guarded_lam : {ms : List Mark} {x : Bytes} {A b : Tree}
        → Guarded E f r ms A → Guarded E f r (Other ∷ ms) b
        → Guarded E f r ms (Lam x A b)
    guarded_app : {ms : List Mark} {t a : Tree}
        → Guarded E f r ms t → Guarded E f r ms a
        → Guarded E f r ms (App t a)
    guarded_const : {ms : List Mark} {c : ℕ} → c ≢ f → Guarded E f r ms (Const c)
    guarded_ind : {ms : List Mark} {e : ℕ} → Guarded E f r ms (Ind e)
    guarded_con : {ms : List Mark} {e k : ℕ} → Guarded E f r ms (Con e k)
    guarded_meta : {ms : List Mark} {n : ℕ} {s : Trees}
        → GuardedAll E f r ms s
        → Guarded E f r ms (Meta n s)

  -- Each term of a list is guarded.
  pub data GuardedAll (E : Environment) (f r : ℕ) : List Mark → Trees → Type 0 where
    guarded_end : {ms : List Mark} → GuardedAll E f r ms End
    guarded_item : {ms : List Mark} {t : Tree} {s : Trees}
        → Guarded E f r ms t → GuardedAll E f r ms s
        → GuardedAll E f r ms (Item t s)

  -- Each branch body is guarded.
  pub data GuardedArms (E : Environment) (f r : ℕ) : List Mark → Arms → Type 0 where
    guarded_no_arm : {ms : List Mark} → GuardedArms E f r ms NoArm
    guarded_arm : {ms : List Mark} {xs : List Bytes} {b : Tree} {bs : Arms}
        → Guarded E f r (others xs ms) b → GuardedArms E f r ms bs
        → GuardedArms E f r ms (Arm xs b bs)

  -- Each branch body, from number k on, is guarded with the marks of its branch.
  pub data GuardedBranches (E : Environment) (f r : ℕ) : ℕ → ℕ → List Mark → Arms → Type 0 where
    guarded_no_branch : {e k : ℕ} {ms : List Mark} → GuardedBranches E f r e k ms NoArm
    guarded_branch : {e k : ℕ} {ms ms' : List Mark} {xs : List Bytes} {b : Tree} {bs : Arms}
        → BranchMarks E e k xs ms ms' → Guarded E f r ms' b
        → GuardedBranches E f r e (suc k) ms bs
        → GuardedBranches E f r e k ms (Arm xs b bs)

-- An inductive, or a coinductive, type on arguments.
pub data OnType (E : Environment) (co : Bool) : Tree → Type 0 where
  on_type : (e : ℕ) {x : Bytes} {p : ℕ} {T : Tree} {cs : List Constructor} {l : Bool} (us : Trees)
      → slice_get (E.entries) e ≡ Some (Inductive x co p T cs l)
      → OnType E co (apps (Ind e) us)

-- The body of f is guarded under its binders, of which so many are left and so many passed.
pub data GuardedUnder (E : Environment) (f r : ℕ) : ℕ → ℕ → List Mark → Tree → Type 0 where
  --  b is guarded
  -- -------------- (no binder is left)
  --       b
  past_binders : {j : ℕ} {ms : List Mark} {b : Tree}
      → Guarded E f r ms b
      → GuardedUnder E f r zero j ms b
  --  f not in A    A is an inductive type on arguments    b, where x is the one at place r
  -- --------------------------------------------------------------------------------------- (place)
  --                                     λx:A.b
  place_binder : {n j : ℕ} {ms : List Mark} {x : Bytes} {A b : Tree}
      → j ≡ r → Avoids f A → OnType E false A
      → GuardedUnder E f r n (suc j) (Place ∷ ms) b
      → GuardedUnder E f r (suc n) j ms (Lam x A b)
  --  f not in A    b, where nothing is known of x
  -- ---------------------------------------------- (another place)
  --                    λx:A.b
  other_binder : {n j : ℕ} {ms : List Mark} {x : Bytes} {A b : Tree}
      → j ≢ r → Avoids f A
      → GuardedUnder E f r n (suc j) (Other ∷ ms) b
      → GuardedUnder E f r (suc n) j ms (Lam x A b)

-- A recursive function, entry f with n binders and the recursive place r, is guarded.
abbrev pub GuardedRecursive : Environment → ℕ → ℕ → ℕ → Tree → Type 0
GuardedRecursive E f n r b = (r < n) × GuardedUnder E f r n zero [] b

-- ---- corecursive functions

-- A motive is, as it stands, abstractions and then a coinductive type on arguments.
pub data CoinductiveMotive (E : Environment) : Tree → Type 0 where
  motive_type : {T : Tree} → OnType E true T → CoinductiveMotive E T
  motive_past : {x : Bytes} {A R : Tree}
      → CoinductiveMotive E R
      → CoinductiveMotive E (Lam x A R)

mutual
  -- A term is guarded for the corecursive function f, where it stands under no constructor.
  pub data UnderNoConstructor (E : Environment) (f : ℕ) : Tree → Type 0 where
    --  f not in t
    -- ------------ (without f)
    --      t
    absent : {t : Tree} → Avoids f t → UnderNoConstructor E f t
    --  f not in A    b
    -- ----------------- (abstraction)
    --      λx:A.b
    under_lam : {x : Bytes} {A b : Tree}
        → Avoids f A → UnderNoConstructor E f b
        → UnderNoConstructor E f (Lam x A b)
    --  f not in R    R is abstractions and a coinductive type    f not in c    each body
    -- ----------------------------------------------------------------------------------- (match)
    --                          match c return R with bodies
    under_match : {e : ℕ} {R c : Tree} {bs : Arms}
        → Avoids f R → CoinductiveMotive E R → Avoids f c → ArmsUnderNoConstructor E f bs
        → UnderNoConstructor E f (Match e R c bs)
    --  type e is coinductive    C is the type of its constructor k    s is under it
    -- ------------------------------------------------------------------------------ (constructor)
    --                           constructor k of e on s
    under_con : (e k : ℕ) {x name : Bytes} {p : ℕ} {T C : Tree} {cs : List Constructor} {l : Bool}
        (s : Trees)
        → slice_get (E.entries) e ≡ Some (Inductive x true p T cs l)
        → slice_get cs k ≡ Some (record { name = name; ty = C })
        → UnderConstructor E f e p (products T - p) p zero C s
        → UnderNoConstructor E f (apps (Con e k) s)

  -- So is each branch body.
  pub data ArmsUnderNoConstructor (E : Environment) (f : ℕ) : Arms → Type 0 where
    no_arm_under : ArmsUnderNoConstructor E f NoArm
    arm_under : {xs : List Bytes} {b : Tree} {bs : Arms}
        → UnderNoConstructor E f b → ArmsUnderNoConstructor E f bs
        → ArmsUnderNoConstructor E f (Arm xs b bs)

  -- The arguments of a constructor of type e with p parameters, by the rest of the constructor's
  -- type. So many parameters are left, and so many arguments passed.
  pub data UnderConstructor (E : Environment) (f : ℕ)
      : ℕ → ℕ → ℕ → ℕ → ℕ → Tree → Trees → Type 0 where
    -- further arguments do not mention f
    past_types : {e p indices l d : ℕ} {C : Tree} (s : Trees)
        → AvoidsAll f s
        → UnderConstructor E f e p indices l d C s
    -- nor does a parameter
    at_parameter : {e p indices l d : ℕ} {y : Bytes} {A C a : Tree} {s : Trees}
        → Avoids f a → UnderConstructor E f e p indices l d C s
        → UnderConstructor E f e p indices (suc l) d (Prod y A C) (Item a s)
    -- nor does an argument
    at_other : {e p indices d : ℕ} {y : Bytes} {A C a : Tree} {s : Trees}
        → Avoids f a → UnderConstructor E f e p indices zero (suc d) C s
        → UnderConstructor E f e p indices zero d (Prod y A C) (Item a s)
    -- but at a recursive place: there it is guarded under no constructor
    at_recursive : {e p indices d : ℕ} {y : Bytes} {A C a : Tree} {s : Trees}
        → RecursiveArgument e p indices d A → UnderNoConstructor E f a
        → UnderConstructor E f e p indices zero (suc d) C s
        → UnderConstructor E f e p indices zero d (Prod y A C) (Item a s)
    -- or f on arguments without f
    at_call : {e p indices d : ℕ} {y : Bytes} {A C : Tree} (us : Trees) {s : Trees}
        → RecursiveArgument e p indices d A → AvoidsAll f us
        → UnderConstructor E f e p indices zero (suc d) C s
        → UnderConstructor E f e p indices zero d (Prod y A C) (Item (apps (Const f) us) s)

-- A type's result past n products is a coinductive type on arguments.
pub data CoinductiveResult (E : Environment) : ℕ → Tree → Type 0 where
  result_here : {T : Tree} → OnType E true T → CoinductiveResult E zero T
  result_past : {n : ℕ} {x : Bytes} {A B : Tree}
      → CoinductiveResult E n B
      → CoinductiveResult E (suc n) (Prod x A B)

-- A corecursive function, entry f with n binders and the type T, is guarded.
abbrev pub GuardedCorecursive : Environment → ℕ → ℕ → Tree → Tree → Type 0
GuardedCorecursive E f n T b = CoinductiveResult E n T × UnderNoConstructor E f b
