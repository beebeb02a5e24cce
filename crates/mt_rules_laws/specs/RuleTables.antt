-- The rules with charges, as tables: what the weak head, the normal form, the comparison and the
-- inferred type of each term are, by those of its parts. WeakHead, Comparison and Inference define
-- them so that they end; these equations are what their definitions say.
use Rattle.std.specs.Prelude.{◌≡◌, ℕ, zero, suc, List, [], ◌∷◌, Option, Some, None, slice_get}
use Rattle.std.specs.Prelude.{Bool, true, false, ◌&&◌, nat_eq, if◌then◌else◌}
use Rattle.mt_term.specs.declared.universes.Sort.{Sort as AnySort}
use Rattle.mt_term.specs.declared.modes.Mode.{Mode}
use Rattle.mt_term.specs.declared.modes.Mode.TheVariants.{Equal, AtMost}
use Rattle.mt_term.specs.Trees.{Bytes, Tree, Trees, Arms, Var, Sort, Prod, Lam, App, Const, Ind}
use Rattle.mt_term.specs.Trees.{Con, Match, Meta, End, Item, NoArm, Arm}
use Rattle.mt_term.specs.Substitution.{ren, sub, one, then_as, beyond, under, apps, join, count}
use Rattle.mt_term.specs.Declarations.{Hypothesis, Constructor, Declaration, Definition, Recursive}
use Rattle.mt_term.specs.Declarations.{Environment, constructor_at}
use Rattle.mt_rules.specs.Charges.{Charged, give, ◌>>=◌, charge}
use Rattle.mt_term.specs.Spines.{on_args, item_at, motive_on_all, at_args}
use Rattle.mt_term.specs.UniverseForms.{sort_above, sort_of_product}
use Rattle.mt_term.specs.Alike.{is_alike}
use Rattle.mt_term.specs.Stores.{Store, body_of}
use Rattle.mt_rules.specs.WeakHead.{matched, beta, body_under, recursive_step, follow, whd}
use Rattle.mt_rules.specs.WeakHead.{look, paid, step, normal, normal_parts, normal_terms}
use Rattle.mt_rules.specs.WeakHead.{normal_arms}
use Rattle.mt_rules.specs.Comparison.{◌and◌, sorts_fit, same_shapes, convert, heads, spines, terms}
use Rattle.mt_rules.specs.Comparison.{bodies}
use Rattle.mt_rules.specs.Inference.{Family, a_sort, a_product, found, eliminable, checked, agreed}
use Rattle.mt_rules.specs.Inference.{in_range, type_at, constant_type, inductive_type}
use Rattle.mt_rules.specs.Inference.{constructor_type, oldest, as_family, only, may_eliminate}
use Rattle.mt_rules.specs.Inference.{branches_fit, branch_context, branch_type, infer, elimination}
use Rattle.mt_rules.specs.Inference.{as_sort, as_product, sort_of, product_of, type_head, agreement}
use Rattle.mt_rules.specs.Inference.{eliminating, infer_terms, infer_arms}

infix 0 ◌is◌
-- two definitions with charges answer the same at each allowance
abbrev pub ◌is◌ : {A : Type 0} → Charged A → Charged A → Type 0
◌is◌ m o = (n : ℕ) → m n ≡ o n

-- a constant that stays, whatever stands after it
abbrev pub IsOpaque : Option Declaration → Type 0
IsOpaque (Some (Definition x T b)) = ⊥
IsOpaque (Some (Recursive x false m r T b made)) = ⊥
IsOpaque _ = Unit {0}

-- The weak head: steps until there is none, each for one charge. A step is told of a term on
-- arguments s.
pub record WeakHeadTable (E : Environment) (S : Store) : Type 0 where
  pub weak_head : (t : Tree) → whd E S t is look E S t End >>= follow (whd E S) t
  pub one_step : (t : Tree) → step E S t is look E S t End >>= paid
  pub application : (f a : Tree) (s : Trees) → look E S (App f a) s is look E S f (Item a s)
  pub abstraction : (x : Bytes) (A b : Tree) (s : Trees) → look E S (Lam x A b) s is give (beta b s)
  pub definition : (c : ℕ) (s : Trees) (x : Bytes) (T b : Tree)
      → slice_get E.entries c ≡ Some (Definition x T b)
      → look E S (Const c) s is give (Some (apps b s))
  pub recursive : (c : ℕ) (s : Trees) (x : Bytes) (m r : ℕ) (T b : Tree) (made : Bool) (a : Tree)
      → slice_get E.entries c ≡ Some (Recursive x false m r T b made) → item_at s r ≡ Some a
      → look E S (Const c) s is whd E S a >>= (λ d. give (recursive_step E.entries r b s d))
  pub too_few : (c : ℕ) (s : Trees) (x : Bytes) (m r : ℕ) (T b : Tree) (made : Bool)
      → slice_get E.entries c ≡ Some (Recursive x false m r T b made) → item_at s r ≡ None
      → look E S (Const c) s is give None
  pub opaque : (c : ℕ) (s : Trees) → IsOpaque (slice_get E.entries c)
      → look E S (Const c) s is give None
  pub match : (e : ℕ) (R c : Tree) (bs : Arms) (s : Trees)
      → look E S (Match e R c bs) s
      is whd E S c >>= (λ d. give (on_args (matched E.entries e R bs d) s))
  pub metavariable : (n : ℕ) (t s : Trees)
      → look E S (Meta n t) s is give (on_args (body_under (body_of (S.at n)) t) s)
  pub variable : (i : ℕ) (s : Trees) → look E S (Var i) s is give None
  pub sort : (r : AnySort) (s : Trees) → look E S (Sort r) s is give None
  pub product : (x : Bytes) (A B : Tree) (s : Trees) → look E S (Prod x A B) s is give None
  pub inductive : (e : ℕ) (s : Trees) → look E S (Ind e) s is give None
  pub constructor : (e k : ℕ) (s : Trees) → look E S (Con e k) s is give None

-- The normal form: the weak head with each direct part in normal form, left to right.
pub record NormalFormTable (E : Environment) (S : Store) : Type 0 where
  pub normal_form : (t : Tree) → normal E S t is whd E S t >>= normal_parts E S
  pub product : (x : Bytes) (A B : Tree)
      → normal_parts E S (Prod x A B)
      is normal E S A >>= (λ A'. normal E S B >>= (λ B'. give (Prod x A' B')))
  pub abstraction : (x : Bytes) (A b : Tree)
      → normal_parts E S (Lam x A b)
      is normal E S A >>= (λ A'. normal E S b >>= (λ b'. give (Lam x A' b')))
  pub application : (f a : Tree)
      → normal_parts E S (App f a)
      is normal E S f >>= (λ f'. normal E S a >>= (λ a'. give (App f' a')))
  pub match : (e : ℕ) (R c : Tree) (bs : Arms)
      → normal_parts E S (Match e R c bs)
      is normal E S R >>= (λ R'. normal E S c >>= (λ c'.
      normal_arms E S bs >>= (λ bs'. give (Match e R' c' bs'))))
  pub metavariable : (n : ℕ) (s : Trees)
      → normal_parts E S (Meta n s) is normal_terms E S s >>= (λ s'. give (Meta n s'))
  pub variable : (i : ℕ) → normal_parts E S (Var i) is give (Var i)
  pub sort : (r : AnySort) → normal_parts E S (Sort r) is give (Sort r)
  pub constant : (c : ℕ) → normal_parts E S (Const c) is give (Const c)
  pub inductive : (e : ℕ) → normal_parts E S (Ind e) is give (Ind e)
  pub constructor : (e k : ℕ) → normal_parts E S (Con e k) is give (Con e k)
  pub no_term : normal_terms E S End is give End
  pub term : (t : Tree) (s : Trees)
      → normal_terms E S (Item t s)
      is normal E S t >>= (λ t'. normal_terms E S s >>= (λ s'. give (Item t' s')))
  pub no_branch : normal_arms E S NoArm is give NoArm
  pub branch : (xs : List Bytes) (b : Tree) (bs : Arms)
      → normal_arms E S (Arm xs b bs)
      is normal E S b >>= (λ b'. normal_arms E S bs >>= (λ bs'. give (Arm xs b' bs')))

-- a weak head that a spine is compared by: no sort, product or abstraction
abbrev pub IsSpine : Tree → Type 0
IsSpine (Sort s) = ⊥
IsSpine (Prod x A B) = ⊥
IsSpine (Lam x A b) = ⊥
IsSpine _ = Unit {0}

-- two terms of one form
abbrev pub same_form : Tree → Tree → Bool
same_form (Var i) (Var j) = true
same_form (Sort s) (Sort r) = true
same_form (Prod x A B) (Prod y C D) = true
same_form (Lam x A b) (Lam y C d) = true
same_form (App f a) (App g b) = true
same_form (Const c) (Const d) = true
same_form (Ind e) (Ind d) = true
same_form (Con e k) (Con d j) = true
same_form (Match e R c bs) (Match d Q t cs) = true
same_form (Meta n s) (Meta m r) = true
same_form _ _ = false

-- The comparison, one charge each: alike terms are equal, others are compared by their weak heads.
pub record ComparisonTable (E : Environment) (S : Store) : Type 0 where
  pub comparison : (mode : Mode) (t u : Tree)
      → convert E S mode t u is charge (if is_alike t u then give true
      else (whd E S t >>= (λ t'. whd E S u >>= (λ u'. heads E S mode t' u'))))
  pub sort : (mode : Mode) (s r : AnySort)
      → heads E S mode (Sort s) (Sort r) is give (sorts_fit E.below mode s r)
  pub product : (mode : Mode) (x y : Bytes) (A B C D : Tree)
      → heads E S mode (Prod x A B) (Prod y C D) is convert E S Equal A C and convert E S mode B D
  pub abstraction : (mode : Mode) (x y : Bytes) (A b C d : Tree)
      → heads E S mode (Lam x A b) (Lam y C d) is convert E S Equal A C and convert E S Equal b d
  pub apart : (mode : Mode) (t u : Tree) → same_form t u ≡ false → heads E S mode t u is give false
  pub spine : (mode : Mode) (t u : Tree) → IsSpine t → heads E S mode t u is spines E S t u
  pub spines_apart : (t u : Tree) → same_form t u ≡ false → spines E S t u is give false
  pub application : (f a g b : Tree)
      → spines E S (App f a) (App g b) is spines E S f g and convert E S Equal a b
  pub variable : (i j : ℕ) → spines E S (Var i) (Var j) is give (nat_eq i j)
  pub constant : (c d : ℕ) → spines E S (Const c) (Const d) is give (nat_eq c d)
  pub inductive : (e d : ℕ) → spines E S (Ind e) (Ind d) is give (nat_eq e d)
  pub constructor : (e k d j : ℕ)
      → spines E S (Con e k) (Con d j) is give (nat_eq e d && nat_eq k j)
  pub metavariable : (n m : ℕ) (s r : Trees)
      → spines E S (Meta n s) (Meta m r) is (if nat_eq n m then terms E S s r else give false)
  pub match : (e d : ℕ) (R c Q t : Tree) (bs cs : Arms)
      → spines E S (Match e R c bs) (Match d Q t cs)
      is (if nat_eq e d && same_shapes bs cs
      then convert E S Equal R Q and convert E S Equal c t and bodies E S bs cs
      else give false)
  pub no_term : terms E S End End is give true
  pub term : (t u : Tree) (s r : Trees)
      → terms E S (Item t s) (Item u r) is convert E S Equal t u and terms E S s r
  pub no_branch : bodies E S NoArm NoArm is give true
  pub branch : (xs ys : List Bytes) (b c : Tree) (bs cs : Arms)
      → bodies E S (Arm xs b bs) (Arm ys c cs) is convert E S Equal b c and bodies E S bs cs

-- a hypothesis before a context
abbrev pub bound : Bytes → Tree → List Hypothesis → List Hypothesis
bound x A Γ = record { name = x; ty = A } ∷ Γ

-- The inferred type, one charge for each term.
pub record InferenceTable (E : Environment) (S : Store) (Γ : List Hypothesis) : Type 0 where
  pub variable : (i : ℕ) → infer E S Γ (Var i) is charge (found (type_at Γ i))
  pub sort : (s : AnySort) → infer E S Γ (Sort s) is charge (in_range (sort_above s))
  pub constant : (c : ℕ)
      → infer E S Γ (Const c) is charge (found (constant_type (slice_get E.entries c)))
  pub inductive : (e : ℕ)
      → infer E S Γ (Ind e) is charge (found (inductive_type (slice_get E.entries e)))
  pub constructor : (e k : ℕ)
      → infer E S Γ (Con e k) is charge (found (constructor_type (constructor_at E.entries e k)))
  pub product : (x : Bytes) (A B : Tree)
      → infer E S Γ (Prod x A B) is charge (sort_of E S Γ A >>= (λ s.
      sort_of E S (bound x A Γ) B >>= (λ r. give (Sort (sort_of_product s r)))))
  pub abstraction : (x : Bytes) (A b : Tree)
      → infer E S Γ (Lam x A b) is charge (sort_of E S Γ A >>= (λ s.
      infer E S (bound x A Γ) b >>= (λ B. give (Prod x A B))))
  pub application : (f a : Tree)
      → infer E S Γ (App f a) is charge (product_of E S Γ f >>= (λ p.
      infer E S Γ a >>= (λ A. agreement E S Γ AtMost A p.dom >>= (λ z.
      give (sub (one a) p.cod)))))
  pub match : (e : ℕ) (R c : Tree) (bs : Arms)
      → infer E S Γ (Match e R c bs) is charge (type_head E S Γ c >>= (λ d.
      eliminable (only e (as_family E.entries d)) >>= (λ f. elimination E S Γ f R >>= (λ s.
      checked (branches_fit (count f.params) f.constructors bs) >>= (λ z.
      infer_arms E S Γ f R zero f.constructors bs >>= (λ z.
      give (motive_on_all R (join f.indices (Item c End)))))))))
  pub metavariable : (n : ℕ) (s : Trees)
      → infer E S Γ (Meta n s) is charge (found (S.at n) >>= (λ d.
      infer_terms E S Γ s (oldest d.context []) beyond >>= (λ z. give (under s d.ty))))

-- The parts of inference: a type as a sort and as a product, the sort that a motive answers in, the
-- terms of a metavariable, and the branches of a match.
pub record InferencePartsTable (E : Environment) (S : Store) (Γ : List Hypothesis) : Type 0 where
  pub sort_of_type : (A : Tree) → sort_of E S Γ A is infer E S Γ A >>= as_sort E S
  pub type_as_product : (f : Tree) → product_of E S Γ f is infer E S Γ f >>= as_product E S
  pub as_a_sort : (T : Tree) → as_sort E S T is whd E S T >>= a_sort
  pub as_a_product : (T : Tree) → as_product E S T is whd E S T >>= a_product
  pub head_of_type : (c : Tree) → type_head E S Γ c is infer E S Γ c >>= whd E S
  pub agree : (mode : Mode) (t u : Tree)
      → agreement E S Γ mode t u is convert E S mode t u >>= agreed Γ t u
  pub motive : (f : Family) (R : Tree)
      → elimination E S Γ f R is infer E S Γ R
      >>= eliminating E S Γ f.large f.arity (apps (Ind f.number) f.params)
  pub motive_index : (large : Bool) (x : Bytes) (A B h T : Tree)
      → eliminating E S Γ large (Prod x A B) h T is as_product E S T >>= (λ p.
      agreement E S Γ Equal p.dom A >>= (λ z.
      eliminating E S (bound p.name p.dom Γ) large B (App (ren suc h) (Var zero)) p.cod))
  pub motive_sort : (large : Bool) (r : AnySort) (h T : Tree)
      → eliminating E S Γ large (Sort r) h T is as_product E S T >>= (λ p.
      agreement E S Γ Equal p.dom h >>= (λ z. as_sort E S p.cod >>= (λ s.
      checked (may_eliminate large r s) >>= (λ z. give s))))
  pub no_term : (σ : ℕ → Tree) → infer_terms E S Γ End [] σ is give tt
  pub term : (t A : Tree) (s : Trees) (more : List Tree) (σ : ℕ → Tree)
      → infer_terms E S Γ (Item t s) (A ∷ more) σ is infer E S Γ t >>= (λ u.
      agreement E S Γ AtMost u (sub σ A) >>= (λ z. infer_terms E S Γ s more (then_as t σ)))
  pub no_branch : (f : Family) (R : Tree) (k : ℕ) → infer_arms E S Γ f R k [] NoArm is give tt
  pub branch : (f : Family) (R : Tree) (k : ℕ) (c : Constructor) (cs : List Constructor)
      (xs : List Bytes) (b : Tree) (bs : Arms)
      → infer_arms E S Γ f R k (c ∷ cs) (Arm xs b bs)
      is eliminable (at_args c.ty f.params) >>= (λ u.
      eliminable (branch_type (count f.params) R (apps (Con f.number k) f.params) u xs) >>= (λ v.
      infer E S (branch_context Γ u xs) b >>= (λ t.
      agreement E S (branch_context Γ u xs) AtMost t v >>= (λ z.
      infer_arms E S Γ f R (suc k) cs bs))))

-- the definitions say what the tables say
abbrev pub WeakHeadByTable : Type 0
WeakHeadByTable = (E : Environment) (S : Store) → WeakHeadTable E S

abbrev pub NormalFormByTable : Type 0
NormalFormByTable = (E : Environment) (S : Store) → NormalFormTable E S

abbrev pub ComparisonByTable : Type 0
ComparisonByTable = (E : Environment) (S : Store) → ComparisonTable E S

abbrev pub InferenceByTable : Type 0
InferenceByTable =
    (E : Environment) (S : Store) (Γ : List Hypothesis)
    → InferenceTable E S Γ × InferencePartsTable E S Γ
