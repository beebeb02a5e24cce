-- The typing judgements over an environment E and a store S, by their rules.
--
-- A context Γ is a list of types, innermost first. What is judged in it, and how rules write it:
--
--     ⊢ Γ                      it is a context                                  IsContext
--     Γ ⊢ T type               T is a type                                      IsType T
--     Γ ⊢ t : T                t has the type T                                 Has t T
--     Γ ⊢ t stands             t is typed, a type, or a part or reduct of such  Stands t
--     Γ ⊢ bs fit from k        the branches bs fit the constructors from number
--                              k on of type e at parameters ps, motive R        Fitting e R ps k bs
--     Γ ⊢ xs. b fits c : T     the branch body b under the names xs fits c, a
--                              constructor on what is bound so far, of type T   Body e p R c T xs b
--
-- Prod x A B is written Π x : A. B, Lam x A b is λ x : A. b, App f a is f a, and apps t s is t s;
-- B[a] is B with a for its innermost variable; B[s] is B with the terms s for all its variables;
-- t↑ is t with one more hypothesis before its own variables.
use Rattle.std.specs.Prelude.{max, ◌≡◌, ℕ, zero, suc, Bool, true, false}
use Rattle.std.specs.Prelude.{List, [], ◌∷◌, length, Some, None, slice_get}
use Rattle.mt_term.specs.Trees.{Tree, Trees, Arms, Bytes, Var, Sort, Prod, Lam, App, Const, Ind}
use Rattle.mt_term.specs.Trees.{Con, Match, Meta, End, Item, NoArm, Arm}
use Rattle.mt_term.specs.declared.universes.Sort.{Sort as AnySort}
use Rattle.mt_term.specs.declared.universes.Sort.TheVariants.{Prop, Typ}
use Rattle.mt_term.specs.declared.universes.UnivExpr.{UnivExpr}
use Rattle.mt_term.specs.Universes.{Valuation, value}
use Rattle.mt_term.specs.Substitution.{up_ren, up_rens, ren, ren_all, ren_arms, products}
use Rattle.mt_term.specs.Substitution.{sub, one, fill, beyond, under, apps, join, count}
use Rattle.mt_term.specs.Declarations.{Declaration, Axiom, Definition, Inductive, Recursive}
use Rattle.mt_term.specs.Declarations.{Environment, declared_type}
use Rattle.mt_term.specs.Stores.{Declared, Store, no_store, InStore}
use Rattle.mt_term.specs.Stores.{AllMetas, AllMetasIn, AllMetasArms, AllMetasOf}
use Rattle.mt_calculus.specs.Contraction.{InductiveOf, ConstructorOf, Contracts}
use Rattle.mt_calculus.specs.Conversion.{AtMost}

-- what is judged in a context, as above
pub data Judgement : Type 0 where
  IsContext : Judgement
  IsType : Tree → Judgement
  Has : Tree → Tree → Judgement
  Stands : Tree → Judgement
  -- e, R, ps, k, bs
  Fitting : ℕ → Tree → Trees → ℕ → Arms → Judgement
  -- e, how many parameters it has, R, c, T, xs, b
  Body : ℕ → ℕ → Tree → Tree → Tree → List Bytes → Tree → Judgement

-- variable i of a context has this type, in the whole context
--
--     Look (A ∷ Γ) 0 A↑          Look (B ∷ Γ) (i + 1) T↑  where  Look Γ i T
pub data Look : List Tree → ℕ → Tree → Type 0 where
  here : {A : Tree} {Γ : List Tree} → Look (A ∷ Γ) zero (ren suc A)
  there : {B : Tree} {Γ : List Tree} {i : ℕ} {T : Tree} → Look Γ i T
      → Look (B ∷ Γ) (suc i) (ren suc T)

-- every value of the second expression is that of the first, raised by one
abbrev pub Raised : UnivExpr → UnivExpr → Type 0
Raised U V = (v : Valuation) → value v V ≡ suc (value v U)

-- every value of the third expression is the greater of the values of the first two
abbrev pub Greater : UnivExpr → UnivExpr → UnivExpr → Type 0
Greater U V W = (v : Valuation) → value v W ≡ max (value v U) (value v V)

-- the expression 0
abbrev pub lowest : UnivExpr
lowest = record { base = 0; atoms = [] }

-- the sort of a product, from the sorts of its two parts
--
--     (s, Prop) ⟼ Prop     (Prop, s) ⟼ s     (Type U, Type V) ⟼ Type (max U V)
pub data ProductSort : AnySort → AnySort → AnySort → Type 0 where
  to_prop : {s : AnySort} → ProductSort s Prop Prop
  from_prop : {s : AnySort} → ProductSort Prop s s
  of_types : {U V W : UnivExpr} → Greater U V W → ProductSort (Typ U) (Typ V) (Typ W)

-- a term stands in a list
pub data In (t : Tree) : Trees → Type 0 where
  first : {s : Trees} → In t (Item t s)
  later : {u : Tree} {s : Trees} → In t s → In t (Item u s)

-- a type of products at its first arguments: T at none is T; Π x : A. B at a s is B[a] at s
pub data Instantiated : Tree → Trees → Tree → Type 0 where
  at_none : {T : Tree} → Instantiated T End T
  at_more : {x : Bytes} {A B a T : Tree} {s : Trees} → Instantiated (sub (one a) B) s T
      → Instantiated (Prod x A B) (Item a s) T

-- The type of a motive, where h is the matched type: it takes the indices and a term of h on these.
--
--     h : r  ⟼  Π h. s                 h : Π x : A. B  ⟼  Π x : A. M  where  h↑ x : B  ⟼  M
pub data MotiveType (s : AnySort) : Tree → Tree → AnySort → Tree → Type 0 where
  m_end : {h : Tree} {r : AnySort} → MotiveType s (Sort r) h r (Prod [] h (Sort s))
  m_more : {x : Bytes} {A B h M : Tree} {r : AnySort}
      → MotiveType s B (App (ren suc h) (Var zero)) r M
      → MotiveType s (Prod x A B) h r (Prod x A M)

-- a match on a type of sort r may go into the sort s: from Prop into another where the type is
-- large
abbrev pub Allowed : AnySort → AnySort → Bool → Type 0
Allowed Prop Prop large = Unit {0}
Allowed Prop (Typ U) large = large ≡ true
Allowed (Typ U) s large = Unit {0}

-- an entry that constants name: an axiom, a definition or a recursive function
abbrev pub IsConstant : Declaration → Type 0
IsConstant (Axiom x T) = Unit {0}
IsConstant (Definition x T b) = Unit {0}
IsConstant (Inductive x co p T cs l) = ⊥
IsConstant (Recursive x co n r T b made) = Unit {0}

-- For the two rules that drop what is not mentioned: the variables, with one more at place k,
abbrev pub ins : ℕ → ℕ → ℕ
ins zero = suc
ins (suc k) = up_ren (ins k)

-- a context Γ' that is Γ with the hypothesis A put in at place k, the older ones being Δ,
pub data Insert (A : Tree) (Δ : List Tree) : ℕ → List Tree → List Tree → Type 0 where
  put : Insert A Δ zero Δ (A ∷ Δ)
  keep : {k : ℕ} {B : Tree} {Γ Γ' : List Tree} → Insert A Δ k Γ Γ'
      → Insert A Δ (suc k) (B ∷ Γ) (ren (ins k) B ∷ Γ')

-- a judgement with its variables renamed,
abbrev pub ren_judgement : (ℕ → ℕ) → Judgement → Judgement
ren_judgement ξ IsContext = IsContext
ren_judgement ξ (IsType T) = IsType (ren ξ T)
ren_judgement ξ (Has t T) = Has (ren ξ t) (ren ξ T)
ren_judgement ξ (Stands t) = Stands (ren ξ t)
ren_judgement ξ (Fitting e R ps k bs) = Fitting e (ren ξ R) (ren_all ξ ps) k (ren_arms ξ bs)
ren_judgement ξ (Body e p R c T xs b) =
    Body e p (ren ξ R) (ren ξ c) (ren ξ T) xs (ren (up_rens xs ξ) b)

-- that each metavariable of a judgement is in a set,
abbrev pub JudgementMetas : (ℕ → Type 0) → Judgement → Type 0
JudgementMetas P IsContext = Unit {0}
JudgementMetas P (IsType T) = AllMetas P T
JudgementMetas P (Has t T) = AllMetas P t × AllMetas P T
JudgementMetas P (Stands t) = AllMetas P t
JudgementMetas P (Fitting e R ps k bs) = AllMetas P R × AllMetasIn P ps × AllMetasArms P bs
JudgementMetas P (Body e p R c T xs b) = AllMetas P R × AllMetas P c × AllMetas P T × AllMetas P b

-- and a store S' that is S with further open metavariables, which mention those of S' alone.
pub record Widens (S S' : Store) : Type 0 where
  pub keeps : (n : ℕ) (d : Declared) → S.at n ≡ Some d → S'.at n ≡ Some d
  pub opens : (n : ℕ) (d : Declared) → S.at n ≡ None → S'.at n ≡ Some d → d.body ≡ None
  pub owns : (n : ℕ) (d : Declared)
      → S.at n ≡ None → S'.at n ≡ Some d
      → AllMetasOf (InStore S') d.context × AllMetas (InStore S') d.ty

-- The judgements. Where w is false, the two rules that drop what is not mentioned are left out.
pub data Holds (E : Environment) (w : Bool) : Store → List Tree → Judgement → Type 0 where
  -- Empty context.
  --     ─────
  --      ⊢ ·
  c_empty : {S : Store} → Holds E w S [] IsContext
  -- Hypothesis.
  --     ⊢ Γ     Γ ⊢ A type
  --     ──────────────────
  --         ⊢ Γ, A
  c_cons : {S : Store} {Γ : List Tree} {A : Tree}
      → Holds E w S Γ IsContext → Holds E w S Γ (IsType A)
      → Holds E w S (A ∷ Γ) IsContext
  -- Variable.
  --     ⊢ Γ     T is the type of hypothesis i
  --     ─────────────────────────────────────
  --                  Γ ⊢ i : T
  t_var : {S : Store} {Γ : List Tree} {i : ℕ} {T : Tree}
      → Holds E w S Γ IsContext → Look Γ i T
      → Holds E w S Γ (Has (Var i) T)
  -- Prop.
  --           ⊢ Γ
  --     ─────────────────
  --     Γ ⊢ Prop : Type 0
  t_prop : {S : Store} {Γ : List Tree} → Holds E w S Γ IsContext
      → Holds E w S Γ (Has (Sort Prop) (Sort (Typ lowest)))
  -- Type.
  --       ⊢ Γ     V = U + 1
  --     ─────────────────────
  --      Γ ⊢ Type U : Type V
  t_typ : {S : Store} {Γ : List Tree} {U V : UnivExpr}
      → Holds E w S Γ IsContext → Raised U V
      → Holds E w S Γ (Has (Sort (Typ U)) (Sort (Typ V)))
  -- Product.
  --     Γ ⊢ A : s     Γ, A ⊢ B : s'     (s, s') ⟼ r
  --     ───────────────────────────────────────────
  --                Γ ⊢ Π x : A. B : r
  t_prod : {S : Store} {Γ : List Tree} {x : Bytes} {A B : Tree} {s s' r : AnySort}
      → Holds E w S Γ (Has A (Sort s)) → Holds E w S (A ∷ Γ) (Has B (Sort s')) → ProductSort s s' r
      → Holds E w S Γ (Has (Prod x A B) (Sort r))
  -- Abstraction.
  --       Γ ⊢ A type     Γ, A ⊢ b : B
  --     ───────────────────────────────
  --      Γ ⊢ λ x : A. b : Π x : A. B
  t_lam : {S : Store} {Γ : List Tree} {x : Bytes} {A b B : Tree}
      → Holds E w S Γ (IsType A) → Holds E w S (A ∷ Γ) (Has b B)
      → Holds E w S Γ (Has (Lam x A b) (Prod x A B))
  -- Application.
  --     Γ ⊢ f : Π x : A. B     Γ ⊢ a : A
  --     ────────────────────────────────
  --             Γ ⊢ f a : B[a]
  t_app : {S : Store} {Γ : List Tree} {x : Bytes} {f a A B : Tree}
      → Holds E w S Γ (Has f (Prod x A B)) → Holds E w S Γ (Has a A)
      → Holds E w S Γ (Has (App f a) (sub (one a) B))
  -- Constant.
  --     ⊢ Γ     entry c of E is an axiom, a definition or a recursive function of type T
  --     ────────────────────────────────────────────────────────────────────────────────
  --                                     Γ ⊢ c : T
  t_const : {S : Store} {Γ : List Tree} {c : ℕ} {e : Declaration}
      → Holds E w S Γ IsContext → slice_get (E.entries) c ≡ Some e → IsConstant e
      → Holds E w S Γ (Has (Const c) (declared_type e))
  -- Inductive type.
  --     ⊢ Γ     entry e of E is an inductive or coinductive type of type T
  --     ──────────────────────────────────────────────────────────────────
  --                              Γ ⊢ e : T
  t_ind : {S : Store} {Γ : List Tree} {e : ℕ}
      → Holds E w S Γ IsContext → (o : InductiveOf E e)
      → Holds E w S Γ (Has (Ind e) o.ty)
  -- Constructor.
  --     ⊢ Γ     constructor k of type e has the type C
  --     ──────────────────────────────────────────────
  --                       Γ ⊢ e.k : C
  t_con : {S : Store} {Γ : List Tree} {e k : ℕ} {C : Tree}
      → Holds E w S Γ IsContext → ConstructorOf E e k C
      → Holds E w S Γ (Has (Con e k) C)
  -- Match. The type of e at the parameters ps is U: products over the indices into a sort r. There
  -- are as many ps as e has parameters, and as many is as it has indices.
  --     Γ ⊢ c : e ps is     e ps : U ⟼ M, into s     Γ ⊢ R : M     r may go into s
  --     Γ ⊢ bs fit from 0
  --     ──────────────────────────────────────────────────────────────────────────
  --                       Γ ⊢ match e R c bs : R is c
  t_match : {S : Store} {Γ : List Tree} {e : ℕ} {R c U M : Tree} {ps : Trees} (is : Trees)
      {bs : Arms} {s r : AnySort} (o : InductiveOf E e)
      → count ps ≡ o.params
      → count (join ps is) ≡ products o.ty
      → Holds E w S Γ (Has c (apps (apps (Ind e) ps) is))
      → Instantiated o.ty ps U
      → MotiveType s U (apps (Ind e) ps) r M
      → Holds E w S Γ (Has R M)
      → Allowed r s o.large
      → Holds E w S Γ (Fitting e R ps zero bs)
      → Holds E w S Γ (Has (Match e R c bs) (App (apps R is) c))
  -- No further branch.
  --     ⊢ Γ     type e has no constructor k
  --     ───────────────────────────────────
  --           Γ ⊢ (no branch) fit from k
  f_none : {S : Store} {Γ : List Tree} {e k : ℕ} {R : Tree} {ps : Trees}
      → Holds E w S Γ IsContext → (o : InductiveOf E e) → slice_get o.cons k ≡ None
      → Holds E w S Γ (Fitting e R ps k NoArm)
  -- Branch. The type C of constructor k of type e is U at the parameters ps.
  --     Γ ⊢ xs. b fits e.k ps : U     Γ ⊢ bs fit from k + 1
  --     ───────────────────────────────────────────────────
  --                Γ ⊢ (xs. b), bs fit from k
  f_arm : {S : Store} {Γ : List Tree} {e k : ℕ} {C R U b : Tree} {ps : Trees} {bs : Arms}
      {xs : List Bytes} (o : ConstructorOf E e k C)
      → Instantiated C ps U
      → Holds E w S Γ (Body e o.params R (apps (Con e k) ps) U xs b)
      → Holds E w S Γ (Fitting e R ps (suc k) bs)
      → Holds E w S Γ (Fitting e R ps k (Arm xs b bs))
  -- Branch body, one more argument.
  --     Γ ⊢ A type     Γ, A ⊢ xs. b fits c↑ y : B
  --     ─────────────────────────────────────────
  --          Γ ⊢ x xs. b fits c : Π y : A. B
  b_more : {S : Store} {Γ : List Tree} {e p : ℕ} {R c A B b : Tree} {x y : Bytes} {xs : List Bytes}
      → Holds E w S Γ (IsType A)
      → Holds E w S (A ∷ Γ) (Body e p (ren suc R) (App (ren suc c) (Var zero)) B xs b)
      → Holds E w S Γ (Body e p R c (Prod y A B) (x ∷ xs) b)
  -- Branch body, no further argument. There are p terms ps.
  --           Γ ⊢ b : R is c
  --     ───────────────────────────
  --      Γ ⊢ (). b fits c : e ps is
  b_done : {S : Store} {Γ : List Tree} {e p : ℕ} {R c b : Tree} (ps is : Trees)
      → count ps ≡ p → Holds E w S Γ (Has b (App (apps R is) c))
      → Holds E w S Γ (Body e p R c (apps (apps (Ind e) ps) is) [] b)
  -- Metavariable. It is metavariable n of S, with the context Δ and the type T; there are as many
  -- terms s as hypotheses in Δ, and s.i is the one for hypothesis i.
  --     ⊢ Γ     ⊢ Δ     Δ ⊢ T type     Γ ⊢ s.i : A[s]  where A is the type of hypothesis i of Δ
  --     ───────────────────────────────────────────────────────────────────────────────────────
  --                                     Γ ⊢ ?n s : T[s]
  t_meta : {S : Store} {Γ : List Tree} {n : ℕ} {s : Trees} {d : Declared}
      → Holds E w S Γ IsContext → S.at n ≡ Some d → Holds E w S (d.context) IsContext
      → Holds E w S (d.context) (IsType (d.ty)) → count s ≡ length (d.context)
      → ((i : ℕ) (A : Tree) → Look (d.context) i A
      → Holds E w S Γ (Has (fill s beyond i) (under s A)))
      → Holds E w S Γ (Has (Meta n s) (under s (d.ty)))
  -- Conversion, to a type that is at least as large.
  --     Γ ⊢ t : T     T ≤ U     Γ ⊢ U type
  --     ──────────────────────────────────
  --                 Γ ⊢ t : U
  t_sub : {S : Store} {Γ : List Tree} {t T U : Tree}
      → Holds E w S Γ (Has t T) → AtMost E S T U → Holds E w S Γ (IsType U)
      → Holds E w S Γ (Has t U)
  -- What has a sort is a type.                   So is what a term has as its type.
  --      Γ ⊢ T : s                                    Γ ⊢ t : T
  --     ────────────                                 ────────────
  --      Γ ⊢ T type                                   Γ ⊢ T type
  k_sort : {S : Store} {Γ : List Tree} {T : Tree} {s : AnySort} → Holds E w S Γ (Has T (Sort s))
      → Holds E w S Γ (IsType T)
  k_of : {S : Store} {Γ : List Tree} {t T : Tree} → Holds E w S Γ (Has t T)
      → Holds E w S Γ (IsType T)
  -- Reducts.
  --      Γ ⊢ T type     T ⟶ T'                        Γ ⊢ t stands     t ⟶ t'
  --     ───────────────────────                      ─────────────────────────
  --           Γ ⊢ T' type                                  Γ ⊢ t' stands
  k_type_reduct : {S : Store} {Γ : List Tree} {T T' : Tree}
      → Holds E w S Γ (IsType T) → Contracts E S T T'
      → Holds E w S Γ (IsType T')
  k_reduct : {S : Store} {Γ : List Tree} {t t' : Tree}
      → Holds E w S Γ (Stands t) → Contracts E S t t'
      → Holds E w S Γ (Stands t')
  -- A product of types.                          Domain of a product.
  --      Γ ⊢ A type     Γ, A ⊢ B type                 Γ ⊢ Π x : A. B type
  --     ──────────────────────────────               ─────────────────────
  --          Γ ⊢ Π x : A. B type                          Γ ⊢ A type
  k_prod : {S : Store} {Γ : List Tree} {x : Bytes} {A B : Tree}
      → Holds E w S Γ (IsType A) → Holds E w S (A ∷ Γ) (IsType B)
      → Holds E w S Γ (IsType (Prod x A B))
  k_dom : {S : Store} {Γ : List Tree} {x : Bytes} {A B : Tree} → Holds E w S Γ (IsType (Prod x A B))
      → Holds E w S Γ (IsType A)
  -- Codomain of a product.                       Codomain at a term.
  --      Γ ⊢ Π x : A. B type                          Γ ⊢ Π x : A. B type     Γ ⊢ a : A
  --     ─────────────────────                        ───────────────────────────────────
  --        Γ, A ⊢ B type                                     Γ ⊢ B[a] type
  k_cod : {S : Store} {Γ : List Tree} {x : Bytes} {A B : Tree} → Holds E w S Γ (IsType (Prod x A B))
      → Holds E w S (A ∷ Γ) (IsType B)
  k_cod_at : {S : Store} {Γ : List Tree} {x : Bytes} {A B a : Tree}
      → Holds E w S Γ (IsType (Prod x A B)) → Holds E w S Γ (Has a A)
      → Holds E w S Γ (IsType (sub (one a) B))
  -- Parameter or index of a type. The type of e has as many products as there are terms s a r, and
  -- at s it is Π y : A. B.
  --     Γ ⊢ e s a r type
  --     ────────────────
  --         Γ ⊢ a : A
  k_param : {S : Store} {Γ : List Tree} (e : ℕ) {y : Bytes} {A B a : Tree} {s : Trees} (r : Trees)
      → Holds E w S Γ (IsType (apps (Ind e) (join s (Item a r)))) → (o : InductiveOf E e)
      → count (join s (Item a r)) ≡ products o.ty → Instantiated o.ty s (Prod y A B)
      → Holds E w S Γ (Has a A)
  -- A typed term stands.                         A type stands.
  --       Γ ⊢ t : T                                    Γ ⊢ T type
  --     ──────────────                               ──────────────
  --      Γ ⊢ t stands                                 Γ ⊢ T stands
  k_stands : {S : Store} {Γ : List Tree} {t T : Tree} → Holds E w S Γ (Has t T)
      → Holds E w S Γ (Stands t)
  k_type_stands : {S : Store} {Γ : List Tree} {T : Tree} → Holds E w S Γ (IsType T)
      → Holds E w S Γ (Stands T)
  -- Function.                  Argument.                    Term of a metavariable.
  --      Γ ⊢ f a stands             Γ ⊢ f a stands               Γ ⊢ ?n s stands     t in s
  --     ────────────────           ────────────────             ────────────────────────────
  --       Γ ⊢ f stands               Γ ⊢ a stands                      Γ ⊢ t stands
  k_fun : {S : Store} {Γ : List Tree} {f a : Tree} → Holds E w S Γ (Stands (App f a))
      → Holds E w S Γ (Stands f)
  k_arg : {S : Store} {Γ : List Tree} {f a : Tree} → Holds E w S Γ (Stands (App f a))
      → Holds E w S Γ (Stands a)
  k_terms : {S : Store} {Γ : List Tree} {n : ℕ} {s : Trees} {t : Tree}
      → Holds E w S Γ (Stands (Meta n s)) → In t s
      → Holds E w S Γ (Stands t)
  -- Motive.                                      Matched term.
  --      Γ ⊢ match e R c bs stands                    Γ ⊢ match e R c bs stands
  --     ───────────────────────────                  ───────────────────────────
  --            Γ ⊢ R stands                                 Γ ⊢ c stands
  k_return : {S : Store} {Γ : List Tree} {e : ℕ} {R c : Tree} {bs : Arms}
      → Holds E w S Γ (Stands (Match e R c bs))
      → Holds E w S Γ (Stands R)
  k_matched : {S : Store} {Γ : List Tree} {e : ℕ} {R c : Tree} {bs : Arms}
      → Holds E w S Γ (Stands (Match e R c bs))
      → Holds E w S Γ (Stands c)
  -- A product that stands.                       Type of an abstraction.
  --      Γ ⊢ Π x : A. B stands                        Γ ⊢ λ x : A. b stands
  --     ───────────────────────                      ───────────────────────
  --       Γ ⊢ Π x : A. B type                              Γ ⊢ A type
  k_prod_type : {S : Store} {Γ : List Tree} {x : Bytes} {A B : Tree}
      → Holds E w S Γ (Stands (Prod x A B))
      → Holds E w S Γ (IsType (Prod x A B))
  k_lam_dom : {S : Store} {Γ : List Tree} {x : Bytes} {A b : Tree}
      → Holds E w S Γ (Stands (Lam x A b))
      → Holds E w S Γ (IsType A)
  -- Body of an abstraction.                      Body at a term.
  --      Γ ⊢ λ x : A. b stands                        Γ ⊢ λ x : A. b stands     Γ ⊢ a : A
  --     ───────────────────────                      ─────────────────────────────────────
  --         Γ, A ⊢ b stands                                    Γ ⊢ b[a] stands
  k_lam_body : {S : Store} {Γ : List Tree} {x : Bytes} {A b : Tree}
      → Holds E w S Γ (Stands (Lam x A b))
      → Holds E w S (A ∷ Γ) (Stands b)
  k_lam_at : {S : Store} {Γ : List Tree} {x : Bytes} {A b a : Tree}
      → Holds E w S Γ (Stands (Lam x A b)) → Holds E w S Γ (Has a A)
      → Holds E w S Γ (Stands (sub (one a) b))
  -- Strengthening, where w is true: what does not mention a hypothesis holds without it. Γ' is Γ
  -- with A put in at place k, after Δ.
  --     Δ ⊢ A type     ⊢ Γ'     Γ' ⊢ J, renamed past A
  --     ──────────────────────────────────────────────
  --                       Γ ⊢ J
  k_drop : {S : Store} {Γ Γ' Δ : List Tree} {k : ℕ} {A : Tree} {J : Judgement}
      → w ≡ true → Insert A Δ k Γ Γ' → Holds E w S Δ (IsType A) → Holds E w S Γ' IsContext
      → Holds E w S Γ' (ren_judgement (ins k) J)
      → Holds E w S Γ J
  -- Strengthening of the store, where w is true: what does not mention the further open
  -- metavariables of a larger store S' holds without them.
  --     Γ ⊢ J  over S'     the metavariables of Γ and J are the same in S and S'
  --     ────────────────────────────────────────────────────────────────────────
  --                                Γ ⊢ J  over S
  k_metas : {S S' : Store} {Γ : List Tree} {J : Judgement}
      → w ≡ true → Widens S S' → AllMetasOf (λ n. S.at n ≡ S'.at n) Γ
      → JudgementMetas (λ n. S.at n ≡ S'.at n) J → Holds E w S' Γ J
      → Holds E w S Γ J

-- a strict judgement: over the empty store, and dropping nothing
abbrev pub Strict : Environment → List Tree → Judgement → Type 0
Strict E Γ J = Holds E false no_store Γ J
