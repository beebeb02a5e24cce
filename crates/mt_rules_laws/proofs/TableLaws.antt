-- The definitions with charges say what their tables say.
use Rattle.std.specs.Prelude.{ℕ, zero, ◌≡◌, refl, Bool, true, false, Option, Some, None, slice_get, List}
use Rattle.std.proofs.Common.{true≢false}
use Rattle.mt_term.specs.Trees.{Bytes, Tree, Trees, Arms, Var, Sort, Prod, Lam, App, Const, Ind, Con, Match, Meta, End, Item, NoArm, Arm}
use Rattle.mt_term.specs.Declarations.{Hypothesis, Declaration, Axiom, Definition, Inductive, Recursive, Environment}
use Rattle.mt_rules.specs.Charges.{Outcome, Done, Refused, Spent, Charged, give, ◌>>=◌, and_then}
use Rattle.mt_term.specs.Stores.{Store}
use Rattle.mt_rules.specs.WeakHead.{paid, whd, look, step, normal, normal_parts, normal_terms, normal_arms}
use Rattle.mt_rules.specs.Comparison.{convert, heads, spines, terms, bodies}
use Rattle.mt_term.specs.declared.modes.Mode.{Mode}
use Rattle.mt_rules.specs.Inference.{a_sort, a_product, as_sort, as_product, eliminating, infer, elimination, sort_of, product_of, type_head, agreement, infer_terms, infer_arms}
use Rattle.mt_rules_laws.specs.RuleTables.{◌is◌, IsOpaque, IsSpine, same_form, InferencePartsTable, WeakHeadTable, NormalFormTable, ComparisonTable, InferenceTable, WeakHeadByTable, NormalFormByTable, ComparisonByTable, InferenceByTable}
use Rattle.mt_rules_laws.proofs.WeakHeadRules.{whd-look, look-lam, look-app, look-meta, look-var, look-sort, look-prod, look-ind, look-con, look-match, look-const, look-definition, look-recursive, look-recursive_past}
use Rattle.mt_rules_laws.proofs.NormalRules.{normal-whd, part-is}
use Rattle.mt_rules_laws.proofs.ComparisonLaws.{compared-is}

-- sequences go from left to right
associative : {A B C : Type 0} (o : Outcome A) (f : A → Charged B) (g : B → Charged C) → and_then (and_then o f) g ≡ and_then o (λ a. f a >>= g)
associative (Done a l) f g = refl
associative (Refused r l) f g = refl
associative Spent f g = refl

module _ (E : Environment) (S : Store) where
  opaque : (c : ℕ) (s : Trees) (o : Option Declaration) → slice_get E.entries c ≡ o → IsOpaque o → look E S (Const c) s is give None
  opaque c s None h z n = look-const E S c s n None h
  opaque c s (Some (Axiom x T)) h z n = look-const E S c s n _ h
  opaque c s (Some (Definition x T b)) h z n = absurd z
  opaque c s (Some (Inductive x co p T cs l)) h z n = look-const E S c s n _ h
  opaque c s (Some (Recursive x true m r T b made)) h z n = look-const E S c s n _ h
  opaque c s (Some (Recursive x false m r T b made)) h z n = absurd z

  one_step : (t : Tree) → step E S t is look E S t End >>= paid
  unfolding step
  one_step t n = refl

  weak_head_table : WeakHeadTable E S
  weak_head_table = record {
    weak_head = λ t n. whd-look E S t n;
    one_step = one_step;
    application = λ f a s n. look-app E S f a s n;
    abstraction = λ x A b s n. look-lam E S x A b s n;
    definition = λ c s x T b h n. look-definition E S c s n x T b h;
    recursive = λ c s x m r T b made a h p n. look-recursive E S c s n x m r T b made h a p;
    too_few = λ c s x m r T b made h p n. look-recursive_past E S c s n x m r T b made h p;
    opaque = λ c s z. opaque c s (slice_get E.entries c) refl z;
    match = λ e R c bs s n. look-match E S e R c bs s n;
    metavariable = λ m t s n. look-meta E S m t s n;
    variable = λ i s n. look-var E S i s n;
    sort = λ r s n. look-sort E S r s n;
    product = λ x A B s n. look-prod E S x A B s n;
    inductive = λ e s n. look-ind E S e s n;
    constructor = λ e k s n. look-con E S e k s n;
  }

  -- each part of a weak head is replaced by its normal form
  product : (x : Bytes) (A B : Tree) → normal_parts E S (Prod x A B) is normal E S A >>= (λ A'. normal E S B >>= (λ B'. give (Prod x A' B')))
  unfolding normal_parts
  product x A B n = λ i. and_then (part-is E S A n i) (λ A' k. and_then (part-is E S B k i) (λ B'. give (Prod x A' B')))

  abstraction : (x : Bytes) (A b : Tree) → normal_parts E S (Lam x A b) is normal E S A >>= (λ A'. normal E S b >>= (λ b'. give (Lam x A' b')))
  unfolding normal_parts
  abstraction x A b n = λ i. and_then (part-is E S A n i) (λ A' k. and_then (part-is E S b k i) (λ b'. give (Lam x A' b')))

  application : (f a : Tree) → normal_parts E S (App f a) is normal E S f >>= (λ f'. normal E S a >>= (λ a'. give (App f' a')))
  unfolding normal_parts
  application f a n = λ i. and_then (part-is E S f n i) (λ f' k. and_then (part-is E S a k i) (λ a'. give (App f' a')))

  match : (e : ℕ) (R c : Tree) (bs : Arms) → normal_parts E S (Match e R c bs) is normal E S R >>= (λ R'. normal E S c >>= (λ c'. normal_arms E S bs >>= (λ bs'. give (Match e R' c' bs'))))
  unfolding normal_parts normal_arms
  match e R c bs n = λ i. and_then (part-is E S R n i) (λ R' k. and_then (part-is E S c k i) (λ c'. normal_arms E S bs >>= (λ bs'. give (Match e R' c' bs'))))

  metavariable : (m : ℕ) (s : Trees) → normal_parts E S (Meta m s) is normal_terms E S s >>= (λ s'. give (Meta m s'))
  unfolding normal_parts normal_terms
  metavariable m s n = refl

  normal_form_table : NormalFormTable E S
  unfolding normal_parts normal_terms normal_arms
  normal_form_table = record {
    normal_form = λ t n. normal-whd E S t n;
    product = product;
    abstraction = abstraction;
    application = application;
    match = match;
    metavariable = metavariable;
    variable = λ i n. refl;
    sort = λ r n. refl;
    constant = λ c n. refl;
    inductive = λ e n. refl;
    constructor = λ e k n. refl;
    no_term = λ n. refl;
    term = λ t s n. λ i. and_then (part-is E S t n i) (λ t'. normal_terms E S s >>= (λ s'. give (Item t' s')));
    no_branch = λ n. refl;
    branch = λ xs b bs n. λ i. and_then (part-is E S b n i) (λ b'. normal_arms E S bs >>= (λ bs'. give (Arm xs b' bs')));
  }

  abbrev Apart : (Tree → Tree → Charged Bool) → Tree → Tree → Type 0
  Apart m t u = same_form t u ≡ false → m t u is give false

  heads_apart : (mode : Mode) (t u : Tree) → Apart (heads E S mode) t u
  unfolding heads
  heads_apart mode (Var i) (Var j) h n = absurd (true≢false h)
  heads_apart mode (Sort s) (Sort r) h n = absurd (true≢false h)
  heads_apart mode (Prod x A B) (Prod y C D) h n = absurd (true≢false h)
  heads_apart mode (Lam x A b) (Lam y C d) h n = absurd (true≢false h)
  heads_apart mode (App f a) (App g b) h n = absurd (true≢false h)
  heads_apart mode (Const c) (Const d) h n = absurd (true≢false h)
  heads_apart mode (Ind e) (Ind d) h n = absurd (true≢false h)
  heads_apart mode (Con e k) (Con d j) h n = absurd (true≢false h)
  heads_apart mode (Match e R c bs) (Match d Q t cs) h n = absurd (true≢false h)
  heads_apart mode (Meta m s) (Meta k r) h n = absurd (true≢false h)
  heads_apart mode t u h n = refl

  heads_spine : (mode : Mode) (t u : Tree) → IsSpine t → heads E S mode t u is spines E S t u
  unfolding heads spines
  heads_spine mode (Sort s) u z n = absurd z
  heads_spine mode (Prod x A B) u z n = absurd z
  heads_spine mode (Lam x A b) u z n = absurd z
  heads_spine mode t u z n = refl

  spines_apart : (t u : Tree) → Apart (spines E S) t u
  unfolding spines
  spines_apart (Var i) (Var j) h n = absurd (true≢false h)
  spines_apart (App f a) (App g b) h n = absurd (true≢false h)
  spines_apart (Const c) (Const d) h n = absurd (true≢false h)
  spines_apart (Ind e) (Ind d) h n = absurd (true≢false h)
  spines_apart (Con e k) (Con d j) h n = absurd (true≢false h)
  spines_apart (Match e R c bs) (Match d Q t cs) h n = absurd (true≢false h)
  spines_apart (Meta m s) (Meta k r) h n = absurd (true≢false h)
  spines_apart t u h n = refl

  comparison_table : ComparisonTable E S
  unfolding convert heads spines terms bodies
  comparison_table = record {
    comparison = λ mode t u n. compared-is E S (mode, t, u) n;
    sort = λ mode s r n. refl;
    product = λ mode x y A B C D n. refl;
    abstraction = λ mode x y A b C d n. refl;
    apart = heads_apart;
    spine = heads_spine;
    spines_apart = spines_apart;
    application = λ f a g b n. refl;
    variable = λ i j n. refl;
    constant = λ c d n. refl;
    inductive = λ e d n. refl;
    constructor = λ e k d j n. refl;
    metavariable = λ m k s r n. refl;
    match = λ e d R c Q t bs cs n. refl;
    no_term = λ n. refl;
    term = λ t u s r n. refl;
    no_branch = λ n. refl;
    branch = λ xs ys b c bs cs n. refl;
  }

  inference_table : (Γ : List Hypothesis) → InferenceTable E S Γ
  unfolding infer sort_of product_of type_head elimination agreement infer_terms infer_arms
  inference_table Γ = record {
    variable = λ i n. refl;
    sort = λ s n. refl;
    constant = λ c n. refl;
    inductive = λ e n. refl;
    constructor = λ e k n. refl;
    product = λ x A B n. refl;
    abstraction = λ x A b n. refl;
    application = λ f a n. refl;
    match = λ e R c bs n. refl;
    metavariable = λ m s n. refl;
  }

  inference_parts_table : (Γ : List Hypothesis) → InferencePartsTable E S Γ
  unfolding infer as_sort as_product sort_of product_of type_head elimination eliminating agreement infer_terms infer_arms
  inference_parts_table Γ = record {
    sort_of_type = λ A n. associative (infer E S Γ A n) (whd E S) a_sort;
    type_as_product = λ f n. associative (infer E S Γ f n) (whd E S) a_product;
    as_a_sort = λ T n. refl;
    as_a_product = λ T n. refl;
    head_of_type = λ c n. refl;
    agree = λ mode t u n. refl;
    motive = λ f R n. refl;
    motive_index = λ large x A B h T n. refl;
    motive_sort = λ large r h T n. refl;
    no_term = λ σ n. refl;
    term = λ t A s more σ n. refl;
    no_branch = λ f R k n. refl;
    branch = λ f R k c cs xs b bs n. refl;
  }

pub weak_head_by_table : WeakHeadByTable
weak_head_by_table E S = weak_head_table E S

pub normal_form_by_table : NormalFormByTable
normal_form_by_table E S = normal_form_table E S

pub comparison_by_table : ComparisonByTable
comparison_by_table E S = comparison_table E S

pub inference_by_table : InferenceByTable
inference_by_table E S Γ = (inference_table E S Γ, inference_parts_table E S Γ)
