-- Inference, as the code takes it apart.
use Rattle.std.proofs.Common.{ℕ, ◌≡◌, ◌-◌, ◌<◌, ◌≤◌, List, [], Option, Some, None, true, false, refl, ap, ◌∙◌, arith}
use Rattle.std.specs.Prelude.{slice_get}
use Rattle.mt_term.specs.Trees.{Tree, Trees, Var, Sort, Prod, Lam, App, Const, Ind, Con, Match, Meta}
use Rattle.mt_term.specs.declared.universes.Sort.{Sort as AnySort}
use Rattle.mt_term.specs.declared.modes.Mode.{Mode}
use Rattle.mt_term.specs.declared.environment.PlainEnv.{PlainEnv}
use Rattle.mt_term.specs.Declarations.{Hypothesis, Constructor, Declaration, Environment, constructor_at}
use Rattle.mt_term.specs.Reasons.{Mismatch, NotASort, NotAFunction, Unbound}
use Rattle.mt_rules.specs.Charges.{Done, Refused, rest}
use Rattle.mt_term.specs.Stores.{Store, no_store}
use Rattle.mt_term.specs.UniverseForms.{sort_above}
use Rattle.mt_rules.specs.WeakHead.{whd}
use Rattle.mt_rules.specs.Comparison.{convert}
use Rattle.mt_rules.specs.Inference.{Product, a_sort, a_product, type_at, constant_type, inductive_type, constructor_type, infer, as_sort, as_product, agreement}
use Rattle.mt_rules_laws.proofs.InferenceRules.{as_sort_rules, as_product_rules, agreement_rules, infer_rules, as_sort-done, as_product-done, agreement-done, sort_of-rest, product_of-rest, type_head-rest, infer-var_none, infer-var_done, infer-sort_none, infer-sort_done, infer-const_none, infer-const_done, infer-ind_none, infer-ind_done, infer-con_none, infer-con_done, infer-prod-dom_within, infer-lam-type_within, infer-app-fun_within, infer-match-matched_within, infer-meta-meta_none}
use Rattle.mt_kernel.proofs.Applying.{application_rules}
use Rattle.mt_term.specs.EnvironmentOf.{environment_of}
use Rattle.mt_kernel.specs.Forms.{sort_in, product_in}

-- a weak head that is a sort, and one that is none
given_sort : (d : Tree) (s : AnySort) (l : ℕ) → sort_in d ≡ Some s → a_sort d l ≡ Done s l
given_sort (Sort r) s l e = let same : r ≡ s = cc in ap (λ q. Done q l) same
given_sort _ s l e = let no : ⊥ = cc in absurd no

refused_sort : (d : Tree) (l : ℕ) → sort_in d ≡ None → a_sort d l ≡ Refused NotASort l
refused_sort (Sort r) l e = let no : ⊥ = cc in absurd no
refused_sort _ l e = refl

given_product : (d : Tree) (p : Product) (l : ℕ) → product_in d ≡ Some p → a_product d l ≡ Done p l
given_product (Prod x a b) p l e = let same : record { name = x; dom = a; cod = b } ≡ p = cc in ap (λ q. Done q l) same
given_product _ p l e = let no : ⊥ = cc in absurd no

refused_product : (d : Tree) (l : ℕ) → product_in d ≡ None → a_product d l ≡ Refused NotAFunction l
refused_product (Prod x a b) l e = let no : ⊥ = cc in absurd no
refused_product _ l e = refl

module _ (E : Environment) (S : Store) (t d : Tree) (n l : ℕ) where
  pub sort_given : (s : AnySort) → whd E S t n ≡ Done d l → sort_in d ≡ Some s → as_sort E S t n ≡ Done s l
  sort_given s e f = as_sort-done E S t d n l e ∙ given_sort d s l f

  pub sort_refused : whd E S t n ≡ Done d l → sort_in d ≡ None → as_sort E S t n ≡ Refused NotASort l
  sort_refused e f = as_sort-done E S t d n l e ∙ refused_sort d l f

  pub product_given : (p : Product) → whd E S t n ≡ Done d l → product_in d ≡ Some p → as_product E S t n ≡ Done p l
  product_given p e f = as_product-done E S t d n l e ∙ given_product d p l f

  pub product_refused : whd E S t n ≡ Done d l → product_in d ≡ None → as_product E S t n ≡ Refused NotAFunction l
  product_refused e f = as_product-done E S t d n l e ∙ refused_product d l f

-- a yes and a no of the comparison
module _ (E : Environment) (S : Store) (Γ : List Hypothesis) (mode : Mode) (t u : Tree) (n l : ℕ) where
  pub agreement_yes : convert E S mode t u n ≡ Done true l → agreement E S Γ mode t u n ≡ Done tt l
  agreement_yes e = agreement-done E S Γ mode t u true n l e

  pub agreement_no : convert E S mode t u n ≡ Done false l → agreement E S Γ mode t u n ≡ Refused (Mismatch Γ t u []) l
  agreement_no e = agreement-done E S Γ mode t u false n l e

-- the type of a constant, by the entry that the program holds
module _ (env : PlainEnv) (Γ : List Hypothesis) (c n : ℕ) (o : Option Declaration) where
  pub constant_found : (t : Tree) → 0 < n → slice_get env.entries c ≡ o → constant_type o ≡ Some t → infer (environment_of env) no_store Γ (Const c) n ≡ Done t (n - 1)
  constant_found t h e f = infer-const_done (environment_of env) no_store Γ c t n h (ap constant_type e ∙ f)

  pub constant_missing : 0 < n → slice_get env.entries c ≡ o → constant_type o ≡ None → infer (environment_of env) no_store Γ (Const c) n ≡ Refused (Unbound []) (n - 1)
  constant_missing h e f = infer-const_none (environment_of env) no_store Γ c n h (ap constant_type e ∙ f)

-- the types of an inductive type and of a constructor
module _ (env : PlainEnv) (Γ : List Hypothesis) (e n : ℕ) (o : Option Declaration) where
  pub inductive_found : (t : Tree) → 0 < n → slice_get env.entries e ≡ o → inductive_type o ≡ Some t → infer (environment_of env) no_store Γ (Ind e) n ≡ Done t (n - 1)
  inductive_found t h p f = infer-ind_done (environment_of env) no_store Γ e t n h (ap inductive_type p ∙ f)

  pub inductive_missing : 0 < n → slice_get env.entries e ≡ o → inductive_type o ≡ None → infer (environment_of env) no_store Γ (Ind e) n ≡ Refused (Unbound []) (n - 1)
  inductive_missing h p f = infer-ind_none (environment_of env) no_store Γ e n h (ap inductive_type p ∙ f)

module _ (env : PlainEnv) (Γ : List Hypothesis) (e k n : ℕ) (o : Option Constructor) where
  pub constructor_found : (t : Tree) → 0 < n → constructor_at env.entries e k ≡ o → constructor_type o ≡ Some t → infer (environment_of env) no_store Γ (Con e k) n ≡ Done t (n - 1)
  constructor_found t h p f = infer-con_done (environment_of env) no_store Γ e k t n h (ap constructor_type p ∙ f)

  pub constructor_missing : 0 < n → constructor_at env.entries e k ≡ o → constructor_type o ≡ None → infer (environment_of env) no_store Γ (Con e k) n ≡ Refused (Unbound []) (n - 1)
  constructor_missing h p f = infer-con_none (environment_of env) no_store Γ e k n h (ap constructor_type p ∙ f)

-- there is no metavariable
pub no_meta : (E : Environment) (Γ : List Hypothesis) (m : ℕ) (s : Trees) (n : ℕ) → 0 < n → infer E no_store Γ (Meta m s) n ≡ Refused (Unbound []) (n - 1)
no_meta E Γ m s n h = infer-meta-meta_none E no_store Γ m s n h refl

-- inference takes at least one charge
module _ (E : Environment) (Γ : List Hypothesis) (n : ℕ) (h : 0 < n) where
  var_charged : (i : ℕ) (o : Option Tree) → type_at Γ i ≡ o → rest (infer E no_store Γ (Var i) n) ≤ n - 1
  var_charged i None e = let r = infer-var_none E no_store Γ i n h e in omega (arith, ap rest r)
  var_charged i (Some t) e = let r = infer-var_done E no_store Γ i t n h e in omega (arith, ap rest r)

  sort_charged : (s : AnySort) (o : Option AnySort) → sort_above s ≡ o → rest (infer E no_store Γ (Sort s) n) ≤ n - 1
  sort_charged s None e = let r = infer-sort_none E no_store Γ s n h e in omega (arith, ap rest r)
  sort_charged s (Some t) e = let r = infer-sort_done E no_store Γ s t n h e in omega (arith, ap rest r)

  const_charged : (c : ℕ) (o : Option Tree) → constant_type (slice_get E.entries c) ≡ o → rest (infer E no_store Γ (Const c) n) ≤ n - 1
  const_charged c None e = let r = infer-const_none E no_store Γ c n h e in omega (arith, ap rest r)
  const_charged c (Some t) e = let r = infer-const_done E no_store Γ c t n h e in omega (arith, ap rest r)

  ind_charged : (c : ℕ) (o : Option Tree) → inductive_type (slice_get E.entries c) ≡ o → rest (infer E no_store Γ (Ind c) n) ≤ n - 1
  ind_charged c None e = let r = infer-ind_none E no_store Γ c n h e in omega (arith, ap rest r)
  ind_charged c (Some t) e = let r = infer-ind_done E no_store Γ c t n h e in omega (arith, ap rest r)

  con_charged : (c k : ℕ) (o : Option Tree) → constructor_type (constructor_at E.entries c k) ≡ o → rest (infer E no_store Γ (Con c k) n) ≤ n - 1
  con_charged c k None e = let r = infer-con_none E no_store Γ c k n h e in omega (arith, ap rest r)
  con_charged c k (Some t) e = let r = infer-con_done E no_store Γ c k t n h e in omega (arith, ap rest r)

  pub infer_charged : (t : Tree) → rest (infer E no_store Γ t n) ≤ n - 1
  infer_charged (Var i) = var_charged i (type_at Γ i) refl
  infer_charged (Sort s) = sort_charged s (sort_above s) refl
  infer_charged (Prod x a b) = omega (arith, infer-prod-dom_within E no_store Γ x a b n h, sort_of-rest E no_store Γ a (n - 1))
  infer_charged (Lam x a b) = omega (arith, infer-lam-type_within E no_store Γ x a b n h, sort_of-rest E no_store Γ a (n - 1))
  infer_charged (App f a) = omega (arith, infer-app-fun_within E no_store Γ f a n h, product_of-rest E no_store Γ f (n - 1))
  infer_charged (Const c) = const_charged c (constant_type (slice_get E.entries c)) refl
  infer_charged (Ind e) = ind_charged e (inductive_type (slice_get E.entries e)) refl
  infer_charged (Con e k) = con_charged e k (constructor_type (constructor_at E.entries e k)) refl
  infer_charged (Match e r c bs) = omega (arith, infer-match-matched_within E no_store Γ e r c bs n h, type_head-rest E no_store Γ c (n - 1))
  infer_charged (Meta m s) = let r = infer-meta-meta_none E no_store Γ m s n h refl in omega (arith, ap rest r)

pub ruleset sort_rules = (as_sort_rules, sort_given, sort_refused)

pub ruleset product_rules = (as_product_rules, product_given, product_refused)

pub ruleset agree_rules = (agreement_rules, agreement_yes, agreement_no)

pub ruleset inference_rules = (infer_rules, application_rules, infer_charged, constant_found, constant_missing, inductive_found, inductive_missing, constructor_found, constructor_missing, no_meta)
