-- Weak heads as sorts and as products, and the types of terms without parts, as the code takes them apart.
use Rattle.std.proofs.Common.{ℕ, ◌≡◌, ◌-◌, ◌<◌, ◌≤◌, List, [], Option, Some, None, true, false, refl, ap, ◌∙◌, arith}
use Rattle.std.specs.Prelude.{slice_get}
use Rattle.mt_term.specs.Trees.{Tree, Trees, Var, Sort, Prod, Lam, App, Const, Ind, Con, Match, Meta}
use Rattle.mt_term.specs.declared.universes.Sort.{Sort as AnySort}
use Rattle.mt_term.specs.declared.modes.Mode.{Mode}
use Rattle.mt_term.specs.Declarations.{Hypothesis, Environment, constructor_at}
use Rattle.mt_term.specs.Reasons.{Mismatch, NotASort, NotAFunction, Unbound}
use Rattle.mt_rules.specs.Charges.{Done, Refused, rest}
use Rattle.mt_term.specs.Stores.{Declared, Store}
use Rattle.mt_term.specs.Substitution.{beyond}
use Rattle.mt_term.specs.UniverseForms.{sort_above}
use Rattle.mt_rules.specs.WeakHead.{whd}
use Rattle.mt_rules.specs.Comparison.{convert}
use Rattle.mt_rules.specs.Inference.{Product, a_sort, a_product, type_at, constant_type, inductive_type, constructor_type, infer, as_sort, as_product, agreement, oldest}
use Rattle.mt_rules_laws.proofs.InferenceLaws.{infer-rest}
use Rattle.mt_rules_laws.proofs.InferenceRules.{infer-out, as_sort_rules, as_product_rules, agreement_rules, as_sort-done, as_product-done, agreement-done, sort_of-rest, product_of-rest, type_head-rest, infer-var_none, infer-var_done, infer-sort_none, infer-sort_done, infer-const_none, infer-const_done, infer-ind_none, infer-ind_done, infer-con_none, infer-con_done, infer-prod-dom_within, infer-lam-type_within, infer-app-fun_within, infer-match-matched_within, infer-meta-meta_none, infer-meta-terms_within, infer_terms-rest}
use Rattle.mt_infer.specs.Forms.{sort_in, product_in}

-- a weak head that is a sort, and one that is none
given_sort : (d : Tree) (s : AnySort) (l : ℕ) → sort_in d ≡ Some s → a_sort d l ≡ Done s l
given_sort (Sort r) s l e = let same : r ≡ s = cc in ap (λ q. Done q l) same
given_sort _ s l e = let no : ⊥ = cc in absurd no

refused_sort : (d : Tree) (l : ℕ) → sort_in d ≡ None → a_sort d l ≡ Refused NotASort l
refused_sort (Sort r) l e = let no : ⊥ = cc in absurd no
refused_sort _ l e = refl

given_product : (d : Tree) (p : Product) (l : ℕ) → product_in d ≡ Some p → a_product d l ≡ Done p l
given_product (Prod x a b) p l e = let same : record { name = x; dom = a; cod = b } ≡ p = cc in ap (λ q. Done q l) same
given_product _ p l e = let no : ⊥ = cc in absurd no

refused_product : (d : Tree) (l : ℕ) → product_in d ≡ None → a_product d l ≡ Refused NotAFunction l
refused_product (Prod x a b) l e = let no : ⊥ = cc in absurd no
refused_product _ l e = refl

module _ (E : Environment) (S : Store) (t d : Tree) (n l : ℕ) where
  pub sort_given : (s : AnySort) → whd E S t n ≡ Done d l → sort_in d ≡ Some s → as_sort E S t n ≡ Done s l
  sort_given s e f = as_sort-done E S t d n l e ∙ given_sort d s l f

  pub sort_refused : whd E S t n ≡ Done d l → sort_in d ≡ None → as_sort E S t n ≡ Refused NotASort l
  sort_refused e f = as_sort-done E S t d n l e ∙ refused_sort d l f

  pub product_given : (p : Product) → whd E S t n ≡ Done d l → product_in d ≡ Some p → as_product E S t n ≡ Done p l
  product_given p e f = as_product-done E S t d n l e ∙ given_product d p l f

  pub product_refused : whd E S t n ≡ Done d l → product_in d ≡ None → as_product E S t n ≡ Refused NotAFunction l
  product_refused e f = as_product-done E S t d n l e ∙ refused_product d l f

-- a yes and a no of the comparison
module _ (E : Environment) (S : Store) (Γ : List Hypothesis) (mode : Mode) (t u : Tree) (n l : ℕ) where
  pub agreement_yes : convert E S mode t u n ≡ Done true l → agreement E S Γ mode t u n ≡ Done tt l
  agreement_yes e = agreement-done E S Γ mode t u true n l e

  pub agreement_no : convert E S mode t u n ≡ Done false l → agreement E S Γ mode t u n ≡ Refused (Mismatch Γ t u []) l
  agreement_no e = agreement-done E S Γ mode t u false n l e

-- inference takes at least one charge
module _ (E : Environment) (S : Store) (Γ : List Hypothesis) (n : ℕ) (h : 0 < n) where
  var_charged : (i : ℕ) (o : Option Tree) → type_at Γ i ≡ o → rest (infer E S Γ (Var i) n) ≤ n - 1
  var_charged i None e = let r = infer-var_none E S Γ i n h e in omega (arith, ap rest r)
  var_charged i (Some t) e = let r = infer-var_done E S Γ i t n h e in omega (arith, ap rest r)

  sort_charged : (s : AnySort) (o : Option AnySort) → sort_above s ≡ o → rest (infer E S Γ (Sort s) n) ≤ n - 1
  sort_charged s None e = let r = infer-sort_none E S Γ s n h e in omega (arith, ap rest r)
  sort_charged s (Some t) e = let r = infer-sort_done E S Γ s t n h e in omega (arith, ap rest r)

  const_charged : (c : ℕ) (o : Option Tree) → constant_type (slice_get E.entries c) ≡ o → rest (infer E S Γ (Const c) n) ≤ n - 1
  const_charged c None e = let r = infer-const_none E S Γ c n h e in omega (arith, ap rest r)
  const_charged c (Some t) e = let r = infer-const_done E S Γ c t n h e in omega (arith, ap rest r)

  ind_charged : (c : ℕ) (o : Option Tree) → inductive_type (slice_get E.entries c) ≡ o → rest (infer E S Γ (Ind c) n) ≤ n - 1
  ind_charged c None e = let r = infer-ind_none E S Γ c n h e in omega (arith, ap rest r)
  ind_charged c (Some t) e = let r = infer-ind_done E S Γ c t n h e in omega (arith, ap rest r)

  con_charged : (c k : ℕ) (o : Option Tree) → constructor_type (constructor_at E.entries c k) ≡ o → rest (infer E S Γ (Con c k) n) ≤ n - 1
  con_charged c k None e = let r = infer-con_none E S Γ c k n h e in omega (arith, ap rest r)
  con_charged c k (Some t) e = let r = infer-con_done E S Γ c k t n h e in omega (arith, ap rest r)

  meta_charged : (m : ℕ) (s : Trees) (o : Option Declared) → S.at m ≡ o → rest (infer E S Γ (Meta m s) n) ≤ n - 1
  meta_charged m s None e = let r = infer-meta-meta_none E S Γ m s n h e in omega (arith, ap rest r)
  meta_charged m s (Some d) e = omega (arith, infer-meta-terms_within E S Γ m s d n h e, infer_terms-rest E S Γ s (oldest d.context []) beyond (n - 1))

  pub infer_charged : (t : Tree) → rest (infer E S Γ t n) ≤ n - 1
  infer_charged (Var i) = var_charged i (type_at Γ i) refl
  infer_charged (Sort s) = sort_charged s (sort_above s) refl
  infer_charged (Prod x a b) = omega (arith, infer-prod-dom_within E S Γ x a b n h, sort_of-rest E S Γ a (n - 1))
  infer_charged (Lam x a b) = omega (arith, infer-lam-type_within E S Γ x a b n h, sort_of-rest E S Γ a (n - 1))
  infer_charged (App f a) = omega (arith, infer-app-fun_within E S Γ f a n h, product_of-rest E S Γ f (n - 1))
  infer_charged (Const c) = const_charged c (constant_type (slice_get E.entries c)) refl
  infer_charged (Ind e) = ind_charged e (inductive_type (slice_get E.entries e)) refl
  infer_charged (Con e k) = con_charged e k (constructor_type (constructor_at E.entries e k)) refl
  infer_charged (Match e r c bs) = omega (arith, infer-match-matched_within E S Γ e r c bs n h, type_head-rest E S Γ c (n - 1))
  infer_charged (Meta m s) = meta_charged m s (S.at m) refl

pub ruleset sort_rules = (as_sort_rules, sort_given, sort_refused)

pub ruleset product_rules = (as_product_rules, product_given, product_refused)

pub ruleset agree_rules = (agreement_rules, agreement_yes, agreement_no)

pub ruleset leaf_rules = (infer_charged, infer-rest, infer-out, infer-var_none, infer-var_done, infer-sort_none, infer-sort_done, infer-const_none, infer-const_done, infer-ind_none, infer-ind_done, infer-con_none, infer-con_done)
