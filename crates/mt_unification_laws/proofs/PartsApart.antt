-- Terms of different forms: the cases of unification part by part, and of sorts and products, that are refused at once.
use Rattle.std.specs.Prelude.{ℕ, ◌≡◌, refl, List, []}
use Rattle.mt_term.specs.States.{Hint}
use Rattle.mt_term.specs.Trees.{Bytes, Tree, Trees, Arms, Var, Sort, Prod, Lam, App, Const, Ind, Con, Match, Meta}
use Rattle.mt_term.specs.declared.universes.Sort.{Sort as AnySort}
use Rattle.mt_term.specs.declared.modes.Mode.{Mode}
use Rattle.mt_term.specs.Declarations.{Hypothesis, Environment}
use Rattle.mt_term.specs.Reasons.{Unbound}
use Rattle.mt_rules.specs.Charges.{Refused}
use Rattle.mt_unification_rules.specs.Placeholders.{Metas}
use Rattle.mt_unification_rules.specs.UnificationParts.{parts, types}

module _ (E : Environment) (H : List Hint) where
  pub parts-var : (ms : Metas) (Γ : List Hypothesis) (i : ℕ) (u : Tree) (n : ℕ) → parts E H ms Γ (Var i) u n ≡ Refused (Unbound []) n
  unfolding parts
  parts-var ms Γ i u n = refl

  pub parts-sort : (ms : Metas) (Γ : List Hypothesis) (s : AnySort) (u : Tree) (n : ℕ) → parts E H ms Γ (Sort s) u n ≡ Refused (Unbound []) n
  unfolding parts
  parts-sort ms Γ s u n = refl

  pub parts-prod : (ms : Metas) (Γ : List Hypothesis) (x : Bytes) (a b : Tree) (u : Tree) (n : ℕ) → parts E H ms Γ (Prod x a b) u n ≡ Refused (Unbound []) n
  unfolding parts
  parts-prod ms Γ x a b u n = refl

  pub parts-lam_var : (ms : Metas) (Γ : List Hypothesis) (x : Bytes) (a b : Tree) (i' : ℕ) (n : ℕ) → parts E H ms Γ (Lam x a b) (Var i') n ≡ Refused (Unbound []) n
  unfolding parts
  parts-lam_var ms Γ x a b i' n = refl

  pub parts-lam_sort : (ms : Metas) (Γ : List Hypothesis) (x : Bytes) (a b : Tree) (s' : AnySort) (n : ℕ) → parts E H ms Γ (Lam x a b) (Sort s') n ≡ Refused (Unbound []) n
  unfolding parts
  parts-lam_sort ms Γ x a b s' n = refl

  pub parts-lam_prod : (ms : Metas) (Γ : List Hypothesis) (x : Bytes) (a b : Tree) (x' : Bytes) (a' b' : Tree) (n : ℕ) → parts E H ms Γ (Lam x a b) (Prod x' a' b') n ≡ Refused (Unbound []) n
  unfolding parts
  parts-lam_prod ms Γ x a b x' a' b' n = refl

  pub parts-lam_app : (ms : Metas) (Γ : List Hypothesis) (x : Bytes) (a b : Tree) (f' a' : Tree) (n : ℕ) → parts E H ms Γ (Lam x a b) (App f' a') n ≡ Refused (Unbound []) n
  unfolding parts
  parts-lam_app ms Γ x a b f' a' n = refl

  pub parts-lam_const : (ms : Metas) (Γ : List Hypothesis) (x : Bytes) (a b : Tree) (c' : ℕ) (n : ℕ) → parts E H ms Γ (Lam x a b) (Const c') n ≡ Refused (Unbound []) n
  unfolding parts
  parts-lam_const ms Γ x a b c' n = refl

  pub parts-lam_ind : (ms : Metas) (Γ : List Hypothesis) (x : Bytes) (a b : Tree) (e' : ℕ) (n : ℕ) → parts E H ms Γ (Lam x a b) (Ind e') n ≡ Refused (Unbound []) n
  unfolding parts
  parts-lam_ind ms Γ x a b e' n = refl

  pub parts-lam_con : (ms : Metas) (Γ : List Hypothesis) (x : Bytes) (a b : Tree) (e' k' : ℕ) (n : ℕ) → parts E H ms Γ (Lam x a b) (Con e' k') n ≡ Refused (Unbound []) n
  unfolding parts
  parts-lam_con ms Γ x a b e' k' n = refl

  pub parts-lam_match : (ms : Metas) (Γ : List Hypothesis) (x : Bytes) (a b : Tree) (e' : ℕ) (r' c' : Tree) (bs' : Arms) (n : ℕ) → parts E H ms Γ (Lam x a b) (Match e' r' c' bs') n ≡ Refused (Unbound []) n
  unfolding parts
  parts-lam_match ms Γ x a b e' r' c' bs' n = refl

  pub parts-lam_meta : (ms : Metas) (Γ : List Hypothesis) (x : Bytes) (a b : Tree) (i' : ℕ) (s' : Trees) (n : ℕ) → parts E H ms Γ (Lam x a b) (Meta i' s') n ≡ Refused (Unbound []) n
  unfolding parts
  parts-lam_meta ms Γ x a b i' s' n = refl

  pub parts-app_var : (ms : Metas) (Γ : List Hypothesis) (f a : Tree) (i' : ℕ) (n : ℕ) → parts E H ms Γ (App f a) (Var i') n ≡ Refused (Unbound []) n
  unfolding parts
  parts-app_var ms Γ f a i' n = refl

  pub parts-app_sort : (ms : Metas) (Γ : List Hypothesis) (f a : Tree) (s' : AnySort) (n : ℕ) → parts E H ms Γ (App f a) (Sort s') n ≡ Refused (Unbound []) n
  unfolding parts
  parts-app_sort ms Γ f a s' n = refl

  pub parts-app_prod : (ms : Metas) (Γ : List Hypothesis) (f a : Tree) (x' : Bytes) (a' b' : Tree) (n : ℕ) → parts E H ms Γ (App f a) (Prod x' a' b') n ≡ Refused (Unbound []) n
  unfolding parts
  parts-app_prod ms Γ f a x' a' b' n = refl

  pub parts-app_lam : (ms : Metas) (Γ : List Hypothesis) (f a : Tree) (x' : Bytes) (a' b' : Tree) (n : ℕ) → parts E H ms Γ (App f a) (Lam x' a' b') n ≡ Refused (Unbound []) n
  unfolding parts
  parts-app_lam ms Γ f a x' a' b' n = refl

  pub parts-app_const : (ms : Metas) (Γ : List Hypothesis) (f a : Tree) (c' : ℕ) (n : ℕ) → parts E H ms Γ (App f a) (Const c') n ≡ Refused (Unbound []) n
  unfolding parts
  parts-app_const ms Γ f a c' n = refl

  pub parts-app_ind : (ms : Metas) (Γ : List Hypothesis) (f a : Tree) (e' : ℕ) (n : ℕ) → parts E H ms Γ (App f a) (Ind e') n ≡ Refused (Unbound []) n
  unfolding parts
  parts-app_ind ms Γ f a e' n = refl

  pub parts-app_con : (ms : Metas) (Γ : List Hypothesis) (f a : Tree) (e' k' : ℕ) (n : ℕ) → parts E H ms Γ (App f a) (Con e' k') n ≡ Refused (Unbound []) n
  unfolding parts
  parts-app_con ms Γ f a e' k' n = refl

  pub parts-app_match : (ms : Metas) (Γ : List Hypothesis) (f a : Tree) (e' : ℕ) (r' c' : Tree) (bs' : Arms) (n : ℕ) → parts E H ms Γ (App f a) (Match e' r' c' bs') n ≡ Refused (Unbound []) n
  unfolding parts
  parts-app_match ms Γ f a e' r' c' bs' n = refl

  pub parts-app_meta : (ms : Metas) (Γ : List Hypothesis) (f a : Tree) (i' : ℕ) (s' : Trees) (n : ℕ) → parts E H ms Γ (App f a) (Meta i' s') n ≡ Refused (Unbound []) n
  unfolding parts
  parts-app_meta ms Γ f a i' s' n = refl

  pub parts-const : (ms : Metas) (Γ : List Hypothesis) (c : ℕ) (u : Tree) (n : ℕ) → parts E H ms Γ (Const c) u n ≡ Refused (Unbound []) n
  unfolding parts
  parts-const ms Γ c u n = refl

  pub parts-ind : (ms : Metas) (Γ : List Hypothesis) (e : ℕ) (u : Tree) (n : ℕ) → parts E H ms Γ (Ind e) u n ≡ Refused (Unbound []) n
  unfolding parts
  parts-ind ms Γ e u n = refl

  pub parts-con : (ms : Metas) (Γ : List Hypothesis) (e k : ℕ) (u : Tree) (n : ℕ) → parts E H ms Γ (Con e k) u n ≡ Refused (Unbound []) n
  unfolding parts
  parts-con ms Γ e k u n = refl

  pub parts-match_var : (ms : Metas) (Γ : List Hypothesis) (e : ℕ) (r c : Tree) (bs : Arms) (i' : ℕ) (n : ℕ) → parts E H ms Γ (Match e r c bs) (Var i') n ≡ Refused (Unbound []) n
  unfolding parts
  parts-match_var ms Γ e r c bs i' n = refl

  pub parts-match_sort : (ms : Metas) (Γ : List Hypothesis) (e : ℕ) (r c : Tree) (bs : Arms) (s' : AnySort) (n : ℕ) → parts E H ms Γ (Match e r c bs) (Sort s') n ≡ Refused (Unbound []) n
  unfolding parts
  parts-match_sort ms Γ e r c bs s' n = refl

  pub parts-match_prod : (ms : Metas) (Γ : List Hypothesis) (e : ℕ) (r c : Tree) (bs : Arms) (x' : Bytes) (a' b' : Tree) (n : ℕ) → parts E H ms Γ (Match e r c bs) (Prod x' a' b') n ≡ Refused (Unbound []) n
  unfolding parts
  parts-match_prod ms Γ e r c bs x' a' b' n = refl

  pub parts-match_lam : (ms : Metas) (Γ : List Hypothesis) (e : ℕ) (r c : Tree) (bs : Arms) (x' : Bytes) (a' b' : Tree) (n : ℕ) → parts E H ms Γ (Match e r c bs) (Lam x' a' b') n ≡ Refused (Unbound []) n
  unfolding parts
  parts-match_lam ms Γ e r c bs x' a' b' n = refl

  pub parts-match_app : (ms : Metas) (Γ : List Hypothesis) (e : ℕ) (r c : Tree) (bs : Arms) (f' a' : Tree) (n : ℕ) → parts E H ms Γ (Match e r c bs) (App f' a') n ≡ Refused (Unbound []) n
  unfolding parts
  parts-match_app ms Γ e r c bs f' a' n = refl

  pub parts-match_const : (ms : Metas) (Γ : List Hypothesis) (e : ℕ) (r c : Tree) (bs : Arms) (c' : ℕ) (n : ℕ) → parts E H ms Γ (Match e r c bs) (Const c') n ≡ Refused (Unbound []) n
  unfolding parts
  parts-match_const ms Γ e r c bs c' n = refl

  pub parts-match_ind : (ms : Metas) (Γ : List Hypothesis) (e : ℕ) (r c : Tree) (bs : Arms) (e' : ℕ) (n : ℕ) → parts E H ms Γ (Match e r c bs) (Ind e') n ≡ Refused (Unbound []) n
  unfolding parts
  parts-match_ind ms Γ e r c bs e' n = refl

  pub parts-match_con : (ms : Metas) (Γ : List Hypothesis) (e : ℕ) (r c : Tree) (bs : Arms) (e' k' : ℕ) (n : ℕ) → parts E H ms Γ (Match e r c bs) (Con e' k') n ≡ Refused (Unbound []) n
  unfolding parts
  parts-match_con ms Γ e r c bs e' k' n = refl

  pub parts-match_meta : (ms : Metas) (Γ : List Hypothesis) (e : ℕ) (r c : Tree) (bs : Arms) (i' : ℕ) (s' : Trees) (n : ℕ) → parts E H ms Γ (Match e r c bs) (Meta i' s') n ≡ Refused (Unbound []) n
  unfolding parts
  parts-match_meta ms Γ e r c bs i' s' n = refl

  pub parts-meta_var : (ms : Metas) (Γ : List Hypothesis) (i : ℕ) (s : Trees) (i' : ℕ) (n : ℕ) → parts E H ms Γ (Meta i s) (Var i') n ≡ Refused (Unbound []) n
  unfolding parts
  parts-meta_var ms Γ i s i' n = refl

  pub parts-meta_sort : (ms : Metas) (Γ : List Hypothesis) (i : ℕ) (s : Trees) (s' : AnySort) (n : ℕ) → parts E H ms Γ (Meta i s) (Sort s') n ≡ Refused (Unbound []) n
  unfolding parts
  parts-meta_sort ms Γ i s s' n = refl

  pub parts-meta_prod : (ms : Metas) (Γ : List Hypothesis) (i : ℕ) (s : Trees) (x' : Bytes) (a' b' : Tree) (n : ℕ) → parts E H ms Γ (Meta i s) (Prod x' a' b') n ≡ Refused (Unbound []) n
  unfolding parts
  parts-meta_prod ms Γ i s x' a' b' n = refl

  pub parts-meta_lam : (ms : Metas) (Γ : List Hypothesis) (i : ℕ) (s : Trees) (x' : Bytes) (a' b' : Tree) (n : ℕ) → parts E H ms Γ (Meta i s) (Lam x' a' b') n ≡ Refused (Unbound []) n
  unfolding parts
  parts-meta_lam ms Γ i s x' a' b' n = refl

  pub parts-meta_app : (ms : Metas) (Γ : List Hypothesis) (i : ℕ) (s : Trees) (f' a' : Tree) (n : ℕ) → parts E H ms Γ (Meta i s) (App f' a') n ≡ Refused (Unbound []) n
  unfolding parts
  parts-meta_app ms Γ i s f' a' n = refl

  pub parts-meta_const : (ms : Metas) (Γ : List Hypothesis) (i : ℕ) (s : Trees) (c' : ℕ) (n : ℕ) → parts E H ms Γ (Meta i s) (Const c') n ≡ Refused (Unbound []) n
  unfolding parts
  parts-meta_const ms Γ i s c' n = refl

  pub parts-meta_ind : (ms : Metas) (Γ : List Hypothesis) (i : ℕ) (s : Trees) (e' : ℕ) (n : ℕ) → parts E H ms Γ (Meta i s) (Ind e') n ≡ Refused (Unbound []) n
  unfolding parts
  parts-meta_ind ms Γ i s e' n = refl

  pub parts-meta_con : (ms : Metas) (Γ : List Hypothesis) (i : ℕ) (s : Trees) (e' k' : ℕ) (n : ℕ) → parts E H ms Γ (Meta i s) (Con e' k') n ≡ Refused (Unbound []) n
  unfolding parts
  parts-meta_con ms Γ i s e' k' n = refl

  pub parts-meta_match : (ms : Metas) (Γ : List Hypothesis) (i : ℕ) (s : Trees) (e' : ℕ) (r' c' : Tree) (bs' : Arms) (n : ℕ) → parts E H ms Γ (Meta i s) (Match e' r' c' bs') n ≡ Refused (Unbound []) n
  unfolding parts
  parts-meta_match ms Γ i s e' r' c' bs' n = refl

  pub types-var : (ms : Metas) (Γ : List Hypothesis) (mode : Mode) (i : ℕ) (u : Tree) (n : ℕ) → types E H ms Γ mode (Var i) u n ≡ Refused (Unbound []) n
  unfolding types
  types-var ms Γ mode i u n = refl

  pub types-sort_var : (ms : Metas) (Γ : List Hypothesis) (mode : Mode) (s : AnySort) (i' : ℕ) (n : ℕ) → types E H ms Γ mode (Sort s) (Var i') n ≡ Refused (Unbound []) n
  unfolding types
  types-sort_var ms Γ mode s i' n = refl

  pub types-sort_prod : (ms : Metas) (Γ : List Hypothesis) (mode : Mode) (s : AnySort) (x' : Bytes) (a' b' : Tree) (n : ℕ) → types E H ms Γ mode (Sort s) (Prod x' a' b') n ≡ Refused (Unbound []) n
  unfolding types
  types-sort_prod ms Γ mode s x' a' b' n = refl

  pub types-sort_lam : (ms : Metas) (Γ : List Hypothesis) (mode : Mode) (s : AnySort) (x' : Bytes) (a' b' : Tree) (n : ℕ) → types E H ms Γ mode (Sort s) (Lam x' a' b') n ≡ Refused (Unbound []) n
  unfolding types
  types-sort_lam ms Γ mode s x' a' b' n = refl

  pub types-sort_app : (ms : Metas) (Γ : List Hypothesis) (mode : Mode) (s : AnySort) (f' a' : Tree) (n : ℕ) → types E H ms Γ mode (Sort s) (App f' a') n ≡ Refused (Unbound []) n
  unfolding types
  types-sort_app ms Γ mode s f' a' n = refl

  pub types-sort_const : (ms : Metas) (Γ : List Hypothesis) (mode : Mode) (s : AnySort) (c' : ℕ) (n : ℕ) → types E H ms Γ mode (Sort s) (Const c') n ≡ Refused (Unbound []) n
  unfolding types
  types-sort_const ms Γ mode s c' n = refl

  pub types-sort_ind : (ms : Metas) (Γ : List Hypothesis) (mode : Mode) (s : AnySort) (e' : ℕ) (n : ℕ) → types E H ms Γ mode (Sort s) (Ind e') n ≡ Refused (Unbound []) n
  unfolding types
  types-sort_ind ms Γ mode s e' n = refl

  pub types-sort_con : (ms : Metas) (Γ : List Hypothesis) (mode : Mode) (s : AnySort) (e' k' : ℕ) (n : ℕ) → types E H ms Γ mode (Sort s) (Con e' k') n ≡ Refused (Unbound []) n
  unfolding types
  types-sort_con ms Γ mode s e' k' n = refl

  pub types-sort_match : (ms : Metas) (Γ : List Hypothesis) (mode : Mode) (s : AnySort) (e' : ℕ) (r' c' : Tree) (bs' : Arms) (n : ℕ) → types E H ms Γ mode (Sort s) (Match e' r' c' bs') n ≡ Refused (Unbound []) n
  unfolding types
  types-sort_match ms Γ mode s e' r' c' bs' n = refl

  pub types-sort_meta : (ms : Metas) (Γ : List Hypothesis) (mode : Mode) (s : AnySort) (i' : ℕ) (s' : Trees) (n : ℕ) → types E H ms Γ mode (Sort s) (Meta i' s') n ≡ Refused (Unbound []) n
  unfolding types
  types-sort_meta ms Γ mode s i' s' n = refl

  pub types-prod_var : (ms : Metas) (Γ : List Hypothesis) (mode : Mode) (x : Bytes) (a b : Tree) (i' : ℕ) (n : ℕ) → types E H ms Γ mode (Prod x a b) (Var i') n ≡ Refused (Unbound []) n
  unfolding types
  types-prod_var ms Γ mode x a b i' n = refl

  pub types-prod_sort : (ms : Metas) (Γ : List Hypothesis) (mode : Mode) (x : Bytes) (a b : Tree) (s' : AnySort) (n : ℕ) → types E H ms Γ mode (Prod x a b) (Sort s') n ≡ Refused (Unbound []) n
  unfolding types
  types-prod_sort ms Γ mode x a b s' n = refl

  pub types-prod_lam : (ms : Metas) (Γ : List Hypothesis) (mode : Mode) (x : Bytes) (a b : Tree) (x' : Bytes) (a' b' : Tree) (n : ℕ) → types E H ms Γ mode (Prod x a b) (Lam x' a' b') n ≡ Refused (Unbound []) n
  unfolding types
  types-prod_lam ms Γ mode x a b x' a' b' n = refl

  pub types-prod_app : (ms : Metas) (Γ : List Hypothesis) (mode : Mode) (x : Bytes) (a b : Tree) (f' a' : Tree) (n : ℕ) → types E H ms Γ mode (Prod x a b) (App f' a') n ≡ Refused (Unbound []) n
  unfolding types
  types-prod_app ms Γ mode x a b f' a' n = refl

  pub types-prod_const : (ms : Metas) (Γ : List Hypothesis) (mode : Mode) (x : Bytes) (a b : Tree) (c' : ℕ) (n : ℕ) → types E H ms Γ mode (Prod x a b) (Const c') n ≡ Refused (Unbound []) n
  unfolding types
  types-prod_const ms Γ mode x a b c' n = refl

  pub types-prod_ind : (ms : Metas) (Γ : List Hypothesis) (mode : Mode) (x : Bytes) (a b : Tree) (e' : ℕ) (n : ℕ) → types E H ms Γ mode (Prod x a b) (Ind e') n ≡ Refused (Unbound []) n
  unfolding types
  types-prod_ind ms Γ mode x a b e' n = refl

  pub types-prod_con : (ms : Metas) (Γ : List Hypothesis) (mode : Mode) (x : Bytes) (a b : Tree) (e' k' : ℕ) (n : ℕ) → types E H ms Γ mode (Prod x a b) (Con e' k') n ≡ Refused (Unbound []) n
  unfolding types
  types-prod_con ms Γ mode x a b e' k' n = refl

  pub types-prod_match : (ms : Metas) (Γ : List Hypothesis) (mode : Mode) (x : Bytes) (a b : Tree) (e' : ℕ) (r' c' : Tree) (bs' : Arms) (n : ℕ) → types E H ms Γ mode (Prod x a b) (Match e' r' c' bs') n ≡ Refused (Unbound []) n
  unfolding types
  types-prod_match ms Γ mode x a b e' r' c' bs' n = refl

  pub types-prod_meta : (ms : Metas) (Γ : List Hypothesis) (mode : Mode) (x : Bytes) (a b : Tree) (i' : ℕ) (s' : Trees) (n : ℕ) → types E H ms Γ mode (Prod x a b) (Meta i' s') n ≡ Refused (Unbound []) n
  unfolding types
  types-prod_meta ms Γ mode x a b i' s' n = refl

  pub types-lam : (ms : Metas) (Γ : List Hypothesis) (mode : Mode) (x : Bytes) (a b : Tree) (u : Tree) (n : ℕ) → types E H ms Γ mode (Lam x a b) u n ≡ Refused (Unbound []) n
  unfolding types
  types-lam ms Γ mode x a b u n = refl

  pub types-app : (ms : Metas) (Γ : List Hypothesis) (mode : Mode) (f a : Tree) (u : Tree) (n : ℕ) → types E H ms Γ mode (App f a) u n ≡ Refused (Unbound []) n
  unfolding types
  types-app ms Γ mode f a u n = refl

  pub types-const : (ms : Metas) (Γ : List Hypothesis) (mode : Mode) (c : ℕ) (u : Tree) (n : ℕ) → types E H ms Γ mode (Const c) u n ≡ Refused (Unbound []) n
  unfolding types
  types-const ms Γ mode c u n = refl

  pub types-ind : (ms : Metas) (Γ : List Hypothesis) (mode : Mode) (e : ℕ) (u : Tree) (n : ℕ) → types E H ms Γ mode (Ind e) u n ≡ Refused (Unbound []) n
  unfolding types
  types-ind ms Γ mode e u n = refl

  pub types-con : (ms : Metas) (Γ : List Hypothesis) (mode : Mode) (e k : ℕ) (u : Tree) (n : ℕ) → types E H ms Γ mode (Con e k) u n ≡ Refused (Unbound []) n
  unfolding types
  types-con ms Γ mode e k u n = refl

  pub types-match : (ms : Metas) (Γ : List Hypothesis) (mode : Mode) (e : ℕ) (r c : Tree) (bs : Arms) (u : Tree) (n : ℕ) → types E H ms Γ mode (Match e r c bs) u n ≡ Refused (Unbound []) n
  unfolding types
  types-match ms Γ mode e r c bs u n = refl

  pub types-meta : (ms : Metas) (Γ : List Hypothesis) (mode : Mode) (i : ℕ) (s : Trees) (u : Tree) (n : ℕ) → types E H ms Γ mode (Meta i s) u n ≡ Refused (Unbound []) n
  unfolding types
  types-meta ms Γ mode i s u n = refl

pub ruleset parts_apart = (parts-var, parts-sort, parts-prod, parts-lam_var, parts-lam_sort, parts-lam_prod, parts-lam_app, parts-lam_const, parts-lam_ind, parts-lam_con, parts-lam_match, parts-lam_meta, parts-app_var, parts-app_sort, parts-app_prod, parts-app_lam, parts-app_const, parts-app_ind, parts-app_con, parts-app_match, parts-app_meta, parts-const, parts-ind, parts-con, parts-match_var, parts-match_sort, parts-match_prod, parts-match_lam, parts-match_app, parts-match_const, parts-match_ind, parts-match_con, parts-match_meta, parts-meta_var, parts-meta_sort, parts-meta_prod, parts-meta_lam, parts-meta_app, parts-meta_const, parts-meta_ind, parts-meta_con, parts-meta_match)

pub ruleset types_apart = (types-var, types-sort_var, types-sort_prod, types-sort_lam, types-sort_app, types-sort_const, types-sort_ind, types-sort_con, types-sort_match, types-sort_meta, types-prod_var, types-prod_sort, types-prod_lam, types-prod_app, types-prod_const, types-prod_ind, types-prod_con, types-prod_match, types-prod_meta, types-lam, types-app, types-const, types-ind, types-con, types-match, types-meta)
