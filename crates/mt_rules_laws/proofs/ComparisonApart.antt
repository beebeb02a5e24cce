-- Terms of different forms are not the same: the cases of the comparison that answer no at once.
use Rattle.std.specs.Prelude.{ℕ, ◌≡◌, refl, false}
use Rattle.mt_term.specs.Trees.{Bytes, Tree, Trees, Arms, Var, Sort, Prod, Lam, App, Const, Ind, Con, Match, Meta}
use Rattle.mt_term.specs.declared.universes.Sort.{Sort as AnySort}
use Rattle.mt_term.specs.declared.modes.Mode.{Mode}
use Rattle.mt_term.specs.Declarations.{Environment}
use Rattle.mt_rules.specs.Charges.{Done}
use Rattle.mt_term.specs.Stores.{Store}
use Rattle.mt_rules.specs.Comparison.{heads, spines}

pub heads-sort_var : (E : Environment) (S : Store) (mode : Mode) (s : AnySort) (i' : ℕ) (n : ℕ) → heads E S mode (Sort s) (Var i') n ≡ Done false n
unfolding heads
heads-sort_var E S mode s i' n = refl

pub heads-sort_prod : (E : Environment) (S : Store) (mode : Mode) (s : AnySort) (x' : Bytes) (a' b' : Tree) (n : ℕ) → heads E S mode (Sort s) (Prod x' a' b') n ≡ Done false n
unfolding heads
heads-sort_prod E S mode s x' a' b' n = refl

pub heads-sort_lam : (E : Environment) (S : Store) (mode : Mode) (s : AnySort) (x' : Bytes) (a' b' : Tree) (n : ℕ) → heads E S mode (Sort s) (Lam x' a' b') n ≡ Done false n
unfolding heads
heads-sort_lam E S mode s x' a' b' n = refl

pub heads-sort_app : (E : Environment) (S : Store) (mode : Mode) (s : AnySort) (f' g' : Tree) (n : ℕ) → heads E S mode (Sort s) (App f' g') n ≡ Done false n
unfolding heads
heads-sort_app E S mode s f' g' n = refl

pub heads-sort_const : (E : Environment) (S : Store) (mode : Mode) (s : AnySort) (c' : ℕ) (n : ℕ) → heads E S mode (Sort s) (Const c') n ≡ Done false n
unfolding heads
heads-sort_const E S mode s c' n = refl

pub heads-sort_ind : (E : Environment) (S : Store) (mode : Mode) (s : AnySort) (e' : ℕ) (n : ℕ) → heads E S mode (Sort s) (Ind e') n ≡ Done false n
unfolding heads
heads-sort_ind E S mode s e' n = refl

pub heads-sort_con : (E : Environment) (S : Store) (mode : Mode) (s : AnySort) (e' k' : ℕ) (n : ℕ) → heads E S mode (Sort s) (Con e' k') n ≡ Done false n
unfolding heads
heads-sort_con E S mode s e' k' n = refl

pub heads-sort_match : (E : Environment) (S : Store) (mode : Mode) (s : AnySort) (e' : ℕ) (r' c' : Tree) (bs' : Arms) (n : ℕ) → heads E S mode (Sort s) (Match e' r' c' bs') n ≡ Done false n
unfolding heads
heads-sort_match E S mode s e' r' c' bs' n = refl

pub heads-sort_meta : (E : Environment) (S : Store) (mode : Mode) (s : AnySort) (m' : ℕ) (s' : Trees) (n : ℕ) → heads E S mode (Sort s) (Meta m' s') n ≡ Done false n
unfolding heads
heads-sort_meta E S mode s m' s' n = refl

pub heads-prod_var : (E : Environment) (S : Store) (mode : Mode) (x : Bytes) (a b : Tree) (i' : ℕ) (n : ℕ) → heads E S mode (Prod x a b) (Var i') n ≡ Done false n
unfolding heads
heads-prod_var E S mode x a b i' n = refl

pub heads-prod_sort : (E : Environment) (S : Store) (mode : Mode) (x : Bytes) (a b : Tree) (s' : AnySort) (n : ℕ) → heads E S mode (Prod x a b) (Sort s') n ≡ Done false n
unfolding heads
heads-prod_sort E S mode x a b s' n = refl

pub heads-prod_lam : (E : Environment) (S : Store) (mode : Mode) (x : Bytes) (a b : Tree) (x' : Bytes) (a' b' : Tree) (n : ℕ) → heads E S mode (Prod x a b) (Lam x' a' b') n ≡ Done false n
unfolding heads
heads-prod_lam E S mode x a b x' a' b' n = refl

pub heads-prod_app : (E : Environment) (S : Store) (mode : Mode) (x : Bytes) (a b : Tree) (f' g' : Tree) (n : ℕ) → heads E S mode (Prod x a b) (App f' g') n ≡ Done false n
unfolding heads
heads-prod_app E S mode x a b f' g' n = refl

pub heads-prod_const : (E : Environment) (S : Store) (mode : Mode) (x : Bytes) (a b : Tree) (c' : ℕ) (n : ℕ) → heads E S mode (Prod x a b) (Const c') n ≡ Done false n
unfolding heads
heads-prod_const E S mode x a b c' n = refl

pub heads-prod_ind : (E : Environment) (S : Store) (mode : Mode) (x : Bytes) (a b : Tree) (e' : ℕ) (n : ℕ) → heads E S mode (Prod x a b) (Ind e') n ≡ Done false n
unfolding heads
heads-prod_ind E S mode x a b e' n = refl

pub heads-prod_con : (E : Environment) (S : Store) (mode : Mode) (x : Bytes) (a b : Tree) (e' k' : ℕ) (n : ℕ) → heads E S mode (Prod x a b) (Con e' k') n ≡ Done false n
unfolding heads
heads-prod_con E S mode x a b e' k' n = refl

pub heads-prod_match : (E : Environment) (S : Store) (mode : Mode) (x : Bytes) (a b : Tree) (e' : ℕ) (r' c' : Tree) (bs' : Arms) (n : ℕ) → heads E S mode (Prod x a b) (Match e' r' c' bs') n ≡ Done false n
unfolding heads
heads-prod_match E S mode x a b e' r' c' bs' n = refl

pub heads-prod_meta : (E : Environment) (S : Store) (mode : Mode) (x : Bytes) (a b : Tree) (m' : ℕ) (s' : Trees) (n : ℕ) → heads E S mode (Prod x a b) (Meta m' s') n ≡ Done false n
unfolding heads
heads-prod_meta E S mode x a b m' s' n = refl

pub heads-lam_var : (E : Environment) (S : Store) (mode : Mode) (x : Bytes) (a b : Tree) (i' : ℕ) (n : ℕ) → heads E S mode (Lam x a b) (Var i') n ≡ Done false n
unfolding heads
heads-lam_var E S mode x a b i' n = refl

pub heads-lam_sort : (E : Environment) (S : Store) (mode : Mode) (x : Bytes) (a b : Tree) (s' : AnySort) (n : ℕ) → heads E S mode (Lam x a b) (Sort s') n ≡ Done false n
unfolding heads
heads-lam_sort E S mode x a b s' n = refl

pub heads-lam_prod : (E : Environment) (S : Store) (mode : Mode) (x : Bytes) (a b : Tree) (x' : Bytes) (a' b' : Tree) (n : ℕ) → heads E S mode (Lam x a b) (Prod x' a' b') n ≡ Done false n
unfolding heads
heads-lam_prod E S mode x a b x' a' b' n = refl

pub heads-lam_app : (E : Environment) (S : Store) (mode : Mode) (x : Bytes) (a b : Tree) (f' g' : Tree) (n : ℕ) → heads E S mode (Lam x a b) (App f' g') n ≡ Done false n
unfolding heads
heads-lam_app E S mode x a b f' g' n = refl

pub heads-lam_const : (E : Environment) (S : Store) (mode : Mode) (x : Bytes) (a b : Tree) (c' : ℕ) (n : ℕ) → heads E S mode (Lam x a b) (Const c') n ≡ Done false n
unfolding heads
heads-lam_const E S mode x a b c' n = refl

pub heads-lam_ind : (E : Environment) (S : Store) (mode : Mode) (x : Bytes) (a b : Tree) (e' : ℕ) (n : ℕ) → heads E S mode (Lam x a b) (Ind e') n ≡ Done false n
unfolding heads
heads-lam_ind E S mode x a b e' n = refl

pub heads-lam_con : (E : Environment) (S : Store) (mode : Mode) (x : Bytes) (a b : Tree) (e' k' : ℕ) (n : ℕ) → heads E S mode (Lam x a b) (Con e' k') n ≡ Done false n
unfolding heads
heads-lam_con E S mode x a b e' k' n = refl

pub heads-lam_match : (E : Environment) (S : Store) (mode : Mode) (x : Bytes) (a b : Tree) (e' : ℕ) (r' c' : Tree) (bs' : Arms) (n : ℕ) → heads E S mode (Lam x a b) (Match e' r' c' bs') n ≡ Done false n
unfolding heads
heads-lam_match E S mode x a b e' r' c' bs' n = refl

pub heads-lam_meta : (E : Environment) (S : Store) (mode : Mode) (x : Bytes) (a b : Tree) (m' : ℕ) (s' : Trees) (n : ℕ) → heads E S mode (Lam x a b) (Meta m' s') n ≡ Done false n
unfolding heads
heads-lam_meta E S mode x a b m' s' n = refl

pub spines-var_sort : (E : Environment) (S : Store) (i : ℕ) (s' : AnySort) (n : ℕ) → spines E S (Var i) (Sort s') n ≡ Done false n
unfolding spines
spines-var_sort E S i s' n = refl

pub spines-var_prod : (E : Environment) (S : Store) (i : ℕ) (x' : Bytes) (a' b' : Tree) (n : ℕ) → spines E S (Var i) (Prod x' a' b') n ≡ Done false n
unfolding spines
spines-var_prod E S i x' a' b' n = refl

pub spines-var_lam : (E : Environment) (S : Store) (i : ℕ) (x' : Bytes) (a' b' : Tree) (n : ℕ) → spines E S (Var i) (Lam x' a' b') n ≡ Done false n
unfolding spines
spines-var_lam E S i x' a' b' n = refl

pub spines-var_app : (E : Environment) (S : Store) (i : ℕ) (f' g' : Tree) (n : ℕ) → spines E S (Var i) (App f' g') n ≡ Done false n
unfolding spines
spines-var_app E S i f' g' n = refl

pub spines-var_const : (E : Environment) (S : Store) (i : ℕ) (c' : ℕ) (n : ℕ) → spines E S (Var i) (Const c') n ≡ Done false n
unfolding spines
spines-var_const E S i c' n = refl

pub spines-var_ind : (E : Environment) (S : Store) (i : ℕ) (e' : ℕ) (n : ℕ) → spines E S (Var i) (Ind e') n ≡ Done false n
unfolding spines
spines-var_ind E S i e' n = refl

pub spines-var_con : (E : Environment) (S : Store) (i : ℕ) (e' k' : ℕ) (n : ℕ) → spines E S (Var i) (Con e' k') n ≡ Done false n
unfolding spines
spines-var_con E S i e' k' n = refl

pub spines-var_match : (E : Environment) (S : Store) (i : ℕ) (e' : ℕ) (r' c' : Tree) (bs' : Arms) (n : ℕ) → spines E S (Var i) (Match e' r' c' bs') n ≡ Done false n
unfolding spines
spines-var_match E S i e' r' c' bs' n = refl

pub spines-var_meta : (E : Environment) (S : Store) (i : ℕ) (m' : ℕ) (s' : Trees) (n : ℕ) → spines E S (Var i) (Meta m' s') n ≡ Done false n
unfolding spines
spines-var_meta E S i m' s' n = refl

pub spines-sort_var : (E : Environment) (S : Store) (s : AnySort) (i' : ℕ) (n : ℕ) → spines E S (Sort s) (Var i') n ≡ Done false n
unfolding spines
spines-sort_var E S s i' n = refl

pub spines-sort_prod : (E : Environment) (S : Store) (s : AnySort) (x' : Bytes) (a' b' : Tree) (n : ℕ) → spines E S (Sort s) (Prod x' a' b') n ≡ Done false n
unfolding spines
spines-sort_prod E S s x' a' b' n = refl

pub spines-sort_lam : (E : Environment) (S : Store) (s : AnySort) (x' : Bytes) (a' b' : Tree) (n : ℕ) → spines E S (Sort s) (Lam x' a' b') n ≡ Done false n
unfolding spines
spines-sort_lam E S s x' a' b' n = refl

pub spines-sort_app : (E : Environment) (S : Store) (s : AnySort) (f' g' : Tree) (n : ℕ) → spines E S (Sort s) (App f' g') n ≡ Done false n
unfolding spines
spines-sort_app E S s f' g' n = refl

pub spines-sort_const : (E : Environment) (S : Store) (s : AnySort) (c' : ℕ) (n : ℕ) → spines E S (Sort s) (Const c') n ≡ Done false n
unfolding spines
spines-sort_const E S s c' n = refl

pub spines-sort_ind : (E : Environment) (S : Store) (s : AnySort) (e' : ℕ) (n : ℕ) → spines E S (Sort s) (Ind e') n ≡ Done false n
unfolding spines
spines-sort_ind E S s e' n = refl

pub spines-sort_con : (E : Environment) (S : Store) (s : AnySort) (e' k' : ℕ) (n : ℕ) → spines E S (Sort s) (Con e' k') n ≡ Done false n
unfolding spines
spines-sort_con E S s e' k' n = refl

pub spines-sort_match : (E : Environment) (S : Store) (s : AnySort) (e' : ℕ) (r' c' : Tree) (bs' : Arms) (n : ℕ) → spines E S (Sort s) (Match e' r' c' bs') n ≡ Done false n
unfolding spines
spines-sort_match E S s e' r' c' bs' n = refl

pub spines-sort_meta : (E : Environment) (S : Store) (s : AnySort) (m' : ℕ) (s' : Trees) (n : ℕ) → spines E S (Sort s) (Meta m' s') n ≡ Done false n
unfolding spines
spines-sort_meta E S s m' s' n = refl

pub spines-prod_var : (E : Environment) (S : Store) (x : Bytes) (a b : Tree) (i' : ℕ) (n : ℕ) → spines E S (Prod x a b) (Var i') n ≡ Done false n
unfolding spines
spines-prod_var E S x a b i' n = refl

pub spines-prod_sort : (E : Environment) (S : Store) (x : Bytes) (a b : Tree) (s' : AnySort) (n : ℕ) → spines E S (Prod x a b) (Sort s') n ≡ Done false n
unfolding spines
spines-prod_sort E S x a b s' n = refl

pub spines-prod_lam : (E : Environment) (S : Store) (x : Bytes) (a b : Tree) (x' : Bytes) (a' b' : Tree) (n : ℕ) → spines E S (Prod x a b) (Lam x' a' b') n ≡ Done false n
unfolding spines
spines-prod_lam E S x a b x' a' b' n = refl

pub spines-prod_app : (E : Environment) (S : Store) (x : Bytes) (a b : Tree) (f' g' : Tree) (n : ℕ) → spines E S (Prod x a b) (App f' g') n ≡ Done false n
unfolding spines
spines-prod_app E S x a b f' g' n = refl

pub spines-prod_const : (E : Environment) (S : Store) (x : Bytes) (a b : Tree) (c' : ℕ) (n : ℕ) → spines E S (Prod x a b) (Const c') n ≡ Done false n
unfolding spines
spines-prod_const E S x a b c' n = refl

pub spines-prod_ind : (E : Environment) (S : Store) (x : Bytes) (a b : Tree) (e' : ℕ) (n : ℕ) → spines E S (Prod x a b) (Ind e') n ≡ Done false n
unfolding spines
spines-prod_ind E S x a b e' n = refl

pub spines-prod_con : (E : Environment) (S : Store) (x : Bytes) (a b : Tree) (e' k' : ℕ) (n : ℕ) → spines E S (Prod x a b) (Con e' k') n ≡ Done false n
unfolding spines
spines-prod_con E S x a b e' k' n = refl

pub spines-prod_match : (E : Environment) (S : Store) (x : Bytes) (a b : Tree) (e' : ℕ) (r' c' : Tree) (bs' : Arms) (n : ℕ) → spines E S (Prod x a b) (Match e' r' c' bs') n ≡ Done false n
unfolding spines
spines-prod_match E S x a b e' r' c' bs' n = refl

pub spines-prod_meta : (E : Environment) (S : Store) (x : Bytes) (a b : Tree) (m' : ℕ) (s' : Trees) (n : ℕ) → spines E S (Prod x a b) (Meta m' s') n ≡ Done false n
unfolding spines
spines-prod_meta E S x a b m' s' n = refl

pub spines-lam_var : (E : Environment) (S : Store) (x : Bytes) (a b : Tree) (i' : ℕ) (n : ℕ) → spines E S (Lam x a b) (Var i') n ≡ Done false n
unfolding spines
spines-lam_var E S x a b i' n = refl

pub spines-lam_sort : (E : Environment) (S : Store) (x : Bytes) (a b : Tree) (s' : AnySort) (n : ℕ) → spines E S (Lam x a b) (Sort s') n ≡ Done false n
unfolding spines
spines-lam_sort E S x a b s' n = refl

pub spines-lam_prod : (E : Environment) (S : Store) (x : Bytes) (a b : Tree) (x' : Bytes) (a' b' : Tree) (n : ℕ) → spines E S (Lam x a b) (Prod x' a' b') n ≡ Done false n
unfolding spines
spines-lam_prod E S x a b x' a' b' n = refl

pub spines-lam_app : (E : Environment) (S : Store) (x : Bytes) (a b : Tree) (f' g' : Tree) (n : ℕ) → spines E S (Lam x a b) (App f' g') n ≡ Done false n
unfolding spines
spines-lam_app E S x a b f' g' n = refl

pub spines-lam_const : (E : Environment) (S : Store) (x : Bytes) (a b : Tree) (c' : ℕ) (n : ℕ) → spines E S (Lam x a b) (Const c') n ≡ Done false n
unfolding spines
spines-lam_const E S x a b c' n = refl

pub spines-lam_ind : (E : Environment) (S : Store) (x : Bytes) (a b : Tree) (e' : ℕ) (n : ℕ) → spines E S (Lam x a b) (Ind e') n ≡ Done false n
unfolding spines
spines-lam_ind E S x a b e' n = refl

pub spines-lam_con : (E : Environment) (S : Store) (x : Bytes) (a b : Tree) (e' k' : ℕ) (n : ℕ) → spines E S (Lam x a b) (Con e' k') n ≡ Done false n
unfolding spines
spines-lam_con E S x a b e' k' n = refl

pub spines-lam_match : (E : Environment) (S : Store) (x : Bytes) (a b : Tree) (e' : ℕ) (r' c' : Tree) (bs' : Arms) (n : ℕ) → spines E S (Lam x a b) (Match e' r' c' bs') n ≡ Done false n
unfolding spines
spines-lam_match E S x a b e' r' c' bs' n = refl

pub spines-lam_meta : (E : Environment) (S : Store) (x : Bytes) (a b : Tree) (m' : ℕ) (s' : Trees) (n : ℕ) → spines E S (Lam x a b) (Meta m' s') n ≡ Done false n
unfolding spines
spines-lam_meta E S x a b m' s' n = refl

pub spines-app_var : (E : Environment) (S : Store) (f g : Tree) (i' : ℕ) (n : ℕ) → spines E S (App f g) (Var i') n ≡ Done false n
unfolding spines
spines-app_var E S f g i' n = refl

pub spines-app_sort : (E : Environment) (S : Store) (f g : Tree) (s' : AnySort) (n : ℕ) → spines E S (App f g) (Sort s') n ≡ Done false n
unfolding spines
spines-app_sort E S f g s' n = refl

pub spines-app_prod : (E : Environment) (S : Store) (f g : Tree) (x' : Bytes) (a' b' : Tree) (n : ℕ) → spines E S (App f g) (Prod x' a' b') n ≡ Done false n
unfolding spines
spines-app_prod E S f g x' a' b' n = refl

pub spines-app_lam : (E : Environment) (S : Store) (f g : Tree) (x' : Bytes) (a' b' : Tree) (n : ℕ) → spines E S (App f g) (Lam x' a' b') n ≡ Done false n
unfolding spines
spines-app_lam E S f g x' a' b' n = refl

pub spines-app_const : (E : Environment) (S : Store) (f g : Tree) (c' : ℕ) (n : ℕ) → spines E S (App f g) (Const c') n ≡ Done false n
unfolding spines
spines-app_const E S f g c' n = refl

pub spines-app_ind : (E : Environment) (S : Store) (f g : Tree) (e' : ℕ) (n : ℕ) → spines E S (App f g) (Ind e') n ≡ Done false n
unfolding spines
spines-app_ind E S f g e' n = refl

pub spines-app_con : (E : Environment) (S : Store) (f g : Tree) (e' k' : ℕ) (n : ℕ) → spines E S (App f g) (Con e' k') n ≡ Done false n
unfolding spines
spines-app_con E S f g e' k' n = refl

pub spines-app_match : (E : Environment) (S : Store) (f g : Tree) (e' : ℕ) (r' c' : Tree) (bs' : Arms) (n : ℕ) → spines E S (App f g) (Match e' r' c' bs') n ≡ Done false n
unfolding spines
spines-app_match E S f g e' r' c' bs' n = refl

pub spines-app_meta : (E : Environment) (S : Store) (f g : Tree) (m' : ℕ) (s' : Trees) (n : ℕ) → spines E S (App f g) (Meta m' s') n ≡ Done false n
unfolding spines
spines-app_meta E S f g m' s' n = refl

pub spines-const_var : (E : Environment) (S : Store) (c : ℕ) (i' : ℕ) (n : ℕ) → spines E S (Const c) (Var i') n ≡ Done false n
unfolding spines
spines-const_var E S c i' n = refl

pub spines-const_sort : (E : Environment) (S : Store) (c : ℕ) (s' : AnySort) (n : ℕ) → spines E S (Const c) (Sort s') n ≡ Done false n
unfolding spines
spines-const_sort E S c s' n = refl

pub spines-const_prod : (E : Environment) (S : Store) (c : ℕ) (x' : Bytes) (a' b' : Tree) (n : ℕ) → spines E S (Const c) (Prod x' a' b') n ≡ Done false n
unfolding spines
spines-const_prod E S c x' a' b' n = refl

pub spines-const_lam : (E : Environment) (S : Store) (c : ℕ) (x' : Bytes) (a' b' : Tree) (n : ℕ) → spines E S (Const c) (Lam x' a' b') n ≡ Done false n
unfolding spines
spines-const_lam E S c x' a' b' n = refl

pub spines-const_app : (E : Environment) (S : Store) (c : ℕ) (f' g' : Tree) (n : ℕ) → spines E S (Const c) (App f' g') n ≡ Done false n
unfolding spines
spines-const_app E S c f' g' n = refl

pub spines-const_ind : (E : Environment) (S : Store) (c : ℕ) (e' : ℕ) (n : ℕ) → spines E S (Const c) (Ind e') n ≡ Done false n
unfolding spines
spines-const_ind E S c e' n = refl

pub spines-const_con : (E : Environment) (S : Store) (c : ℕ) (e' k' : ℕ) (n : ℕ) → spines E S (Const c) (Con e' k') n ≡ Done false n
unfolding spines
spines-const_con E S c e' k' n = refl

pub spines-const_match : (E : Environment) (S : Store) (c : ℕ) (e' : ℕ) (r' c' : Tree) (bs' : Arms) (n : ℕ) → spines E S (Const c) (Match e' r' c' bs') n ≡ Done false n
unfolding spines
spines-const_match E S c e' r' c' bs' n = refl

pub spines-const_meta : (E : Environment) (S : Store) (c : ℕ) (m' : ℕ) (s' : Trees) (n : ℕ) → spines E S (Const c) (Meta m' s') n ≡ Done false n
unfolding spines
spines-const_meta E S c m' s' n = refl

pub spines-ind_var : (E : Environment) (S : Store) (e : ℕ) (i' : ℕ) (n : ℕ) → spines E S (Ind e) (Var i') n ≡ Done false n
unfolding spines
spines-ind_var E S e i' n = refl

pub spines-ind_sort : (E : Environment) (S : Store) (e : ℕ) (s' : AnySort) (n : ℕ) → spines E S (Ind e) (Sort s') n ≡ Done false n
unfolding spines
spines-ind_sort E S e s' n = refl

pub spines-ind_prod : (E : Environment) (S : Store) (e : ℕ) (x' : Bytes) (a' b' : Tree) (n : ℕ) → spines E S (Ind e) (Prod x' a' b') n ≡ Done false n
unfolding spines
spines-ind_prod E S e x' a' b' n = refl

pub spines-ind_lam : (E : Environment) (S : Store) (e : ℕ) (x' : Bytes) (a' b' : Tree) (n : ℕ) → spines E S (Ind e) (Lam x' a' b') n ≡ Done false n
unfolding spines
spines-ind_lam E S e x' a' b' n = refl

pub spines-ind_app : (E : Environment) (S : Store) (e : ℕ) (f' g' : Tree) (n : ℕ) → spines E S (Ind e) (App f' g') n ≡ Done false n
unfolding spines
spines-ind_app E S e f' g' n = refl

pub spines-ind_const : (E : Environment) (S : Store) (e : ℕ) (c' : ℕ) (n : ℕ) → spines E S (Ind e) (Const c') n ≡ Done false n
unfolding spines
spines-ind_const E S e c' n = refl

pub spines-ind_con : (E : Environment) (S : Store) (e : ℕ) (e' k' : ℕ) (n : ℕ) → spines E S (Ind e) (Con e' k') n ≡ Done false n
unfolding spines
spines-ind_con E S e e' k' n = refl

pub spines-ind_match : (E : Environment) (S : Store) (e : ℕ) (e' : ℕ) (r' c' : Tree) (bs' : Arms) (n : ℕ) → spines E S (Ind e) (Match e' r' c' bs') n ≡ Done false n
unfolding spines
spines-ind_match E S e e' r' c' bs' n = refl

pub spines-ind_meta : (E : Environment) (S : Store) (e : ℕ) (m' : ℕ) (s' : Trees) (n : ℕ) → spines E S (Ind e) (Meta m' s') n ≡ Done false n
unfolding spines
spines-ind_meta E S e m' s' n = refl

pub spines-con_var : (E : Environment) (S : Store) (e k : ℕ) (i' : ℕ) (n : ℕ) → spines E S (Con e k) (Var i') n ≡ Done false n
unfolding spines
spines-con_var E S e k i' n = refl

pub spines-con_sort : (E : Environment) (S : Store) (e k : ℕ) (s' : AnySort) (n : ℕ) → spines E S (Con e k) (Sort s') n ≡ Done false n
unfolding spines
spines-con_sort E S e k s' n = refl

pub spines-con_prod : (E : Environment) (S : Store) (e k : ℕ) (x' : Bytes) (a' b' : Tree) (n : ℕ) → spines E S (Con e k) (Prod x' a' b') n ≡ Done false n
unfolding spines
spines-con_prod E S e k x' a' b' n = refl

pub spines-con_lam : (E : Environment) (S : Store) (e k : ℕ) (x' : Bytes) (a' b' : Tree) (n : ℕ) → spines E S (Con e k) (Lam x' a' b') n ≡ Done false n
unfolding spines
spines-con_lam E S e k x' a' b' n = refl

pub spines-con_app : (E : Environment) (S : Store) (e k : ℕ) (f' g' : Tree) (n : ℕ) → spines E S (Con e k) (App f' g') n ≡ Done false n
unfolding spines
spines-con_app E S e k f' g' n = refl

pub spines-con_const : (E : Environment) (S : Store) (e k : ℕ) (c' : ℕ) (n : ℕ) → spines E S (Con e k) (Const c') n ≡ Done false n
unfolding spines
spines-con_const E S e k c' n = refl

pub spines-con_ind : (E : Environment) (S : Store) (e k : ℕ) (e' : ℕ) (n : ℕ) → spines E S (Con e k) (Ind e') n ≡ Done false n
unfolding spines
spines-con_ind E S e k e' n = refl

pub spines-con_match : (E : Environment) (S : Store) (e k : ℕ) (e' : ℕ) (r' c' : Tree) (bs' : Arms) (n : ℕ) → spines E S (Con e k) (Match e' r' c' bs') n ≡ Done false n
unfolding spines
spines-con_match E S e k e' r' c' bs' n = refl

pub spines-con_meta : (E : Environment) (S : Store) (e k : ℕ) (m' : ℕ) (s' : Trees) (n : ℕ) → spines E S (Con e k) (Meta m' s') n ≡ Done false n
unfolding spines
spines-con_meta E S e k m' s' n = refl

pub spines-match_var : (E : Environment) (S : Store) (e : ℕ) (r c : Tree) (bs : Arms) (i' : ℕ) (n : ℕ) → spines E S (Match e r c bs) (Var i') n ≡ Done false n
unfolding spines
spines-match_var E S e r c bs i' n = refl

pub spines-match_sort : (E : Environment) (S : Store) (e : ℕ) (r c : Tree) (bs : Arms) (s' : AnySort) (n : ℕ) → spines E S (Match e r c bs) (Sort s') n ≡ Done false n
unfolding spines
spines-match_sort E S e r c bs s' n = refl

pub spines-match_prod : (E : Environment) (S : Store) (e : ℕ) (r c : Tree) (bs : Arms) (x' : Bytes) (a' b' : Tree) (n : ℕ) → spines E S (Match e r c bs) (Prod x' a' b') n ≡ Done false n
unfolding spines
spines-match_prod E S e r c bs x' a' b' n = refl

pub spines-match_lam : (E : Environment) (S : Store) (e : ℕ) (r c : Tree) (bs : Arms) (x' : Bytes) (a' b' : Tree) (n : ℕ) → spines E S (Match e r c bs) (Lam x' a' b') n ≡ Done false n
unfolding spines
spines-match_lam E S e r c bs x' a' b' n = refl

pub spines-match_app : (E : Environment) (S : Store) (e : ℕ) (r c : Tree) (bs : Arms) (f' g' : Tree) (n : ℕ) → spines E S (Match e r c bs) (App f' g') n ≡ Done false n
unfolding spines
spines-match_app E S e r c bs f' g' n = refl

pub spines-match_const : (E : Environment) (S : Store) (e : ℕ) (r c : Tree) (bs : Arms) (c' : ℕ) (n : ℕ) → spines E S (Match e r c bs) (Const c') n ≡ Done false n
unfolding spines
spines-match_const E S e r c bs c' n = refl

pub spines-match_ind : (E : Environment) (S : Store) (e : ℕ) (r c : Tree) (bs : Arms) (e' : ℕ) (n : ℕ) → spines E S (Match e r c bs) (Ind e') n ≡ Done false n
unfolding spines
spines-match_ind E S e r c bs e' n = refl

pub spines-match_con : (E : Environment) (S : Store) (e : ℕ) (r c : Tree) (bs : Arms) (e' k' : ℕ) (n : ℕ) → spines E S (Match e r c bs) (Con e' k') n ≡ Done false n
unfolding spines
spines-match_con E S e r c bs e' k' n = refl

pub spines-match_meta : (E : Environment) (S : Store) (e : ℕ) (r c : Tree) (bs : Arms) (m' : ℕ) (s' : Trees) (n : ℕ) → spines E S (Match e r c bs) (Meta m' s') n ≡ Done false n
unfolding spines
spines-match_meta E S e r c bs m' s' n = refl

pub spines-meta_var : (E : Environment) (S : Store) (m : ℕ) (s : Trees) (i' : ℕ) (n : ℕ) → spines E S (Meta m s) (Var i') n ≡ Done false n
unfolding spines
spines-meta_var E S m s i' n = refl

pub spines-meta_sort : (E : Environment) (S : Store) (m : ℕ) (s : Trees) (s' : AnySort) (n : ℕ) → spines E S (Meta m s) (Sort s') n ≡ Done false n
unfolding spines
spines-meta_sort E S m s s' n = refl

pub spines-meta_prod : (E : Environment) (S : Store) (m : ℕ) (s : Trees) (x' : Bytes) (a' b' : Tree) (n : ℕ) → spines E S (Meta m s) (Prod x' a' b') n ≡ Done false n
unfolding spines
spines-meta_prod E S m s x' a' b' n = refl

pub spines-meta_lam : (E : Environment) (S : Store) (m : ℕ) (s : Trees) (x' : Bytes) (a' b' : Tree) (n : ℕ) → spines E S (Meta m s) (Lam x' a' b') n ≡ Done false n
unfolding spines
spines-meta_lam E S m s x' a' b' n = refl

pub spines-meta_app : (E : Environment) (S : Store) (m : ℕ) (s : Trees) (f' g' : Tree) (n : ℕ) → spines E S (Meta m s) (App f' g') n ≡ Done false n
unfolding spines
spines-meta_app E S m s f' g' n = refl

pub spines-meta_const : (E : Environment) (S : Store) (m : ℕ) (s : Trees) (c' : ℕ) (n : ℕ) → spines E S (Meta m s) (Const c') n ≡ Done false n
unfolding spines
spines-meta_const E S m s c' n = refl

pub spines-meta_ind : (E : Environment) (S : Store) (m : ℕ) (s : Trees) (e' : ℕ) (n : ℕ) → spines E S (Meta m s) (Ind e') n ≡ Done false n
unfolding spines
spines-meta_ind E S m s e' n = refl

pub spines-meta_con : (E : Environment) (S : Store) (m : ℕ) (s : Trees) (e' k' : ℕ) (n : ℕ) → spines E S (Meta m s) (Con e' k') n ≡ Done false n
unfolding spines
spines-meta_con E S m s e' k' n = refl

pub spines-meta_match : (E : Environment) (S : Store) (m : ℕ) (s : Trees) (e' : ℕ) (r' c' : Tree) (bs' : Arms) (n : ℕ) → spines E S (Meta m s) (Match e' r' c' bs') n ≡ Done false n
unfolding spines
spines-meta_match E S m s e' r' c' bs' n = refl

pub spines-sort_sort : (E : Environment) (S : Store) (s : AnySort) (s' : AnySort) (n : ℕ) → spines E S (Sort s) (Sort s') n ≡ Done false n
unfolding spines
spines-sort_sort E S s s' n = refl

pub spines-prod_prod : (E : Environment) (S : Store) (x : Bytes) (a b : Tree) (x' : Bytes) (a' b' : Tree) (n : ℕ) → spines E S (Prod x a b) (Prod x' a' b') n ≡ Done false n
unfolding spines
spines-prod_prod E S x a b x' a' b' n = refl

pub spines-lam_lam : (E : Environment) (S : Store) (x : Bytes) (a b : Tree) (x' : Bytes) (a' b' : Tree) (n : ℕ) → spines E S (Lam x a b) (Lam x' a' b') n ≡ Done false n
unfolding spines
spines-lam_lam E S x a b x' a' b' n = refl

pub ruleset apart_rules = (heads-sort_var, heads-sort_prod, heads-sort_lam, heads-sort_app, heads-sort_const, heads-sort_ind, heads-sort_con, heads-sort_match, heads-sort_meta, heads-prod_var, heads-prod_sort, heads-prod_lam, heads-prod_app, heads-prod_const, heads-prod_ind, heads-prod_con, heads-prod_match, heads-prod_meta, heads-lam_var, heads-lam_sort, heads-lam_prod, heads-lam_app, heads-lam_const, heads-lam_ind, heads-lam_con, heads-lam_match, heads-lam_meta, spines-var_sort, spines-var_prod, spines-var_lam, spines-var_app, spines-var_const, spines-var_ind, spines-var_con, spines-var_match, spines-var_meta, spines-sort_var, spines-sort_prod, spines-sort_lam, spines-sort_app, spines-sort_const, spines-sort_ind, spines-sort_con, spines-sort_match, spines-sort_meta, spines-prod_var, spines-prod_sort, spines-prod_lam, spines-prod_app, spines-prod_const, spines-prod_ind, spines-prod_con, spines-prod_match, spines-prod_meta, spines-lam_var, spines-lam_sort, spines-lam_prod, spines-lam_app, spines-lam_const, spines-lam_ind, spines-lam_con, spines-lam_match, spines-lam_meta, spines-app_var, spines-app_sort, spines-app_prod, spines-app_lam, spines-app_const, spines-app_ind, spines-app_con, spines-app_match, spines-app_meta, spines-const_var, spines-const_sort, spines-const_prod, spines-const_lam, spines-const_app, spines-const_ind, spines-const_con, spines-const_match, spines-const_meta, spines-ind_var, spines-ind_sort, spines-ind_prod, spines-ind_lam, spines-ind_app, spines-ind_const, spines-ind_con, spines-ind_match, spines-ind_meta, spines-con_var, spines-con_sort, spines-con_prod, spines-con_lam, spines-con_app, spines-con_const, spines-con_ind, spines-con_match, spines-con_meta, spines-match_var, spines-match_sort, spines-match_prod, spines-match_lam, spines-match_app, spines-match_const, spines-match_ind, spines-match_con, spines-match_meta, spines-meta_var, spines-meta_sort, spines-meta_prod, spines-meta_lam, spines-meta_app, spines-meta_const, spines-meta_ind, spines-meta_con, spines-meta_match, spines-sort_sort, spines-prod_prod, spines-lam_lam)
