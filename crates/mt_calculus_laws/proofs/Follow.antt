-- Contraction and conversion of the terms that are substituted; each image follows its store.
use Rattle.std.proofs.Common.{Bool, ◌≡◌, ℕ, zero, suc, List, [], ◌∷◌, Some, refl, sym, ap, ◌∙◌, subst, subst₂}
use Rattle.mt_term.proofs.Subst.{meta_steady, ren_sub, sub_id, one_shift}
use Rattle.mt_calculus_laws.proofs.Steps.{Reduces, done, more, step, also, within, within_item, within_all, within_rest, ReducesArms, done_arms, more_arms, within_arm, within_later, within_match, ReducesIn, done_all, more_all, Tracks, ClosedEnv, contracts_tr, conv_tr}
use Rattle.mt_calculus_laws.proofs.Images.{Wrap, lets, ty_at, loose_number, loose_term, Image, Num, Put, act_on, act, act_steady, Given, number, term, Over}
use Rattle.mt_term.proofs.Options.{none_some}
use Rattle.mt_term.specs.Trees.{Tree, Trees, Arms, Bytes, Var, Sort, Prod, Lam, App, Const, Ind, Con, Match, Meta, End, Item, NoArm, Arm}
use Rattle.mt_term.specs.Substitution.{ren, then_as, up, ups, tr, tr_all, tr_arms, sub, fill, beyond, under, count}
use Rattle.mt_term.specs.Declarations.{Environment}
use Rattle.mt_term.specs.Stores.{Declared, Store}
use Rattle.mt_calculus.specs.Contraction.{Contracts, beta, assigned, in_dom, in_cod, in_type, in_body, in_fun, in_arg, in_return, in_matched, in_terms, ContractsIn, in_first, in_rest}
use Rattle.mt_calculus.specs.Conversion.{Conv, same, prods, lams, app_conv, matches, metas, ConvAll, ends, items, ConvArms, no_arms, arms}

pub also_all : {E : Environment} {S : Store} {s t u : Trees} → ReducesIn E S s t → ReducesIn E S t u → ReducesIn E S s u
also_all done_all q = q
also_all (more_all c p) q = more_all c (also_all p q)

pub also_arms : {E : Environment} {S : Store} {s t u : Arms} → ReducesArms E S s t → ReducesArms E S t u → ReducesArms E S s u
also_arms done_arms q = q
also_arms (more_arms c p) q = more_arms c (also_arms p q)

pub match_reduces : {E : Environment} {S : Store} (e : ℕ) {R R' c c' : Tree} {bs bs' : Arms} → Reduces E S R R' → Reduces E S c c' → ReducesArms E S bs bs' → Reduces E S (Match e R c bs) (Match e R' c' bs')
match_reduces e {R' = R'} {c = c} {c' = c'} {bs = bs} p q r = also (within (λ v. Match e v c bs) (λ a b. in_return) p) (also (within (λ v. Match e R' v bs) (λ a b. in_matched) q) (within_match e R' c' r))

pub meta_tracks : (E : Environment) (S : Store) → Tracks E S Meta S
meta_tracks E S = record { steady = meta_steady; bodies = λ n d b e g s. subst (λ v. Reduces E S (Meta n s) (under s v)) (sym (sub_id b)) (step (assigned e g)); terms = λ n s t c. step (in_terms c); convs = λ n s t c. metas c }

module _ (E : Environment) (closed : ClosedEnv E) (S : Store) where
  pub reduces_ren : (ξ : ℕ → ℕ) {t u : Tree} → Reduces E S t u → Reduces E S (ren ξ t) (ren ξ u)
  reduces_ren ξ done = done
  reduces_ren ξ (more {t = t} {u = u} c r) = also (subst₂ (λ a b. Reduces E S a b) (ren_sub ξ t) (ren_sub ξ u) (contracts_tr E closed S Meta S (meta_tracks E S) c (λ i. Var (ξ i)))) (reduces_ren ξ r)

  pub conv_ren : (ξ : ℕ → ℕ) (t u : Tree) → Conv E S t u → Conv E S (ren ξ t) (ren ξ u)
  conv_ren ξ t u c = subst₂ (λ a b. Conv E S a b) (ren_sub ξ t) (ren_sub ξ u) (conv_tr E closed S Meta S (meta_tracks E S) c (λ i. Var (ξ i)))

  up_reduces : (σ τ : ℕ → Tree) → ((i : ℕ) → Reduces E S (σ i) (τ i)) → (i : ℕ) → Reduces E S (up σ i) (up τ i)
  up_reduces σ τ h zero = done
  up_reduces σ τ h (suc i) = reduces_ren suc (h i)

  pub two : {a a' b b' : Tree} (g : Tree → Tree → Tree) → ((x y z : Tree) → Contracts E S x y → Contracts E S (g x z) (g y z)) → ((x y z : Tree) → Contracts E S x y → Contracts E S (g z x) (g z y)) → Reduces E S a a' → Reduces E S b b' → Reduces E S (g a b) (g a' b')
  two {a' = a'} {b = b} g l r p q = also (within (λ v. g v b) (λ x y. l x y b) p) (within (λ v. g a' v) (λ x y. r x y a') q)

  ups_reduces : (xs : List Bytes) (σ τ : ℕ → Tree) → ((i : ℕ) → Reduces E S (σ i) (τ i)) → (i : ℕ) → Reduces E S (ups xs σ i) (ups xs τ i)
  ups_reduces [] σ τ h = h
  ups_reduces (x ∷ xs) σ τ h = ups_reduces xs (up σ) (up τ) (up_reduces σ τ h)

  mutual
    pub sub_reduces : (σ τ : ℕ → Tree) → ((i : ℕ) → Reduces E S (σ i) (τ i)) → (t : Tree) → Reduces E S (sub σ t) (sub τ t)
    sub_reduces σ τ h (Var i) = h i
    sub_reduces σ τ h (Sort s) = done
    sub_reduces σ τ h (Prod x A B) = two (Prod x) (λ a b c. in_dom) (λ a b c. in_cod) (sub_reduces σ τ h A) (sub_reduces (up σ) (up τ) (up_reduces σ τ h) B)
    sub_reduces σ τ h (Lam x A b) = two (Lam x) (λ a b c. in_type) (λ a b c. in_body) (sub_reduces σ τ h A) (sub_reduces (up σ) (up τ) (up_reduces σ τ h) b)
    sub_reduces σ τ h (App f a) = two App (λ a b c. in_fun) (λ a b c. in_arg) (sub_reduces σ τ h f) (sub_reduces σ τ h a)
    sub_reduces σ τ h (Const c) = done
    sub_reduces σ τ h (Ind e) = done
    sub_reduces σ τ h (Con e k) = done
    sub_reduces σ τ h (Match e R c bs) = match_reduces e (sub_reduces σ τ h R) (sub_reduces σ τ h c) (sub_reduces_arms σ τ h bs)
    sub_reduces σ τ h (Meta n s) = within_all (Meta n) (λ a b c. step (in_terms c)) (sub_reduces_all σ τ h s)

    pub sub_reduces_all : (σ τ : ℕ → Tree) → ((i : ℕ) → Reduces E S (σ i) (τ i)) → (s : Trees) → ReducesIn E S (tr_all Meta σ s) (tr_all Meta τ s)
    sub_reduces_all σ τ h End = done_all
    sub_reduces_all σ τ h (Item t s) = also_all (within_item (λ v. Item v (tr_all Meta σ s)) (λ a b. in_first) (sub_reduces σ τ h t)) (within_rest (sub τ t) (sub_reduces_all σ τ h s))

    pub sub_reduces_arms : (σ τ : ℕ → Tree) → ((i : ℕ) → Reduces E S (σ i) (τ i)) → (bs : Arms) → ReducesArms E S (tr_arms Meta σ bs) (tr_arms Meta τ bs)
    sub_reduces_arms σ τ h NoArm = done_arms
    sub_reduces_arms σ τ h (Arm xs b bs) = also_arms (within_arm xs (tr_arms Meta σ bs) (sub_reduces (ups xs σ) (ups xs τ) (ups_reduces xs σ τ h) b)) (within_later xs (sub (ups xs τ) b) (sub_reduces_arms σ τ h bs))

  then_reduces : (t u : Tree) (σ τ : ℕ → Tree) → Reduces E S t u → ((i : ℕ) → Reduces E S (σ i) (τ i)) → (i : ℕ) → Reduces E S (then_as t σ i) (then_as u τ i)
  then_reduces t u σ τ r h zero = r
  then_reduces t u σ τ r h (suc i) = h i

  fill_reduces : (s : Trees) (σ τ : ℕ → Tree) → ((i : ℕ) → Reduces E S (σ i) (τ i)) → (i : ℕ) → Reduces E S (fill s σ i) (fill s τ i)
  fill_reduces End σ τ h = h
  fill_reduces (Item t s) σ τ h = fill_reduces s (then_as t σ) (then_as t τ) (then_reduces t t σ τ done h)

  fill_steps : {s t : Trees} → ContractsIn E S s t → (σ : ℕ → Tree) (i : ℕ) → Reduces E S (fill s σ i) (fill t σ i)
  fill_steps (in_first {t = t} {t' = u} {s = s} c) σ = fill_reduces s (then_as t σ) (then_as u σ) (then_reduces t u σ σ (step c) (λ i. done))
  fill_steps (in_rest {t = t} c) σ = fill_steps c (then_as t σ)

  count_steps : {s t : Trees} → ContractsIn E S s t → count s ≡ count t
  count_steps (in_first c) = refl
  count_steps (in_rest c) = ap suc (count_steps c)

  lets_reduces : {s t : Trees} → ContractsIn E S s t → (k : ℕ) (Γ : List Tree) (r r' : Tree) → Reduces E S r r' → Reduces E S (lets k s Γ r) (lets k t Γ r')
  lets_reduces c zero Γ r r' h = h
  lets_reduces {s = s} {t = t} c (suc k) Γ r r' h =
      two App (λ a b c. in_fun) (λ a b c. in_arg)
      (two (Lam []) (λ a b c. in_type) (λ a b c. in_body) (sub_reduces (fill s beyond) (fill t beyond) (fill_steps c beyond) (ty_at Γ k)) (reduces_ren suc (lets_reduces c k Γ r r' h)))
      (fill_steps c beyond k)

  pub lets_done : (k : ℕ) (s : Trees) (Γ : List Tree) (r : Tree) → Reduces E S (lets k s Γ r) r
  lets_done zero s Γ r = done
  lets_done (suc k) s Γ r = more (subst (Contracts E S (lets (suc k) s Γ r)) (one_shift (fill s beyond k) (lets k s Γ r)) beta) (lets_done k s Γ r)

  pub act_terms : (i : Image) (s t : Trees) → ContractsIn E S s t → Reduces E S (act_on i s) (act_on i t)
  act_terms (Num m) s t c = step (in_terms c)
  act_terms (Put u) s t c = sub_reduces (fill s beyond) (fill t beyond) (fill_steps c beyond) u
  act_terms (Wrap Γ u) s t c = subst (λ k. Reduces E S (lets (count s) s Γ (under s u)) (lets k t Γ (under t u))) (count_steps c) (lets_reduces c (count s) Γ (under s u) (under t u) (sub_reduces (fill s beyond) (fill t beyond) (fill_steps c beyond) u))

  up_convs : (σ τ : ℕ → Tree) → ((i : ℕ) → Conv E S (σ i) (τ i)) → (i : ℕ) → Conv E S (up σ i) (up τ i)
  up_convs σ τ h zero = same
  up_convs σ τ h (suc i) = conv_ren suc (σ i) (τ i) (h i)

  ups_convs : (xs : List Bytes) (σ τ : ℕ → Tree) → ((i : ℕ) → Conv E S (σ i) (τ i)) → (i : ℕ) → Conv E S (ups xs σ i) (ups xs τ i)
  ups_convs [] σ τ h = h
  ups_convs (x ∷ xs) σ τ h = ups_convs xs (up σ) (up τ) (up_convs σ τ h)

  mutual
    pub sub_convs : (σ τ : ℕ → Tree) → ((i : ℕ) → Conv E S (σ i) (τ i)) → (t : Tree) → Conv E S (sub σ t) (sub τ t)
    sub_convs σ τ h (Var i) = h i
    sub_convs σ τ h (Sort s) = same
    sub_convs σ τ h (Prod x A B) = prods (sub_convs σ τ h A) (sub_convs (up σ) (up τ) (up_convs σ τ h) B)
    sub_convs σ τ h (Lam x A b) = lams (sub_convs σ τ h A) (sub_convs (up σ) (up τ) (up_convs σ τ h) b)
    sub_convs σ τ h (Ind e) = same
    sub_convs σ τ h (Con e k) = same
    sub_convs σ τ h (Match e R c bs) = matches (sub_convs σ τ h R) (sub_convs σ τ h c) (sub_convs_arms σ τ h bs)
    sub_convs σ τ h (App f a) = app_conv (sub_convs σ τ h f) (sub_convs σ τ h a)
    sub_convs σ τ h (Const c) = same
    sub_convs σ τ h (Meta n s) = metas (sub_convs_all σ τ h s)

    pub sub_convs_all : (σ τ : ℕ → Tree) → ((i : ℕ) → Conv E S (σ i) (τ i)) → (s : Trees) → ConvAll E S (tr_all Meta σ s) (tr_all Meta τ s)
    sub_convs_all σ τ h End = ends
    sub_convs_all σ τ h (Item t s) = items (sub_convs σ τ h t) (sub_convs_all σ τ h s)

    pub sub_convs_arms : (σ τ : ℕ → Tree) → ((i : ℕ) → Conv E S (σ i) (τ i)) → (bs : Arms) → ConvArms E S (tr_arms Meta σ bs) (tr_arms Meta τ bs)
    sub_convs_arms σ τ h NoArm = no_arms
    sub_convs_arms σ τ h (Arm xs b bs) = arms refl (sub_convs (ups xs σ) (ups xs τ) (ups_convs xs σ τ h) b) (sub_convs_arms σ τ h bs)

  then_convs : (t u : Tree) (σ τ : ℕ → Tree) → Conv E S t u → ((i : ℕ) → Conv E S (σ i) (τ i)) → (i : ℕ) → Conv E S (then_as t σ i) (then_as u τ i)
  then_convs t u σ τ r h zero = r
  then_convs t u σ τ r h (suc i) = h i

  fill_convs : {s t : Trees} → ConvAll E S s t → (σ τ : ℕ → Tree) → ((i : ℕ) → Conv E S (σ i) (τ i)) → (i : ℕ) → Conv E S (fill s σ i) (fill t τ i)
  fill_convs ends σ τ h = h
  fill_convs (items {t = t} {t' = u} c e) σ τ h = fill_convs e (then_as t σ) (then_as u τ) (then_convs t u σ τ c h)

  count_convs : {s t : Trees} → ConvAll E S s t → count s ≡ count t
  count_convs ends = refl
  count_convs (items c e) = ap suc (count_convs e)

  lets_convs : {s t : Trees} → ConvAll E S s t → (k : ℕ) (Γ : List Tree) (r r' : Tree) → Conv E S r r' → Conv E S (lets k s Γ r) (lets k t Γ r')
  lets_convs c zero Γ r r' h = h
  lets_convs {s = s} {t = t} c (suc k) Γ r r' h = app_conv (lams (sub_convs (fill s beyond) (fill t beyond) (fill_convs c beyond beyond (λ i. same)) (ty_at Γ k)) (conv_ren suc (lets k s Γ r) (lets k t Γ r') (lets_convs c k Γ r r' h))) (fill_convs c beyond beyond (λ i. same) k)

  act_convs : (i : Image) (s t : Trees) → ConvAll E S s t → Conv E S (act_on i s) (act_on i t)
  act_convs (Num m) s t c = metas c
  act_convs (Put u) s t c = sub_convs (fill s beyond) (fill t beyond) (fill_convs c beyond beyond (λ i. same)) u
  act_convs (Wrap Γ u) s t c = subst (λ k. Conv E S (lets (count s) s Γ (under s u)) (lets k t Γ (under t u))) (count_convs c) (lets_convs c (count s) Γ (under s u) (under t u) (sub_convs (fill s beyond) (fill t beyond) (fill_convs c beyond beyond (λ i. same)) u))

module _ (E : Environment) (free : Bool) (closed : ClosedEnv E) where
  given_body : (l : Bool) (S' : Store) (f : ℕ → Trees → Tree) (d : Declared) (i : Image) → Given E free l S' f d i → (b : Tree) → d.body ≡ Some b → (s : Trees) → Reduces E S' (act_on i s) (under s (tr f Var b))
  given_body l S' f d (Num m) (number e g1 g2 g3) b g s = step (assigned e (g3 b g))
  given_body l S' f d (Put u) (term h k a) b g s = subst (λ v. Reduces E S' (under s u) (under s v)) (k b g) done
  given_body l S' f d (Num m) (loose_number z e g1 g2 g3) b g s = absurd (none_some (sym g3 ∙ g))
  given_body l S' f d (Wrap Δ u) (loose_term z g1 g2 h g3 p a) b g s = subst (λ v. Reduces E S' (lets (count s) s Δ (under s u)) (under s v)) (g3 b g) (lets_done E closed S' (count s) s Δ (under s u))

  pub over_tracks : (l : Bool) (S : Store) (μ : ℕ → Image) (S' : Store) → Over E free l S μ S' → Tracks E S (act μ) S'
  over_tracks l S μ S' over = record { steady = act_steady μ; bodies = λ n d b e g s. given_body l S' (act μ) d (μ n) (over.images n d e) b g s; terms = λ n s t c. act_terms E closed S' (μ n) s t c; convs = λ n s t c. act_convs E closed S' (μ n) s t c }
