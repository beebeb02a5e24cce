-- The laws of renaming and transformation.
use Rattle.std.proofs.Common.{length, arith, [], ◌∷◌, ◌≡◌, ℕ, zero, suc, List, refl, sym, ap, ap₂, ◌∙◌, subst}
use mathlib.Core.Path.{fun_ext}
use Rattle.mt_term.specs.Trees.{Tree, Trees, Arms, Bytes, Var, Sort, Prod, Lam, App, Const, Ind, Con, Match, Meta, End, Item, NoArm, Arm}
use Rattle.mt_term.specs.Substitution.{up_ren, up_rens, ren, ren_all, ren_arms, then_as, up, ups, tr, tr_all, tr_arms, sub, one, fill, beyond, under, apps, all_but, join, count}

up_up_ren : (σ : ℕ → Tree) (ξ : ℕ → ℕ) → (λ (i : ℕ). up σ (up_ren ξ i)) ≡ up (λ i. σ (ξ i))
up_up_ren σ ξ = fun_ext go
  where
    go : (i : ℕ) → up σ (up_ren ξ i) ≡ up (λ j. σ (ξ j)) i
    go zero = refl
    go (suc i) = refl

pub ups_up_rens : (xs : List Bytes) (σ : ℕ → Tree) (ξ : ℕ → ℕ) → (λ (i : ℕ). ups xs σ (up_rens xs ξ i)) ≡ ups xs (λ i. σ (ξ i))
ups_up_rens [] σ ξ = refl
ups_up_rens (x ∷ xs) σ ξ = ups_up_rens xs (up σ) (up_ren ξ) ∙ ap (ups xs) (up_up_ren σ ξ)

mutual
  pub tr_ren : (f : ℕ → Trees → Tree) (σ : ℕ → Tree) (ξ : ℕ → ℕ) (t : Tree) → tr f σ (ren ξ t) ≡ tr f (λ i. σ (ξ i)) t
  tr_ren f σ ξ (Var i) = refl
  tr_ren f σ ξ (Sort s) = refl
  tr_ren f σ ξ (Prod x a b) = ap₂ (Prod x) (tr_ren f σ ξ a) (tr_ren f (up σ) (up_ren ξ) b ∙ ap (λ τ. tr f τ b) (up_up_ren σ ξ))
  tr_ren f σ ξ (Lam x a b) = ap₂ (Lam x) (tr_ren f σ ξ a) (tr_ren f (up σ) (up_ren ξ) b ∙ ap (λ τ. tr f τ b) (up_up_ren σ ξ))
  tr_ren f σ ξ (App g a) = ap₂ App (tr_ren f σ ξ g) (tr_ren f σ ξ a)
  tr_ren f σ ξ (Const c) = refl
  tr_ren f σ ξ (Ind e) = refl
  tr_ren f σ ξ (Con e k) = refl
  tr_ren f σ ξ (Match e r c bs) = λ i. Match e (tr_ren f σ ξ r i) (tr_ren f σ ξ c i) (tr_ren_arms f σ ξ bs i)
  tr_ren f σ ξ (Meta n s) = ap (f n) (tr_ren_all f σ ξ s)

  pub tr_ren_all : (f : ℕ → Trees → Tree) (σ : ℕ → Tree) (ξ : ℕ → ℕ) (s : Trees) → tr_all f σ (ren_all ξ s) ≡ tr_all f (λ i. σ (ξ i)) s
  tr_ren_all f σ ξ End = refl
  tr_ren_all f σ ξ (Item t s) = ap₂ Item (tr_ren f σ ξ t) (tr_ren_all f σ ξ s)

  pub tr_ren_arms : (f : ℕ → Trees → Tree) (σ : ℕ → Tree) (ξ : ℕ → ℕ) (bs : Arms) → tr_arms f σ (ren_arms ξ bs) ≡ tr_arms f (λ i. σ (ξ i)) bs
  tr_ren_arms f σ ξ NoArm = refl
  tr_ren_arms f σ ξ (Arm xs b bs) = ap₂ (Arm xs) (tr_ren f (ups xs σ) (up_rens xs ξ) b ∙ ap (λ τ. tr f τ b) (ups_up_rens xs σ ξ)) (tr_ren_arms f σ ξ bs)

-- renaming as a substitution
up_var : (ξ : ℕ → ℕ) → up (λ i. Var (ξ i)) ≡ (λ i. Var (up_ren ξ i))
up_var ξ = fun_ext go
  where
    go : (i : ℕ) → up (λ j. Var (ξ j)) i ≡ Var (up_ren ξ i)
    go zero = refl
    go (suc i) = refl

pub ups_var : (xs : List Bytes) (ξ : ℕ → ℕ) → ups xs (λ i. Var (ξ i)) ≡ (λ (i : ℕ). Var (up_rens xs ξ i))
ups_var [] ξ = refl
ups_var (x ∷ xs) ξ = ap (ups xs) (up_var ξ) ∙ ups_var xs (up_ren ξ)

mutual
  pub ren_sub : (ξ : ℕ → ℕ) (t : Tree) → sub (λ i. Var (ξ i)) t ≡ ren ξ t
  ren_sub ξ (Var i) = refl
  ren_sub ξ (Sort s) = refl
  ren_sub ξ (Prod x a b) = ap₂ (Prod x) (ren_sub ξ a) (ap (λ τ. sub τ b) (up_var ξ) ∙ ren_sub (up_ren ξ) b)
  ren_sub ξ (Lam x a b) = ap₂ (Lam x) (ren_sub ξ a) (ap (λ τ. sub τ b) (up_var ξ) ∙ ren_sub (up_ren ξ) b)
  ren_sub ξ (App g a) = ap₂ App (ren_sub ξ g) (ren_sub ξ a)
  ren_sub ξ (Const c) = refl
  ren_sub ξ (Ind e) = refl
  ren_sub ξ (Con e k) = refl
  ren_sub ξ (Match e r c bs) = λ i. Match e (ren_sub ξ r i) (ren_sub ξ c i) (ren_sub_arms ξ bs i)
  ren_sub ξ (Meta n s) = ap (Meta n) (ren_sub_all ξ s)

  pub ren_sub_all : (ξ : ℕ → ℕ) (s : Trees) → tr_all Meta (λ i. Var (ξ i)) s ≡ ren_all ξ s
  ren_sub_all ξ End = refl
  ren_sub_all ξ (Item t s) = ap₂ Item (ren_sub ξ t) (ren_sub_all ξ s)

  pub ren_sub_arms : (ξ : ℕ → ℕ) (bs : Arms) → tr_arms Meta (λ i. Var (ξ i)) bs ≡ ren_arms ξ bs
  ren_sub_arms ξ NoArm = refl
  ren_sub_arms ξ (Arm xs b bs) = ap₂ (Arm xs) (ap (λ τ. sub τ b) (ups_var xs ξ) ∙ ren_sub (up_rens xs ξ) b) (ren_sub_arms ξ bs)

pub ren_ren : (ξ ζ : ℕ → ℕ) (t : Tree) → ren ξ (ren ζ t) ≡ ren (λ i. ξ (ζ i)) t
ren_ren ξ ζ t = sym (ren_sub ξ (ren ζ t)) ∙ tr_ren Meta (λ i. Var (ξ i)) ζ t ∙ ren_sub (λ i. ξ (ζ i)) t

-- a transformation followed by a renaming
abbrev pub Natural : (ℕ → Trees → Tree) → Type 0
Natural f = (ξ : ℕ → ℕ) (n : ℕ) (s : Trees) → ren ξ (f n s) ≡ f n (ren_all ξ s)

ren_up : (σ : ℕ → Tree) (ξ : ℕ → ℕ) → (λ (i : ℕ). ren (up_ren ξ) (up σ i)) ≡ up (λ i. ren ξ (σ i))
ren_up σ ξ = fun_ext go
  where
    go : (i : ℕ) → ren (up_ren ξ) (up σ i) ≡ up (λ j. ren ξ (σ j)) i
    go zero = refl
    go (suc i) = ren_ren (up_ren ξ) suc (σ i) ∙ sym (ren_ren suc ξ (σ i))

pub ren_ups : (xs : List Bytes) (σ : ℕ → Tree) (ξ : ℕ → ℕ) → (λ (i : ℕ). ren (up_rens xs ξ) (ups xs σ i)) ≡ ups xs (λ i. ren ξ (σ i))
ren_ups [] σ ξ = refl
ren_ups (x ∷ xs) σ ξ = ren_ups xs (up σ) (up_ren ξ) ∙ ap (ups xs) (ren_up σ ξ)

mutual
  pub ren_tr : (f : ℕ → Trees → Tree) → Natural f → (σ : ℕ → Tree) (ξ : ℕ → ℕ) (t : Tree) → ren ξ (tr f σ t) ≡ tr f (λ i. ren ξ (σ i)) t
  ren_tr f nat σ ξ (Var i) = refl
  ren_tr f nat σ ξ (Sort s) = refl
  ren_tr f nat σ ξ (Prod x a b) = ap₂ (Prod x) (ren_tr f nat σ ξ a) (ren_tr f nat (up σ) (up_ren ξ) b ∙ ap (λ τ. tr f τ b) (ren_up σ ξ))
  ren_tr f nat σ ξ (Lam x a b) = ap₂ (Lam x) (ren_tr f nat σ ξ a) (ren_tr f nat (up σ) (up_ren ξ) b ∙ ap (λ τ. tr f τ b) (ren_up σ ξ))
  ren_tr f nat σ ξ (App g a) = ap₂ App (ren_tr f nat σ ξ g) (ren_tr f nat σ ξ a)
  ren_tr f nat σ ξ (Const c) = refl
  ren_tr f nat σ ξ (Ind e) = refl
  ren_tr f nat σ ξ (Con e k) = refl
  ren_tr f nat σ ξ (Match e r c bs) = λ i. Match e (ren_tr f nat σ ξ r i) (ren_tr f nat σ ξ c i) (ren_tr_arms f nat σ ξ bs i)
  ren_tr f nat σ ξ (Meta n s) = nat ξ n (tr_all f σ s) ∙ ap (f n) (ren_tr_all f nat σ ξ s)

  pub ren_tr_all : (f : ℕ → Trees → Tree) → Natural f → (σ : ℕ → Tree) (ξ : ℕ → ℕ) (s : Trees) → ren_all ξ (tr_all f σ s) ≡ tr_all f (λ i. ren ξ (σ i)) s
  ren_tr_all f nat σ ξ End = refl
  ren_tr_all f nat σ ξ (Item t s) = ap₂ Item (ren_tr f nat σ ξ t) (ren_tr_all f nat σ ξ s)

  pub ren_tr_arms : (f : ℕ → Trees → Tree) → Natural f → (σ : ℕ → Tree) (ξ : ℕ → ℕ) (bs : Arms) → ren_arms ξ (tr_arms f σ bs) ≡ tr_arms f (λ i. ren ξ (σ i)) bs
  ren_tr_arms f nat σ ξ NoArm = refl
  ren_tr_arms f nat σ ξ (Arm xs b bs) = ap₂ (Arm xs) (ren_tr f nat (ups xs σ) (up_rens xs ξ) b ∙ ap (λ τ. tr f τ b) (ren_ups xs σ ξ)) (ren_tr_arms f nat σ ξ bs)

-- one transformation after another: h is f, and then g
abbrev pub Joins : (ℕ → Trees → Tree) → (ℕ → Trees → Tree) → (ℕ → Trees → Tree) → Type 0
Joins g f h = (τ : ℕ → Tree) (n : ℕ) (s : Trees) → tr g τ (f n s) ≡ h n (tr_all g τ s)

up_up : (g : ℕ → Trees → Tree) → Natural g → (τ σ : ℕ → Tree) → (λ (i : ℕ). tr g (up τ) (up σ i)) ≡ up (λ i. tr g τ (σ i))
up_up g nat τ σ = fun_ext go
  where
    go : (i : ℕ) → tr g (up τ) (up σ i) ≡ up (λ j. tr g τ (σ j)) i
    go zero = refl
    go (suc i) = tr_ren g (up τ) suc (σ i) ∙ sym (ren_tr g nat τ suc (σ i))

pub ups_ups : (xs : List Bytes) (g : ℕ → Trees → Tree) → Natural g → (τ σ : ℕ → Tree) → (λ (i : ℕ). tr g (ups xs τ) (ups xs σ i)) ≡ ups xs (λ i. tr g τ (σ i))
ups_ups [] g nat τ σ = refl
ups_ups (x ∷ xs) g nat τ σ = ups_ups xs g nat (up τ) (up σ) ∙ ap (ups xs) (up_up g nat τ σ)

module _ (g f h : ℕ → Trees → Tree) (nat : Natural g) (joined : Joins g f h) where
  mutual
    pub tr_tr : (τ σ : ℕ → Tree) (t : Tree) → tr g τ (tr f σ t) ≡ tr h (λ i. tr g τ (σ i)) t
    tr_tr τ σ (Var i) = refl
    tr_tr τ σ (Sort s) = refl
    tr_tr τ σ (Prod x a b) = ap₂ (Prod x) (tr_tr τ σ a) (tr_tr (up τ) (up σ) b ∙ ap (λ ρ. tr h ρ b) (up_up g nat τ σ))
    tr_tr τ σ (Lam x a b) = ap₂ (Lam x) (tr_tr τ σ a) (tr_tr (up τ) (up σ) b ∙ ap (λ ρ. tr h ρ b) (up_up g nat τ σ))
    tr_tr τ σ (App t a) = ap₂ App (tr_tr τ σ t) (tr_tr τ σ a)
    tr_tr τ σ (Const c) = refl
    tr_tr τ σ (Ind e) = refl
    tr_tr τ σ (Con e k) = refl
    tr_tr τ σ (Match e r c bs) = λ i. Match e (tr_tr τ σ r i) (tr_tr τ σ c i) (tr_tr_arms τ σ bs i)
    tr_tr τ σ (Meta n s) = joined τ n (tr_all f σ s) ∙ ap (h n) (tr_tr_all τ σ s)

    pub tr_tr_all : (τ σ : ℕ → Tree) (s : Trees) → tr_all g τ (tr_all f σ s) ≡ tr_all h (λ i. tr g τ (σ i)) s
    tr_tr_all τ σ End = refl
    tr_tr_all τ σ (Item t s) = ap₂ Item (tr_tr τ σ t) (tr_tr_all τ σ s)

    pub tr_tr_arms : (τ σ : ℕ → Tree) (bs : Arms) → tr_arms g τ (tr_arms f σ bs) ≡ tr_arms h (λ i. tr g τ (σ i)) bs
    tr_tr_arms τ σ NoArm = refl
    tr_tr_arms τ σ (Arm xs b bs) = ap₂ (Arm xs) (tr_tr (ups xs τ) (ups xs σ) b ∙ ap (λ ρ. tr h ρ b) (ups_ups xs g nat τ σ)) (tr_tr_arms τ σ bs)

pub up_id : up Var ≡ Var
up_id = fun_ext go
  where
    go : (i : ℕ) → up Var i ≡ Var i
    go zero = refl
    go (suc i) = refl

pub ups_id : (xs : List Bytes) → ups xs Var ≡ Var
ups_id [] = refl
ups_id (x ∷ xs) = ap (ups xs) up_id ∙ ups_id xs

mutual
  pub sub_id : (t : Tree) → sub Var t ≡ t
  sub_id (Var i) = refl
  sub_id (Sort s) = refl
  sub_id (Prod x a b) = ap₂ (Prod x) (sub_id a) (ap (λ τ. sub τ b) up_id ∙ sub_id b)
  sub_id (Lam x a b) = ap₂ (Lam x) (sub_id a) (ap (λ τ. sub τ b) up_id ∙ sub_id b)
  sub_id (App g a) = ap₂ App (sub_id g) (sub_id a)
  sub_id (Const c) = refl
  sub_id (Ind e) = refl
  sub_id (Con e k) = refl
  sub_id (Match e r c bs) = λ i. Match e (sub_id r i) (sub_id c i) (sub_id_arms bs i)
  sub_id (Meta n s) = ap (Meta n) (sub_id_all s)

  pub sub_id_all : (s : Trees) → tr_all Meta Var s ≡ s
  sub_id_all End = refl
  sub_id_all (Item t s) = ap₂ Item (sub_id t) (sub_id_all s)

  pub sub_id_arms : (bs : Arms) → tr_arms Meta Var bs ≡ bs
  sub_id_arms NoArm = refl
  sub_id_arms (Arm xs b bs) = ap₂ (Arm xs) (ap (λ τ. sub τ b) (ups_id xs) ∙ sub_id b) (sub_id_arms bs)

-- plain substitution
meta_natural : Natural Meta
meta_natural ξ n s = refl

meta_joins : (g : ℕ → Trees → Tree) → Joins g Meta g
meta_joins g τ n s = refl

-- a substitution, and then any transformation
pub tr_sub : (g : ℕ → Trees → Tree) → Natural g → (τ σ : ℕ → Tree) (t : Tree) → tr g τ (sub σ t) ≡ tr g (λ i. tr g τ (σ i)) t
tr_sub g nat τ σ t = tr_tr g Meta g nat (meta_joins g) τ σ t

-- the terms of a list, transformed
tr_then : (g : ℕ → Trees → Tree) (τ σ : ℕ → Tree) (t : Tree) → (λ (i : ℕ). tr g τ (then_as t σ i)) ≡ then_as (tr g τ t) (λ i. tr g τ (σ i))
tr_then g τ σ t = fun_ext go
  where
    go : (i : ℕ) → tr g τ (then_as t σ i) ≡ then_as (tr g τ t) (λ j. tr g τ (σ j)) i
    go zero = refl
    go (suc i) = refl

tr_fill : (g : ℕ → Trees → Tree) (τ : ℕ → Tree) (s : Trees) (σ : ℕ → Tree) → (λ (i : ℕ). tr g τ (fill s σ i)) ≡ fill (tr_all g τ s) (λ i. tr g τ (σ i))
tr_fill g τ End σ = refl
tr_fill g τ (Item t s) σ = tr_fill g τ s (then_as t σ) ∙ ap (fill (tr_all g τ s)) (tr_then g τ σ t)

pub tr_filled : (g : ℕ → Trees → Tree) (τ : ℕ → Tree) (s : Trees) → (λ (i : ℕ). tr g τ (fill s beyond i)) ≡ fill (tr_all g τ s) beyond
tr_filled g τ s = tr_fill g τ s beyond

-- f commutes with substitution
abbrev pub Steady : (ℕ → Trees → Tree) → Type 0
Steady f = Joins Meta f f

pub meta_steady : Steady Meta
meta_steady τ n s = refl

pub steady_natural : (f : ℕ → Trees → Tree) → Steady f → Natural f
steady_natural f st ξ n s = sym (ren_sub ξ (f n s)) ∙ st (λ i. Var (ξ i)) n s ∙ ap (f n) (ren_sub_all ξ s)

-- any transformation, and then a substitution
pub sub_tr : (g : ℕ → Trees → Tree) → Steady g → (τ σ : ℕ → Tree) (t : Tree) → sub τ (tr g σ t) ≡ tr g (λ i. sub τ (σ i)) t
sub_tr g st τ σ t = tr_tr Meta g g meta_natural st τ σ t

-- b[a], transformed
one_up : (g : ℕ → Trees → Tree) (τ : ℕ → Tree) (a : Tree) → ◌≡◌ {A = ℕ → Tree} (λ i. sub (one (tr g τ a)) (up τ i)) (λ i. tr g τ (one a i))
one_up g τ a = fun_ext go
  where
    go : (i : ℕ) → sub (one (tr g τ a)) (up τ i) ≡ tr g τ (one a i)
    go zero = refl
    go (suc i) = tr_ren Meta (one (tr g τ a)) suc (τ i) ∙ sub_id (τ i)

pub tr_one : (g : ℕ → Trees → Tree) → Steady g → (τ : ℕ → Tree) (a b : Tree) → tr g τ (sub (one a) b) ≡ sub (one (tr g τ a)) (tr g (up τ) b)
tr_one g st τ a b = tr_sub g (steady_natural g st) τ (one a) b ∙ sym (ap (λ ρ. tr g ρ b) (one_up g τ a)) ∙ sym (sub_tr g st (one (tr g τ a)) (up τ) b)

-- b under s, transformed
pub tr_under : (g : ℕ → Trees → Tree) → Steady g → (τ : ℕ → Tree) (s : Trees) (b : Tree) → tr g τ (under s b) ≡ under (tr_all g τ s) (tr g Var b)
tr_under g st τ s b = tr_sub g (steady_natural g st) τ (fill s beyond) b ∙ ap (λ ρ. tr g ρ b) (tr_filled g τ s) ∙ sym (sub_tr g st (fill (tr_all g τ s) beyond) Var b)

pub up_shift : (σ : ℕ → Tree) (t : Tree) → sub (up σ) (ren suc t) ≡ ren suc (sub σ t)
up_shift σ t = tr_ren Meta (up σ) suc t ∙ sym (ren_tr Meta meta_natural σ suc t)

-- a weakened term, at a term
pub one_shift : (a t : Tree) → sub (one a) (ren suc t) ≡ t
one_shift a t = tr_ren Meta (one a) suc t ∙ sub_id t

-- spines
pub tr_apps : (f : ℕ → Trees → Tree) (σ : ℕ → Tree) (t : Tree) (s : Trees) → tr f σ (apps t s) ≡ apps (tr f σ t) (tr_all f σ s)
tr_apps f σ t End = refl
tr_apps f σ t (Item a s) = tr_apps f σ (App t a) s

pub tr_all_but : (f : ℕ → Trees → Tree) (σ : ℕ → Tree) (p : ℕ) (s : Trees) → tr_all f σ (all_but p s) ≡ all_but p (tr_all f σ s)
tr_all_but f σ zero s = refl
tr_all_but f σ (suc p) End = refl
tr_all_but f σ (suc p) (Item t s) = tr_all_but f σ p s

pub tr_join : (f : ℕ → Trees → Tree) (σ : ℕ → Tree) (s r : Trees) → tr_all f σ (join s r) ≡ join (tr_all f σ s) (tr_all f σ r)
tr_join f σ End r = refl
tr_join f σ (Item t s) r = ap (Item (tr f σ t)) (tr_join f σ s r)

-- as many terms as names
pub data Fills : List Bytes → Trees → Type 0 where
  no_more : Fills [] End
  one_more : {x : Bytes} {xs : List Bytes} {t : Tree} {s : Trees} → Fills xs s → Fills (x ∷ xs) (Item t s)

pub fills_tr : (f : ℕ → Trees → Tree) (σ : ℕ → Tree) {xs : List Bytes} {s : Trees} → Fills xs s → Fills xs (tr_all f σ s)
fills_tr f σ no_more = no_more
fills_tr f σ (one_more h) = one_more (fills_tr f σ h)

fill_ups : {xs : List Bytes} {s : Trees} → Fills xs s → (τ σ : ℕ → Tree) → (λ (i : ℕ). sub (fill s τ) (ups xs σ i)) ≡ fill s (λ i. sub τ (σ i))
fill_ups no_more τ σ = refl
fill_ups (one_more {xs = xs} {t = t} {s = s} h) τ σ = fill_ups h (then_as t τ) (up σ) ∙ ap (fill s) (fun_ext go)
  where
    go : (i : ℕ) → sub (then_as t τ) (up σ i) ≡ then_as t (λ j. sub τ (σ j)) i
    go zero = refl
    go (suc i) = tr_ren Meta (then_as t τ) suc (σ i)

-- a branch's body at its terms, transformed
pub tr_arm : (g : ℕ → Trees → Tree) → Steady g → (τ : ℕ → Tree) (xs : List Bytes) (s : Trees) → Fills xs s → (b : Tree) → tr g τ (sub (fill s Var) b) ≡ sub (fill (tr_all g τ s) Var) (tr g (ups xs τ) b)
tr_arm g st τ xs s h b =
    tr_sub g (steady_natural g st) τ (fill s Var) b ∙ ap (λ ρ. tr g ρ b) (tr_fill g τ s Var ∙ sym (e ∙ ap (fill (tr_all g τ s)) (fun_ext (λ i. sub_id (τ i))))) ∙ sym (sub_tr g st (fill (tr_all g τ s) Var) (ups xs τ) b)
  where
    e : (λ (i : ℕ). sub (fill (tr_all g τ s) Var) (ups xs τ i)) ≡ fill (tr_all g τ s) (λ i. sub Var (τ i))
    e = fill_ups (fills_tr g τ h) Var τ

pub count_tr : (f : ℕ → Trees → Tree) (σ : ℕ → Tree) (s : Trees) → count (tr_all f σ s) ≡ count s
count_tr f σ End = refl
count_tr f σ (Item t s) = ap suc (count_tr f σ s)

pub fills_of : (xs : List Bytes) (s : Trees) → length xs ≡ count s → Fills xs s
fills_of [] End h = no_more
fills_of [] (Item t s) h = absurd (omega arith)
fills_of (x ∷ xs) End h = absurd (omega arith)
fills_of (x ∷ xs) (Item t s) h = one_more (fills_of xs s (omega arith))

pub ups_same : (xs ys : List Bytes) → length xs ≡ length ys → (σ : ℕ → Tree) → ups xs σ ≡ ups ys σ
ups_same [] [] h σ = refl
ups_same [] (y ∷ ys) h σ = absurd (omega arith)
ups_same (x ∷ xs) [] h σ = absurd (omega arith)
ups_same (x ∷ xs) (y ∷ ys) h σ = ups_same xs ys (omega arith) (up σ)

-- under a binder
pub up_tr : (f : ℕ → Trees → Tree) → Steady f → (σ : ℕ → Tree) (t : Tree) → tr f (up σ) (ren suc t) ≡ ren suc (tr f σ t)
up_tr f st σ t = tr_ren f (up σ) suc t ∙ sym (ren_tr f (steady_natural f st) σ suc t)

pub spine_tr : (f : ℕ → Trees → Tree) (σ : ℕ → Tree) (e : ℕ) (ps is : Trees) → tr f σ (apps (apps (Ind e) ps) is) ≡ apps (apps (Ind e) (tr_all f σ ps)) (tr_all f σ is)
spine_tr f σ e ps is = tr_apps f σ (apps (Ind e) ps) is ∙ ap (λ t. apps t (tr_all f σ is)) (tr_apps f σ (Ind e) ps)
