-- Lifting and substitution told with the number of binders passed are lifting and substitution.
use Rattle.std.proofs.Common.{length, arith, [], ◌∷◌, ◌≡◌, ℕ, zero, suc, ◌+◌, ◌-◌, ◌<◌, ◌≤◌, inl, inr, List, refl, sym, ap, ap₂, ◌∙◌, if◌then◌else◌, nat_lt}
use Rattle.std.proofs.lemmas.Bool.Decides.{leb_tells}
use mathlib.Core.Path.{fun_ext}
use Rattle.mt_term.specs.Trees.{Tree, Trees, Arms, Bytes, Var, Sort, Prod, Lam, App, Const, Ind, Con, Match, Meta, End, Item, NoArm, Arm}
use Rattle.mt_term.specs.Substitution.{up_ren, up_rens, ren, ren_all, ren_arms, then_as, up, ups, tr_all, tr_arms, sub, fill, beyond, under}
use Rattle.mt_term.specs.Lifting.{raise, lift, put, substitute}
use Rattle.mt_term.specs.Passing.{lift_past, lift_past_all, lift_past_arms, sub_past, sub_past_all, sub_past_arms}
use Rattle.mt_term.proofs.Subst.{ren_sub, ren_ren, sub_id}

suc_of : (n : ℕ) → n + 1 ≡ suc n
suc_of n = omega arith

suc_in : (n k : ℕ) → n + suc k ≡ suc n + k
suc_in n k = omega arith

-- a choice by an order, by its two cases
chosen : (a b : ℕ) (x y z : Tree) → (a < b → x ≡ z) → (b ≤ a → y ≡ z) → (if nat_lt a b then x else y) ≡ z
chosen a b x y z below past = elim (leb_tells (suc a) b) [
  | inl h ↦ ap (λ c. if c then x else y) h.0 ∙ below (omega (arith, h.1))
  | inr h ↦ ap (λ c. if c then x else y) h.0 ∙ past (omega (arith, h.1))
]

raise_under : (by from : ℕ) → raise by (from + 1) ≡ up_ren (raise by from)
raise_under by from = ap (raise by) (suc_of from)

raise_unders : (xs : List Bytes) (by from : ℕ) → raise by (from + length xs) ≡ up_rens xs (raise by from)
raise_unders [] by from = let none : from + 0 ≡ from = omega arith in ap (raise by) none
raise_unders (x ∷ xs) by from = ap (raise by) (suc_in from (length xs)) ∙ raise_unders xs by (suc from)

raise_below : (by from i : ℕ) → i < from → raise by from i ≡ i
raise_below by zero i h = absurd (omega (arith, h))
raise_below by (suc from) zero h = refl
raise_below by (suc from) (suc i) h = ap suc (raise_below by from i (omega (arith, h)))

raise_past : (by from i : ℕ) → from ≤ i → raise by from i ≡ i + by
raise_past by zero i h = refl
raise_past by (suc from) zero h = absurd (omega (arith, h))
raise_past by (suc from) (suc i) h = let e = raise_past by from i (omega (arith, h)) in omega (arith, e)

raised : (by from i : ℕ) → (if nat_lt i from then Var i else Var (i + by)) ≡ Var (raise by from i)
raised by from i = chosen i from (Var i) (Var (i + by)) (Var (raise by from i))
    (λ h. ap Var (sym (raise_below by from i h)))
    (λ h. ap Var (sym (raise_past by from i h)))

mutual
  pub lift_passed : (by from : ℕ) (t : Tree) → lift_past by from t ≡ lift by from t
  lift_passed by from (Var i) = raised by from i
  lift_passed by from (Sort s) = refl
  lift_passed by from (Prod x a b) = ap₂ (Prod x) (lift_passed by from a) (lift_passed by (from + 1) b ∙ ap (λ ξ. ren ξ b) (raise_under by from))
  lift_passed by from (Lam x a b) = ap₂ (Lam x) (lift_passed by from a) (lift_passed by (from + 1) b ∙ ap (λ ξ. ren ξ b) (raise_under by from))
  lift_passed by from (App f a) = ap₂ App (lift_passed by from f) (lift_passed by from a)
  lift_passed by from (Const c) = refl
  lift_passed by from (Ind e) = refl
  lift_passed by from (Con e k) = refl
  lift_passed by from (Match e r c bs) = λ i. Match e (lift_passed by from r i) (lift_passed by from c i) (lift_passed_arms by from bs i)
  lift_passed by from (Meta n s) = ap (Meta n) (lift_passed_all by from s)

  pub lift_passed_all : (by from : ℕ) (s : Trees) → lift_past_all by from s ≡ ren_all (raise by from) s
  lift_passed_all by from End = refl
  lift_passed_all by from (Item t s) = ap₂ Item (lift_passed by from t) (lift_passed_all by from s)

  pub lift_passed_arms : (by from : ℕ) (bs : Arms) → lift_past_arms by from bs ≡ ren_arms (raise by from) bs
  lift_passed_arms by from NoArm = refl
  lift_passed_arms by from (Arm xs b bs) = ap₂ (Arm xs) (lift_passed by (from + length xs) b ∙ ap (λ ξ. ren ξ b) (raise_unders xs by from)) (lift_passed_arms by from bs)

-- under as many binders
abbrev ups_by : ℕ → (ℕ → Tree) → ℕ → Tree
ups_by zero σ = σ
ups_by (suc n) σ = up (ups_by n σ)

ups_ups_by : (xs : List Bytes) (n : ℕ) (σ : ℕ → Tree) → ups_by (n + length xs) σ ≡ ups xs (ups_by n σ)
ups_ups_by [] n σ = let none : n + 0 ≡ n = omega arith in ap (λ k. ups_by k σ) none
ups_ups_by (x ∷ xs) n σ = ap (λ k. ups_by k σ) (suc_in n (length xs)) ∙ ups_ups_by xs (suc n) σ

up_ups_by : (n : ℕ) (σ : ℕ → Tree) → ups_by (n + 1) σ ≡ up (ups_by n σ)
up_ups_by n σ = ap (λ k. ups_by k σ) (suc_of n)

ups_by_below : (n : ℕ) (σ : ℕ → Tree) (i : ℕ) → i < n → ups_by n σ i ≡ Var i
ups_by_below zero σ i h = absurd (omega (arith, h))
ups_by_below (suc n) σ zero h = refl
ups_by_below (suc n) σ (suc i) h = ap (ren suc) (ups_by_below n σ i (omega (arith, h)))

raise_none : raise 0 0 ≡ (λ i. i)
raise_none = fun_ext go
  where
    go : (i : ℕ) → raise 0 0 i ≡ i
    go i = omega arith

lift_none : (t : Tree) → lift 0 0 t ≡ t
lift_none t = ap (λ ξ. ren ξ t) raise_none ∙ sym (ren_sub (λ i. i) t) ∙ sub_id t

raise_more : (n : ℕ) → (λ i. suc (raise n 0 i)) ≡ raise (suc n) 0
raise_more n = fun_ext go
  where
    go : (i : ℕ) → suc (raise n 0 i) ≡ raise (suc n) 0 i
    go i = omega arith

lift_more : (n : ℕ) (t : Tree) → ren suc (lift n 0 t) ≡ lift (suc n) 0 t
lift_more n t = ren_ren suc (raise n 0) t ∙ ap (λ ξ. ren ξ t) (raise_more n)

ups_by_past : (n : ℕ) (σ : ℕ → Tree) (i : ℕ) → n ≤ i → ups_by n σ i ≡ lift n 0 (σ (i - n))
ups_by_past zero σ i h = let none : i - 0 ≡ i = omega arith in sym (lift_none (σ (i - 0)) ∙ ap σ none)
ups_by_past (suc n) σ zero h = absurd (omega (arith, h))
ups_by_past (suc n) σ (suc i) h =
    let less : i - n ≡ suc i - suc n = omega arith in
    ap (ren suc) (ups_by_past n σ i (omega (arith, h))) ∙ lift_more n (σ (i - n)) ∙ ap (λ k. lift (suc n) 0 (σ k)) less

replaced : (past : ℕ) (σ : ℕ → Tree) (i : ℕ) → (if nat_lt i past then Var i else lift_past past 0 (σ (i - past))) ≡ ups_by past σ i
replaced past σ i = chosen i past (Var i) (lift_past past 0 (σ (i - past))) (ups_by past σ i)
    (λ h. sym (ups_by_below past σ i h))
    (λ h. lift_passed past 0 (σ (i - past)) ∙ sym (ups_by_past past σ i h))

mutual
  sub_passed : (past : ℕ) (σ : ℕ → Tree) (t : Tree) → sub_past past σ t ≡ sub (ups_by past σ) t
  sub_passed past σ (Var i) = replaced past σ i
  sub_passed past σ (Sort s) = refl
  sub_passed past σ (Prod x a b) = ap₂ (Prod x) (sub_passed past σ a) (sub_passed (past + 1) σ b ∙ ap (λ τ. sub τ b) (up_ups_by past σ))
  sub_passed past σ (Lam x a b) = ap₂ (Lam x) (sub_passed past σ a) (sub_passed (past + 1) σ b ∙ ap (λ τ. sub τ b) (up_ups_by past σ))
  sub_passed past σ (App f a) = ap₂ App (sub_passed past σ f) (sub_passed past σ a)
  sub_passed past σ (Const c) = refl
  sub_passed past σ (Ind e) = refl
  sub_passed past σ (Con e k) = refl
  sub_passed past σ (Match e r c bs) = λ i. Match e (sub_passed past σ r i) (sub_passed past σ c i) (sub_passed_arms past σ bs i)
  sub_passed past σ (Meta n s) = ap (Meta n) (sub_passed_all past σ s)

  sub_passed_all : (past : ℕ) (σ : ℕ → Tree) (s : Trees) → sub_past_all past σ s ≡ tr_all Meta (ups_by past σ) s
  sub_passed_all past σ End = refl
  sub_passed_all past σ (Item t s) = ap₂ Item (sub_passed past σ t) (sub_passed_all past σ s)

  sub_passed_arms : (past : ℕ) (σ : ℕ → Tree) (bs : Arms) → sub_past_arms past σ bs ≡ tr_arms Meta (ups_by past σ) bs
  sub_passed_arms past σ NoArm = refl
  sub_passed_arms past σ (Arm xs b bs) = ap₂ (Arm xs) (sub_passed (past + length xs) σ b ∙ ap (λ τ. sub τ b) (ups_ups_by xs past σ)) (sub_passed_arms past σ bs)

put_by : (at : ℕ) (u : Tree) → ups_by at (then_as u Var) ≡ put at u
put_by zero u = refl
put_by (suc at) u = ap up (put_by at u)

pub substitute_passed : (at : ℕ) (u t : Tree) → sub_past at (then_as u Var) t ≡ substitute at u t
substitute_passed at u t = sub_passed at (then_as u Var) t ∙ ap (λ τ. sub τ t) (put_by at u)

pub under_passed : (s : Trees) (t : Tree) → sub_past 0 (fill s beyond) t ≡ under s t
under_passed s t = sub_passed 0 (fill s beyond) t

pub filled_passed : (s : Trees) (t : Tree) → sub_past 0 (fill s Var) t ≡ sub (fill s Var) t
filled_passed s t = sub_passed 0 (fill s Var) t
