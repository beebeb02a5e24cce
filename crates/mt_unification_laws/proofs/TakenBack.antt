-- What is taken back along terms is, under these, the term that it comes from.
use Rattle.std.specs.Prelude.{◌≡◌, refl, ℕ, zero, suc, ◌+◌, List, [], ◌∷◌, if◌then◌else◌, Bool, true, false, Option, Some, None, option_map}
use Rattle.std.proofs.Common.{sym, ap, ap₂, ◌∙◌, eqb-true, arith}
use Rattle.mt_term.specs.Trees.{Bytes, Tree, Trees, Arms, Var, Sort, Prod, Lam, App, Const, Ind, Con, Match, Meta, End, Item, NoArm, Arm}
use Rattle.mt_term.specs.Substitution.{ren, then_as, up, ups, tr_all, tr_arms, sub, fill, beyond, under, count}
use Rattle.mt_rules_laws.proofs.Yields.{some_is, nothing, untrue}
use Rattle.mt_unification_rules.specs.TakingBack.{joined, up_place, up_places, moved, moved_all, moved_arms, is_variable, place_of, taken_back}

mapped : {A B : Type 0} (f : A → B) (o : Option A) (b : B) → option_map f o ≡ Some b → (a : A) × (o ≡ Some a) × (f a ≡ b)
mapped f None b e = nothing e
mapped f (Some a) b e = (a, refl, some_is e)

both_parts : {A B C : Type 0} (f : A → B → C) (o : Option A) (p : Option B) (c : C) → joined f o p ≡ Some c → (a : A) × (b : B) × (o ≡ Some a) × (p ≡ Some b) × (f a b ≡ c)
both_parts f None p c e = nothing e
both_parts f (Some a) None c e = nothing e
both_parts f (Some a) (Some b) c e = (a, b, refl, refl, some_is e)

-- each place holds its variable
abbrev Places : (ℕ → Option ℕ) → (ℕ → Tree) → Type 0
Places p σ = (i j : ℕ) → p i ≡ Some j → σ j ≡ Var i

under_binder : (p : ℕ → Option ℕ) (σ : ℕ → Tree) → Places p σ → Places (up_place p) (up σ)
under_binder p σ h zero j e = ap (up σ) (sym (some_is e))
under_binder p σ h (suc i) j e = let q = mapped suc (p i) j e in ap (up σ) (sym q.2) ∙ ap (ren suc) (h i q.0 q.1)

under_binders : (xs : List Bytes) (p : ℕ → Option ℕ) (σ : ℕ → Tree) → Places p σ → Places (up_places xs p) (ups xs σ)
under_binders [] p σ h = h
under_binders (x ∷ xs) p σ h = under_binders xs (up_place p) (up σ) (under_binder p σ h)

mutual
  moved_is : (p : ℕ → Option ℕ) (σ : ℕ → Tree) → Places p σ → (t v : Tree) → moved p t ≡ Some v → sub σ v ≡ t
  moved_is p σ h (Var i) v e = let q = mapped Var (p i) v e in ap (sub σ) (sym q.2) ∙ h i q.0 q.1
  moved_is p σ h (Sort s) v e = ap (sub σ) (sym (some_is e))
  moved_is p σ h (Prod x a b) v e =
      let q = both_parts (Prod x) (moved p a) (moved (up_place p) b) v e in
      ap (sub σ) (sym q.4) ∙ ap₂ (Prod x) (moved_is p σ h a q.0 q.2) (moved_is (up_place p) (up σ) (under_binder p σ h) b q.1 q.3)
  moved_is p σ h (Lam x a b) v e =
      let q = both_parts (Lam x) (moved p a) (moved (up_place p) b) v e in
      ap (sub σ) (sym q.4) ∙ ap₂ (Lam x) (moved_is p σ h a q.0 q.2) (moved_is (up_place p) (up σ) (under_binder p σ h) b q.1 q.3)
  moved_is p σ h (App f a) v e =
      let q = both_parts App (moved p f) (moved p a) v e in
      ap (sub σ) (sym q.4) ∙ ap₂ App (moved_is p σ h f q.0 q.2) (moved_is p σ h a q.1 q.3)
  moved_is p σ h (Const c) v e = ap (sub σ) (sym (some_is e))
  moved_is p σ h (Ind c) v e = ap (sub σ) (sym (some_is e))
  moved_is p σ h (Con c k) v e = ap (sub σ) (sym (some_is e))
  moved_is p σ h (Match n r c bs) v e =
      let q = both_parts (λ d (m : Tree × Arms). Match n d m.0 m.1) (moved p r) (joined (λ d ds. (d, ds)) (moved p c) (moved_arms p bs)) v e in
      let o = both_parts (λ d ds. (d, ds)) (moved p c) (moved_arms p bs) q.1 q.3 in
      let a = moved_is p σ h r q.0 q.2 in
      let b = moved_is p σ h c o.0 o.2 in
      let d = moved_arms_is p σ h bs o.1 o.3 in
      ap (sub σ) (sym q.4) ∙ ap (λ (m : Tree × Arms). sub σ (Match n q.0 m.0 m.1)) (sym o.4) ∙ (λ i. Match n (a i) (b i) (d i))
  moved_is p σ h (Meta n s) v e = let q = mapped (Meta n) (moved_all p s) v e in ap (sub σ) (sym q.2) ∙ ap (Meta n) (moved_all_is p σ h s q.0 q.1)

  moved_all_is : (p : ℕ → Option ℕ) (σ : ℕ → Tree) → Places p σ → (s r : Trees) → moved_all p s ≡ Some r → tr_all Meta σ r ≡ s
  moved_all_is p σ h End r e = ap (tr_all Meta σ) (sym (some_is e))
  moved_all_is p σ h (Item t s) r e =
      let q = both_parts Item (moved p t) (moved_all p s) r e in
      ap (tr_all Meta σ) (sym q.4) ∙ ap₂ Item (moved_is p σ h t q.0 q.2) (moved_all_is p σ h s q.1 q.3)

  moved_arms_is : (p : ℕ → Option ℕ) (σ : ℕ → Tree) → Places p σ → (bs cs : Arms) → moved_arms p bs ≡ Some cs → tr_arms Meta σ cs ≡ bs
  moved_arms_is p σ h NoArm cs e = ap (tr_arms Meta σ) (sym (some_is e))
  moved_arms_is p σ h (Arm xs b bs) cs e =
      let q = both_parts (Arm xs) (moved (up_places xs p) b) (moved_arms p bs) cs e in
      ap (tr_arms Meta σ) (sym q.4) ∙ ap₂ (Arm xs) (moved_is (up_places xs p) (ups xs σ) (under_binders xs p σ h) b q.0 q.2) (moved_arms_is p σ h bs q.1 q.3)

-- a list of terms fills the variables by their places
past : (s : Trees) (σ : ℕ → Tree) (i : ℕ) → fill s σ (count s + i) ≡ σ i
past End σ i = ap σ (omega arith)
past (Item t s) σ i = ap (fill s (then_as t σ)) (omega arith) ∙ past s (then_as t σ) (suc i)

just_past : (s : Trees) (σ : ℕ → Tree) → fill s σ (count s) ≡ σ zero
just_past s σ = ap (fill s σ) (omega arith) ∙ past s σ zero

variable_is : (i : ℕ) (t : Tree) → is_variable i t ≡ true → t ≡ Var i
variable_is i (Var j) e = ap Var (sym (eqb-true i j e))
variable_is i t e = untrue e

place_is : (s : Trees) (σ : ℕ → Tree) → Places (place_of s) (fill s σ)
place_is End σ i j e = nothing e
place_is (Item t s) σ i j e = go (place_is s (then_as t σ) i j) (is_variable i t) refl e
  where
    here : is_variable i t ≡ true → count s ≡ j → fill s (then_as t σ) j ≡ Var i
    here h g = ap (fill s (then_as t σ)) (sym g) ∙ just_past s (then_as t σ) ∙ variable_is i t h

    go : (place_of s i ≡ Some j → fill s (then_as t σ) j ≡ Var i) → (b : Bool) → is_variable i t ≡ b → (if b then Some (count s) else place_of s i) ≡ Some j → fill s (then_as t σ) j ≡ Var i
    go rest true h g = here h (some_is g)
    go rest false h g = rest g

pub taken_back_is : (s : Trees) (t v : Tree) → taken_back s t ≡ Some v → under s v ≡ t
taken_back_is s t v e = moved_is (place_of s) (fill s beyond) (place_is s beyond) t v e
