-- Which metavariables stand in a term, and contexts under transformations.
use Rattle.std.proofs.Common.{◌≡◌, ℕ, zero, suc, List, [], ◌∷◌, length, refl, sym, ap, ap₂, ◌∙◌, subst}
use Rattle.mt_term.proofs.Subst.{Steady, steady_natural, tr_ren, ren_tr, tr_ren_all, ren_tr_all, tr_ren_arms, ren_tr_arms, ups_id}
use Rattle.mt_term.specs.Trees.{Tree, Trees, Arms, Bytes, Var, Sort, Prod, Lam, App, Const, Ind, Con, Match, Meta, End, Item, NoArm, Arm}
use Rattle.mt_term.specs.Substitution.{up_ren, up_rens, ren, ren_all, ren_arms, up, ups, tr, tr_all, tr_arms}
use Rattle.mt_term.specs.Stores.{AllMetas, AllMetasIn, AllMetasArms, AllMetasOf}
use Rattle.mt_calculus.specs.Typing.{Look, here, there, ins, Insert, put, keep, Judgement, IsContext, IsType, Has, Stands, Fitting, Body, ren_judgement, JudgementMetas}
use Rattle.mt_calculus_laws.specs.Laws.{tr_judgement, tr_context}
use Rattle.mt_term.proofs.ReachLaws.{weaker, weaker_all, weaker_arms}

-- two transformations agree where they do on the metavariables that stand there
module _ (P : ℕ → Type 0) (f g : ℕ → Trees → Tree) (h : (n : ℕ) (s : Trees) → P n → f n s ≡ g n s) where
  mutual
    pub tr_agree : (σ : ℕ → Tree) (t : Tree) → AllMetas P t → tr f σ t ≡ tr g σ t
    tr_agree σ (Var i) a = refl
    tr_agree σ (Sort s) a = refl
    tr_agree σ (Prod x A B) a = ap₂ (Prod x) (tr_agree σ A a.0) (tr_agree (up σ) B a.1)
    tr_agree σ (Lam x A b) a = ap₂ (Lam x) (tr_agree σ A a.0) (tr_agree (up σ) b a.1)
    tr_agree σ (App t u) a = ap₂ App (tr_agree σ t a.0) (tr_agree σ u a.1)
    tr_agree σ (Const c) a = refl
    tr_agree σ (Ind e) a = refl
    tr_agree σ (Con e k) a = refl
    tr_agree σ (Match e R c bs) a = λ i. Match e (tr_agree σ R a.0 i) (tr_agree σ c a.1 i) (tr_agree_arms σ bs a.2 i)
    tr_agree σ (Meta n s) a = h n (tr_all f σ s) a.0 ∙ ap (g n) (tr_agree_all σ s a.1)

    pub tr_agree_all : (σ : ℕ → Tree) (s : Trees) → AllMetasIn P s → tr_all f σ s ≡ tr_all g σ s
    tr_agree_all σ End a = refl
    tr_agree_all σ (Item t s) a = ap₂ Item (tr_agree σ t a.0) (tr_agree_all σ s a.1)

    pub tr_agree_arms : (σ : ℕ → Tree) (bs : Arms) → AllMetasArms P bs → tr_arms f σ bs ≡ tr_arms g σ bs
    tr_agree_arms σ NoArm a = refl
    tr_agree_arms σ (Arm xs b bs) a = ap₂ (Arm xs) (tr_agree (ups xs σ) b a.0) (tr_agree_arms σ bs a.1)

  pub context_agree : (Γ : List Tree) → AllMetasOf P Γ → tr_context f Γ ≡ tr_context g Γ
  context_agree [] a = refl
  context_agree (A ∷ Γ) a = ap₂ ◌∷◌ (tr_agree Var A a.0) (context_agree Γ a.1)

  pub judgement_agree : (σ : ℕ → Tree) (J : Judgement) → JudgementMetas P J → tr_judgement f σ J ≡ tr_judgement g σ J
  judgement_agree σ IsContext a = refl
  judgement_agree σ (IsType T) a = ap IsType (tr_agree σ T a)
  judgement_agree σ (Has t T) a = ap₂ Has (tr_agree σ t a.0) (tr_agree σ T a.1)
  judgement_agree σ (Stands t) a = ap Stands (tr_agree σ t a)
  judgement_agree σ (Fitting e R ps k bs) a = λ i. Fitting e (tr_agree σ R a.0 i) (tr_agree_all σ ps a.1 i) k (tr_agree_arms σ bs a.2 i)
  judgement_agree σ (Body e p R c T xs b) a = λ i. Body e p (tr_agree σ R a.0 i) (tr_agree σ c a.1 i) (tr_agree σ T a.2 i) xs (tr_agree (ups xs σ) b a.3 i)

-- a renaming keeps the metavariables
mutual
  pub ren_metas : (P : ℕ → Type 0) (ξ : ℕ → ℕ) (t : Tree) → AllMetas P t → AllMetas P (ren ξ t)
  ren_metas P ξ (Var i) a = tt
  ren_metas P ξ (Sort s) a = tt
  ren_metas P ξ (Prod x A B) a = (ren_metas P ξ A a.0, ren_metas P (up_ren ξ) B a.1)
  ren_metas P ξ (Lam x A b) a = (ren_metas P ξ A a.0, ren_metas P (up_ren ξ) b a.1)
  ren_metas P ξ (App t u) a = (ren_metas P ξ t a.0, ren_metas P ξ u a.1)
  ren_metas P ξ (Const c) a = tt
  ren_metas P ξ (Ind e) a = tt
  ren_metas P ξ (Con e k) a = tt
  ren_metas P ξ (Match e R c bs) a = (ren_metas P ξ R a.0, ren_metas P ξ c a.1, ren_metas_arms P ξ bs a.2)
  ren_metas P ξ (Meta n s) a = (a.0, ren_metas_all P ξ s a.1)

  pub ren_metas_all : (P : ℕ → Type 0) (ξ : ℕ → ℕ) (s : Trees) → AllMetasIn P s → AllMetasIn P (ren_all ξ s)
  ren_metas_all P ξ End a = tt
  ren_metas_all P ξ (Item t s) a = (ren_metas P ξ t a.0, ren_metas_all P ξ s a.1)

  pub ren_metas_arms : (P : ℕ → Type 0) (ξ : ℕ → ℕ) (bs : Arms) → AllMetasArms P bs → AllMetasArms P (ren_arms ξ bs)
  ren_metas_arms P ξ NoArm a = tt
  ren_metas_arms P ξ (Arm xs b bs) a = (ren_metas P (up_rens xs ξ) b a.0, ren_metas_arms P ξ bs a.1)

-- what stands in a transformed term
module _ (P Q : ℕ → Type 0) (f : ℕ → Trees → Tree) (h : (n : ℕ) (s : Trees) → P n → AllMetasIn Q s → AllMetas Q (f n s)) where
  up_metas : (σ : ℕ → Tree) → ((i : ℕ) → AllMetas Q (σ i)) → (i : ℕ) → AllMetas Q (up σ i)
  up_metas σ q zero = tt
  up_metas σ q (suc i) = ren_metas Q suc (σ i) (q i)

  ups_metas : (xs : List Bytes) (σ : ℕ → Tree) → ((i : ℕ) → AllMetas Q (σ i)) → (i : ℕ) → AllMetas Q (ups xs σ i)
  ups_metas [] σ q = q
  ups_metas (x ∷ xs) σ q = ups_metas xs (up σ) (up_metas σ q)

  mutual
    pub tr_metas : (σ : ℕ → Tree) → ((i : ℕ) → AllMetas Q (σ i)) → (t : Tree) → AllMetas P t → AllMetas Q (tr f σ t)
    tr_metas σ q (Var i) a = q i
    tr_metas σ q (Sort s) a = tt
    tr_metas σ q (Prod x A B) a = (tr_metas σ q A a.0, tr_metas (up σ) (up_metas σ q) B a.1)
    tr_metas σ q (Lam x A b) a = (tr_metas σ q A a.0, tr_metas (up σ) (up_metas σ q) b a.1)
    tr_metas σ q (App t u) a = (tr_metas σ q t a.0, tr_metas σ q u a.1)
    tr_metas σ q (Const c) a = tt
    tr_metas σ q (Ind e) a = tt
    tr_metas σ q (Con e k) a = tt
    tr_metas σ q (Match e R c bs) a = (tr_metas σ q R a.0, tr_metas σ q c a.1, tr_metas_arms σ q bs a.2)
    tr_metas σ q (Meta n s) a = h n (tr_all f σ s) a.0 (tr_metas_all σ q s a.1)

    pub tr_metas_all : (σ : ℕ → Tree) → ((i : ℕ) → AllMetas Q (σ i)) → (s : Trees) → AllMetasIn P s → AllMetasIn Q (tr_all f σ s)
    tr_metas_all σ q End a = tt
    tr_metas_all σ q (Item t s) a = (tr_metas σ q t a.0, tr_metas_all σ q s a.1)

    pub tr_metas_arms : (σ : ℕ → Tree) → ((i : ℕ) → AllMetas Q (σ i)) → (bs : Arms) → AllMetasArms P bs → AllMetasArms Q (tr_arms f σ bs)
    tr_metas_arms σ q NoArm a = tt
    tr_metas_arms σ q (Arm xs b bs) a = (tr_metas (ups xs σ) (ups_metas xs σ q) b a.0, tr_metas_arms σ q bs a.1)

  pub context_metas : (Γ : List Tree) → AllMetasOf P Γ → AllMetasOf Q (tr_context f Γ)
  context_metas [] a = tt
  context_metas (A ∷ Γ) a = (tr_metas Var (λ i. tt) A a.0, context_metas Γ a.1)

  pub judgement_metas : (σ : ℕ → Tree) → ((i : ℕ) → AllMetas Q (σ i)) → (J : Judgement) → JudgementMetas P J → JudgementMetas Q (tr_judgement f σ J)
  judgement_metas σ q IsContext a = tt
  judgement_metas σ q (IsType T) a = tr_metas σ q T a
  judgement_metas σ q (Has t T) a = (tr_metas σ q t a.0, tr_metas σ q T a.1)
  judgement_metas σ q (Stands t) a = tr_metas σ q t a
  judgement_metas σ q (Fitting e R ps k bs) a = (tr_metas σ q R a.0, tr_metas_all σ q ps a.1, tr_metas_arms σ q bs a.2)
  judgement_metas σ q (Body e p R c T xs b) a = (tr_metas σ q R a.0, tr_metas σ q c a.1, tr_metas σ q T a.2, tr_metas (ups xs σ) (ups_metas xs σ q) b a.3)

pub weaker_judgement : (P Q : ℕ → Type 0) → ((n : ℕ) → P n → Q n) → (J : Judgement) → JudgementMetas P J → JudgementMetas Q J
weaker_judgement P Q h IsContext a = tt
weaker_judgement P Q h (IsType T) a = weaker P Q h T a
weaker_judgement P Q h (Has t T) a = (weaker P Q h t a.0, weaker P Q h T a.1)
weaker_judgement P Q h (Stands t) a = weaker P Q h t a
weaker_judgement P Q h (Fitting e R ps k bs) a = (weaker P Q h R a.0, weaker_all P Q h ps a.1, weaker_arms P Q h bs a.2)
weaker_judgement P Q h (Body e p R c T xs b) a = (weaker P Q h R a.0, weaker P Q h c a.1, weaker P Q h T a.2, weaker P Q h b a.3)

-- two judgements on the metavariables
module _ (P Q R : ℕ → Type 0) (h : (n : ℕ) → P n → Q n → R n) where
  mutual
    pub both_metas : (t : Tree) → AllMetas P t → AllMetas Q t → AllMetas R t
    both_metas (Var i) a b = tt
    both_metas (Sort s) a b = tt
    both_metas (Prod x A B) a b = (both_metas A a.0 b.0, both_metas B a.1 b.1)
    both_metas (Lam x A t) a b = (both_metas A a.0 b.0, both_metas t a.1 b.1)
    both_metas (App t u) a b = (both_metas t a.0 b.0, both_metas u a.1 b.1)
    both_metas (Const c) a b = tt
    both_metas (Ind e) a b = tt
    both_metas (Con e k) a b = tt
    both_metas (Match e r c bs) a b = (both_metas r a.0 b.0, both_metas c a.1 b.1, both_metas_arms bs a.2 b.2)
    both_metas (Meta n s) a b = (h n a.0 b.0, both_metas_all s a.1 b.1)

    pub both_metas_all : (s : Trees) → AllMetasIn P s → AllMetasIn Q s → AllMetasIn R s
    both_metas_all End a b = tt
    both_metas_all (Item t s) a b = (both_metas t a.0 b.0, both_metas_all s a.1 b.1)

    pub both_metas_arms : (bs : Arms) → AllMetasArms P bs → AllMetasArms Q bs → AllMetasArms R bs
    both_metas_arms NoArm a b = tt
    both_metas_arms (Arm xs t bs) a b = (both_metas t a.0 b.0, both_metas_arms bs a.1 b.1)

  pub both_of : (Γ : List Tree) → AllMetasOf P Γ → AllMetasOf Q Γ → AllMetasOf R Γ
  both_of [] a b = tt
  both_of (A ∷ Γ) a b = (both_metas A a.0 b.0, both_of Γ a.1 b.1)

-- contexts
pub shift_tr : (f : ℕ → Trees → Tree) → Steady f → (ξ : ℕ → ℕ) (A : Tree) → tr f Var (ren ξ A) ≡ ren ξ (tr f Var A)
shift_tr f st ξ A = tr_ren f Var ξ A ∙ sym (ren_tr f (steady_natural f st) Var ξ A)

shift_tr_all : (f : ℕ → Trees → Tree) → Steady f → (ξ : ℕ → ℕ) (s : Trees) → tr_all f Var (ren_all ξ s) ≡ ren_all ξ (tr_all f Var s)
shift_tr_all f st ξ s = tr_ren_all f Var ξ s ∙ sym (ren_tr_all f (steady_natural f st) Var ξ s)

shift_tr_arms : (f : ℕ → Trees → Tree) → Steady f → (ξ : ℕ → ℕ) (s : Arms) → tr_arms f Var (ren_arms ξ s) ≡ ren_arms ξ (tr_arms f Var s)
shift_tr_arms f st ξ s = tr_ren_arms f Var ξ s ∙ sym (ren_tr_arms f (steady_natural f st) Var ξ s)

shift_body : (f : ℕ → Trees → Tree) → Steady f → (ξ : ℕ → ℕ) (xs : List Bytes) (b : Tree) → tr f (ups xs Var) (ren (up_rens xs ξ) b) ≡ ren (up_rens xs ξ) (tr f (ups xs Var) b)
shift_body f st ξ xs b = ap (λ τ. tr f τ (ren (up_rens xs ξ) b)) (ups_id xs) ∙ shift_tr f st (up_rens xs ξ) b ∙ ap (ren (up_rens xs ξ)) (sym (ap (λ τ. tr f τ b) (ups_id xs)))

pub judgement_shift : (f : ℕ → Trees → Tree) → Steady f → (ξ : ℕ → ℕ) (J : Judgement) → tr_judgement f Var (ren_judgement ξ J) ≡ ren_judgement ξ (tr_judgement f Var J)
judgement_shift f st ξ IsContext = refl
judgement_shift f st ξ (IsType T) = ap IsType (shift_tr f st ξ T)
judgement_shift f st ξ (Has t T) = ap₂ Has (shift_tr f st ξ t) (shift_tr f st ξ T)
judgement_shift f st ξ (Stands t) = ap Stands (shift_tr f st ξ t)
judgement_shift f st ξ (Fitting e R ps k bs) = λ i. Fitting e (shift_tr f st ξ R i) (shift_tr_all f st ξ ps i) k (shift_tr_arms f st ξ bs i)
judgement_shift f st ξ (Body e p R c T xs b) = λ i. Body e p (shift_tr f st ξ R i) (shift_tr f st ξ c i) (shift_tr f st ξ T i) xs (shift_body f st ξ xs b i)

pub look_tr : (f : ℕ → Trees → Tree) → Steady f → {Γ : List Tree} {i : ℕ} {T : Tree} → Look Γ i T → Look (tr_context f Γ) i (tr f Var T)
look_tr f st (here {A = A} {Γ = Γ}) = subst (λ T. Look (tr f Var A ∷ tr_context f Γ) zero T) (sym (shift_tr f st suc A)) here
look_tr f st (there {B = B} {Γ = Γ} {i = i} {T = T} l) = subst (λ U. Look (tr f Var B ∷ tr_context f Γ) (suc i) U) (sym (shift_tr f st suc T)) (there (look_tr f st l))

pub insert_tr : (f : ℕ → Trees → Tree) → Steady f → {A : Tree} {Δ : List Tree} {k : ℕ} {Γ Γ' : List Tree} → Insert A Δ k Γ Γ' → Insert (tr f Var A) (tr_context f Δ) k (tr_context f Γ) (tr_context f Γ')
insert_tr f st put = put
insert_tr f st {A = A} {Δ = Δ} (keep {k = k} {B = B} {Γ = Γ} {Γ' = Γ'} i) = subst (λ C. Insert (tr f Var A) (tr_context f Δ) (suc k) (tr f Var B ∷ tr_context f Γ) (C ∷ tr_context f Γ')) (sym (shift_tr f st (ins k) B)) (keep (insert_tr f st i))

-- a hypothesis of a transformed context is a transformed hypothesis
pub unlook : (f : ℕ → Trees → Tree) → Steady f → (Γ : List Tree) (i : ℕ) (T' : Tree) → Look (tr_context f Γ) i T' → (T : Tree) × Look Γ i T × (T' ≡ tr f Var T)
unlook f st [] i T' l = elim l [ ]
unlook f st (A ∷ Γ) i T' here = (ren suc A, here, sym (shift_tr f st suc A))
unlook f st (A ∷ Γ) i T' (there {T = U} l) = let r = unlook f st Γ _ U l in (ren suc r.0, there r.1, ap (ren suc) r.2 ∙ sym (shift_tr f st suc r.0))

pub length_tr : (f : ℕ → Trees → Tree) (Γ : List Tree) → length (tr_context f Γ) ≡ length Γ
length_tr f [] = refl
length_tr f (A ∷ Γ) = ap suc (length_tr f Γ)
