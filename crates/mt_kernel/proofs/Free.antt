-- No metavariable stands in a term that has an inferred type, where there is no store: an inference goes through the whole term.
use Rattle.std.proofs.Common.{ℕ, zero, suc, ◌≡◌, List, [], ◌∷◌, Bool, true, false, ◌&&◌}
use Rattle.mt_term.specs.Trees.{Tree, Trees, Arms, Var, Sort, Prod, Lam, App, Const, Ind, Con, Match, Meta, NoArm, Arm}
use Rattle.mt_term.specs.declared.modes.Mode.TheVariants.{AtMost}
use Rattle.mt_term.specs.declared.universes.Sort.{Sort as AnySort}
use Rattle.mt_term.specs.Spines.{at_args}
use Rattle.mt_term.specs.Substitution.{apps, count}
use Rattle.mt_term.specs.Declarations.{Hypothesis, Constructor, Environment}
use Rattle.mt_rules.specs.Charges.{Charged, Done, ◌>>=◌}
use Rattle.mt_term.specs.Stores.{no_store, AllMetas, AllMetasArms, Mentions}
use Rattle.mt_rules.specs.Inference.{Family, checked, eliminable, branch_type, branches_fit, branch_context, inferred, inferred_arms, infer, sorted, agrees}
use Rattle.mt_rules.specs.KernelCheck.{check_type, check}
use Rattle.mt_term.proofs.ReachLaws.{term_of_all}
use Rattle.mt_rules_laws.proofs.Yields.{Yields, gives, refuses, charges, then_yields, so_yields, untrue}

-- none
abbrev No : ℕ → Type 0
No n = ⊥

-- a fact that a first part gives
first : {A B : Type 0} (X : Type 0) (m : Charged A) (f : A → Charged B) → Yields m (λ a. X) → Yields (m >>= f) (λ b. X)
first X m f y = then_yields (λ a. X) (λ b. X) m f y (λ a x n b r e. x)

-- a part that is passed over
past : {A B : Type 0} (P : B → Type 0) (m : Charged A) (f : A → Charged B) → ((a : A) → Yields (f a) P) → Yields (m >>= f) P
past P m f y = then_yields (λ a. Unit {0}) P m f (λ n a r e. tt) (λ a u. y a)

both : {A B : Type 0} (X Y : Type 0) (m : Charged A) (f : A → Charged B) → Yields m (λ a. X) → ((a : A) → Yields (f a) (λ b. Y)) → Yields (m >>= f) (λ b. X × Y)
both X Y m f y z = then_yields (λ a. X) (λ b. X × Y) m f y (λ a x. so_yields (λ b. Y) (λ b. X × Y) (f a) (λ b v. (x, v)) (z a))

is_checked : (b : Bool) → Yields (checked b) (λ z. b ≡ true)
is_checked true = gives (λ z. true ≡ true) tt refl_true
  where
    refl_true : true ≡ true
    refl_true i = true
is_checked false = refuses (λ z. false ≡ true) _

second : (a b : Bool) → (a && b) ≡ true → b ≡ true
second true b e = e
second false b e = untrue e

module _ (E : Environment) where
  sorted_free : (t : Tree) (Γ : List Hypothesis) (m : Charged Tree) → Yields m (λ u. AllMetas No t) → Yields (sorted E no_store m) (λ s. AllMetas No t)
  sorted_free t Γ m y = first (AllMetas No t) _ _ (first (AllMetas No t) m _ y)

  refused_meta : (Γ : List Hypothesis) (m : ℕ) (s : Trees) → Yields (inferred E no_store Γ (Meta m s)) (λ u. AllMetas No (Meta m s))
  refused_meta Γ m s zero u r e = absurd cc
  refused_meta Γ m s (suc n) u r e = absurd cc

  mutual
    inferred_free : (Γ : List Hypothesis) (t : Tree) → Yields (inferred E no_store Γ t) (λ u. AllMetas No t)
    inferred_free Γ (Var i) = λ n a r e. tt
    inferred_free Γ (Sort s) = λ n a r e. tt
    inferred_free Γ (Prod x a b) =
        let Δ = record { name = x; ty = a } ∷ Γ in
        charges (λ u. AllMetas No (Prod x a b)) _ (both (AllMetas No a) (AllMetas No b) (sorted E no_store (inferred E no_store Γ a)) _ (sorted_free a Γ (inferred E no_store Γ a) (inferred_free Γ a)) (λ s.
        first (AllMetas No b) (sorted E no_store (inferred E no_store Δ b)) _ (sorted_free b Δ (inferred E no_store Δ b) (inferred_free Δ b))))
    inferred_free Γ (Lam x a b) =
        let Δ = record { name = x; ty = a } ∷ Γ in
        charges (λ u. AllMetas No (Lam x a b)) _ (both (AllMetas No a) (AllMetas No b) (sorted E no_store (inferred E no_store Γ a)) _ (sorted_free a Γ (inferred E no_store Γ a) (inferred_free Γ a)) (λ s.
        first (AllMetas No b) (inferred E no_store Δ b) _ (inferred_free Δ b)))
    inferred_free Γ (App f a) =
        charges (λ u. AllMetas No (App f a)) _ (both (AllMetas No f) (AllMetas No a) _ _ (first (AllMetas No f) _ _ (first (AllMetas No f) (inferred E no_store Γ f) _ (inferred_free Γ f))) (λ p.
        first (AllMetas No a) (inferred E no_store Γ a) _ (inferred_free Γ a)))
    inferred_free Γ (Const c) = λ n a r e. tt
    inferred_free Γ (Ind e) = λ n a r e. tt
    inferred_free Γ (Con e k) = λ n a r e. tt
    inferred_free Γ (Match e r c bs) =
        charges (λ u. AllMetas No r × AllMetas No c × AllMetasArms No bs) _ (
        then_yields (λ d. AllMetas No c) (λ u. AllMetas No r × AllMetas No c × AllMetasArms No bs) _ _ (first (AllMetas No c) (inferred E no_store Γ c) _ (inferred_free Γ c)) (λ d pc.
        past (λ u. AllMetas No r × AllMetas No c × AllMetasArms No bs) _ _ (λ f.
        then_yields (λ s. AllMetas No r) (λ u. AllMetas No r × AllMetas No c × AllMetasArms No bs) _ _ (first (AllMetas No r) (inferred E no_store Γ r) _ (inferred_free Γ r)) (λ s pr.
        then_yields (λ z. branches_fit (count f.params) f.constructors bs ≡ true) (λ u. AllMetas No r × AllMetas No c × AllMetasArms No bs) _ _ (is_checked (branches_fit (count f.params) f.constructors bs)) (λ z fit.
        then_yields (λ z. AllMetasArms No bs) (λ u. AllMetas No r × AllMetas No c × AllMetasArms No bs) _ _ (arms_free Γ f r zero f.constructors bs (count f.params) fit) (λ z pb.
        gives (λ u. AllMetas No r × AllMetas No c × AllMetasArms No bs) _ (pr, pc, pb)))))))
    inferred_free Γ (Meta m s) = refused_meta Γ m s

    arms_free : (Γ : List Hypothesis) (f : Family) (r : Tree) (k : ℕ) (cs : List Constructor) (bs : Arms) (p : ℕ) → branches_fit p cs bs ≡ true → Yields (inferred_arms E no_store Γ f r k cs bs) (λ z. AllMetasArms No bs)
    arms_free Γ f r k [] NoArm p h = λ n a r e. tt
    arms_free Γ f r k [] (Arm xs b bs) p h = untrue h
    arms_free Γ f r k (c ∷ cs) NoArm p h = untrue h
    arms_free Γ f r k (c ∷ cs) (Arm xs b bs) p h =
        past (λ z. AllMetas No b × AllMetasArms No bs) (eliminable (at_args c.ty f.params)) _ (λ u.
        past (λ z. AllMetas No b × AllMetasArms No bs) (eliminable (branch_type (count f.params) r (apps (Con f.number k) f.params) u xs)) _ (λ v.
        both (AllMetas No b) (AllMetasArms No bs) (inferred E no_store (branch_context Γ u xs) b) _ (inferred_free (branch_context Γ u xs) b) (λ t.
        past (λ z. AllMetasArms No bs) (agrees E no_store (branch_context Γ u xs) AtMost t v) _ (λ z. arms_free Γ f r (suc k) cs bs p (second _ (branches_fit p cs bs) h)))))

  type_free : (ty : Tree) → Yields (check_type E ty) (λ s. AllMetas No ty)
  unfolding check_type infer
  type_free ty = sorted_free ty [] (inferred E no_store [] ty) (inferred_free [] ty)

  check_free : (term ty : Tree) → Yields (check E term ty) (λ z. AllMetas No ty × AllMetas No term)
  unfolding check infer
  check_free term ty = both (AllMetas No ty) (AllMetas No term) (check_type E ty) _ (type_free ty) (λ s. first (AllMetas No term) (inferred E no_store [] term) _ (inferred_free [] term))

  pub no_metas_in_type : (ty : Tree) (s : AnySort) (n l : ℕ) → check_type E ty n ≡ Done s l → (m : ℕ) → Mentions m ty → ⊥
  no_metas_in_type ty s n l e m h = term_of_all No m ty (type_free ty n s l e) h

  pub no_metas_in_checked : (term ty : Tree) (z : Unit {0}) (n l : ℕ) → check E term ty n ≡ Done z l → (m : ℕ) → (Mentions m ty → ⊥) × (Mentions m term → ⊥)
  no_metas_in_checked term ty z n l e m = let f = check_free term ty n z l e in ((λ h. term_of_all No m ty f.0 h), (λ h. term_of_all No m term f.1 h))
