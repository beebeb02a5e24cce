-- Where a type is inferred, each metavariable that stands in the term is in the store.
use Rattle.std.specs.Prelude.{◌≡◌, refl, ◌+◌, ℕ, zero, suc, List, [], ◌∷◌, length, nat_eq, Bool, true, false, Option, Some, None}
use Rattle.mt_term.specs.Trees.{Tree, Trees, Arms, Var, Sort, Prod, Lam, App, Const, Ind, Con, Match, Meta, End, Item, NoArm, Arm}
use Rattle.mt_term.specs.Substitution.{apps, beyond, count, products}
use Rattle.mt_term.specs.Declarations.{Hypothesis, Constructor, Environment}
use Rattle.mt_rules.specs.Charges.{Charged, ◌>>=◌}
use Rattle.mt_term.specs.Spines.{at_args}
use Rattle.mt_term.specs.Stores.{Store, AllMetas, AllMetasIn, AllMetasArms, InStore}
use Rattle.mt_rules.specs.Inference.{Family, found, eliminable, checked, agrees, oldest, branches_fit, branch_context, branch_type, inferred, inferred_terms, inferred_arms, infer}
use Rattle.mt_term.specs.declared.modes.Mode.TheVariants.{AtMost}
use Rattle.mt_calculus_laws.proofs.Images.{is_some_at}
use Rattle.mt_calculus_laws.proofs.AlikeLaws.{both}
use Rattle.mt_rules_laws.proofs.Yields.{Yields, gives, refuses, charges, then_yields, so_yields, untrue}

-- whatever the answer is, this holds
abbrev Needs : {A : Type 0} → Charged A → Type 0 → Type 0
Needs m X = Yields m (λ a. X)

by_first : {A B : Type 0} (X : Type 0) (m : Charged A) (f : A → Charged B) → Needs m X → Needs (m >>= f) X
by_first X m f y = then_yields (λ a. X) (λ b. X) m f y (λ a x n b r e. x)

by_rest : {A B : Type 0} (X : Type 0) (m : Charged A) (f : A → Charged B) → ((a : A) → Needs (f a) X) → Needs (m >>= f) X
by_rest X m f y = then_yields (λ a. Unit {0}) (λ b. X) m f (λ n a r e. tt) (λ a z. y a)

by_both : {A B : Type 0} (X Y : Type 0) (m : Charged A) (f : A → Charged B) → Needs m X → ((a : A) → Needs (f a) Y) → Needs (m >>= f) (X × Y)
by_both X Y m f y z = then_yields (λ a. X) (λ b. X × Y) m f y (λ a x n b r e. (x, z a n b r e))

pub found_yields : {A : Type 0} (o : Option A) → Yields (found o) (λ a. o ≡ Some a)
found_yields {A = A} None = refuses (λ (a : A). None ≡ Some a) _
found_yields {A = A} (Some a) = gives (λ (b : A). Some a ≡ Some b) a refl

checked_yields : (b : Bool) → Yields (checked b) (λ z. b ≡ true)
checked_yields true = gives (λ z. true ≡ true) tt refl
checked_yields false = refuses (λ z. false ≡ true) _

module _ (E : Environment) (S : Store) where
  abbrev In : Tree → Type 0
  In t = AllMetas (InStore S) t

  mutual
    inferred_in : (Γ : List Hypothesis) (t : Tree) → Needs (inferred E S Γ t) (In t)
    inferred_in Γ (Var i) = λ n a r e. tt
    inferred_in Γ (Sort s) = λ n a r e. tt
    inferred_in Γ (Prod x a b) =
        charges (λ u. In a × In b) _ (by_both (In a) (In b) _ _ (by_first (In a) _ _ (by_first (In a) _ _ (inferred_in Γ a)))
        (λ s. by_first (In b) _ _ (by_first (In b) _ _ (by_first (In b) _ _ (inferred_in (record { name = x; ty = a } ∷ Γ) b)))))
    inferred_in Γ (Lam x a b) =
        charges (λ u. In a × In b) _ (by_both (In a) (In b) _ _ (by_first (In a) _ _ (by_first (In a) _ _ (inferred_in Γ a)))
        (λ s. by_first (In b) _ _ (inferred_in (record { name = x; ty = a } ∷ Γ) b)))
    inferred_in Γ (App f a) =
        charges (λ u. In f × In a) _ (by_both (In f) (In a) _ _ (by_first (In f) _ _ (by_first (In f) _ _ (inferred_in Γ f)))
        (λ p. by_first (In a) _ _ (inferred_in Γ a)))
    inferred_in Γ (Const c) = λ n a r e. tt
    inferred_in Γ (Ind c) = λ n a r e. tt
    inferred_in Γ (Con c k) = λ n a r e. tt
    inferred_in Γ (Match e r c bs) =
        charges (λ u. In r × In c × AllMetasArms (InStore S) bs) _ (so_yields (λ u. In c × (In r × AllMetasArms (InStore S) bs)) (λ u. In r × In c × AllMetasArms (InStore S) bs) _ (λ u h. (h.1.0, h.0, h.1.1))
        (by_both (In c) (In r × AllMetasArms (InStore S) bs) _ _ (by_first (In c) _ _ (inferred_in Γ c)) (λ d.
        by_rest (In r × AllMetasArms (InStore S) bs) _ _ (λ f.
        by_both (In r) (AllMetasArms (InStore S) bs) _ _ (by_first (In r) _ _ (inferred_in Γ r)) (λ s.
        then_yields (λ z. branches_fit (count f.params) f.constructors bs ≡ true) (λ u. AllMetasArms (InStore S) bs) (checked (branches_fit (count f.params) f.constructors bs)) _ (checked_yields _) (λ z fit.
        by_first (AllMetasArms (InStore S) bs) _ _ (inferred_arms_in Γ f r zero (count f.params) f.constructors bs fit)))))))
    inferred_in Γ (Meta n s) =
        charges (λ u. InStore S n × AllMetasIn (InStore S) s) _ (then_yields (λ d. S.at n ≡ Some d) (λ u. InStore S n × AllMetasIn (InStore S) s) (found (S.at n)) _ (found_yields (S.at n)) (λ d e.
        so_yields (λ u. AllMetasIn (InStore S) s) (λ u. InStore S n × AllMetasIn (InStore S) s) _ (λ u h. (is_some_at e, h))
        (by_first (AllMetasIn (InStore S) s) _ _ (inferred_terms_in Γ s (oldest d.context []) beyond))))

    inferred_terms_in : (Γ : List Hypothesis) (s : Trees) (more : List Tree) (σ : ℕ → Tree) → Needs (inferred_terms E S Γ s more σ) (AllMetasIn (InStore S) s)
    inferred_terms_in Γ End [] σ = λ n a r e. tt
    inferred_terms_in Γ (Item t s) (a ∷ more) σ =
        by_both (In t) (AllMetasIn (InStore S) s) _ _ (inferred_in Γ t) (λ u. by_rest (AllMetasIn (InStore S) s) _ _ (λ z. inferred_terms_in Γ s more _))
    inferred_terms_in Γ End (a ∷ more) σ = refuses (λ z. Unit {0}) _
    inferred_terms_in Γ (Item t s) [] σ = refuses (λ z. In t × AllMetasIn (InStore S) s) _

    inferred_arms_in : (Γ : List Hypothesis) (f : Family) (r : Tree) (k p : ℕ) (cs : List Constructor) (bs : Arms) → branches_fit p cs bs ≡ true → Needs (inferred_arms E S Γ f r k cs bs) (AllMetasArms (InStore S) bs)
    inferred_arms_in Γ f r k p (c ∷ cs) (Arm xs b bs) h =
        let own = at_args c.ty f.params in
        by_rest (In b × AllMetasArms (InStore S) bs) (eliminable own) _ (λ (u : Tree).
        let goal = branch_type (count f.params) r (apps (Con f.number k) f.params) u xs in
        let Δ = branch_context Γ u xs in
        by_rest (In b × AllMetasArms (InStore S) bs) (eliminable goal) _ (λ (v : Tree).
        by_both (In b) (AllMetasArms (InStore S) bs) (inferred E S Δ b) _ (inferred_in Δ b) (λ (t : Tree).
        by_rest (AllMetasArms (InStore S) bs) (agrees E S Δ AtMost t v) _ (λ z. inferred_arms_in Γ f r (suc k) p cs bs (both (nat_eq (length xs + p) (products c.ty)) (branches_fit p cs bs) h).1))))
    inferred_arms_in Γ f r k p [] NoArm h = λ n a l e. tt
    inferred_arms_in Γ f r k p [] (Arm xs b bs) h = untrue h
    inferred_arms_in Γ f r k p (c ∷ cs) NoArm h = λ n a l e. tt

  pub infer_metas : (Γ : List Hypothesis) (t : Tree) → Needs (infer E S Γ t) (AllMetas (InStore S) t)
  unfolding infer
  infer_metas Γ t = inferred_in Γ t
