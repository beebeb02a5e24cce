-- The laws of inference and of the kernel's check.
use Rattle.std.specs.Prelude.{ℕ, zero, suc, ◌+◌, ◌≤◌, List, [], ◌∷◌, Bool, true, false, Option, Some, None}
use Rattle.std.proofs.Common.{arith}
use Rattle.mt_term.specs.Trees.{Tree, Trees, Arms, Var, Sort, Prod, Lam, App, Const, Ind, Con, Match, Meta, End, Item, NoArm, Arm}
use Rattle.mt_term.specs.Declarations.{Hypothesis, Constructor, Environment}
use Rattle.mt_rules.specs.Charges.{Charged, ◌>>=◌, charge, rest}
use Rattle.mt_term.specs.Spines.{at_args}
use Rattle.mt_term.specs.Substitution.{apps, count}
use Rattle.mt_term.specs.Stores.{Store, no_store}
use Rattle.mt_rules.specs.WeakHead.{whd}
use Rattle.mt_rules.specs.Inference.{Family, a_sort, a_product, found, eliminable, checked, in_range, agreed, branch_type, branch_context, sorted, agrees, eliminated, elim_by, inferred, inferred_terms, inferred_arms, infer, elimination}
use Rattle.mt_rules.specs.KernelCheck.{check_type, check}
use Rattle.mt_term.specs.declared.modes.Mode.{Mode}
use Rattle.mt_term.specs.declared.modes.Mode.TheVariants.{AtMost}
use Rattle.mt_term.specs.declared.universes.Sort.{Sort as AnySort}
use Rattle.mt_rules_laws.proofs.Charged.{Tied, Agree, give-agree, refuse-agree, charge-agree, then-agree, agree-rest}
use Rattle.mt_rules_laws.proofs.WeakHeadLaws.{whd-agree}
use Rattle.mt_rules_laws.proofs.ComparisonLaws.{convert-agree}

module _ (k i : ℕ) where
  pub a_sort-agree : (t : Tree) → Agree k i (a_sort t) (a_sort t)
  a_sort-agree (Sort s) = give-agree k i s
  a_sort-agree _ = refuse-agree k i _

  pub a_product-agree : (t : Tree) → Agree k i (a_product t) (a_product t)
  a_product-agree (Prod x a b) = give-agree k i _
  a_product-agree _ = refuse-agree k i _

  pub found-agree : {A : Type 0} (o : Option A) → Agree k i (found o) (found o)
  found-agree None = refuse-agree k i _
  found-agree (Some a) = give-agree k i a

  pub eliminable-agree : {A : Type 0} (o : Option A) → Agree k i (eliminable o) (eliminable o)
  eliminable-agree None = refuse-agree k i _
  eliminable-agree (Some a) = give-agree k i a

  pub checked-agree : (b : Bool) → Agree k i (checked b) (checked b)
  checked-agree true = give-agree k i tt
  checked-agree false = refuse-agree k i _

  pub in_range-agree : (o : Option AnySort) → Agree k i (in_range o) (in_range o)
  in_range-agree None = refuse-agree k i _
  in_range-agree (Some s) = give-agree k i _

  pub agreed-agree : (Γ : List Hypothesis) (t u : Tree) (b : Bool) → Agree k i (agreed Γ t u b) (agreed Γ t u b)
  agreed-agree Γ t u true = give-agree k i tt
  agreed-agree Γ t u false = refuse-agree k i _

-- a charge before what agrees
charged-agree : {A : Type 0} (k i : ℕ) (m : Charged A) → ((j : ℕ) → Agree j i m m) → Agree k i (charge m) (charge m)
charged-agree zero i m h = charge-agree 0 i m m tt
charged-agree (suc k) i m h = charge-agree (suc k) i m m (h k)

module _ (E : Environment) (S : Store) (i : ℕ) where
  pub sorted-agree : (k : ℕ) (m : Charged Tree) → Agree k i m m → Agree k i (sorted E S m) (sorted E S m)
  sorted-agree k m h = then-agree k i _ _ _ _ (then-agree k i _ _ _ _ h (λ u. whd-agree E S k i u)) (a_sort-agree k i)

  pub producted-agree : (k : ℕ) (m : Charged Tree) → Agree k i m m → Agree k i (m >>= whd E S >>= a_product) (m >>= whd E S >>= a_product)
  producted-agree k m h = then-agree k i _ _ _ _ (then-agree k i _ _ _ _ h (λ u. whd-agree E S k i u)) (a_product-agree k i)

  pub agrees-agree : (k : ℕ) (Γ : List Hypothesis) (mode : Mode) (t u : Tree) → Agree k i (agrees E S Γ mode t u) (agrees E S Γ mode t u)
  agrees-agree k Γ mode t u = then-agree k i _ _ _ _ (convert-agree E S k i mode t u) (agreed-agree k i Γ t u)

  pub eliminated-agree : (k : ℕ) (Γ : List Hypothesis) (large : Bool) (u h t : Tree) → Agree k i (eliminated E S Γ large u h t) (eliminated E S Γ large u h t)
  eliminated-agree k Γ large (Prod x a b) h t =
      then-agree k i _ _ _ _ (then-agree k i _ _ _ _ (whd-agree E S k i t) (a_product-agree k i)) (λ p.
      then-agree k i _ _ _ _ (agrees-agree k Γ _ _ _) (λ z. eliminated-agree k _ large b _ _))
  eliminated-agree k Γ large (Sort r) h t =
      then-agree k i _ _ _ _ (then-agree k i _ _ _ _ (whd-agree E S k i t) (a_product-agree k i)) (λ p.
      then-agree k i _ _ _ _ (agrees-agree k Γ _ _ _) (λ z.
      then-agree k i _ _ _ _ (then-agree k i _ _ _ _ (whd-agree E S k i p.cod) (a_sort-agree k i)) (λ s.
      then-agree k i _ _ _ _ (checked-agree k i _) (λ z. give-agree k i s))))
  eliminated-agree k Γ large _ h t = refuse-agree k i _

  pub elim_by-agree : (k : ℕ) (Γ : List Hypothesis) (f : Family) (m : Charged Tree) → Agree k i m m → Agree k i (elim_by E S Γ f m) (elim_by E S Γ f m)
  elim_by-agree k Γ f m h = then-agree k i _ _ _ _ h (λ t. eliminated-agree k Γ f.large f.arity _ t)

  mutual
    pub inferred-agree : (k : ℕ) (Γ : List Hypothesis) (t : Tree) → Agree k i (inferred E S Γ t) (inferred E S Γ t)
    inferred-agree k Γ (Var j) = charged-agree k i _ (λ l. found-agree l i _)
    inferred-agree k Γ (Sort s) = charged-agree k i _ (λ l. in_range-agree l i _)
    inferred-agree k Γ (Prod x a b) = charged-agree k i _ (λ l.
        then-agree l i _ _ _ _ (sorted-agree l _ (inferred-agree l Γ a)) (λ s.
        then-agree l i _ _ _ _ (sorted-agree l _ (inferred-agree l _ b)) (λ r. give-agree l i _)))
    inferred-agree k Γ (Lam x a b) = charged-agree k i _ (λ l.
        then-agree l i _ _ _ _ (sorted-agree l _ (inferred-agree l Γ a)) (λ s.
        then-agree l i _ _ _ _ (inferred-agree l _ b) (λ r. give-agree l i _)))
    inferred-agree k Γ (App f a) = charged-agree k i _ (λ l.
        then-agree l i _ _ _ _ (producted-agree l _ (inferred-agree l Γ f)) (λ p.
        then-agree l i _ _ _ _ (inferred-agree l Γ a) (λ t.
        then-agree l i _ _ _ _ (agrees-agree l Γ _ _ _) (λ z. give-agree l i _))))
    inferred-agree k Γ (Const c) = charged-agree k i _ (λ l. found-agree l i _)
    inferred-agree k Γ (Ind e) = charged-agree k i _ (λ l. found-agree l i _)
    inferred-agree k Γ (Con e j) = charged-agree k i _ (λ l. found-agree l i _)
    inferred-agree k Γ (Match e r c bs) = charged-agree k i _ (λ l.
        then-agree l i _ _ _ _ (then-agree l i _ _ _ _ (inferred-agree l Γ c) (λ u. whd-agree E S l i u)) (λ d.
        then-agree l i _ _ _ _ (eliminable-agree l i _) (λ f.
        then-agree l i _ _ _ _ (elim_by-agree l Γ f _ (inferred-agree l Γ r)) (λ s.
        then-agree l i _ _ _ _ (checked-agree l i _) (λ z.
        then-agree l i _ _ _ _ (inferred_arms-agree l Γ f r zero f.constructors bs) (λ z. give-agree l i _))))))
    inferred-agree k Γ (Meta n s) = charged-agree k i _ (λ l.
        then-agree l i _ _ _ _ (found-agree l i _) (λ d.
        then-agree l i _ _ _ _ (inferred_terms-agree l Γ s _ _) (λ z. give-agree l i _)))

    pub inferred_terms-agree : (k : ℕ) (Γ : List Hypothesis) (s : Trees) (more : List Tree) (σ : ℕ → Tree) → Agree k i (inferred_terms E S Γ s more σ) (inferred_terms E S Γ s more σ)
    inferred_terms-agree k Γ End [] σ = give-agree k i tt
    inferred_terms-agree k Γ (Item t s) (a ∷ more) σ =
        then-agree k i _ _ _ _ (inferred-agree k Γ t) (λ u.
        then-agree k i _ _ _ _ (agrees-agree k Γ _ _ _) (λ z. inferred_terms-agree k Γ s more _))
    inferred_terms-agree k Γ End (a ∷ more) σ = refuse-agree k i _
    inferred_terms-agree k Γ (Item t s) [] σ = refuse-agree k i _

    pub inferred_arms-agree : (k : ℕ) (Γ : List Hypothesis) (f : Family) (r : Tree) (j : ℕ) (cs : List Constructor) (bs : Arms) → Agree k i (inferred_arms E S Γ f r j cs bs) (inferred_arms E S Γ f r j cs bs)
    inferred_arms-agree k Γ f r j (c ∷ cs) (Arm xs b bs) =
        let own = at_args c.ty f.params in
        then-agree k i (eliminable own) (eliminable own) _ _ (eliminable-agree k i own) (λ (u : Tree).
        let goal = branch_type (count f.params) r (apps (Con f.number j) f.params) u xs in
        let Δ = branch_context Γ u xs in
        then-agree k i (eliminable goal) (eliminable goal) _ _ (eliminable-agree k i goal) (λ (v : Tree).
        then-agree k i (inferred E S Δ b) (inferred E S Δ b) _ _ (inferred-agree k Δ b) (λ (t : Tree).
        then-agree k i (agrees E S Δ AtMost t v) (agrees E S Δ AtMost t v) _ _ (agrees-agree k Δ AtMost t v) (λ z. inferred_arms-agree k Γ f r (suc j) cs bs))))
    inferred_arms-agree k Γ f r j [] bs = give-agree k i tt
    inferred_arms-agree k Γ f r j (c ∷ cs) NoArm = give-agree k i tt

-- inference agrees with itself at greater allowances
pub infer-agree : (E : Environment) (S : Store) (k i : ℕ) (Γ : List Hypothesis) (t : Tree) → Agree k i (infer E S Γ t) (infer E S Γ t)
unfolding infer
infer-agree E S k i Γ t = inferred-agree E S i k Γ t

pub infer-grows : (E : Environment) (S : Store) (Γ : List Hypothesis) (t : Tree) (n i : ℕ) → Tied n i (infer E S Γ t n) (infer E S Γ t (n + i))
infer-grows E S Γ t n i = (infer-agree E S n i Γ t).at n (omega arith)

pub infer-rest : (E : Environment) (S : Store) (Γ : List Hypothesis) (t : Tree) (n : ℕ) → rest (infer E S Γ t n) ≤ n
infer-rest E S Γ t n = agree-rest (infer E S Γ t) n (infer-agree E S n 0 Γ t)

pub elimination-agree : (E : Environment) (S : Store) (k i : ℕ) (Γ : List Hypothesis) (f : Family) (r : Tree) → Agree k i (elimination E S Γ f r) (elimination E S Γ f r)
unfolding elimination
elimination-agree E S k i Γ f r = elim_by-agree E S i k Γ f _ (infer-agree E S k i Γ r)

pub elimination-grows : (E : Environment) (S : Store) (Γ : List Hypothesis) (f : Family) (r : Tree) (n i : ℕ) → Tied n i (elimination E S Γ f r n) (elimination E S Γ f r (n + i))
elimination-grows E S Γ f r n i = (elimination-agree E S n i Γ f r).at n (omega arith)

pub elimination-rest : (E : Environment) (S : Store) (Γ : List Hypothesis) (f : Family) (r : Tree) (n : ℕ) → rest (elimination E S Γ f r n) ≤ n
elimination-rest E S Γ f r n = agree-rest (elimination E S Γ f r) n (elimination-agree E S n 0 Γ f r)

-- the kernel's checks
pub check_type-agree : (E : Environment) (k i : ℕ) (ty : Tree) → Agree k i (check_type E ty) (check_type E ty)
unfolding check_type
check_type-agree E k i ty = sorted-agree E no_store i k _ (infer-agree E no_store k i [] ty)

pub check_type-grows : (E : Environment) (ty : Tree) (n i : ℕ) → Tied n i (check_type E ty n) (check_type E ty (n + i))
check_type-grows E ty n i = (check_type-agree E n i ty).at n (omega arith)

pub check_type-rest : (E : Environment) (ty : Tree) (n : ℕ) → rest (check_type E ty n) ≤ n
check_type-rest E ty n = agree-rest (check_type E ty) n (check_type-agree E n 0 ty)

pub check-agree : (E : Environment) (k i : ℕ) (term ty : Tree) → Agree k i (check E term ty) (check E term ty)
unfolding check
check-agree E k i term ty =
    then-agree k i _ _ _ _ (check_type-agree E k i ty) (λ s.
    then-agree k i _ _ _ _ (infer-agree E no_store k i [] term) (λ t. agrees-agree E no_store i k [] AtMost t ty))

pub check-grows : (E : Environment) (term ty : Tree) (n i : ℕ) → Tied n i (check E term ty n) (check E term ty (n + i))
check-grows E term ty n i = (check-agree E n i term ty).at n (omega arith)

pub check-rest : (E : Environment) (term ty : Tree) (n : ℕ) → rest (check E term ty n) ≤ n
check-rest E term ty n = agree-rest (check E term ty) n (check-agree E n 0 term ty)
