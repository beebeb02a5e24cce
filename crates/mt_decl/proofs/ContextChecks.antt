-- What the kernel's check of a term abstracted over a context gives of the term in that context.
use Rattle.std.proofs.Common.{Bool, true, false, ◌≡◌, ℕ, zero, suc, ◌-◌, ◌<◌, List, [], ◌∷◌, refl, sym, ap, ◌∙◌, subst, arith}
use Rattle.mt_term.specs.Trees.{Tree, Sort, Prod, Lam, End}
use Rattle.mt_term.specs.Declarations.{Hypothesis, Environment}
use Rattle.mt_term.specs.Reasons.{Mismatch}
use Rattle.mt_term.specs.declared.universes.Sort.{Sort as AnySort}
use Rattle.mt_term.specs.declared.modes.Mode.TheVariants.{Equal, AtMost as InOrder}
use Rattle.mt_rules.specs.Charges.{Outcome, Done, Refused, Spent, Charged}
use Rattle.mt_term.specs.Alike.{alike, is_alike}
use Rattle.mt_term.specs.Stores.{no_store}
use Rattle.mt_calculus.specs.Typing.{IsType, Has, Strict, t_sub, k_sort, k_cod}
use Rattle.mt_calculus.specs.SoundEnvironment.{SoundEnvironment}
use Rattle.mt_rules.specs.WeakHead.{whd}
use Rattle.mt_rules.specs.Comparison.{convert, heads}
use Rattle.mt_rules.specs.Inference.{sorted, inferred, infer, context_types, agrees, agreed}
use Rattle.mt_rules.specs.KernelCheck.{check_type, check}
use Rattle.mt_rules_laws.proofs.Yields.{Yields, gives, refuses, charges, then_yields, so_yields}
use Rattle.mt_calculus_laws.proofs.AlikeLaws.{both}
use Rattle.mt_rules_laws.proofs.WeakHeadRules.{look-prod, whd-none}
use Rattle.mt_rules_laws.proofs.ComparisonRules.{convert-out, convert-alike, convert-heads, heads-prod-yes, heads-prod-no, heads-prod-spent, heads-prod-refused}
use Rattle.mt_rules_laws.proofs.ReductionTheorems.{comparison_law, strict_inference_law, type_check_law}
use Rattle.mt_calculus_laws.proofs.DerivationLaws.{context_law}
use Rattle.mt_decl.specs.Telescopes.{abstracted, generalized}
use Rattle.mt_decl.proofs.Free.{Free, none_of}

-- a definition with charges gives this answer at some allowance
abbrev Gives : {A : Type 0} → Charged A → A → Type 0
Gives m a = (n : ℕ) × (l : ℕ) × (m n ≡ Done a l)

what_it_gives : {A : Type 0} (m : Charged A) → Yields m (Gives m)
what_it_gives m n a l e = (n, l, e)

module _ (E : Environment) where
  abbrev Under : List Hypothesis → Tree → (Tree → Tree) → Tree → Type 0
  Under Γ t close T = (u : Tree) × (T ≡ close u) × Gives (infer E no_store Γ t) u

  -- the type of an abstraction is a product into a type of its body
  lam_yields : (Γ : List Hypothesis) (h : Hypothesis) (b : Tree) → Yields (infer E no_store Γ (Lam h.name h.ty b)) (Under (h ∷ Γ) b (Prod h.name h.ty))
  unfolding infer
  lam_yields Γ h b =
      charges (Under (h ∷ Γ) b (Prod h.name h.ty)) _
      (then_yields (λ s. Unit {0}) (Under (h ∷ Γ) b (Prod h.name h.ty)) (sorted E no_store (inferred E no_store Γ h.ty)) _ (λ n a l e. tt) (λ s i.
      then_yields (Gives (inferred E no_store (h ∷ Γ) b)) (Under (h ∷ Γ) b (Prod h.name h.ty)) (inferred E no_store (h ∷ Γ) b) _ (what_it_gives (inferred E no_store (h ∷ Γ) b)) (λ t g.
      gives (Under (h ∷ Γ) b (Prod h.name h.ty)) (Prod h.name h.ty t) (t, refl, g))))

  -- the type of a term abstracted over a context is the product over it, into a type of the term
  abstracted_yields : (Γ : List Hypothesis) (t : Tree) → Yields (infer E no_store [] (abstracted Γ t)) (Under Γ t (generalized Γ))
  abstracted_yields [] t = so_yields (Gives (infer E no_store [] t)) (Under [] t (generalized [])) (infer E no_store [] t) (λ u g. (u, refl, g)) (what_it_gives (infer E no_store [] t))
  abstracted_yields (h ∷ Γ) t = so_yields (Under Γ (Lam h.name h.ty t) (generalized Γ)) (Under (h ∷ Γ) t (generalized (h ∷ Γ))) (infer E no_store [] (abstracted (h ∷ Γ) t)) go (abstracted_yields Γ (Lam h.name h.ty t))
    where
      go : (T : Tree) → Under Γ (Lam h.name h.ty t) (generalized Γ) T → Under (h ∷ Γ) t (generalized (h ∷ Γ)) T
      go T (u, e, g) = let r = lam_yields Γ h t g.0 u g.1 g.2 in (r.0, e ∙ ap (generalized Γ) r.1, r.2)

  abbrev Compares : Tree → Tree → Type 0
  Compares u v = Gives (convert E no_store InOrder u v) true

  -- a yes between two products with the same first part comes from one between the others
  heads_compare : (h : Hypothesis) (u v : Tree) (m l : ℕ) (o : Outcome Bool) → convert E no_store Equal h.ty h.ty m ≡ o → heads E no_store InOrder (Prod h.name h.ty u) (Prod h.name h.ty v) m ≡ Done true l → Compares u v
  heads_compare h u v m l (Done true k) e f = (k, l, sym (heads-prod-yes E no_store InOrder h.name h.name h.ty u h.ty v m k e) ∙ f)
  heads_compare h u v m l (Done false k) e f = let g = heads-prod-no E no_store InOrder h.name h.name h.ty u h.ty v m k e in let no : ⊥ = cc in absurd no
  heads_compare h u v m l (Refused q k) e f = let g = heads-prod-refused E no_store InOrder h.name h.name h.ty u h.ty v m k q e in let no : ⊥ = cc in absurd no
  heads_compare h u v m l Spent e f = let g = heads-prod-spent E no_store InOrder h.name h.name h.ty u h.ty v m e in let no : ⊥ = cc in absurd no

  others_alike : (h : Hypothesis) (u v : Tree) → is_alike (Prod h.name h.ty u) (Prod h.name h.ty v) ≡ true → is_alike u v ≡ true
  unfolding is_alike
  others_alike h u v e = (both (alike h.ty h.ty) (alike u v) e).1

  prod_head : (h : Hypothesis) (u : Tree) (m : ℕ) → whd E no_store (Prod h.name h.ty u) m ≡ Done (Prod h.name h.ty u) m
  prod_head h u m = whd-none E no_store (Prod h.name h.ty u) m m (look-prod E no_store h.name h.ty u End m)

  products_compare : (h : Hypothesis) (u v : Tree) (n l : ℕ) (b : Bool) → 0 < n → is_alike (Prod h.name h.ty u) (Prod h.name h.ty v) ≡ b → convert E no_store InOrder (Prod h.name h.ty u) (Prod h.name h.ty v) n ≡ Done true l → Compares u v
  products_compare h u v n l true more a e = (1, 1 - 1, convert-alike E no_store InOrder u v 1 (omega arith) (others_alike h u v a))
  products_compare h u v n l false more a e =
      heads_compare h u v (n - 1) l (convert E no_store Equal h.ty h.ty (n - 1)) refl
      (sym (convert-heads E no_store InOrder (Prod h.name h.ty u) (Prod h.name h.ty v) (Prod h.name h.ty u) (Prod h.name h.ty v) n (n - 1) (n - 1) more a (prod_head h u (n - 1)) (prod_head h v (n - 1))) ∙ e)

  product_compares : (h : Hypothesis) (u v : Tree) → Compares (Prod h.name h.ty u) (Prod h.name h.ty v) → Compares u v
  product_compares h u v (zero, l, e) = let f = convert-out E no_store InOrder (Prod h.name h.ty u) (Prod h.name h.ty v) zero refl in let no : ⊥ = cc in absurd no
  product_compares h u v (suc n, l, e) = products_compare h u v (suc n) l (is_alike (Prod h.name h.ty u) (Prod h.name h.ty v)) (omega arith) refl e

  -- a yes between two products over a context comes from one between their ends
  ends_compare : (Γ : List Hypothesis) (u v : Tree) → Compares (generalized Γ u) (generalized Γ v) → Compares u v
  ends_compare [] u v g = g
  ends_compare (h ∷ Γ) u v g = product_compares h u v (ends_compare Γ (Prod h.name h.ty u) (Prod h.name h.ty v) g)

  agreed_yields : (t u : Tree) → Yields (agrees E no_store [] InOrder t u) (λ z. Compares t u)
  agreed_yields t u = then_yields (Gives (convert E no_store InOrder t u)) (λ z. Compares t u) (convert E no_store InOrder t u) (agreed [] t u) (what_it_gives (convert E no_store InOrder t u)) go
    where
      go : (b : Bool) → Gives (convert E no_store InOrder t u) b → Yields (agreed [] t u b) (λ z. Compares t u)
      go true g = gives (λ z. Compares t u) tt g
      go false g = refuses (λ z. Compares t u) (Mismatch [] t u [])

  -- what a Yes of the check comes from
  record Parts (term ty : Tree) : Type 0 where
    sort : AnySort
    checked : Gives (check_type E ty) sort
    type : Tree
    inferred : Gives (infer E no_store [] term) type
    compared : Compares type ty

  parts_yield : (term ty : Tree) → Yields (check E term ty) (λ z. Parts term ty)
  unfolding check
  parts_yield term ty =
      then_yields (Gives (check_type E ty)) (λ z. Parts term ty) (check_type E ty) _ (what_it_gives (check_type E ty)) (λ s g.
      then_yields (Gives (infer E no_store [] term)) (λ z. Parts term ty) (infer E no_store [] term) _ (what_it_gives (infer E no_store [] term)) (λ t i.
      so_yields (λ z. Compares t ty) (λ z. Parts term ty) (agrees E no_store [] InOrder t ty) (λ z c. record { sort = s; checked = g; type = t; inferred = i; compared = c }) (agreed_yields t ty)))

  -- the end of a product over a context is a type in it
  type_under : (Γ : List Hypothesis) (T : Tree) → Strict E [] (IsType (generalized Γ T)) → Strict E (context_types Γ) (IsType T)
  type_under [] T h = h
  type_under (x ∷ Γ) T h = k_cod (type_under Γ (Prod x.name x.ty T) h)

  module _ (sound : SoundEnvironment E) (Γ : List Hypothesis) (A : Tree) (s : AnySort) (free : Free A) (closed : Free (generalized Γ (Sort s))) where
    from_parts : Parts (abstracted Γ A) (generalized Γ (Sort s)) → Strict E (context_types Γ) (Has A (Sort s))
    from_parts p =
        let g = p.checked in
        let has = type_check_law E sound (generalized Γ (Sort s)) p.sort g.0 g.1 (none_of (generalized Γ (Sort s)) closed) g.2 in
        let under : Strict E (context_types Γ) (IsType (Sort s)) = type_under Γ (Sort s) (k_sort has) in
        let i = p.inferred in
        let r = abstracted_yields Γ A i.0 p.type i.1 i.2 in
        let typed = strict_inference_law E sound no_store Γ A r.0 r.2.0 r.2.1 (context_law E false no_store (context_types Γ) (IsType (Sort s)) under) (none_of A free) r.2.2 in
        let c = ends_compare Γ r.0 (Sort s) (subst (λ t. Compares t (generalized Γ (Sort s))) r.1 p.compared) in
        t_sub typed (comparison_law E no_store InOrder r.0 (Sort s) c.0 c.1 c.2) under

    -- a term that passes the check, abstracted over a context, has that sort in it by a strict derivation
    pub abstracted_has : Yields (check E (abstracted Γ A) (generalized Γ (Sort s))) (λ z. Strict E (context_types Γ) (Has A (Sort s)))
    abstracted_has = so_yields (λ z. Parts (abstracted Γ A) (generalized Γ (Sort s))) (λ z. Strict E (context_types Γ) (Has A (Sort s))) (check E (abstracted Γ A) (generalized Γ (Sort s))) (λ z p. from_parts p) (parts_yield (abstracted Γ A) (generalized Γ (Sort s)))
