-- A placeholder keeps a store sound, and has its type.
use Rattle.std.specs.Prelude.{◌≡◌, ◌≢◌, ◌<◌, ◌+◌, ◌⊎◌, refl, ℕ, zero, suc, List, [], ◌∷◌, ◌++◌, length, true, Some, None, option_map, reverse, slice_get}
use Rattle.std.proofs.Common.{inl, inr, sym, ap, ◌∙◌, subst, subst₂, arith, eq-or-lt_of_le, le_of_suc-le-suc}
use mathlib.Core.List.{reverse_aux}
use Rattle.mt_term.specs.Trees.{Tree, Trees, Var, Meta, End, Item}
use Rattle.mt_term.specs.Substitution.{then_as, fill, beyond, under, count}
use Rattle.mt_term.specs.Declarations.{Hypothesis, Environment}
use Rattle.mt_term.specs.States.{Metavariable}
use Rattle.mt_term.specs.Stores.{Declared, Store, types_onto, types_of, declared_as, store_of, AllMetasOf, InStore}
use Rattle.mt_term.specs.StoreChanges.{Extends, Puts}
use Rattle.mt_calculus.specs.Typing.{Look, IsContext, IsType, Has, Holds, t_var, t_meta}
use Rattle.mt_calculus.specs.SoundEnvironment.{SoundEnvironment}
use Rattle.mt_calculus.specs.SoundStore.{SoundStore}
use Rattle.mt_rules.specs.Inference.{context_types}
use Rattle.mt_term.proofs.Subst.{sub_id}
use Rattle.mt_calculus_laws.proofs.Steps.{ClosedEnv}
use Rattle.mt_calculus_laws.proofs.Known.{known}
use Rattle.mt_calculus_laws.proofs.EnvironmentLaws.{closed_environment}
use Rattle.mt_calculus_laws.proofs.StoreSteps.{declare_law}
use Rattle.mt_unification_laws.proofs.StoreGrowth.{appended, grows_extends}
use Rattle.mt_unification_laws.proofs.Later.{holds_later}
use Rattle.mt_unification_rules.specs.Placeholders.{Metas, all_variables, with_meta}
use Rattle.mt_unification_laws.proofs.Scoped.{Scoped, scoped_same, scoped_look, scoped}
use Rattle.mt_unification_laws.proofs.Mentions.{mentions}

-- a context turned round, as judgements see it
turned : (Γ acc : List Hypothesis) → types_onto (reverse_aux Γ acc) [] ≡ types_onto acc (context_types Γ)
turned [] acc = refl
turned (h ∷ Γ) acc = turned Γ (h ∷ acc)

pub own_types : (Γ : List Hypothesis) → types_of (reverse Γ) ≡ context_types Γ
own_types Γ = turned Γ []

count_types : (Γ : List Hypothesis) → length (context_types Γ) ≡ length Γ
count_types [] = refl
count_types (h ∷ Γ) = ap suc (count_types Γ)

-- the last of a list, and the others
pub last_get : (ms : Metas) (x : Metavariable) → slice_get (ms ++ x ∷ []) (length ms) ≡ Some x
last_get [] x = refl
last_get (m ∷ ms) x = last_get ms x

pub other_get : (ms : Metas) (x : Metavariable) (n : ℕ) → length ms ≢ n → slice_get (ms ++ x ∷ []) n ≡ slice_get ms n
other_get [] x zero h = absurd (h refl)
other_get [] x (suc n) h = refl
other_get (m ∷ ms) x zero h = refl
other_get (m ∷ ms) x (suc n) h = other_get ms x n (λ e. h (ap suc e))

-- all the variables of a context stand for themselves
count_variables : (n : ℕ) → count (all_variables n) ≡ n
count_variables zero = refl
count_variables (suc n) = ap suc (count_variables n)

fill_past : (s : Trees) (σ : ℕ → Tree) (k : ℕ) → fill s σ (count s + k) ≡ σ k
fill_past End σ k = ap σ (omega arith)
fill_past (Item t s) σ k =
    let e : count (Item t s) + k ≡ count s + suc k = omega arith in
    ap (fill s (then_as t σ)) e ∙ fill_past s (then_as t σ) (suc k)

fill_variables : (n : ℕ) (σ : ℕ → Tree) (i : ℕ) → i < n → fill (all_variables n) σ i ≡ Var i
fill_variables zero σ i l = absurd (omega arith)
fill_variables (suc n) σ i l = go (fill_variables n (then_as (Var n) σ) i) (eq-or-lt_of_le (le_of_suc-le-suc l))
  where
    go : (i < n → fill (all_variables n) (then_as (Var n) σ) i ≡ Var i) → (i ≡ n) ⊎ (i < n) → fill (all_variables n) (then_as (Var n) σ) i ≡ Var i
    go ih (inl e) =
        let c = count_variables n in
        let f : i ≡ count (all_variables n) + 0 = omega (arith, e, c) in
        ap (fill (all_variables n) (then_as (Var n) σ)) f ∙ fill_past (all_variables n) (then_as (Var n) σ) 0 ∙ ap Var (sym e)
    go ih (inr h) = ih h

under_variables : (n : ℕ) (T : Tree) → Scoped n T → under (all_variables n) T ≡ T
under_variables n T p = scoped_same n (fill (all_variables n) beyond) Var (fill_variables n beyond) T p ∙ sub_id T

-- a metavariable on all variables of its context has its type
variables_have : (E : Environment) (closed : ClosedEnv E) (S : Store) (Γ : List Tree) (T : Tree) (n k : ℕ) (d : Declared) → length Γ ≡ n → S.at k ≡ Some d → d.context ≡ Γ → d.ty ≡ T → Holds E true S Γ (IsType T) → Holds E true S Γ (Has (Meta k (all_variables n)) T)
variables_have E closed S Γ T n k d ln e ec et t =
    subst (λ U. Holds E true S Γ (Has (Meta k (all_variables n)) U)) (ap (under (all_variables n)) et ∙ under_variables n T (subst (λ m. Scoped m T) ln (scoped E closed true t)))
    (t_meta c e (subst (λ Δ. Holds E true S Δ IsContext) (sym ec) c) (subst₂ (λ Δ U. Holds E true S Δ (IsType U)) (sym ec) (sym et) t) (count_variables n ∙ sym ln ∙ ap length (sym ec)) (λ i U l. fits i U (subst (λ Δ. Look Δ i U) ec l)))
  where
    c : Holds E true S Γ IsContext
    c = (known E true t).0

    fits : (i : ℕ) (U : Tree) → Look Γ i U → Holds E true S Γ (Has (fill (all_variables n) beyond i) (under (all_variables n) U))
    fits i U l =
        let p = scoped_look E closed Γ i U l (scoped E closed true c) in
        let q : i < n = omega (arith, p.0, ln) in
        subst₂ (λ a b. Holds E true S Γ (Has a b)) (sym (fill_variables n beyond i q)) (sym (under_variables n U (subst (λ m. Scoped m U) ln p.1))) (t_var c l)

module _ (E : Environment) (env : SoundEnvironment E) (ms : Metas) (Γ : List Hypothesis) (T : Tree) (z : SoundStore E (store_of ms)) (t : Holds E true (store_of ms) (context_types Γ) (IsType T)) where
  unused : (store_of ms).at (length ms) ≡ None
  unused = (store_of ms).none (length ms) (omega arith)

  pub placeholder_extends : Extends (store_of ms) (store_of (with_meta ms Γ T))
  placeholder_extends = grows_extends ms (with_meta ms Γ T) (appended ms _)

  put : Puts (store_of ms) (length ms) (declared_as (record { context = reverse Γ; ty = T; body = None })) (store_of (with_meta ms Γ T))
  put = record { new = ap (option_map declared_as) (last_get ms _); others = λ m h. ap (option_map declared_as) (other_get ms _ m h) }

  pub placeholder_sound : SoundStore E (store_of (with_meta ms Γ T))
  placeholder_sound =
      let m = mentions E (closed_environment E env) true z.owned t in
      declare_law E (store_of ms) (store_of (with_meta ms Γ T)) env z (length ms) (declared_as (record { context = reverse Γ; ty = T; body = None })) unused refl
      (subst (AllMetasOf (InStore (store_of ms))) (sym (own_types Γ)) m.0) m.1 (subst (λ Δ. Holds E true (store_of ms) Δ IsContext) (sym (own_types Γ)) (known E true t).0) (subst (λ Δ. Holds E true (store_of ms) Δ (IsType T)) (sym (own_types Γ)) t) put

  pub placeholder_has : Holds E true (store_of (with_meta ms Γ T)) (context_types Γ) (Has (Meta (length ms) (all_variables (length Γ))) T)
  placeholder_has =
      variables_have E (closed_environment E env) (store_of (with_meta ms Γ T)) (context_types Γ) T (length Γ) (length ms) (declared_as (record { context = reverse Γ; ty = T; body = None })) (count_types Γ) put.new (own_types Γ) refl
      (holds_later E (closed_environment E env) (store_of ms) (store_of (with_meta ms Γ T)) z.owned placeholder_extends (context_types Γ) (IsType T) t)
