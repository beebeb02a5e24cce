-- The variables of a hint as new metavariables: the store stays sound, and they have the types of the variables.
use Rattle.std.specs.Prelude.{◌≡◌, refl, ℕ, zero, suc, ◌+◌, List, [], ◌∷◌, length, true, Some}
use Rattle.std.proofs.Common.{sym, ap, ◌∙◌, subst, arith}
use Rattle.mt_term.specs.Trees.{Tree, Trees, End, Item}
use Rattle.mt_term.specs.Substitution.{then_as, fill, beyond, under, join, count, sub}
use Rattle.mt_term.specs.Declarations.{Hypothesis, Environment}
use Rattle.mt_term.specs.Spines.{item_at}
use Rattle.mt_term.specs.Stores.{Store, no_store, types_onto, store_of, Owned}
use Rattle.mt_term.specs.StoreChanges.{Extends}
use Rattle.mt_calculus.specs.Typing.{Look, here, there, Judgement, IsContext, IsType, Has, Stands, In, first, later, Holds, k_stands}
use Rattle.mt_calculus.specs.SoundEnvironment.{SoundEnvironment}
use Rattle.mt_calculus.specs.SoundStore.{SoundStore}
use Rattle.mt_rules.specs.Inference.{context_types}
use Rattle.mt_term.proofs.Subst.{tr_ren}
use Rattle.mt_calculus_laws.proofs.Known.{Inv}
use Rattle.mt_calculus_laws.proofs.Renames.{larger_store}
use Rattle.mt_calculus_laws.proofs.Laws.{substitution}
use Rattle.mt_rules_laws.proofs.Yields.{nothing, some_is}
use Rattle.mt_unification_rules.specs.Placeholders.{Metas, placeholder}
use Rattle.mt_unification_rules.specs.Hints.{with_variables, first_terms}
use Rattle.mt_unification_laws.specs.TypedHints.{first_hypotheses}
use Rattle.mt_unification_laws.proofs.Later.{extends_same, extends_twice}
use Rattle.mt_unification_laws.proofs.NewMetas.{placeholder_extends, placeholder_sound, placeholder_has}
use Rattle.mt_unification_laws.proofs.SoundAnswers.{closed, moved}

-- lists of terms, joined
pub join_end : (s : Trees) → join s End ≡ s
join_end End = refl
join_end (Item t s) = ap (Item t) (join_end s)

pub join_join : (s r q : Trees) → join (join s r) q ≡ join s (join r q)
join_join End r q = refl
join_join (Item t s) r q = ap (Item t) (join_join s r q)

pub fill_join : (s r : Trees) (σ : ℕ → Tree) → fill (join s r) σ ≡ fill r (fill s σ)
fill_join End r σ = refl
fill_join (Item t s) r σ = fill_join s r (then_as t σ)

pub count_join : (s r : Trees) → count (join s r) ≡ count s + count r
count_join End r = omega arith
count_join (Item t s) r = let e = count_join s r in omega (arith, e)

-- a term at a place stands in the list
pub item_in : (s : Trees) (i : ℕ) (t : Tree) → item_at s i ≡ Some t → In t s
item_in End i t e = nothing e
item_in (Item u s) zero t e = subst (λ v. In v (Item u s)) (some_is e) first
item_in (Item u s) (suc i) t e = later (item_in s i t e)

module _ (E : Environment) (env : SoundEnvironment E) where
  none_owned : Owned no_store
  none_owned n d e = nothing e

  -- what holds over the empty store holds over each
  pub from_none : (S : Store) (Γ : List Tree) (J : Judgement) → Holds E true no_store Γ J → Holds E true S Γ J
  from_none S Γ J h = larger_store E true (closed E env) no_store S none_owned (λ n d e. nothing e) Γ J h

  pub inv_older : (xs : List Hypothesis) (Δ : List Tree) → Inv E true no_store (types_onto xs Δ) → Inv E true no_store Δ
  inv_older [] Δ v = v
  inv_older (x ∷ xs) Δ v = (inv_older xs (x.ty ∷ Δ) v).2

  -- terms in Γ for the hypotheses of Δ, each of its type under the earlier ones
  abbrev pub FitsIn : Metas → List Hypothesis → Trees → List Tree → Type 0
  FitsIn ms Γ s Δ = (i : ℕ) (T : Tree) → Look Δ i T → Holds E true (store_of ms) (context_types Γ) (Has (fill s beyond i) (under s T))

  pub fits_moved : (ms ms' : Metas) → SoundStore E (store_of ms) → Extends (store_of ms) (store_of ms') → (Γ : List Hypothesis) (s : Trees) (Δ : List Tree) → FitsIn ms Γ s Δ → FitsIn ms' Γ s Δ
  fits_moved ms ms' z x Γ s Δ f i T l = moved E env ms ms' z x (context_types Γ) (Has (fill s beyond i) (under s T)) (f i T l)

  next_fits : (ms : Metas) (Γ : List Hypothesis) (s : Trees) (Δ : List Tree) (t T : Tree) → FitsIn ms Γ s Δ → Holds E true (store_of ms) (context_types Γ) (Has t (under s T)) → FitsIn ms Γ (join s (Item t End)) (T ∷ Δ)
  next_fits ms Γ s Δ t T f h i U l =
      subst (λ (ρ : ℕ → Tree). Holds E true (store_of ms) (context_types Γ) (Has (ρ i) (sub ρ U))) (sym (fill_join s (Item t End) beyond)) (at i U l)
    where
      at : (i : ℕ) (U : Tree) → Look (T ∷ Δ) i U → Holds E true (store_of ms) (context_types Γ) (Has (then_as t (fill s beyond) i) (sub (then_as t (fill s beyond)) U))
      at i U here = subst (λ V. Holds E true (store_of ms) (context_types Γ) (Has t V)) (sym (tr_ren _ (then_as t (fill s beyond)) suc T)) h
      at i U (there {i = j} {T = V} m) = subst (λ W. Holds E true (store_of ms) (context_types Γ) (Has (fill s beyond j) W)) (sym (tr_ren _ (then_as t (fill s beyond)) suc V)) (f j V m)

  -- a judgement over the empty store, in a context that the terms fit
  pub filled : (ms : Metas) (Γ : List Hypothesis) (s : Trees) (Δ : List Tree) (t T : Tree) → SoundStore E (store_of ms) → Holds E true (store_of ms) (context_types Γ) IsContext → FitsIn ms Γ s Δ
      → Holds E true no_store Δ (Has t T) → Holds E true (store_of ms) (context_types Γ) (Has (under s t) (under s T))
  filled ms Γ s Δ t T z c f h = substitution E true (closed E env) (store_of ms) Δ (context_types Γ) (fill s beyond) (Has t T) z.owned c f (from_none (store_of ms) Δ (Has t T) h)

  -- from a store on, after earlier terms for Δ, these variables are declared as the further terms
  pub record Declares (ms : Metas) (Γ : List Hypothesis) (s : Trees) (Δ : List Tree) (xs : List Hypothesis) (ms' : Metas) (us : Trees) : Type 0 where
    pub sound : SoundStore E (store_of ms')
    pub extends : Extends (store_of ms) (store_of ms')
    pub more : Trees
    pub all : us ≡ join s more
    pub counted : count more ≡ length xs
    pub fits : (k : ℕ) → FitsIn ms' Γ (join s (first_terms k more)) (types_onto (first_hypotheses k xs) Δ)
    pub stands : (t : Tree) → In t more → Holds E true (store_of ms') (context_types Γ) (Stands t)

  -- one variable
  module _ (Γ : List Hypothesis) (ms : Metas) (s : Trees) (Δ : List Tree) (T : Tree) (z : SoundStore E (store_of ms)) (f : FitsIn ms Γ s Δ) (ty : Holds E true (store_of ms) (context_types Γ) (IsType (under s T))) where
    abbrev ms1 : Metas
    ms1 = (placeholder ms Γ (under s T)).store

    abbrev m : Tree
    m = (placeholder ms Γ (under s T)).term

    abbrev s1 : Trees
    s1 = join s (Item m End)

    x1 : Extends (store_of ms) (store_of ms1)
    x1 = placeholder_extends E env ms Γ (under s T) z ty

    z1 : SoundStore E (store_of ms1)
    z1 = placeholder_sound E env ms Γ (under s T) z ty

    h : Holds E true (store_of ms1) (context_types Γ) (Has m (under s T))
    h = placeholder_has E env ms Γ (under s T) z ty

    fits_one : FitsIn ms1 Γ s1 (T ∷ Δ)
    fits_one = next_fits ms1 Γ s Δ m T (fits_moved ms ms1 z x1 Γ s Δ f) h

    -- and the later ones
    and_more : (x : Hypothesis) (xs : List Hypothesis) → x.ty ≡ T → (ms2 : Metas) (us : Trees) → Declares ms1 Γ s1 (T ∷ Δ) xs ms2 us → Declares ms Γ s Δ (x ∷ xs) ms2 us
    and_more x xs e ms2 us r = record {
      sound = r.sound;
      extends = x2;
      more = Item m r.more;
      all = r.all ∙ join_join s (Item m End) r.more;
      counted = ap suc r.counted;
      fits = fits;
      stands = stands;
    }
      where
        x2 : Extends (store_of ms) (store_of ms2)
        x2 = extends_twice (store_of ms) (store_of ms1) (store_of ms2) x1 r.extends

        fits : (k : ℕ) → FitsIn ms2 Γ (join s (first_terms k (Item m r.more))) (types_onto (first_hypotheses k (x ∷ xs)) Δ)
        fits zero = subst (λ q. FitsIn ms2 Γ q Δ) (sym (join_end s)) (fits_moved ms ms2 z x2 Γ s Δ f)
        fits (suc k) =
            subst (λ A. FitsIn ms2 Γ (join s (Item m (first_terms k r.more))) (types_onto (first_hypotheses k xs) (A ∷ Δ))) (sym e)
            (subst (λ q. FitsIn ms2 Γ q (types_onto (first_hypotheses k xs) (T ∷ Δ))) (join_join s (Item m End) (first_terms k r.more)) (r.fits k))

        stands : (t : Tree) → In t (Item m r.more) → Holds E true (store_of ms2) (context_types Γ) (Stands t)
        stands t first = moved E env ms1 ms2 z1 r.extends (context_types Γ) (Stands m) (k_stands h)
        stands t (later i) = r.stands t i

  pub declares : (Γ xs : List Hypothesis) (ms : Metas) (s : Trees) (Δ : List Tree) → SoundStore E (store_of ms) → Holds E true (store_of ms) (context_types Γ) IsContext → FitsIn ms Γ s Δ → Inv E true no_store (types_onto xs Δ)
      → Declares ms Γ s Δ xs ((with_variables ms Γ xs s).0) ((with_variables ms Γ xs s).1)
  declares Γ [] ms s Δ z c f v = record {
    sound = z;
    extends = extends_same (store_of ms);
    more = End;
    all = sym (join_end s);
    counted = refl;
    fits = fits;
    stands = λ t i. elim i [ ];
  }
    where
      fits : (k : ℕ) → FitsIn ms Γ (join s (first_terms k End)) (types_onto (first_hypotheses k []) Δ)
      fits zero = subst (λ r. FitsIn ms Γ r Δ) (sym (join_end s)) f
      fits (suc k) = subst (λ r. FitsIn ms Γ r Δ) (sym (join_end s)) f
  declares Γ (x ∷ xs) ms s Δ z c f v =
      let ty : Holds E true (store_of ms) (context_types Γ) (IsType (under s x.ty)) = substitution E true (closed E env) (store_of ms) Δ (context_types Γ) (fill s beyond) (IsType x.ty) z.owned c f (from_none (store_of ms) Δ (IsType x.ty) ((inv_older xs (x.ty ∷ Δ) v).1)) in
      let a : Metas = ms1 Γ ms s Δ x.ty z f ty in
      let b : Trees = s1 Γ ms s Δ x.ty z f ty in
      and_more Γ ms s Δ x.ty z f ty x xs refl _ _
      (declares Γ xs a b (x.ty ∷ Δ) (z1 Γ ms s Δ x.ty z f ty) (moved E env ms a z (x1 Γ ms s Δ x.ty z f ty) (context_types Γ) IsContext c) (fits_one Γ ms s Δ x.ty z f ty) v)
