-- The law of instances for a store whose traced instances are typed.
use Rattle.std.proofs.Common.{Bool, false, true, ◌≡◌, ℕ, suc, List, Option, Some, None, refl, sym, ap, ◌∙◌, subst, ◌≤◌, ◌+◌, ◌≢◌}
use Rattle.mt_calculus_laws.proofs.Steps.{Reduces, done, ClosedEnv}
use Rattle.mt_calculus_laws.proofs.Agree.{tr_agree}
use Rattle.mt_term.proofs.ReachLaws.{weaker, weaker_of}
use Rattle.mt_calculus_laws.proofs.Images.{ContextReduces, context_wider, reduces_wider, decl_agree, is_some_at, some_of, widens_owned, fresh_image, fresh_same, fresh_new, fresh_store_at, fresh_has, more_new, Fr, fr_keeps, fr_widens, fr_over, loose_number, loose_term, Image, Num, Put, Wrap, either_one, act_on, act, decl_tr, Given, number, Over}
use Rattle.mt_calculus_laws.proofs.Follow.{over_tracks}
use Rattle.mt_calculus_laws.proofs.Known.{known}
use Rattle.mt_calculus_laws.proofs.Renames.{keeps_law, larger_store}
use Rattle.mt_calculus_laws.proofs.Exchange.{NotPut, traced_law, either_not, steps_tr, context_tr, context_steps, stands_steps, plain_given}
use Rattle.mt_term.specs.Trees.{Tree, Trees, Var}
use Rattle.mt_term.specs.Substitution.{tr}
use Rattle.mt_term.specs.Declarations.{Environment}
use Rattle.mt_term.specs.Stores.{Declared, Store, Owned}
use Rattle.mt_calculus.specs.Contraction.{ContractsIn}
use Rattle.mt_calculus.specs.Typing.{Judgement, Has, Stands, Widens, Holds, k_terms}
use Rattle.mt_calculus_laws.specs.Laws.{tr_judgement, tr_context}

module _ (E : Environment) (free : Bool) (closed : ClosedEnv E) where
  -- what is carried along: a traced image of the same store, which contracts to the plain one
  pub record Trace (S : Store) (μ : ℕ → Image) (S' : Store) : Type 0 where
    pub own : Owned S'
    pub image : ℕ → Image
    pub over : Over E free true S image S'
    pub whole : (n : ℕ) → NotPut E free closed (image n)
    pub toward : (n : ℕ) (s : Trees) → Reduces E S' (act image n s) (act μ n s)

  -- where further metavariables are dropped
  module _ (S S⁺ : Store) (w : Widens S S⁺) (μ : ℕ → Image) (S' : Store) (o : Over E free false S μ S') (B : ℕ) (big : S'.bound ≤ B) (t : Trace S μ S') where
    abbrev F : Store
    F = Fr E free false S S⁺ w μ S' o B big

    abbrev ν : ℕ → Image
    ν = t.image

    abbrev ν⁺ : ℕ → Image
    ν⁺ = fresh_image S S⁺ ν B

    abbrev μ⁺ : ℕ → Image
    μ⁺ = fresh_image S S⁺ μ B

    keeps : (m : ℕ) (d : Declared) → S'.at m ≡ Some d → F.at m ≡ Some d
    keeps = fr_keeps E free false S S⁺ w μ S' o B big

    larger : (Γ : List Tree) (J : Judgement) → Holds E free S' Γ J → Holds E free F Γ J
    larger Γ J h = larger_store E free closed S' F t.own keeps Γ J h

    o⁺ : Over E free false S⁺ μ⁺ F
    o⁺ = fr_over E free false S S⁺ w μ S' o B big (λ n d u T Γ e g h. larger Γ (Has u T) h)

    toward⁺ : (n : ℕ) (s : Trees) → Reduces E F (act ν⁺ n s) (act μ⁺ n s)
    toward⁺ n s = go (S.at n) (S⁺.at n)
      where
        go : (p q : Option Declared) → Reduces E F (act_on (either_one p q (Num (suc (B + n))) (ν n)) s) (act_on (either_one p q (Num (suc (B + n))) (μ n)) s)
        go None None = reduces_wider E S' F keeps (t.toward n s)
        go None (Some d) = done
        go (Some d) q = reduces_wider E S' F keeps (t.toward n s)

    kept⁺ : (n : ℕ) (s t : Trees) → ContractsIn E F s t → Reduces E F (act μ⁺ n s) (act μ⁺ n t)
    kept⁺ = (over_tracks E free closed false S⁺ μ⁺ F o⁺).terms

    same_image : (n : ℕ) (d : Declared) → S.at n ≡ Some d → ν⁺ n ≡ ν n
    same_image n d e = fresh_same S S⁺ ν B n (e ∙ sym (w.keeps n d e))

    same_act : (n : ℕ) (s : Trees) → S.at n ≢ None → act ν n s ≡ act ν⁺ n s
    same_act n s p = let z = some_of (S.at n) p in ap (λ i. act_on i s) (sym (same_image n z.0 z.1))

    same_decl : (n : ℕ) (d : Declared) → S.at n ≡ Some d → decl_tr (act ν) d ≡ decl_tr (act ν⁺) d
    same_decl n d e = decl_agree (λ m. S.at m ≢ None) (act ν) (act ν⁺) same_act d (o.owned n d e)

    same_body : (n : ℕ) (d : Declared) → S.at n ≡ Some d → (b : Tree) → d.body ≡ Some b → tr (act ν) Var b ≡ tr (act ν⁺) Var b
    same_body n d e b k = let a = o.owned n d e in tr_agree (λ m. S.at m ≢ None) (act ν) (act ν⁺) same_act Var b (a.body b k)

    keeps_in : (m : ℕ) → S'.at m ≢ None → F.at m ≢ None
    keeps_in m p = let z = some_of (S'.at m) p in is_some_at (keeps m z.0 z.1)

    moved : (n : ℕ) (d : Declared) (i : Image) → S.at n ≡ Some d → NotPut E free closed i → Given E free true S' (act ν) d i → Given E free true F (act ν⁺) d i
    moved n d (Num m) e p (number {c = c} h g1 g2 g3) = number (keeps m c h) (g1 ∙ ap (λ (c : Declared). c.context) (same_decl n d e)) (g2 ∙ ap (λ (c : Declared). c.ty) (same_decl n d e)) (λ b k. g3 b k ∙ ap Some (same_body n d e b k))
    moved n d (Put u) e p h = absurd p
    moved n d (Num m) e p (loose_number {c = c} z h g1 g2 g3) = loose_number z (keeps m c h) (subst (λ (c' : Declared). ContextReduces E F c'.context c.context) (same_decl n d e) (context_wider E S' F keeps g1)) (subst (λ (c' : Declared). Reduces E F c'.ty c.ty) (same_decl n d e) (reduces_wider E S' F keeps g2)) g3
    moved n d (Wrap Δ u) e p (loose_term {T = T} z g1 g2 h g3 q a) = loose_term z (subst (λ (c' : Declared). ContextReduces E F c'.context Δ) (same_decl n d e) (context_wider E S' F keeps g1)) (subst (λ (c' : Declared). Reduces E F c'.ty T) (same_decl n d e) (reduces_wider E S' F keeps g2)) (larger Δ (Has u T) h) (λ c k. g3 c k ∙ same_body n d e c k) (weaker_of (λ m. S'.at m ≢ None) (λ m. F.at m ≢ None) keeps_in Δ q) (weaker (λ m. S'.at m ≢ None) (λ m. F.at m ≢ None) keeps_in u a)

    over⁺ : Over E free true S⁺ ν⁺ F
    over⁺ = record { owned = o⁺.owned; images = images }
      where
        images : (n : ℕ) (d : Declared) → S⁺.at n ≡ Some d → Given E free true F (act ν⁺) d (ν⁺ n)
        images n d e = go (S.at n) refl
          where
            go : (p : Option Declared) → S.at n ≡ p → Given E free true F (act ν⁺) d (ν⁺ n)
            go (Some c) g =
                let k : S.at n ≡ Some d = g ∙ sym (w.keeps n c g) ∙ e in
                subst (λ i. Given E free true F (act ν⁺) d i) (sym (same_image n d k)) (moved n d (ν n) k (t.whole n) (t.over.images n d k))
            go None g =
                subst (λ i. Given E free true F (act ν⁺) d i) (sym (fresh_new S S⁺ ν B n d g e))
                (loose_number {c = decl_tr (act μ⁺) d} refl (fresh_store_at S S⁺ μ B S' big (suc (B + n)) ∙ fresh_has S S⁺ μ B S' big n d (more_new S S⁺ μ B n d g e)) (context_tr E free closed F (act ν⁺) (act μ⁺) toward⁺ kept⁺ (d.context)) (steps_tr E free closed F (act ν⁺) (act μ⁺) toward⁺ kept⁺ Var (d.ty)) (w.opens n d g e))

    trace⁺ : Trace S⁺ μ⁺ F
    trace⁺ = record { own = widens_owned S' F (fr_widens E free false S S⁺ w μ S' o B big) t.own; image = ν⁺; over = over⁺; whole = λ n. either_not E free closed (S.at n) (S⁺.at n) (suc (B + n)) (ν n) (t.whole n); toward = toward⁺ }

  -- what stands under the traced image stands under the plain one
  plain_stands : (S : Store) (μ : ℕ → Image) (S' : Store) → Over E free false S μ S' → Trace S μ S' → (Γ : List Tree) (u : Tree) → Holds E free S Γ (Stands u) → Holds E free S' (tr_context (act μ) Γ) (Stands (tr (act μ) Var u))
  plain_stands S μ S' o t Γ u h =
      let ν : ℕ → Image = t.image in
      let kept = (over_tracks E free closed false S μ S' o).terms in
      let r : Holds E free S' (tr_context (act ν) Γ) (Stands (tr (act ν) Var u)) = traced_law E free closed S ν S' t.over (t.own, t.whole) Γ (Stands u) h in
      let c = context_steps E free closed S' t.own (context_tr E free closed S' (act ν) (act μ) t.toward kept Γ) (known E free r).1 in
      stands_steps E free closed (steps_tr E free closed S' (act ν) (act μ) t.toward kept Var u) (c.1 (Stands (tr (act ν) Var u)) r)

  -- Exchange from a store with bodies. Over .. false ..: each metavariable is given a number or a typed term, the image of its body (sound by instances).
  -- Trace: the traced images are typed too.
  pub exchange_traced : (S : Store) (μ : ℕ → Image) (S' : Store) → Over E free false S μ S' → Trace S μ S' → (Γ : List Tree) (J : Judgement) → Holds E free S Γ J → Holds E free S' (tr_context (act μ) Γ) (tr_judgement (act μ) Var J)
  exchange_traced S μ S' over t Γ J d = keeps_law E free closed false Trace
      (λ S S⁺ w μ S' o B big x. trace⁺ S S⁺ w μ S' o B big x)
      (λ S S⁺ w μ S' o B big x n d u T Γ e g h. larger_store E free closed S' (Fr E free false S S⁺ w μ S' o B big) x.own (fr_keeps E free false S S⁺ w μ S' o B big) Γ (Has u T) h)
      (λ S μ S' x n d e i g h. plain_given E free closed S μ S' x.own d i h)
      (λ S μ S' o x Γ n s t d h i. plain_stands S μ S' o x Γ t (k_terms d i))
      S μ S' over t Γ J d
