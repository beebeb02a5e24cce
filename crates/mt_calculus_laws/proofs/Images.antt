-- A store under an image: what each metavariable is given, and further metavariables under fresh numbers.
use Rattle.std.proofs.Common.{Bool, true, ◌≡◌, ℕ, zero, suc, List, [], ◌∷◌, Option, Some, None, refl, sym, ap, ap₂, ◌∙◌, subst, ◌≤◌, ◌+◌, ◌-◌, ◌≢◌, max, arith}
use Rattle.mt_term.proofs.Subst.{count_tr, up_shift, tr_filled, Steady, meta_steady, tr_under, sub_id}
use Rattle.mt_calculus_laws.proofs.Steps.{Reduces, done, more}
use Rattle.mt_calculus_laws.proofs.Agree.{ren_metas, tr_agree, context_agree, tr_metas, context_metas, weaker_judgement}
use Rattle.mt_term.proofs.ReachLaws.{weaker, weaker_of}
use Rattle.mt_term.specs.Trees.{Tree, Trees, Arms, Var, Sort, Prod, Lam, App, Const, Ind, Con, Match, Meta, End, Item, NoArm, Arm}
use Rattle.mt_term.specs.declared.universes.Sort.TheVariants.{Prop}
use Rattle.mt_term.specs.Substitution.{ren, then_as, tr, tr_all, sub, fill, beyond, under, count}
use Rattle.mt_term.specs.Declarations.{Environment}
use Rattle.mt_term.specs.Stores.{Declared, Store, AllMetas, AllMetasIn, AllMetasArms, AllMetasOf, AllMetasHeld, InStore, Owned}
use Rattle.mt_calculus.specs.Contraction.{Contracts, beta, delta, assigned, iota, unfold_rec, unfold_co, in_dom, in_cod, in_type, in_body, in_fun, in_arg, in_return, in_matched, in_arms, in_terms, ContractsIn, in_first, in_rest, ContractsArms, in_arm, in_later}
use Rattle.mt_calculus.specs.Typing.{Judgement, IsContext, IsType, Has, Stands, Fitting, Body, JudgementMetas, Widens, Holds, k_metas}
use Rattle.mt_calculus_laws.specs.Laws.{tr_context}
use Rattle.mt_term.proofs.Options.{some_inj, none_some}

-- what a metavariable is given
pub data Image : Type 0 where
  Num : ℕ → Image
  Put : Tree → Image
  -- the same, with a trace of the terms and their types; a context, and the term in it
  Wrap : List Tree → Tree → Image

abbrev pub ty_at : List Tree → ℕ → Tree
ty_at [] k = Sort Prop
ty_at (A ∷ Γ) zero = ren suc A
ty_at (A ∷ Γ) (suc k) = ren suc (ty_at Γ k)

-- r, behind an abstraction over each term of s that it does not use
abbrev pub lets : ℕ → Trees → List Tree → Tree → Tree
lets zero s Γ r = r
lets (suc k) s Γ r = App (Lam [] (under s (ty_at Γ k)) (ren suc (lets k s Γ r))) (fill s beyond k)

abbrev pub act_on : Image → Trees → Tree
act_on (Num m) s = Meta m s
act_on (Put u) s = under s u
act_on (Wrap Γ u) s = lets (count s) s Γ (under s u)

abbrev pub IsTerm : Image → Type 0
IsTerm (Num m) = ⊥
IsTerm (Put u) = Unit {0}
IsTerm (Wrap Γ u) = Unit {0}

sub_under : (τ : ℕ → Tree) (s : Trees) (t : Tree) → sub τ (under s t) ≡ under (tr_all Meta τ s) t
sub_under τ s t = tr_under Meta meta_steady τ s t ∙ ap (under (tr_all Meta τ s)) (sub_id t)

lets_sub : (τ : ℕ → Tree) (k : ℕ) (s : Trees) (Γ : List Tree) (r : Tree) → sub τ (lets k s Γ r) ≡ lets k (tr_all Meta τ s) Γ (sub τ r)
lets_sub τ zero s Γ r = refl
lets_sub τ (suc k) s Γ r = ap₂ App (ap₂ (Lam []) (sub_under τ s (ty_at Γ k)) (up_shift τ (lets k s Γ r) ∙ ap (ren suc) (lets_sub τ k s Γ r))) (ap (λ (σ : ℕ → Tree). σ k) (tr_filled Meta τ s))

abbrev pub act : (ℕ → Image) → ℕ → Trees → Tree
act μ n s = act_on (μ n) s

pub act_steady : (μ : ℕ → Image) → Steady (act μ)
act_steady μ τ n s = go (μ n)
  where
    go : (i : Image) → sub τ (act_on i s) ≡ act_on i (tr_all Meta τ s)
    go (Num m) = refl
    go (Put u) = sub_under τ s u
    go (Wrap Γ u) = lets_sub τ (count s) s Γ (under s u) ∙ ap₂ (λ k r. lets k (tr_all Meta τ s) Γ r) (sym (count_tr Meta τ s)) (sub_under τ s u)

abbrev pub body_tr : (ℕ → Trees → Tree) → Option Tree → Option Tree
body_tr f None = None
body_tr f (Some b) = Some (tr f Var b)

abbrev pub decl_tr : (ℕ → Trees → Tree) → Declared → Declared
decl_tr f d = record { context = tr_context f (d.context); ty = tr f Var (d.ty); body = body_tr f (d.body) }

pub data ContextReduces (E : Environment) (S : Store) : List Tree → List Tree → Type 0 where
  nil : ContextReduces E S [] []
  cons : {Γ Δ : List Tree} {A B : Tree} → ContextReduces E S Γ Δ → Reduces E S A B → ContextReduces E S (A ∷ Γ) (B ∷ Δ)

-- l: images up to contraction are allowed
pub data Given (E : Environment) (free : Bool) (l : Bool) (S : Store) (f : ℕ → Trees → Tree) (d : Declared) : Image → Type 0 where
  number : {m : ℕ} {c : Declared} → S.at m ≡ Some c → c.context ≡ tr_context f (d.context) → c.ty ≡ tr f Var (d.ty) → ((b : Tree) → d.body ≡ Some b → c.body ≡ Some (tr f Var b)) → Given E free l S f d (Num m)
  term : {u : Tree} → Holds E free S (tr_context f (d.context)) (Has u (tr f Var (d.ty))) → ((b : Tree) → d.body ≡ Some b → u ≡ tr f Var b) → AllMetas (InStore S) u → Given E free l S f d (Put u)
  loose_number : {m : ℕ} {c : Declared} → l ≡ true → S.at m ≡ Some c → ContextReduces E S (tr_context f (d.context)) (c.context) → Reduces E S (tr f Var (d.ty)) (c.ty) → d.body ≡ None → Given E free l S f d (Num m)
  loose_term : {Δ : List Tree} {u T : Tree} → l ≡ true → ContextReduces E S (tr_context f (d.context)) Δ → Reduces E S (tr f Var (d.ty)) T → Holds E free S Δ (Has u T) → ((b : Tree) → d.body ≡ Some b → u ≡ tr f Var b) → AllMetasOf (InStore S) Δ → AllMetas (InStore S) u → Given E free l S f d (Wrap Δ u)

-- each metavariable of the first store is given a number, under which the second has its image, or a term of its type
pub record Over (E : Environment) (free : Bool) (l : Bool) (S : Store) (μ : ℕ → Image) (S' : Store) : Type 0 where
  pub owned : Owned S
  pub images : (n : ℕ) (d : Declared) → S.at n ≡ Some d → Given E free l S' (act μ) d (μ n)

-- contraction in a larger store
mutual
  pub contracts_wider : (E : Environment) (S S' : Store) → ((n : ℕ) (d : Declared) → S.at n ≡ Some d → S'.at n ≡ Some d) → {t u : Tree} → Contracts E S t u → Contracts E S' t u
  contracts_wider E S S' h beta = beta
  contracts_wider E S S' h (delta e) = delta e
  contracts_wider E S S' h (assigned {n = n} {d = d} e g) = assigned (h n d e) g
  contracts_wider E S S' h (in_dom c) = in_dom (contracts_wider E S S' h c)
  contracts_wider E S S' h (in_cod c) = in_cod (contracts_wider E S S' h c)
  contracts_wider E S S' h (in_type c) = in_type (contracts_wider E S S' h c)
  contracts_wider E S S' h (in_body c) = in_body (contracts_wider E S S' h c)
  contracts_wider E S S' h (in_fun c) = in_fun (contracts_wider E S S' h c)
  contracts_wider E S S' h (in_arg c) = in_arg (contracts_wider E S S' h c)
  contracts_wider E S S' h (iota s o n a l) = iota s o n a l
  contracts_wider E S S' h (unfold_rec c us e i o n) = unfold_rec c us e i o n
  contracts_wider E S S' h (unfold_co c s e) = unfold_co c s e
  contracts_wider E S S' h (in_return c) = in_return (contracts_wider E S S' h c)
  contracts_wider E S S' h (in_matched c) = in_matched (contracts_wider E S S' h c)
  contracts_wider E S S' h (in_arms c) = in_arms (contracts_wider_arms E S S' h c)
  contracts_wider E S S' h (in_terms c) = in_terms (contracts_wider_all E S S' h c)

  pub contracts_wider_all : (E : Environment) (S S' : Store) → ((n : ℕ) (d : Declared) → S.at n ≡ Some d → S'.at n ≡ Some d) → {t u : Trees} → ContractsIn E S t u → ContractsIn E S' t u
  contracts_wider_all E S S' h (in_first c) = in_first (contracts_wider E S S' h c)
  contracts_wider_all E S S' h (in_rest c) = in_rest (contracts_wider_all E S S' h c)

  pub contracts_wider_arms : (E : Environment) (S S' : Store) → ((n : ℕ) (d : Declared) → S.at n ≡ Some d → S'.at n ≡ Some d) → {t u : Arms} → ContractsArms E S t u → ContractsArms E S' t u
  contracts_wider_arms E S S' h (in_arm c) = in_arm (contracts_wider E S S' h c)
  contracts_wider_arms E S S' h (in_later c) = in_later (contracts_wider_arms E S S' h c)

pub reduces_wider : (E : Environment) (S S' : Store) → ((n : ℕ) (d : Declared) → S.at n ≡ Some d → S'.at n ≡ Some d) → {t u : Tree} → Reduces E S t u → Reduces E S' t u
reduces_wider E S S' h done = done
reduces_wider E S S' h (more c r) = more (contracts_wider E S S' h c) (reduces_wider E S S' h r)

pub context_wider : (E : Environment) (S S' : Store) → ((n : ℕ) (d : Declared) → S.at n ≡ Some d → S'.at n ≡ Some d) → {Γ Δ : List Tree} → ContextReduces E S Γ Δ → ContextReduces E S' Γ Δ
context_wider E S S' h nil = nil
context_wider E S S' h (cons c r) = cons (context_wider E S S' h c) (reduces_wider E S S' h r)

-- declarations on which two transformations agree
body_agree : (P : ℕ → Type 0) (f g : ℕ → Trees → Tree) → ((n : ℕ) (s : Trees) → P n → f n s ≡ g n s) → (o : Option Tree) → ((b : Tree) → o ≡ Some b → AllMetas P b) → body_tr f o ≡ body_tr g o
body_agree P f g h None a = refl
body_agree P f g h (Some b) a = ap Some (tr_agree P f g h Var b (a b refl))

pub decl_agree : (P : ℕ → Type 0) (f g : ℕ → Trees → Tree) → ((n : ℕ) (s : Trees) → P n → f n s ≡ g n s) → (d : Declared) → AllMetasHeld P d → decl_tr f d ≡ decl_tr g d
decl_agree P f g h d a = λ i. record { context = context_agree P f g h (d.context) a.context i; ty = tr_agree P f g h Var (d.ty) a.ty i; body = body_agree P f g h (d.body) a.body i }

-- further metavariables under fresh numbers
abbrev pub either_one : {A : Type 0} → Option Declared → Option Declared → A → A → A
either_one None (Some d) x y = x
either_one None None x y = y
either_one (Some c) o x y = y

abbrev pub further : Option Declared → Option Declared → Option Declared
further None o = o
further (Some c) o = None

abbrev pub pick : Option Declared → Option Declared → Option Declared
pick (Some d) o = Some d
pick None o = o

abbrev pub image_of : (ℕ → Trees → Tree) → Option Declared → Option Declared
image_of f None = None
image_of f (Some d) = Some (decl_tr f d)

abbrev pub shifted : (ℕ → Option Declared) → ℕ → Option Declared
shifted g zero = None
shifted g (suc n) = g n

pick_none : (o : Option Declared) → pick o None ≡ o
pick_none None = refl
pick_none (Some d) = refl

module _ (S S⁺ : Store) (μ : ℕ → Image) (B : ℕ) where
  -- the image for the larger store
  abbrev pub fresh_image : ℕ → Image
  fresh_image n = either_one (S.at n) (S⁺.at n) (Num (suc (B + n))) (μ n)

  abbrev pub more_at : ℕ → Option Declared
  more_at n = further (S.at n) (S⁺.at n)

  same_image : (o p : Option Declared) (x y : Image) → o ≡ p → either_one o p x y ≡ y
  same_image None None x y e = refl
  same_image None (Some d) x y e = absurd (none_some e)
  same_image (Some d) p x y e = refl

  pub fresh_same : (n : ℕ) → S.at n ≡ S⁺.at n → fresh_image n ≡ μ n
  fresh_same n e = same_image (S.at n) (S⁺.at n) (Num (suc (B + n))) (μ n) e

  pub fresh_new : (n : ℕ) (d : Declared) → S.at n ≡ None → S⁺.at n ≡ Some d → fresh_image n ≡ Num (suc (B + n))
  fresh_new n d e g = ap₂ (λ o p. either_one o p (Num (suc (B + n))) (μ n)) e g

  pub more_new : (n : ℕ) (d : Declared) → S.at n ≡ None → S⁺.at n ≡ Some d → more_at n ≡ Some d
  more_new n d e g = ap₂ further e g

  more_inv : (o p : Option Declared) (d : Declared) → further o p ≡ Some d → (o ≡ None) × (p ≡ Some d)
  more_inv None p d e = (refl, e)
  more_inv (Some c) p d e = absurd (none_some e)

  pub more_is : (n : ℕ) (d : Declared) → more_at n ≡ Some d → (S.at n ≡ None) × (S⁺.at n ≡ Some d)
  more_is n d e = more_inv (S.at n) (S⁺.at n) d e

  module _ (S' : Store) (big : S'.bound ≤ B) where
    abbrev pub fresh_at : ℕ → Option Declared
    fresh_at m = pick (S'.at m) (image_of (act fresh_image) (shifted more_at (m - B)))

    more_past : (n : ℕ) → S⁺.bound ≤ n → more_at n ≡ None
    more_past n h = go (S.at n)
      where
        go : (o : Option Declared) → further o (S⁺.at n) ≡ None
        go None = S⁺.none n h
        go (Some d) = refl

    fresh_none : (m : ℕ) → B + suc S⁺.bound ≤ m → fresh_at m ≡ None
    fresh_none m h =
        let k : ℕ = (m - B) - 1 in
        let e : m - B ≡ suc k = omega arith in
        let g : S⁺.bound ≤ k = omega arith in
        let low : S'.bound ≤ m = omega arith in
        ap₂ (λ o j. pick o (image_of (act fresh_image) (shifted more_at j))) (S'.none m low) e ∙ ap (image_of (act fresh_image)) (more_past k g)

    pub fresh_store : Store
    fresh_store = record { at = fresh_at; bound = B + suc S⁺.bound; none = fresh_none }

    pub fresh_store_at : (m : ℕ) → fresh_store.at m ≡ fresh_at m
    unfolding fresh_store
    fresh_store_at m = refl

    pub fresh_low : (m : ℕ) → m ≤ B → S'.at m ≡ fresh_at m
    fresh_low m h = let e : m - B ≡ 0 = omega arith in sym (ap (λ j. pick (S'.at m) (image_of (act fresh_image) (shifted more_at j))) e ∙ pick_none (S'.at m))

    pub fresh_keeps : (m : ℕ) (d : Declared) → S'.at m ≡ Some d → fresh_at m ≡ Some d
    fresh_keeps m d e = ap (λ o. pick o (image_of (act fresh_image) (shifted more_at (m - B)))) e

    pub fresh_has : (n : ℕ) (d : Declared) → more_at n ≡ Some d → fresh_at (suc (B + n)) ≡ Some (decl_tr (act fresh_image) d)
    fresh_has n d e =
        let k : suc (B + n) - B ≡ suc n = omega arith in
        let low : S'.bound ≤ suc (B + n) = omega arith in
        ap₂ (λ o j. pick o (image_of (act fresh_image) (shifted more_at j))) (S'.none (suc (B + n)) low) k ∙ ap (image_of (act fresh_image)) e

    image_inv : (o : Option Declared) (d : Declared) → image_of (act fresh_image) o ≡ Some d → (c : Declared) × (o ≡ Some c) × (d ≡ decl_tr (act fresh_image) c)
    image_inv None d e = absurd (none_some e)
    image_inv (Some c) d e = (c, refl, sym (some_inj e))

    shifted_inv : (j : ℕ) (d : Declared) → image_of (act fresh_image) (shifted more_at j) ≡ Some d → (n : ℕ) × (c : Declared) × (more_at n ≡ Some c) × (d ≡ decl_tr (act fresh_image) c)
    shifted_inv zero d e = absurd (none_some e)
    shifted_inv (suc n) d e = let r = image_inv (more_at n) d e in (n, r.0, r.1, r.2)

    pub fresh_inv : (m : ℕ) (d : Declared) → S'.at m ≡ None → fresh_at m ≡ Some d → (n : ℕ) × (c : Declared) × (more_at n ≡ Some c) × (d ≡ decl_tr (act fresh_image) c)
    fresh_inv m d e g = shifted_inv (m - B) d (sym (ap (λ o. pick o (image_of (act fresh_image) (shifted more_at (m - B)))) e) ∙ g)

pub some_of : (o : Option Declared) → o ≢ None → (d : Declared) × (o ≡ Some d)
some_of None h = absurd (h refl)
some_of (Some d) h = (d, refl)

pub is_some_at : {o : Option Declared} {d : Declared} → o ≡ Some d → o ≢ None
is_some_at e h = none_some (sym h ∙ e)

fill_metas : (Q : ℕ → Type 0) (s : Trees) (σ : ℕ → Tree) → AllMetasIn Q s → ((i : ℕ) → AllMetas Q (σ i)) → (i : ℕ) → AllMetas Q (fill s σ i)
fill_metas Q End σ a q i = q i
fill_metas Q (Item t s) σ a q i = fill_metas Q s (then_as t σ) a.1 go i
  where
    go : (i : ℕ) → AllMetas Q (then_as t σ i)
    go zero = a.0
    go (suc i) = q i

pub under_metas : (Q : ℕ → Type 0) (s : Trees) (u : Tree) → AllMetasIn Q s → AllMetas Q u → AllMetas Q (under s u)
under_metas Q s u a b = tr_metas Q Q Meta (λ n t p q. (p, q)) (fill s beyond) (fill_metas Q s beyond a (λ i. tt)) u b

-- a larger store with its further ones mentions its own metavariables alone
grown : (S S⁺ : Store) → Widens S S⁺ → (d : Declared) → AllMetasHeld (λ m. S.at m ≢ None) d → AllMetasHeld (λ m. S⁺.at m ≢ None) d
grown S S⁺ w d a = record { context = weaker_of (λ m. S.at m ≢ None) (λ m. S⁺.at m ≢ None) in_more d.context a.context; ty = weaker (λ m. S.at m ≢ None) (λ m. S⁺.at m ≢ None) in_more d.ty a.ty; body = λ b e. weaker (λ m. S.at m ≢ None) (λ m. S⁺.at m ≢ None) in_more b (a.body b e) }
  where
    in_more : (m : ℕ) → S.at m ≢ None → S⁺.at m ≢ None
    in_more m p = let r = some_of (S.at m) p in is_some_at (w.keeps m r.0 r.1)

pub widens_owned : (S S⁺ : Store) → Widens S S⁺ → Owned S → Owned S⁺
widens_owned S S⁺ w own n d e = go (S.at n) refl
  where
    go : (o : Option Declared) → S.at n ≡ o → AllMetasHeld (λ m. S⁺.at m ≢ None) d
    go None g = let r = w.owns n d g e in record { context = r.0; ty = r.1; body = λ b h. absurd (none_some (sym (w.opens n d g e) ∙ h)) }
    go (Some c) g = grown S S⁺ w d (own n d (g ∙ sym (w.keeps n c g) ∙ e))

pub lets_metas : (Q : ℕ → Type 0) (k : ℕ) (s : Trees) (Γ : List Tree) (r : Tree) → AllMetasIn Q s → AllMetasOf Q Γ → AllMetas Q r → AllMetas Q (lets k s Γ r)
lets_metas Q zero s Γ r a g b = b
lets_metas Q (suc k) s Γ r a g b = ((under_metas Q s (ty_at Γ k) a (ty_metas Γ k g), ren_metas Q suc (lets k s Γ r) (lets_metas Q k s Γ r a g b)), fill_metas Q s beyond a (λ i. tt) k)
  where
    ty_metas : (Γ : List Tree) (k : ℕ) → AllMetasOf Q Γ → AllMetas Q (ty_at Γ k)
    ty_metas [] k g = tt
    ty_metas (A ∷ Γ) zero g = ren_metas Q suc A g.0
    ty_metas (A ∷ Γ) (suc k) g = ren_metas Q suc (ty_at Γ k) (ty_metas Γ k g.1)

module _ (E : Environment) (free : Bool) (l : Bool) (S S⁺ : Store) (w : Widens S S⁺) (μ : ℕ → Image) (S' : Store) (over : Over E free l S μ S') (B : ℕ) (big : S'.bound ≤ B) where
  abbrev pub Φ : ℕ → Image
  Φ = fresh_image S S⁺ μ B

  abbrev pub Fr : Store
  Fr = fresh_store S S⁺ μ B S' big

  fr_at : (m : ℕ) → Fr.at m ≡ fresh_at S S⁺ μ B S' big m
  fr_at m = fresh_store_at S S⁺ μ B S' big m

  pub fr_keeps : (m : ℕ) (d : Declared) → S'.at m ≡ Some d → Fr.at m ≡ Some d
  fr_keeps m d e = fr_at m ∙ fresh_keeps S S⁺ μ B S' big m d e

  pub fr_low : (m : ℕ) → m ≤ B → S'.at m ≡ Fr.at m
  fr_low m h = fresh_low S S⁺ μ B S' big m h ∙ sym (fr_at m)

  -- in the old store the images are as before
  pub old_image : (n : ℕ) (d : Declared) → S.at n ≡ Some d → Φ n ≡ μ n
  old_image n d e = fresh_same S S⁺ μ B n (e ∙ sym (w.keeps n d e))

  old_act : (n : ℕ) (s : Trees) → S.at n ≢ None → act μ n s ≡ act Φ n s
  old_act n s p = let r = some_of (S.at n) p in ap (λ i. act_on i s) (sym (old_image n r.0 r.1))

  keeps_in : (m : ℕ) → S'.at m ≢ None → Fr.at m ≢ None
  keeps_in m p = let r = some_of (S'.at m) p in is_some_at (fr_keeps m r.0 r.1)

  given_metas : (n : ℕ) (d : Declared) (i : Image) → Given E free l S' (act μ) d i → (s : Trees) → AllMetasIn (λ m. Fr.at m ≢ None) s → AllMetas (λ m. Fr.at m ≢ None) (act_on i s)
  given_metas n d (Num m) (number {c = c} e g1 g2 g3) s q = (is_some_at (fr_keeps m c e), q)
  given_metas n d (Num m) (loose_number {c = c} z e g1 g2 g3) s q = (is_some_at (fr_keeps m c e), q)
  given_metas n d (Wrap Δ u) (loose_term z g1 g2 h g3 p a) s q = lets_metas (λ m. Fr.at m ≢ None) (count s) s Δ (under s u) q (weaker_of (λ m. S'.at m ≢ None) (λ m. Fr.at m ≢ None) keeps_in Δ p) (under_metas (λ m. Fr.at m ≢ None) s u q (weaker (λ m. S'.at m ≢ None) (λ m. Fr.at m ≢ None) keeps_in u a))
  given_metas n d (Put u) (term h b a) s q = under_metas (λ m. Fr.at m ≢ None) s u q (weaker (λ m. S'.at m ≢ None) (λ m. Fr.at m ≢ None) keeps_in u a)

  image_metas : (n : ℕ) (s : Trees) → S⁺.at n ≢ None → AllMetasIn (λ m. Fr.at m ≢ None) s → AllMetas (λ m. Fr.at m ≢ None) (act Φ n s)
  image_metas n s p q = go (S.at n) refl
    where
      go : (o : Option Declared) → S.at n ≡ o → AllMetas (λ m. Fr.at m ≢ None) (act Φ n s)
      go None e =
          let r = some_of (S⁺.at n) p in
          let h = fr_at (suc (B + n)) ∙ fresh_has S S⁺ μ B S' big n r.0 (more_new S S⁺ μ B n r.0 e r.1) in
          subst (λ i. AllMetas (λ m. Fr.at m ≢ None) (act_on i s)) (sym (fresh_new S S⁺ μ B n r.0 e r.1)) (is_some_at h, q)
      go (Some d) e = subst (λ i. AllMetas (λ m. Fr.at m ≢ None) (act_on i s)) (sym (old_image n d e)) (given_metas n d (μ n) (over.images n d e) s q)

  pub fr_widens : Widens S' Fr
  fr_widens = record { keeps = fr_keeps; opens = opens; owns = owns }
    where
      opens : (m : ℕ) (d : Declared) → S'.at m ≡ None → Fr.at m ≡ Some d → d.body ≡ None
      opens m d e g =
          let r = fresh_inv S S⁺ μ B S' big m d e (sym (fr_at m) ∙ g) in
          let p = more_is S S⁺ μ B r.0 r.1 r.2 in
          ap (λ (c : Declared). c.body) r.3 ∙ ap (body_tr (act Φ)) (w.opens r.0 r.1 p.0 p.1)

      owns : (m : ℕ) (d : Declared) → S'.at m ≡ None → Fr.at m ≡ Some d → AllMetasOf (λ m. Fr.at m ≢ None) d.context × AllMetas (λ m. Fr.at m ≢ None) d.ty
      owns m d e g =
          let r = fresh_inv S S⁺ μ B S' big m d e (sym (fr_at m) ∙ g) in
          let p = more_is S S⁺ μ B r.0 r.1 r.2 in
          let o = w.owns r.0 r.1 p.0 p.1 in
          subst (λ (c : Declared). AllMetasOf (λ m. Fr.at m ≢ None) c.context × AllMetas (λ m. Fr.at m ≢ None) c.ty) (sym r.3)
          (context_metas (λ m. S⁺.at m ≢ None) (λ m. Fr.at m ≢ None) (act Φ) image_metas r.1.context o.0, tr_metas (λ m. S⁺.at m ≢ None) (λ m. Fr.at m ≢ None) (act Φ) image_metas Var (λ i. tt) r.1.ty o.1)

  -- the terms given go over to the larger store
  abbrev pub Larger : Type 0
  Larger = (n : ℕ) (d : Declared) (u T : Tree) (Γ : List Tree) → S.at n ≡ Some d → IsTerm (μ n) → Holds E free S' Γ (Has u T) → Holds E free Fr Γ (Has u T)

  pub fr_over : Larger → Over E free l S⁺ Φ Fr
  fr_over larger = record { owned = widens_owned S S⁺ w over.owned; images = images }
    where
      same_decl : (n : ℕ) (d : Declared) → S.at n ≡ Some d → decl_tr (act μ) d ≡ decl_tr (act Φ) d
      same_decl n d e = decl_agree (λ m. S.at m ≢ None) (act μ) (act Φ) old_act d (over.owned n d e)

      same_body : (n : ℕ) (d : Declared) → S.at n ≡ Some d → (b : Tree) → d.body ≡ Some b → tr (act μ) Var b ≡ tr (act Φ) Var b
      same_body n d e b k = let o = over.owned n d e in tr_agree (λ m. S.at m ≢ None) (act μ) (act Φ) old_act Var b (o.body b k)

      moved : (n : ℕ) (d : Declared) (i : Image) → S.at n ≡ Some d → μ n ≡ i → Given E free l S' (act μ) d i → Given E free l Fr (act Φ) d i
      moved n d (Num m) e g (number {c = c} h g1 g2 g3) = number (fr_keeps m c h) (g1 ∙ ap (λ (c : Declared). c.context) (same_decl n d e)) (g2 ∙ ap (λ (c : Declared). c.ty) (same_decl n d e)) (λ b k. g3 b k ∙ ap Some (same_body n d e b k))
      moved n d (Put u) e g (term h b a) =
          term (subst (λ (c : Declared). Holds E free Fr c.context (Has u c.ty)) (same_decl n d e) (larger n d u _ _ e (subst IsTerm (sym g) tt) h)) (λ c k. b c k ∙ same_body n d e c k) (weaker (λ m. S'.at m ≢ None) (λ m. Fr.at m ≢ None) keeps_in u a)
      moved n d (Num m) e g (loose_number {c = c} z h g1 g2 g3) = loose_number z (fr_keeps m c h) (subst (λ (c' : Declared). ContextReduces E Fr c'.context c.context) (same_decl n d e) (context_wider E S' Fr fr_keeps g1)) (subst (λ (c' : Declared). Reduces E Fr c'.ty c.ty) (same_decl n d e) (reduces_wider E S' Fr fr_keeps g2)) g3
      moved n d (Wrap Δ u) e g (loose_term {T = T} z g1 g2 h g3 p a) = loose_term z (subst (λ (c' : Declared). ContextReduces E Fr c'.context Δ) (same_decl n d e) (context_wider E S' Fr fr_keeps g1)) (subst (λ (c' : Declared). Reduces E Fr c'.ty T) (same_decl n d e) (reduces_wider E S' Fr fr_keeps g2)) (larger n d u T Δ e (subst IsTerm (sym g) tt) h) (λ c k. g3 c k ∙ same_body n d e c k) (weaker_of (λ m. S'.at m ≢ None) (λ m. Fr.at m ≢ None) keeps_in Δ p) (weaker (λ m. S'.at m ≢ None) (λ m. Fr.at m ≢ None) keeps_in u a)

      images : (n : ℕ) (d : Declared) → S⁺.at n ≡ Some d → Given E free l Fr (act Φ) d (Φ n)
      images n d e = go (S.at n) refl
        where
          go : (o : Option Declared) → S.at n ≡ o → Given E free l Fr (act Φ) d (Φ n)
          go None g = subst (λ i. Given E free l Fr (act Φ) d i) (sym (fresh_new S S⁺ μ B n d g e)) (number (fr_at (suc (B + n)) ∙ fresh_has S S⁺ μ B S' big n d (more_new S S⁺ μ B n d g e)) refl refl (λ b k. ap (body_tr (act Φ)) k))
          go (Some c) g =
              let k : S.at n ≡ Some d = g ∙ sym (w.keeps n c g) ∙ e in
              subst (λ i. Given E free l Fr (act Φ) d i) (sym (old_image n d k)) (moved n d (μ n) k refl (over.images n d k))

-- more than any number that stands there
abbrev mutual
  pub top : Tree → ℕ
  top (Var i) = 0
  top (Sort s) = 0
  top (Prod x A B) = max (top A) (top B)
  top (Lam x A b) = max (top A) (top b)
  top (App f a) = max (top f) (top a)
  top (Const c) = 0
  top (Ind e) = 0
  top (Con e k) = 0
  top (Match e R c bs) = max (top R) (max (top c) (top_arms bs))
  top (Meta n s) = max n (top_all s)

  pub top_all : Trees → ℕ
  top_all End = 0
  top_all (Item t s) = max (top t) (top_all s)

  pub top_arms : Arms → ℕ
  top_arms NoArm = 0
  top_arms (Arm xs b bs) = max (top b) (top_arms bs)

abbrev pub top_of : List Tree → ℕ
top_of [] = 0
top_of (A ∷ Γ) = max (top A) (top_of Γ)

abbrev pub top_judgement : Judgement → ℕ
top_judgement IsContext = 0
top_judgement (IsType T) = top T
top_judgement (Has t T) = max (top t) (top T)
top_judgement (Stands t) = top t
top_judgement (Fitting e R ps k bs) = max (top R) (max (top_all ps) (top_arms bs))
top_judgement (Body e p R c T xs b) = max (max (top R) (top c)) (max (top T) (top b))

mutual
  pub below_top : (B : ℕ) (t : Tree) → top t ≤ B → AllMetas (λ n. n ≤ B) t
  below_top B (Var i) h = tt
  below_top B (Sort s) h = tt
  below_top B (Prod x A b) h = (below_top B A (omega arith), below_top B b (omega arith))
  below_top B (Lam x A b) h = (below_top B A (omega arith), below_top B b (omega arith))
  below_top B (App f a) h = (below_top B f (omega arith), below_top B a (omega arith))
  below_top B (Const c) h = tt
  below_top B (Ind e) h = tt
  below_top B (Con e k) h = tt
  below_top B (Match e R c bs) h = (below_top B R (omega arith), below_top B c (omega arith), below_top_arms B bs (omega arith))
  below_top B (Meta n s) h = (omega arith, below_top_all B s (omega arith))

  pub below_top_all : (B : ℕ) (s : Trees) → top_all s ≤ B → AllMetasIn (λ n. n ≤ B) s
  below_top_all B End h = tt
  below_top_all B (Item t s) h = (below_top B t (omega arith), below_top_all B s (omega arith))

  pub below_top_arms : (B : ℕ) (bs : Arms) → top_arms bs ≤ B → AllMetasArms (λ n. n ≤ B) bs
  below_top_arms B NoArm h = tt
  below_top_arms B (Arm xs b bs) h = (below_top B b (omega arith), below_top_arms B bs (omega arith))

pub below_top_of : (B : ℕ) (Γ : List Tree) → top_of Γ ≤ B → AllMetasOf (λ n. n ≤ B) Γ
below_top_of B [] h = tt
below_top_of B (A ∷ Γ) h = (below_top B A (omega arith), below_top_of B Γ (omega arith))

pub below_top_judgement : (B : ℕ) (J : Judgement) → top_judgement J ≤ B → JudgementMetas (λ n. n ≤ B) J
below_top_judgement B IsContext h = tt
below_top_judgement B (IsType T) h = below_top B T h
below_top_judgement B (Has t T) h = (below_top B t (omega arith), below_top B T (omega arith))
below_top_judgement B (Stands t) h = below_top B t h
below_top_judgement B (Fitting e R ps k bs) h = (below_top B R (omega arith), below_top_all B ps (omega arith), below_top_arms B bs (omega arith))
below_top_judgement B (Body e p R c T xs b) h = (below_top B R (omega arith), below_top B c (omega arith), below_top B T (omega arith), below_top B b (omega arith))

-- A judgement goes down from the larger store to its own.
pub back_down : (E : Environment) (free : Bool) (S : Store) (S⁺ : Store) (Γ : List Tree) (J : Judgement) (B : ℕ) → Widens S S⁺ → ((m : ℕ) → m ≤ B → S.at m ≡ S⁺.at m) → top_of Γ ≤ B → top_judgement J ≤ B → free ≡ true → Holds E free S⁺ Γ J → Holds E free S Γ J
back_down E free S S⁺ Γ J B w low g j yes' h = k_metas yes' w (weaker_of (λ n. n ≤ B) (λ n. S.at n ≡ S⁺.at n) low Γ (below_top_of B Γ g)) (weaker_judgement (λ n. n ≤ B) (λ n. S.at n ≡ S⁺.at n) low J (below_top_judgement B J j)) h
