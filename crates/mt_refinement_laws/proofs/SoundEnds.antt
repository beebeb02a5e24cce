-- What refinement gives over a sound store: the ends of its rules, and raw terms as types.
use Rattle.std.specs.Prelude.{◌≡◌, ℕ, zero, suc, ◌-◌, List, [], ◌∷◌, length, if◌then◌else◌, Bool, true, false, Option, Some, None, option_map}
use Rattle.std.proofs.Common.{ap, subst, subst₂}
use Rattle.mt_term.specs.Trees.{Tree, Var, Sort, Prod, App}
use Rattle.mt_term.specs.Substitution.{sub, one}
use Rattle.mt_term.specs.Declarations.{Hypothesis, Environment}
use Rattle.mt_term.specs.declared.modes.Mode.TheVariants.{Equal, AtMost as Below}
use Rattle.mt_term.specs.Stores.{Store, no_store, store_of}
use Rattle.mt_term.specs.StoreChanges.{Extends}
use Rattle.mt_calculus.specs.Conversion.{Conv, same, AtMost, conv}
use Rattle.mt_calculus.specs.Typing.{Judgement, IsContext, IsType, Has, Holds, t_app, t_sub, k_of, k_dom, k_type_stands, k_type_reduct}
use Rattle.mt_calculus.specs.SoundEnvironment.{SoundEnvironment}
use Rattle.mt_calculus.specs.SoundStore.{SoundStore}
use Rattle.mt_term.specs.Alike.{is_alike}
use Rattle.mt_rules.specs.WeakHead.{whd}
use Rattle.mt_rules.specs.Inference.{Product, Family, context_types}
use Rattle.mt_rules_laws.specs.ReductionLaws.{ReachedFrom, itself, further}
use Rattle.mt_term.proofs.Subst.{sub_id}
use Rattle.mt_calculus_laws.proofs.Known.{known}
use Rattle.mt_calculus_laws.proofs.Laws.{substitution}
use Rattle.mt_calculus_laws.proofs.Steps.{Reduces, done, more, ClosedEnv}
use Rattle.mt_calculus_laws.proofs.EnvironmentLaws.{closed_environment}
use Rattle.mt_rules_laws.proofs.ComparisonSoundness.{reduces_conv}
use Rattle.mt_rules_laws.proofs.Yields.{Yields, some_is, nothing}
use Rattle.mt_unification_rules.specs.Placeholders.{Metas, Typed, placeholder}
use Rattle.mt_unification_rules.specs.Unification.{unify}
use Rattle.mt_unification_laws.proofs.Later.{extends_same, extends_twice, conv_later, holds_later, reached_conv}
use Rattle.mt_unification_laws.proofs.HintVariables.{from_none}
use Rattle.mt_unification_laws.proofs.NewMetas.{placeholder_extends, placeholder_sound, placeholder_has}
use Rattle.mt_unification_laws.proofs.UnificationSoundness.{unification_law}
use Rattle.mt_refinement_rules.specs.Coercions.{Coercion, type_head, first_some, first_chain, chain, shortest, path}
use Rattle.mt_refinement_rules.specs.Settings.{Setting}
use Rattle.mt_refinement_laws.specs.SoundSettings.{TypedCoercions, SoundSetting}
use Rattle.mt_refinement_rules.specs.Placed.{Placed, by}
use Rattle.mt_refinement_rules.specs.Finishing.{Refinement, on_argument, fitted, on_new, under_coercion, inserted, on_path, finish, Sorted, as_type}
use Rattle.mt_refinement_rules.specs.Binders.{product_in}
use Rattle.mt_refinement_rules.specs.Applications.{Rest}
use Rattle.mt_refinement_rules.specs.Matches.{Return}
use Rattle.mt_refinement_laws.proofs.PlacedYields.{Finds, finds, finds_nothing, charge_finds, by_finds, then_finds, try_finds, on_any}
use Rattle.mt_refinement_laws.proofs.MatchTypes.{product_yields, sort_yields, head_yields}

pub product_in_is : (t : Tree) (p : Product) → product_in t ≡ Some p → t ≡ Prod p.name p.dom p.cod
product_in_is (Prod x a b) p e = ap (λ (q : Product). Prod q.name q.dom q.cod) (some_is e)
product_in_is t p e = nothing e

module _ (E : Environment) (env : SoundEnvironment E) where
  pub closed : ClosedEnv E
  closed = closed_environment E env

  -- a judgement over the store, in the context
  abbrev pub Over : Metas → List Hypothesis → Judgement → Type 0
  Over ms Γ J = Holds E true (store_of ms) (context_types Γ) J

  pub moved : (ms ms' : Metas) → SoundStore E (store_of ms) → Extends (store_of ms) (store_of ms') → (Γ : List Hypothesis) (J : Judgement) → Over ms Γ J → Over ms' Γ J
  moved ms ms' z x Γ J h = holds_later E closed (store_of ms) (store_of ms') z.owned x (context_types Γ) J h

  pub conv_moved : (ms ms' : Metas) → SoundStore E (store_of ms) → Extends (store_of ms) (store_of ms') → (t u : Tree) → Conv E (store_of ms) t u → Conv E (store_of ms') t u
  conv_moved ms ms' z x t u c = conv_later E closed (store_of ms) (store_of ms') z.owned x t u c

  -- an expected type, where there is one, is a type; and a type is at most it
  abbrev pub TypeIn : Metas → List Hypothesis → Option Tree → Type 0
  TypeIn ms Γ None = Unit {0}
  TypeIn ms Γ (Some U) = Over ms Γ (IsType U)

  abbrev pub Fits : Metas → Option Tree → Tree → Type 0
  Fits ms None T = Unit {0}
  Fits ms (Some U) T = AtMost E (store_of ms) T U

  pub type_moved : (ms ms' : Metas) → SoundStore E (store_of ms) → Extends (store_of ms) (store_of ms') → (Γ : List Hypothesis) (o : Option Tree) → TypeIn ms Γ o → TypeIn ms' Γ o
  type_moved ms ms' z x Γ None h = tt
  type_moved ms ms' z x Γ (Some U) h = moved ms ms' z x Γ (IsType U) h

  -- a later store
  pub record Later (ms ms' : Metas) : Type 0 where
    pub sound : SoundStore E (store_of ms')
    pub extends : Extends (store_of ms) (store_of ms')

  -- what refinement gives
  pub record Ok (ms : Metas) (Γ : List Hypothesis) (o : Option Tree) (t : Typed) : Type 0 where
    pub sound : SoundStore E (store_of t.store)
    pub extends : Extends (store_of ms) (store_of t.store)
    pub typed : Over t.store Γ (Has t.term t.ty)
    pub fits : Fits t.store o t.ty

  pub record OkType (ms : Metas) (Γ : List Hypothesis) (t : Sorted) : Type 0 where
    pub sound : SoundStore E (store_of t.store)
    pub extends : Extends (store_of ms) (store_of t.store)
    pub typed : Over t.store Γ (Has t.term (Sort t.sort))

  pub from_later : (ms ms' : Metas) (Γ : List Hypothesis) (o : Option Tree) (t : Typed) → Extends (store_of ms) (store_of ms') → Ok ms' Γ o t → Ok ms Γ o t
  from_later ms ms' Γ o t x r = record { sound = r.sound; extends = extends_twice (store_of ms) (store_of ms') (store_of t.store) x r.extends; typed = r.typed; fits = r.fits }

  -- refinements, rests of applications, motives
  abbrev pub Sound : Refinement → Type 0
  Sound m = (ms : Metas) (Γ : List Hypothesis) (o : Option Tree) → SoundStore E (store_of ms) → Over ms Γ IsContext → TypeIn ms Γ o → Finds (m ms Γ o) (Ok ms Γ o)

  abbrev pub SoundRest : List Hypothesis → Option Tree → Rest → Type 0
  SoundRest Γ o m = (ms : Metas) (f : Typed) → SoundStore E (store_of ms) → TypeIn ms Γ o → Ok ms Γ None f → Finds (m f) (Ok ms Γ o)

  abbrev pub SoundReturn : Return → Type 0
  SoundReturn m = (ms : Metas) (Γ : List Hypothesis) (o : Option Tree) (f : Family) → SoundStore E (store_of ms) → Over ms Γ IsContext → TypeIn ms Γ o → Finds (m ms Γ o f) (λ r. Later ms r.0)

  -- ---- reducts

  pub reached_type : (S : Store) (Γ : List Tree) (t u : Tree) → Holds E true S Γ (IsType t) → ReachedFrom E S t u → Holds E true S Γ (IsType u)
  reached_type S Γ t u h itself = h
  reached_type S Γ t u h (further {u = v} r c) = k_type_reduct (reached_type S Γ t v h r) c

  pub reduces_type : (S : Store) (Γ : List Tree) (t u : Tree) → Holds E true S Γ (IsType t) → Reduces E S t u → Holds E true S Γ (IsType u)
  reduces_type S Γ t u h done = h
  reduces_type S Γ t u h (more {u = v} c r) = reduces_type S Γ v u (k_type_reduct h c) r

  pub has_reached : (S : Store) (Γ : List Tree) (t T U : Tree) → Holds E true S Γ (Has t T) → ReachedFrom E S T U → Holds E true S Γ (Has t U)
  has_reached S Γ t T U h r = t_sub h (conv (reached_conv E S r)) (reached_type S Γ T U (k_of h) r)

  pub has_reduced : (S : Store) (Γ : List Tree) (t T U : Tree) → Holds E true S Γ (Has t T) → Reduces E S T U → Holds E true S Γ (Has t U)
  has_reduced S Γ t T U h r = t_sub h (conv (reduces_conv r)) (reduces_type S Γ T U (k_of h) r)

  -- a weak head
  abbrev pub head : ℕ → Metas → Tree → Placed Tree
  head at ms t = by at (whd E (store_of ms) t)

  pub head_finds : (at : ℕ) (ms : Metas) (t : Tree) → Finds (head at ms t) (ReachedFrom E (store_of ms) t)
  head_finds at ms t = by_finds (ReachedFrom E (store_of ms) t) at (whd E (store_of ms) t) (head_yields E (store_of ms) t)

  -- ---- placeholders and arguments

  pub placeholder_ok : (ms : Metas) (Γ : List Hypothesis) (T : Tree) → SoundStore E (store_of ms) → Over ms Γ (IsType T) → Ok ms Γ None (placeholder ms Γ T)
  placeholder_ok ms Γ T z h = record { sound = placeholder_sound E env ms Γ T z h; extends = placeholder_extends E env ms Γ T z h; typed = placeholder_has E env ms Γ T z h; fits = tt }

  -- a function of a product's type on an argument of the domain
  pub on_argument_ok : (ms : Metas) (Γ : List Hypothesis) (f : Typed) (p : Product) (a : Typed) → Ok ms Γ None f → Over f.store Γ (Has f.term (Prod p.name p.dom p.cod)) → Ok f.store Γ (Some p.dom) a → Ok ms Γ None (on_argument f p a)
  on_argument_ok ms Γ f p a r h q =
      let h' : Over a.store Γ (Has f.term (Prod p.name p.dom p.cod)) = moved f.store a.store r.sound q.extends Γ (Has f.term (Prod p.name p.dom p.cod)) h in
      record { sound = q.sound; extends = extends_twice (store_of ms) (store_of f.store) (store_of a.store) r.extends q.extends; typed = t_app h' (t_sub q.typed q.fits (k_dom (k_of h'))); fits = tt }

  -- what holds in the empty context over the empty store holds in each over each
  pub closed_in : (ms : Metas) (Γ : List Hypothesis) (t T : Tree) → SoundStore E (store_of ms) → Over ms Γ IsContext → Holds E true no_store [] (Has t T) → Over ms Γ (Has t T)
  closed_in ms Γ t T z c h =
      let g : Over ms Γ (Has (sub Var t) (sub Var T)) = substitution E true closed (store_of ms) [] (context_types Γ) Var (Has t T) z.owned c (λ i U l. elim l [ ]) (from_none E env (store_of ms) [] (Has t T) h) in
      subst₂ (λ u U. Over ms Γ (Has u U)) (sub_id t) (sub_id T) g

  -- the coercions of a path
  abbrev pub TypedPath : Option (List Coercion) → Type 0
  TypedPath None = Unit {0}
  TypedPath (Some cs) = TypedCoercions E cs

  first_typed : (o p : Option (List Coercion)) → TypedPath o → TypedPath p → TypedPath (first_some o p)
  first_typed None p h g = g
  first_typed (Some cs) p h g = h

  more_typed : (c : Coercion) → Holds E true no_store [] (Has c.term c.ty) → (o : Option (List Coercion)) → TypedPath o → TypedPath (option_map (λ ds. c ∷ ds) o)
  more_typed c h None g = tt
  more_typed c h (Some cs) g = (h, g)

  first_chain_typed : (rest : Coercion → Option (List Coercion)) → ((c : Coercion) → TypedPath (rest c)) → (a : Tree) (cs : List Coercion) → TypedCoercions E cs → TypedPath (first_chain rest a cs)
  first_chain_typed rest h a [] g = tt
  first_chain_typed rest h a (c ∷ cs) g = go (is_alike c.source a) (first_typed (option_map (λ ds. c ∷ ds) (rest c)) (first_chain rest a cs) (more_typed c g.0 (rest c) (h c)) (first_chain_typed rest h a cs g.1)) (first_chain_typed rest h a cs g.1)
    where
      go : (b : Bool) → TypedPath (first_some (option_map (λ ds. c ∷ ds) (rest c)) (first_chain rest a cs)) → TypedPath (first_chain rest a cs) → TypedPath (if b then first_some (option_map (λ ds. c ∷ ds) (rest c)) (first_chain rest a cs) else first_chain rest a cs)
      go true p q = p
      go false p q = q

  chain_typed : (cs : List Coercion) → TypedCoercions E cs → (n : ℕ) (a b : Tree) → TypedPath (chain cs n a b)
  chain_typed cs g zero a b = go (is_alike a b)
    where
      go : (q : Bool) → TypedPath (if q then Some [] else None)
      go true = tt
      go false = tt
  chain_typed cs g (suc n) a b = first_chain_typed (λ c. chain cs n c.target b) (λ c. chain_typed cs g n c.target b) a cs g

  shortest_typed : (cs : List Coercion) → TypedCoercions E cs → (k n : ℕ) (a b : Tree) → TypedPath (shortest cs k n a b)
  shortest_typed cs g zero n a b = tt
  shortest_typed cs g (suc k) n a b = first_typed (chain cs n a b) (shortest cs k (suc n) a b) (chain_typed cs g n a b) (shortest_typed cs g k (suc n) a b)

  pub path_typed : (cs : List Coercion) → TypedCoercions E cs → (o p : Option Tree) → TypedPath (path cs o p)
  path_typed cs g None p = tt
  path_typed cs g (Some a) None = tt
  path_typed cs g (Some a) (Some b) = go (is_alike a b)
    where
      go : (q : Bool) → TypedPath (if q then None else shortest cs (length cs) 1 a b)
      go true = tt
      go false = shortest_typed cs g (length cs) 1 a b

module _ (S : Setting) (good : SoundSetting S) where
  -- ---- the end of a rule

  pub record Unified (ms : Metas) (t u : Tree) (ms' : Metas) : Type 0 where
    pub sound : SoundStore S.env (store_of ms')
    pub extends : Extends (store_of ms) (store_of ms')
    pub fit : AtMost S.env (store_of ms') t u

  pub fit_yields : (ms : Metas) (Γ : List Hypothesis) (t u : Tree) → SoundStore S.env (store_of ms) → Over S.env good.env ms Γ (IsType t) → Over S.env good.env ms Γ (IsType u) → Yields (unify S.env S.hints ms Γ Below t u) (Unified ms t u)
  fit_yields ms Γ t u z h j n ms' l e = let r = unification_law S.env good.env S.hints good.hints ms ms' Γ Below t u n l z (k_type_stands h) (k_type_stands j) e in record { sound = r.0; extends = r.1; fit = r.2 }

  pub record Same (ms : Metas) (t u : Tree) (ms' : Metas) : Type 0 where
    pub sound : SoundStore S.env (store_of ms')
    pub extends : Extends (store_of ms) (store_of ms')
    pub fit : Conv S.env (store_of ms') t u

  pub same_yields : (ms : Metas) (Γ : List Hypothesis) (t u : Tree) → SoundStore S.env (store_of ms) → Over S.env good.env ms Γ (IsType t) → Over S.env good.env ms Γ (IsType u) → Yields (unify S.env S.hints ms Γ Equal t u) (Same ms t u)
  same_yields ms Γ t u z h j n ms' l e = let r = unification_law S.env good.env S.hints good.hints ms ms' Γ Equal t u n l z (k_type_stands h) (k_type_stands j) e in record { sound = r.0; extends = r.1; fit = r.2 }

  fitted_sound : (at : ℕ) (ms : Metas) (Γ : List Hypothesis) (t : Typed) (U : Tree) → Ok S.env good.env ms Γ None t → Over S.env good.env t.store Γ (IsType U) → Finds (fitted S at Γ t U) (Ok S.env good.env ms Γ (Some U))
  fitted_sound at ms Γ t U r h =
      then_finds (Unified t.store t.ty U) (Ok S.env good.env ms Γ (Some U)) _ _ (by_finds (Unified t.store t.ty U) at _ (fit_yields t.store Γ t.ty U r.sound (k_of r.typed) h)) (λ ms' p.
      finds (Ok S.env good.env ms Γ (Some U)) (record { store = ms'; term = t.term; ty = t.ty }) (record { sound = p.sound; extends = extends_twice (store_of ms) (store_of t.store) (store_of ms') r.extends p.extends; typed = moved S.env good.env t.store ms' r.sound p.extends Γ (Has t.term t.ty) r.typed; fits = p.fit }))

  -- ---- coercions

  on_new_sound : (at : ℕ) (ms : Metas) (Γ : List Hypothesis) (n : ℕ) (f : Typed) → Ok S.env good.env ms Γ None f → Finds (on_new at Γ n f) (Ok S.env good.env ms Γ None)
  on_new_sound at ms Γ zero f r = finds (Ok S.env good.env ms Γ None) f r
  on_new_sound at ms Γ (suc n) f r =
      charge_finds (Ok S.env good.env ms Γ None) _
      (then_finds (λ p. f.ty ≡ Prod p.name p.dom p.cod) (Ok S.env good.env ms Γ None) _ _ (by_finds (λ p. f.ty ≡ Prod p.name p.dom p.cod) at _ (product_yields f.ty)) (λ p e.
      let h : Over S.env good.env f.store Γ (Has f.term (Prod p.name p.dom p.cod)) = subst (λ T. Over S.env good.env f.store Γ (Has f.term T)) e r.typed in
      let a = placeholder_ok S.env good.env f.store Γ p.dom r.sound (k_dom (k_of h)) in
      on_new_sound at ms Γ n (on_argument f p (placeholder f.store Γ p.dom))
      (on_argument_ok S.env good.env ms Γ f p (placeholder f.store Γ p.dom) r h (record { sound = a.sound; extends = a.extends; typed = a.typed; fits = conv same }))))

  under_coercion_sound : (at : ℕ) (ms : Metas) (Γ : List Hypothesis) (c : Coercion) → Holds S.env true no_store [] (Has c.term c.ty) → (t : Typed) → Ok S.env good.env ms Γ None t → Finds (under_coercion S at Γ c t) (Ok S.env good.env ms Γ None)
  under_coercion_sound at ms Γ c g t r =
      charge_finds (Ok S.env good.env ms Γ None) _
      (then_finds (Ok S.env good.env t.store Γ None) (Ok S.env good.env ms Γ None) _ _ (on_new_sound at t.store Γ (c.count - 1) (record { store = t.store; term = c.term; ty = c.ty }) start) (λ f q.
      then_finds (λ p. f.ty ≡ Prod p.name p.dom p.cod) (Ok S.env good.env ms Γ None) _ _ (by_finds (λ p. f.ty ≡ Prod p.name p.dom p.cod) at _ (product_yields f.ty)) (λ p e.
      let h : Over S.env good.env f.store Γ (Has f.term (Prod p.name p.dom p.cod)) = subst (λ T. Over S.env good.env f.store Γ (Has f.term T)) e q.typed in
      let u : Over S.env good.env f.store Γ (Has t.term t.ty) = moved S.env good.env t.store f.store r.sound q.extends Γ (Has t.term t.ty) r.typed in
      let x : Extends (store_of ms) (store_of f.store) = extends_twice (store_of ms) (store_of t.store) (store_of f.store) r.extends q.extends in
      let f' : Ok S.env good.env ms Γ None f = record { sound = q.sound; extends = x; typed = q.typed; fits = tt } in
      then_finds (Unified f.store t.ty p.dom) (Ok S.env good.env ms Γ None) _ _ (by_finds (Unified f.store t.ty p.dom) at _ (fit_yields f.store Γ t.ty p.dom q.sound (k_of u) (k_dom (k_of h)))) (λ ms' v.
      let a : Typed = record { store = ms'; term = t.term; ty = t.ty } in
      finds (Ok S.env good.env ms Γ None) (record { store = ms'; term = App f.term t.term; ty = sub (one t.term) p.cod })
      (on_argument_ok S.env good.env ms Γ f p a f' h (record { sound = v.sound; extends = v.extends; typed = moved S.env good.env f.store ms' q.sound v.extends Γ (Has t.term t.ty) u; fits = v.fit }))))))
    where
      start : Ok S.env good.env t.store Γ None (record { store = t.store; term = c.term; ty = c.ty })
      start = record { sound = r.sound; extends = extends_same (store_of t.store); typed = closed_in S.env good.env t.store Γ c.term c.ty r.sound (known S.env true r.typed).0 g; fits = tt }

  inserted_sound : (at : ℕ) (ms : Metas) (Γ : List Hypothesis) (U : Tree) (cs : List Coercion) → TypedCoercions S.env cs → (t : Typed) → Ok S.env good.env ms Γ None t → Over S.env good.env t.store Γ (IsType U) → Finds (inserted S at Γ U cs t) (Ok S.env good.env ms Γ (Some U))
  inserted_sound at ms Γ U [] g t r h = fitted_sound at ms Γ t U r h
  inserted_sound at ms Γ U (c ∷ cs) g t r h =
      then_finds (Ok S.env good.env t.store Γ None) (Ok S.env good.env ms Γ (Some U)) _ _ (under_coercion_sound at t.store Γ c g.0 t (record { sound = r.sound; extends = extends_same (store_of t.store); typed = r.typed; fits = tt })) (λ u q.
      inserted_sound at ms Γ U cs g.1 u (from_later S.env good.env ms t.store Γ None u r.extends q) (moved S.env good.env t.store u.store r.sound q.extends Γ (IsType U) h))

  on_path_sound : (at : ℕ) (ms : Metas) (Γ : List Hypothesis) (t : Typed) (U : Tree) → Ok S.env good.env ms Γ None t → Over S.env good.env t.store Γ (IsType U) → (o : Option (List Coercion)) → TypedPath S.env good.env o → Finds (on_path S at Γ t U o) (Ok S.env good.env ms Γ (Some U))
  on_path_sound at ms Γ t U r h None g = finds_nothing (Ok S.env good.env ms Γ (Some U)) _ at
  on_path_sound at ms Γ t U r h (Some cs) g = try_finds (Ok S.env good.env ms Γ (Some U)) _ _ (inserted_sound at ms Γ U cs g t r h) (λ q place. finds_nothing (Ok S.env good.env ms Γ (Some U)) _ at)

  pub finish_sound : (at : ℕ) (ms : Metas) (Γ : List Hypothesis) (o : Option Tree) (t : Typed) → Ok S.env good.env ms Γ None t → TypeIn S.env good.env t.store Γ o → Finds (finish S at Γ o t) (Ok S.env good.env ms Γ o)
  finish_sound at ms Γ None t r h = finds (Ok S.env good.env ms Γ None) t r
  finish_sound at ms Γ (Some U) t r h =
      try_finds (Ok S.env good.env ms Γ (Some U)) (fitted S at Γ t U) _ (fitted_sound at ms Γ t U r h) (λ q place.
      on_any (Ok S.env good.env ms Γ (Some U)) (head S.env good.env at t.store t.ty) _ (λ u. on_any (Ok S.env good.env ms Γ (Some U)) (head S.env good.env at t.store U) _ (λ v.
      on_path_sound at ms Γ t U r h _ (path_typed S.env good.env S.coercions good.coercions (type_head u) (type_head v)))))

  -- the same from the store before
  pub ends : (at : ℕ) (ms : Metas) (Γ : List Hypothesis) (o : Option Tree) (t : Typed) → SoundStore S.env (store_of ms) → TypeIn S.env good.env ms Γ o → Ok S.env good.env ms Γ None t → Finds (finish S at Γ o t) (Ok S.env good.env ms Γ o)
  ends at ms Γ o t z h r = finish_sound at ms Γ o t r (type_moved S.env good.env ms t.store z r.extends Γ o h)

  pub as_type_sound : (at : ℕ) (m : Refinement) → Sound S.env good.env m → (ms : Metas) (Γ : List Hypothesis) → SoundStore S.env (store_of ms) → Over S.env good.env ms Γ IsContext → Finds (as_type S at m ms Γ) (OkType S.env good.env ms Γ)
  as_type_sound at m h ms Γ z c =
      then_finds (Ok S.env good.env ms Γ None) (OkType S.env good.env ms Γ) _ _ (h ms Γ None z c tt) (λ t r.
      then_finds (ReachedFrom S.env (store_of t.store) t.ty) (OkType S.env good.env ms Γ) _ _ (head_finds S.env good.env at t.store t.ty) (λ u q.
      then_finds (λ s. u ≡ Sort s) (OkType S.env good.env ms Γ) _ _ (by_finds (λ s. u ≡ Sort s) at _ (sort_yields u)) (λ s e.
      finds (OkType S.env good.env ms Γ) (record { store = t.store; term = t.term; sort = s })
      (record { sound = r.sound; extends = r.extends; typed = subst (λ v. Over S.env good.env t.store Γ (Has t.term v)) e (has_reached S.env good.env (store_of t.store) (context_types Γ) t.term t.ty u r.typed q) }))))
