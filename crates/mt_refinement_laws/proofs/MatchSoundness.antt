-- Matches over a sound store.
use Rattle.std.specs.Prelude.{◌≡◌, ◌+◌, refl, ℕ, zero, suc, List, [], ◌∷◌, length, nat_eq, true, ◌&&◌, Option, Some, None, slice_get}
use Rattle.std.specs.Str.{bytes_eq}
use Rattle.std.proofs.Common.{sym, subst, arith}
use Rattle.mt_term.specs.Trees.{Bytes, Tree, Arms, App, Ind, Con, Match, End, Item, NoArm, Arm}
use Rattle.mt_term.specs.Substitution.{apps, join, count}
use Rattle.mt_term.specs.Declarations.{Hypothesis, Constructor}
use Rattle.mt_term.specs.declared.universes.Sort.{Sort as AnySort}
use Rattle.mt_term.specs.Stores.{store_of}
use Rattle.mt_term.specs.StoreChanges.{Extends}
use Rattle.mt_calculus.specs.Contraction.{ConstructorOf}
use Rattle.mt_calculus.specs.Conversion.{back, AtMost, conv, on}
use Rattle.mt_calculus.specs.Typing.{IsContext, IsType, Has, Fitting, Body, Instantiated, at_none, t_con, t_match, f_none, f_arm, k_of}
use Rattle.mt_calculus.specs.SoundStore.{SoundStore}
use Rattle.mt_term.specs.Spines.{motive_on_all, at_args}
use Rattle.mt_term.specs.Substitution.{products}
use Rattle.mt_rules.specs.Inference.{Family, eliminable, checked, context_types, as_family, branch_context, branch_type, elimination}
use Rattle.mt_rules_laws.specs.ReductionLaws.{ReachedFrom}
use Rattle.mt_calculus_laws.proofs.Steps.{ClosedEnv}
use Rattle.mt_calculus_laws.proofs.Known.{known}
use Rattle.mt_calculus_laws.proofs.EnvironmentLaws.{closed_environment, inductive_facts, arity_at, constructor_result, constructor_prefix}
use Rattle.mt_calculus_laws.proofs.Matching.{inductive_of, apps_join, ConResult, SamePrefix, body_holds, con_has}
use Rattle.mt_rules_laws.proofs.InferenceParts.{at_args_is, FamilyIs, family_is, last_reduces, branch_goal, branch_context_holds, After, from_first, and_next, after_get}
use Rattle.mt_rules_laws.proofs.ComparisonSoundness.{reduces_conv}
use Rattle.mt_calculus_laws.proofs.AlikeLaws.{both}
use Rattle.mt_rules_laws.proofs.Yields.{Yields, gives, refuses, untrue}
use Rattle.mt_unification_rules.specs.Placeholders.{Metas}
use Rattle.mt_unification_laws.proofs.Later.{extends_same, extends_twice}
use Rattle.mt_term_parser.specs.Written.{Written, Cases, NoCase, Case}
use Rattle.mt_resolver.specs.Resolution.{name_all}
use Rattle.mt_refinement_rules.specs.Placed.{by, in_store}
use Rattle.mt_refinement_rules.specs.Settings.{Setting}
use Rattle.mt_refinement_laws.specs.SoundSettings.{SoundSetting}
use Rattle.mt_refinement_rules.specs.Finishing.{Refinement}
use Rattle.mt_refinement_rules.specs.Matches.{Return, written_return, expected_return, Bodies, no_body, one_body, by_match}
use Rattle.mt_refinement_laws.proofs.PlacedYields.{Finds, finds, finds_nothing, by_finds, then_finds, in_store_finds}
use Rattle.mt_refinement_laws.proofs.MatchTypes.{checked_yields, Motive, elimination_yields, goal_type}
use Rattle.mt_refinement_laws.proofs.SoundEnds.{Over, moved, type_moved, Later, Ok, Sound, SoundReturn, reduces_type, has_reached, has_reduced, head, head_finds, ends}

pub eliminable_yields : {A : Type 0} (o : Option A) → Yields (eliminable o) (λ a. o ≡ Some a)
eliminable_yields {A = A} None = refuses (λ (a : A). None ≡ Some a) _
eliminable_yields {A = A} (Some b) = gives (λ (a : A). Some b ≡ Some a) b refl

-- arms that name constructors have one for each
name_none : (p : ℕ) (cs : List Constructor) → name_all p cs NoCase ≡ true → cs ≡ []
name_none p [] e = refl
name_none p (c ∷ cs) e = untrue e

name_rest : (p : ℕ) (c : Constructor) (cs : List Constructor) (x : Bytes) (xs : List Bytes) (b : Written) (arms : Cases) → name_all p (c ∷ cs) (Case x xs b arms) ≡ true → name_all p cs arms ≡ true
name_rest p c cs x xs b arms e = (both (bytes_eq c.name x && nat_eq (length xs + p) (products c.ty)) (name_all p cs arms) e).1

module _ (S : Setting) (good : SoundSetting S) where
  closed : ClosedEnv S.env
  closed = closed_environment S.env good.env

  -- a match on an inductive type, with its motive
  pub record Matched (ms : Metas) (Γ : List Hypothesis) (f : Family) (R : Tree) : Type 0 where
    pub t : Tree
    pub is : FamilyIs S.env t f
    pub ty : Over S.env good.env ms Γ (IsType (apps (Ind f.number) (join f.params f.indices)))
    pub s : AnySort
    pub motive : Motive S.env (store_of ms) Γ f R s

  matched_moved : (ms ms' : Metas) (Γ : List Hypothesis) (f : Family) (R : Tree) → SoundStore S.env (store_of ms) → Extends (store_of ms) (store_of ms') → Matched ms Γ f R → Matched ms' Γ f R
  matched_moved ms ms' Γ f R z x m =
      let v : Motive S.env (store_of ms) Γ f R m.s = m.motive in
      record { t = m.t; is = m.is; ty = moved S.env good.env ms ms' z x Γ (IsType (apps (Ind f.number) (join f.params f.indices))) m.ty; s = m.s; motive = record { r = v.r; M = v.M; is = v.is; return = moved S.env good.env ms ms' z x Γ (Has R v.M) v.return; allowed = v.allowed } }

  module _ (ms : Metas) (Γ : List Hypothesis) (f : Family) (R : Tree) (z : SoundStore S.env (store_of ms)) (m : Matched ms Γ f R) where
    q : FamilyIs S.env m.t f
    q = m.is

    context : Over S.env good.env ms Γ IsContext
    context = (known S.env true m.ty).0

    whole : q.p + products f.arity ≡ products q.ty
    whole =
        let facts = inductive_facts S.env good.env f.number q.name q.co f.large q.p q.ty f.constructors q.entry in
        let a = (arity_at facts.arity q.at).1 in
        omega (arith, a, q.enough)

    -- a match whose branches fit
    match_has : (c : Tree) (bs : Arms) → Over S.env good.env ms Γ (Has c (apps (Ind f.number) (join f.params f.indices))) → Over S.env good.env ms Γ (Fitting f.number R f.params zero bs) → Over S.env good.env ms Γ (Has (Match f.number R c bs) (motive_on_all R (join f.indices (Item c End))))
    match_has c bs hc fit =
        let v : Motive S.env (store_of ms) Γ f R m.s = m.motive in
        let hc' : Over S.env good.env ms Γ (Has c (apps (apps (Ind f.number) f.params) f.indices)) = subst (λ t. Over S.env good.env ms Γ (Has c t)) (apps_join (Ind f.number) f.params f.indices) hc in
        has_reduced S.env good.env (store_of ms) (context_types Γ) (Match f.number R c bs) (App (apps R f.indices) c) (motive_on_all R (join f.indices (Item c End))) (t_match f.indices (inductive_of q.entry) q.enough q.full hc' q.at v.is v.return v.allowed fit) (last_reduces S.env (store_of ms) R f.indices c)

    module _ (k : ℕ) (c : Constructor) (g : slice_get f.constructors k ≡ Some c) (u : Tree) (i : Instantiated c.ty f.params u) where
      constructor : ConstructorOf S.env f.number k c.ty
      constructor = record { name = q.name; co = q.co; params = q.p; ty = q.ty; cons = f.constructors; large = f.large; con_name = c.name; entry = q.entry; con = g }

      constructor_typed : Over S.env good.env ms Γ (Has (apps (Con f.number k) f.params) u)
      unfolding q constructor
      constructor_typed =
          let sp : SamePrefix S.env (store_of ms) (count f.params) q.ty c.ty = subst (λ p. SamePrefix S.env (store_of ms) p q.ty c.ty) (sym q.enough) (constructor_prefix S.env good.env (store_of ms) f.number k c.ty constructor) in
          con_has S.env true closed (store_of ms) f.number q.name q.co f.large q.p q.ty f.constructors q.entry k (context_types Γ) End f.indices q.at i sp at_none q.full m.ty (t_con context constructor)

      module _ (xs : List Bytes) (v : Tree) (e : branch_type (count f.params) R (apps (Con f.number k) f.params) u xs ≡ Some v) where
        result : ConResult f.number (products f.arity) f.params u
        unfolding q constructor
        result = constructor_result S.env good.env f.number k c.ty constructor f.params u f.arity i q.at q.enough

        -- the context of the body, and its type
        body_context : Over S.env good.env ms (branch_context Γ u xs) IsContext
        body_context = branch_context_holds S.env true (store_of ms) Γ u xs context (k_of constructor_typed)

        body_type : Over S.env good.env ms (branch_context Γ u xs) (IsType v)
        body_type =
            let w : Motive S.env (store_of ms) Γ f R m.s = m.motive in
            let goal = branch_goal S.env (store_of ms) f.number (products f.arity) (count f.params) result refl Γ R (apps (Con f.number k) f.params) xs v e in
            reduces_type S.env good.env (store_of ms) (context_types (branch_context Γ u xs)) goal.0 v
            (goal_type S.env closed (store_of ms) z.owned f.number q.name q.co f.large q.p q.ty f.constructors q.entry q.p f.arity w.M goal.1 q.enough refl whole context w.return constructor_typed q.at w.is) goal.2

        -- a body of that type fits
        body_fits : (b t : Tree) → Over S.env good.env ms (branch_context Γ u xs) (Has b t) → AtMost S.env (store_of ms) t v → Over S.env good.env ms Γ (Body f.number q.p R (apps (Con f.number k) f.params) u xs b)
        body_fits b t hb le =
            let w : Motive S.env (store_of ms) Γ f R m.s = m.motive in
            let goal = branch_goal S.env (store_of ms) f.number (products f.arity) (count f.params) result refl Γ R (apps (Con f.number k) f.params) xs v e in
            let le' : AtMost S.env (store_of ms) t goal.0 = on le (conv (back (reduces_conv goal.2))) in
            body_holds S.env true closed (store_of ms) z.owned f.number q.name q.co f.large q.p q.ty f.constructors q.entry q.p f.arity w.M b t goal.1 q.enough refl whole context w.return constructor_typed q.at w.is (λ c'. hb) le'

  -- the bodies of a match
  pub record Bodied (ms : Metas) (Γ : List Hypothesis) (f : Family) (R : Tree) (k : ℕ) (bs : Metas × Arms) : Type 0 where
    pub sound : SoundStore S.env (store_of bs.0)
    pub extends : Extends (store_of ms) (store_of bs.0)
    pub fitting : Over S.env good.env bs.0 Γ (Fitting f.number R f.params k bs.1)

  abbrev pub SoundBodies : Cases → Bodies → Type 0
  SoundBodies arms m = (ms : Metas) (Γ : List Hypothesis) (f : Family) (R : Tree) (k : ℕ) (cs : List Constructor) → SoundStore S.env (store_of ms) → Matched ms Γ f R → After f.constructors k cs → name_all (count f.params) cs arms ≡ true → Finds (m ms Γ f R k cs) (Bodied ms Γ f R k)

  pub no_body_sound : SoundBodies NoCase no_body
  no_body_sound ms Γ f R k cs z m a e =
      let p : FamilyIs S.env m.t f = m.is in
      finds (Bodied ms Γ f R k) (ms, NoArm) (record { sound = z; extends = extends_same (store_of ms); fitting = f_none (known S.env true m.ty).0 (inductive_of p.entry) (after_get (subst (After f.constructors k) (name_none (count f.params) cs e) a)) })

  pub one_body_sound : (at : ℕ) (x : Bytes) (xs : List Bytes) (w : Written) (arms : Cases) (b : Refinement) (others : Bodies) → Sound S.env good.env b → SoundBodies arms others → SoundBodies (Case x xs w arms) (one_body at xs b others)
  unfolding q matched_moved constructor
  one_body_sound at x xs w arms b others h j ms Γ f R k [] z m a e = finds_nothing (Bodied ms Γ f R k) _ at
  one_body_sound at x xs w arms b others h j ms Γ f R k (c ∷ cs) z m a e =
      let con_args = at_args c.ty f.params in
      let goal = branch_type (count f.params) R (apps (Con f.number k) f.params) in
      then_finds (λ u. con_args ≡ Some u) Q (by at (eliminable con_args)) _ (by_finds (λ u. con_args ≡ Some u) at (eliminable con_args) (eliminable_yields con_args)) (λ u eu.
      let i = at_args_is c.ty f.params u eu in
      let g : slice_get f.constructors k ≡ Some c = after_get a in
      then_finds (λ v. goal u xs ≡ Some v) Q (by at (eliminable (goal u xs))) _ (by_finds (λ v. goal u xs ≡ Some v) at (eliminable (goal u xs)) (eliminable_yields (goal u xs))) (λ v ev.
      let Δ = branch_context Γ u xs in
      then_finds (Ok S.env good.env ms Δ (Some v)) Q (b ms Δ (Some v)) _ (h ms Δ (Some v) z (body_context ms Γ f R z m k c g u i xs v ev) (body_type ms Γ f R z m k c g u i xs v ev)) (λ t r.
      let m' = matched_moved ms t.store Γ f R z r.extends m in
      then_finds (Bodied t.store Γ f R (suc k)) Q (others t.store Γ f R (suc k) cs) _ (j t.store Γ f R (suc k) cs r.sound m' (and_next a) (name_rest (count f.params) c cs x xs w arms e)) (λ bs d.
      let body = body_fits t.store Γ f R r.sound m' k c g u i xs v ev t.term t.ty r.typed r.fits in
      let p : FamilyIs S.env m.t f = m.is in
      finds Q (bs.0, Arm xs t.term bs.1) (record {
        sound = d.sound;
        extends = extends_twice (store_of ms) (store_of t.store) (store_of bs.0) r.extends d.extends;
        fitting = f_arm (constructor ms Γ f R z m k c g u i) i (moved S.env good.env t.store bs.0 r.sound d.extends Γ (Body f.number p.p R (apps (Con f.number k) f.params) u xs t.term) body) d.fitting;
      })))))
    where
      Q : Metas × Arms → Type 0
      Q bs = Bodied ms Γ f R k bs

  pub written_return_sound : (m : Refinement) → Sound S.env good.env m → SoundReturn S.env good.env (written_return m)
  written_return_sound m h ms Γ o f z c t = then_finds (Ok S.env good.env ms Γ None) (λ r. Later S.env good.env ms r.0) _ _ (h ms Γ None z c tt) (λ u r. finds (λ r. Later S.env good.env ms r.0) (u.store, u.term) (record { sound = r.sound; extends = r.extends }))

  pub expected_return_sound : (at : ℕ) → SoundReturn S.env good.env (expected_return at)
  expected_return_sound at ms Γ None f z c t = finds_nothing (λ r. Later S.env good.env ms r.0) _ at
  expected_return_sound at ms Γ (Some U) f z c t = finds (λ r. Later S.env good.env ms r.0) _ (record { sound = z; extends = extends_same (store_of ms) })

  pub by_match_sound : (at : ℕ) (m : Refinement) (return : Return) (arms : Cases) (bodies : Bodies) → Sound S.env good.env m → SoundReturn S.env good.env return → SoundBodies arms bodies → Sound S.env good.env (by_match S at m return arms bodies)
  by_match_sound at m return arms bodies h j l ms Γ o z c t =
      then_finds (Ok S.env good.env ms Γ None) (Ok S.env good.env ms Γ o) _ _ (h ms Γ None z c tt) (λ d r.
      then_finds (ReachedFrom S.env (store_of d.store) d.ty) (Ok S.env good.env ms Γ o) (head S.env good.env at d.store d.ty) _ (head_finds S.env good.env at d.store d.ty) (λ u q.
      then_finds (λ f. as_family S.env.entries u ≡ Some f) (Ok S.env good.env ms Γ o) (by at (eliminable (as_family S.env.entries u))) _ (by_finds (λ f. as_family S.env.entries u ≡ Some f) at (eliminable (as_family S.env.entries u)) (eliminable_yields (as_family S.env.entries u))) (λ f e.
      let i = family_is S.env u f e in
      let hd : Over S.env good.env d.store Γ (Has d.term (apps (Ind f.number) (join f.params f.indices))) = subst (λ v. Over S.env good.env d.store Γ (Has d.term v)) i.is (has_reached S.env good.env (store_of d.store) (context_types Γ) d.term d.ty u r.typed q) in
      then_finds (λ y. name_all (count f.params) f.constructors arms ≡ true) (Ok S.env good.env ms Γ o) (by at (checked (name_all (count f.params) f.constructors arms))) _
      (by_finds (λ y. name_all (count f.params) f.constructors arms ≡ true) at (checked (name_all (count f.params) f.constructors arms)) (checked_yields (name_all (count f.params) f.constructors arms))) (λ y n.
      then_finds (λ p. Later S.env good.env d.store p.0) (Ok S.env good.env ms Γ o) (return d.store Γ o f) _ (j d.store Γ o f r.sound (known S.env true hd).0 (type_moved S.env good.env ms d.store z r.extends Γ o t)) (λ p k.
      let hp : Over S.env good.env p.0 Γ (Has d.term (apps (Ind f.number) (join f.params f.indices))) = moved S.env good.env d.store p.0 r.sound k.extends Γ (Has d.term (apps (Ind f.number) (join f.params f.indices))) hd in
      then_finds (Motive S.env (store_of p.0) Γ f p.1) (Ok S.env good.env ms Γ o) (in_store p.0 (by at (elimination S.env (store_of p.0) Γ f p.1))) _
      (in_store_finds (Motive S.env (store_of p.0) Γ f p.1) p.0 _ (by_finds (Motive S.env (store_of p.0) Γ f p.1) at (elimination S.env (store_of p.0) Γ f p.1) (elimination_yields S.env good.env (store_of p.0) k.sound Γ f p.1 u i (known S.env true hp).0 (k_of hp)))) (λ s v.
      let w : Matched p.0 Γ f p.1 = record { t = u; is = i; ty = k_of hp; s = s; motive = v } in
      then_finds (Bodied p.0 Γ f p.1 zero) (Ok S.env good.env ms Γ o) (bodies p.0 Γ f p.1 zero f.constructors) _ (l p.0 Γ f p.1 zero f.constructors k.sound w from_first n) (λ bs b.
      let hb : Over S.env good.env bs.0 Γ (Has d.term (apps (Ind f.number) (join f.params f.indices))) = moved S.env good.env p.0 bs.0 k.sound b.extends Γ (Has d.term (apps (Ind f.number) (join f.params f.indices))) hp in
      let x : Extends (store_of ms) (store_of bs.0) = extends_twice (store_of ms) (store_of d.store) (store_of bs.0) r.extends (extends_twice (store_of d.store) (store_of p.0) (store_of bs.0) k.extends b.extends) in
      ends S good at ms Γ o (record { store = bs.0; term = Match f.number p.1 d.term bs.1; ty = motive_on_all p.1 (join f.indices (Item d.term End)) }) z t
      (record { sound = b.sound; extends = x; typed = match_has bs.0 Γ f p.1 b.sound (matched_moved p.0 bs.0 Γ f p.1 k.sound b.extends w) d.term bs.1 hb b.fitting; fits = tt }))))))))
