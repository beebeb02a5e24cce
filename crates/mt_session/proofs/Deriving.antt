-- States whose terms have strict derivations are derivable.
use Rattle.std.proofs.Common.{◌≡◌, ℕ, true, List, [], ◌∷◌, length, Option, Some, None, refl, ap, ◌∙◌, sym, subst}
use Rattle.std.specs.Prelude.{slice_get, option_map}
use Rattle.mt_term.specs.Trees.{Tree, Sort, Meta, End}
use Rattle.mt_term.specs.declared.universes.Sort.{Sort as AnySort}
use Rattle.mt_term.specs.Declarations.{Environment}
use Rattle.mt_term.specs.States.{Metavariable}
use Rattle.mt_term.specs.Substitution.{under}
use Rattle.mt_term.specs.Stores.{AllMetasOf, MentionsOf, Declared, Store, store_of, types_of, declared_as, InStore, Owned, MentionsHeld, by_context, by_type, by_body, Reached, at_once, onward, Acyclic, body_of}
use Rattle.mt_calculus.specs.Scopes.{Plain}
use Rattle.mt_calculus.specs.Typing.{IsContext, IsType, Has, Holds, Strict, c_empty, t_meta, k_sort}
use Rattle.mt_term.specs.Instancing.{instance, instances, valued, body_values, put_values, assigned_body}
use Rattle.mt_term.specs.Instances.{InstanceOf, InstanceContext, InstanceOfStore, inst_empty, inst_open, inst_assigned, inst_end}
use Rattle.mt_calculus.specs.SoundEnvironment.{SoundEnvironment}
use Rattle.mt_calculus.specs.SoundInstances.{SoundInstance, SoundByInstances}
use Rattle.mt_term.specs.ScriptState.{Proof, State}
use Rattle.mt_calculus.specs.Derivable.{Derivable, DerivableGoal, DerivableProof, DerivableIfOpen}
use Rattle.mt_calculus_laws.proofs.DerivationLaws.{strict_law, scope_law}
use Rattle.mt_term.proofs.Options.{some_inj}
use Rattle.mt_session.specs.Ready.{IsOpenProof, IsTyped, SoundState}
use Rattle.mt_session.proofs.Scoping.{plain_free, plain_metas, plain_instance, plain_values, plain_under}

-- the open metavariables of a store
abbrev if_open : Option Tree → Declared → Option Declared
if_open None d = Some d
if_open (Some b) d = None

abbrev only_open : Option Declared → Option Declared
only_open None = None
only_open (Some d) = if_open d.body d

unfoldable opens : Store → Store
opens S = record { at = λ n. only_open (S.at n); bound = S.bound; none = λ n h. ap only_open (S.none n h) }

-- a metavariable in the empty context, whose type and body have strict derivations and mention nothing
record IsSimple (E : Environment) (d : Declared) : Type 0 where
  pub context : d.context ≡ []
  pub sort : AnySort
  pub ty : Strict E [] (Has d.ty (Sort sort))
  pub plain : Plain 0 d.ty
  pub body : (b : Tree) → d.body ≡ Some b → Plain 0 b × Strict E [] (Has b d.ty)

-- so is a term with a type by a strict derivation
pub plain_typed : (E : Environment) → SoundEnvironment E → (t T : Tree) → Strict E [] (Has t T) → Plain 0 t
plain_typed E sound t T h = let p = (scope_law E sound [] (Has t T) h).1 in p.0

of_meta : (E : Environment) → SoundEnvironment E → (m : Metavariable) → IsTyped E m → IsSimple E (declared_as m)
of_meta E sound m t = record {
  context = ap types_of t.context;
  sort = t.sort;
  ty = t.ty;
  plain = plain_typed E sound m.ty (Sort t.sort) t.ty;
  body = λ b e. (plain_typed E sound b m.ty (t.body b e), t.body b e);
}

mention_free : (E : Environment) (d : Declared) → IsSimple E d → (k : ℕ) → MentionsHeld k d → ⊥
mention_free E d h k (by_context m) = subst (λ Γ. MentionsOf k Γ) h.context m
mention_free E d h k (by_type m) = plain_free 0 d.ty h.plain k m
mention_free E d h k (by_body b e m) = plain_free 0 b (h.body b e).0 k m

reached_free : (S : Store) (First : ℕ → Type 0) → ((k : ℕ) → First k → ⊥) → {m : ℕ} → Reached S First m → ⊥
reached_free S First free (at_once {m = m} f) = free m f
reached_free S First free (onward r e m) = reached_free S First free r

module _ (E : Environment) (sound : SoundEnvironment E) (S : Store) (simple : (n : ℕ) (d : Declared) → S.at n ≡ Some d → IsSimple E d) where
  all_owned : Owned S
  all_owned n d e =
      let h = simple n d e in record {
        context = subst (AllMetasOf (InStore S)) (sym h.context) tt;
        ty = plain_metas (InStore S) 0 d.ty h.plain;
        body = λ b g. plain_metas (InStore S) 0 b (h.body b g).0;
      }

  none_below : Acyclic S
  none_below n d e r = reached_free S (λ k. MentionsHeld k d) (mention_free E d (simple n d e)) r

  instance_of_opens : InstanceOfStore S (opens S)
  unfolding opens
  instance_of_opens = record {
    absent = λ n e. ap only_open e;
    assigned = λ n d b e g. ap only_open e ∙ ap (λ o. if_open o d) g;
    opened = λ n d e g. (
      d,
      ap only_open e ∙ ap (λ o. if_open o d) g,
      record {
        opened = g;
        context = subst (λ Γ. InstanceContext S Γ Γ) (sym (simple n d e).context) inst_empty;
        ty = plain_instance S 0 d.ty (simple n d e).plain;
      },
    );
  }

  sound_each : (n : ℕ) (d : Declared) → S.at n ≡ Some d → SoundInstance E S (opens S) d
  sound_each n d e =
      let h = simple n d e in record {
        context = [];
        is_context = subst (λ Γ. InstanceContext S Γ []) (sym h.context) inst_empty;
        ty = d.ty;
        is_ty = plain_instance S 0 d.ty h.plain;
        typed_context = c_empty;
        typed_ty = k_sort (strict_law E sound true (opens S) [] (Has d.ty (Sort h.sort)) h.ty);
        typed_body = λ b g. (b, plain_instance S 0 b (h.body b g).0, strict_law E sound true (opens S) [] (Has b d.ty) (h.body b g).1);
      }

  sound_store : SoundByInstances E S
  sound_store = record { owned = all_owned; acyclic = none_below; instance = opens S; is_instance = instance_of_opens; metavariables = sound_each }

-- ---- what is printed of an open proof

-- a term that mentions nothing is its own instance
instance_plain : (ms : List Metavariable) (t : Tree) → Plain 0 t → instance ms t ≡ t
instance_plain ms t p = plain_values (body_values ms (length ms)) 0 t p

-- so is an open metavariable on no terms
instance_open : (ms : List Metavariable) (n : ℕ) (m : Metavariable) → slice_get ms n ≡ Some m → m.body ≡ None → instance ms (Meta n End) ≡ Meta n End
instance_open [] n m is e = refl
instance_open (l ∷ ms) n m is e =
    ap (λ o. valued (option_map (put_values (body_values (l ∷ ms) (length ms))) (assigned_body o)) n End) is
    ∙ ap (λ o. valued (option_map (put_values (body_values (l ∷ ms) (length ms))) o) n End) e

-- that of one whose body is closed is the body
pub instance_closed : (ms : List Metavariable) (n : ℕ) (T b : Tree) → slice_get ms n ≡ Some (record { context = []; ty = T; body = Some b }) → Plain 0 b → instance ms (Meta n End) ≡ b
instance_closed [] n T b is p = let no : ⊥ = cc in absurd no
instance_closed (m ∷ ms) n T b is p =
    ap (λ o. valued (option_map (put_values (body_values (m ∷ ms) (length ms))) (assigned_body o)) n End) is
    ∙ ap (under End) (plain_values (body_values (m ∷ ms) (length ms)) 0 b p) ∙ plain_under b p

module _ (E : Environment) (sound : SoundEnvironment E) (ms : List Metavariable) (typed : (n : ℕ) (m : Metavariable) → slice_get ms n ≡ Some m → IsTyped E m)
    (simple : (n : ℕ) (d : Declared) → (store_of ms).at n ≡ Some d → IsSimple E d) where
  abbrev S : Store
  S = store_of ms

  goal_of : (n : ℕ) (m : Metavariable) → slice_get ms n ≡ Some m → DerivableGoal E ms (opens S) m
  goal_of n m is =
      let t = typed n m is in
      let v : instance ms m.ty ≡ m.ty = instance_plain ms m.ty (plain_typed E sound m.ty (Sort t.sort) t.ty) in
      let empty : types_of (instances ms m.context) ≡ [] = ap (λ hs. types_of (instances ms hs)) t.context in record {
        context = subst (λ Γ. Holds E true (opens S) Γ IsContext) (sym empty) c_empty;
        ty =
            subst (λ Γ. Holds E true (opens S) Γ (IsType (instance ms m.ty))) (sym empty)
            (subst (λ T. Holds E true (opens S) [] (IsType T)) (sym v) (k_sort (strict_law E sound true (opens S) [] (Has m.ty (Sort t.sort)) t.ty)));
      }

  proof_by : (p : Proof) (t : Tree) → instance ms (Meta p.root End) ≡ t → InstanceOf S (Meta p.root End) t → Holds E true (opens S) [] (Has t p.ty) → Plain 0 p.ty → DerivableProof E ms p
  proof_by p t e is h plain = record {
    open_store = opens S;
    is_instance = instance_of_opens E sound S simple;
    is_term = subst (InstanceOf S (Meta p.root End)) (sym e) is;
    is_statement = instance_plain ms p.ty plain;
    typed = subst (λ u. Holds E true (opens S) [] (Has u p.ty)) (sym e) h;
    goals = λ n m i o. goal_of n m i;
  }

  abbrev root_of : Proof → Option Tree → Metavariable
  root_of p b = record { context = []; ty = p.ty; body = b }

  there : (p : Proof) (b : Option Tree) → slice_get ms p.root ≡ Some (root_of p b) → S.at p.root ≡ Some (record { context = []; ty = p.ty; body = b })
  there p b e = ap (option_map declared_as) e

  proof_of_open : (p : Proof) → slice_get ms p.root ≡ Some (root_of p None) → DerivableProof E ms p
  unfolding opens
  proof_of_open p e =
      let d : Declared = record { context = []; ty = p.ty; body = None } in
      let at : S.at p.root ≡ Some d = there p None e in
      let h = simple p.root d at in
      proof_by p (Meta p.root End) (instance_open ms p.root (root_of p None) e refl) (inst_open (ap body_of at) inst_end)
      (subst (λ T. Holds E true (opens S) [] (Has (Meta p.root End) T)) (plain_under p.ty h.plain)
      (t_meta {d = d} c_empty (ap only_open at) c_empty (k_sort (strict_law E sound true (opens S) [] (Has p.ty (Sort h.sort)) h.ty)) refl (λ i T l. elim l [ ]))) h.plain

  proof_of_closed : (p : Proof) (b : Tree) → slice_get ms p.root ≡ Some (root_of p (Some b)) → DerivableProof E ms p
  proof_of_closed p b e =
      let d : Declared = record { context = []; ty = p.ty; body = Some b } in
      let at : S.at p.root ≡ Some d = there p (Some b) e in
      let s = simple p.root d at in
      let h = s.body b refl in
      proof_by p b (instance_closed ms p.root p.ty b e h.0)
      (subst (InstanceOf S (Meta p.root End)) (plain_under b h.0) (inst_assigned (ap body_of at) (plain_instance S 0 b h.0) inst_end))
      (strict_law E sound true (opens S) [] (Has b p.ty) h.1) s.plain

  proof_of : (p : Proof) (o : Option Tree) → slice_get ms p.root ≡ Some (root_of p o) → DerivableProof E ms p
  proof_of p None e = proof_of_open p e
  proof_of p (Some b) e = proof_of_closed p b e

module _ (s : State) (h : SoundState s) where
  simple_by : (n : ℕ) (d : Declared) (o : Option Metavariable) → slice_get s.store n ≡ o → option_map declared_as o ≡ Some d → IsSimple s.env d
  simple_by n d None is e = let no : ⊥ = cc in absurd no
  simple_by n d (Some m) is e = subst (IsSimple s.env) (some_inj e) (of_meta s.env h.env m (h.metas n m is))

  simple_at : (n : ℕ) (d : Declared) → (store_of s.store).at n ≡ Some d → IsSimple s.env d
  simple_at n d e = simple_by n d (slice_get s.store n) refl e

  derivable_if : (o : Option Proof) → IsOpenProof s.env s.store o → DerivableIfOpen s.env s.store o
  derivable_if None p = tt
  derivable_if (Some q) p = proof_of s.env h.env s.store h.metas simple_at q p.body p.is

  -- a sound state is derivable
  pub derivable : Derivable s
  derivable = record { env = h.env; store = sound_store s.env h.env (store_of s.store) simple_at; proof = derivable_if s.proof h.proof }
