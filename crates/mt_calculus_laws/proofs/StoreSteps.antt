-- The laws over sound stores: instances, a new open metavariable, and an assignment.
use Rattle.std.proofs.Common.{Bool, true, false, ◌≡◌, ◌≢◌, ◌<◌, eqb, ◌⊎◌, inl, inr, ℕ, suc, List, Some, None, refl, sym, ap, ap₂, ◌∙◌, subst, subst₂, arith}
use Rattle.std.proofs.lemmas.Bool.Decides.{eqb_tells}
use Rattle.mt_term.specs.Trees.{Tree, Trees, Var}
use Rattle.mt_term.specs.Substitution.{tr}
use Rattle.mt_term.specs.Declarations.{Environment}
use Rattle.mt_term.specs.Stores.{Declared, Store, AllMetas, AllMetasOf, AllMetasHeld, InStore, Owned, Mentions, by_context, by_type, by_body, at_once, onward, Reaches, Below}
use Rattle.mt_calculus.specs.Typing.{Judgement, IsContext, IsType, Has, Stands, Holds}
use Rattle.mt_calculus_laws.specs.Laws.{tr_judgement, tr_context}
use Rattle.mt_term.specs.Instances.{InstanceOf, InstanceContext, InstanceOfStore}
use Rattle.mt_calculus.specs.SoundStore.{SoundStore}
use Rattle.mt_calculus.specs.SoundInstances.{SoundInstance, SoundByInstances}
use Rattle.mt_calculus_laws.specs.StoreLaws.{InstanceJudgement, of_context, of_type, of_has, of_stands, OneInstanceLaw, InstanceLaw, SoundInstancesLaw, DeclareLaw, AssignLaw}
use Rattle.mt_term.specs.StoreChanges.{Puts, with_body}
use Rattle.mt_calculus_laws.proofs.Steps.{ClosedEnv}
use Rattle.mt_calculus_laws.proofs.Images.{some_of}
use Rattle.mt_term.proofs.Options.{some_inj}
use Rattle.mt_calculus_laws.proofs.Renames.{larger_store}
use Rattle.mt_calculus_laws.proofs.Instance.{Shut, inst_owned}
use Rattle.mt_calculus_laws.proofs.Below.{SoundBelow, below, below_inv, below_has, cases, unfolding_law, by_instances_context, by_instances_ty, by_instances_body}
use Rattle.mt_calculus_laws.proofs.Extend.{most, le_most, next, next_n, next_other, next_owned, next_rank, next_sound, next_all}
use Rattle.mt_calculus_laws.proofs.Declare.{more, more_rank, more_sound, more_owned, more_all, more_here, lower_owned}
use Rattle.mt_term.proofs.ReachLaws.{all_of_held, held_of_all, reaches_in, reaches_below, below_reaches, in_bound, RankedAll}
use Rattle.mt_calculus_laws.proofs.SoundStoreLaws.{Ranks, to_ranks, from_ranks}
use Rattle.mt_calculus_laws.proofs.InstanceLaws.{none_kept, none_shut, image, instance_store, instance_is, instance_context_is, has_instance, context_has_instance, is_instance, same_instance}
use Rattle.mt_calculus_laws.proofs.EnvironmentLaws.{closed_environment}

module _ (E : Environment) (S : Store) (closed : ClosedEnv E) (sound : SoundStore E S) where
  abbrev k : Ranks E S
  k = to_ranks E S sound closed

  abbrev own : Owned S
  own = sound.owned

  abbrev f : ℕ → Trees → Tree
  f = image S k.rank own k.falls

  abbrev I : Store
  I = instance_store S k.rank own k.falls

  shut : Shut S none_kept
  shut = none_shut S k.rank own k.falls

  pub one_instance : (t : Tree) → (u : Tree) × InstanceOf S t u × ((v : Tree) → InstanceOf S t v → v ≡ u)
  one_instance t = (tr f Var t, has_instance S k.rank own k.falls t, λ v h. sym (instance_is S k.rank own k.falls h))

  unfolded : (Γ : List Tree) (J : Judgement) → Holds E true S Γ J → Holds E true I (tr_context f Γ) (tr_judgement f Var J)
  unfolded Γ J h = unfolding_law E true closed S k.rank own k.falls k.sound none_kept shut Γ J h

  instance_owned : Owned I
  instance_owned = inst_owned S k.rank none_kept (λ n d b e h. (k.falls n d e).body b h) own shut

  judgement_is : {J J' : Judgement} → InstanceJudgement S J J' → tr_judgement f Var J ≡ J'
  judgement_is of_context = refl
  judgement_is (of_type h) = ap IsType (instance_is S k.rank own k.falls h)
  judgement_is (of_has h g) = ap₂ Has (instance_is S k.rank own k.falls h) (instance_is S k.rank own k.falls g)
  judgement_is (of_stands h) = ap Stands (instance_is S k.rank own k.falls h)

  pub instance_judged : (S' : Store) → InstanceOfStore S S' → (Γ Γ' : List Tree) (J J' : Judgement) → InstanceContext S Γ Γ' → InstanceJudgement S J J' → Holds E true S Γ J → Holds E true S' Γ' J'
  instance_judged S' i Γ Γ' J J' c j h =
      larger_store E true closed I S' instance_owned (same_instance S k.rank own k.falls S' i) Γ' J'
      (subst₂ (λ Δ K. Holds E true I Δ K) (instance_context_is S k.rank own k.falls c) (judgement_is j) (unfolded Γ J h))

  pub by_instances : SoundByInstances E S
  by_instances = record { owned = own; acyclic = λ n d e. (sound.metavariables n d e).apart; instance = I; is_instance = is_instance S k.rank own k.falls; metavariables = one }
    where
      one : (n : ℕ) (d : Declared) → S.at n ≡ Some d → SoundInstance E S I d
      one n d e = record {
        context = tr_context f (d.context);
        is_context = context_has_instance S k.rank own k.falls (d.context);
        ty = tr f Var (d.ty);
        is_ty = has_instance S k.rank own k.falls (d.ty);
        typed_context = by_instances_context E true closed S k.rank own k.falls k.sound none_kept shut n d e;
        typed_ty = by_instances_ty E true closed S k.rank own k.falls k.sound none_kept shut n d e;
        typed_body = λ b h. (tr f Var b, has_instance S k.rank own k.falls b, by_instances_body E true closed S k.rank own k.falls k.sound none_kept shut n d b e h);
      }

pub one_instance_law : OneInstanceLaw
one_instance_law E S env sound t = one_instance E S (closed_environment E env) sound t

pub instance_law : InstanceLaw
instance_law E S S' env sound i Γ Γ' J J' c j h = instance_judged E S (closed_environment E env) sound S' i Γ Γ' J J' c j h

pub sound_instances_law : SoundInstancesLaw
sound_instances_law E S env sound = by_instances E S (closed_environment E env) sound

-- a store with the same metavariables
module _ (E : Environment) (closed : ClosedEnv E) (S S' : Store) (same : (m : ℕ) → S.at m ≡ S'.at m) where
  same_owned : Owned S → Owned S'
  same_owned own n d e = all_of_held (InStore S') d (λ m x. let q = held_of_all (InStore S) m d (own n d (same n ∙ e)) x in λ z. q (same m ∙ z))

  same_ranks : Owned S → Ranks E S → Ranks E S'
  same_ranks own k = record { rank = k.rank; falls = λ n d e. k.falls n d (same n ∙ e); sound = λ n d e. moved n d (k.sound n d (same n ∙ e)) }
    where
      to : (j : ℕ) (Γ : List Tree) (J : Judgement) → Holds E true (below S k.rank j) Γ J → Holds E true (below S' k.rank j) Γ J
      to j Γ J h = larger_store E true closed (below S k.rank j) (below S' k.rank j) (lower_owned E true closed S own k.rank k.falls j) (λ m c e. let q = below_inv S k.rank j m c e in below_has S' k.rank j m c q.0 (sym (same m) ∙ q.1)) Γ J h

      moved : (n : ℕ) (d : Declared) → SoundBelow E true S k.rank n d → SoundBelow E true S' k.rank n d
      moved n d w = record { context = to (k.rank n) (d.context) IsContext w.context; ty = to (k.rank n) (d.context) (IsType (d.ty)) w.ty; body = λ b h. to (k.rank n) (d.context) (Has b (d.ty)) (w.body b h) }

  pub same_sound : Owned S → Ranks E S → SoundStore E S'
  same_sound own k = from_ranks E closed S' (same_owned own) (same_ranks own k)

-- A new open metavariable.
module _ (E : Environment) (closed : ClosedEnv E) (S : Store) (sound : SoundStore E S) (n : ℕ) (d : Declared) (new : S.at n ≡ None) (opened : d.body ≡ None)
    (own_context : AllMetasOf (InStore S) (d.context)) (own_ty : AllMetas (InStore S) (d.ty)) (context : Holds E true S (d.context) IsContext) (ty : Holds E true S (d.context) (IsType (d.ty))) where
  abbrev κ : Ranks E S
  κ = to_ranks E S sound closed

  pub declared_sound : (S' : Store) → Puts S n d S' → SoundStore E S'
  declared_sound S' put = same_sound E closed M S' same owned (record { rank = ρ; falls = all; sound = parts })
    where
      M : Store
      M = more E true closed S (sound.owned) (κ.rank) (κ.falls) (κ.sound) n new d opened context ty own_context own_ty

      ρ : ℕ → ℕ
      ρ = more_rank E true closed S (sound.owned) (κ.rank) (κ.falls) (κ.sound) n new d opened context ty own_context own_ty

      owned : Owned M
      owned = more_owned E true closed S (sound.owned) (κ.rank) (κ.falls) (κ.sound) n new d opened context ty own_context own_ty

      all : RankedAll M ρ
      all = more_all E true closed S (sound.owned) (κ.rank) (κ.falls) (κ.sound) n new d opened context ty own_context own_ty

      parts : (m : ℕ) (c : Declared) → M.at m ≡ Some c → SoundBelow E true M ρ m c
      parts = more_sound E true closed S (sound.owned) (κ.rank) (κ.falls) (κ.sound) n new d opened context ty own_context own_ty

      same : (m : ℕ) → M.at m ≡ S'.at m
      same m = go (more_here E true closed S (sound.owned) (κ.rank) (κ.falls) (κ.sound) n new d opened context ty own_context own_ty m)
        where
          go : ((n ≡ m) × (M.at m ≡ Some d)) ⊎ ((n ≢ m) × (M.at m ≡ S.at m)) → M.at m ≡ S'.at m
          go (inl x) = x.1 ∙ sym (put.new) ∙ ap S'.at x.0
          go (inr x) = x.1 ∙ sym (put.others m x.0)

pub declare_law : DeclareLaw
declare_law E S S' env sound n d new opened own_context own_ty context ty put = declared_sound E (closed_environment E env) S sound n d new opened own_context own_ty context ty S' put

-- The assignment of an open metavariable.
module _ (E : Environment) (closed : ClosedEnv E) (S : Store) (sound : SoundStore E S) (n : ℕ) (d : Declared) (v : Tree) (at_n : S.at n ≡ Some d) (opened : d.body ≡ None) (own_v : AllMetas (InStore S) v) (far : Reaches S v n → ⊥) (typed : Holds E true S (d.context) (Has v (d.ty))) where
  abbrev π : Ranks E S
  π = to_ranks E S sound closed

  abbrev given : Declared
  given = with_body d v

  own_given : AllMetasHeld (InStore S) given
  own_given = let o = sound.owned n d at_n in record { context = o.context; ty = o.ty; body = λ b h. subst (AllMetas (InStore S)) (some_inj h) own_v }

  abbrev top : ℕ
  top = suc (most (π.rank) (S.bound))

  in_top : (m : ℕ) → InStore S m → (π.rank) m < top
  in_top m h =
      let z = some_of (S.at m) h in
      let l : m < S.bound = in_bound S m z.0 z.1 in
      omega (arith, le_most (π.rank) (S.bound) m (omega (arith, l)))

  low_given : AllMetasHeld (λ j. (π.rank) j < top) given
  low_given = all_of_held (λ j. (π.rank) j < top) given (λ j x. in_top j (held_of_all (InStore S) j given own_given x))

  abbrev P : ℕ → Bool
  P m = reaches_in S top given m

  in_p : (m : ℕ) → Below S given m → P m ≡ true
  in_p m h = below_reaches S (π.rank) (π.falls) top given low_given m h

  from_p : (m : ℕ) → P m ≡ true → Below S given m
  from_p m h = reaches_below S top given m h

  closed_p : Shut S P
  closed_p m c p g = all_of_held (λ j. P j ≡ true) c (λ j x. in_p j (onward (from_p m p) g x))

  of_given : AllMetasHeld (λ j. P j ≡ true) given
  of_given = all_of_held (λ j. P j ≡ true) given (λ j x. in_p j (at_once x))

  -- what is reached is below n as it was, or reached by the value
  split : (m : ℕ) → Below S given m → Below S d m ⊎ Reaches S v m
  split m (at_once (by_context h)) = inl (at_once (by_context h))
  split m (at_once (by_type h)) = inl (at_once (by_type h))
  split m (at_once (by_body b e h)) = inr (at_once (subst (Mentions m) (sym (some_inj e)) h))
  split m (onward {k = j} {d = c} r e x) = go (split j r)
    where
      go : Below S d j ⊎ Reaches S v j → Below S d m ⊎ Reaches S v m
      go (inl y) = inl (onward y e x)
      go (inr y) = inr (onward y e x)

  apart : P n ≡ false
  apart = go (cases (P n))
    where
      no : Below S d n ⊎ Reaches S v n → ⊥
      no (inl h) = (sound.metavariables n d at_n).apart h
      no (inr h) = far h

      go : (P n ≡ true) ⊎ (P n ≡ false) → P n ≡ false
      go (inl h) = absurd (no (split n (from_p n h)))
      go (inr h) = h

  pub assigned_sound : (S' : Store) → Puts S n given S' → SoundStore E S'
  assigned_sound S' put = same_sound E closed N S' same owned (record { rank = ρ; falls = all; sound = parts })
    where
      N : Store
      N = next E closed S (sound.owned) (π.rank) (π.falls) (π.sound) P closed_p n d at_n opened v typed apart (of_given.context) (of_given.ty) (of_given.body v refl) own_v

      ρ : ℕ → ℕ
      ρ = next_rank E closed S (sound.owned) (π.rank) (π.falls) (π.sound) P closed_p n d at_n opened v typed apart (of_given.context) (of_given.ty) (of_given.body v refl) own_v

      owned : Owned N
      owned = next_owned E closed S (sound.owned) (π.rank) (π.falls) (π.sound) P closed_p n d at_n opened v typed apart (of_given.context) (of_given.ty) (of_given.body v refl) own_v

      all : RankedAll N ρ
      all = next_all E closed S (sound.owned) (π.rank) (π.falls) (π.sound) P closed_p n d at_n opened v typed apart (of_given.context) (of_given.ty) (of_given.body v refl) own_v

      parts : (m : ℕ) (c : Declared) → N.at m ≡ Some c → SoundBelow E true N ρ m c
      parts = next_sound E closed S (sound.owned) (π.rank) (π.falls) (π.sound) P closed_p n d at_n opened v typed apart (of_given.context) (of_given.ty) (of_given.body v refl) own_v

      same : (m : ℕ) → N.at m ≡ S'.at m
      same m = go (eqb_tells n m)
        where
          go : ((eqb n m ≡ true) × (n ≡ m)) ⊎ ((eqb n m ≡ false) × (n ≢ m)) → N.at m ≡ S'.at m
          go (inl x) = ap N.at (sym x.1) ∙ next_n E closed S (sound.owned) (π.rank) (π.falls) (π.sound) P closed_p n d at_n opened v typed apart (of_given.context) (of_given.ty) (of_given.body v refl) own_v ∙ sym (put.new) ∙ ap S'.at x.1
          go (inr x) = next_other E closed S (sound.owned) (π.rank) (π.falls) (π.sound) P closed_p n d at_n opened v typed apart (of_given.context) (of_given.ty) (of_given.body v refl) own_v m x.1 ∙ sym (put.others m x.1)

pub assign_law : AssignLaw
assign_law E S S' env sound n d v at_n opened own_v far typed put = assigned_sound E (closed_environment E env) S sound n d v at_n opened own_v far typed S' put
