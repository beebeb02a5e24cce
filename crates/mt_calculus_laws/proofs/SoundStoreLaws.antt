-- A store is sound over what is below each metavariable exactly where it is sound over the parts of lower numbers, for numbers that fall along what is below.
use Rattle.std.proofs.Common.{Bool, true, ◌≡◌, ◌≢◌, ◌≤◌, ◌<◌, ◌+◌, ◌⊎◌, inl, inr, ℕ, zero, suc, List, Option, Some, None, refl, sym, ap, ◌∙◌, subst, arith, eq-or-lt_of_le, le_of_suc-le-suc, le_antisymm}
use Rattle.mt_term.specs.Trees.{Tree}
use Rattle.mt_term.specs.Declarations.{Environment}
use Rattle.mt_term.specs.Stores.{Declared, Store, AllMetasOf, AllMetasHeld, InStore, Owned, MentionsHeld, at_once, onward, Below}
use Rattle.mt_calculus.specs.Typing.{Judgement, JudgementMetas, IsContext, IsType, Has, Holds}
use Rattle.mt_calculus.specs.SoundStore.{SoundMetavariable, SoundStore, Part}
use Rattle.mt_calculus_laws.proofs.Steps.{ClosedEnv}
use Rattle.mt_calculus_laws.proofs.Images.{some_of, is_some_at}
use Rattle.mt_term.proofs.Options.{none_some, some_inj}
use Rattle.mt_calculus_laws.proofs.Renames.{larger_store}
use Rattle.mt_calculus_laws.proofs.Instance.{Shut}
use Rattle.mt_calculus_laws.proofs.Below.{SoundBelow, below, below_inv, below_has}
use Rattle.mt_calculus_laws.proofs.Extend.{part, part_inv, part_same, narrow}
use Rattle.mt_calculus_laws.proofs.Declare.{lower_owned}
use Rattle.mt_term.proofs.ReachLaws.{below_below, all_of_held, held_of_all, rank_falls, reaches_in, reaches_below, below_reaches, in_bound, RankedAll}

-- a store is sound over the parts of lower numbers
pub record Ranks (E : Environment) (S : Store) : Type 0 where
  pub rank : ℕ → ℕ
  pub falls : RankedAll S rank
  pub sound : (n : ℕ) (d : Declared) → S.at n ≡ Some d → SoundBelow E true S rank n d

-- the part of lower numbers is sound in the same way
module _ (E : Environment) (closed : ClosedEnv E) (S : Store) (own : Owned S) (r : ℕ → ℕ) (all : RankedAll S r) (sound : (n : ℕ) (d : Declared) → S.at n ≡ Some d → SoundBelow E true S r n d) where
  own_low : (k : ℕ) → Owned (below S r k)
  own_low k = lower_owned E true closed S own r all k

  all_low : (k : ℕ) → RankedAll (below S r k) r
  all_low k m c e = all m c (below_inv S r k m c e).1

  sound_low : (k m : ℕ) (c : Declared) → (below S r k).at m ≡ Some c → SoundBelow E true (below S r k) r m c
  sound_low k m c e =
      let q = below_inv S r k m c e in
      let w = sound m c q.1 in
      record { context = to m q.0 (c.context) IsContext w.context; ty = to m q.0 (c.context) (IsType (c.ty)) w.ty; body = λ b h. to m q.0 (c.context) (Has b (c.ty)) (w.body b h) }
    where
      to : (m : ℕ) → r m < k → (Γ : List Tree) (J : Judgement) → Holds E true (below S r (r m)) Γ J → Holds E true (below (below S r k) r (r m)) Γ J
      to m l Γ J h = larger_store E true closed (below S r (r m)) (below (below S r k) r (r m)) (own_low (r m)) (λ i a e. let q = below_inv S r (r m) i a e in let l' : r i < k = omega (arith, q.0, l) in below_has (below S r k) r (r m) i a q.0 (below_has S r k i a l' q.1)) Γ J h

  -- what is below one metavariable
  module _ (n : ℕ) (d : Declared) (e : S.at n ≡ Some d) where
    abbrev B : Store
    B = below S r (r n)

    abbrev P : ℕ → Bool
    P m = reaches_in S (r n) d m

    in_p : (m : ℕ) → Below S d m → P m ≡ true
    in_p m h = below_reaches S r all (r n) d (all n d e) m h

    from_p : (m : ℕ) → P m ≡ true → Below S d m
    from_p m h = reaches_below S (r n) d m h

    shut : Shut B P
    shut m c p g = all_of_held (λ k. P k ≡ true) c (λ k x. in_p k (onward (from_p m p) (below_inv S r (r n) m c g).1 x))

    of_d : AllMetasHeld (λ k. P k ≡ true) d
    of_d = all_of_held (λ k. P k ≡ true) d (λ k x. in_p k (at_once x))

    abbrev Q : Store
    Q = part E closed B (own_low (r n)) r (all_low (r n)) (sound_low (r n)) P shut

    narrowed : (Γ : List Tree) (J : Judgement) → AllMetasOf (λ k. P k ≡ true) Γ → JudgementMetas (λ k. P k ≡ true) J → Holds E true B Γ J → Holds E true Q Γ J
    narrowed Γ J g j h = narrow E closed B (own_low (r n)) r (all_low (r n)) (sound_low (r n)) P shut Γ J g j h

    is_part : Part S (Below S d) Q
    is_part = record { held = held; all = has }
      where
        held : (m : ℕ) (c : Declared) → Q.at m ≡ Some c → Below S d m × (S.at m ≡ Some c)
        held m c g = let q = part_inv E closed B (own_low (r n)) r (all_low (r n)) (sound_low (r n)) P shut m c g in (from_p m q.0, (below_inv S r (r n) m c q.1).1)

        has : (m : ℕ) (c : Declared) → Below S d m → S.at m ≡ Some c → Q.at m ≡ Some c
        has m c h g = part_same E closed B (own_low (r n)) r (all_low (r n)) (sound_low (r n)) P shut m (in_p m h) ∙ below_has S r (r n) m c (rank_falls S r all n d e m h) g

    pub sound_part : SoundMetavariable E S n d
    sound_part =
        let w = sound n d e in
        record { apart = λ h. let l : r n < r n = rank_falls S r all n d e n h in omega (arith, l); part = Q; is_part = is_part; context = narrowed (d.context) IsContext of_d.context tt w.context; ty = narrowed (d.context) (IsType (d.ty)) of_d.context of_d.ty w.ty; body = λ b h. narrowed (d.context) (Has b (d.ty)) of_d.context (of_d.body b h, of_d.ty) (w.body b h) }

pub from_ranks : (E : Environment) → ClosedEnv E → (S : Store) → Owned S → Ranks E S → SoundStore E S
from_ranks E closed S own k = record { owned = own; metavariables = λ n d e. sound_part E closed S own k.rank k.falls k.sound n d e }

-- how many metavariables a store has, of numbers less than a bound
abbrev counted : Option Declared → ℕ
counted None = 0
counted (Some d) = 1

abbrev members : Store → ℕ → ℕ
members T zero = 0
members T (suc k) = counted (T.at k) + members T k

counted_le : (o p : Option Declared) → ((c : Declared) → o ≡ Some c → p ≢ None) → counted o ≤ counted p
counted_le None p h = omega arith
counted_le (Some c) None h = absurd (h c refl refl)
counted_le (Some c) (Some d) h = omega arith

members_le : (T U : Store) → ((m : ℕ) (c : Declared) → T.at m ≡ Some c → InStore U m) → (k : ℕ) → members T k ≤ members U k
members_le T U h zero = omega arith
members_le T U h (suc k) =
    let a = counted_le (T.at k) (U.at k) (λ c e. h k c e) in
    let b = members_le T U h k in
    omega (arith, a, b)

members_less : (T U : Store) → ((m : ℕ) (c : Declared) → T.at m ≡ Some c → InStore U m) → (m : ℕ) (d : Declared) → U.at m ≡ Some d → T.at m ≡ None → (k : ℕ) → m < k → members T k < members U k
members_less T U h m d u t zero l = absurd (omega (arith, l))
members_less T U h m d u t (suc k) l = go (λ c. members_less T U h m d u t k c) (eq-or-lt_of_le (le_of_suc-le-suc l))
  where
    go : (m < k → members T k < members U k) → (m ≡ k) ⊎ (m < k) → counted (T.at k) + members T k < counted (U.at k) + members U k
    go ih (inl e) =
        let a : counted (T.at k) ≡ 0 = ap (λ i. counted (T.at i)) (sym e) ∙ ap counted t in
        let b : counted (U.at k) ≡ 1 = ap (λ i. counted (U.at i)) (sym e) ∙ ap counted u in
        let c = members_le T U h k in
        omega (arith, a, b, c)
    go ih (inr c) =
        let a = counted_le (T.at k) (U.at k) (λ c e. h k c e) in
        let b = ih c in
        omega (arith, a, b)

module _ (E : Environment) (S : Store) (sound : SoundStore E S) where
  abbrev size_of : (n : ℕ) (o : Option Declared) → S.at n ≡ o → ℕ
  size_of n None e = 0
  size_of n (Some d) e = members ((sound.metavariables n d e).part) (S.bound)

  -- how many there are below a metavariable
  abbrev pub depth : ℕ → ℕ
  depth n = size_of n (S.at n) refl

  part_grows : (n : ℕ) (c d : Declared) (p : S.at n ≡ Some c) (e : S.at n ≡ Some d) → (m : ℕ) (a : Declared) → ((sound.metavariables n c p).part).at m ≡ Some a → InStore ((sound.metavariables n d e).part) m
  part_grows n c d p e m a g =
      let q = (sound.metavariables n c p).is_part.held m a g in
      let same : c ≡ d = some_inj (sym p ∙ e) in
      is_some_at ((sound.metavariables n d e).is_part.all m a (subst (λ x. Below S x m) same q.0) q.1)

  depth_is : (n : ℕ) (d : Declared) (e : S.at n ≡ Some d) → depth n ≡ members ((sound.metavariables n d e).part) (S.bound)
  depth_is n d e = go (S.at n) refl
    where
      go : (o : Option Declared) (p : S.at n ≡ o) → size_of n o p ≡ members ((sound.metavariables n d e).part) (S.bound)
      go None p = absurd (none_some (sym p ∙ e))
      go (Some c) p = le_antisymm (members_le ((sound.metavariables n c p).part) ((sound.metavariables n d e).part) (part_grows n c d p e) (S.bound)) (members_le ((sound.metavariables n d e).part) ((sound.metavariables n c p).part) (part_grows n d c e p) (S.bound))

  depth_falls : (n : ℕ) (d : Declared) → S.at n ≡ Some d → (m : ℕ) (c : Declared) → Below S d m → S.at m ≡ Some c → depth m < depth n
  depth_falls n d e m c h g =
      let T : Store = (sound.metavariables m c g).part in
      let U : Store = (sound.metavariables n d e).part in
      let a : depth m ≡ members T (S.bound) = depth_is m c g in
      let b : depth n ≡ members U (S.bound) = depth_is n d e in
      let l : members T (S.bound) < members U (S.bound) = members_less T U grows m c ((sound.metavariables n d e).is_part.all m c h g) (absent (T.at m) refl) (S.bound) (in_bound S m c g) in
      omega (arith, a, b, l)
    where
      grows : (j : ℕ) (a : Declared) → ((sound.metavariables m c g).part).at j ≡ Some a → InStore ((sound.metavariables n d e).part) j
      grows j a q = let p = (sound.metavariables m c g).is_part.held j a q in is_some_at ((sound.metavariables n d e).is_part.all j a (go j p.0) p.1)
        where
          go : (j : ℕ) → Below S c j → Below S d j
          go j r = below_below S d c m j h g r

      absent : (o : Option Declared) → ((sound.metavariables m c g).part).at m ≡ o → ((sound.metavariables m c g).part).at m ≡ None
      absent None q = q
      absent (Some a) q = absurd ((sound.metavariables m c g).apart ((sound.metavariables m c g).is_part.held m a q).0)

  falls : RankedAll S depth
  falls n d e = all_of_held (λ m. depth m < depth n) d (λ m x. let z = some_of (S.at m) (held_of_all (InStore S) m d (sound.owned n d e) x) in depth_falls n d e m z.0 (at_once x) z.1)

  module _ (closed : ClosedEnv E) where
    low : (n : ℕ) (d : Declared) → S.at n ≡ Some d → SoundBelow E true S depth n d
    low n d e = record { context = to (d.context) IsContext w.context; ty = to (d.context) (IsType (d.ty)) w.ty; body = λ b h. to (d.context) (Has b (d.ty)) (w.body b h) }
      where
        w : SoundMetavariable E S n d
        w = sound.metavariables n d e

        owned : Owned (w.part)
        owned m c g = all_of_held (InStore (w.part)) c in_part
          where
            in_part : (k : ℕ) → MentionsHeld k c → InStore (w.part) k
            in_part k x =
                let q = w.is_part.held m c g in
                let z = some_of (S.at k) (held_of_all (InStore S) k c (sound.owned m c q.1) x) in
                is_some_at (w.is_part.all k z.0 (onward q.0 q.1 x) z.1)

        to : (Γ : List Tree) (J : Judgement) → Holds E true (w.part) Γ J → Holds E true (below S depth (depth n)) Γ J
        to Γ J h = larger_store E true closed (w.part) (below S depth (depth n)) owned (λ m c g. let q = w.is_part.held m c g in below_has S depth (depth n) m c (depth_falls n d e m c q.0 q.1) q.1) Γ J h

    pub to_ranks : Ranks E S
    to_ranks = record { rank = depth; falls = falls; sound = low }
