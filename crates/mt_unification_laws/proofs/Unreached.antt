-- Where the test says that a metavariable is not reached, it is not.
use Rattle.std.specs.Prelude.{◌≡◌, refl, ℕ, zero, suc, List, [], ◌∷◌, length, nat_eq, Bool, true, false, ◌||◌, Option, Some, None, option_map, slice_get}
use Rattle.std.proofs.Common.{sym, ap, ap₂, ◌∙◌, subst}
use Rattle.std.proofs.lemmas.Bool.Decides.{Decides-eqb}
use Rattle.mt_term.specs.Trees.{Tree, Trees, Arms, Var, Sort, Prod, Lam, App, Const, Ind, Con, Match, Meta, End, Item, NoArm, Arm}
use Rattle.mt_term.specs.Declarations.{Hypothesis}
use Rattle.mt_term.specs.States.{Metavariable}
use Rattle.mt_term.specs.Stores.{Declared, types_onto, declared_as, store_of, AllMetas, AllMetasIn, AllMetasArms, AllMetasOf, AllMetasHeld, Mentions, Reached, at_once, onward, Reaches}
use Rattle.mt_term.proofs.ReachLaws.{term_of_all, held_of_all}
use Rattle.mt_rules_laws.proofs.Yields.{some_is, nothing, untrue}
use Rattle.mt_unification_rules.specs.Reach.{some_meta, some_meta_all, some_meta_arms, some_meta_of, some_meta_in, some_meta_held, leads_to, reaches}
use Rattle.mt_unification_rules.specs.Placeholders.{Metas}

neither : (a b : Bool) → (a || b) ≡ false → (a ≡ false) × (b ≡ false)
neither true b e = untrue (sym e)
neither false b e = (refl, e)

none_of : {a b : Bool} → a ≡ false → b ≡ false → (a || b) ≡ false
none_of e f = ap₂ ◌||◌ e f

-- no metavariable passes the test
module _ (p : ℕ → Bool) where
  abbrev No : ℕ → Type 0
  No n = p n ≡ false

  mutual
    term_no : (t : Tree) → some_meta p t ≡ false → AllMetas No t
    term_no (Var i) e = tt
    term_no (Sort s) e = tt
    term_no (Prod x a b) e = let q = neither (some_meta p a) (some_meta p b) e in (term_no a q.0, term_no b q.1)
    term_no (Lam x a b) e = let q = neither (some_meta p a) (some_meta p b) e in (term_no a q.0, term_no b q.1)
    term_no (App f a) e = let q = neither (some_meta p f) (some_meta p a) e in (term_no f q.0, term_no a q.1)
    term_no (Const c) e = tt
    term_no (Ind c) e = tt
    term_no (Con c k) e = tt
    term_no (Match c r d bs) e =
        let q = neither (some_meta p r) (some_meta p d || some_meta_arms p bs) e in
        let o = neither (some_meta p d) (some_meta_arms p bs) q.1 in
        (term_no r q.0, term_no d o.0, arms_no bs o.1)
    term_no (Meta n s) e = let q = neither (p n) (some_meta_all p s) e in (q.0, all_no s q.1)

    all_no : (s : Trees) → some_meta_all p s ≡ false → AllMetasIn No s
    all_no End e = tt
    all_no (Item t s) e = let q = neither (some_meta p t) (some_meta_all p s) e in (term_no t q.0, all_no s q.1)

    arms_no : (bs : Arms) → some_meta_arms p bs ≡ false → AllMetasArms No bs
    arms_no NoArm e = tt
    arms_no (Arm xs b bs) e = let q = neither (some_meta p b) (some_meta_arms p bs) e in (term_no b q.0, arms_no bs q.1)

  context_no : (hs : List Hypothesis) (Γ : List Tree) → some_meta_of p hs ≡ false → AllMetasOf No Γ → AllMetasOf No (types_onto hs Γ)
  context_no [] Γ e a = a
  context_no (h ∷ hs) Γ e a = let q = neither (some_meta p h.ty) (some_meta_of p hs) e in context_no hs (h.ty ∷ Γ) q.1 (term_no h.ty q.0, a)

  body_no : (o : Option Tree) → some_meta_in p o ≡ false → (b : Tree) → o ≡ Some b → AllMetas No b
  body_no None e b h = nothing h
  body_no (Some c) e b h = subst (AllMetas No) (some_is h) (term_no c e)

  held_no : (m : Metavariable) → some_meta_held p (Some m) ≡ false → AllMetasHeld No (declared_as m)
  held_no m e =
      let q = neither (some_meta_of p m.context) (some_meta p m.ty || some_meta_in p m.body) e in
      let o = neither (some_meta p m.ty) (some_meta_in p m.body) q.1 in
      record { context = context_no m.context [] q.0 tt; ty = term_no m.ty o.0; body = body_no m.body o.1 }

-- a test that fewer pass
module _ (p q : ℕ → Bool) (h : (n : ℕ) → p n ≡ false → q n ≡ false) where
  mutual
    term_fewer : (t : Tree) → some_meta p t ≡ false → some_meta q t ≡ false
    term_fewer (Var i) e = refl
    term_fewer (Sort s) e = refl
    term_fewer (Prod x a b) e = let o = neither (some_meta p a) (some_meta p b) e in none_of (term_fewer a o.0) (term_fewer b o.1)
    term_fewer (Lam x a b) e = let o = neither (some_meta p a) (some_meta p b) e in none_of (term_fewer a o.0) (term_fewer b o.1)
    term_fewer (App f a) e = let o = neither (some_meta p f) (some_meta p a) e in none_of (term_fewer f o.0) (term_fewer a o.1)
    term_fewer (Const c) e = refl
    term_fewer (Ind c) e = refl
    term_fewer (Con c k) e = refl
    term_fewer (Match c r d bs) e =
        let o = neither (some_meta p r) (some_meta p d || some_meta_arms p bs) e in
        let i = neither (some_meta p d) (some_meta_arms p bs) o.1 in
        none_of (term_fewer r o.0) (none_of (term_fewer d i.0) (arms_fewer bs i.1))
    term_fewer (Meta n s) e = let o = neither (p n) (some_meta_all p s) e in none_of (h n o.0) (all_fewer s o.1)

    all_fewer : (s : Trees) → some_meta_all p s ≡ false → some_meta_all q s ≡ false
    all_fewer End e = refl
    all_fewer (Item t s) e = let o = neither (some_meta p t) (some_meta_all p s) e in none_of (term_fewer t o.0) (all_fewer s o.1)

    arms_fewer : (bs : Arms) → some_meta_arms p bs ≡ false → some_meta_arms q bs ≡ false
    arms_fewer NoArm e = refl
    arms_fewer (Arm xs b bs) e = let o = neither (some_meta p b) (some_meta_arms p bs) e in none_of (term_fewer b o.0) (arms_fewer bs o.1)

  context_fewer : (hs : List Hypothesis) → some_meta_of p hs ≡ false → some_meta_of q hs ≡ false
  context_fewer [] e = refl
  context_fewer (x ∷ hs) e = let o = neither (some_meta p x.ty) (some_meta_of p hs) e in none_of (term_fewer x.ty o.0) (context_fewer hs o.1)

  body_fewer : (o : Option Tree) → some_meta_in p o ≡ false → some_meta_in q o ≡ false
  body_fewer None e = refl
  body_fewer (Some b) e = term_fewer b e

  held_fewer : (o : Option Metavariable) → some_meta_held p o ≡ false → some_meta_held q o ≡ false
  held_fewer None e = refl
  held_fewer (Some m) e =
      let o = neither (some_meta_of p m.context) (some_meta p m.ty || some_meta_in p m.body) e in
      let i = neither (some_meta p m.ty) (some_meta_in p m.body) o.1 in
      none_of (context_fewer m.context o.0) (none_of (term_fewer m.ty i.0) (body_fewer m.body i.1))

module _ (ms : Metas) (n : ℕ) where
  -- seen further, no more leads to n than before
  further : (k m : ℕ) → leads_to ms n k m ≡ false → leads_to ms n (suc k) m ≡ false
  further zero m e = untrue (sym e)
  further (suc k) m e =
      let q = neither (nat_eq m n) (some_meta_held (leads_to ms n k) (slice_get ms m)) e in
      none_of q.0 (held_fewer (leads_to ms n k) (leads_to ms n (suc k)) (further k) (slice_get ms m) q.1)

  -- what does not lead to n is closed, and n is no part of it
  closed : (k m : ℕ) (d : Declared) → leads_to ms n k m ≡ false → (store_of ms).at m ≡ Some d → AllMetasHeld (λ j. leads_to ms n k j ≡ false) d
  closed zero m d e g = untrue (sym e)
  closed (suc k) m d e g = go (slice_get ms m) (neither (nat_eq m n) (some_meta_held (leads_to ms n k) (slice_get ms m)) e).1 g
    where
      go : (o : Option Metavariable) → some_meta_held (leads_to ms n k) o ≡ false → option_map declared_as o ≡ Some d → AllMetasHeld (λ j. leads_to ms n (suc k) j ≡ false) d
      go None f h = nothing h
      go (Some c) f h = subst (AllMetasHeld (λ j. leads_to ms n (suc k) j ≡ false)) (some_is h) (held_no (leads_to ms n (suc k)) c (held_fewer (leads_to ms n k) (leads_to ms n (suc k)) (further k) (Some c) f))

  itself : (k : ℕ) → leads_to ms n k n ≡ true
  itself zero = refl
  itself (suc k) = ap (λ b. b || some_meta_held (leads_to ms n k) (slice_get ms n)) ((Decides-eqb n n).1 refl)

  pub unreached : (t : Tree) → reaches ms t n ≡ false → Reaches (store_of ms) t n → ⊥
  unreached t e h = untrue (sym (stays n h) ∙ itself (suc (length ms)))
    where
      start : AllMetas (λ j. leads_to ms n (suc (length ms)) j ≡ false) t
      start = term_no (leads_to ms n (suc (length ms))) t e

      stays : (m : ℕ) → Reached (store_of ms) (λ j. Mentions j t) m → leads_to ms n (suc (length ms)) m ≡ false
      stays m (at_once f) = term_of_all (λ j. leads_to ms n (suc (length ms)) j ≡ false) m t start f
      stays m (onward {k = k} {d = d} r g f) = held_of_all (λ j. leads_to ms n (suc (length ms)) j ≡ false) m d (closed (suc (length ms)) k d (stays k r) g) f
