-- Constraints that are tried, and proofs that end.
use Rattle.std.proofs.Common.{◌≡◌, ◌<◌, ◌≤◌, ℕ, Bool, true, false, [], length, Some, refl, ap, ◌∙◌, sym, subst, arith}
use Rattle.std.specs.Prelude.{if◌then◌else◌, nat_lt, slice_get, Result, OnOk}
use Rattle.std.proofs.lemmas.Bool.Decides.{nat_tests}
use Rattle.mt_term.specs.Trees.{Tree, Bytes, Meta, End}
use Rattle.mt_term.specs.TreeOf.{tree_of}
use Rattle.mt_term.specs.MetaOf.{body_of}
use Rattle.mt_term.specs.Declarations.{Environment}
use Rattle.mt_term.specs.Reasons.{Taken, Cycle}
use Rattle.mt_term.specs.Instancing.{instance}
use Rattle.mt_term.specs.Universes.{Satisfiable}
use Rattle.mt_term.specs.UniverseOrder.{acyclic}
use Rattle.mt_term.specs.declared.terms.Term.{Term}
use Rattle.mt_universe.proofs.UniverseOrderLaws.{acyclic_decides}
use Rattle.mt_universe.specs.Graphs.{Universes, declared, IsGraph}
use Rattle.mt_resolver.specs.Resolution.{Resolution, Found, Faults}
use Rattle.mt_session.specs.declared.sessions.OpenProof.{OpenProof}
use Rattle.mt_session.specs.declared.sessions.Session.{Session}
use Rattle.mt_session.specs.Tasks.{Finish, universes_of}
use Rattle.mt_session.specs.Plans.{extra_name, ordered, finished}
use Rattle.mt_session.specs.Ready.{SoundState, goals_of}
use Rattle.mt_session.specs.Sessions.{state_in, store_in, meta_in, opened}
use Rattle.mt_session.proofs.Deriving.{plain_typed, instance_closed}
use Rattle.mt_session.proofs.Growing.{slice_last}
use Rattle.mt_session.proofs.Fitting.{nothing}

-- a graph that is the same
pub graph_same : {A F : Type 0} (r : Result A F) (h g : Universes) (x a y b : Bytes) → h ≡ g → x ≡ a → y ≡ b → OnOk r (IsGraph (declared h x y)) → OnOk r (IsGraph (declared g a b))
graph_same r h g x a y b eh ea eb k =
    subst (λ w. OnOk r (IsGraph (declared g a w))) eb (subst (λ w. OnOk r (IsGraph (declared g w y))) ea (subst (λ w. OnOk r (IsGraph (declared w x y))) eh k))

module _ (E : Environment) (g : Universes) (a b : Bytes) (at : ℕ) (e : g ≡ universes_of E) where
  -- by the two tests
  abbrev tested : Bool → Bool → Resolution (Unit {0})
  tested u v = if u then Faults (Taken (extra_name E.names a b)) at else if v then Found tt else Faults Cycle at

  by_tests : (u v p q : Bool) → u ≡ p → v ≡ q → tested u v ≡ tested p q
  by_tests u v p q f h = ap (λ t. tested t v) f ∙ ap (tested p) h

  few : (h : Universes) → length (declared h a b).names ≤ 256 → nat_lt 256 (length (declared h a b).names) ≡ false
  few h le = grind (arith, nat_tests)

  many : (h : Universes) → 256 < length (declared h a b).names → nat_lt 256 (length (declared h a b).names) ≡ true
  many h lt = grind (arith, nat_tests)

  no_cycle : (t : Bool) → (t ≡ true → ⊥) → t ≡ false
  no_cycle true n = absurd (n refl)
  no_cycle false n = refl

  pub order_found : IsGraph (declared g a b) → ordered (universes_of E) a b at ≡ Found nothing
  order_found h =
      let k : IsGraph (declared (universes_of E) a b) = subst (λ u. IsGraph (declared u a b)) e h in
      by_tests _ _ false true (few (universes_of E) k.few) ((acyclic_decides (declared (universes_of E) a b).below).1 k.satisfiable)

  pub order_many : 256 < length (declared g a b).names → ordered (universes_of E) a b at ≡ Faults (Taken (extra_name g.names a b)) at
  order_many h =
      let k : 256 < length (declared (universes_of E) a b).names = subst (λ u. 256 < length (declared u a b).names) e h in
      by_tests _ _ true (acyclic (declared (universes_of E) a b).below) (many (universes_of E) k) refl ∙ ap (λ (u : Universes). Faults (Taken (extra_name u.names a b)) at) (sym e)

  pub order_cycle : length (declared g a b).names ≤ 256 → (Satisfiable (declared g a b).below → ⊥) → ordered (universes_of E) a b at ≡ Faults Cycle at
  order_cycle h n =
      let k : length (declared (universes_of E) a b).names ≤ 256 = subst (λ u. length (declared u a b).names ≤ 256) e h in
      let m : Satisfiable (declared (universes_of E) a b).below → ⊥ = subst (λ u. Satisfiable (declared u a b).below → ⊥) e n in
      by_tests _ _ false false (few (universes_of E) k) (no_cycle _ (λ t. m ((acyclic_decides (declared (universes_of E) a b).below).0 t)))

-- the instance of the open proof's metavariable is its body
pub finished_is : (s : Session) (p : OpenProof) (b : Term) → SoundState (state_in s) → s.proof ≡ Some p → p.body ≡ Some b → instance (state_in s).store (Meta (length s.metas) End) ≡ tree_of b
finished_is s p b h e f =
    let is : slice_get (state_in s).store (length s.metas) ≡ Some (record { context = []; ty = tree_of p.ty; body = Some (tree_of b) }) =
    ap (λ q. slice_get (store_in s.metas q) (length s.metas)) e ∙ slice_last s.metas (meta_in p) ∙ ap (λ o. Some (record { context = []; ty = tree_of p.ty; body = body_of o })) f in
    instance_closed (state_in s).store (length s.metas) (tree_of p.ty) (tree_of b) is (plain_typed (state_in s).env h.env (tree_of b) (tree_of p.ty) ((h.metas (length s.metas) _ is).body (tree_of b) refl))

pub finished_found : (s : Session) (p : OpenProof) (t : Term) (x : Bytes) (T b : Tree) (at : ℕ) → SoundState (state_in s) → s.proof ≡ Some p → p.body ≡ Some t → x ≡ p.name → T ≡ tree_of p.ty → b ≡ tree_of t → finished (state_in s) (opened (length s.metas) p) at (goals_of (length s.metas) (body_of p.body)) ≡ Found (Finish x T b)
finished_found s p t x T b at h e f ex eT eb =
    let i = finished_is s p t h e f in
    ap (λ o. finished (state_in s) (opened (length s.metas) p) at (goals_of (length s.metas) (body_of o))) f
    ∙ ap (λ v. Found (Finish p.name (tree_of p.ty) v)) (i ∙ sym eb)
    ∙ ap (λ v. Found (Finish p.name v b)) (sym eT) ∙ ap (λ v. Found (Finish v T b)) (sym ex)
