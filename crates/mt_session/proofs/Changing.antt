-- What the kernel passes keeps a state sound.
use Rattle.std.proofs.Common.{◌≡◌, ℕ, zero, suc, true, List, [], ◌∷◌, ◌++◌, length, Some, None, refl, ap, ◌∙◌, sym, subst}
use Rattle.std.specs.Prelude.{slice_get}
use Rattle.mt_term.specs.Trees.{Tree, Bytes, Sort}
use Rattle.mt_term.specs.declared.universes.Sort.{Sort as AnySort}
use Rattle.mt_term.specs.Declarations.{Declaration, Definition, Environment}
use Rattle.mt_term.specs.Naming.{named, naming}
use Rattle.mt_term.specs.States.{Metavariable}
use Rattle.mt_rules.specs.Charges.{Outcome, Done, Refused, Spent}
use Rattle.mt_rules.specs.KernelCheck.{check, check_type}
use Rattle.mt_calculus.specs.Typing.{Has, Strict}
use Rattle.mt_term.specs.UniverseOrder.{acyclic}
use Rattle.mt_calculus.specs.SoundEnvironment.{SoundEnvironment, SoundEntry, sound_definition, with_entry}
use Rattle.mt_term.specs.ScriptState.{Proof, State}
use Rattle.mt_rules_laws.proofs.ReductionTheorems.{check_law, type_check_law}
use Rattle.mt_universe.proofs.UniverseOrderLaws.{acyclic_decides}
use Rattle.mt_env.specs.Names.{Distinct}
use Rattle.mt_universe.specs.Graphs.{declared}
use Rattle.mt_decl.proofs.Entries.{sound_with}
use Rattle.mt_session.specs.Tasks.{Task, Order, Begin, Close, Rest, Finish, passed, judged, universes_of, with_universes, open_goal, with_body, without_goal, with_entry_noted, changed}
use Rattle.mt_session.specs.Ready.{MentionsNothing, IsProofOf, IsOpenProof, IsTyped, SoundState, ClosesGoal, IsTaskOf}
use Rattle.mt_session.proofs.Scoping.{plain_free}
use Rattle.mt_session.proofs.Deriving.{plain_typed}
use Rattle.mt_session.proofs.Growing.{slice_last, place_more, wider_entry, wider_order, typed_more, sound_order_more}

-- ---- what the kernel passes is typed

module _ (E : Environment) (sound : SoundEnvironment E) (n left : ℕ) (z : Unit {0}) where
  type_by : (T : Tree) → MentionsNothing T → (o : Outcome AnySort) → check_type E T n ≡ o → passed o ≡ Done z left → (r : AnySort) × Strict E [] (Has T (Sort r))
  type_by T h (Done r rest) k e = (r, type_check_law E sound T r n rest h k)
  type_by T h (Refused r rest) k e = let no : ⊥ = cc in absurd no
  type_by T h Spent k e = let no : ⊥ = cc in absurd no

  type_passed : (T : Tree) → MentionsNothing T → passed (check_type E T n) ≡ Done z left → (r : AnySort) × Strict E [] (Has T (Sort r))
  type_passed T h e = type_by T h (check_type E T n) refl e

  term_passed : (T t : Tree) → MentionsNothing T → MentionsNothing t → check E t T n ≡ Done z left → (r : AnySort) × Strict E [] (Has T (Sort r)) × Strict E [] (Has t T)
  term_passed T t h k e = check_law E sound t T z n left k h e

-- ---- the parts of a state

-- a metavariable of a store where one has a body
with_body_each : (P : ℕ → Metavariable → Type 0) (n : ℕ) (t : Tree) (ms : List Metavariable) → ((m : Metavariable) → slice_get ms n ≡ Some m → P n (record { context = m.context; ty = m.ty; body = Some t })) → ((k : ℕ) (m : Metavariable) → slice_get ms k ≡ Some m → P k m) → (k : ℕ) (m : Metavariable) → slice_get (with_body n t ms) k ≡ Some m → P k m
with_body_each P n t [] new old k m is = let no : ⊥ = cc in absurd no
with_body_each P zero t (x ∷ ms) new old zero m is = let same : record { context = x.context; ty = x.ty; body = Some t } ≡ m = cc in subst (P 0) same (new x refl)
with_body_each P zero t (x ∷ ms) new old (suc k) m is = old (suc k) m is
with_body_each P (suc n) t (x ∷ ms) new old zero m is = old zero m is
with_body_each P (suc n) t (x ∷ ms) new old (suc k) m is = with_body_each (λ j. P (suc j)) n t ms new (λ j y e. old (suc j) y e) k m is

with_body_there : (n : ℕ) (t : Tree) (ms : List Metavariable) (m : Metavariable) → slice_get ms n ≡ Some m → slice_get (with_body n t ms) n ≡ Some (record { context = m.context; ty = m.ty; body = Some t })
with_body_there n t [] m is = let no : ⊥ = cc in absurd no
with_body_there zero t (x ∷ ms) m is = let same : x ≡ m = cc in ap (λ (y : Metavariable). Some (record { context = y.context; ty = y.ty; body = Some t })) same
with_body_there (suc n) t (x ∷ ms) m is = with_body_there n t ms m is

none_inside : {b : Tree} → None ≡ Some b → ⊥
none_inside e = cc

-- one more entry
pub entry_sound : (s : State) (end : ℕ) (d : Declaration) → SoundState s → SoundEntry s.env (length s.env.entries) d → Distinct (naming (s.env.entries ++ d ∷ [])) → SoundState (with_entry_noted s end d)
entry_sound s end d h new distinct =
    let E = s.env in record {
      env = sound_with E h.env d new;
      names = distinct;
      metas = λ n m is. typed_more E (with_entry E d) (wider_entry E d) m (h.metas n m is);
      proof = tt;
    }

-- one more constraint
order_sound : (s : State) (end : ℕ) (a b : Bytes) → SoundState s → s.proof ≡ None → acyclic (declared (universes_of s.env) a b).below ≡ true → SoundState (changed s end (Order a b))
order_sound s end a b h out e =
    let E = s.env in
    let E' = with_universes E (declared (universes_of E) a b) in record {
      env = sound_order_more E a b h.env ((acyclic_decides (declared (universes_of E) a b).below).0 e);
      names = h.names;
      metas = λ n m is. typed_more E E' (wider_order E a b) m (h.metas n m is);
      proof = subst (IsOpenProof E' s.store) (sym out) tt;
    }

-- a proof begins
begin_sound : (s : State) (end : ℕ) (x : Bytes) (T : Tree) → SoundState s → named s.env.entries x ≡ None → ((r : AnySort) × Strict s.env [] (Has T (Sort r))) → SoundState (changed s end (Begin x T))
begin_sound s end x T h fresh t = record {
  env = h.env;
  names = h.names;
  metas = place_more (λ n m. IsTyped s.env m) s.store (open_goal T) (record { context = refl; sort = t.0; ty = t.1; body = λ b e. absurd (none_inside e) }) h.metas;
  proof = record { body = None; is = slice_last s.store (open_goal T); goals = refl; fresh = fresh };
}

-- the proof is still the state's
fresh_of : (s : State) (p : Proof) → s.proof ≡ Some p → IsOpenProof s.env s.store s.proof → named s.env.entries p.name ≡ None
fresh_of s p is h = let o : IsProofOf s.env s.store p = subst (IsOpenProof s.env s.store) is h in o.fresh

-- a goal is closed
close_sound : (s : State) (end n : ℕ) (T t : Tree) → SoundState s → ClosesGoal s n T t → Strict s.env [] (Has t T) → SoundState (changed s end (Close n T t))
close_sound s end n T t h c typed = record {
  env = h.env;
  names = h.names;
  metas = with_body_each (λ k m. IsTyped s.env m) n t s.store
      (λ m is. let old = h.metas n m is in
      let ty : T ≡ m.ty = let same : Some (open_goal T) ≡ Some m = sym c.is ∙ is in let inner : open_goal T ≡ m = cc in ap (λ (y : Metavariable). y.ty) inner in
      record { context = old.context; sort = old.sort; ty = old.ty; body = λ b e. let same : t ≡ b = cc in subst (λ u. Strict s.env [] (Has u m.ty)) same (subst (λ U. Strict s.env [] (Has t U)) ty typed) })
      h.metas;
  proof = subst (λ q. IsOpenProof s.env (with_body n t s.store) (without_goal q)) (sym c.is_proof) (record {
    body = Some t;
    is = ap (λ k. slice_get (with_body n t s.store) k) c.root ∙ with_body_there n t s.store (open_goal T) c.is ∙ ap (λ (U : Tree). Some (record { context = []; ty = U; body = Some t })) (sym c.statement);
    goals = c.last;
    fresh = fresh_of s c.proof c.is_proof h.proof;
  });
}

-- the type of a metavariable mentions nothing
goal_free : (s : State) (h : SoundState s) (n : ℕ) (T : Tree) → slice_get s.store n ≡ Some (open_goal T) → MentionsNothing T
goal_free s h n T is = let m = h.metas n (open_goal T) is in plain_free 0 T (plain_typed s.env h.env T (Sort m.sort) m.ty)

pub changed_sound : (s : State) (end n left : ℕ) (z : Unit {0}) (k : Task) → SoundState s → IsTaskOf s k → judged s.env k n ≡ Done z left → SoundState (changed s end k)
changed_sound s end n left z (Order a b) h f e = order_sound s end a b h f.0 f.1
changed_sound s end n left z (Begin x T) h f e = begin_sound s end x T h f.2 (type_passed s.env h.env n left z T f.1 e)
changed_sound s end n left z (Close m T t) h f e = close_sound s end m T t h f (term_passed s.env h.env n left z T t (goal_free s h m T f.is) f.term e).2
changed_sound s end n left z Rest h f e = record { env = h.env; names = h.names; metas = h.metas; proof = h.proof }
changed_sound s end n left z (Finish x T b) h f e =
    let typed = term_passed s.env h.env n left z T b f.0 f.1 e in entry_sound s end (Definition x T b) h (sound_definition typed.1 typed.2) f.2
