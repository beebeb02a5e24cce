-- What a unit asks for fits the state.
use Rattle.std.proofs.Common.{◌≡◌, ℕ, Bool, true, false, List, [], ◌∷◌, ◌++◌, length, Option, Some, None, refl, ap, ◌∙◌, sym, subst}
use Rattle.std.specs.Prelude.{slice_get, drop, if◌then◌else◌, nat_lt}
use Rattle.mt_term.specs.Trees.{Tree, Bytes, Sort, Const, Meta, End}
use Rattle.mt_term.specs.Declarations.{Definition, Environment}
use Rattle.mt_term.specs.Reasons.{Reason, Taken, Cycle, NotHere}
use Rattle.mt_term.specs.Naming.{named, naming}
use Rattle.mt_term.specs.States.{Metavariable}
use Rattle.mt_term.specs.Substitution.{under}
use Rattle.mt_term.specs.Instancing.{instance}
use Rattle.mt_term.specs.ScriptState.{Proof, State}
use Rattle.mt_term.specs.UniverseOrder.{acyclic}
use Rattle.mt_calculus.specs.Scopes.{Plain}
use Rattle.mt_env.specs.Names.{Distinct}
use Rattle.mt_env.proofs.NameLaws.{distinct_more}
use Rattle.mt_env.proofs.NamingLaws.{naming_last}
use Rattle.mt_universe.specs.Graphs.{declared}
use Rattle.mt_decl.proofs.Free.{none_of, resolved_finds}
use Rattle.mt_tiny.specs.declared.Tiny.{Tiny}
use Rattle.mt_tiny.specs.declared.Tiny.TheVariants as tiny
use Rattle.mt_term_parser.specs.Written.{Written}
use Rattle.mt_unit_parser.specs.WrittenUnits as written
use Rattle.mt_unit_parser.specs.WrittenUnits.{WrittenKind, WrittenAction, Deed, Exact}
use Rattle.mt_resolver.specs.Resolution.{Resolution, Found, Faults, then_found}
use Rattle.mt_session.specs.Tasks.{Task, Order, Begin, Close, Rest, Finish, universes_of}
use Rattle.mt_session.specs.Plans.{is_built_kind, fresh_by, fresh, closed_term, extra_name, ordered, asked_by_command, closed_by, asked_by_deed, asked_by_step, finished, asked_by_proof, asked_in, asked}
use Rattle.mt_session.specs.Ready.{MentionsNothing, goals_of, IsProofOf, IsOpenProof, SoundState, IsTaskOf}
use Rattle.mt_session.proofs.Deriving.{plain_typed, instance_closed}
use Rattle.mt_session.proofs.Scoping.{plain_free}

pub found_then : {A B : Type 0} (r : Resolution A) (k : A → Resolution B) (b : B) → then_found r k ≡ Found b → (a : A) × (r ≡ Found a) × (k a ≡ Found b)
found_then (Found a) k b e = (a, refl, e)
found_then (Faults r at) k b e = let no : ⊥ = cc in absurd no

abbrev pub nothing : Unit {0}
nothing = tt

-- the number of the first goal
abbrev first_number : List (ℕ × Bool) → ℕ
first_number [] = 0
first_number (g ∷ more) = g.0

module _ (E : Environment) where
  closed_found : (w : Written) (t : Tree) → closed_term E w ≡ Found t → MentionsNothing t
  closed_found w t e = none_of t (resolved_finds E [] w t e)

  fresh_found : (x : Bytes) (at : ℕ) (o : Option Tree) (z : Unit {0}) → fresh_by o x at ≡ Found z → o ≡ None
  fresh_found x at None z e = refl
  fresh_found x at (Some t) z e = let no : ⊥ = cc in absurd no

  order_by : (a b x : Bytes) (at : ℕ) (u v : Bool) → (if u then Faults (Taken x) at else if v then Found nothing else Faults Cycle at) ≡ Found nothing → v ≡ true
  order_by a b x at true v e = let no : ⊥ = cc in absurd no
  order_by a b x at false true e = refl
  order_by a b x at false false e = let no : ⊥ = cc in absurd no

  order_task : (s : State) → s.env ≡ E → s.proof ≡ None → (a b : Bytes) (at : ℕ) (k : Task) → then_found (ordered (universes_of E) a b at) (λ _. Found (Order a b)) ≡ Found k → IsTaskOf s k
  order_task s same out a b at k e =
      let q = found_then (ordered (universes_of E) a b at) (λ _. Found (Order a b)) k e in
      let f = q.2 in let is : Order a b ≡ k = cc in
      let yes = order_by a b (extra_name E.names a b) at (nat_lt 256 (length (declared (universes_of E) a b).names)) (acyclic (declared (universes_of E) a b).below) q.1 in
      subst (IsTaskOf s) is (out, subst (λ F. acyclic (declared (universes_of F) a b).below ≡ true) (sym same) yes)

  theorem_task : (x : Bytes) (T : Written) (at : ℕ) (k : Task) → asked_by_command E at (written.Theorem x T) ≡ Found k → (A : Tree) × (Begin x A ≡ k) × MentionsNothing A × (named E.entries x ≡ None)
  theorem_task x T at k e =
      let q = found_then (fresh E x at) (λ _. then_found (closed_term E T) (λ A. Found (Begin x A))) k e in
      let r = found_then (closed_term E T) (λ A. Found (Begin x A)) k q.2 in
      let f = r.2 in (r.0, cc, closed_found T r.0 r.1, fresh_found x at (named E.entries x) q.0 q.1)

  -- a definition of a new name
  definition_new : (x : Bytes) (T b : Tree) → Distinct (naming E.entries) → named E.entries x ≡ None → Distinct (naming (E.entries ++ Definition x T b ∷ []))
  definition_new x T b distinct fresh =
      subst Distinct (sym (naming_last E.entries (Definition x T b))) (distinct_more (naming E.entries) (x, Const (length E.entries)) distinct fresh)

module _ (s : State) (h : SoundState s) where
  no_way : {A : Type 0} {r : Reason} {at : ℕ} {k : Task} → Faults r at ≡ Found k → A
  no_way e = let no : ⊥ = cc in absurd no

  command_task : s.proof ≡ None → (at : ℕ) (c : WrittenKind) (k : Task) → asked_by_command s.env at c ≡ Found k → IsTaskOf s k
  command_task out at (written.Constraint a b) k e = order_task s.env s refl out a b at k e
  command_task out at (written.Axiom x T) k e = no_way e
  command_task out at (written.Definition x T t) k e = no_way e
  command_task out at (written.Theorem x T) k e = let r = theorem_task s.env x T at k e in subst (IsTaskOf s) r.1 (out, r.2, r.3)
  command_task out at (written.Inductive co gs ts) k e = no_way e
  command_task out at (written.Recursive co fs) k e = no_way e
  command_task out at (written.Hint n vs es l r) k e = no_way e
  command_task out at (written.Coercion x) k e = no_way e
  command_task out at written.Qed k e = no_way e
  command_task out at (written.Step t) k e = no_way e
  command_task out at (written.Block t) k e = no_way e

  module _ (p : Proof) (is : s.proof ≡ Some p) (o : IsProofOf s.env s.store p) where
    -- where a goal is there, it is the first metavariable, which is open
    closing : (b : Option Tree) (g : ℕ × Bool) (more : List (ℕ × Bool)) (t : Tree) → slice_get s.store p.root ≡ Some (record { context = []; ty = p.ty; body = b }) → goals_of p.root b ≡ g ∷ more → p.goals ≡ g ∷ more → MentionsNothing t → IsTaskOf s (Close g.0 p.ty t)
    closing None g more t at same goals c =
        let root : p.root ≡ g.0 = ap (λ (xs : List (ℕ × Bool)). first_number xs) same in
        let rest : [] ≡ more = ap (λ (xs : List (ℕ × Bool)). drop 1 xs) same in
        record { proof = p; is_proof = is; root = root; statement = refl; last = ap (λ (xs : List (ℕ × Bool)). drop 1 xs) goals ∙ sym rest; is = ap (slice_get s.store) (sym root) ∙ at; term = c }
    closing (Some b) g more t at same goals c = let no : ⊥ = cc in absurd no

    closed_task : (gs : List (ℕ × Bool)) (at : ℕ) (w : Written) (k : Task) → p.goals ≡ gs → closed_by s p at gs w ≡ Found k → IsTaskOf s k
    closed_task [] at w k goals e = no_way e
    closed_task (g ∷ more) at w k goals e =
        let q = found_then (closed_term s.env w) (λ b. Found (Close g.0 p.ty b)) k e in
        let f = q.2 in let same : Close g.0 p.ty q.0 ≡ k = cc in
        subst (IsTaskOf s) same (closing o.body g more q.0 o.is (sym o.goals ∙ goals) goals (closed_found s.env w q.0 q.1))

    deed_task : (at : ℕ) (d : Deed) (k : Task) → asked_by_deed s p at d ≡ Found k → IsTaskOf s k
    deed_task at (Exact w) k e = closed_task p.goals at w k refl e
    deed_task at (written.Intro x) k e = no_way e
    deed_task at (written.Refine t) k e = no_way e
    deed_task at (written.Apply t) k e = no_way e
    deed_task at (written.Cut t) k e = no_way e
    deed_task at (written.Lapply t) k e = no_way e
    deed_task at (written.Change t) k e = no_way e
    deed_task at written.Whd k e = no_way e
    deed_task at written.Normalize k e = no_way e
    deed_task at written.Assumption k e = no_way e
    deed_task at (written.Constructor n) k e = no_way e
    deed_task at (written.Generalize t) k e = no_way e
    deed_task at (written.Clear x) k e = no_way e
    deed_task at (written.Cases t) k e = no_way e
    deed_task at (written.Elim t) k e = no_way e

    step_task : (at : ℕ) (t : Tiny WrittenAction) (k : Task) → asked_by_step s p at t ≡ Found k → IsTaskOf s k
    step_task at (tiny.Action a) k e = deed_task at a.deed k e
    step_task at tiny.Dot k e = let same : Rest ≡ k = cc in subst (IsTaskOf s) same tt
    step_task at tiny.Semicolon k e = no_way e
    step_task at tiny.BranchOpen k e = no_way e
    step_task at tiny.Bar k e = no_way e
    step_task at tiny.BranchClose k e = no_way e
    step_task at (tiny.Positions ns) k e = no_way e
    step_task at tiny.Wildcard k e = no_way e
    step_task at (tiny.Focus ns) k e = no_way e
    step_task at tiny.Unfocus k e = no_way e
    step_task at tiny.Skip k e = no_way e

    finishing : (b : Option Tree) → slice_get s.store p.root ≡ Some (record { context = []; ty = p.ty; body = b }) → goals_of p.root b ≡ [] → IsTaskOf s (Finish p.name p.ty (instance s.store (Meta p.root End)))
    finishing None at same = let no : ⊥ = cc in absurd no
    finishing (Some b) at same =
        let m = h.metas p.root _ at in
        let plain = plain_typed s.env h.env b p.ty (m.body b refl) in
        subst (λ t. IsTaskOf s (Finish p.name p.ty t)) (sym (instance_closed s.store p.root p.ty b at plain))
        (plain_free 0 p.ty (plain_typed s.env h.env p.ty (Sort m.sort) m.ty), plain_free 0 b plain, definition_new s.env p.name p.ty b h.names o.fresh)

    finished_task : (gs : List (ℕ × Bool)) (at : ℕ) (k : Task) → p.goals ≡ gs → finished s p at gs ≡ Found k → IsTaskOf s k
    finished_task [] at k goals e =
        let same : Finish p.name p.ty (instance s.store (Meta p.root End)) ≡ k = cc in
        subst (IsTaskOf s) same (finishing o.body o.is (sym o.goals ∙ goals))
    finished_task (g ∷ more) at k goals e = no_way e

    proof_task : (at : ℕ) (c : WrittenKind) (k : Task) → asked_by_proof s p at c ≡ Found k → IsTaskOf s k
    proof_task at (written.Step t) k e = step_task at t k e
    proof_task at written.Qed k e = finished_task p.goals at k refl e
    proof_task at (written.Constraint a b) k e = no_way e
    proof_task at (written.Axiom x T) k e = no_way e
    proof_task at (written.Definition x T t) k e = no_way e
    proof_task at (written.Theorem x T) k e = no_way e
    proof_task at (written.Inductive co gs ts) k e = no_way e
    proof_task at (written.Recursive co fs) k e = no_way e
    proof_task at (written.Hint n vs es l r) k e = no_way e
    proof_task at (written.Coercion x) k e = no_way e
    proof_task at (written.Block t) k e = no_way e

  task_in : (o : Option Proof) → s.proof ≡ o → IsOpenProof s.env s.store o → (at : ℕ) (c : WrittenKind) (k : Task) → asked_in s o at c ≡ Found k → IsTaskOf s k
  task_in None is p at c k e = command_task is at c k e
  task_in (Some q) is p at c k e = proof_task q is p at c k e

  task_by : (b : Bool) (at : ℕ) (c : WrittenKind) (k : Task) → (if b then asked_in s s.proof at c else Faults NotHere at) ≡ Found k → IsTaskOf s k
  task_by true at c k e = task_in s.proof refl h.proof at c k e
  task_by false at c k e = no_way e

  pub asked_task : (at : ℕ) (c : WrittenKind) (k : Task) → asked s at c ≡ Found k → IsTaskOf s k
  asked_task at c k e = task_by (is_built_kind c) at c k e
