-- Bodies of the last metavariable of a store.
use Rattle.std.proofs.Common.{◌≡◌, ℕ, List, [], ◌∷◌, ◌++◌, length, Option, Some, None, refl, ap, sym, subst, ◌∙◌}
use Rattle.mt_term.specs.Trees.{Tree}
use Rattle.mt_term.specs.States.{Metavariable}
use Rattle.mt_term.specs.TreeOf.{tree_of}
use Rattle.mt_session.specs.declared.sessions.OpenProof.{OpenProof}
use Rattle.mt_term.specs.ScriptState.{Proof, State}
use Rattle.mt_term.specs.declared.terms.Term.{Term}
use Rattle.mt_session.specs.declared.sessions.Session.{Session}
use Rattle.mt_session.specs.declared.tasks.Task.{Task as ProgramTask}
use Rattle.mt_session.specs.declared.tasks.Task.TheVariants as task
use Rattle.mt_session.specs.Ready.{ClosesGoal, IsTaskOf}
use Rattle.mt_session.specs.Sessions.{meta_in, opened, proof_in, state_in, store_in, task_of}
use Rattle.mt_session.specs.Tasks.{Close, changed, with_body}

pub with_body_past : (ms : List Metavariable) (t : Tree) → with_body (length ms) t ms ≡ ms
with_body_past [] t = refl
with_body_past (m ∷ ms) t = ap (λ l. m ∷ l) (with_body_past ms t)

pub with_body_last : (ms : List Metavariable) (m : Metavariable) (t : Tree) → with_body (length ms) t (ms ++ m ∷ []) ≡ ms ++ record { context = m.context; ty = m.ty; body = Some t } ∷ []
with_body_last [] m t = refl
with_body_last (x ∷ ms) m t = ap (λ l. x ∷ l) (with_body_last ms m t)

-- the store of the open proof, whose body is given
pub closes_none : (p : Option OpenProof) (ms : List Metavariable) (t : Tree) → p ≡ None → ms ≡ with_body (length ms) t (store_in ms p)
closes_none p ms t e = sym (ap (λ q. with_body (length ms) t (store_in ms q)) e ∙ with_body_past ms t)

pub closes_some : (p : Option OpenProof) (q : OpenProof) (ms : List Metavariable) (t : Tree) → p ≡ Some q → ms ++ record { context = []; ty = tree_of q.ty; body = Some t } ∷ [] ≡ with_body (length ms) t (store_in ms p)
closes_some p q ms t e = sym (ap (λ r. with_body (length ms) t (store_in ms r)) e ∙ with_body_last ms (meta_in q) t)

-- the number of the open proof's first metavariable
root_by : (n : ℕ) (o : Option OpenProof) (p : Proof) → proof_in n o ≡ Some p → n ≡ p.root
root_by n None p e = let no : ⊥ = cc in absurd no
root_by n (Some q) p e = let same : opened n q ≡ p = cc in ap (λ (x : Proof). x.root) same

-- the goal that a task closes is that of the open proof
pub close_state : (s : Session) (end : ℕ) (k : ProgramTask) (n : ℕ) (T t : Term) (new : State) → k ≡ task.Close n T t → IsTaskOf (state_in s) (task_of k) → ((U : Tree) → new ≡ changed (state_in s) end (Close (length s.metas) U (tree_of t))) → new ≡ changed (state_in s) end (task_of k)
close_state s end k n T t new e fits all =
    let f : ClosesGoal (state_in s) n (tree_of T) (tree_of t) = subst (λ x. IsTaskOf (state_in s) (task_of x)) e fits in
    let r = root_by (length s.metas) s.proof f.proof f.is_proof in
    all (tree_of T) ∙ ap (λ x. changed (state_in s) end (Close x (tree_of T) (tree_of t))) (r ∙ f.root) ∙ ap (λ x. changed (state_in s) end (task_of x)) (sym e)
