-- The store that unification leaves has each metavariable of the one before; and the reason of a refusal.
use Rattle.std.specs.Prelude.{◌≡◌, ℕ, zero, suc, List, [], ◌∷◌, nat_eq, Bool, true, false, not, ◌&&◌, Option, Some, None, is_none, reverse, slice_get}
use Rattle.std.proofs.Common.{sym, ap, ◌∙◌}
use Rattle.mt_term.specs.Substitution.{under, join}
use Rattle.mt_term.specs.Spines.{item_at}
use Rattle.mt_term.specs.States.{Equation, Hint, is_open}
use Rattle.mt_term.specs.Trees.{Tree, Trees, Sort, Prod, Lam, App, Match, Meta, End, Item}
use Rattle.mt_term.specs.Declarations.{Hypothesis, Environment}
use Rattle.mt_term.specs.Reasons.{Reason, Mismatch}
use Rattle.mt_rules.specs.Charges.{Outcome, Done, Refused, Spent, Charged, give, refuse, ◌>>=◌, charge, or_else, tried}
use Rattle.mt_term.specs.Stores.{store_of}
use Rattle.mt_term.specs.Alike.{is_alike}
use Rattle.mt_rules.specs.WeakHead.{step}
use Rattle.mt_term.specs.Instancing.{instance}
use Rattle.mt_rules.specs.Comparison.{same_shapes}
use Rattle.mt_rules.specs.Inference.{infer}
use Rattle.mt_term.specs.declared.modes.Mode.{Mode}
use Rattle.mt_term.specs.declared.modes.Mode.TheVariants.{Equal, AtMost as Below}
use Rattle.mt_rules_laws.proofs.Yields.{Yields, gives, refuses, charges, then_yields, tries, so_yields, fixed_yields}
use Rattle.mt_calculus_laws.proofs.AlikeLaws.{both}
use Rattle.mt_unification_rules.specs.Reach.{reaches}
use Rattle.mt_unification_rules.specs.TakingBack.{taken_back}
use Rattle.mt_unification_rules.specs.Hints.{Candidate, with_variables, first_terms}
use Rattle.mt_unification_rules.specs.Placeholders.{Metas, placeholder}
use Rattle.mt_unification_rules.specs.Unification.{Question, known, only_if, same_meta, same_bodies, given, assign, assign_side, by_assignment, by_terms, by_parts, by_equations, by_sides, by_direction, by_hints, is_higher, rank, on_step, by_step, by_types, by_bodies, by_rules, unify_by, unified, unify}
use Rattle.mt_unification_laws.specs.UnificationLaws.{Grows, UnificationGrowthLaw, UnificationRefusalLaw}
use Rattle.mt_unification_laws.proofs.StoreGrowth.{grows_same, grows_twice, appended, set_grows}
use Rattle.mt_unification_laws.proofs.Conditions.{known_yields, only_if_yields, either_yields, none_is}
use Rattle.mt_unification_laws.proofs.UnificationAllowance.{unified-is}

given_grows : (ms : Metas) (n : ℕ) (v : Tree) → Yields (given ms n v) (Grows ms)
given_grows ms n v =
    then_yields (λ m. slice_get ms n ≡ Some m) (Grows ms) (known (slice_get ms n)) _ (known_yields (slice_get ms n)) (λ m e.
    then_yields (λ z. (is_none m.body && not (reaches ms v n)) ≡ true) (Grows ms) (only_if (is_none m.body && not (reaches ms v n))) _ (only_if_yields _) (λ z o.
    gives (Grows ms) _ (set_grows ms n m v e (none_is m.body (both (is_none m.body) (not (reaches ms v n)) o).0))))

pub variables_grow : (ms : Metas) (Γ xs : List Hypothesis) (us : Trees) → Grows ms ((with_variables ms Γ xs us).0)
variables_grow ms Γ [] us = grows_same ms
variables_grow ms Γ (x ∷ xs) us =
    let p = placeholder ms Γ (under us x.ty) in
    grows_twice ms p.store _ (appended ms _) (variables_grow p.store Γ xs (join us (Item p.term End)))

module _ (E : Environment) (again : Question → Charged Metas) (ih : (q : Question) → Yields (again q) (Grows q.0)) where
  -- after another part
  on : {A : Type 0} (ms : Metas) (m : Charged A) (f : A → Charged Metas) → ((a : A) → Yields (f a) (Grows ms)) → Yields (m >>= f) (Grows ms)
  on ms m f y = then_yields (λ a. Unit {0}) (Grows ms) m f (λ n a r e. tt) (λ a z. y a)

  -- after a question
  on_again : (ms : Metas) (Γ : List Hypothesis) (mode : Mode) (t u : Tree) (f : Metas → Charged Metas) → ((ms' : Metas) → Yields (f ms') (Grows ms')) → Yields (again (ms, Γ, mode, t, u) >>= f) (Grows ms)
  on_again ms Γ mode t u f y =
      then_yields (Grows ms) (Grows ms) (again (ms, Γ, mode, t, u)) f (ih (ms, Γ, mode, t, u)) (λ ms' g.
      so_yields (Grows ms') (Grows ms) (f ms') (λ ms'' h. grows_twice ms ms' ms'' g h) (y ms'))

  assign_grows : (ms : Metas) (n : ℕ) (s : Trees) (u : Tree) → Yields (assign E again ms n s u) (Grows ms)
  assign_grows ms n s u =
      on ms (known (taken_back s (instance ms u))) _ (λ v. on ms (only_if (not (reaches ms v n))) _ (λ z. on ms (known (slice_get ms n)) _ (λ m.
      on ms (infer E (store_of ms) (reverse m.context) v) _ (λ t. on_again ms (reverse m.context) Below t m.ty _ (λ ms'. given_grows ms' n v)))))

  assign_side_grows : (ms : Metas) (t u : Tree) → Yields (assign_side E again ms t u) (Grows ms)
  assign_side_grows ms (Meta n s) u = on ms (only_if (is_open (slice_get ms n))) _ (λ z. assign_grows ms n s u)
  assign_side_grows ms t u = refuses (Grows ms) _

  by_assignment_grows : (ms : Metas) (t u : Tree) → Yields (by_assignment E again ms t u) (Grows ms)
  by_assignment_grows ms t u = on ms (only_if (not (same_meta t u))) _ (λ z. tries (Grows ms) _ _ (assign_side_grows ms t u) (assign_side_grows ms u t))

  by_terms_grows : (ms : Metas) (Γ : List Hypothesis) (s r : Trees) → Yields (by_terms E again ms Γ s r) (Grows ms)
  by_terms_grows ms Γ End End = gives (Grows ms) ms (grows_same ms)
  by_terms_grows ms Γ (Item t s) (Item u r) = on_again ms Γ Equal t u _ (λ ms'. by_terms_grows ms' Γ s r)
  by_terms_grows ms Γ s r = refuses (Grows ms) _

  by_parts_grows : (ms : Metas) (Γ : List Hypothesis) (t u : Tree) → Yields (by_parts E again ms Γ t u) (Grows ms)
  by_parts_grows ms Γ (App f a) (App g b) = on_again ms Γ Equal f g _ (λ ms'. ih (ms', Γ, Equal, a, b))
  by_parts_grows ms Γ (Lam x a b) (Lam y c d) = on_again ms Γ Equal a c _ (λ ms'. ih (ms', record { name = x; ty = a } ∷ Γ, Equal, b, d))
  by_parts_grows ms Γ (Match e r c bs) (Match f p d cs) =
      on ms (only_if (nat_eq e f && same_shapes bs cs)) _ (λ z. on_again ms Γ Equal r p _ (λ ms'. on_again ms' Γ Equal c d _ (λ ms''.
      on ms'' (same_bodies E (store_of ms'') bs cs) _ (λ z. gives (Grows ms'') ms'' (grows_same ms'')))))
  by_parts_grows ms Γ (Meta n s) (Meta m r) = on ms (only_if (nat_eq n m && is_open (slice_get ms n))) _ (λ z. by_terms_grows ms Γ s r)
  by_parts_grows ms Γ t u = refuses (Grows ms) _

  on_step_grows : (ms : Metas) (Γ : List Hypothesis) (mode : Mode) (f g : Tree → Tree) (m : Charged Metas) → Yields m (Grows ms) → (o : Option Tree) → Yields (on_step E again (λ v. (ms, Γ, mode, f v, g v)) m o) (Grows ms)
  on_step_grows ms Γ mode f g m y None = y
  on_step_grows ms Γ mode f g m y (Some v) = ih (ms, Γ, mode, f v, g v)

  by_step_grows : (ms : Metas) (Γ : List Hypothesis) (mode : Mode) (t u : Tree) (m : Charged Metas) → Yields m (Grows ms) → Yields (by_step E again ms Γ mode t u m) (Grows ms)
  by_step_grows ms Γ mode t u m y = either_yields (Grows ms) (is_higher (rank u) (rank t)) _ _ (λ e. right _ (left m y)) (left _ (right m y))
    where
      left : (m : Charged Metas) → Yields m (Grows ms) → Yields (step E (store_of ms) t >>= on_step E again (λ v. (ms, Γ, mode, v, u)) m) (Grows ms)
      left m y = on ms (step E (store_of ms) t) _ (on_step_grows ms Γ mode (λ v. v) (λ v. u) m y)

      right : (m : Charged Metas) → Yields m (Grows ms) → Yields (step E (store_of ms) u >>= on_step E again (λ v. (ms, Γ, mode, t, v)) m) (Grows ms)
      right m y = on ms (step E (store_of ms) u) _ (on_step_grows ms Γ mode (λ v. t) (λ v. v) m y)

  by_types_grows : (ms : Metas) (Γ : List Hypothesis) (mode : Mode) (t u : Tree) → Yields (by_types E again ms Γ mode t u) (Grows ms)
  by_types_grows ms Γ mode (Sort s) (Sort r) = either_yields (Grows ms) _ _ _ (λ e. gives (Grows ms) ms (grows_same ms)) (refuses (Grows ms) _)
  by_types_grows ms Γ mode (Prod x a b) (Prod y c d) = on_again ms Γ Equal a c _ (λ ms'. ih (ms', record { name = x; ty = a } ∷ Γ, mode, b, d))
  by_types_grows ms Γ mode t u = refuses (Grows ms) _

  by_bodies_grows : (ms : Metas) (Γ : List Hypothesis) (mode : Mode) (t u : Tree) (o p : Option Tree) (m : Charged Metas) → Yields m (Grows ms) → Yields (by_bodies E again (λ v. (ms, Γ, mode, v, u)) (λ v. (ms, Γ, mode, t, v)) o p m) (Grows ms)
  by_bodies_grows ms Γ mode t u (Some v) p m y = charges (Grows ms) _ (ih (ms, Γ, mode, v, u))
  by_bodies_grows ms Γ mode t u None (Some v) m y = charges (Grows ms) _ (ih (ms, Γ, mode, t, v))
  by_bodies_grows ms Γ mode t u None None m y = y

  by_equations_grows : (Γ : List Hypothesis) (us : Trees) (es : List Equation) (ms : Metas) → Yields (by_equations again Γ us es ms) (Grows ms)
  by_equations_grows Γ us [] ms = gives (Grows ms) ms (grows_same ms)
  by_equations_grows Γ us (e ∷ es) ms =
      on ms (known (item_at us e.place)) _ (λ x. on_again ms Γ Equal x (under (first_terms e.place us) e.term) _ (λ ms'. by_equations_grows Γ us es ms'))

  by_sides_grows : (Γ : List Hypothesis) (h : Hint) (v : Metas × Trees) (t u : Tree) → Yields (by_sides again Γ h v t u) (Grows v.0)
  by_sides_grows Γ h v t u =
      on_again v.0 Γ Equal (under v.1 h.left) t _ (λ ms. on_again ms Γ Equal (under v.1 h.right) u _ (λ ms'. by_equations_grows Γ v.1 h.eqs ms'))

  by_direction_grows : (ms : Metas) (Γ : List Hypothesis) (t u : Tree) (h : Hint) (swapped : Bool) → Yields (by_direction again ms Γ t u h swapped) (Grows ms)
  by_direction_grows ms Γ t u h false = let v = with_variables ms Γ h.vars End in so_yields (Grows v.0) (Grows ms) _ (λ ms' g. grows_twice ms v.0 ms' (variables_grow ms Γ h.vars End) g) (by_sides_grows Γ h v t u)
  by_direction_grows ms Γ t u h true = let v = with_variables ms Γ h.vars End in so_yields (Grows v.0) (Grows ms) _ (λ ms' g. grows_twice ms v.0 ms' (variables_grow ms Γ h.vars End) g) (by_sides_grows Γ h v u t)

  by_hints_grows : (ms : Metas) (Γ : List Hypothesis) (t u : Tree) (cs : List Candidate) → Yields (by_hints again ms Γ t u cs) (Grows ms)
  by_hints_grows ms Γ t u [] = refuses (Grows ms) _
  by_hints_grows ms Γ t u (c ∷ cs) = tries (Grows ms) _ _ (charges (Grows ms) _ (by_direction_grows ms Γ t u c.hint c.swapped)) (by_hints_grows ms Γ t u cs)

  by_rules_grows : (H : List Hint) (ms : Metas) (Γ : List Hypothesis) (mode : Mode) (t u : Tree) → Yields (by_rules E again H ms Γ mode t u) (Grows ms)
  by_rules_grows H ms Γ mode t u =
      either_yields (Grows ms) (is_alike t u) (give ms) _ (λ e. gives (Grows ms) ms (grows_same ms))
      (by_bodies_grows ms Γ mode t u _ _ _
      (tries (Grows ms) _ _ (by_assignment_grows ms t u)
      (tries (Grows ms) _ _ (by_parts_grows ms Γ t u)
      (tries (Grows ms) _ _ (by_hints_grows ms Γ t u _)
      (by_step_grows ms Γ mode t u _ (by_types_grows ms Γ mode t u))))))

  unify_by_grows : (H : List Hint) (q : Question) → Yields (unify_by E H again q) (Grows q.0)
  unify_by_grows H (ms, Γ, mode, t, u) = charges (Grows ms) _ (tries (Grows ms) _ _ (by_rules_grows H ms Γ mode t u) (refuses (Grows ms) _))

pub unified_grows : (E : Environment) (H : List Hint) (q : Question) → Yields (unified E H q) (Grows q.0)
unfolding unified
unified_grows E H q = fixed_yields Question (λ q. Metas) (unify_by E H) (λ q ms'. Grows q.0 ms') (λ again ih. unify_by_grows E again ih H) q

pub unification_growth_law : UnificationGrowthLaw
unfolding unify
unification_growth_law E H ms ms' Γ mode t u n l e = unified_grows E H (ms, Γ, mode, t, u) n ms' l e

-- a refusal after a charge and a tried part
reason_of_last : {A : Type 0} (m : Charged A) (q r : Reason) (n l : ℕ) → charge (tried m (refuse q)) n ≡ Refused r l → r ≡ q
reason_of_last m q r zero l e = absurd cc
reason_of_last {A = A} m q r (suc n) l e = go (m n) e
  where
    reason_or : Outcome A → Reason
    reason_or (Done a k) = q
    reason_or (Refused p k) = p
    reason_or Spent = q

    go : (o : Outcome A) → or_else o (refuse q) ≡ Refused r l → r ≡ q
    go (Done a k) g = absurd cc
    go (Refused p k) g = sym (ap reason_or g)
    go Spent g = absurd cc

pub unification_refusal_law : UnificationRefusalLaw
unfolding unify
unification_refusal_law E H ms Γ mode t u r n l e = reason_of_last _ (Mismatch Γ t u []) r n l (sym (unified-is E H (ms, Γ, mode, t, u) n) ∙ e)
