-- An action on goals, from a place on.
use Rattle.std.proofs.Common.{◌≡◌, ◌+◌, ◌<◌, ◌≤◌, ℕ, Bool, true, false, List, [], ◌∷◌, ◌++◌, length, drop, get_or, refl, ap, sym, ◌∙◌, subst, arith}
use Rattle.std.proofs.Math.Seq.{drop-length}
use Rattle.std.proofs.lemmas.List.{append_assoc, append-nil}
use Rattle.mt_tiny.specs.Outcomes.{Outcome, Done, Stopped, Charged, give, stop, ◌>>=◌, and_then, read_stop, stopping, rest}
use Rattle.mt_tiny.specs.Provers.{ProverRules, LeavesNoMore}
use Rattle.mt_tiny.specs.Goals.{Refusal, ByProver, any_open, if_open, after, on_goals, acted}
use Rattle.mt_tiny.proofs.GoalLists.{from-place}

-- what leaves no more of the allowance than it is given
pub record Within {R A : Type 0} (m : Charged R A) : Type 0 where
  pub at : (n : ℕ) → rest (m n) ≤ n

pub give-within : {R A : Type 0} (a : A) → Within {R = R} (give a)
give-within a = record { at = λ n. omega arith }

pub stop-within : {R A : Type 0} (r : R) → Within {A = A} (stop r)
stop-within r = record { at = λ n. omega arith }

pub rest-then : {R A B : Type 0} (o : Outcome R A) (f : A → Charged R B) → ((a : A) → Within (f a)) → rest (and_then o f) ≤ rest o
rest-then (Done a left) f h = (h a).at left
rest-then (Stopped r left) f h = omega arith

pub then-within : {R A B : Type 0} (m : Charged R A) (f : A → Charged R B) → Within m → ((a : A) → Within (f a)) → Within (m >>= f)
then-within m f t h = record { at = λ n. let u = rest-then (m n) f h in omega (arith, u, t.at n) }

rest-read : {R Q A : Type 0} (f : R → Q) (o : Outcome R A) → rest (read_stop f o) ≡ rest o
rest-read f (Done a left) = refl
rest-read f (Stopped r left) = refl

pub stopping-within : {R Q A : Type 0} (f : R → Q) (m : Charged R A) → Within m → Within (stopping f m)
stopping-within f m t = record { at = λ n. rw (rest-read f (m n)) (t.at n) }

module _ {P A R : Type 0} (v : ProverRules P A R) where
  -- new goals before those of an outcome
  abbrev pub with_new : List ℕ → Outcome (Refusal R) (P × List ℕ) → Outcome (Refusal R) (P × List ℕ)
  with_new new o = and_then o (λ y. give (after v new y))

  with_new-append : (xs ys : List ℕ) (o : Outcome (Refusal R) (P × List ℕ)) → with_new xs (with_new ys o) ≡ with_new (xs ++ ys) o
  with_new-append xs ys (Done y left) = ap (λ (r : List ℕ). Done (y.0, r) left) (sym (append_assoc xs ys y.1))
  with_new-append xs ys (Stopped r left) = refl

  with_new-none : (o : Outcome (Refusal R) (P × List ℕ)) → with_new [] o ≡ o
  with_new-none (Done y left) = refl
  with_new-none (Stopped r left) = refl

  -- the goal at a place, if open, and then the others
  at-place : (a : A) (new gs : List ℕ) (i n : ℕ) (s : P) → i < length gs
      → with_new new (on_goals v a (drop i gs) s n)
      ≡ with_new new (if_open v (v.is_open s (get_or gs i 0))
      (stopping ByProver (v.apply a (get_or gs i 0) s) >>= (λ x. on_goals v a (drop (i + 1) gs) x.0 >>= (λ y. give (after v x.1 y))))
      (on_goals v a (drop (i + 1) gs) s) n)
  at-place a new gs i n s h = ap (λ (r : List ℕ). with_new new (on_goals v a r s n)) (from-place gs i 0 h)

  abbrev pub rest_of_goals : A → List ℕ → ℕ → P → Bool → ℕ → Outcome (Refusal R) (P × List ℕ)
  rest_of_goals a gs i s b n =
      if_open v b
      (stopping ByProver (v.apply a (get_or gs i 0) s) >>= (λ x. on_goals v a (drop (i + 1) gs) x.0 >>= (λ y. give (after v x.1 y))))
      (on_goals v a (drop (i + 1) gs) s) n

  pub goals-start : (a : A) (gs : List ℕ) (n : ℕ) (s : P) → with_new [] (on_goals v a (drop 0 gs) s n) ≡ on_goals v a gs s n
  goals-start a gs n s = with_new-none (on_goals v a gs s n)

  pub goals-closed : (a : A) (new gs : List ℕ) (i n : ℕ) (s : P) → i < length gs → v.is_open s (get_or gs i 0) ≡ false
      → with_new new (on_goals v a (drop i gs) s n) ≡ with_new new (on_goals v a (drop (i + 1) gs) s n)
  goals-closed a new gs i n s h e = at-place a new gs i n s h ∙ ap (λ (b : Bool). with_new new (rest_of_goals a gs i s b n)) e

  pub goals-acted : (a : A) (new gs : List ℕ) (i n : ℕ) (s s' : P) (more : List ℕ) (left : ℕ) → i < length gs → v.is_open s (get_or gs i 0) ≡ true
      → v.apply a (get_or gs i 0) s n ≡ Done (s', more) left
      → with_new new (on_goals v a (drop i gs) s n) ≡ with_new (new ++ more) (on_goals v a (drop (i + 1) gs) s' left)
  goals-acted a new gs i n s s' more left h e d =
      at-place a new gs i n s h
      ∙ ap (λ (b : Bool). with_new new (rest_of_goals a gs i s b n)) e
      ∙ ap (λ (o : Outcome R (P × List ℕ)). with_new new (and_then (read_stop ByProver o) (λ x. on_goals v a (drop (i + 1) gs) x.0 >>= (λ y. give (after v x.1 y))))) d
      ∙ with_new-append new more (on_goals v a (drop (i + 1) gs) s' left)

  pub goals-stopped : (a : A) (new gs : List ℕ) (i n : ℕ) (s : P) (r : R) (left : ℕ) → i < length gs → v.is_open s (get_or gs i 0) ≡ true
      → v.apply a (get_or gs i 0) s n ≡ Stopped r left
      → with_new new (on_goals v a (drop i gs) s n) ≡ Stopped (ByProver r) left
  goals-stopped a new gs i n s r left h e d =
      at-place a new gs i n s h
      ∙ ap (λ (b : Bool). with_new new (rest_of_goals a gs i s b n)) e
      ∙ ap (λ (o : Outcome R (P × List ℕ)). with_new new (and_then (read_stop ByProver o) (λ x. on_goals v a (drop (i + 1) gs) x.0 >>= (λ y. give (after v x.1 y))))) d

  pub goals-end : (a : A) (new gs : List ℕ) (n : ℕ) (s : P) → with_new new (on_goals v a (drop (length gs) gs) s n) ≡ Done (s, new) n
  goals-end a new gs n s =
      ap (λ (r : List ℕ). with_new new (on_goals v a r s n)) (drop-length gs) ∙ ap (λ (r : List ℕ). Done (s, r) n) (append-nil new)

  if_open-within : (b : Bool) (m o : Charged (Refusal R) (P × List ℕ)) → Within m → Within o → Within (if_open v b m o)
  if_open-within true m o t u = t
  if_open-within false m o t u = u

  pub on_goals-within : LeavesNoMore v → (a : A) (gs : List ℕ) (s : P) → Within (on_goals v a gs s)
  on_goals-within w a [] s = give-within (s, [])
  on_goals-within w a (g ∷ gs) s =
      if_open-within (v.is_open s g)
      (stopping ByProver (v.apply a g s) >>= (λ x. on_goals v a gs x.0 >>= (λ y. give (after v x.1 y)))) (on_goals v a gs s)
      (then-within (stopping ByProver (v.apply a g s)) (λ x. on_goals v a gs x.0 >>= (λ y. give (after v x.1 y)))
      (stopping-within ByProver (v.apply a g s) (record { at = w a g s }))
      (λ x. then-within (on_goals v a gs x.0) (λ y. give (after v x.1 y)) (on_goals-within w a gs x.0) (λ y. give-within (after v x.1 y))))
      (on_goals-within w a gs s)

  pub acted-within : LeavesNoMore v → (a : A) (s : P) (f : List ℕ) → Within (acted v a s f)
  acted-within w a s f = if_open-within (any_open v s f) (on_goals v a f s) _ (on_goals-within w a f s) (stop-within _)

  -- where memory is wanting after the goal at a place
  pub goals-rest : LeavesNoMore v → (a : A) (new gs : List ℕ) (i n : ℕ) (s : P) → rest (with_new new (on_goals v a (drop i gs) s n)) ≤ n
  goals-rest w a new gs i n s =
      let u = rest-then (on_goals v a (drop i gs) s n) (λ y. give (after v new y)) (λ y. give-within (after v new y)) in
      omega (arith, u, (on_goals-within w a (drop i gs) s).at n)

  -- where memory is wanting for the new goals of a goal
  pub goals-room : LeavesNoMore v → (a : A) (new gs : List ℕ) (i n : ℕ) (s s' : P) (more : List ℕ) (left : ℕ) → i < length gs → v.is_open s (get_or gs i 0) ≡ true
      → v.apply a (get_or gs i 0) s n ≡ Done (s', more) left
      → (whole : Outcome (Refusal R) (P × List ℕ)) → with_new new (on_goals v a (drop i gs) s n) ≡ whole → rest whole ≤ left
  goals-room w a new gs i n s s' more left h e d whole same =
      let u : rest (with_new (new ++ more) (on_goals v a (drop (i + 1) gs) s' left)) ≤ left = goals-rest w a (new ++ more) gs (i + 1) left s' in
      let f : whole ≡ with_new (new ++ more) (on_goals v a (drop (i + 1) gs) s' left) = sym same ∙ goals-acted a new gs i n s s' more left h e d in
      subst (λ o. rest o ≤ left) (sym f) u

  -- where memory is wanting for the action
  pub goals-memory : LeavesNoMore v → (a : A) (new gs : List ℕ) (i n : ℕ) (s : P) (left : ℕ) → i < length gs → v.is_open s (get_or gs i 0) ≡ true
      → rest (v.apply a (get_or gs i 0) s n) ≤ left
      → (whole : Outcome (Refusal R) (P × List ℕ)) → with_new new (on_goals v a (drop i gs) s n) ≡ whole → rest whole ≤ left
  goals-memory w a new gs i n s left h e d whole same =
      let f : whole ≡ with_new new (rest_of_goals a gs i s true n) = sym same ∙ at-place a new gs i n s h ∙ ap (λ (b : Bool). with_new new (rest_of_goals a gs i s b n)) e in
      let u : rest (with_new new (rest_of_goals a gs i s true n)) ≤ rest (rest_of_goals a gs i s true n) =
      rest-then (rest_of_goals a gs i s true n) (λ y. give (after v new y)) (λ y. give-within (after v new y)) in
      let l : rest (rest_of_goals a gs i s true n) ≤ rest (read_stop ByProver (v.apply a (get_or gs i 0) s n)) =
      rest-then (read_stop ByProver (v.apply a (get_or gs i 0) s n)) (λ x. on_goals v a (drop (i + 1) gs) x.0 >>= (λ y. give (after v x.1 y)))
      (λ x. then-within (on_goals v a (drop (i + 1) gs) x.0) (λ y. give (after v x.1 y)) (on_goals-within w a (drop (i + 1) gs) x.0) (λ y. give-within (after v x.1 y))) in
      let r : rest (read_stop ByProver (v.apply a (get_or gs i 0) s n)) ≡ rest (v.apply a (get_or gs i 0) s n) = rest-read ByProver (v.apply a (get_or gs i 0) s n) in
      subst (λ o. rest o ≤ left) (sym f) (omega (arith, u, l, r, d))

  pub ruleset goals_rules = (goals-start, goals-closed, goals-acted, goals-stopped, goals-end, goals-room, goals-memory)
