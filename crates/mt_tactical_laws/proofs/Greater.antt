-- Success at an allowance is the same success at a greater one, with as much more left: kept by what actions on goals are made of.
use Rattle.std.proofs.Common.{◌≡◌, ℕ, ◌+◌, ◌-◌, ◌≤◌, Bool, true, false, List, [], ◌∷◌, refl, ap, arith, subst}
use Rattle.mt_tiny.specs.Outcomes.{Outcome, Done, Stopped, Charged, give, stop, ◌>>=◌, and_then, read_stop, stopping, rest, Then}
use Rattle.mt_tiny.specs.Provers.{ProverRules, LeavesNoMore, SucceedsOn}
use Rattle.mt_tiny.specs.Goals.{Refusal, ByProver, any_open, if_open, after, on_goals, acted}
use Rattle.mt_tactical_laws.proofs.Answers.{then-of, then-map}

pub record More {R B : Type 0} (m : Charged R B) : Type 0 where
  pub at : (n i : ℕ) → Then (m n) (λ x l. (l ≤ n) × (m (n + i) ≡ Done x (l + i)))

pub give-more : {R B : Type 0} (b : B) → More {R = R} (give b)
give-more b = record { at = λ n i. (omega arith, refl) }

stop-more : {R B : Type 0} (r : R) → More {B = B} (stop r)
stop-more r = record { at = λ n i. tt }

and_then-more : {R B C : Type 0} (n i : ℕ) (o o' : Outcome R B) (f : B → Charged R C)
    → Then o (λ x l. (l ≤ n) × (o' ≡ Done x (l + i))) → ((x : B) → More (f x))
    → Then (and_then o f) (λ y l. (l ≤ n) × (and_then o' f ≡ Done y (l + i)))
and_then-more n i (Done x left) o' f t h =
    then-map (λ y l. (l ≤ left) × (f x (left + i) ≡ Done y (l + i))) (λ y l. (l ≤ n) × (and_then o' f ≡ Done y (l + i))) (f x left) ((h x).at left i)
    (λ y l u. (omega (arith, t.0, u.0), rw t.1 u.1))
and_then-more n i (Stopped r left) o' f t h = tt

pub then-more : {R B C : Type 0} (m : Charged R B) (f : B → Charged R C) → More m → ((x : B) → More (f x)) → More (m >>= f)
then-more m f t h = record { at = λ n i. and_then-more n i (m n) (m (n + i)) f (t.at n i) h }

read_stop-more : {R Q B : Type 0} (r : R → Q) (n i : ℕ) (o o' : Outcome R B)
    → Then o (λ x l. (l ≤ n) × (o' ≡ Done x (l + i))) → Then (read_stop r o) (λ x l. (l ≤ n) × (read_stop r o' ≡ Done x (l + i)))
read_stop-more r n i (Done x left) o' t = (t.0, ap (read_stop r) t.1)
read_stop-more r n i (Stopped e left) o' t = tt

pub stopping-more : {R Q B : Type 0} (r : R → Q) (m : Charged R B) → More m → More (stopping r m)
stopping-more r m t = record { at = λ n i. read_stop-more r n i (m n) (m (n + i)) (t.at n i) }

-- at the full allowance
pub at_full : {R B : Type 0} (m : Charged R B) (n k : ℕ) → More m → n ≤ k → Then (m n) (λ x l. (l ≤ n) × (left : ℕ) × (m k ≡ Done x left))
at_full m n k t h =
    let e : n + (k - n) ≡ k = omega (arith, h) in
    then-map (λ x l. (l ≤ n) × (m (n + (k - n)) ≡ Done x (l + (k - n)))) (λ x l. (l ≤ n) × (left : ℕ) × (m k ≡ Done x left)) (m n) (t.at n (k - n))
    (λ x l u. (u.0, l + (k - n), subst (λ j. m j ≡ Done x (l + (k - n))) e u.1))

-- what the law asks of a prover
pub record LawfulOn {P A R : Type 0} (v : ProverRules P A R) : Type 0 where
  pub greater : SucceedsOn v
  pub no_more : LeavesNoMore v

module _ {P A R : Type 0} (v : ProverRules P A R) (w : LawfulOn v) where
  apply-more : (a : A) (g : ℕ) (s : P) → More (v.apply a g s)
  apply-more a g s =
      record { at = λ n i. then-of (λ x l. (l ≤ n) × (v.apply a g s (n + i) ≡ Done x (l + i))) (v.apply a g s n) (λ x l e. (let u : rest (v.apply a g s n) ≤ n = w.no_more a g s n in subst (λ o. rest o ≤ n) e u, w.greater a g s n i x l e)) }

  if_open-more : (b : Bool) (m o : Charged (Refusal R) (P × List ℕ)) → More m → More o → More (if_open v b m o)
  if_open-more true m o t u = t
  if_open-more false m o t u = u

  on_goals-more : (a : A) (gs : List ℕ) (s : P) → More (on_goals v a gs s)
  on_goals-more a [] s = give-more (s, [])
  on_goals-more a (g ∷ gs) s =
      if_open-more (v.is_open s g) (stopping ByProver (v.apply a g s) >>= (λ x. on_goals v a gs x.0 >>= (λ y. give (after v x.1 y)))) (on_goals v a gs s)
      (then-more (stopping ByProver (v.apply a g s)) (λ x. on_goals v a gs x.0 >>= (λ y. give (after v x.1 y)))
      (stopping-more ByProver (v.apply a g s) (apply-more a g s))
      (λ x. then-more (on_goals v a gs x.0) (λ y. give (after v x.1 y)) (on_goals-more a gs x.0) (λ y. give-more (after v x.1 y))))
      (on_goals-more a gs s)

  pub acted-more : (a : A) (s : P) (f : List ℕ) → More (acted v a s f)
  acted-more a s f = if_open-more (any_open v s f) (on_goals v a f s) _ (on_goals-more a f s) (stop-more _)
