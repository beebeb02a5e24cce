-- The inference of a match, by the parts of the type that its matched term has.
use Rattle.std.proofs.Common.{ℕ, zero, length, ◌≡◌, ◌-◌, ◌<◌, ◌≤◌, List, Option, Some, None, Bool, true, false, suc, refl, ap, ◌∙◌, arith}
use Rattle.mt_term.specs.Trees.{Tree, Arms, Match}
use Rattle.mt_term.specs.declared.universes.Sort.{Sort as AnySort}
use Rattle.mt_term.specs.Declarations.{Hypothesis, Environment}
use Rattle.mt_term.specs.Reasons.{Reason, BadElimination}
use Rattle.mt_rules.specs.Charges.{Outcome, Charged, Done, Refused, Spent, give, and_then, rest}
use Rattle.mt_term.specs.Stores.{Store}
use Rattle.mt_rules.specs.Inference.{Family, only, as_family, checked, eliminable, infer, elimination, eliminating, type_head, infer_arms}
use Rattle.mt_rules_laws.proofs.Charged.{then-rest}
use Rattle.mt_rules_laws.proofs.InferenceLaws.{infer-rest, elimination-rest}
use Rattle.mt_rules_laws.proofs.InferenceRules.{eliminating-rest, type_head-rest, infer_arms-rest, infer-out, elimination-type_spent, elimination-type_refused, elimination-type_within, elimination-done, infer-match-matched_spent, infer-match-matched_refused, infer-match-matched_within}
use Rattle.mt_pool.specs.Region.{tree_at, Kept}
use Rattle.mt_pool.proofs.Region.{tree-kept}
use Rattle.mt_infer.specs.declared.families.Family.{Family as HeldFamily}
use Rattle.mt_infer.specs.Families.{family_held, FamilyBelow}
use Rattle.mt_infer.specs.Fitting.{answer, arms_from, has_branches, match_on, match_type, on_params}

on_done : {A B : Type 0} (o : Outcome A) (f : A → Charged B) {a : A} {l : ℕ} {r : Outcome B} → o ≡ Done a l → f a l ≡ r → and_then o f ≡ r
on_done o f e g = ap (λ o. and_then o f) e ∙ g

on_spent : {A B : Type 0} (o : Outcome A) (f : A → Charged B) → o ≡ Spent → and_then o f ≡ Spent
on_spent o f e = ap (λ o. and_then o f) e

on_refused : {A B : Type 0} (o : Outcome A) (f : A → Charged B) {q : Reason} {l : ℕ} → o ≡ Refused q l → and_then o f ≡ Refused q l
on_refused o f e = ap (λ o. and_then o f) e

checked_rest : (b : Bool) (l : ℕ) → rest (checked b l) ≤ l
checked_rest true l = omega arith
checked_rest false l = omega arith

-- the sort that a motive answers in
module _ (E : Environment) (S : Store) (Γ : List Hypothesis) (p : List Tree) (f : HeldFamily) (r t : Tree) (n l : ℕ) where
  pub elimination_done : infer E S Γ r n ≡ Done t l → elimination E S Γ (family_held p f) r n ≡ eliminating E S Γ f.large (tree_at p f.arity) (on_params (family_held p f)) t l
  unfolding family_held on_params
  elimination_done h = elimination-done E S Γ (family_held p f) r t n l h

pub arity_held : (m : ℕ) (f : HeldFamily) → FamilyBelow m f → f.arity.at < m
unfolding FamilyBelow
arity_held m f h = h.2

pub arity-kept : (p q : List Tree) (f : HeldFamily) → Kept p q → FamilyBelow (length p) f → tree_at q f.arity ≡ tree_at p f.arity
arity-kept p q f k h = tree-kept p q f.arity k (arity_held (length p) f h)

pub ruleset elimination_rules = (arity-kept, infer-rest, elimination-rest, eliminating-rest, elimination-type_spent, elimination-type_refused, elimination-type_within, elimination_done, arity_held)

module _ (E : Environment) (S : Store) (Γ : List Hypothesis) (f : Family) (r c : Tree) (bs : Arms) (n : ℕ) where
  abbrev type_on : Outcome Tree
  type_on = match_type E S Γ f r c bs n

  abbrev sort_on : Outcome AnySort
  sort_on = elimination E S Γ f r n

  abbrev arms_on : ℕ → Outcome (Unit {0})
  arms_on k = arms_from E S Γ f r zero bs k

  pub arms_rest : (k : ℕ) → rest (arms_on k) ≤ k
  unfolding arms_from
  arms_rest k = infer_arms-rest E S Γ f r zero _ bs k

  after_arms : (k : ℕ) → rest (and_then (arms_on k) (λ z. give (answer f r c))) ≤ rest (arms_on k)
  after_arms k = then-rest (arms_on k) (λ z. give (answer f r c)) (λ z l. omega arith)

  after_sort : (k : ℕ) → rest (and_then (checked (has_branches f bs) k) (λ z l. and_then (arms_on l) (λ z. give (answer f r c)))) ≤ k
  after_sort k = omega (arith, then-rest (checked (has_branches f bs) k) (λ z l. and_then (arms_on l) (λ z. give (answer f r c))) (λ z l. omega (arith, after_arms l, arms_rest l)), checked_rest (has_branches f bs) k)

  pub sort_spent : sort_on ≡ Spent → type_on ≡ Spent
  unfolding match_type
  sort_spent h = on_spent _ _ h

  pub sort_refused : (q : Reason) (k : ℕ) → sort_on ≡ Refused q k → type_on ≡ Refused q k
  unfolding match_type
  sort_refused q k h = on_refused _ _ h

  pub sort_within : rest type_on ≤ rest sort_on
  unfolding match_type
  sort_within = then-rest sort_on _ (λ s k. after_sort k)

  pub type_within : rest type_on ≤ n
  type_within = omega (arith, sort_within, elimination-rest E S Γ f r n)

  module _ (s : AnySort) (k : ℕ) (h : sort_on ≡ Done s k) where
    pub unfitting : has_branches f bs ≡ false → type_on ≡ Refused BadElimination k
    unfolding match_type
    unfitting g = on_done _ _ h (on_refused _ _ (ap (λ b. checked b k) g))

    pub unfitting_within : rest type_on ≤ k
    unfitting_within = omega (arith, sort_within, ap rest h)

    module _ (g : has_branches f bs ≡ true) where
      goes_on : type_on ≡ and_then (arms_on k) (λ z. give (answer f r c))
      unfolding match_type
      goes_on = on_done _ _ h (ap (λ b. and_then (checked b k) (λ z l. and_then (arms_on l) (λ z. give (answer f r c)))) g)

      pub branches_spent : arms_on k ≡ Spent → type_on ≡ Spent
      branches_spent m = goes_on ∙ on_spent _ _ m

      pub branches_refused : (q : Reason) (j : ℕ) → arms_on k ≡ Refused q j → type_on ≡ Refused q j
      branches_refused q j m = goes_on ∙ on_refused _ _ m

      pub branches_within : rest type_on ≤ rest (arms_on k)
      branches_within = rw goes_on (after_arms k)

      pub match_done : (z : Unit {0}) (j : ℕ) → arms_on k ≡ Done z j → type_on ≡ Done (answer f r c) j
      match_done z j m = goes_on ∙ ap (λ o. and_then o (λ z. give (answer f r c))) m

      -- nothing more is charged after the branches
      pub match_within : (z : Unit {0}) (j : ℕ) → arms_on k ≡ Done z j → rest type_on ≤ j
      match_within z j m = let q = match_done z j m in omega (arith, ap rest q)

pub ruleset match_type_rules = (elimination-rest, arms_rest, type_within, sort_spent, sort_refused, sort_within, unfitting, unfitting_within, branches_spent, branches_refused, branches_within, match_done, match_within)

-- where the weak head of the matched term's type is known
module _ (E : Environment) (S : Store) (Γ : List Hypothesis) (e : ℕ) (d r c : Tree) (bs : Arms) (n : ℕ) where
  pub family_none : only e (as_family E.entries d) ≡ None → match_on E S Γ e d r c bs n ≡ Refused BadElimination n
  unfolding match_on
  family_none o = on_refused _ _ (ap (λ q. eliminable q n) o)

  pub family_found : (f : Family) → only e (as_family E.entries d) ≡ Some f → match_on E S Γ e d r c bs n ≡ match_type E S Γ f r c bs n
  unfolding match_on
  family_found f o = on_done _ _ (ap (λ q. eliminable q n) o) refl

  either : (o : Option Family) → only e (as_family E.entries d) ≡ o → rest (match_on E S Γ e d r c bs n) ≤ n
  either None o = let q = family_none o in omega (arith, ap rest q)
  either (Some f) o = let q = family_found f o in omega (arith, ap rest q, type_within E S Γ f r c bs n)

  pub match_on_rest : rest (match_on E S Γ e d r c bs n) ≤ n
  match_on_rest = either (only e (as_family E.entries d)) refl

pub ruleset match_on_rules = (type_within, family_none, family_found, match_on_rest)

pub by_head : (E : Environment) (S : Store) (Γ : List Hypothesis) (e : ℕ) (r c : Tree) (bs : Arms) (d : Tree) (n l : ℕ) → 0 < n → type_head E S Γ c (n - 1) ≡ Done d l → infer E S Γ (Match e r c bs) n ≡ match_on E S Γ e d r c bs l
unfolding infer type_head elimination infer_arms match_on match_type has_branches arms_from answer
by_head E S Γ e r c bs d n l h p =
    let k : n ≡ suc (n - 1) = omega (arith, h) in
    ap (infer E S Γ (Match e r c bs)) k ∙ on_done _ _ p refl

pub ruleset infer_match_rules = (infer-rest, type_head-rest, match_on_rest, infer-out, infer-match-matched_spent, infer-match-matched_refused, infer-match-matched_within, by_head)
