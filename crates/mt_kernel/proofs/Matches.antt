-- The inference of a match, by the parts of the type that its matched term has.
use Rattle.std.proofs.Common.{ℕ, zero, ◌≡◌, ◌-◌, ◌<◌, ◌≤◌, List, Bool, true, false, Some, None, suc, refl, ap, ◌∙◌, arith}
use Rattle.mt_term.specs.Trees.{Tree, Trees, Arms, Ind, Match, End, Item}
use Rattle.mt_term.specs.Substitution.{apps, join, count}
use Rattle.mt_term.specs.declared.environment.PlainEnv.{PlainEnv}
use Rattle.mt_term.specs.declared.universes.Sort.{Sort as AnySort}
use Rattle.mt_term.specs.Declarations.{Hypothesis, Constructor, Environment}
use Rattle.mt_term.specs.Reasons.{Reason, BadElimination}
use Rattle.mt_rules.specs.Charges.{Outcome, Charged, Done, Refused, Spent, give, and_then, rest}
use Rattle.mt_term.specs.Spines.{motive_on_all}
use Rattle.mt_term.specs.Stores.{no_store}
use Rattle.mt_rules.specs.Inference.{Family, only, as_family, branches_fit, checked, eliminable, infer, elimination, eliminating, type_head, infer_arms}
use Rattle.mt_term.specs.EnvironmentOf.{environment_of}
use Rattle.mt_rules_laws.proofs.Charged.{then-rest}
use Rattle.mt_rules_laws.proofs.InferenceLaws.{infer-rest, elimination-rest}
use Rattle.mt_rules_laws.proofs.InferenceRules.{eliminating-rest, type_head-rest, infer_arms-rest, infer-out, elimination-type_spent, elimination-type_refused, elimination-type_within, elimination-done, infer-match-matched_spent, infer-match-matched_refused, infer-match-matched_within, infer-match-family_none}
use Rattle.mt_kernel.specs.Fitting.{has_branches, match_type}

abbrev family : ℕ → Trees → Trees → Tree → List Constructor → Bool → Family
family e ps is a cs large = record { number = e; params = ps; indices = is; arity = a; constructors = cs; large = large }

module _ (E : Environment) (Γ : List Hypothesis) (e : ℕ) (ps is : Trees) (a : Tree) (cs : List Constructor) (large : Bool) (r t : Tree) (n l : ℕ) where
  pub elimination_done : infer E no_store Γ r n ≡ Done t l → elimination E no_store Γ (family e ps is a cs large) r n ≡ eliminating E no_store Γ large a (apps (Ind e) ps) t l
  elimination_done h = elimination-done E no_store Γ (family e ps is a cs large) r t n l h

pub ruleset elimination_rules = (infer-rest, elimination-rest, eliminating-rest, elimination-type_spent, elimination-type_refused, elimination-type_within, elimination_done)

on_done : {A B : Type 0} (o : Outcome A) (f : A → Charged B) {a : A} {l : ℕ} {r : Outcome B} → o ≡ Done a l → f a l ≡ r → and_then o f ≡ r
on_done o f e g = ap (λ o. and_then o f) e ∙ g

on_spent : {A B : Type 0} (o : Outcome A) (f : A → Charged B) → o ≡ Spent → and_then o f ≡ Spent
on_spent o f e = ap (λ o. and_then o f) e

on_refused : {A B : Type 0} (o : Outcome A) (f : A → Charged B) {q : Reason} {l : ℕ} → o ≡ Refused q l → and_then o f ≡ Refused q l
on_refused o f e = ap (λ o. and_then o f) e

checked_rest : (b : Bool) (l : ℕ) → rest (checked b l) ≤ l
checked_rest true l = omega arith
checked_rest false l = omega arith

module _ (E : Environment) (Γ : List Hypothesis) (e : ℕ) (ps is : Trees) (a : Tree) (cs : List Constructor) (large : Bool) (r c : Tree) (bs : Arms) (n : ℕ) where
  abbrev type_on : Outcome Tree
  type_on = match_type E Γ (family e ps is a cs large) r c bs n

  abbrev sort_on : Outcome AnySort
  sort_on = elimination E no_store Γ (family e ps is a cs large) r n

  abbrev arms_on : ℕ → Outcome (Unit {0})
  arms_on k = infer_arms E no_store Γ (family e ps is a cs large) r zero cs bs k

  after_arms : (k : ℕ) → rest (and_then (arms_on k) (λ z. give (motive_on_all r (join is (Item c End))))) ≤ rest (arms_on k)
  after_arms k = then-rest (arms_on k) (λ z. give (motive_on_all r (join is (Item c End)))) (λ z l. omega arith)

  after_sort : (s : AnySort) (k : ℕ) → rest (and_then (checked (branches_fit (count ps) cs bs) k) (λ z l. and_then (arms_on l) (λ z. give (motive_on_all r (join is (Item c End)))))) ≤ k
  after_sort s k = omega (arith, then-rest (checked (branches_fit (count ps) cs bs) k) (λ z l. and_then (arms_on l) (λ z. give (motive_on_all r (join is (Item c End))))) (λ z l. omega (arith, after_arms l, infer_arms-rest E no_store Γ (family e ps is a cs large) r zero cs bs l)), checked_rest (branches_fit (count ps) cs bs) k)

  pub sort_spent : sort_on ≡ Spent → type_on ≡ Spent
  unfolding match_type
  sort_spent h = on_spent _ _ h

  pub sort_refused : (q : Reason) (k : ℕ) → sort_on ≡ Refused q k → type_on ≡ Refused q k
  unfolding match_type
  sort_refused q k h = on_refused _ _ h

  pub sort_within : rest type_on ≤ rest sort_on
  unfolding match_type
  sort_within = then-rest sort_on _ (λ s k. after_sort s k)

  pub type_within : rest type_on ≤ n
  type_within = omega (arith, sort_within, elimination-rest E no_store Γ (family e ps is a cs large) r n)

  module _ (s : AnySort) (k : ℕ) (h : sort_on ≡ Done s k) where
    pub unfitting : has_branches ps cs bs ≡ false → type_on ≡ Refused BadElimination k
    unfolding match_type has_branches
    unfitting g = on_done _ _ h (on_refused _ _ (ap (λ b. checked b k) g))

    pub unfitting_within : rest type_on ≤ k
    unfitting_within = omega (arith, sort_within, ap rest h)

    module _ (g : has_branches ps cs bs ≡ true) where
      goes_on : type_on ≡ and_then (arms_on k) (λ z. give (motive_on_all r (join is (Item c End))))
      unfolding match_type has_branches
      goes_on = on_done _ _ h (ap (λ b. and_then (checked b k) (λ z l. and_then (arms_on l) (λ z. give (motive_on_all r (join is (Item c End)))))) g)

      pub branches_spent : arms_on k ≡ Spent → type_on ≡ Spent
      branches_spent m = goes_on ∙ on_spent _ _ m

      pub branches_refused : (q : Reason) (j : ℕ) → arms_on k ≡ Refused q j → type_on ≡ Refused q j
      branches_refused q j m = goes_on ∙ on_refused _ _ m

      pub branches_within : rest type_on ≤ rest (arms_on k)
      branches_within = rw goes_on (after_arms k)

      pub match_done : (z : Unit {0}) (j : ℕ) → arms_on k ≡ Done z j → type_on ≡ Done (motive_on_all r (join is (Item c End))) j
      match_done z j m = goes_on ∙ ap (λ o. and_then o (λ z. give (motive_on_all r (join is (Item c End))))) m

      -- nothing more is charged after the branches
      pub match_within : (z : Unit {0}) (j : ℕ) → arms_on k ≡ Done z j → rest type_on ≤ j
      match_within z j m = let q = match_done z j m in omega (arith, ap rest q)

pub ruleset match_type_rules = (elimination-rest, infer_arms-rest, type_within, sort_spent, sort_refused, sort_within, unfitting, unfitting_within, branches_spent, branches_refused, branches_within, match_done, match_within)

module _ (env : PlainEnv) (Γ : List Hypothesis) (e : ℕ) (r c : Tree) (bs : Arms) (d : Tree) (n l : ℕ) where
  pub family_none : 0 < n → type_head (environment_of env) no_store Γ c (n - 1) ≡ Done d l → only e (as_family env.entries d) ≡ None → infer (environment_of env) no_store Γ (Match e r c bs) n ≡ Refused BadElimination l
  family_none h p o = infer-match-family_none (environment_of env) no_store Γ e r c bs d n l h p o

  module _ (i : ℕ) (ps is : Trees) (a : Tree) (cs : List Constructor) (large : Bool) (h : 0 < n) (p : type_head (environment_of env) no_store Γ c (n - 1) ≡ Done d l) (o : only e (as_family env.entries d) ≡ Some (family i ps is a cs large)) where
    pub family_found : infer (environment_of env) no_store Γ (Match e r c bs) n ≡ match_type (environment_of env) Γ (family i ps is a cs large) r c bs l
    unfolding infer type_head elimination infer_arms match_type
    family_found =
        let k : n ≡ suc (n - 1) = omega (arith, h) in
        ap (infer (environment_of env) no_store Γ (Match e r c bs)) k ∙ on_done _ _ p (on_done _ _ (ap (λ q. eliminable q l) o) refl)

pub ruleset infer_match_rules = (infer-rest, type_head-rest, type_within, infer-out, infer-match-matched_spent, infer-match-matched_refused, infer-match-matched_within, family_none, family_found)
