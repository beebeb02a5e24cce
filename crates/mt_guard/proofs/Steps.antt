-- The tests one step further, as the code takes them.
use Rattle.std.proofs.Common.{ℕ, zero, suc, ◌+◌, ◌-◌, ◌<◌, ◌≤◌, ◌≡◌, Bool, true, false, ◌&&◌, nat_eq, if◌then◌else◌, List, ◌∷◌, refl, ap, ◌∙◌, arith}
use Rattle.std.proofs.lemmas.Bool.Decides.{Decides-eqb}
use Rattle.mt_term.specs.declared.universes.Sort.{Sort as AnySort}
use Rattle.mt_term.specs.Trees.{Tree, Trees, Arms, Bytes, Var, Sort, Prod, Lam, App, Const, Ind, Con, Match, Meta}
use Rattle.mt_term.specs.Declarations.{Environment}
use Rattle.mt_calculus.specs.Guard.{Mark, Place, Other}
use Rattle.mt_positivity.specs.Deciding.{avoids, is_recursive}
use Rattle.mt_guard.specs.Corecursive.{has_coinductive_result}
use Rattle.mt_guard.specs.Deciding.{guards_under, is_on_type, mark_by}
use Rattle.mt_guard.specs.Marking.{marks_many, other_marks}

next : (n : ℕ) → suc n ≡ n + 1
next n = omega arith

before : (n : ℕ) → n ≡ suc n - 1
before n = omega arith

pub result-past : (E : Environment) (n : ℕ) (x : Bytes) (A B : Tree) → 0 < n → has_coinductive_result E n (Prod x A B) ≡ has_coinductive_result E (n - 1) B
result-past E zero x A B l = absurd (omega (arith, l))
result-past E (suc n) x A B l = ap (λ (i : ℕ). has_coinductive_result E i B) (omega arith)

module _ (e p indices l d : ℕ) (y : Bytes) (A C : Tree) (n : ℕ) (ms : List Mark) where
  pub many-parameter : 0 < n → 0 < l → marks_many e p indices l d (Prod y A C) n ms ≡ marks_many e p indices (l - 1) d C n ms
  many-parameter h k = by l n h k
    where
      by : (l n : ℕ) → 0 < n → 0 < l → marks_many e p indices l d (Prod y A C) n ms ≡ marks_many e p indices (l - 1) d C n ms
      by zero n h k = absurd (omega (arith, k))
      by (suc l) zero h k = absurd (omega (arith, h))
      by (suc l) (suc n) h k = ap (λ (i : ℕ). marks_many e p indices i d C (suc n) ms) (omega arith)

  pub many-argument : 0 < n → l ≤ 0 → marks_many e p indices l d (Prod y A C) n ms ≡ marks_many e p indices l (d + 1) C (n - 1) (mark_by (is_recursive e p indices d A) ∷ ms)
  many-argument h k = by l n h k
    where
      by : (l n : ℕ) → 0 < n → l ≤ 0 → marks_many e p indices l d (Prod y A C) n ms ≡ marks_many e p indices l (d + 1) C (n - 1) (mark_by (is_recursive e p indices d A) ∷ ms)
      by (suc l) n h k = absurd (omega (arith, k))
      by zero zero h k = absurd (omega (arith, h))
      by zero (suc n) h k =
          ap (λ (i : ℕ). marks_many e p indices zero i C n (mark_by (is_recursive e p indices d A) ∷ ms)) (next d)
          ∙ ap (λ (i : ℕ). marks_many e p indices zero (d + 1) C i (mark_by (is_recursive e p indices d A) ∷ ms)) (before n)

-- what is no product has no further arguments
module _ (e p indices d : ℕ) (ms : List Mark) where
  pub many-variable : (l n : ℕ) (i : ℕ) → 0 < n → marks_many e p indices l d (Var i) n ms ≡ other_marks n ms
  many-variable l zero i h = absurd (omega (arith, h))
  many-variable zero (suc n) i h = refl
  many-variable (suc l) (suc n) i h = refl

  pub many-sort : (l n : ℕ) (s : AnySort) → 0 < n → marks_many e p indices l d (Sort s) n ms ≡ other_marks n ms
  many-sort l zero s h = absurd (omega (arith, h))
  many-sort zero (suc n) s h = refl
  many-sort (suc l) (suc n) s h = refl

  pub many-abstraction : (l n : ℕ) (x : Bytes) (A b : Tree) → 0 < n → marks_many e p indices l d (Lam x A b) n ms ≡ other_marks n ms
  many-abstraction l zero x A b h = absurd (omega (arith, h))
  many-abstraction zero (suc n) x A b h = refl
  many-abstraction (suc l) (suc n) x A b h = refl

  pub many-application : (l n : ℕ) (f a : Tree) → 0 < n → marks_many e p indices l d (App f a) n ms ≡ other_marks n ms
  many-application l zero f a h = absurd (omega (arith, h))
  many-application zero (suc n) f a h = refl
  many-application (suc l) (suc n) f a h = refl

  pub many-constant : (l n : ℕ) (c : ℕ) → 0 < n → marks_many e p indices l d (Const c) n ms ≡ other_marks n ms
  many-constant l zero c h = absurd (omega (arith, h))
  many-constant zero (suc n) c h = refl
  many-constant (suc l) (suc n) c h = refl

  pub many-type : (l n : ℕ) (t : ℕ) → 0 < n → marks_many e p indices l d (Ind t) n ms ≡ other_marks n ms
  many-type l zero t h = absurd (omega (arith, h))
  many-type zero (suc n) t h = refl
  many-type (suc l) (suc n) t h = refl

  pub many-constructor : (l n : ℕ) (t k : ℕ) → 0 < n → marks_many e p indices l d (Con t k) n ms ≡ other_marks n ms
  many-constructor l zero t k h = absurd (omega (arith, h))
  many-constructor zero (suc n) t k h = refl
  many-constructor (suc l) (suc n) t k h = refl

  pub many-match : (l n : ℕ) (t : ℕ) (R c : Tree) (bs : Arms) → 0 < n → marks_many e p indices l d (Match t R c bs) n ms ≡ other_marks n ms
  many-match l zero t R c bs h = absurd (omega (arith, h))
  many-match zero (suc n) t R c bs h = refl
  many-match (suc l) (suc n) t R c bs h = refl

  pub many-metavariable : (l n : ℕ) (m : ℕ) (us : Trees) → 0 < n → marks_many e p indices l d (Meta m us) n ms ≡ other_marks n ms
  many-metavariable l zero m us h = absurd (omega (arith, h))
  many-metavariable zero (suc n) m us h = refl
  many-metavariable (suc l) (suc n) m us h = refl

-- binder j of the function: its type does not mention the function, and it stands at the place or elsewhere
module _ (E : Environment) (f r : ℕ) (j : ℕ) (ms : List Mark) (x : Bytes) (A b : Tree) where
  abbrev at_binder : ℕ → Bool → Bool
  at_binder n t = if t then is_on_type E false A && guards_under E f r n (suc j) (Place ∷ ms) b else guards_under E f r n (suc j) (Other ∷ ms) b

  avoiding : (n : ℕ) → avoids f A ≡ true → guards_under E f r (suc n) j ms (Lam x A b) ≡ at_binder n (nat_eq j r)
  avoiding n a = ap (λ t. t && at_binder n (nat_eq j r)) a

  pub under-mentioned : (n : ℕ) → 0 < n → avoids f A ≡ false → guards_under E f r n j ms (Lam x A b) ≡ false
  under-mentioned zero l a = absurd (omega (arith, l))
  under-mentioned (suc n) l a = ap (λ t. t && at_binder n (nat_eq j r)) a

  pub under-other : (n : ℕ) → 0 < n → avoids f A ≡ true → (j ≡ r → ⊥) → guards_under E f r n j ms (Lam x A b) ≡ guards_under E f r (n - 1) (j + 1) (Other ∷ ms) b
  under-other zero l a h = absurd (omega (arith, l))
  under-other (suc n) l a h = avoiding n a ∙ by (nat_eq j r) refl
    where
      by : (t : Bool) → nat_eq j r ≡ t → at_binder n t ≡ guards_under E f r (suc n - 1) (j + 1) (Other ∷ ms) b
      by true e = absurd (h ((Decides-eqb j r).0 e))
      by false e =
          ap (λ (i : ℕ). guards_under E f r n i (Other ∷ ms) b) (next j)
          ∙ ap (λ (i : ℕ). guards_under E f r i (j + 1) (Other ∷ ms) b) (before n)

  pub under-place : (n : ℕ) → 0 < n → avoids f A ≡ true → j ≡ r → guards_under E f r n j ms (Lam x A b) ≡ (is_on_type E false A && guards_under E f r (n - 1) (j + 1) (Place ∷ ms) b)
  under-place zero l a h = absurd (omega (arith, l))
  under-place (suc n) l a h =
      avoiding n a ∙ ap (at_binder n) ((Decides-eqb j r).1 h)
      ∙ ap (λ (i : ℕ). is_on_type E false A && guards_under E f r n i (Place ∷ ms) b) (next j)
      ∙ ap (λ (i : ℕ). is_on_type E false A && guards_under E f r i (j + 1) (Place ∷ ms) b) (before n)

pub ruleset step_rules = (result-past, under-mentioned, under-other, under-place)

pub ruleset past_rules = (many-parameter, many-argument, many-variable, many-sort, many-abstraction, many-application, many-constant, many-type, many-constructor, many-match, many-metavariable)
