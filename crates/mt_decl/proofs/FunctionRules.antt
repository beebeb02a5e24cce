-- Functions, part by part, as a program follows them.
use Rattle.std.specs.Prelude.{ℕ, ◌≡◌, ◌≤◌, ◌-◌, Bool, true, false, List, length, Option, Some, None, refl}
use Rattle.std.proofs.Common.{ap, sym, ◌∙◌, arith}
use Rattle.mt_term.specs.Trees.{Tree, Bytes}
use Rattle.mt_term.specs.Declarations.{Hypothesis, Declaration, Recursive, Environment}
use Rattle.mt_term.specs.Reasons.{Reason, NotGuarded, Unbound}
use Rattle.mt_term.specs.declared.universes.Sort.{Sort as AnySort}
use Rattle.mt_guard.specs.Entries.{guards_entry}
use Rattle.mt_guard.proofs.Growing.{declarations-length, environment-kept}
use Rattle.mt_env.specs.Environments.{HeldEnvironment, environment_in, EntriesBelow}
use Rattle.mt_pool.specs.HeldOf.{declaration_in}
use Rattle.mt_pool.specs.Region.{Kept}
use Rattle.mt_pool.specs.declared.held.Held.{Held}
use Rattle.mt_guard.specs.Deciding.{is_guarded}
use Rattle.mt_guard.specs.Corecursive.{is_co_guarded}
use Rattle.mt_resolver.specs.Resolution.{Resolution, Found, Faults, first_place, resolved}
use Rattle.mt_term_parser.specs.WrittenOf.{written_of}
use Rattle.mt_unit_parser.specs.declared.units.RawFunction.{RawFunction}
use Rattle.mt_unit_parser.specs.UnitOf.{function_of}
use Rattle.mt_decl.specs.Answers.{Answer, Made, Refused, Spent, Answering, and_then, make, taken}
use Rattle.mt_decl.specs.Declaring.{assuming, function_rest, or_no_binder, or_not_guarded, place_of}
use Rattle.mt_decl.specs.EntryLaws.{rest}
use Rattle.mt_decl.specs.Ends.{corecursive_end, recursive_end}
use Rattle.mt_decl.specs.Functions.{body_within, bound_at, function_body, function_end, guard_said, guarded_or, placed}
use Rattle.mt_decl.specs.Judging.{term_judged, type_judged}
use Rattle.mt_decl.specs.Telescopes.{abstracted, generalized, names_of}
use Rattle.mt_decl.proofs.JudgingRules.{term-rest, type-rest}
use Rattle.mt_decl.proofs.Sequences.{then_rest}

-- ---- the place

module _ (start : ℕ) (Γ : List Hypothesis) (y : Bytes) where
  pub placed-none : first_place (names_of Γ) y ≡ None → placed start Γ y ≡ Faults (Unbound y) start
  unfolding placed
  placed-none e = ap (λ (o : Option ℕ). bound_at start y (place_of (length Γ) o)) e

  pub placed-some : (many i : ℕ) → many ≡ length Γ → first_place (names_of Γ) y ≡ Some i → placed start Γ y ≡ Found (many - i - 1)
  unfolding placed
  placed-some many i m e =
      ap (λ (o : Option ℕ). bound_at start y (place_of (length Γ) o)) e
      ∙ ap (λ (k : ℕ). Found k) (omega (arith, m))

pub ruleset place_rules = (placed-none, placed-some)

-- ---- the guard

module _ (p q : List Tree) (e : HeldEnvironment) (n : ℕ) (h : Held) (d : Declaration) (start : ℕ) where
  same_test : Kept p q → EntriesBelow (length p) e.entries → n ≡ length e.entries → declaration_in q h ≡ d
      → guards_entry (environment_in q e) n (declaration_in q h) ≡ guards_entry (environment_in p e) (length (environment_in p e).entries) d
  same_test k b m w =
      ap (λ (E : Environment). guards_entry E n (declaration_in q h)) (environment-kept p q e k b)
      ∙ ap (λ (i : ℕ). guards_entry (environment_in p e) i (declaration_in q h)) (m ∙ sym (declarations-length p e.entries))
      ∙ ap (guards_entry (environment_in p e) (length (environment_in p e).entries)) w

  pub said-yes : Kept p q → EntriesBelow (length p) e.entries → n ≡ length e.entries → declaration_in q h ≡ d → true ≡ guards_entry (environment_in q e) n (declaration_in q h)
      → guard_said (environment_in p e) start d ≡ Found tt
  unfolding guard_said
  said-yes k b m w t = ap (guarded_or start) (sym (same_test k b m w) ∙ sym t)

  pub said-no : Kept p q → EntriesBelow (length p) e.entries → n ≡ length e.entries → declaration_in q h ≡ d → false ≡ guards_entry (environment_in q e) n (declaration_in q h)
      → guard_said (environment_in p e) start d ≡ Faults NotGuarded start
  unfolding guard_said
  said-no k b m w t = ap (guarded_or start) (sym (same_test k b m w) ∙ sym t)

pub ruleset guard_rules = (said-yes, said-no)

-- ---- the body

module _ (E E' : Environment) (start : ℕ) (f : RawFunction) (co : Bool) (r : ℕ) (Γ : List Hypothesis) (T : Tree) where
  abbrev function_at : Tree → Declaration
  function_at b = Recursive f.name co (length Γ) r T b false

  judged : Tree → Answering Tree
  judged b n = and_then (term_judged E' start b T n) (λ z. make b)

  guarding : Tree → Answering Tree
  guarding b n = and_then (taken (guard_said E start (function_at b)) n) (λ z. judged b)

  judged-rest : (b : Tree) (n : ℕ) → rest (judged b n) ≤ rest (term_judged E' start b T n)
  unfolding judged
  judged-rest b n = then_rest (term_judged E' start b T n) (λ z. make b) (λ z l. omega arith)

  judged-goes : (b : Tree) (n : ℕ) → rest (judged b n) ≤ n
  judged-goes b n = omega (arith, judged-rest b n, term-rest E' start b T n)

  guarding-goes : (b : Tree) (n : ℕ) → rest (guarding b n) ≤ n
  unfolding guarding
  guarding-goes b n = by (guard_said E start (function_at b))
    where
      by : (o : Resolution (Unit {0})) → rest (and_then (taken o n) (λ z. judged b)) ≤ n
      by (Found z) = judged-goes b n
      by (Faults q at) = omega arith

  body_is : (n : ℕ) → body_within E E' start f co r Γ T n ≡ and_then (taken (resolved E' (names_of Γ) (written_of f.body)) n) (λ b. guarding (abstracted Γ b))
  unfolding body_within guarding judged
  body_is n = refl

  pub body-rest : (n : ℕ) → rest (body_within E E' start f co r Γ T n) ≤ n
  body-rest n = rw (body_is n) (by (resolved E' (names_of Γ) (written_of f.body)))
    where
      by : (o : Resolution Tree) → rest (and_then (taken o n) (λ b. guarding (abstracted Γ b))) ≤ n
      by (Found b) = guarding-goes (abstracted Γ b) n
      by (Faults q at) = omega arith

  pub body-unresolved : (q : Reason) (at n : ℕ) → resolved E' (names_of Γ) (written_of f.body) ≡ Faults q at → body_within E E' start f co r Γ T n ≡ Refused q at n
  body-unresolved q at n e = body_is n ∙ ap (λ (o : Resolution Tree). and_then (taken o n) (λ b. guarding (abstracted Γ b))) e

  module _ (b c : Tree) where
    resolved_at : (n : ℕ) → resolved E' (names_of Γ) (written_of f.body) ≡ Found b → c ≡ abstracted Γ b → body_within E E' start f co r Γ T n ≡ guarding c n
    resolved_at n e h = body_is n ∙ ap (λ (o : Resolution Tree). and_then (taken o n) (λ b. guarding (abstracted Γ b))) e ∙ ap (λ (t : Tree). guarding t n) (sym h)

    pub body-unguarded : (q : Reason) (at n : ℕ) → resolved E' (names_of Γ) (written_of f.body) ≡ Found b → c ≡ abstracted Γ b
        → guard_said E start (Recursive f.name co (length Γ) r T c false) ≡ Faults q at → body_within E E' start f co r Γ T n ≡ Refused q at n
    unfolding guarding
    body-unguarded q at n e h g = resolved_at n e h ∙ ap (λ (o : Resolution (Unit {0})). and_then (taken o n) (λ z. judged c)) g

    guarded_at : (z : Unit {0}) (n : ℕ) → resolved E' (names_of Γ) (written_of f.body) ≡ Found b → c ≡ abstracted Γ b
        → guard_said E start (Recursive f.name co (length Γ) r T c false) ≡ Found z → body_within E E' start f co r Γ T n ≡ judged c n
    unfolding guarding
    guarded_at z n e h g = resolved_at n e h ∙ ap (λ (o : Resolution (Unit {0})). and_then (taken o n) (λ z. judged c)) g

    pub body-refused : (z : Unit {0}) (q : Reason) (n at l : ℕ) → resolved E' (names_of Γ) (written_of f.body) ≡ Found b → c ≡ abstracted Γ b
        → guard_said E start (Recursive f.name co (length Γ) r T c false) ≡ Found z → term_judged E' start c T n ≡ Refused q at l → body_within E E' start f co r Γ T n ≡ Refused q at l
    unfolding judged
    body-refused z q n at l e h g j = guarded_at z n e h g ∙ ap (λ (o : Answer (Unit {0})). and_then o (λ z. make c)) j

    pub body-spent : (z : Unit {0}) (n : ℕ) → resolved E' (names_of Γ) (written_of f.body) ≡ Found b → c ≡ abstracted Γ b
        → guard_said E start (Recursive f.name co (length Γ) r T c false) ≡ Found z → term_judged E' start c T n ≡ Spent → body_within E E' start f co r Γ T n ≡ Spent
    unfolding judged
    body-spent z n e h g j = guarded_at z n e h g ∙ ap (λ (o : Answer (Unit {0})). and_then o (λ z. make c)) j

    pub body-made : (z u : Unit {0}) (n l : ℕ) → resolved E' (names_of Γ) (written_of f.body) ≡ Found b → c ≡ abstracted Γ b
        → guard_said E start (Recursive f.name co (length Γ) r T c false) ≡ Found z → term_judged E' start c T n ≡ Made u l → body_within E E' start f co r Γ T n ≡ Made c l
    unfolding judged
    body-made z u n l e h g j = guarded_at z n e h g ∙ ap (λ (o : Answer (Unit {0})). and_then o (λ z. make c)) j

    pub body-within : (z : Unit {0}) (n : ℕ) → resolved E' (names_of Γ) (written_of f.body) ≡ Found b → c ≡ abstracted Γ b
        → guard_said E start (Recursive f.name co (length Γ) r T c false) ≡ Found z → rest (body_within E E' start f co r Γ T n) ≤ rest (term_judged E' start c T n)
    body-within z n e h g = rw (guarded_at z n e h g) (judged-rest c n)

-- ---- the environment that knows the function

pub body-known : (E E₀ E' : Environment) (start : ℕ) (f : RawFunction) (co : Bool) (r : ℕ) (Γ : List Hypothesis) (T : Tree) (n : ℕ) → E₀ ≡ E → E' ≡ assuming E f.name T
    → function_body E start f co r Γ T n ≡ body_within E₀ E' start f co r Γ T n
unfolding function_body
body-known E E₀ E' start f co r Γ T n e e' =
    ap (λ (D : Environment). body_within D (assuming E f.name T) start f co r Γ T n) (sym e)
    ∙ ap (λ (D : Environment). body_within E₀ D start f co r Γ T n) (sym e')

pub known-rest : (E : Environment) (start : ℕ) (f : RawFunction) (co : Bool) (r : ℕ) (Γ : List Hypothesis) (T : Tree) (n : ℕ) → rest (function_body E start f co r Γ T n) ≤ n
unfolding function_body
known-rest E start f co r Γ T n = body-rest E (assuming E f.name T) start f co r Γ T n

pub ruleset known_rules = (body-known, known-rest)

pub ruleset body_rules = (body-rest, body-unresolved, body-unguarded, body-refused, body-spent, body-made, body-within)

-- ---- the entry

module _ (E : Environment) (start : ℕ) (f : RawFunction) (co : Bool) (r : ℕ) (Γ : List Hypothesis) (T : Tree) where
  pub function-refused : (q : Reason) (n at l : ℕ) → function_body E start f co r Γ T n ≡ Refused q at l → function_end E start f co r Γ T n ≡ Refused q at l
  unfolding function_end
  function-refused q n at l e = ap (λ (o : Answer Tree). and_then o (λ b. make (Recursive f.name co (length Γ) r T b false))) e

  pub function-spent : (n : ℕ) → function_body E start f co r Γ T n ≡ Spent → function_end E start f co r Γ T n ≡ Spent
  unfolding function_end
  function-spent n e = ap (λ (o : Answer Tree). and_then o (λ b. make (Recursive f.name co (length Γ) r T b false))) e

  pub function-made : (b : Tree) (n l : ℕ) → function_body E start f co r Γ T n ≡ Made b l → function_end E start f co r Γ T n ≡ Made (Recursive f.name co (length Γ) r T b false) l
  unfolding function_end
  function-made b n l e = ap (λ (o : Answer Tree). and_then o (λ b. make (Recursive f.name co (length Γ) r T b false))) e

  pub function-within : (n : ℕ) → rest (function_end E start f co r Γ T n) ≤ rest (function_body E start f co r Γ T n)
  unfolding function_end
  function-within n = then_rest (function_body E start f co r Γ T n) (λ b. make (Recursive f.name co (length Γ) r T b false)) (λ b l. omega arith)

  pub function-rest : (n : ℕ) → rest (function_end E start f co r Γ T n) ≤ n
  function-rest n = omega (arith, function-within n, known-rest E start f co r Γ T n)

pub ruleset function_rules = (function-rest, function-refused, function-spent, function-made, function-within)

-- ---- a function is the one of the definition

module _ (E : Environment) (start : ℕ) (f : RawFunction) (r : ℕ) (Γ : List Hypothesis) (T : Tree) where
  by_test : (co : Bool) (test : Bool) (b : Tree) (n : ℕ) → and_then (or_not_guarded start test n) (λ z m. and_then (term_judged (assuming E f.name T) start b T m) (λ z. make (Recursive f.name co (length Γ) r T b false)))
      ≡ and_then (and_then (taken (guarded_or start test) n) (λ z m. and_then (term_judged (assuming E f.name T) start b T m) (λ z. make b))) (λ b. make (Recursive f.name co (length Γ) r T b false))
  by_test co false b n = refl
  by_test co true b n = by (term_judged (assuming E f.name T) start b T n)
    where
      by : (o : Answer (Unit {0})) → and_then o (λ z. make (Recursive f.name co (length Γ) r T b false)) ≡ and_then (and_then o (λ z. make b)) (λ b. make (Recursive f.name co (length Γ) r T b false))
      by (Made z l) = refl
      by (Refused q at l) = refl
      by Spent = refl

  pub recursive_is : (n : ℕ) → function_rest E start (function_of f) Γ T (is_guarded E (length E.entries) (length Γ) r) (λ b. Recursive f.name false (length Γ) r T b false) n ≡ function_end E start f false r Γ T n
  unfolding function_end function_body body_within guard_said term_judged
  recursive_is n = by (resolved (assuming E f.name T) (names_of Γ) (written_of f.body))
    where
      by : (o : Resolution Tree) → and_then (taken o n) (λ b m. and_then (or_not_guarded start (is_guarded E (length E.entries) (length Γ) r (abstracted Γ b)) m) (λ z m. and_then (term_judged (assuming E f.name T) start (abstracted Γ b) T m) (λ z. make (Recursive f.name false (length Γ) r T (abstracted Γ b) false))))
          ≡ and_then (and_then (taken o n) (λ b m. and_then (taken (guard_said E start (Recursive f.name false (length Γ) r T (abstracted Γ b) false)) m) (λ z m. and_then (term_judged (assuming E f.name T) start (abstracted Γ b) T m) (λ z. make (abstracted Γ b))))) (λ b. make (Recursive f.name false (length Γ) r T b false))
      by (Found b) = by_test false (is_guarded E (length E.entries) (length Γ) r (abstracted Γ b)) (abstracted Γ b) n
      by (Faults q at) = refl

  pub corecursive_is : (n : ℕ) → function_rest E start (function_of f) Γ T (is_co_guarded E (length E.entries) (length Γ) T) (λ b. Recursive f.name true (length Γ) r T b false) n ≡ function_end E start f true r Γ T n
  unfolding function_end function_body body_within guard_said term_judged
  corecursive_is n = by (resolved (assuming E f.name T) (names_of Γ) (written_of f.body))
    where
      by : (o : Resolution Tree) → and_then (taken o n) (λ b m. and_then (or_not_guarded start (is_co_guarded E (length E.entries) (length Γ) T (abstracted Γ b)) m) (λ z m. and_then (term_judged (assuming E f.name T) start (abstracted Γ b) T m) (λ z. make (Recursive f.name true (length Γ) r T (abstracted Γ b) false))))
          ≡ and_then (and_then (taken o n) (λ b m. and_then (taken (guard_said E start (Recursive f.name true (length Γ) r T (abstracted Γ b) false)) m) (λ z m. and_then (term_judged (assuming E f.name T) start (abstracted Γ b) T m) (λ z. make (abstracted Γ b))))) (λ b. make (Recursive f.name true (length Γ) r T b false))
      by (Found b) = by_test true (is_co_guarded E (length E.entries) (length Γ) T (abstracted Γ b)) (abstracted Γ b) n
      by (Faults q at) = refl

-- ---- a function under its binders

module _ (E : Environment) (start : ℕ) (f : RawFunction) (Γ : List Hypothesis) where
  -- the check of the closed type, and then the function
  after : Bool → ℕ → Tree → Answering Declaration
  after co r C n = and_then (type_judged E start C n) (λ z. function_end E start f co r Γ C)

  after-within : (co : Bool) (r : ℕ) (C : Tree) (n : ℕ) → rest (after co r C n) ≤ rest (type_judged E start C n)
  unfolding after
  after-within co r C n = then_rest (type_judged E start C n) (λ z. function_end E start f co r Γ C) (λ z l. function-rest E start f co r Γ C l)

  after-goes : (co : Bool) (r : ℕ) (C : Tree) (n : ℕ) → rest (after co r C n) ≤ n
  after-goes co r C n = omega (arith, after-within co r C n, type-rest E start C n)

  after-refused : (co : Bool) (r : ℕ) (C : Tree) (q : Reason) (n at l : ℕ) → type_judged E start C n ≡ Refused q at l → after co r C n ≡ Refused q at l
  unfolding after
  after-refused co r C q n at l e = ap (λ (o : Answer AnySort). and_then o (λ z. function_end E start f co r Γ C)) e

  after-spent : (co : Bool) (r : ℕ) (C : Tree) (n : ℕ) → type_judged E start C n ≡ Spent → after co r C n ≡ Spent
  unfolding after
  after-spent co r C n e = ap (λ (o : Answer AnySort). and_then o (λ z. function_end E start f co r Γ C)) e

  after-made : (co : Bool) (r : ℕ) (C : Tree) (s : AnySort) (n l : ℕ) → type_judged E start C n ≡ Made s l → after co r C n ≡ function_end E start f co r Γ C l
  unfolding after
  after-made co r C s n l e = ap (λ (o : Answer AnySort). and_then o (λ z. function_end E start f co r Γ C)) e

  recursive_after : (r : ℕ) (C : Tree) (o : Answer AnySort) → and_then o (λ z. function_rest E start (function_of f) Γ C (is_guarded E (length E.entries) (length Γ) r) (λ b. Recursive f.name false (length Γ) r C b false))
      ≡ and_then o (λ z. function_end E start f false r Γ C)
  recursive_after r C (Made s l) = recursive_is E start f r Γ C l
  recursive_after r C (Refused q at l) = refl
  recursive_after r C Spent = refl

  corecursive_after : (C : Tree) (o : Answer AnySort) → and_then o (λ z. function_rest E start (function_of f) Γ C (is_co_guarded E (length E.entries) (length Γ) C) (λ b. Recursive f.name true (length Γ) 0 C b false))
      ≡ and_then o (λ z. function_end E start f true 0 Γ C)
  corecursive_after C (Made s l) = corecursive_is E start f 0 Γ C l
  corecursive_after C (Refused q at l) = refl
  corecursive_after C Spent = refl

  corecursive_parts : (n : ℕ) → corecursive_end E start f Γ n ≡ and_then (taken (resolved E (names_of Γ) (written_of f.ty)) n) (λ T. after true 0 (generalized Γ T))
  unfolding corecursive_end after
  corecursive_parts n = by (resolved E (names_of Γ) (written_of f.ty))
    where
      by : (o : Resolution Tree) → and_then (taken o n) (λ T m. and_then (type_judged E start (generalized Γ T) m) (λ z. function_rest E start (function_of f) Γ (generalized Γ T) (is_co_guarded E (length E.entries) (length Γ) (generalized Γ T)) (λ b. Recursive f.name true (length Γ) 0 (generalized Γ T) b false)))
          ≡ and_then (taken o n) (λ T m. and_then (type_judged E start (generalized Γ T) m) (λ z. function_end E start f true 0 Γ (generalized Γ T)))
      by (Found T) = corecursive_after (generalized Γ T) (type_judged E start (generalized Γ T) n)
      by (Faults q at) = refl

  module _ (y : Bytes) where
    recursive_placed : (T : Tree) (o : Option ℕ) (n : ℕ) → and_then (or_no_binder start y o n) (λ r m. and_then (type_judged E start (generalized Γ T) m) (λ z. function_rest E start (function_of f) Γ (generalized Γ T) (is_guarded E (length E.entries) (length Γ) r) (λ b. Recursive f.name false (length Γ) r (generalized Γ T) b false)))
        ≡ and_then (taken (bound_at start y o) n) (λ r m. and_then (type_judged E start (generalized Γ T) m) (λ z. function_end E start f false r Γ (generalized Γ T)))
    recursive_placed T None n = refl
    recursive_placed T (Some r) n = recursive_after r (generalized Γ T) (type_judged E start (generalized Γ T) n)

    from_place : Tree → Answering Declaration
    from_place C n = and_then (taken (placed start Γ y) n) (λ r. after false r C)

    recursive_parts : (n : ℕ) → recursive_end E start f y Γ n ≡ and_then (taken (resolved E (names_of Γ) (written_of f.ty)) n) (λ T. from_place (generalized Γ T))
    unfolding recursive_end from_place after placed
    recursive_parts n = by (resolved E (names_of Γ) (written_of f.ty))
      where
        by : (o : Resolution Tree) → and_then (taken o n) (λ T m. and_then (or_no_binder start y (place_of (length Γ) (first_place (names_of Γ) y)) m) (λ r m. and_then (type_judged E start (generalized Γ T) m) (λ z. function_rest E start (function_of f) Γ (generalized Γ T) (is_guarded E (length E.entries) (length Γ) r) (λ b. Recursive f.name false (length Γ) r (generalized Γ T) b false))))
            ≡ and_then (taken o n) (λ T m. and_then (taken (bound_at start y (place_of (length Γ) (first_place (names_of Γ) y))) m) (λ r m. and_then (type_judged E start (generalized Γ T) m) (λ z. function_end E start f false r Γ (generalized Γ T))))
        by (Found T) = recursive_placed T (place_of (length Γ) (first_place (names_of Γ) y)) n
        by (Faults q at) = refl

    from_place-goes : (C : Tree) (n : ℕ) → rest (from_place C n) ≤ n
    unfolding from_place
    from_place-goes C n = by (placed start Γ y)
      where
        by : (o : Resolution ℕ) → rest (and_then (taken o n) (λ r. after false r C)) ≤ n
        by (Found r) = after-goes false r C n
        by (Faults q at) = omega arith

    pub recursive-rest : (n : ℕ) → rest (recursive_end E start f y Γ n) ≤ n
    recursive-rest n = rw (recursive_parts n) (by (resolved E (names_of Γ) (written_of f.ty)))
      where
        by : (o : Resolution Tree) → rest (and_then (taken o n) (λ T. from_place (generalized Γ T))) ≤ n
        by (Found T) = from_place-goes (generalized Γ T) n
        by (Faults q at) = omega arith

    pub recursive-unresolved : (q : Reason) (at n : ℕ) → resolved E (names_of Γ) (written_of f.ty) ≡ Faults q at → recursive_end E start f y Γ n ≡ Refused q at n
    recursive-unresolved q at n e = recursive_parts n ∙ ap (λ (o : Resolution Tree). and_then (taken o n) (λ T. from_place (generalized Γ T))) e

    typed_at : (T : Tree) (n : ℕ) → resolved E (names_of Γ) (written_of f.ty) ≡ Found T → recursive_end E start f y Γ n ≡ from_place (generalized Γ T) n
    typed_at T n e = recursive_parts n ∙ ap (λ (o : Resolution Tree). and_then (taken o n) (λ T. from_place (generalized Γ T))) e

    pub recursive-unplaced : (T : Tree) (q : Reason) (at n : ℕ) → resolved E (names_of Γ) (written_of f.ty) ≡ Found T → placed start Γ y ≡ Faults q at → recursive_end E start f y Γ n ≡ Refused q at n
    unfolding from_place
    recursive-unplaced T q at n e p = typed_at T n e ∙ ap (λ (o : Resolution ℕ). and_then (taken o n) (λ r. after false r (generalized Γ T))) p

    module _ (T C : Tree) (r : ℕ) where
      placed_at : (n : ℕ) → resolved E (names_of Γ) (written_of f.ty) ≡ Found T → placed start Γ y ≡ Found r → C ≡ generalized Γ T → recursive_end E start f y Γ n ≡ after false r C n
      unfolding from_place
      placed_at n e p h = typed_at T n e ∙ ap (λ (o : Resolution ℕ). and_then (taken o n) (λ r. after false r (generalized Γ T))) p ∙ ap (λ (t : Tree). after false r t n) (sym h)

      pub recursive-refused : (q : Reason) (n at l : ℕ) → resolved E (names_of Γ) (written_of f.ty) ≡ Found T → placed start Γ y ≡ Found r → C ≡ generalized Γ T
          → type_judged E start C n ≡ Refused q at l → recursive_end E start f y Γ n ≡ Refused q at l
      recursive-refused q n at l e p h j = placed_at n e p h ∙ after-refused false r C q n at l j

      pub recursive-spent : (n : ℕ) → resolved E (names_of Γ) (written_of f.ty) ≡ Found T → placed start Γ y ≡ Found r → C ≡ generalized Γ T
          → type_judged E start C n ≡ Spent → recursive_end E start f y Γ n ≡ Spent
      recursive-spent n e p h j = placed_at n e p h ∙ after-spent false r C n j

      pub recursive-then : (s : AnySort) (n l : ℕ) → resolved E (names_of Γ) (written_of f.ty) ≡ Found T → placed start Γ y ≡ Found r → C ≡ generalized Γ T
          → type_judged E start C n ≡ Made s l → recursive_end E start f y Γ n ≡ function_end E start f false r Γ C l
      recursive-then s n l e p h j = placed_at n e p h ∙ after-made false r C s n l j

      pub recursive-within : (n : ℕ) → resolved E (names_of Γ) (written_of f.ty) ≡ Found T → placed start Γ y ≡ Found r → C ≡ generalized Γ T
          → rest (recursive_end E start f y Γ n) ≤ rest (type_judged E start C n)
      recursive-within n e p h = rw (placed_at n e p h) (after-within false r C n)

  pub corecursive-rest : (n : ℕ) → rest (corecursive_end E start f Γ n) ≤ n
  corecursive-rest n = rw (corecursive_parts n) (by (resolved E (names_of Γ) (written_of f.ty)))
    where
      by : (o : Resolution Tree) → rest (and_then (taken o n) (λ T. after true 0 (generalized Γ T))) ≤ n
      by (Found T) = after-goes true 0 (generalized Γ T) n
      by (Faults q at) = omega arith

  pub corecursive-unresolved : (q : Reason) (at n : ℕ) → resolved E (names_of Γ) (written_of f.ty) ≡ Faults q at → corecursive_end E start f Γ n ≡ Refused q at n
  corecursive-unresolved q at n e = corecursive_parts n ∙ ap (λ (o : Resolution Tree). and_then (taken o n) (λ T. after true 0 (generalized Γ T))) e

  module _ (T C : Tree) where
    co_typed_at : (n : ℕ) → resolved E (names_of Γ) (written_of f.ty) ≡ Found T → C ≡ generalized Γ T → corecursive_end E start f Γ n ≡ after true 0 C n
    co_typed_at n e h = corecursive_parts n ∙ ap (λ (o : Resolution Tree). and_then (taken o n) (λ T. after true 0 (generalized Γ T))) e ∙ ap (λ (t : Tree). after true 0 t n) (sym h)

    pub corecursive-refused : (q : Reason) (n at l : ℕ) → resolved E (names_of Γ) (written_of f.ty) ≡ Found T → C ≡ generalized Γ T → type_judged E start C n ≡ Refused q at l → corecursive_end E start f Γ n ≡ Refused q at l
    corecursive-refused q n at l e h j = co_typed_at n e h ∙ after-refused true 0 C q n at l j

    pub corecursive-spent : (n : ℕ) → resolved E (names_of Γ) (written_of f.ty) ≡ Found T → C ≡ generalized Γ T → type_judged E start C n ≡ Spent → corecursive_end E start f Γ n ≡ Spent
    corecursive-spent n e h j = co_typed_at n e h ∙ after-spent true 0 C n j

    pub corecursive-then : (s : AnySort) (n l : ℕ) → resolved E (names_of Γ) (written_of f.ty) ≡ Found T → C ≡ generalized Γ T → type_judged E start C n ≡ Made s l → corecursive_end E start f Γ n ≡ function_end E start f true 0 Γ C l
    corecursive-then s n l e h j = co_typed_at n e h ∙ after-made true 0 C s n l j

    pub corecursive-within : (n : ℕ) → resolved E (names_of Γ) (written_of f.ty) ≡ Found T → C ≡ generalized Γ T → rest (corecursive_end E start f Γ n) ≤ rest (type_judged E start C n)
    corecursive-within n e h = rw (co_typed_at n e h) (after-within true 0 C n)

pub ruleset recursive_rules = (recursive-rest, recursive-unresolved, recursive-unplaced, recursive-refused, recursive-spent, recursive-then, recursive-within)

pub ruleset corecursive_rules = (corecursive-rest, corecursive-unresolved, corecursive-refused, corecursive-spent, corecursive-then, corecursive-within)
