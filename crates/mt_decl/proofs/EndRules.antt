-- The parts of a unit after its new names, rule by rule, as a program follows them.
use Rattle.std.specs.Prelude.{ℕ, ◌≡◌, ◌≤◌, ◌+◌, Bool, true, false, nat_eq, List, [], ◌∷◌, suc, length, map, drop, Option, Some, None, slice_get, refl}
use Rattle.std.proofs.Common.{◌∙◌, ap, sym, arith}
use Rattle.mt_term.specs.Trees.{Bytes, Tree}
use Rattle.mt_term.specs.declared.universes.Sort.{Sort as AnySort}
use Rattle.mt_term.specs.Declarations.{Hypothesis, Declaration, Inductive, Recursive, Environment}
use Rattle.mt_term.specs.Reasons.{Reason, NotASort}
use Rattle.mt_guard.specs.Deciding.{is_guarded}
use Rattle.mt_guard.specs.Corecursive.{is_co_guarded}
use Rattle.mt_term_parser.specs.WrittenOf.{written_of}
use Rattle.mt_unit_parser.specs.declared.units.Group.{Group}
use Rattle.mt_unit_parser.specs.declared.units.RawCon.{RawCon}
use Rattle.mt_unit_parser.specs.declared.units.RawType.{RawType}
use Rattle.mt_unit_parser.specs.declared.units.RawFunction.{RawFunction}
use Rattle.mt_unit_parser.specs.UnitOf.{con_of, function_of, group_of, type_of}
use Rattle.mt_resolver.specs.Resolution.{Resolution, Found, Faults, then_found, first_place, resolved}
use Rattle.mt_decl.specs.Answers.{Answer, Made, Refused, Spent, Answering, and_then, make, taken}
use Rattle.mt_decl.specs.Telescopes.{generalized, names_of, result_sort}
use Rattle.mt_decl.specs.Declaring.{DeclaredConstructors, declared_constructors, knowing, or_no_binder, or_not_a_sort, place_of, resolved_groups}
use Rattle.mt_decl.specs.EntryLaws.{rest}
use Rattle.mt_decl.specs.Judging.{type_judged}
use Rattle.mt_decl.specs.Constructing.{family, joined, constructed_on}
use Rattle.mt_decl.specs.Ends.{closed_end, family_known, family_end, type_end, recursive_end, corecursive_end, ended, walked}
use denote.Bor.{Bor}
use Rattle.mt_decl.specs.declared.groups.End.{End}
use Rattle.mt_decl.specs.declared.groups.End.TheVariants as end
use Rattle.mt_decl.proofs.Allowance.{then_goes, binder_goes, of_type, resolving, constructors_go, family_goes, body_goes}
use Rattle.mt_decl.proofs.JudgingRules.{type-rest}
use Rattle.mt_decl.proofs.Sequences.{taken_rest, then_rest, drop_one, drop_past}

-- ---- constructors where the environment knows the type

module _ (E : Environment) (start number : ℕ) (Γ : List Hypothesis) (T : Tree) (s : AnySort) (many : ℕ) (co : Bool) (t : RawType) where
  joined_none : (o : Answer DeclaredConstructors) → and_then o (joined [] true) ≡ o
  joined_none (Made d l) = refl
  joined_none (Refused r at l) = refl
  joined_none Spent = refl

  pub known-is : (E' : Environment) (only : Bool) (n : ℕ) → E' ≡ knowing E t.name co many T → only ≡ nat_eq (length t.cons) 1
      → constructed_on E' start number Γ T s only [] true (drop 0 t.cons) n ≡ family_known E start number Γ T s many co t n
  unfolding constructed_on family_known
  known-is E' only n e f =
      joined_none (declared_constructors E' start (family number Γ T s) only (map con_of t.cons) n)
      ∙ ap (λ D. declared_constructors D start (family number Γ T s) only (map con_of t.cons) n) e
      ∙ ap (λ b. declared_constructors (knowing E t.name co many T) start (family number Γ T s) b (map con_of t.cons) n) f

  pub known-rest : (n : ℕ) → rest (family_known E start number Γ T s many co t n) ≤ n
  unfolding family_known
  known-rest n = (constructors_go (knowing E t.name co many T) start (family number Γ T s) (nat_eq (length t.cons) 1) (map con_of t.cons)).1 n

pub ruleset known_rules = (known-is, known-rest)

-- ---- a type from its closed type and its sort on

count_of : (t : RawType) → length (map con_of t.cons) ≡ length t.cons
count_of t = counted t.cons
  where
    counted : (cs : List RawCon) → length (map con_of cs) ≡ length cs
    counted [] = refl
    counted (c ∷ cs) = ap suc (counted cs)

module _ (E : Environment) (start : ℕ) (co : Bool) (t : RawType) (Γ : List Hypothesis) (T : Tree) (s : AnySort) where
  entry : DeclaredConstructors → Answering Declaration
  entry d = make (Inductive t.name co (length Γ) T d.0 d.1)

  family-is : (n : ℕ) → family_end E start co t Γ T s n ≡ and_then (family_known E start (length E.entries) Γ T s (length Γ) co t n) entry
  unfolding family_end family_known entry
  family-is n = ap (λ m. and_then (declared_constructors (knowing E t.name co (length Γ) T) start (family (length E.entries) Γ T s) (nat_eq m 1) (map con_of t.cons) n) entry) (count_of t)

  module _ (number many : ℕ) (n : ℕ) (first : number ≡ length E.entries) (all : many ≡ length Γ) where
    family-at : family_end E start co t Γ T s n ≡ and_then (family_known E start number Γ T s many co t n) entry
    family-at = family-is n ∙ ap (λ k. and_then (family_known E start k Γ T s (length Γ) co t n) entry) (sym first) ∙ ap (λ k. and_then (family_known E start number Γ T s k co t n) entry) (sym all)

    pub family-made : (d : DeclaredConstructors) (l : ℕ) → family_known E start number Γ T s many co t n ≡ Made d l → family_end E start co t Γ T s n ≡ Made (Inductive t.name co many T d.0 d.1) l
    unfolding entry
    family-made d l e = family-at ∙ ap (λ (o : Answer DeclaredConstructors). and_then o entry) e ∙ ap (λ k. Made (Inductive t.name co k T d.0 d.1) l) (sym all)

    pub family-refused : (r : Reason) (at l : ℕ) → family_known E start number Γ T s many co t n ≡ Refused r at l → family_end E start co t Γ T s n ≡ Refused r at l
    family-refused r at l e = family-at ∙ ap (λ (o : Answer DeclaredConstructors). and_then o entry) e

    pub family-spent : family_known E start number Γ T s many co t n ≡ Spent → family_end E start co t Γ T s n ≡ Spent
    family-spent e = family-at ∙ ap (λ (o : Answer DeclaredConstructors). and_then o entry) e

    pub family-within : rest (family_end E start co t Γ T s n) ≤ rest (family_known E start number Γ T s many co t n)
    unfolding entry
    family-within = rw family-at (then_rest (family_known E start number Γ T s many co t n) entry (λ d l. omega arith))

  pub family-rest : (n : ℕ) → rest (family_end E start co t Γ T s n) ≤ n
  unfolding family_end
  family-rest n = (family_goes E start co (type_of t) Γ T s).1 n

pub ruleset family_rules = (family-made, family-refused, family-spent, family-within, family-rest)

-- ---- a type that the kernel checks first

module _ (E : Environment) (start : ℕ) (co : Bool) (t : RawType) (Γ : List Hypothesis) (T : Tree) (s : AnySort) where
  after_kernel : AnySort → Answering Declaration
  after_kernel r = family_end E start co t Γ T s

  closed-is : (n : ℕ) → closed_end E start co t Γ T s n ≡ and_then (type_judged E start T n) after_kernel
  unfolding closed_end after_kernel
  closed-is n = refl

  pub closed-refused : (r : Reason) (n at l : ℕ) → type_judged E start T n ≡ Refused r at l → closed_end E start co t Γ T s n ≡ Refused r at l
  closed-refused r n at l e = closed-is n ∙ ap (λ (o : Answer AnySort). and_then o after_kernel) e

  pub closed-spent : (n : ℕ) → type_judged E start T n ≡ Spent → closed_end E start co t Γ T s n ≡ Spent
  closed-spent n e = closed-is n ∙ ap (λ (o : Answer AnySort). and_then o after_kernel) e

  pub closed-within : (n : ℕ) → rest (closed_end E start co t Γ T s n) ≤ rest (type_judged E start T n)
  unfolding after_kernel
  closed-within n = rw (closed-is n) (then_rest (type_judged E start T n) after_kernel (λ r l. family-rest E start co t Γ T s l))

  pub closed-made : (r : AnySort) (n l : ℕ) → type_judged E start T n ≡ Made r l → closed_end E start co t Γ T s n ≡ family_end E start co t Γ T s l
  unfolding after_kernel
  closed-made r n l e = closed-is n ∙ ap (λ (o : Answer AnySort). and_then o after_kernel) e

  pub closed-rest : (n : ℕ) → rest (closed_end E start co t Γ T s n) ≤ n
  closed-rest n = omega (arith, closed-within n, type-rest E start T n)

pub ruleset closed_rules = (closed-refused, closed-spent, closed-within, closed-made, closed-rest)

-- ---- a type under its parameters

module _ (E : Environment) (start : ℕ) (co : Bool) (t : RawType) (Γ : List Hypothesis) where
  after_sort : Tree → AnySort → Answering Declaration
  after_sort A s = closed_end E start co t Γ (generalized Γ A) s

  after_arity : Tree → Answering Declaration
  after_arity A n = and_then (or_not_a_sort start (result_sort A) n) (after_sort A)

  type-is : (n : ℕ) → type_end E start co t Γ n ≡ and_then (taken (resolved E (names_of Γ) (written_of t.arity)) n) after_arity
  unfolding type_end after_arity after_sort
  type-is n = refl

  pub end-faults : (r : Reason) (at n : ℕ) → resolved E (names_of Γ) (written_of t.arity) ≡ Faults r at → type_end E start co t Γ n ≡ Refused r at n
  end-faults r at n e = type-is n ∙ ap (λ (q : Resolution Tree). and_then (taken q n) after_arity) e

  sort_rest : (A : Tree) (n : ℕ) (o : Option AnySort) → rest (and_then (or_not_a_sort start o n) (after_sort A)) ≤ n
  unfolding after_sort
  sort_rest A n None = omega arith
  sort_rest A n (Some s) = closed-rest E start co t Γ (generalized Γ A) s n

  arity_rest : (A : Tree) (n : ℕ) → rest (after_arity A n) ≤ n
  unfolding after_arity
  arity_rest A n = sort_rest A n (result_sort A)

  pub end-rest : (n : ℕ) → rest (type_end E start co t Γ n) ≤ n
  end-rest n = rw (type-is n) (taken_rest (resolved E (names_of Γ) (written_of t.arity)) after_arity n (λ A. arity_rest A n))

  module _ (A : Tree) (found : resolved E (names_of Γ) (written_of t.arity) ≡ Found A) where
    here : (n : ℕ) → type_end E start co t Γ n ≡ after_arity A n
    here n = type-is n ∙ ap (λ (q : Resolution Tree). and_then (taken q n) after_arity) found

    pub end-no_sort : (n : ℕ) → result_sort A ≡ None → type_end E start co t Γ n ≡ Refused NotASort start n
    unfolding after_arity
    end-no_sort n e = here n ∙ ap (λ (o : Option AnySort). and_then (or_not_a_sort start o n) (after_sort A)) e

    pub end-sort : (s : AnySort) (n : ℕ) → result_sort A ≡ Some s → type_end E start co t Γ n ≡ closed_end E start co t Γ (generalized Γ A) s n
    unfolding after_arity after_sort
    end-sort s n e = here n ∙ ap (λ (o : Option AnySort). and_then (or_not_a_sort start o n) (after_sort A)) e

pub ruleset type_rules = (end-faults, end-rest, end-no_sort, end-sort)

-- ---- functions

module _ (E : Environment) (start : ℕ) (f : RawFunction) (Γ : List Hypothesis) where
  pub recursive-rest : (y : Bytes) (n : ℕ) → rest (recursive_end E start f y Γ n) ≤ n
  unfolding recursive_end type_judged
  recursive-rest y n =
      (then_goes (taken (resolved E (names_of Γ) (written_of f.ty))) _ (resolving E start (names_of Γ) (written_of f.ty)) (λ T.
      then_goes (or_no_binder start y (place_of (length Γ) (first_place (names_of Γ) y))) _ (binder_goes start y (place_of (length Γ) (first_place (names_of Γ) y))) (λ r.
      then_goes (type_judged E start (generalized Γ T)) _ (of_type E start (generalized Γ T)) (λ s.
      body_goes E start (function_of f) Γ (generalized Γ T) (is_guarded E (length E.entries) (length Γ) r) (λ b. Recursive f.name false (length Γ) r (generalized Γ T) b false))))).1 n

  pub corecursive-rest : (n : ℕ) → rest (corecursive_end E start f Γ n) ≤ n
  unfolding corecursive_end type_judged
  corecursive-rest n =
      (then_goes (taken (resolved E (names_of Γ) (written_of f.ty))) _ (resolving E start (names_of Γ) (written_of f.ty)) (λ T.
      then_goes (type_judged E start (generalized Γ T)) _ (of_type E start (generalized Γ T)) (λ s.
      body_goes E start (function_of f) Γ (generalized Γ T) (is_co_guarded E (length E.entries) (length Γ) (generalized Γ T)) (λ b. Recursive f.name true (length Γ) 0 (generalized Γ T) b false)))).1 n

pub ruleset function_rules = (recursive-rest, corecursive-rest)

-- ---- what comes after the binders

module _ (E : Environment) (start : ℕ) (Γ : List Hypothesis) where
  pub ended-type : (co : Bool) (t : Bor RawType) (n : ℕ) → ended E start (end.Inductive co t) Γ n ≡ type_end E start co t.now Γ n
  unfolding ended
  ended-type co t n = refl

  pub ended-recursive : (f : Bor RawFunction) (y : Bor Bytes) (n : ℕ) → ended E start (end.Recursive f y) Γ n ≡ recursive_end E start f.now y.now Γ n
  unfolding ended
  ended-recursive f y n = refl

  pub ended-corecursive : (f : Bor RawFunction) (n : ℕ) → ended E start (end.Corecursive f) Γ n ≡ corecursive_end E start f.now Γ n
  unfolding ended
  ended-corecursive f n = refl

  pub ended-rest : (e : End) (n : ℕ) → rest (ended E start e Γ n) ≤ n
  unfolding ended
  ended-rest (end.Inductive co t) n = end-rest E start co t.now Γ n
  ended-rest (end.Recursive f y) n = recursive-rest E start f.now Γ y.now n
  ended-rest (end.Corecursive f) n = corecursive-rest E start f.now Γ n

pub ruleset end_rules = (ended-type, ended-recursive, ended-corecursive)

module _ (E : Environment) (start : ℕ) (e : End) (Γ : List Hypothesis) where
  pub walk-rest : (gs : List Group) (n : ℕ) → rest (walked E start e Γ gs n) ≤ n
  unfolding walked
  walk-rest gs n = taken_rest (resolved_groups E Γ (map group_of gs)) (ended E start e) n (λ Δ. ended-rest E start Δ e n)

  module _ (gs : List Group) (k : ℕ) where
    pub walk-none : (n : ℕ) → slice_get gs k ≡ None → walked E start e Γ (drop k gs) n ≡ ended E start e Γ n
    unfolding walked
    walk-none n none = ap (λ hs. walked E start e Γ hs n) (drop_past gs k none)

    module _ (g : Group) (at : slice_get gs k ≡ Some g) where
      next_groups : Tree → Resolution (List Hypothesis)
      next_groups A = resolved_groups E (record { name = g.name; ty = A } ∷ Γ) (map group_of (drop (suc k) gs))

      first : (n : ℕ) → walked E start e Γ (drop k gs) n ≡ and_then (taken (then_found (resolved E (names_of Γ) (written_of g.ty)) next_groups) n) (ended E start e)
      unfolding walked next_groups
      first n = ap (λ hs. walked E start e Γ hs n) (drop_one gs k g at)

      pub walk-faults : (r : Reason) (place n : ℕ) → resolved E (names_of Γ) (written_of g.ty) ≡ Faults r place → walked E start e Γ (drop k gs) n ≡ Refused r place n
      walk-faults r place n f = first n ∙ ap (λ (q : Resolution Tree). and_then (taken (then_found q next_groups) n) (ended E start e)) f

      pub walk-next : (A : Tree) (next n : ℕ) → next ≡ k + 1 → resolved E (names_of Γ) (written_of g.ty) ≡ Found A → walked E start e Γ (drop k gs) n ≡ walked E start e (record { name = g.name; ty = A } ∷ Γ) (drop next gs) n
      unfolding walked next_groups
      walk-next A next n m f =
          let same : suc k ≡ next = omega arith in
          first n ∙ ap (λ (q : Resolution Tree). and_then (taken (then_found q next_groups) n) (ended E start e)) f
          ∙ ap (λ j. walked E start e (record { name = g.name; ty = A } ∷ Γ) (drop j gs) n) same

pub ruleset walk_rules = (walk-rest, walk-none, walk-faults, walk-next)
