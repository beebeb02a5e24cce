-- What is declared of the constructors of an inductive type.
use Rattle.std.proofs.Common.{Bool, true, false, ◌&&◌, ◌≡◌, ◌≤◌, ◌+◌, ℕ, zero, suc, List, [], ◌∷◌, length, Some, refl, sym, ap, subst, arith}
use Rattle.std.specs.Prelude.{slice_get}
use Rattle.mt_term.specs.Trees.{Tree, Sort, Prod}
use Rattle.mt_term.specs.declared.universes.Sort.{Sort as AnySort}
use Rattle.mt_term.specs.declared.universes.Sort.TheVariants as sort
use Rattle.mt_term.specs.Universes.{Constraints, SortIsAtMost}
use Rattle.mt_term.specs.Declarations.{Hypothesis, Constructor, Environment}
use Rattle.mt_term.specs.Reasons.{NotPositive}
use Rattle.mt_term.specs.Substitution.{products}
use Rattle.mt_calculus.specs.Typing.{Has, Strict}
use Rattle.mt_rules.specs.Inference.{context_types}
use Rattle.mt_calculus.specs.Positivity.{Positive}
use Rattle.mt_calculus.specs.SoundEnvironment.{Arity, arity_sort, arity_product, EachArgument, SortedAtMost, ArgumentSorts, SoundConstructor, SoundEnvironment}
use Rattle.mt_rules.specs.KernelCheck.{check_type, check}
use Rattle.mt_rules_laws.proofs.Yields.{Yields}
use Rattle.mt_rules_laws.proofs.ReductionTheorems.{type_check_law, check_law}
use Rattle.mt_calculus_laws.proofs.AlikeLaws.{both}
use Rattle.mt_positivity.specs.Deciding.{is_positive}
use Rattle.mt_positivity.proofs.Deciding.{positive-decides}
use Rattle.mt_unit_parser.specs.WrittenUnits.{WrittenCon}
use Rattle.mt_resolver.specs.Resolution.{resolved}
use Rattle.mt_decl.specs.Answers.{by_kernel, is_accepted}
use Rattle.mt_decl.specs.Telescopes.{generalized, names_of, result_sort}
use Rattle.mt_decl.specs.Declaring.{or_not_positive, argument_check, arguments_fit, do_arguments_fit, argument_sorts, NewFamily, DeclaredConstructors, one_more, declared_constructor, declared_constructors}
use Rattle.mt_decl.proofs.Free.{Free, none_of, FreeContext, resolved_finds, generalized_free}
use Rattle.mt_decl.proofs.ContextChecks.{abstracted_has}
use Rattle.mt_decl.proofs.Makes.{Makes, makes, refuses, then_makes, so_makes, taken_makes, kernel_makes, accepted_makes}

-- ---- the kernel

module _ (E : Environment) (sound : SoundEnvironment E) where
  pub type_yields : (T : Tree) → Free T → Yields (check_type E T) (λ s. Strict E [] (Has T (Sort s)))
  type_yields T free n s l e = type_check_law E sound T s n l (none_of T free) e

  abbrev pub Checked : Tree → Tree → Type 0
  Checked t T = (s : AnySort) × Strict E [] (Has T (Sort s)) × Strict E [] (Has t T)

  pub check_yields : (t T : Tree) → Free t → Free T → Yields (check E t T) (λ z. Checked t T)
  check_yields t T free closed n z l e = check_law E sound t T z n l (none_of t free) (none_of T closed) e

-- ---- telescopes

sort_at_most_itself : (cs : Constraints) (s : AnySort) → SortIsAtMost cs s s
sort_at_most_itself cs sort.Prop = tt
sort_at_most_itself cs (sort.Typ u) = λ v h. omega arith

pub arity_generalized : (s : AnySort) (Γ : List Hypothesis) (A : Tree) → Arity s A → Arity s (generalized Γ A)
arity_generalized s [] A h = h
arity_generalized s (x ∷ Γ) A h = arity_generalized s Γ (Prod x.name x.ty A) (arity_product h)

pub arity_of : (s : AnySort) (A : Tree) → result_sort A ≡ Some s → Arity s A
arity_of s (Sort r) e = let same : r ≡ s = cc in subst (λ q. Arity s (Sort q)) (sym same) arity_sort
arity_of s (Prod x A B) e = arity_product (arity_of s B e)
arity_of s _ e = let no : ⊥ = cc in absurd no

pub many_products : (Γ : List Hypothesis) (A : Tree) → length Γ + products A ≤ products (generalized Γ A)
many_products [] A = omega arith
many_products (x ∷ Γ) A = omega (arith, many_products Γ (Prod x.name x.ty A))

-- each argument past the parameters, seen from the closed type
each_past : (Q : List Tree → Tree → Type 0) (p : ℕ) (Γ : List Hypothesis) (B : Tree) → EachArgument Q p (context_types Γ) B → EachArgument Q (length Γ + p) [] (generalized Γ B)
each_past Q p [] B h = let many : p ≡ 0 + p = omega arith in subst (λ n. EachArgument Q n [] B) many h
each_past Q p (x ∷ Γ) B h =
    let many : length Γ + suc p ≡ suc (length Γ) + p = omega arith in
    subst (λ n. EachArgument Q n [] (generalized Γ (Prod x.name x.ty B))) many (each_past Q (suc p) Γ (Prod x.name x.ty B) h)

each_closed : (Q : List Tree → Tree → Type 0) (Γ : List Hypothesis) (B : Tree) → EachArgument Q zero (context_types Γ) B → EachArgument Q (length Γ) [] (generalized Γ B)
each_closed Q Γ B h = let many : length Γ + 0 ≡ length Γ = omega arith in subst (λ n. EachArgument Q n [] (generalized Γ B)) many (each_past Q zero Γ B h)

-- ---- constructors

-- a type has this very sort
abbrev pub Sorted : Environment → AnySort → List Tree → Tree → Type 0
Sorted E s Γ A = Strict E Γ (Has A (Sort s))

abbrev AllSorted : Environment → AnySort → List Hypothesis → Tree → Type 0
AllSorted E s Γ C = EachArgument (Sorted E s) zero (context_types Γ) C

-- what is known of a constructor that allows a match into every sort
abbrev pub Small : Environment → AnySort → Bool → ℕ → Tree → Type 0
Small E (sort.Typ u) only p C = Unit {0}
Small E sort.Prop only p C = (only ≡ true) × EachArgument (Sorted E sort.Prop) p [] C

abbrev pub AllSmall : Environment → AnySort → Bool → ℕ → List Constructor → Type 0
AllSmall E s only p [] = Unit {0}
AllSmall E s only p (c ∷ cs) = Small E s only p c.ty × AllSmall E s only p cs

abbrev SortsKnown : Environment → AnySort → Bool → List Hypothesis → Tree → Bool → Type 0
SortsKnown E s only Γ C large = ArgumentSorts E s (length Γ) (generalized Γ C) × (large ≡ true → Small E s only (length Γ) (generalized Γ C))

-- what is known of declared constructors, of which there are so many
pub record AllKnown (E : Environment) (f : NewFamily) (only : Bool) (many : ℕ) (d : DeclaredConstructors) : Type 0 where
  pub each : (k : ℕ) (c : Constructor) → slice_get d.0 k ≡ Some c → SoundConstructor E f.number (length f.params) f.ty f.sort c.ty
  pub small : d.1 ≡ true → AllSmall E f.sort only (length f.params) d.0
  pub as_many : length d.0 ≡ many

at_most_all : (E : Environment) (s : AnySort) (p : ℕ) (Γ : List Tree) (C : Tree) → EachArgument (Sorted E s) p Γ C → EachArgument (SortedAtMost E s) p Γ C
at_most_all E s (suc p) Γ (Prod x A B) h = at_most_all E s p (A ∷ Γ) B h
at_most_all E s zero Γ (Prod x A B) h = ((s, h.0, sort_at_most_itself E.below s), at_most_all E s zero (A ∷ Γ) B h.1)
at_most_all E s p Γ C h = tt

module _ (E : Environment) (sound : SoundEnvironment E) where
  check_has : (s : AnySort) (Γ : List Hypothesis) (A : Tree) → FreeContext Γ → Free A → Yields (argument_check E s Γ A) (λ z. Strict E (context_types Γ) (Has A (Sort s)))
  check_has s Γ A h free = abstracted_has E sound Γ A s free (generalized_free Γ (Sort s) h tt)

  fit_makes : (start : ℕ) (s : AnySort) (Γ : List Hypothesis) (C : Tree) → FreeContext Γ → Free C → Makes (arguments_fit E start s Γ C) (λ z. AllSorted E s Γ C)
  fit_makes start s Γ (Prod x A B) h free =
      then_makes (λ z. Sorted E s (context_types Γ) A) (λ z. AllSorted E s Γ (Prod x A B)) (by_kernel start (argument_check E s Γ A)) _ (kernel_makes (λ z. Sorted E s (context_types Γ) A) start (argument_check E s Γ A) (check_has s Γ A h free.0)) (λ z has.
      so_makes (λ z. AllSorted E s (record { name = x; ty = A } ∷ Γ) B) (λ z. AllSorted E s Γ (Prod x A B)) (arguments_fit E start s (record { name = x; ty = A } ∷ Γ) B) (λ z more. (has, more)) (fit_makes start s (record { name = x; ty = A } ∷ Γ) B (free.0, h) free.1))
  fit_makes start s Γ C h free = makes (λ z. AllSorted E s Γ C) tt tt

  do_fit_makes : (s : AnySort) (Γ : List Hypothesis) (C : Tree) → FreeContext Γ → Free C → Makes (do_arguments_fit E s Γ C) (λ b. b ≡ true → AllSorted E s Γ C)
  do_fit_makes s Γ (Prod x A B) h free =
      then_makes (λ b. b ≡ true → Sorted E s (context_types Γ) A) (λ b. b ≡ true → AllSorted E s Γ (Prod x A B)) (is_accepted (argument_check E s Γ A)) _ (accepted_makes (Sorted E s (context_types Γ) A) (argument_check E s Γ A) (check_has s Γ A h free.0)) (λ b has.
      then_makes (λ c. c ≡ true → AllSorted E s (record { name = x; ty = A } ∷ Γ) B) (λ b. b ≡ true → AllSorted E s Γ (Prod x A B)) (do_arguments_fit E s (record { name = x; ty = A } ∷ Γ) B) _ (do_fit_makes s (record { name = x; ty = A } ∷ Γ) B (free.0, h) free.1) (λ c more.
      makes (λ b. b ≡ true → AllSorted E s Γ (Prod x A B)) (b && c) (λ e. let p = both b c e in (has p.0, more p.1))))
  do_fit_makes s Γ C h free = makes (λ b. b ≡ true → AllSorted E s Γ C) true (λ e. tt)

  sorts_make : (start : ℕ) (s : AnySort) (only : Bool) (Γ : List Hypothesis) (C : Tree) → FreeContext Γ → Free C → Makes (argument_sorts E start s only Γ C) (SortsKnown E s only Γ C)
  sorts_make start (sort.Typ u) only Γ C h free =
      then_makes (λ z. AllSorted E (sort.Typ u) Γ C) (SortsKnown E (sort.Typ u) only Γ C) (arguments_fit E start (sort.Typ u) Γ C) _ (fit_makes start (sort.Typ u) Γ C h free) (λ z all.
      makes (SortsKnown E (sort.Typ u) only Γ C) true (at_most_all E (sort.Typ u) (length Γ) [] (generalized Γ C) (each_closed (Sorted E (sort.Typ u)) Γ C all), λ e. tt))
  sorts_make start sort.Prop true Γ C h free = so_makes (λ b. b ≡ true → AllSorted E sort.Prop Γ C) (SortsKnown E sort.Prop true Γ C) (do_arguments_fit E sort.Prop Γ C) (λ b all. (tt, λ e. (refl, each_closed (Sorted E sort.Prop) Γ C (all e)))) (do_fit_makes sort.Prop Γ C h free)
  sorts_make start sort.Prop false Γ C h free = makes (SortsKnown E sort.Prop false Γ C) false (tt, λ e. let no : ⊥ = cc in absurd no)

  module _ (start : ℕ) (f : NewFamily) (h : FreeContext f.params) (only : Bool) where
    abbrev p : ℕ
    p = length f.params

    abbrev Known : Constructor × Bool → Type 0
    Known d = SoundConstructor E f.number p f.ty f.sort d.0.ty × (d.1 ≡ true → Small E f.sort only p d.0.ty)

    positive_makes : (at : ℕ) (C : Tree) → Makes (or_not_positive at (is_positive f.number p f.ty C)) (λ z. Positive f.number p f.ty C)
    positive_makes at C = go (is_positive f.number p f.ty C) (positive-decides f.number p f.ty C).0
      where
        go : (b : Bool) → (b ≡ true → Positive f.number p f.ty C) → Makes (or_not_positive at b) (λ z. Positive f.number p f.ty C)
        go true k = makes (λ z. Positive f.number p f.ty C) tt (k refl)
        go false k = refuses (λ z. Positive f.number p f.ty C) NotPositive at

    constructor_makes : (c : WrittenCon) → Makes (declared_constructor E start f only c) Known
    constructor_makes c =
        then_makes Free Known _ _ (taken_makes Free (resolved E (names_of f.params) c.type) (resolved_finds E (names_of f.params) c.type)) (λ C free.
        then_makes (λ z. Positive f.number p f.ty (generalized f.params C)) Known _ _ (positive_makes c.at (generalized f.params C)) (λ z positive.
        then_makes (SortsKnown E f.sort only f.params C) Known _ _ (sorts_make start f.sort only f.params C h free) (λ large sorts.
        then_makes (λ s. Strict E [] (Has (generalized f.params C) (Sort s))) Known _ _ (kernel_makes (λ s. Strict E [] (Has (generalized f.params C) (Sort s))) start (check_type E (generalized f.params C)) (type_yields E sound (generalized f.params C) (generalized_free f.params C h free))) (λ s typed.
        makes Known (record { name = c.name; ty = generalized f.params C }, large) (record { sort = s; typed = typed; positive = positive; arguments = sorts.0 }, sorts.1)))))

    first_or_later : (c : Constructor) (cs : List Constructor) → SoundConstructor E f.number p f.ty f.sort c.ty → ((k : ℕ) (e : Constructor) → slice_get cs k ≡ Some e → SoundConstructor E f.number p f.ty f.sort e.ty) → (k : ℕ) (e : Constructor) → slice_get (c ∷ cs) k ≡ Some e → SoundConstructor E f.number p f.ty f.sort e.ty
    first_or_later c cs new all zero e is = let same : c ≡ e = cc in subst (λ (q : Constructor). SoundConstructor E f.number p f.ty f.sort q.ty) same new
    first_or_later c cs new all (suc k) e is = all k e is

    more_known : (many : ℕ) (c : Constructor) (large : Bool) (ds : DeclaredConstructors) → Known (c, large) → AllKnown E f only many ds → AllKnown E f only (suc many) (one_more c large ds)
    more_known many c large ds k all = record {
      each = first_or_later c ds.0 k.0 all.each;
      small = λ e. let q = both large ds.1 e in (k.1 q.0, all.small q.1);
      as_many = ap suc all.as_many;
    }

    pub constructors_make : (cs : List WrittenCon) → Makes (declared_constructors E start f only cs) (AllKnown E f only (length cs))
    constructors_make [] = makes (AllKnown E f only 0) ([], true) (record { each = λ k c e. let no : ⊥ = cc in absurd no; small = λ e. tt; as_many = refl })
    constructors_make (c ∷ cs) =
        then_makes Known (AllKnown E f only (suc (length cs))) _ _ (constructor_makes c) (λ d known.
        then_makes (AllKnown E f only (length cs)) (AllKnown E f only (suc (length cs))) _ _ (constructors_make cs) (λ ds all.
        makes (AllKnown E f only (suc (length cs))) (one_more d.0 d.1 ds) (more_known (length cs) d.0 d.1 ds known all)))
