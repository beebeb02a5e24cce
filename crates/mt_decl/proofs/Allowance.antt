-- What a unit declares goes by its allowance: one rule for each way to put an answer together.
use Rattle.std.specs.Prelude.{if◌then◌else◌}
use Rattle.std.proofs.Common.{Bool, true, false, ◌&&◌, ◌||◌, nat_eq, length, ◌≡◌, ◌≤◌, ◌+◌, ℕ, List, [], ◌∷◌, Option, Some, None, refl, ap, ◌∙◌, arith}
use Rattle.mt_term.specs.Trees.{Tree, Bytes, Sort, Prod}
use Rattle.mt_term.specs.Declarations.{Hypothesis, Environment, Declaration, Axiom, Definition, Inductive, Recursive}
use Rattle.mt_term.specs.Reasons.{Reason, Unbound, Taken, NotASort, NotPositive, NotGuarded, NotHere}
use Rattle.mt_rules.specs.Charges as charges
use Rattle.mt_rules.specs.Charges.{Outcome, Charged}
use Rattle.mt_rules_laws.specs.AllowanceLaws as outcomes
use Rattle.mt_term.specs.Stores.{no_store}
use Rattle.mt_rules.specs.KernelCheck.{check_type, check}
use Rattle.mt_term.specs.Naming.{named}
use Rattle.mt_term.specs.declared.universes.Sort.{Sort as AnySort}
use Rattle.mt_term.specs.declared.universes.Sort.TheVariants as sort
use Rattle.mt_rules_laws.proofs.AllowanceTheorem.{allowance_law as kernel_law}
use Rattle.mt_positivity.specs.Deciding.{is_positive}
use Rattle.mt_guard.specs.Deciding.{is_guarded}
use Rattle.mt_guard.specs.Corecursive.{is_co_guarded}
use Rattle.mt_term_parser.specs.Written.{Written, Absent, Given}
use Rattle.mt_unit_parser.specs.WrittenUnits as unit
use Rattle.mt_unit_parser.specs.WrittenUnits.{WrittenGroup, WrittenCon, WrittenType, WrittenFunction, WrittenKind}
use Rattle.mt_resolver.specs.Resolution.{Resolution, Found, Faults, first_place, resolved}
use Rattle.mt_decl.specs.Answers.{Answer, Made, Refused, Spent, Answering, make, refuse, and_then, ◌>>=◌, taken, from_kernel, by_kernel, yes_or_no, is_accepted}
use Rattle.mt_decl.specs.Telescopes.{abstracted, generalized, names_of, result_sort}
use Rattle.mt_decl.specs.Declaring.{is_something, stands_in, all_new, constructor_names, resolved_groups, or_not_a_sort, or_not_positive, argument_check, arguments_fit, do_arguments_fit, argument_sorts, NewFamily, one_more, declared_constructor, declared_constructors, declared_axiom, declared_definition, knowing, declared_family, declared_inductive, place_of, or_no_binder, or_not_guarded, assuming, function_rest, declared_recursive, declared_corecursive, declared_function, declared_entry}
use Rattle.mt_decl.specs.EntryLaws.{with_more, rest, GoesByAllowance, DeclaredAllowanceLaw}

-- ---- ways to put an answer together

pub make_goes : {A : Type 0} (a : A) → GoesByAllowance (make a)
make_goes a = (λ n i s. refl, λ n. omega arith)

pub refuse_goes : {A : Type 0} (r : Reason) (at : ℕ) → GoesByAllowance (refuse {A = A} r at)
refuse_goes r at = (λ n i s. refl, λ n. omega arith)

pub then_goes : {A B : Type 0} (m : Answering A) (f : A → Answering B) → GoesByAllowance m → ((a : A) → GoesByAllowance (f a)) → GoesByAllowance (m >>= f)
then_goes {A = A} {B = B} m f g h = (λ n i s. further (m n) (m (n + i)) i (g.0 n i) s, λ n. within (m n) n (g.1 n))
  where
    further : (o o' : Answer A) (i : ℕ) → ((o ≡ Spent → ⊥) → o' ≡ with_more i o) → (and_then o f ≡ Spent → ⊥) → and_then o' f ≡ with_more i (and_then o f)
    further (Made a l) o' i same s = ap (λ (q : Answer A). and_then q f) (same (λ e. cc)) ∙ (h a).0 l i s
    further (Refused r at l) o' i same s = ap (λ (q : Answer A). and_then q f) (same (λ e. cc))
    further Spent o' i same s = absurd (s refl)

    within : (o : Answer A) (n : ℕ) → rest o ≤ n → rest (and_then o f) ≤ n
    within (Made a l) n le = let less : rest (f a l) ≤ l = (h a).1 l in omega (arith, le, less)
    within (Refused r at l) n le = le
    within Spent n le = omega arith

pub if_goes : {A : Type 0} (b : Bool) (m m' : Answering A) → GoesByAllowance m → GoesByAllowance m' → GoesByAllowance (if b then m else m')
if_goes true m m' g h = g
if_goes false m m' g h = h

pub taken_goes : {A : Type 0} (r : Resolution A) → GoesByAllowance (taken r)
taken_goes (Found a) = make_goes a
taken_goes (Faults r at) = refuse_goes r at

pub kernel_goes : {A : Type 0} (at : ℕ) (m : Charged A) → outcomes.GoesByAllowance m → GoesByAllowance (by_kernel at m)
kernel_goes {A = A} at m g = (λ n i s. further (m n) (m (n + i)) i (g.0 n i) s, λ n. within (m n) n (g.1 n))
  where
    further : (o o' : Outcome A) (i : ℕ) → ((o ≡ charges.Spent → ⊥) → o' ≡ outcomes.with_more i o) → (from_kernel at o ≡ Spent → ⊥) → from_kernel at o' ≡ with_more i (from_kernel at o)
    further (charges.Done a l) o' i same s = ap (λ (q : Outcome A). from_kernel at q) (same (λ e. cc))
    further (charges.Refused r l) o' i same s = ap (λ (q : Outcome A). from_kernel at q) (same (λ e. cc))
    further charges.Spent o' i same s = absurd (s refl)

    within : (o : Outcome A) (n : ℕ) → charges.rest o ≤ n → rest (from_kernel at o) ≤ n
    within (charges.Done a l) n le = le
    within (charges.Refused r l) n le = le
    within charges.Spent n le = omega arith

pub accepted_goes : {A : Type 0} (m : Charged A) → outcomes.GoesByAllowance m → GoesByAllowance (is_accepted m)
accepted_goes {A = A} m g = (λ n i s. further (m n) (m (n + i)) i (g.0 n i) s, λ n. within (m n) n (g.1 n))
  where
    further : (o o' : Outcome A) (i : ℕ) → ((o ≡ charges.Spent → ⊥) → o' ≡ outcomes.with_more i o) → (yes_or_no o ≡ Spent → ⊥) → yes_or_no o' ≡ with_more i (yes_or_no o)
    further (charges.Done a l) o' i same s = ap (λ (q : Outcome A). yes_or_no q) (same (λ e. cc))
    further (charges.Refused r l) o' i same s = ap (λ (q : Outcome A). yes_or_no q) (same (λ e. cc))
    further charges.Spent o' i same s = absurd (s refl)

    within : (o : Outcome A) (n : ℕ) → charges.rest o ≤ n → rest (yes_or_no o) ≤ n
    within (charges.Done a l) n le = le
    within (charges.Refused r l) n le = le
    within charges.Spent n le = omega arith

pub type_goes : (E : Environment) (T : Tree) → outcomes.GoesByAllowance (check_type E T)
type_goes E T = (kernel_law E no_store).6 T

pub check_goes : (E : Environment) (t T : Tree) → outcomes.GoesByAllowance (check E t T)
check_goes E t T = (kernel_law E no_store).7 t T

-- ---- parts

pub new_goes : (E : Environment) (start : ℕ) (xs earlier : List Bytes) → GoesByAllowance (all_new E start earlier xs)
new_goes E start [] earlier = make_goes tt
new_goes E start (x ∷ xs) earlier = if_goes (is_something (named E.entries x) || stands_in x earlier) (refuse (Taken x) start) (all_new E start (x ∷ earlier) xs) (refuse_goes (Taken x) start) (new_goes E start xs (x ∷ earlier))

pub sort_goes : (start : ℕ) (o : Option AnySort) → GoesByAllowance (or_not_a_sort start o)
sort_goes start None = refuse_goes NotASort start
sort_goes start (Some s) = make_goes s

pub positive_goes : (at : ℕ) (b : Bool) → GoesByAllowance (or_not_positive at b)
positive_goes at true = make_goes tt
positive_goes at false = refuse_goes NotPositive at

pub guard_goes : (at : ℕ) (b : Bool) → GoesByAllowance (or_not_guarded at b)
guard_goes at true = make_goes tt
guard_goes at false = refuse_goes NotGuarded at

pub binder_goes : (start : ℕ) (y : Bytes) (o : Option ℕ) → GoesByAllowance (or_no_binder start y o)
binder_goes start y None = refuse_goes (Unbound y) start
binder_goes start y (Some r) = make_goes r

module _ (E : Environment) where
  pub argument_goes : (s : AnySort) (Γ : List Hypothesis) (A : Tree) → outcomes.GoesByAllowance (argument_check E s Γ A)
  argument_goes s Γ A = check_goes E (abstracted Γ A) (generalized Γ (Sort s))

  pub fit_goes : (start : ℕ) (s : AnySort) (Γ : List Hypothesis) (C : Tree) → GoesByAllowance (arguments_fit E start s Γ C)
  fit_goes start s Γ (Prod x A B) = then_goes (by_kernel start (argument_check E s Γ A)) _ (kernel_goes start (argument_check E s Γ A) (argument_goes s Γ A)) (λ z. fit_goes start s (record { name = x; ty = A } ∷ Γ) B)
  fit_goes start s Γ C = make_goes tt

  pub do_fit_goes : (s : AnySort) (Γ : List Hypothesis) (C : Tree) → GoesByAllowance (do_arguments_fit E s Γ C)
  do_fit_goes s Γ (Prod x A B) =
      then_goes (is_accepted (argument_check E s Γ A)) _ (accepted_goes (argument_check E s Γ A) (argument_goes s Γ A)) (λ b.
      then_goes (do_arguments_fit E s (record { name = x; ty = A } ∷ Γ) B) _ (do_fit_goes s (record { name = x; ty = A } ∷ Γ) B) (λ c. make_goes (b && c)))
  do_fit_goes s Γ C = make_goes true

  pub sorts_go : (start : ℕ) (s : AnySort) (only : Bool) (Γ : List Hypothesis) (C : Tree) → GoesByAllowance (argument_sorts E start s only Γ C)
  sorts_go start (sort.Typ u) only Γ C = then_goes (arguments_fit E start (sort.Typ u) Γ C) _ (fit_goes start (sort.Typ u) Γ C) (λ z. make_goes true)
  sorts_go start sort.Prop true Γ C = do_fit_goes sort.Prop Γ C
  sorts_go start sort.Prop false Γ C = make_goes false

  pub constructor_goes : (start : ℕ) (f : NewFamily) (only : Bool) (c : WrittenCon) → GoesByAllowance (declared_constructor E start f only c)
  constructor_goes start f only c =
      then_goes (taken (resolved E (names_of f.params) c.type)) _ (taken_goes (resolved E (names_of f.params) c.type)) (λ C.
      then_goes (or_not_positive c.at (is_positive f.number (length f.params) f.ty (generalized f.params C))) _ (positive_goes c.at (is_positive f.number (length f.params) f.ty (generalized f.params C))) (λ z.
      then_goes (argument_sorts E start f.sort only f.params C) _ (sorts_go start f.sort only f.params C) (λ large.
      then_goes (by_kernel start (check_type E (generalized f.params C))) _ (kernel_goes start (check_type E (generalized f.params C)) (type_goes E (generalized f.params C))) (λ s.
      make_goes (record { name = c.name; ty = generalized f.params C }, large)))))

  pub constructors_go : (start : ℕ) (f : NewFamily) (only : Bool) (cs : List WrittenCon) → GoesByAllowance (declared_constructors E start f only cs)
  constructors_go start f only [] = make_goes ([], true)
  constructors_go start f only (c ∷ cs) =
      then_goes (declared_constructor E start f only c) _ (constructor_goes start f only c) (λ d.
      then_goes (declared_constructors E start f only cs) _ (constructors_go start f only cs) (λ ds. make_goes (one_more d.0 d.1 ds)))

-- ---- units

module _ (E : Environment) (start : ℕ) where
  pub resolving : (Γ : List Bytes) (w : Written) → GoesByAllowance (taken (resolved E Γ w))
  resolving Γ w = taken_goes (resolved E Γ w)

  pub of_type : (T : Tree) → GoesByAllowance (by_kernel start (check_type E T))
  of_type T = kernel_goes start (check_type E T) (type_goes E T)

  pub axiom_goes : (x : Bytes) (w : Written) → GoesByAllowance (declared_axiom E start x w)
  axiom_goes x w =
      then_goes (all_new E start [] (x ∷ [])) _ (new_goes E start (x ∷ []) []) (λ z.
      then_goes (taken (resolved E [] w)) _ (resolving [] w) (λ T.
      then_goes (by_kernel start (check_type E T)) _ (of_type T) (λ s. make_goes (Axiom x T))))

  pub definition_goes : (x : Bytes) (w v : Written) → GoesByAllowance (declared_definition E start x w v)
  definition_goes x w v =
      then_goes (all_new E start [] (x ∷ [])) _ (new_goes E start (x ∷ []) []) (λ z.
      then_goes (taken (resolved E [] w)) _ (resolving [] w) (λ T.
      then_goes (taken (resolved E [] v)) _ (resolving [] v) (λ b.
      then_goes (by_kernel start (check E b T)) _ (kernel_goes start (check E b T) (check_goes E b T)) (λ s. make_goes (Definition x T b)))))

  pub family_goes : (co : Bool) (t : WrittenType) (Γ : List Hypothesis) (T : Tree) (s : AnySort) → GoesByAllowance (declared_family E start co t Γ T s)
  family_goes co t Γ T s =
      let F : NewFamily = record { number = length E.entries; params = Γ; ty = T; sort = s } in
      then_goes (declared_constructors (knowing E t.name co (length Γ) T) start F (nat_eq (length t.cons) 1) t.cons) _ (constructors_go (knowing E t.name co (length Γ) T) start F (nat_eq (length t.cons) 1) t.cons) (λ d.
      make_goes (Inductive t.name co (length Γ) T d.0 d.1))

  pub inductive_goes : (co : Bool) (groups : List WrittenGroup) (t : WrittenType) → GoesByAllowance (declared_inductive E start co groups t)
  inductive_goes co groups t =
      then_goes (all_new E start [] (t.name ∷ constructor_names t.cons)) _ (new_goes E start (t.name ∷ constructor_names t.cons) []) (λ z.
      then_goes (taken (resolved_groups E [] groups)) _ (taken_goes (resolved_groups E [] groups)) (λ Γ.
      then_goes (taken (resolved E (names_of Γ) t.arity)) _ (resolving (names_of Γ) t.arity) (λ A.
      then_goes (or_not_a_sort start (result_sort A)) _ (sort_goes start (result_sort A)) (λ s.
      then_goes (by_kernel start (check_type E (generalized Γ A))) _ (of_type (generalized Γ A)) (λ r. family_goes co t Γ (generalized Γ A) s)))))

  pub body_goes : (f : WrittenFunction) (Γ : List Hypothesis) (T : Tree) (guard : Tree → Bool) (made : Tree → Declaration) → GoesByAllowance (function_rest E start f Γ T guard made)
  body_goes f Γ T guard made =
      then_goes (taken (resolved (assuming E f.name T) (names_of Γ) f.body)) _ (taken_goes (resolved (assuming E f.name T) (names_of Γ) f.body)) (λ b.
      then_goes (or_not_guarded start (guard (abstracted Γ b))) _ (guard_goes start (guard (abstracted Γ b))) (λ z.
      then_goes (by_kernel start (check (assuming E f.name T) (abstracted Γ b) T)) _ (kernel_goes start (check (assuming E f.name T) (abstracted Γ b) T) (check_goes (assuming E f.name T) (abstracted Γ b) T)) (λ y.
      make_goes (made (abstracted Γ b)))))

  pub recursive_goes : (f : WrittenFunction) (y : Bytes) → GoesByAllowance (declared_recursive E start f y)
  recursive_goes f y =
      then_goes (all_new E start [] (f.name ∷ [])) _ (new_goes E start (f.name ∷ []) []) (λ z.
      then_goes (taken (resolved_groups E [] f.groups)) _ (taken_goes (resolved_groups E [] f.groups)) (λ Γ.
      then_goes (taken (resolved E (names_of Γ) f.type)) _ (resolving (names_of Γ) f.type) (λ T.
      then_goes (or_no_binder start y (place_of (length Γ) (first_place (names_of Γ) y))) _ (binder_goes start y (place_of (length Γ) (first_place (names_of Γ) y))) (λ r.
      then_goes (by_kernel start (check_type E (generalized Γ T))) _ (of_type (generalized Γ T)) (λ s.
      body_goes f Γ (generalized Γ T) (is_guarded E (length E.entries) (length Γ) r) (λ b. Recursive f.name false (length Γ) r (generalized Γ T) b false))))))

  pub corecursive_goes : (f : WrittenFunction) → GoesByAllowance (declared_corecursive E start f)
  corecursive_goes f =
      then_goes (all_new E start [] (f.name ∷ [])) _ (new_goes E start (f.name ∷ []) []) (λ z.
      then_goes (taken (resolved_groups E [] f.groups)) _ (taken_goes (resolved_groups E [] f.groups)) (λ Γ.
      then_goes (taken (resolved E (names_of Γ) f.type)) _ (resolving (names_of Γ) f.type) (λ T.
      then_goes (by_kernel start (check_type E (generalized Γ T))) _ (of_type (generalized Γ T)) (λ s.
      body_goes f Γ (generalized Γ T) (is_co_guarded E (length E.entries) (length Γ) (generalized Γ T)) (λ b. Recursive f.name true (length Γ) 0 (generalized Γ T) b false)))))

  pub function_goes : (co : Bool) (f : WrittenFunction) (on : Option Bytes) → GoesByAllowance (declared_function E start co f on)
  function_goes false f (Some y) = recursive_goes f y
  function_goes true f None = corecursive_goes f
  function_goes false f None = refuse_goes NotHere start
  function_goes true f (Some y) = refuse_goes NotHere start

  pub entry_goes : (kind : WrittenKind) → GoesByAllowance (declared_entry E start kind)
  entry_goes (unit.Axiom x T) = axiom_goes x T
  entry_goes (unit.Definition x (Given T) b) = definition_goes x T b
  entry_goes (unit.Definition x Absent b) = refuse_goes NotHere start
  entry_goes (unit.Inductive co groups (t ∷ [])) = inductive_goes co groups t
  entry_goes (unit.Inductive co groups []) = refuse_goes NotHere start
  entry_goes (unit.Inductive co groups (t ∷ u ∷ ts)) = refuse_goes NotHere start
  entry_goes (unit.Recursive co (f ∷ [])) = function_goes co f f.on
  entry_goes (unit.Recursive co []) = refuse_goes NotHere start
  entry_goes (unit.Recursive co (f ∷ g ∷ fs)) = refuse_goes NotHere start
  entry_goes _ = refuse_goes NotHere start

pub allowance_law : DeclaredAllowanceLaw
allowance_law E start kind = entry_goes E start kind
