-- What a unit declares is a sound entry.
use Rattle.std.proofs.Common.{Bool, true, false, ◌≡◌, ◌≤◌, ℕ, nat_eq, List, [], ◌∷◌, length, Option, Some, None, refl, arith}
use Rattle.std.proofs.lemmas.Bool.Decides.{Decides-eqb}
use Rattle.mt_term.specs.Trees.{Tree, Bytes, Sort}
use Rattle.mt_term.specs.declared.universes.Sort.{Sort as AnySort}
use Rattle.mt_term.specs.declared.universes.Sort.TheVariants as sort
use Rattle.mt_term.specs.Declarations.{Hypothesis, Constructor, Declaration, Axiom, Definition, Inductive, Recursive, Environment}
use Rattle.mt_term.specs.Reasons.{NotASort, NotGuarded, NotHere}
use Rattle.mt_term.specs.Substitution.{products}
use Rattle.mt_calculus.specs.Typing.{Has, Strict}
use Rattle.mt_calculus.specs.SoundEnvironment.{Arity, LargeAllowed, not_prop, no_constructor, one_constructor, SoundEntry, sound_axiom, sound_definition, sound_inductive, sound_recursive, sound_corecursive, SoundEnvironment}
use Rattle.mt_calculus.specs.Guard.{GuardedRecursive, GuardedCorecursive}
use Rattle.mt_rules.specs.KernelCheck.{check_type, check}
use Rattle.mt_guard.specs.Deciding.{is_guarded}
use Rattle.mt_guard.specs.Corecursive.{is_co_guarded}
use Rattle.mt_guard.proofs.Deciding.{guarded-decides}
use Rattle.mt_guard.proofs.Corecursive.{co_guarded-decides}
use Rattle.mt_term_parser.specs.Written.{Written, Absent, Given}
use Rattle.mt_unit_parser.specs.WrittenUnits as unit
use Rattle.mt_unit_parser.specs.WrittenUnits.{WrittenGroup, WrittenType, WrittenFunction, WrittenKind}
use Rattle.mt_resolver.specs.Resolution.{first_place, resolved}
use Rattle.mt_decl.specs.Answers.{refuse, by_kernel}
use Rattle.mt_decl.specs.Telescopes.{abstracted, generalized, names_of, result_sort}
use Rattle.mt_decl.specs.Declaring.{all_new, constructor_names, resolved_groups, or_not_a_sort, NewFamily, declared_axiom, declared_definition, knowing, declared_family, declared_inductive, place_of, or_no_binder, or_not_guarded, assuming, function_rest, declared_recursive, declared_corecursive, declared_function, declared_entry}
use Rattle.mt_decl.specs.EntryLaws.{DeclaredLaw}
use Rattle.mt_decl.proofs.Free.{Free, FreeContext, resolved_finds, groups_find, generalized_free, abstracted_free}
use Rattle.mt_decl.proofs.Makes.{Makes, makes, refuses, then_makes, any_made, taken_makes, kernel_makes}
use Rattle.mt_decl.proofs.Entries.{sound_with}
use Rattle.mt_decl.proofs.Constructors.{type_yields, Checked, check_yields, arity_generalized, arity_of, many_products, AllSmall, AllKnown, constructors_make}

-- where all constructors allow it, so do their kinds
large_allowed : (E : Environment) (p : ℕ) (s : AnySort) (only : Bool) (many : ℕ) (cs : List Constructor) → (only ≡ true → many ≡ 1) → length cs ≡ many → AllSmall E s only p cs → LargeAllowed E p s cs
large_allowed E p (sort.Typ u) only many cs one as_many h = not_prop
large_allowed E p sort.Prop only many [] one as_many h = no_constructor
large_allowed E p sort.Prop only many (c ∷ []) one as_many h = one_constructor h.0.1
large_allowed E p sort.Prop only many (c ∷ d ∷ cs) one as_many h = absurd (omega (arith, one h.0.0, as_many))

-- ---- units

module _ (E : Environment) (sound : SoundEnvironment E) (start : ℕ) where
  abbrev Fine : Declaration → Type 0
  Fine d = SoundEntry E (length E.entries) d

  axiom_makes : (x : Bytes) (w : Written) → Makes (declared_axiom E start x w) Fine
  axiom_makes x w =
      then_makes (λ z. Unit {0}) Fine (all_new E start [] (x ∷ [])) _ (any_made (all_new E start [] (x ∷ []))) (λ z new.
      then_makes Free Fine _ _ (taken_makes Free (resolved E [] w) (resolved_finds E [] w)) (λ T free.
      then_makes (λ s. Strict E [] (Has T (Sort s))) Fine _ _ (kernel_makes (λ s. Strict E [] (Has T (Sort s))) start (check_type E T) (type_yields E sound T free)) (λ s typed.
      makes Fine (Axiom x T) (sound_axiom typed))))

  definition_makes : (x : Bytes) (w v : Written) → Makes (declared_definition E start x w v) Fine
  definition_makes x w v =
      then_makes (λ z. Unit {0}) Fine (all_new E start [] (x ∷ [])) _ (any_made (all_new E start [] (x ∷ []))) (λ z new.
      then_makes Free Fine _ _ (taken_makes Free (resolved E [] w) (resolved_finds E [] w)) (λ T closed.
      then_makes Free Fine _ _ (taken_makes Free (resolved E [] v) (resolved_finds E [] v)) (λ b free.
      then_makes (λ z. Checked E sound b T) Fine _ _ (kernel_makes (λ z. Checked E sound b T) start (check E b T) (check_yields E sound b T free closed)) (λ z c.
      makes Fine (Definition x T b) (sound_definition c.1 c.2)))))

  sort_makes : (o : Option AnySort) → Makes (or_not_a_sort start o) (λ s. o ≡ Some s)
  sort_makes None = refuses (λ s. None ≡ Some s) NotASort start
  sort_makes (Some s) = makes (λ r. Some s ≡ Some r) s refl

  -- an environment that knows the type is sound
  known_sound : (x : Bytes) (co : Bool) (p : ℕ) (T : Tree) (s r : AnySort) → Strict E [] (Has T (Sort r)) → Arity s T → p ≤ products T → SoundEnvironment (knowing E x co p T)
  known_sound x co p T s r typed arity enough =
      sound_with E sound (Inductive x co p T [] true) (sound_inductive {s = s} {r = r} typed arity enough (λ k c e. let no : ⊥ = cc in absurd no) (λ e. no_constructor))

  only_one : (n : ℕ) → nat_eq n 1 ≡ true → n ≡ 1
  only_one n e = (Decides-eqb n 1).0 e

  family_makes : (co : Bool) (t : WrittenType) (Γ : List Hypothesis) (T : Tree) (s r : AnySort) → FreeContext Γ → Strict E [] (Has T (Sort r)) → Arity s T → length Γ ≤ products T → Makes (declared_family E start co t Γ T s) Fine
  family_makes co t Γ T s r h typed arity enough =
      let known = known_sound t.name co (length Γ) T s r typed arity enough in
      let F : NewFamily = record { number = length E.entries; params = Γ; ty = T; sort = s } in
      let many = length t.cons in
      then_makes (AllKnown (knowing E t.name co (length Γ) T) F (nat_eq many 1) many) Fine _ _ (constructors_make (knowing E t.name co (length Γ) T) known start F h (nat_eq many 1) t.cons) (λ d all.
      makes Fine (Inductive t.name co (length Γ) T d.0 d.1) (sound_inductive {s = s} {r = r} typed arity enough all.each (λ e. large_allowed (knowing E t.name co (length Γ) T) (length Γ) s (nat_eq many 1) many d.0 (only_one many) all.as_many (all.small e))))

  inductive_makes : (co : Bool) (groups : List WrittenGroup) (t : WrittenType) → Makes (declared_inductive E start co groups t) Fine
  inductive_makes co groups t =
      then_makes (λ z. Unit {0}) Fine (all_new E start [] (t.name ∷ constructor_names t.cons)) _ (any_made (all_new E start [] (t.name ∷ constructor_names t.cons))) (λ z new.
      then_makes FreeContext Fine _ _ (taken_makes FreeContext (resolved_groups E [] groups) (groups_find E groups [] tt)) (λ Γ h.
      then_makes Free Fine _ _ (taken_makes Free (resolved E (names_of Γ) t.arity) (resolved_finds E (names_of Γ) t.arity)) (λ A free.
      then_makes (λ s. result_sort A ≡ Some s) Fine _ _ (sort_makes (result_sort A)) (λ s ends.
      then_makes (λ r. Strict E [] (Has (generalized Γ A) (Sort r))) Fine _ _ (kernel_makes (λ r. Strict E [] (Has (generalized Γ A) (Sort r))) start (check_type E (generalized Γ A)) (type_yields E sound (generalized Γ A) (generalized_free Γ A h free))) (λ r typed.
      let enough : length Γ ≤ products (generalized Γ A) = omega (arith, many_products Γ A) in
      family_makes co t Γ (generalized Γ A) s r h typed (arity_generalized s Γ A (arity_of s A ends)) enough)))))

  guard_makes : (P : Type 0) (b : Bool) → (b ≡ true → P) → Makes (or_not_guarded start b) (λ z. P)
  guard_makes P true h = makes (λ z. P) tt (h refl)
  guard_makes P false h = refuses (λ z. P) NotGuarded start

  module _ (f : WrittenFunction) (Γ : List Hypothesis) (h : FreeContext Γ) (T : Tree) (closed : Free T) (s : AnySort) (typed : Strict E [] (Has T (Sort s))) where
    assumed : SoundEnvironment (assuming E f.name T)
    assumed = sound_with E sound (Axiom f.name T) (sound_axiom typed)

    abbrev BodyChecked : Tree → Type 0
    BodyChecked b = Checked (assuming E f.name T) assumed (abstracted Γ b) T

    body_makes : (b : Tree) → Free b → Makes (by_kernel start (check (assuming E f.name T) (abstracted Γ b) T)) (λ z. BodyChecked b)
    body_makes b free = kernel_makes (λ z. BodyChecked b) start (check (assuming E f.name T) (abstracted Γ b) T) (check_yields (assuming E f.name T) assumed (abstracted Γ b) T (abstracted_free Γ b h free) closed)

    rest_makes : (is_guarded_for : Tree → Bool) (entry : Tree → Declaration) (G : Tree → Type 0) → ((b : Tree) → is_guarded_for b ≡ true → G b) → ((b : Tree) → Strict (assuming E f.name T) [] (Has b T) → G b → Fine (entry b)) → Makes (function_rest E start f Γ T is_guarded_for entry) Fine
    rest_makes is_guarded_for entry G guards fine =
        then_makes Free Fine _ _ (taken_makes Free (resolved (assuming E f.name T) (names_of Γ) f.body) (resolved_finds (assuming E f.name T) (names_of Γ) f.body)) (λ b free.
        then_makes (λ z. G (abstracted Γ b)) Fine _ _ (guard_makes (G (abstracted Γ b)) (is_guarded_for (abstracted Γ b)) (guards (abstracted Γ b))) (λ z guarded.
        then_makes (λ z. BodyChecked b) Fine _ _ (body_makes b free) (λ z c.
        makes Fine (entry (abstracted Γ b)) (fine (abstracted Γ b) c.2 guarded))))

  recursive_makes : (f : WrittenFunction) (y : Bytes) → Makes (declared_recursive E start f y) Fine
  recursive_makes f y =
      then_makes (λ z. Unit {0}) Fine (all_new E start [] (f.name ∷ [])) _ (any_made (all_new E start [] (f.name ∷ []))) (λ z new.
      then_makes FreeContext Fine _ _ (taken_makes FreeContext (resolved_groups E [] f.groups) (groups_find E f.groups [] tt)) (λ Γ h.
      then_makes Free Fine _ _ (taken_makes Free (resolved E (names_of Γ) f.type) (resolved_finds E (names_of Γ) f.type)) (λ T free.
      then_makes (λ r. Unit {0}) Fine (or_no_binder start y (place_of (length Γ) (first_place (names_of Γ) y))) _ (any_made (or_no_binder start y (place_of (length Γ) (first_place (names_of Γ) y)))) (λ r place.
      then_makes (λ s. Strict E [] (Has (generalized Γ T) (Sort s))) Fine _ _ (kernel_makes (λ s. Strict E [] (Has (generalized Γ T) (Sort s))) start (check_type E (generalized Γ T)) (type_yields E sound (generalized Γ T) (generalized_free Γ T h free))) (λ s typed.
      rest_makes f Γ h (generalized Γ T) (generalized_free Γ T h free) s typed (is_guarded E (length E.entries) (length Γ) r) (λ b. Recursive f.name false (length Γ) r (generalized Γ T) b false)
      (GuardedRecursive E (length E.entries) (length Γ) r) (λ b. (guarded-decides E (length E.entries) (length Γ) r b).0) (λ b has guarded. sound_recursive typed has guarded))))))

  corecursive_makes : (f : WrittenFunction) → Makes (declared_corecursive E start f) Fine
  corecursive_makes f =
      then_makes (λ z. Unit {0}) Fine (all_new E start [] (f.name ∷ [])) _ (any_made (all_new E start [] (f.name ∷ []))) (λ z new.
      then_makes FreeContext Fine _ _ (taken_makes FreeContext (resolved_groups E [] f.groups) (groups_find E f.groups [] tt)) (λ Γ h.
      then_makes Free Fine _ _ (taken_makes Free (resolved E (names_of Γ) f.type) (resolved_finds E (names_of Γ) f.type)) (λ T free.
      then_makes (λ s. Strict E [] (Has (generalized Γ T) (Sort s))) Fine _ _ (kernel_makes (λ s. Strict E [] (Has (generalized Γ T) (Sort s))) start (check_type E (generalized Γ T)) (type_yields E sound (generalized Γ T) (generalized_free Γ T h free))) (λ s typed.
      rest_makes f Γ h (generalized Γ T) (generalized_free Γ T h free) s typed (is_co_guarded E (length E.entries) (length Γ) (generalized Γ T)) (λ b. Recursive f.name true (length Γ) 0 (generalized Γ T) b false)
      (GuardedCorecursive E (length E.entries) (length Γ) (generalized Γ T)) (λ b. (co_guarded-decides E (length E.entries) (length Γ) (generalized Γ T) b).0) (λ b has guarded. sound_corecursive typed has guarded)))))

  function_makes : (co : Bool) (f : WrittenFunction) (on : Option Bytes) → Makes (declared_function E start co f on) Fine
  function_makes false f (Some y) = recursive_makes f y
  function_makes true f None = corecursive_makes f
  function_makes false f None = refuses Fine NotHere start
  function_makes true f (Some y) = refuses Fine NotHere start

  not_here : Makes (refuse NotHere start) Fine
  not_here = refuses Fine NotHere start

  entry_makes : (kind : WrittenKind) → Makes (declared_entry E start kind) Fine
  entry_makes (unit.Axiom x T) = axiom_makes x T
  entry_makes (unit.Definition x (Given T) b) = definition_makes x T b
  entry_makes (unit.Definition x Absent b) = not_here
  entry_makes (unit.Inductive co groups (t ∷ [])) = inductive_makes co groups t
  entry_makes (unit.Inductive co groups []) = not_here
  entry_makes (unit.Inductive co groups (t ∷ u ∷ ts)) = not_here
  entry_makes (unit.Recursive co (f ∷ [])) = function_makes co f f.on
  entry_makes (unit.Recursive co []) = not_here
  entry_makes (unit.Recursive co (f ∷ g ∷ fs)) = not_here
  entry_makes _ = not_here

pub declared_law : DeclaredLaw
declared_law E sound start kind d n l e = let new = entry_makes E sound start kind n d l e in (new, sound_with E sound d new)
