-- No name stands twice with what a unit declares.
use Rattle.std.specs.Prelude.{if◌then◌else◌}
use Rattle.std.specs.Str.{bytes_eq}
use Rattle.std.proofs.Common.{Bool, true, false, ◌||◌, nat_eq, length, ◌≡◌, ℕ, suc, List, [], ◌∷◌, ◌++◌, Option, Some, None, refl, sym, ap, ◌∙◌, subst, append_assoc}
use Rattle.std.proofs.lemmas.List.{append-nil}
use Rattle.mt_term.specs.Trees.{Tree, Bytes}
use Rattle.mt_term.specs.Declarations.{Hypothesis, Constructor, Declaration, Axiom, Definition, Inductive, Recursive, Environment}
use Rattle.mt_term.specs.Reasons.{Taken, NotHere}
use Rattle.mt_term.specs.Naming.{Naming, find, named, naming, naming_entry, naming_constructors}
use Rattle.mt_rules.specs.KernelCheck.{check_type, check}
use Rattle.mt_term.specs.declared.universes.Sort.{Sort as AnySort}
use Rattle.mt_positivity.specs.Deciding.{is_positive}
use Rattle.mt_guard.specs.Deciding.{is_guarded}
use Rattle.mt_guard.specs.Corecursive.{is_co_guarded}
use Rattle.mt_term_parser.specs.Written.{Written, Absent, Given}
use Rattle.mt_unit_parser.specs.WrittenUnits as unit
use Rattle.mt_unit_parser.specs.WrittenUnits.{WrittenGroup, WrittenCon, WrittenType, WrittenFunction, WrittenKind}
use Rattle.mt_resolver.specs.Resolution.{first_place, resolved}
use Rattle.mt_resolver.proofs.Tables.{or_else, find-append}
use Rattle.mt_env.specs.Names.{Distinct}
use Rattle.mt_env.proofs.NameLaws.{distinct_more}
use Rattle.mt_env.proofs.NamingLaws.{naming_last}
use Rattle.mt_decl.specs.Answers.{refuse, taken, by_kernel}
use Rattle.mt_decl.specs.Telescopes.{abstracted, generalized, names_of, result_sort}
use Rattle.mt_decl.specs.Declaring.{is_something, stands_in, all_new, constructor_names, resolved_groups, or_not_a_sort, or_not_positive, argument_sorts, NewFamily, DeclaredConstructors, one_more, declared_constructor, declared_constructors, declared_axiom, declared_definition, knowing, declared_family, declared_inductive, place_of, or_no_binder, or_not_guarded, assuming, function_rest, declared_recursive, declared_corecursive, declared_function, declared_entry}
use Rattle.mt_decl.specs.EntryLaws.{DeclaredNamesLaw}
use Rattle.mt_decl.proofs.Makes.{Makes, makes, refuses, then_makes, so_makes, any_made}

abbrev names_in : Naming → List Bytes
names_in [] = []
names_in (m ∷ ms) = m.0 ∷ names_in ms

-- names that are new one after the other
abbrev New : Naming → List Bytes → List Bytes → Type 0
New old earlier [] = Unit {0}
New old earlier (x ∷ xs) = (find old x ≡ None) × (stands_in x earlier ≡ false) × New old (x ∷ earlier) xs

new_makes : (E : Environment) (start : ℕ) (xs earlier : List Bytes) → Makes (all_new E start earlier xs) (λ z. New (naming E.entries) earlier xs)
new_makes E start [] earlier = makes (λ z. New (naming E.entries) earlier []) tt tt
new_makes E start (x ∷ xs) earlier = go (named E.entries x) refl (stands_in x earlier) refl (new_makes E start xs (x ∷ earlier))
  where
    go : (o : Option Tree) → named E.entries x ≡ o → (b : Bool) → stands_in x earlier ≡ b → Makes (all_new E start (x ∷ earlier) xs) (λ z. New (naming E.entries) (x ∷ earlier) xs)
        → Makes (if is_something o || b then refuse (Taken x) start else all_new E start (x ∷ earlier) xs) (λ z. New (naming E.entries) earlier (x ∷ xs))
    go (Some t) e b f more = refuses (λ z. New (naming E.entries) earlier (x ∷ xs)) (Taken x) start
    go None e true f more = refuses (λ z. New (naming E.entries) earlier (x ∷ xs)) (Taken x) start
    go None e false f more = so_makes (λ z. New (naming E.entries) (x ∷ earlier) xs) (λ z. New (naming E.entries) earlier (x ∷ xs)) (all_new E start (x ∷ earlier) xs) (λ z h. (e, f, h)) more

-- ---- new names after others

-- what is neither among the old names nor the earlier ones is not found
abbrev Passed : Naming → List Bytes → Naming → Type 0
Passed old earlier acc = (y : Bytes) → find old y ≡ None → stands_in y earlier ≡ false → find acc y ≡ None

neither : (a b : Bool) → (a || b) ≡ false → (a ≡ false) × (b ≡ false)
neither true b e = let no : ⊥ = cc in absurd no
neither false b e = (refl, e)

passed_more : (old : Naming) (earlier : List Bytes) (acc : Naming) (m : Bytes × Tree) → Passed old earlier acc → Passed old (m.0 ∷ earlier) (acc ++ m ∷ [])
passed_more old earlier acc m p y a b =
    let q = neither (bytes_eq m.0 y) (stands_in y earlier) b in
    find-append acc (m ∷ []) y ∙ ap (λ o. or_else o (find (m ∷ []) y)) (p y a q.1) ∙ ap (λ (c : Bool). if c then Some m.1 else None) q.0

walk : (old : Naming) (new : Naming) (earlier : List Bytes) (acc : Naming) → Distinct acc → Passed old earlier acc → New old earlier (names_in new) → Distinct (acc ++ new)
walk old [] earlier acc d p h = subst Distinct (sym (append-nil acc)) d
walk old (m ∷ new) earlier acc d p h =
    subst Distinct (append_assoc acc (m ∷ []) new)
    (walk old new (m.0 ∷ earlier) (acc ++ m ∷ []) (distinct_more acc m d (p m.0 h.0 h.1)) (passed_more old earlier acc m p) h.2)

distinct_with : (es : List Declaration) (d : Declaration) → Distinct (naming es) → New (naming es) [] (names_in (naming_entry (length es) d)) → Distinct (naming (es ++ d ∷ []))
distinct_with es d h new = subst Distinct (sym (naming_last es d)) (walk (naming es) (naming_entry (length es) d) [] (naming es) h (λ y a b. a) new)

-- ---- the names of what is declared

abbrev names_of_constructors : List Constructor → List Bytes
names_of_constructors [] = []
names_of_constructors (c ∷ cs) = c.name ∷ names_of_constructors cs

their_names : (n k : ℕ) (cs : List Constructor) → names_in (naming_constructors n k cs) ≡ names_of_constructors cs
their_names n k [] = refl
their_names n k (c ∷ cs) = ap (λ xs. c.name ∷ xs) (their_names n (suc k) cs)

constructor_named : (E : Environment) (start : ℕ) (f : NewFamily) (only : Bool) (c : WrittenCon) → Makes (declared_constructor E start f only c) (λ d. d.0.name ≡ c.name)
constructor_named E start f only c =
    then_makes (λ z. Unit {0}) (λ d. d.0.name ≡ c.name) (taken (resolved E (names_of f.params) c.type)) _ (any_made (taken (resolved E (names_of f.params) c.type))) (λ C u.
    then_makes (λ z. Unit {0}) (λ d. d.0.name ≡ c.name) (or_not_positive c.at (is_positive f.number (length f.params) f.ty (generalized f.params C))) _ (any_made (or_not_positive c.at (is_positive f.number (length f.params) f.ty (generalized f.params C)))) (λ z u.
    then_makes (λ z. Unit {0}) (λ d. d.0.name ≡ c.name) (argument_sorts E start f.sort only f.params C) _ (any_made (argument_sorts E start f.sort only f.params C)) (λ large u.
    then_makes (λ z. Unit {0}) (λ d. d.0.name ≡ c.name) (by_kernel start (check_type E (generalized f.params C))) _ (any_made (by_kernel start (check_type E (generalized f.params C)))) (λ s u.
    makes (λ d. d.0.name ≡ c.name) (record { name = c.name; ty = generalized f.params C }, large) refl))))

abbrev Named : List WrittenCon → DeclaredConstructors → Type 0
Named cs ds = names_of_constructors ds.0 ≡ constructor_names cs

both_named : (c : WrittenCon) (cs : List WrittenCon) (d : Constructor) (large : Bool) (ds : DeclaredConstructors) → d.name ≡ c.name → Named cs ds → Named (c ∷ cs) (one_more d large ds)
both_named c cs d large ds e f = ap (λ (x : Bytes). x ∷ names_of_constructors ds.0) e ∙ ap (λ (xs : List Bytes). c.name ∷ xs) f

constructors_named : (E : Environment) (start : ℕ) (f : NewFamily) (only : Bool) (cs : List WrittenCon) → Makes (declared_constructors E start f only cs) (Named cs)
constructors_named E start f only [] = makes (Named []) ([], true) refl
constructors_named E start f only (c ∷ cs) =
    then_makes (λ d. d.0.name ≡ c.name) (Named (c ∷ cs)) (declared_constructor E start f only c) _ (constructor_named E start f only c) (λ d e.
    then_makes (Named cs) (Named (c ∷ cs)) (declared_constructors E start f only cs) _ (constructors_named E start f only cs) (λ ds g.
    makes (Named (c ∷ cs)) (one_more d.0 d.1 ds) (both_named c cs d.0 d.1 ds e g)))

module _ (E : Environment) (start : ℕ) where
  abbrev Fresh : Declaration → Type 0
  Fresh d = New (naming E.entries) [] (names_in (naming_entry (length E.entries) d))

  abbrev Free : List Bytes → Type 0
  Free xs = New (naming E.entries) [] xs

  axiom_named : (x : Bytes) (w : Written) → Makes (declared_axiom E start x w) Fresh
  axiom_named x w =
      then_makes (λ z. Free (x ∷ [])) Fresh (all_new E start [] (x ∷ [])) _ (new_makes E start (x ∷ []) []) (λ z new.
      then_makes (λ z. Unit {0}) Fresh (taken (resolved E [] w)) _ (any_made (taken (resolved E [] w))) (λ T u.
      then_makes (λ z. Unit {0}) Fresh (by_kernel start (check_type E T)) _ (any_made (by_kernel start (check_type E T))) (λ s u. makes Fresh (Axiom x T) new)))

  definition_named : (x : Bytes) (w v : Written) → Makes (declared_definition E start x w v) Fresh
  definition_named x w v =
      then_makes (λ z. Free (x ∷ [])) Fresh (all_new E start [] (x ∷ [])) _ (new_makes E start (x ∷ []) []) (λ z new.
      then_makes (λ z. Unit {0}) Fresh (taken (resolved E [] w)) _ (any_made (taken (resolved E [] w))) (λ T u.
      then_makes (λ z. Unit {0}) Fresh (taken (resolved E [] v)) _ (any_made (taken (resolved E [] v))) (λ b u.
      then_makes (λ z. Unit {0}) Fresh (by_kernel start (check E b T)) _ (any_made (by_kernel start (check E b T))) (λ s u. makes Fresh (Definition x T b) new))))

  family_named : (co : Bool) (t : WrittenType) (Γ : List Hypothesis) (T : Tree) (s : AnySort) → Free (t.name ∷ constructor_names t.cons) → Makes (declared_family E start co t Γ T s) Fresh
  family_named co t Γ T s new =
      let K : Environment = knowing E t.name co (length Γ) T in
      let F : NewFamily = record { number = length E.entries; params = Γ; ty = T; sort = s } in
      then_makes (Named t.cons) Fresh (declared_constructors K start F (nat_eq (length t.cons) 1) t.cons) _ (constructors_named K start F (nat_eq (length t.cons) 1) t.cons) (λ d named.
      makes Fresh (Inductive t.name co (length Γ) T d.0 d.1) (subst (λ (xs : List Bytes). Free (t.name ∷ xs)) (sym (their_names (length E.entries) 0 d.0 ∙ named)) new))

  inductive_named : (co : Bool) (groups : List WrittenGroup) (t : WrittenType) → Makes (declared_inductive E start co groups t) Fresh
  inductive_named co groups t =
      then_makes (λ z. Free (t.name ∷ constructor_names t.cons)) Fresh (all_new E start [] (t.name ∷ constructor_names t.cons)) _ (new_makes E start (t.name ∷ constructor_names t.cons) []) (λ z new.
      then_makes (λ z. Unit {0}) Fresh (taken (resolved_groups E [] groups)) _ (any_made (taken (resolved_groups E [] groups))) (λ Γ u.
      then_makes (λ z. Unit {0}) Fresh (taken (resolved E (names_of Γ) t.arity)) _ (any_made (taken (resolved E (names_of Γ) t.arity))) (λ A u.
      then_makes (λ z. Unit {0}) Fresh (or_not_a_sort start (result_sort A)) _ (any_made (or_not_a_sort start (result_sort A))) (λ s u.
      then_makes (λ z. Unit {0}) Fresh (by_kernel start (check_type E (generalized Γ A))) _ (any_made (by_kernel start (check_type E (generalized Γ A)))) (λ r u. family_named co t Γ (generalized Γ A) s new)))))

  rest_named : (f : WrittenFunction) (Γ : List Hypothesis) (T : Tree) (guard : Tree → Bool) (entry : Tree → Declaration) → ((b : Tree) → Fresh (entry b)) → Makes (function_rest E start f Γ T guard entry) Fresh
  rest_named f Γ T guard entry fresh =
      then_makes (λ z. Unit {0}) Fresh (taken (resolved (assuming E f.name T) (names_of Γ) f.body)) _ (any_made (taken (resolved (assuming E f.name T) (names_of Γ) f.body))) (λ b u.
      then_makes (λ z. Unit {0}) Fresh (or_not_guarded start (guard (abstracted Γ b))) _ (any_made (or_not_guarded start (guard (abstracted Γ b)))) (λ z u.
      then_makes (λ z. Unit {0}) Fresh (by_kernel start (check (assuming E f.name T) (abstracted Γ b) T)) _ (any_made (by_kernel start (check (assuming E f.name T) (abstracted Γ b) T))) (λ y u.
      makes Fresh (entry (abstracted Γ b)) (fresh (abstracted Γ b)))))

  recursive_named : (f : WrittenFunction) (y : Bytes) → Makes (declared_recursive E start f y) Fresh
  recursive_named f y =
      then_makes (λ z. Free (f.name ∷ [])) Fresh (all_new E start [] (f.name ∷ [])) _ (new_makes E start (f.name ∷ []) []) (λ z new.
      then_makes (λ z. Unit {0}) Fresh (taken (resolved_groups E [] f.groups)) _ (any_made (taken (resolved_groups E [] f.groups))) (λ Γ u.
      then_makes (λ z. Unit {0}) Fresh (taken (resolved E (names_of Γ) f.type)) _ (any_made (taken (resolved E (names_of Γ) f.type))) (λ T u.
      then_makes (λ z. Unit {0}) Fresh (or_no_binder start y (place_of (length Γ) (first_place (names_of Γ) y))) _ (any_made (or_no_binder start y (place_of (length Γ) (first_place (names_of Γ) y)))) (λ r u.
      then_makes (λ z. Unit {0}) Fresh (by_kernel start (check_type E (generalized Γ T))) _ (any_made (by_kernel start (check_type E (generalized Γ T)))) (λ s u.
      rest_named f Γ (generalized Γ T) (is_guarded E (length E.entries) (length Γ) r) (λ b. Recursive f.name false (length Γ) r (generalized Γ T) b false) (λ b. new))))))

  corecursive_named : (f : WrittenFunction) → Makes (declared_corecursive E start f) Fresh
  corecursive_named f =
      then_makes (λ z. Free (f.name ∷ [])) Fresh (all_new E start [] (f.name ∷ [])) _ (new_makes E start (f.name ∷ []) []) (λ z new.
      then_makes (λ z. Unit {0}) Fresh (taken (resolved_groups E [] f.groups)) _ (any_made (taken (resolved_groups E [] f.groups))) (λ Γ u.
      then_makes (λ z. Unit {0}) Fresh (taken (resolved E (names_of Γ) f.type)) _ (any_made (taken (resolved E (names_of Γ) f.type))) (λ T u.
      then_makes (λ z. Unit {0}) Fresh (by_kernel start (check_type E (generalized Γ T))) _ (any_made (by_kernel start (check_type E (generalized Γ T)))) (λ s u.
      rest_named f Γ (generalized Γ T) (is_co_guarded E (length E.entries) (length Γ) (generalized Γ T)) (λ b. Recursive f.name true (length Γ) 0 (generalized Γ T) b false) (λ b. new)))))

  function_named : (co : Bool) (f : WrittenFunction) (on : Option Bytes) → Makes (declared_function E start co f on) Fresh
  function_named false f (Some y) = recursive_named f y
  function_named true f None = corecursive_named f
  function_named false f None = refuses Fresh NotHere start
  function_named true f (Some y) = refuses Fresh NotHere start

  entry_named : (kind : WrittenKind) → Makes (declared_entry E start kind) Fresh
  entry_named (unit.Axiom x T) = axiom_named x T
  entry_named (unit.Definition x (Given T) b) = definition_named x T b
  entry_named (unit.Definition x Absent b) = refuses Fresh NotHere start
  entry_named (unit.Inductive co groups (t ∷ [])) = inductive_named co groups t
  entry_named (unit.Inductive co groups []) = refuses Fresh NotHere start
  entry_named (unit.Inductive co groups (t ∷ u ∷ ts)) = refuses Fresh NotHere start
  entry_named (unit.Recursive co (f ∷ [])) = function_named co f f.on
  entry_named (unit.Recursive co []) = refuses Fresh NotHere start
  entry_named (unit.Recursive co (f ∷ g ∷ fs)) = refuses Fresh NotHere start
  entry_named _ = refuses Fresh NotHere start

pub names_law : DeclaredNamesLaw
names_law E start kind d n l e h = distinct_with E.entries d h (entry_named E start kind n d l e)
