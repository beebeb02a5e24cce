-- What is taken by its names has no metavariable.
use Rattle.std.proofs.Common.{Bool, true, false, ◌≡◌, ℕ, suc, List, [], ◌∷◌, ◌++◌, Option, Some, None, refl, subst}
use Rattle.std.specs.Prelude.{if◌then◌else◌}
use Rattle.std.specs.Str.{bytes_eq}
use Rattle.mt_term.specs.Trees.{Tree, Arms, Bytes, Var, Prod, Lam, App, Match, NoArm, Arm}
use Rattle.mt_term.specs.Declarations.{Hypothesis, Constructor, Declaration, Axiom, Definition, Inductive, Recursive, Environment}
use Rattle.mt_term.specs.Reasons.{Reason, Unbound, NotHere}
use Rattle.mt_term.specs.Naming.{Naming, find, named, naming_from, naming_entry, naming_constructors, as_term, constructors_of}
use Rattle.mt_term.specs.Stores.{AllMetas, AllMetasArms, Mentions}
use Rattle.mt_term.proofs.ReachLaws.{term_of_all}
use Rattle.mt_rules_laws.proofs.Yields.{some_is, nothing}
use Rattle.mt_term_parser.specs.Written as raw
use Rattle.mt_term_parser.specs.Written.{Written, Form, Arguments, Cases, Term, Absent, Given, NoArgument, Argument, NoCase, Case}
use Rattle.mt_term_parser.specs.declared.raw.RawSort.{RawSort}
use Rattle.mt_term_parser.specs.declared.raw.RawSort.TheVariants as raw_sort
use Rattle.mt_unit_parser.specs.WrittenUnits.{WrittenGroup}
use Rattle.mt_resolver.specs.Resolution.{Resolution, Found, Faults, then_found, first_place, variable_or, or_unbound, or_bad, resolved_parts, resolved_sort, type_of_arms, with_binders, resolved, resolved_form, resolved_on, resolved_arms}
use Rattle.mt_decl.specs.Telescopes.{abstracted, generalized, names_of}
use Rattle.mt_decl.specs.Declaring.{resolved_groups}

-- no metavariable stands in a term
abbrev pub Free : Tree → Type 0
Free t = AllMetas (λ m. ⊥) t

abbrev pub FreeArms : Arms → Type 0
FreeArms bs = AllMetasArms (λ m. ⊥) bs

pub none_of : (t : Tree) → Free t → (m : ℕ) → Mentions m t → ⊥
none_of t free m h = term_of_all (λ m. ⊥) m t free h

-- ---- what is found

-- what is found has the property
abbrev pub Finds : {A : Type 0} → Resolution A → (A → Type 0) → Type 0
Finds {A = A} r P = (a : A) → r ≡ Found a → P a

found_is : {A : Type 0} {a b : A} → Found a ≡ Found b → a ≡ b
found_is e = cc

pub finds : {A : Type 0} (P : A → Type 0) (a : A) → P a → Finds (Found a) P
finds P a p b e = subst P (found_is e) p

pub then_finds : {A B : Type 0} (P : A → Type 0) (Q : B → Type 0) (r : Resolution A) (f : A → Resolution B) → Finds r P → ((a : A) → P a → Finds (f a) Q) → Finds (then_found r f) Q
then_finds P Q (Found a) f p q b e = q a (p a refl) b e
then_finds P Q (Faults r at) f p q b e = let no : ⊥ = cc in absurd no

none_finds : {A : Type 0} (P : A → Type 0) (r : Reason) (at : ℕ) → Finds (Faults r at) P
none_finds P r at a e = let no : ⊥ = cc in absurd no

any_found : {A : Type 0} (r : Resolution A) → Finds r (λ a. Unit {0})
any_found r a e = tt

-- ---- names

abbrev AllFree : Naming → Type 0
AllFree [] = Unit {0}
AllFree (n ∷ ns) = Free n.1 × AllFree ns

find_free : (ns : Naming) → AllFree ns → (x : Bytes) (t : Tree) → find ns x ≡ Some t → Free t
find_free [] h x t e = nothing e
find_free (n ∷ ns) h x t e = go (bytes_eq n.0 x) (λ f. find_free ns h.1 x t f) e
  where
    go : (b : Bool) → (find ns x ≡ Some t → Free t) → (if b then Some n.1 else find ns x) ≡ Some t → Free t
    go true later f = subst Free (some_is f) h.0
    go false later f = later f

both_free : (ns ms : Naming) → AllFree ns → AllFree ms → AllFree (ns ++ ms)
both_free [] ms h g = g
both_free (n ∷ ns) ms h g = (h.0, both_free ns ms h.1 g)

constructors_free : (n k : ℕ) (cs : List Constructor) → AllFree (naming_constructors n k cs)
constructors_free n k [] = tt
constructors_free n k (c ∷ cs) = (tt, constructors_free n (suc k) cs)

term_free : (n : ℕ) (d : Declaration) → Free (as_term n d)
term_free n (Axiom x T) = tt
term_free n (Definition x T b) = tt
term_free n (Inductive x co p T cs l) = tt
term_free n (Recursive x co m r T b made) = tt

entries_free : (n : ℕ) (ds : List Declaration) → AllFree (naming_from n ds)
entries_free n [] = tt
entries_free n (d ∷ ds) = both_free (naming_entry n d) (naming_from (suc n) ds) (term_free n d, constructors_free n 0 (constructors_of d)) (entries_free (suc n) ds)

-- ---- terms

sort_finds : (names : List Bytes) (at : ℕ) (s : RawSort) → Finds (resolved_sort names at s) Free
sort_finds names at raw_sort.Prop = finds Free _ tt
sort_finds names at (raw_sort.Typ parts) = then_finds (λ u. Unit {0}) Free (resolved_parts names at parts) _ (any_found (resolved_parts names at parts)) (λ u h. finds Free _ tt)

module _ (E : Environment) where
  name_finds : (x : Bytes) (at : ℕ) (p : Option ℕ) (o : Option Tree) → named E.entries x ≡ o → Finds (or_unbound x at (variable_or p o)) Free
  name_finds x at (Some i) o e = finds Free (Var i) tt
  name_finds x at None (Some t) e = finds Free t (find_free (naming_from 0 E.entries) (entries_free 0 E.entries) x t e)
  name_finds x at None None e = none_finds Free (Unbound x) at

  mutual
    pub resolved_finds : (Γ : List Bytes) (w : Written) → Finds (resolved E Γ w) Free
    resolved_finds Γ (Term at f) = form_finds Γ at f

    form_finds : (Γ : List Bytes) (at : ℕ) (f : Form) → Finds (resolved_form E Γ at f) Free
    form_finds Γ at (raw.Name x) = name_finds x at (first_place Γ x) (named E.entries x) refl
    form_finds Γ at (raw.Sort s) = sort_finds E.names at s
    form_finds Γ at (raw.Lam x (Given A) b) =
        then_finds Free Free (resolved E Γ A) _ (resolved_finds Γ A) (λ t h.
        then_finds Free Free (resolved E (x ∷ Γ) b) _ (resolved_finds (x ∷ Γ) b) (λ u g. finds Free (Lam x t u) (h, g)))
    form_finds Γ at (raw.Prod x A B) =
        then_finds Free Free (resolved E Γ A) _ (resolved_finds Γ A) (λ t h.
        then_finds Free Free (resolved E (x ∷ Γ) B) _ (resolved_finds (x ∷ Γ) B) (λ u g. finds Free (Prod x t u) (h, g)))
    form_finds Γ at (raw.App f args) = then_finds Free Free (resolved E Γ f) _ (resolved_finds Γ f) (λ t h. on_finds Γ t h args)
    form_finds Γ at (raw.Match c (Given R) arms) =
        then_finds Free Free (resolved E Γ c) _ (resolved_finds Γ c) (λ t h.
        then_finds (λ e. Unit {0}) Free (or_bad at (type_of_arms E.entries arms)) _ (any_found (or_bad at (type_of_arms E.entries arms))) (λ e i.
        then_finds Free Free (resolved E Γ R) _ (resolved_finds Γ R) (λ r g.
        then_finds FreeArms Free (resolved_arms E Γ arms) _ (arms_find Γ arms) (λ bs k. finds Free (Match e r t bs) (g, h, k)))))
    form_finds Γ at (raw.Lam x Absent b) = none_finds Free NotHere at
    form_finds Γ at (raw.Match c Absent arms) = none_finds Free NotHere at
    form_finds Γ at (raw.Con n k) = none_finds Free NotHere at
    form_finds Γ at raw.Hole = none_finds Free NotHere at
    form_finds Γ at raw.Vector = none_finds Free NotHere at
    form_finds Γ at (raw.Cast u T) = none_finds Free NotHere at

    on_finds : (Γ : List Bytes) (t : Tree) → Free t → (args : Arguments) → Finds (resolved_on E Γ t args) Free
    on_finds Γ t h NoArgument = finds Free t h
    on_finds Γ t h (Argument a args) = then_finds Free Free (resolved E Γ a) _ (resolved_finds Γ a) (λ u g. on_finds Γ (App t u) (h, g) args)

    arms_find : (Γ : List Bytes) (arms : Cases) → Finds (resolved_arms E Γ arms) FreeArms
    arms_find Γ NoCase = finds FreeArms NoArm tt
    arms_find Γ (Case x xs b arms) =
        then_finds Free FreeArms (resolved E (with_binders xs Γ) b) _ (resolved_finds (with_binders xs Γ) b) (λ t h.
        then_finds FreeArms FreeArms (resolved_arms E Γ arms) _ (arms_find Γ arms) (λ bs g. finds FreeArms (Arm xs t bs) (h, g)))

-- ---- contexts

-- no metavariable stands in a context
abbrev pub FreeContext : List Hypothesis → Type 0
FreeContext [] = Unit {0}
FreeContext (h ∷ Γ) = Free h.ty × FreeContext Γ

pub generalized_free : (Γ : List Hypothesis) (t : Tree) → FreeContext Γ → Free t → Free (generalized Γ t)
generalized_free [] t h g = g
generalized_free (x ∷ Γ) t h g = generalized_free Γ (Prod x.name x.ty t) h.1 (h.0, g)

pub abstracted_free : (Γ : List Hypothesis) (t : Tree) → FreeContext Γ → Free t → Free (abstracted Γ t)
abstracted_free [] t h g = g
abstracted_free (x ∷ Γ) t h g = abstracted_free Γ (Lam x.name x.ty t) h.1 (h.0, g)

pub groups_find : (E : Environment) (gs : List WrittenGroup) (Γ : List Hypothesis) → FreeContext Γ → Finds (resolved_groups E Γ gs) FreeContext
groups_find E [] Γ h = finds FreeContext Γ h
groups_find E (g ∷ gs) Γ h = then_finds Free FreeContext (resolved E (names_of Γ) g.type) _ (resolved_finds E (names_of Γ) g.type) (λ A f. groups_find E gs (record { name = g.name; ty = A } ∷ Γ) (f, h))
