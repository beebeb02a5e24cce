-- Larger environments: what holds over one with one more entry, or with one more constraint.
use Rattle.std.proofs.Common.{◌≡◌, ◌<◌, ℕ, zero, suc, true, false, List, [], ◌∷◌, ◌++◌, length, take, Some, refl, subst, arith}
use Rattle.std.specs.Prelude.{slice_get}
use Rattle.std.specs.List.{All}
use Rattle.std.proofs.lemmas.List.Elements.{All-nil, All-cons, All-head, All-tail}
use Rattle.mt_term.specs.Trees.{Tree, Bytes, Sort, Prod}
use Rattle.mt_term.specs.declared.universes.Sort.{Sort as AnySort}
use Rattle.mt_term.specs.declared.universes.Sort.TheVariants.{Prop, Typ}
use Rattle.mt_term.specs.declared.universes.UnivExpr.{UnivExpr}
use Rattle.mt_term.specs.Declarations.{Constructor, Declaration, Axiom, Inductive, Environment}
use Rattle.mt_term.specs.States.{Metavariable}
use Rattle.mt_term.specs.Universes.{Constraints, Satisfiable, IsAtMost, SortIsAtMost}
use Rattle.mt_term.specs.Stores.{no_store}
use Rattle.mt_calculus.specs.Typing.{Judgement, Has, Strict}
use Rattle.mt_calculus.specs.SoundEnvironment.{EachArgument, SortedAtMost, ArgumentSorts, SoundConstructor, LargeAllowed, not_prop, no_constructor, one_constructor, SoundEnvironment, SoundEntry, sound_axiom, sound_definition, sound_inductive, sound_recursive, sound_corecursive, with_entry}
use Rattle.mt_calculus_laws.proofs.DerivationLaws.{growth_law}
use Rattle.mt_universe.specs.Graphs.{declared}
use Rattle.mt_session.specs.Tasks.{universes_of, with_universes}
use Rattle.mt_session.specs.Ready.{IsTyped}
use Rattle.mt_session.proofs.Guarding.{guarded_elsewhere, co_guarded_elsewhere}

-- ---- lists

pub slice_more : {X : Type 0} (xs ys : List X) (n : ℕ) (x : X) → slice_get xs n ≡ Some x → slice_get (xs ++ ys) n ≡ Some x
slice_more [] ys n x is = let no : ⊥ = cc in absurd no
slice_more (y ∷ xs) ys zero x is = is
slice_more (y ∷ xs) ys (suc n) x is = slice_more xs ys n x is

pub slice_last : {X : Type 0} (xs : List X) (x : X) → slice_get (xs ++ x ∷ []) (length xs) ≡ Some x
slice_last [] x = refl
slice_last (y ∷ xs) x = slice_last xs x

pub slice_within : {X : Type 0} (xs : List X) (n : ℕ) (x : X) → slice_get xs n ≡ Some x → n < length xs
slice_within [] n x is = let no : ⊥ = cc in absurd no
slice_within (y ∷ xs) zero x is = omega arith
slice_within (y ∷ xs) (suc n) x is = let le = slice_within xs n x is in omega (arith, le)

-- an element of a list with one more was there, or is the new one at the end
pub place_more : {X : Type 0} (P : ℕ → X → Type 0) (xs : List X) (x : X) → P (length xs) x → ((n : ℕ) (y : X) → slice_get xs n ≡ Some y → P n y) → (n : ℕ) (y : X) → slice_get (xs ++ x ∷ []) n ≡ Some y → P n y
place_more P [] x p all zero y is = let same : x ≡ y = cc in subst (P 0) same p
place_more P [] x p all (suc n) y is = let no : ⊥ = cc in absurd no
place_more P (z ∷ xs) x p all zero y is = all zero y is
place_more P (z ∷ xs) x p all (suc n) y is = place_more (λ m. P (suc m)) xs x p (λ m w h. all (suc m) w h) n y is

-- ---- orders

all_front : {X : Type 0} (P : X → Type 0) (xs ys : List X) → All P (xs ++ ys) → All P xs
all_front P [] ys h = All-nil P
all_front P (x ∷ xs) ys h = All-cons P x xs (All-head P x (xs ++ ys) h) (all_front P xs ys (All-tail P x (xs ++ ys) h))

order_more : (cs ds : Constraints) (U V : UnivExpr) → IsAtMost cs U V → IsAtMost (cs ++ ds) U V
order_more cs ds U V h = λ v m. h v (all_front (λ (x : ℕ × ℕ). v x.0 < v x.1) cs ds m)

-- ---- larger environments

-- an environment has the entries of another, and gives at least the same order
pub record Wider (E E' : Environment) : Type 0 where
  pub entries : (c : ℕ) (d : Declaration) → slice_get E.entries c ≡ Some d → slice_get E'.entries c ≡ Some d
  pub below : (U V : UnivExpr) → IsAtMost E.below U V → IsAtMost E'.below U V

pub wider_entry : (E : Environment) (d : Declaration) → Wider E (with_entry E d)
wider_entry E d = record { entries = λ c e is. slice_more E.entries (d ∷ []) c e is; below = λ U V h. h }

pub wider_order : (E : Environment) (a b : Bytes) → Wider E (with_universes E (declared (universes_of E) a b))
wider_order E a b = record { entries = λ c e is. is; below = λ U V h. order_more E.below _ U V h }

pub typed_more : (E E' : Environment) → Wider E E' → (m : Metavariable) → IsTyped E m → IsTyped E' m
typed_more E E' w m h = record {
  context = h.context;
  sort = h.sort;
  ty = growth_law E E' w.entries w.below false no_store [] (Has m.ty (Sort h.sort)) h.ty;
  body = λ b e. growth_law E E' w.entries w.below false no_store [] (Has b m.ty) (h.body b e);
}

-- ---- entries under further constraints

sort_more : (cs ds : Constraints) → ((U V : UnivExpr) → IsAtMost cs U V → IsAtMost ds U V) → (r s : AnySort) → SortIsAtMost cs r s → SortIsAtMost ds r s
sort_more cs ds more Prop s h = tt
sort_more cs ds more (Typ u) Prop h = h
sort_more cs ds more (Typ u) (Typ w) h = more u w h

-- what holds of each argument's type
each_more : (P Q : List Tree → Tree → Type 0) → ((Γ : List Tree) (A : Tree) → P Γ A → Q Γ A) → (p : ℕ) (Γ : List Tree) (C : Tree) → EachArgument P p Γ C → EachArgument Q p Γ C
each_more P Q f zero Γ (Prod x A B) h = (f Γ A h.0, each_more P Q f zero (A ∷ Γ) B h.1)
each_more P Q f (suc p) Γ (Prod x A B) h = each_more P Q f p (A ∷ Γ) B h
each_more P Q f zero Γ _ h = tt
each_more P Q f (suc p) Γ _ h = tt

module _ (names names' : List Bytes) (cs ds : Constraints) (more : (U V : UnivExpr) → IsAtMost cs U V → IsAtMost ds U V) where
  abbrev old : List Declaration → Environment
  old es = record { entries = es; names = names; below = cs }

  abbrev new : List Declaration → Environment
  new es = record { entries = es; names = names'; below = ds }

  strict_more : (es : List Declaration) (Γ : List Tree) (J : Judgement) → Strict (old es) Γ J → Strict (new es) Γ J
  strict_more es Γ J h = growth_law (old es) (new es) (λ c d e. e) more false no_store Γ J h

  arguments_more : (es : List Declaration) (s : AnySort) (p : ℕ) (C : Tree) → ArgumentSorts (old es) s p C → ArgumentSorts (new es) s p C
  arguments_more es Prop p C h = tt
  arguments_more es (Typ u) p C h =
      each_more (SortedAtMost (old es) (Typ u)) (SortedAtMost (new es) (Typ u)) (λ Γ A a. (a.0, strict_more es Γ (Has A (Sort a.0)) a.1, sort_more cs ds more a.0 (Typ u) a.2)) p [] C h

  constructor_ordered : (es : List Declaration) (n p : ℕ) (T : Tree) (s : AnySort) (C : Tree) → SoundConstructor (old es) n p T s C → SoundConstructor (new es) n p T s C
  constructor_ordered es n p T s C h = record {
    sort = h.sort;
    typed = strict_more es [] (Has C (Sort h.sort)) h.typed;
    positive = h.positive;
    arguments = arguments_more es s p C h.arguments;
  }

  large_ordered : (es : List Declaration) (p : ℕ) (s : AnySort) (ks : List Constructor) → LargeAllowed (old es) p s ks → LargeAllowed (new es) p s ks
  large_ordered es p s ks not_prop = not_prop
  large_ordered es p s ks no_constructor = no_constructor
  large_ordered es p s ks (one_constructor {c = c} h) =
      one_constructor (each_more (λ Γ A. Strict (old es) Γ (Has A (Sort Prop))) (λ Γ A. Strict (new es) Γ (Has A (Sort Prop))) (λ Γ A a. strict_more es Γ (Has A (Sort Prop)) a) p [] c.ty h)

  -- an entry stays sound
  pub entry_ordered : (es : List Declaration) (n : ℕ) (d : Declaration) → SoundEntry (old es) n d → SoundEntry (new es) n d
  entry_ordered es n d (sound_axiom {T = T} {s = s} t) = sound_axiom (strict_more es [] (Has T (Sort s)) t)
  entry_ordered es n d (sound_definition {T = T} {b = b} {s = s} t u) = sound_definition (strict_more es [] (Has T (Sort s)) t) (strict_more es [] (Has b T) u)
  entry_ordered es n d (sound_inductive {x = x} {co = co} {p = p} {T = T} {cs = ks} {s = s} {r = r} t arity enough each large) =
      let known = es ++ Inductive x co p T [] true ∷ [] in
      sound_inductive (strict_more es [] (Has T (Sort r)) t) arity enough (λ k c e. constructor_ordered known n p T s c.ty (each k c e)) (λ e. large_ordered known p s ks (large e))
  entry_ordered es n d (sound_recursive {x = x} {T = T} {b = b} {s = s} t u g) =
      sound_recursive (strict_more es [] (Has T (Sort s)) t) (strict_more (es ++ Axiom x T ∷ []) [] (Has b T) u) (guarded_elsewhere es names names' cs ds n g)
  entry_ordered es n d (sound_corecursive {x = x} {T = T} {b = b} {s = s} t u g) =
      sound_corecursive (strict_more es [] (Has T (Sort s)) t) (strict_more (es ++ Axiom x T ∷ []) [] (Has b T) u) (co_guarded_elsewhere es names names' cs ds n g)

-- ---- sound environments

pub sound_order_more : (E : Environment) (a b : Bytes) → SoundEnvironment E → Satisfiable (declared (universes_of E) a b).below → SoundEnvironment (with_universes E (declared (universes_of E) a b))
sound_order_more E a b sound meets = record {
  satisfiable = meets;
  entries = λ n d is. entry_ordered E.names (declared (universes_of E) a b).names E.below (declared (universes_of E) a b).below (λ U V h. order_more E.below _ U V h) (take n E.entries) n d (sound.entries n d is);
}

pub sound_none : SoundEnvironment (record { entries = []; names = []; below = [] })
sound_none = record { satisfiable = ((λ n. 0), All-nil _); entries = λ n d is. let no : ⊥ = cc in absurd no }
