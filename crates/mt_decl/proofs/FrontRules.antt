-- New names, as a program follows them.
use Rattle.std.specs.Prelude.{ℕ, ◌≡◌, ◌+◌, Bool, true, false, ◌||◌, if◌then◌else◌, List, [], ◌∷◌, suc, drop, Option, Some, None, is_some, map, slice_get, refl}
use Rattle.std.specs.Str.{bytes_eq}
use Rattle.std.proofs.Common.{ap, sym, ◌∙◌, arith}
use Rattle.mt_term.specs.Trees.{Tree, Bytes}
use Rattle.mt_term.specs.Declarations.{Environment}
use Rattle.mt_term.specs.Reasons.{Reason, Taken}
use Rattle.mt_term.specs.Naming.{Naming, find, named}
use Rattle.mt_unit_parser.specs.declared.units.RawCon.{RawCon}
use Rattle.mt_unit_parser.specs.UnitOf.{con_of}
use Rattle.mt_resolver.specs.Resolution.{Found, Faults, first_place, one_further}
use Rattle.mt_resolver.specs.TableOf.{AreNamesOf}
use Rattle.mt_decl.specs.Answers.{refuse, taken}
use Rattle.mt_decl.specs.Declaring.{is_something, stands_in, all_new, constructor_names}
use Rattle.mt_decl.specs.Fronts.{known, newness, names_in}
use Rattle.mt_decl.proofs.Sequences.{drop_one, drop_past}

-- ---- names that are known

something : (o : Option Tree) → is_something o ≡ is_some o
something None = refl
something (Some t) = refl

further : (o : Option ℕ) → is_some (one_further o) ≡ is_some o
further None = refl
further (Some i) = refl

standing : (ys : List Bytes) (x : Bytes) → stands_in x ys ≡ is_some (first_place ys x)
standing [] x = refl
standing (y ∷ ys) x = by (bytes_eq y x) (standing ys x)
  where
    by : (b : Bool) → stands_in x ys ≡ is_some (first_place ys x) → (b || stands_in x ys) ≡ is_some (if b then Some 0 else one_further (first_place ys x))
    by true e = refl
    by false e = e ∙ sym (further (first_place ys x))

in_table : (T : Naming) (E : Environment) (x : Bytes) → AreNamesOf T E.entries → is_something (named E.entries x) ≡ is_some (find T x)
in_table T E x names = something (named E.entries x) ∙ ap (λ (o : Option Tree). is_some o) (sym (names.each x))

pub known-taken : (T : Naming) (E : Environment) (earlier : List Bytes) (x : Bytes) → AreNamesOf T E.entries → is_some (find T x) ≡ true → known E earlier x ≡ true
unfolding known
known-taken T E earlier x names e = ap (λ b. b || stands_in x earlier) (in_table T E x names ∙ e)

pub known-else : (T : Naming) (E : Environment) (earlier : List Bytes) (x : Bytes) → AreNamesOf T E.entries → is_some (find T x) ≡ false → known E earlier x ≡ is_some (first_place earlier x)
unfolding known
known-else T E earlier x names e = ap (λ b. b || stands_in x earlier) (in_table T E x names ∙ e) ∙ standing earlier x

pub ruleset known_rules = (known-taken, known-else)

-- ---- names that are new

module _ (E : Environment) (start : ℕ) (earlier : List Bytes) (x : Bytes) where
  pub new-known : known E earlier x ≡ true → newness E start earlier (x ∷ []) ≡ Faults (Taken x) start
  unfolding newness
  new-known e = ap (λ b. if b then Faults (Taken x) start else Found tt) e

  pub new-fresh : known E earlier x ≡ false → newness E start earlier (x ∷ []) ≡ Found tt
  unfolding newness
  new-fresh e = ap (λ b. if b then Faults (Taken x) start else Found tt) e

  module _ (xs : List Bytes) where
    pub new-faults : (r : Reason) (at : ℕ) → newness E start earlier (x ∷ []) ≡ Faults r at → newness E start earlier (x ∷ xs) ≡ Faults r at
    unfolding newness
    new-faults r at e = by (known E earlier x) e
      where
        by : (b : Bool) → (if b then Faults (Taken x) start else Found (tt {0})) ≡ Faults r at → (if b then Faults (Taken x) start else newness E start (x ∷ earlier) xs) ≡ Faults r at
        by true f = f
        by false f = let no : ⊥ = cc in absurd no

    pub new-next : (z : Unit {0}) → newness E start earlier (x ∷ []) ≡ Found z → newness E start earlier (x ∷ xs) ≡ newness E start (x ∷ earlier) xs
    unfolding newness
    new-next z e = by (known E earlier x) e
      where
        by : (b : Bool) → (if b then Faults (Taken x) start else Found (tt {0})) ≡ Found z → (if b then Faults (Taken x) start else newness E start (x ∷ earlier) xs) ≡ newness E start (x ∷ earlier) xs
        by false f = refl
        by true f = let no : ⊥ = cc in absurd no

-- the names of constructors from a place on
module _ (E : Environment) (start : ℕ) (earlier : List Bytes) (cs : List RawCon) (k : ℕ) where
  pub new-none : slice_get cs k ≡ None → newness E start earlier (names_in (drop k cs)) ≡ Found tt
  unfolding newness
  new-none e = ap (λ ds. newness E start earlier (names_in ds)) (drop_past cs k e)

  module _ (c : RawCon) (at : slice_get cs k ≡ Some c) where
    pub new-con_faults : (r : Reason) (place : ℕ) → newness E start earlier (c.name ∷ []) ≡ Faults r place → newness E start earlier (names_in (drop k cs)) ≡ Faults r place
    new-con_faults r place e = ap (λ ds. newness E start earlier (names_in ds)) (drop_one cs k c at) ∙ new-faults E start earlier c.name (names_in (drop (suc k) cs)) r place e

    pub new-con_next : (z : Unit {0}) (next : ℕ) → next ≡ k + 1 → newness E start earlier (c.name ∷ []) ≡ Found z → newness E start earlier (names_in (drop k cs)) ≡ newness E start (c.name ∷ earlier) (names_in (drop next cs))
    new-con_next z next n e =
        let same : suc k ≡ next = omega arith in
        ap (λ ds. newness E start earlier (names_in ds)) (drop_one cs k c at) ∙ new-next E start earlier c.name (names_in (drop (suc k) cs)) z e
        ∙ ap (λ j. newness E start (c.name ∷ earlier) (names_in (drop j cs))) same

pub ruleset new_rules = (new-known, new-fresh, new-faults, new-next, new-none, new-con_faults, new-con_next)

-- what the definitions ask of new names
pub new_taken : (E : Environment) (start : ℕ) (earlier xs : List Bytes) (n : ℕ) → all_new E start earlier xs n ≡ taken (newness E start earlier xs) n
unfolding newness known
new_taken E start earlier [] n = refl
new_taken E start earlier (x ∷ xs) n = by (is_something (named E.entries x) || stands_in x earlier) (new_taken E start (x ∷ earlier) xs n)
  where
    by : (b : Bool) → all_new E start (x ∷ earlier) xs n ≡ taken (newness E start (x ∷ earlier) xs) n
        → (if b then refuse (Taken x) start else all_new E start (x ∷ earlier) xs) n ≡ taken (if b then Faults (Taken x) start else newness E start (x ∷ earlier) xs) n
    by true f = refl
    by false f = f

pub constructor_names_in : (cs : List RawCon) → constructor_names (map con_of cs) ≡ names_in cs
constructor_names_in [] = refl
constructor_names_in (c ∷ cs) = ap (λ xs. c.name ∷ xs) (constructor_names_in cs)
