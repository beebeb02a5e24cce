-- The arms of a match against constructors.
use Rattle.std.proofs.Common.{◌≡◌, ℕ, zero, suc, ◌+◌, Bool, true, false, not, ◌&&◌, List, [], ◌∷◌, drop, Option, Some, None, refl, sym, ap, ◌∙◌, arith}
use Rattle.std.specs.Prelude.{slice_get, nat_eq, length, if◌then◌else◌}
use Rattle.std.proofs.Math.Seq.{drop-nil}
use Rattle.std.specs.Str.{bytes_eq}
use Rattle.mt_term.specs.Trees.{Tree, Bytes}
use Rattle.mt_term.specs.Declarations.{Constructor, Declaration}
use Rattle.mt_term.specs.Substitution.{products}
use Rattle.mt_term.specs.Naming.{Naming, find, named}
use Rattle.mt_term_parser.specs.Written.{Written, Cases, NoCase, Case}
use Rattle.mt_resolver.specs.Built.{has_case}
use Rattle.mt_resolver.specs.Fitting.{fits}
use Rattle.mt_resolver.specs.Resolution.{name_all, name_those_of, only_fitting, type_of_constructor, type_of_first, type_of_arms}
use Rattle.mt_resolver.specs.TableOf.{AreNamesOf}

drop-one : (cs : List Constructor) (k : ℕ) (c : Constructor) → slice_get cs k ≡ Some c → drop k cs ≡ c ∷ drop (suc k) cs
drop-one [] k c e = let no : ⊥ = cc in absurd no
drop-one (b ∷ cs) zero c e = let same : b ≡ c = cc in ap (λ d. d ∷ cs) same
drop-one (b ∷ cs) (suc k) c e = drop-one cs k c e

drop-past : (cs : List Constructor) (k : ℕ) → slice_get cs k ≡ None → drop k cs ≡ []
drop-past [] k e = drop-nil k
drop-past (b ∷ cs) zero e = let no : ⊥ = cc in absurd no
drop-past (b ∷ cs) (suc k) e = drop-past cs k e

none-named : (p : ℕ) (arms : Cases) → name_all p [] arms ≡ not (has_case arms)
none-named p NoCase = refl
none-named p (Case x xs b arms) = refl

-- where no constructor is left
pub names-past : (p k : ℕ) (cs : List Constructor) (arms : Cases) → slice_get cs k ≡ None → name_all p (drop k cs) arms ≡ not (has_case arms)
names-past p k cs arms e = ap (λ ds. name_all p ds arms) (drop-past cs k e) ∙ none-named p arms

-- where no arm is left
pub names-missing : (p k : ℕ) (cs : List Constructor) (c : Constructor) → slice_get cs k ≡ Some c → name_all p (drop k cs) NoCase ≡ false
names-missing p k cs c e = ap (λ ds. name_all p ds NoCase) (drop-one cs k c e)

-- where an arm fits, and where it does not
module _ (p k : ℕ) (cs : List Constructor) (c : Constructor) (x : Bytes) (xs : List Bytes) (b : Written) (arms : Cases) (at : slice_get cs k ≡ Some c) where
  both : (a d r : Bool) → (a && d) ≡ true → (a && d && r) ≡ r
  both true true r e = refl
  both true false r e = let no : ⊥ = cc in absurd no
  both false d r e = let no : ⊥ = cc in absurd no

  either : (a d r : Bool) → (a && d) ≡ false → (a && d && r) ≡ false
  either true true r e = let no : ⊥ = cc in absurd no
  either true false r e = refl
  either false d r e = refl

  pub names-fitting : (next : ℕ) → next ≡ k + 1 → fits p c x xs ≡ true → name_all p (drop k cs) (Case x xs b arms) ≡ name_all p (drop next cs) arms
  unfolding fits
  names-fitting next n e =
      let same : suc k ≡ next = omega arith in
      ap (λ ds. name_all p ds (Case x xs b arms)) (drop-one cs k c at)
      ∙ both (bytes_eq c.name x) (nat_eq (length xs + p) (products c.ty)) (name_all p (drop (suc k) cs) arms) e
      ∙ ap (λ j. name_all p (drop j cs) arms) same

  pub names-unfit : fits p c x xs ≡ false → name_all p (drop k cs) (Case x xs b arms) ≡ false
  unfolding fits
  names-unfit e =
      ap (λ ds. name_all p ds (Case x xs b arms)) (drop-one cs k c at)
      ∙ either (bytes_eq c.name x) (nat_eq (length xs + p) (products c.ty)) (name_all p (drop (suc k) cs) arms) e

-- the type of the first arm, by a table of names
pub first-type : (T : Naming) (es : List Declaration) (x : Bytes) (o : Option Tree) → AreNamesOf T es → find T x ≡ o → type_of_constructor (named es x) ≡ type_of_constructor o
first-type T es x o names e = ap type_of_constructor (sym (names.each x) ∙ e)

module _ (es : List Declaration) (arms : Cases) where
  pub type-none : type_of_first es arms ≡ None → type_of_arms es arms ≡ None
  type-none e = ap (λ o. only_fitting es o arms) e

  pub type-fitting : (e : ℕ) → type_of_first es arms ≡ Some e → name_those_of (slice_get es e) arms ≡ true → type_of_arms es arms ≡ Some e
  type-fitting e f g = ap (λ o. only_fitting es o arms) f ∙ ap (λ b. if b then Some e else None) g

  pub type-unfit : (e : ℕ) → type_of_first es arms ≡ Some e → name_those_of (slice_get es e) arms ≡ false → type_of_arms es arms ≡ None
  type-unfit e f g = ap (λ o. only_fitting es o arms) f ∙ ap (λ b. if b then Some e else None) g

pub ruleset arm_rules = (names-past, names-missing, names-fitting, names-unfit, first-type, type-none, type-fitting, type-unfit)
