-- The names of a scope, and where they are found.
use Rattle.std.proofs.Common.{◌≡◌, ℕ, zero, suc, Bool, true, false, cond, ◌||◌, List, [], ◌∷◌, Option, Some, None, refl, sym, ap, ap₂, ◌∙◌}
use Rattle.std.specs.Prelude.{codes, bytes_eq, slice_get}
use Rattle.mt_term.specs.Trees.{Bytes}
use Rattle.mt_printer.specs.Chosen.{Scope, shown_names, is_one_of}
use Rattle.mt_printer.specs.TermText.{binder_text}
use Rattle.mt_resolver.specs.Resolution.{first_place, one_further}
use Rattle.mt_reading_laws.specs.Names.{IsName}
use Rattle.mt_reading_laws.proofs.Bytes.{bytes-apart, bytes-same}

-- the names that stand where variables are bound
abbrev pub names_of : Scope → List Bytes
names_of [] = []
names_of (o ∷ s) = binder_text o ∷ names_of s

-- a variable that is shown by a name, which is found as this variable
pub record IsSeen (s : Scope) (i : ℕ) : Type 0 where
  pub name : Bytes
  pub there : slice_get s i ≡ Some (Some name)
  pub good : IsName name
  pub found : first_place (names_of s) name ≡ Some i

pub or-true : (a b : Bool) → b ≡ true → (a || b) ≡ true
or-true true b e = refl
or-true false b e = e

pub or-false : (a b : Bool) → (a || b) ≡ false → (a ≡ false) × (b ≡ false)
or-false true b e = absurd (cc)
or-false false b e = (refl, e)

some-same : {A : Type 0} (x y : A) → Some x ≡ Some y → x ≡ y
some-same x y e = cc

pub shown-from : (s : Scope) (i : ℕ) (x : Bytes) → slice_get s i ≡ Some (Some x) → is_one_of (shown_names s) x ≡ true
shown-from [] i x e = absurd (cc)
shown-from (None ∷ s) zero x e = absurd (let z : None ≡ Some x = some-same None (Some x) e in cc)
shown-from (None ∷ s) (suc i) x e = shown-from s i x e
shown-from (Some y ∷ s) zero x e = ap (λ b. b || is_one_of (shown_names s) x) (ap (λ w. bytes_eq w x) (some-same y x (some-same (Some y) (Some x) e)) ∙ bytes-same x)
shown-from (Some y ∷ s) (suc i) x e = or-true (bytes_eq y x) (is_one_of (shown_names s) x) (shown-from s i x e)

blank-apart : (x : Bytes) → IsName x → bytes_eq (codes "_") x ≡ false
blank-apart x n = bytes-apart (codes "_") x (λ e. n.named (sym e))

-- a name that no variable is shown by
pub place-none : (s : Scope) (x : Bytes) → IsName x → is_one_of (shown_names s) x ≡ false → first_place (names_of s) x ≡ None
place-none [] x n e = refl
place-none (None ∷ s) x n e = ap₂ (λ b o. cond b (Some 0) (one_further o)) (blank-apart x n) (place-none s x n e)
place-none (Some y ∷ s) x n e =
    let parts = or-false (bytes_eq y x) (is_one_of (shown_names s) x) e in
    ap₂ (λ b o. cond b (Some 0) (one_further o)) parts.0 (place-none s x n parts.1)

-- ---- under a binder

-- a name that is new in a scope, or none
abbrev pub IsNew : Scope → Option Bytes → Type 0
IsNew s None = Unit {0}
IsNew s (Some c) = IsName c × (is_one_of (shown_names s) c ≡ false)

pub true-false : {A : Type 0} (b : Bool) → b ≡ true → b ≡ false → A
true-false b e h = absurd (cc)

other-binder : (s : Scope) (o : Option Bytes) (x : Bytes) → IsNew s o → IsName x → is_one_of (shown_names s) x ≡ true → bytes_eq (binder_text o) x ≡ false
other-binder s None x new n e = blank-apart x n
other-binder s (Some c) x new n e = bytes-apart c x (λ h. true-false (is_one_of (shown_names s) x) e (ap (is_one_of (shown_names s)) (sym h) ∙ new.1))

pub seen-under : (s : Scope) (o : Option Bytes) (i : ℕ) → IsNew s o → IsSeen s i → IsSeen (o ∷ s) (suc i)
seen-under s o i new v = record {
  name = v.name;
  there = v.there;
  good = v.good;
  found = ap₂ (λ b p. cond b (Some 0) (one_further p)) (other-binder s o v.name new v.good (shown-from s i v.name v.there)) v.found;
}

pub seen-first : (s : Scope) (c : Bytes) → IsName c → IsSeen (Some c ∷ s) 0
seen-first s c n = record { name = c; there = refl; good = n; found = ap (λ b. cond b (Some 0) (one_further (first_place (names_of s) c))) (bytes-same c) }
