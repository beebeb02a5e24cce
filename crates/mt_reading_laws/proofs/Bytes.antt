-- When two names are the same.
use Rattle.std.proofs.Common.{◌≡◌, ◌≢◌, ℕ, Bool, true, false, List, refl}
use Rattle.std.specs.Prelude.{bytes_eq, codes}
use Rattle.std.proofs.lemmas.Slice.Eq.{bytes_eq-Decides}
use Rattle.mt_reading_laws.specs.Names.{IsName}

apart-by : (x y : List ℕ) (b : Bool) → bytes_eq x y ≡ b → x ≢ y → b ≡ false
apart-by x y false e h = refl
apart-by x y true e h = absurd (h ((bytes_eq-Decides x y).0 e))

pub bytes-apart : (x y : List ℕ) → x ≢ y → bytes_eq x y ≡ false
bytes-apart x y h = apart-by x y (bytes_eq x y) refl h

pub bytes-same : (x : List ℕ) → bytes_eq x x ≡ true
bytes-same x = (bytes_eq-Decides x x).1 refl

pub bytes-equal : (x y : List ℕ) → bytes_eq x y ≡ true → x ≡ y
bytes-equal x y e = (bytes_eq-Decides x y).0 e

-- a name is not `_`
pub not-blank : (x : List ℕ) → IsName x → bytes_eq x (codes "_") ≡ false
not-blank x n = bytes-apart x (codes "_") n.named
