-- None and Some are apart, and Some keeps what it holds.
use Rattle.std.proofs.Common.{◌≡◌, Option, Some, None, ap}

pub some_inj : {A : Type 0} {a b : A} → Some a ≡ Some b → a ≡ b
some_inj {a = a} e = ap (elim [ None ↦ a | Some x ↦ x ]) e

pub none_some : {A : Type 0} {a : A} → None ≡ Some a → ⊥
none_some e = cc
