-- The script of a size: three declarations, and theorems on sums of numerals.
use Rattle.std.specs.Prelude.{ℕ, zero, suc, ◌+◌, ◌-◌, ◌%◌, Bool, true, false, eqb, if◌then◌else◌, List, [], ◌∷◌, ◌++◌, codes}
use Rattle.std.specs.Fmt.{decimal}
use Rattle.mt_term.specs.Trees.{Bytes}

-- ≝, → , ⇒ and ∀
abbrev pub becomes_sign : Bytes
becomes_sign = 226 ∷ 137 ∷ 157 ∷ []

abbrev pub arrow_sign : Bytes
arrow_sign = 226 ∷ 134 ∷ 146 ∷ []

abbrev pub gives_sign : Bytes
gives_sign = 226 ∷ 135 ∷ 146 ∷ []

abbrev pub forall_sign : Bytes
forall_sign = 226 ∷ 136 ∷ 128 ∷ []

abbrev pub line_end : Bytes
line_end = 10 ∷ []

-- numerals, equality and sums
unfoldable pub nat_line : Bytes
nat_line = codes "inductive nat : Type[0] " ++ becomes_sign ++ codes " O : nat | S : nat " ++ arrow_sign ++ codes " nat." ++ line_end

unfoldable pub eq_line : Bytes
eq_line = codes "inductive eq (A:Type[0]) (x:A) : A " ++ arrow_sign ++ codes " Prop " ++ becomes_sign ++ codes " refl : eq A x x." ++ line_end

unfoldable pub plus_line : Bytes
plus_line =
    codes "let rec plus (n:nat) (m:nat) on n : nat " ++ becomes_sign ++ codes " match n with [ O " ++ gives_sign ++ codes " m | S p " ++ gives_sign
    ++ codes " S (plus p m) ]." ++ line_end

unfoldable pub prelude : Bytes
prelude = nat_line ++ eq_line ++ plus_line

-- k times `S` on a name, in parentheses where it is an application and is to be an argument
abbrev pub raised : ℕ → Bytes → Bytes
raised zero x = x
raised (suc zero) x = codes "S " ++ x
raised (suc (suc k)) x = codes "S (" ++ raised (suc k) x ++ codes ")"

abbrev pub enclosed : ℕ → Bytes → Bytes
enclosed zero x = x
enclosed (suc k) x = codes "(" ++ x ++ codes ")"

-- k times `S` on a name, as an argument
abbrev pub raised_argument : ℕ → Bytes → Bytes
raised_argument k x = enclosed k (raised k x)

unfoldable pub quantified : Bytes
quantified = codes " : " ++ forall_sign ++ codes "n:nat.eq nat (plus "

abbrev pub proof_end : Bytes
proof_end = codes ". #n; @refl. qed." ++ line_end

unfoldable pub theorem_head : ℕ → Bytes
theorem_head i = codes "theorem t" ++ decimal i ++ quantified

-- the sum and its value, on k and a variable
unfoldable pub theorem_sides : ℕ → Bytes
theorem_sides k = raised_argument k (codes "O") ++ codes " n) " ++ raised_argument k (codes "n")

-- the theorem of a number
unfoldable pub theorem_on : ℕ → ℕ → Bytes
theorem_on i k = theorem_head i ++ theorem_sides k ++ proof_end

abbrev pub theorem_of : ℕ → Bytes
theorem_of i = theorem_on i (i % 10)

-- the theorems before a number
abbrev pub theorems : ℕ → Bytes
theorems zero = []
theorems (suc i) = theorems i ++ theorem_of i

unfoldable pub script : ℕ → Bytes
script size = prelude ++ theorems size
