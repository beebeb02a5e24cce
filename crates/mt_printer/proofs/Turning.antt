-- Stacks of shown names, seen with the newest first.
use Rattle.std.proofs.Common.{◌≡◌, ◌∙◌, ◌<◌, ◌≤◌, ℕ, zero, suc, ◌+◌, ◌-◌, List, [], ◌∷◌, ◌++◌, length, drop, get_or, refl, sym, ap, arith, add-one, drop-cons}
use Rattle.std.specs.Prelude.{Bool, true, false, ◌||◌, Option, Some, None, slice_get, bytes_eq, option_to_list, MatchOption}
use Rattle.std.proofs.lemmas.Option.{slice_get_read}
use Rattle.mt_term.specs.Trees.{Bytes}
use Rattle.mt_printer.specs.Chosen.{Scope, is_one_of, shown_names}
use Rattle.mt_printer.specs.ScopeOf.{outer, turned}

pub turned_push : (xs : List (Option Bytes)) (x : Option Bytes) (s : Scope) → turned (xs ++ x ∷ []) s ≡ x ∷ turned xs s
turned_push [] x s = refl
turned_push (y ∷ ys) x s = turned_push ys x (y ∷ s)

empty : {A : Type 0} (xs : List A) → length xs ≡ 0 → xs ≡ []
empty [] e = refl
empty (x ∷ xs) e = absurd (omega (arith, e))

pub turned_pop : (xs ys : List (Option Bytes)) (o : Option (Option Bytes)) (n m : ℕ) → xs ≡ ys ++ option_to_list o → n ≡ length xs → m ≡ length ys → MatchOption o ((n ≡ 0) × (m ≡ 0)) (λ _. m + 1 ≡ n) → turned ys [] ≡ outer (turned xs [])
turned_pop xs ys None n m e a b c =
    ap (λ zs. turned zs []) (empty ys (sym b ∙ c.1)) ∙ sym (ap (λ zs. outer (turned zs [])) (empty xs (sym a ∙ c.0)))
turned_pop xs ys (Some x) n m e a b c = sym (ap (λ zs. outer (turned zs [])) e ∙ ap outer (turned_push ys x []))

or_first : (a b c : Bool) → (a || (b || c)) ≡ ((a || b) || c)
or_first true b c = refl
or_first false b c = refl

-- one more shown name
one_shown : (x : Option Bytes) (s : Scope) (n : Bytes) → is_one_of (shown_names (x ∷ s)) n ≡ (is_one_of (shown_names (x ∷ [])) n || is_one_of (shown_names s) n)
one_shown None s n = refl
one_shown (Some y) s n = elim (bytes_eq y n) as (λ b. (b || is_one_of (shown_names s) n) ≡ ((b || false) || is_one_of (shown_names s) n)) [ true ↦ refl | false ↦ refl ]

-- a name is among those of a stack over a scope
turned_over : (xs : List (Option Bytes)) (s : Scope) (n : Bytes) → is_one_of (shown_names (turned xs s)) n ≡ (is_one_of (shown_names (turned xs [])) n || is_one_of (shown_names s) n)
turned_over [] s n = refl
turned_over (x ∷ xs) s n =
    let A : Bool = is_one_of (shown_names (turned xs [])) n in
    let X : Bool = is_one_of (shown_names (x ∷ [])) n in
    let S : Bool = is_one_of (shown_names s) n in
    turned_over xs (x ∷ s) n ∙ ap (λ b. A || b) (one_shown x s n) ∙ or_first A X S ∙ ap (λ b. b || S) (sym (turned_over xs (x ∷ []) n))

or_swap : (a b : Bool) → (a || b) ≡ (b || a)
or_swap true true = refl
or_swap true false = refl
or_swap false true = refl
or_swap false false = refl

-- the oldest of a stack, and the rest
turned_first : (x : Option Bytes) (xs : List (Option Bytes)) (n : Bytes) → is_one_of (shown_names (turned (x ∷ xs) [])) n ≡ (is_one_of (shown_names (x ∷ [])) n || is_one_of (shown_names (turned xs [])) n)
turned_first x xs n = turned_over xs (x ∷ []) n ∙ or_swap (is_one_of (shown_names (turned xs [])) n) (is_one_of (shown_names (x ∷ [])) n)

or_true : (a b : Bool) → true ≡ a → true ≡ (a || b)
or_true true b e = refl
or_true false b e = cc

or_false : (a b : Bool) → a ≡ false → b ≡ (a || b)
or_false true b e = cc
or_false false b e = refl

-- the name at a place of the stack is shown
pub shown_here : (xs : List (Option Bytes)) (i : ℕ) (x : Option Bytes) (n : Bytes) → i < length xs → x ≡ get_or xs i x → true ≡ is_one_of (shown_names (x ∷ [])) n → is_one_of (shown_names (turned (drop i xs) [])) n ≡ is_one_of (shown_names (turned xs [])) n → true ≡ is_one_of (shown_names (turned xs [])) n
shown_here xs i x n lt is there same =
    or_true _ (is_one_of (shown_names (turned (drop (suc i) xs) [])) n) there ∙ sym (turned_first x (drop (suc i) xs) n) ∙ ap (λ y. is_one_of (shown_names (turned (y ∷ drop (suc i) xs) [])) n) is
    ∙ ap (λ ys. is_one_of (shown_names (turned ys [])) n) (sym (drop-cons xs i x lt)) ∙ same

-- the name at a place of the stack is another
pub shown_later : (xs : List (Option Bytes)) (i : ℕ) (x : Option Bytes) (n : Bytes) → i < length xs → x ≡ get_or xs i x → is_one_of (shown_names (x ∷ [])) n ≡ false → is_one_of (shown_names (turned (drop i xs) [])) n ≡ is_one_of (shown_names (turned xs [])) n → is_one_of (shown_names (turned (drop (i + 1) xs) [])) n ≡ is_one_of (shown_names (turned xs [])) n
shown_later xs i x n lt is other same =
    ap (λ k. is_one_of (shown_names (turned (drop k xs) [])) n) (add-one i) ∙ or_false (is_one_of (shown_names (x ∷ [])) n) (is_one_of (shown_names (turned (drop (suc i) xs) [])) n) other ∙ sym (turned_first x (drop (suc i) xs) n) ∙ ap (λ y. is_one_of (shown_names (turned (y ∷ drop (suc i) xs) [])) n) is
    ∙ ap (λ ys. is_one_of (shown_names (turned ys [])) n) (sym (drop-cons xs i x lt)) ∙ same

-- a place counted from the newest
turned_past : (xs : List (Option Bytes)) (s : Scope) (j : ℕ) → slice_get (turned xs s) (length xs + j) ≡ slice_get s j
turned_past [] s j = ap (slice_get s) (omega arith)
turned_past (x ∷ xs) s j = ap (slice_get (turned xs (x ∷ s))) (let e : suc (length xs) + j ≡ length xs + suc j = omega arith in e) ∙ turned_past xs (x ∷ s) (suc j)

turned_within : (xs : List (Option Bytes)) (s : Scope) (i j : ℕ) → suc (i + j) ≡ length xs → slice_get (turned xs s) i ≡ slice_get xs j
turned_within [] s i j e = absurd (omega arith)
turned_within (x ∷ xs) s i zero e = ap (slice_get (turned xs (x ∷ s))) (let f : i ≡ length xs + 0 = omega arith in f) ∙ turned_past xs (x ∷ s) 0
turned_within (x ∷ xs) s i (suc j) e = turned_within xs (x ∷ s) i j (omega arith)

-- the name at a place counted from the newest
pub turned_at : (xs : List (Option Bytes)) (n i : ℕ) (x : Option Bytes) → n ≡ length xs → i < n → x ≡ get_or xs (n - 1 - i) x → slice_get (turned xs []) i ≡ Some x
turned_at xs n i x e lt is = turned_within xs [] i (n - 1 - i) (omega (arith, e, lt)) ∙ slice_get_read xs n (n - 1 - i) x e (omega (arith, lt)) is

pub turned_none : (xs : List (Option Bytes)) (i : ℕ) → length xs ≤ i → slice_get (turned xs []) i ≡ None
turned_none xs i le = ap (slice_get (turned xs [])) (let f : i ≡ length xs + (i - length xs) = omega arith in f) ∙ turned_past xs [] (i - length xs)
