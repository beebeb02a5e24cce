-- Names of a context that are chosen one by one.
use Rattle.std.proofs.Common.{◌≡◌, ◌<◌, ◌∙◌, ℕ, zero, suc, ◌+◌, List, [], ◌∷◌, length, drop, refl, ap, sym, arith, add-one}
use Rattle.std.specs.Prelude.{slice_get}
use Rattle.mt_term.specs.Trees.{Tree, Bytes}
use Rattle.mt_term.specs.Declarations.{Declaration, Hypothesis}
use Rattle.mt_printer.specs.Contexts.{names_onto}
use Rattle.mt_printer.specs.EnvText.{alone, held}

-- the first of the hypotheses left
first_named : (es : List Declaration) (parts : List Tree) (hs : List Hypothesis) (n : ℕ) (xs : List Bytes) → n < length hs
    → names_onto es xs (drop n hs) parts ≡ names_onto es (names_onto es xs (held alone (slice_get hs n)) parts) (drop (suc n) hs) parts
first_named es parts [] n xs lt = absurd (omega arith)
first_named es parts (h ∷ hs) zero xs lt = refl
first_named es parts (h ∷ hs) (suc n) xs lt = first_named es parts hs n xs (omega arith)

-- one more hypothesis is named
pub names_more : (es : List Declaration) (parts : List Tree) (hs : List Hypothesis) (n : ℕ) (xs ys all : List Bytes) → n < length hs
    → names_onto es xs (drop n hs) parts ≡ all → ys ≡ names_onto es xs (held alone (slice_get hs n)) parts → names_onto es ys (drop (n + 1) hs) parts ≡ all
names_more es parts hs n xs ys all lt e w =
    ap (λ k. names_onto es ys (drop k hs) parts) (add-one n) ∙ ap (λ zs. names_onto es zs (drop (suc n) hs) parts) w ∙ sym (first_named es parts hs n xs lt) ∙ e
