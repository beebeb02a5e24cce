-- Steps over blanks and comments.
use Rattle.std.proofs.Common.{◌≡◌, ◌≢◌, ℕ, zero, suc, ◌<◌, ◌≤◌, false, List, length, Ok, Err, refl, ap, arith}
use Rattle.std.proofs.lemmas.Bool.Decides.{nat_tests}
use Rattle.mt_lexer.specs.declared.gaps.Piece.TheVariants.{Opening, Closing}
use Rattle.mt_lexer.specs.declared.LexStop.TheVariants.{Incomplete}
use Rattle.mt_lexer.proofs.Characters.{chars_from-end}
use Rattle.mt_lexer.specs.Tokens.{chars_from, piece, gap}

pub piece-opening : (depth c d : ℕ) → piece depth c d ≡ Opening → (c ≡ 40) × (d ≡ 42)
piece-opening zero c d e = grind (arith, nat_tests)
piece-opening (suc depth) c d e = grind (arith, nat_tests)

pub piece-closing : (depth c d : ℕ) → piece depth c d ≡ Closing → (c ≡ 42) × (d ≡ 41) × (0 < depth)
piece-closing zero c d e = grind (arith, nat_tests)
piece-closing (suc depth) c d e = grind (arith, nat_tests)

-- the end of the text
pub gap-end : (text : List ℕ) (depth at : ℕ) → length text ≤ at → depth ≡ 0 → gap depth false at (chars_from text at) ≡ Ok at
gap-end text zero at h e = ap (gap zero false at) (chars_from-end text at h)
gap-end text (suc depth) at h e = absurd (omega arith)

pub gap-open : (text : List ℕ) (depth at : ℕ) → length text ≤ at → depth ≢ 0 → gap depth false at (chars_from text at) ≡ Err (Incomplete at)
gap-open text zero at h e = absurd (e refl)
gap-open text (suc depth) at h e = ap (gap (suc depth) false at) (chars_from-end text at h)
