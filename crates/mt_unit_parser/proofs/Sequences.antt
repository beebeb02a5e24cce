-- A sequence where there is room.
use Rattle.std.proofs.Common.{◌≡◌, ℕ, zero, suc, ◌-◌, ◌<◌, List, sym, ap, ◌∙◌, arith}
use Rattle.mt_unit_parser.specs.Blocks.{items, sequence}

pub sequence-opened : (room : ℕ) (text : List ℕ) (at : ℕ) → 0 < room → sequence room text at ≡ items (200 - (room - 1)) (sequence (room - 1) text) text at
sequence-opened zero text at some = absurd (omega arith)
sequence-opened (suc room) text at some =
    let less : suc room - 1 ≡ room = omega arith in ap (λ n. items (200 - n) (sequence n text) text at) (sym less)

pub sequence-full : (room : ℕ) (text : List ℕ) (at : ℕ) → room ≡ 0 → sequence room text at ≡ sequence 0 text at
sequence-full room text at e = ap (λ n. sequence n text at) e
