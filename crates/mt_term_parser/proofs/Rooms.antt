-- A term where there is room, and where there is none.
use Rattle.std.proofs.Common.{◌≡◌, ℕ, zero, suc, ◌-◌, ◌<◌, List, sym, ap, ◌∙◌, arith}
use Rattle.mt_lexer.specs.declared.Token.{Token}
use Rattle.mt_term.specs.declared.refusals.Halt.{Halt}
use Rattle.mt_term.specs.declared.refusals.Halt.TheVariants as halt
use Rattle.mt_term_parser.specs.declared.terms.Lead.{Lead}
use Rattle.mt_term_parser.specs.Readings.{Reading, Got, then_read, needed, HaltsAs}
use Rattle.mt_term_parser.specs.Grammar.{lead_of, term, term_by, full}

pub term-opened : (room : ℕ) (text : List ℕ) (at : ℕ) (t : Token) (l : Lead) → 0 < room → needed text at ≡ Got t t.end → l ≡ lead_of text t
    → term room text at ≡ term_by l (term (room - 1) text) text t
term-opened zero text at t l some got e = absurd (omega arith)
term-opened (suc room) text at t l some got e =
    let less : suc room - 1 ≡ room = omega arith in
    ap (λ (r : Reading Token). then_read r (λ u _. term_by (lead_of text u) (term room text) text u)) got
    ∙ ap (λ m. term_by m (term room text) text t) (sym e)
    ∙ ap (λ n. term_by l (term n text) text t) (sym less)

pub term-halts : (room : ℕ) (text : List ℕ) (at : ℕ) (h : Halt) → HaltsAs (needed text at) h → HaltsAs (term room text at) h
term-halts zero text at (halt.Refused fault) stops = ap (λ (r : Reading Token). then_read r (λ u _. full (lead_of text u) u)) stops
term-halts zero text at halt.Spent stops = stops
term-halts zero text at halt.OutOfMemory stops = tt
term-halts (suc room) text at (halt.Refused fault) stops = ap (λ (r : Reading Token). then_read r (λ u _. term_by (lead_of text u) (term room text) text u)) stops
term-halts (suc room) text at halt.Spent stops = stops
term-halts (suc room) text at halt.OutOfMemory stops = tt
