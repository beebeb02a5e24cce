use Rattle.std.proofs.Common.{◌≡◌, ◌∙◌, ◌<◌, ◌≤◌, ◌+◌, ◌^◌, ℕ, length, sym, ap, arith, below_more}
use Rattle.std.proofs.Common.{rules}
use Rattle.std.proofs.lemmas.Grind.{common_steps}
use Rattle.std.specs.Prelude.{false, true}
use Rattle.mt_printer.specs.Chosen.{candidate, is_one_of}
use Rattle.mt_printer.specs.NamedIn.{avoided_by}
use Rattle.mt_printer.proofs.Fitting.{avoided_many, fit_at}
use Rattle.mt_printer.proofs.NamedLaws.{avoided_few}
use Rattle.mt_printer.proofs.choosing.fit_name.Goals as goal

pub returns-then-not-is_avoided : goal.returns-then-not-is_avoided
returns-then-not-is_avoided c =
    let avoided = avoided_by c.args.entries.now c.args.scope.now c.args.found.now in
    let k = c.loop-k.k in
    let fits : k < 2 ^ 64 = first_of (omega arith, search rules, grind (arith, common_steps)) in
    let off : c.is_avoided.result ≡ false = first_of (search (c.if-not-is_avoided.true), grind (arith, c.if-not-is_avoided.true)) in
    let fit : is_one_of avoided (candidate c.args.base.now k) ≡ false =
    ap (is_one_of avoided) (sym c.in_ok-answer.ensures ∙ sym c.as_bytes.ensures) ∙ sym c.is_avoided.ensures ∙ off in
    c.in_ok-answer.ensures ∙ sym (fit_at avoided c.args.base.now k fits c.loop-k.invariant fit)

pub loop-k-preserved : goal.loop-k-preserved
loop-k-preserved c =
    let avoided = avoided_by c.args.entries.now c.args.scope.now c.args.found.now in
    let on : c.is_avoided.result ≡ true = first_of (search (c.if-not-is_avoided.false), grind (arith, c.if-not-is_avoided.false)) in
    below_more _ _ c.loop-k.invariant
    (ap (is_one_of avoided) (sym c.in_ok-answer.ensures ∙ sym c.as_bytes.ensures) ∙ sym c.is_avoided.ensures ∙ on)

pub unreachable-requires : goal.unreachable-requires
unreachable-requires c =
    let es = c.args.entries.now in
    let s = c.args.scope.now in
    let found = c.args.found.now in
    let room : c.len.result + length found + 1 ≤ 2 ^ 64 = first_of (omega arith, search rules, grind (arith, common_steps)) in
    let among : (j : ℕ) → j < c.len.result + length found + 1 → is_one_of (avoided_by es s found) (candidate c.args.base.now j) ≡ true =
    λ j l. c.loop-k.invariant j (omega (arith, l, c.loop-k-test.false)) in
    let many = avoided_many (avoided_by es s found) c.args.base.now (c.len.result + length found + 1) room among in
    let few = avoided_few es s found in
    omega (arith, many, few, c.len.ensures.is)
