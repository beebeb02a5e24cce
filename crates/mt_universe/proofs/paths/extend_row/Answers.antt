use Rattle.std.proofs.Common.{◌≡◌, ◌≢◌, ◌+◌, ◌*◌, ◌<◌, max, length-set, get_or, sym, ap, ◌∙◌, arith, inl, inr, below_more}
use Rattle.std.proofs.lemmas.Bool.{cases_lt}
use Rattle.std.proofs.lemmas.List.{get_or_default}
use Rattle.mt_term.specs.UniverseOrder.{joined}
use Rattle.mt_universe.specs.Tables.{alone, entry}
use Rattle.mt_universe.proofs.TableLaws.{entry_in, entry_past_column, entry_written, entry_beside, joined_past_column}
use Rattle.mt_universe.proofs.paths.extend_row.Goals as goal

pub loop-b-preserved : goal.loop-b-preserved
loop-b-preserved c =
    let t = c.loop-b.paths in
    let b = c.loop-b.b in
    let row = c.args.row in
    let v = c.loop-b.invariant in
    let b_in : b < 256 = omega arith in
    let apart : c.args.high ≢ row = λ e. c.requires.apart (omega arith) (sym e) in
    let here : get_or t (256 * row + b) 0 ≡ entry c.args.paths.now row b =
    get_or_default t (256 * row + b) 0 (alone row b) (omega arith) ∙ sym (entry_in t row b c.requires.row_in b_in) ∙ v.rest b (omega arith) in
    let onward : c.length_of.result ≡ entry c.args.paths.now c.args.high b = c.length_of.ensures ∙ v.others c.args.high b apart in
    let value : c.max.result ≡ max (entry c.args.paths.now row b) (joined c.args.into (entry c.args.paths.now c.args.high b)) =
    c.max.ensures ∙ (λ i. max (here i) (c.join-through.ensures i)) ∙ ap (λ n. max (entry c.args.paths.now row b) (joined c.args.into n)) onward in
    record {
      size = simp length-set v.size;
      done = below_more _ _
          (λ q h. entry_beside t row b c.max.result v.size c.requires.row_in b_in row q (λ e f. omega arith) ∙ v.done q h)
          (entry_written t row b c.max.result v.size c.requires.row_in b_in ∙ value);
      rest = λ q h. entry_beside t row b c.max.result v.size c.requires.row_in b_in row q (λ e f. omega arith) ∙ v.rest q (omega arith);
      others = λ p q ne. entry_beside t row b c.max.result v.size c.requires.row_in b_in p q (λ e f. absurd (ne e)) ∙ v.others p q ne;
    }

pub returns-clause-row : goal.returns-clause-row
returns-clause-row c b =
    elim (cases_lt b 256) [
      | inl p ↦ c.loop-b.invariant.done b (omega arith)
      | inr p ↦ entry_past_column c.loop-b.paths c.args.row b p ∙ sym (entry_past_column c.args.paths.now c.args.row b p)
          ∙ sym (joined_past_column c.args.paths.now c.args.row c.args.into c.args.high b c.requires.high_in p)
    ]
