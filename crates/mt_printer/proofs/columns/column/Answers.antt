use Rattle.std.proofs.Common.{◌∙◌, ◌+◌, List, ℕ, false, ap}
use Rattle.std.specs.Prelude.{slice_range, chars}
use Rattle.unicode_width.specs.Width.{str_width}
use Rattle.mt_printer.proofs.columns.column.Goals as goal

pub returns : goal.returns
returns c =
    ap (λ w. w + 1) c.width.ensures.value
    ∙ ap (λ (line : List ℕ). str_width false (chars line) + 1) (c.range-line.ensures.value ∙ ap (λ s. slice_range c.args.text.now s c.args.at) c.line_start-start.ensures.is)
