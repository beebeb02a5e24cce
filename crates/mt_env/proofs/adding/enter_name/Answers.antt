use Rattle.std.proofs.Common.{◌≡◌, [], Some, None, ◌∙◌}
use Rattle.mt_env.specs.Names.{term_of}
use Rattle.mt_env.proofs.NameLaws.{distinct_clash}
use Rattle.mt_env.proofs.adding.enter_name.Goals as goal

pub returns-in-Some-clause-cause : goal.returns-in-Some-clause-cause
returns-in-Some-clause-cause c = λ d.
    distinct_clash c.args.table.now (c.args.name.now, term_of c.args.r) [] d
    (λ e. let f : Some (term_of c.in-Some.field-0) ≡ None = c.in-Some.ensures ∙ e in cc)
