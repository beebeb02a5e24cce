use Rattle.std.proofs.Common.{sym, ◌∙◌}
use Rattle.mt_term.specs.EntryOf.{declaration_of}
use Rattle.mt_decl.proofs.FunctionRules.{said-no, said-yes}
use Rattle.mt_decl.proofs.functions.check_guard.Goals as goal

pub returns-then-branch-clause-guard : goal.returns-then-branch-clause-guard
returns-then-branch-clause-guard c =
    said-yes c.args.pool.now c.hold.new.pool c.args.held.now c.len.result c.in_ok-entry.entry (declaration_of c.args.function.now) c.args.start
    c.hold.ensures.kept c.requires.below c.len.ensures c.in_ok-entry.ensures.says (sym c.if-branch.true ∙ c.in_ok-is_entry_guarded.ensures.test)

pub returns-clause-guard : goal.returns-clause-guard
returns-clause-guard c =
    said-no c.args.pool.now c.hold.new.pool c.args.held.now c.len.result c.in_ok-entry.entry (declaration_of c.args.function.now) c.args.start
    c.hold.ensures.kept c.requires.below c.len.ensures c.in_ok-entry.ensures.says (sym c.if-branch.false ∙ c.in_ok-is_entry_guarded.ensures.test)
