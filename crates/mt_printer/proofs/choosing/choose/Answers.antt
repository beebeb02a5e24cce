use Rattle.std.proofs.Common.{◌≡◌, ◌∙◌, ◌++◌, List, sym, subst, ap, IfOk}
use Rattle.mt_term.specs.Trees.{Bytes}
use Rattle.mt_printer.specs.Chosen.{avoided_under, base_name, fit_name}
use Rattle.mt_printer.specs.NamedIn.{avoided_by, named_each}
use Rattle.mt_printer.specs.ScopeOf.{hypotheses_of, trees_behind}
use Rattle.mt_printer.specs.Telescopes.{types_in}
use Rattle.mt_printer.proofs.NamedLaws.{found_avoided}
use Rattle.mt_printer.proofs.choosing.choose.Goals as goal

pub returns : goal.returns
returns c =
    let es = c.args.entries.now in
    let s = c.args.scope.now in
    let ts = types_in (hypotheses_of c.args.hyps.now) in
    let us = trees_behind c.args.parts.now in
    let found : c.add_named_of_parts.new.found.items ≡ named_each ts ++ named_each us =
    c.in_ok-add_named_of_parts.ensures ∙ ap (λ xs. xs ++ named_each us) (c.in_ok-add_named_of_types.ensures ∙ ap (λ xs. xs ++ named_each ts) c.new-found.ensures.items) in
    let same : avoided_by es s c.deref.result.now ≡ avoided_under es s (ts ++ us) =
    ap (avoided_by es s) c.deref.ensures.value ∙ found_avoided es s ts us c.add_named_of_parts.new.found.items found in
    subst (λ (x : Bytes). IfOk c.fit_name.result (λ answer. answer ≡ fit_name (avoided_under es s (ts ++ us)) x)) c.base_name.ensures
    (subst (λ (xs : List Bytes). IfOk c.fit_name.result (λ answer. answer ≡ fit_name xs c.base_name.result.now)) same c.fit_name.ensures)
