use Rattle.std.proofs.Common.{◌≡◌, ◌<◌, max, set, length, get_or, sym, ap, ◌∙◌, arith}
use Rattle.std.proofs.lemmas.List.{get_or_default}
use Rattle.mt_term.specs.declared.universes.Atom.{Atom}
use Rattle.mt_term.proofs.UniverseAtoms.{set_known}
use Rattle.mt_term.proofs.universe_forms.add_atom.Goals as goal

pub returns-then-index-atom-clause-ok : goal.returns-then-index-atom-clause-ok
returns-then-index-atom-clause-ok c =
    let a = c.args.atom in
    let xs = c.args.atoms.now.items in
    let i = c.place_of-place.result in
    let x = c.index.result.now in
    let y = c.index-then-index-atom.result.now in
    let lt : i < length xs = omega (arith, c.len.ensures) in
    let name : (get_or xs i x).name ≡ a.name = ap (λ (b : Atom). b.name) (sym c.index.ensures) ∙ c.if-index-atom.true in
    let offset : c.max-offset.result ≡ max a.offset (get_or xs i x).offset =
    c.max-offset.ensures ∙ ap (λ (b : Atom). max a.offset b.offset) (c.index-then-index-atom.ensures ∙ get_or_default xs i y x lt) in
    let before = rw c.deref.ensures.value at c.place_of-place.ensures.before in
    (λ j. set xs i (record { name = a.name; offset = offset j })) ∙ set_known a xs i x lt name before
