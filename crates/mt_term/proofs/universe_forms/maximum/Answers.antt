use Rattle.std.proofs.Common.{cond, ◌||◌, ◌∙◌, ap}
use Rattle.mt_term.specs.UniverseForms.{with_atoms, is_below_an_atom}
use Rattle.mt_term.proofs.UniverseAtoms.{maximum_is}
use Rattle.mt_term.proofs.universe_forms.maximum.Goals as goal

pub returns : goal.returns
returns c =
    let u = c.args.u.now in
    let w = c.args.w.now in
    let second = c.in_ok-add_atoms.ensures ∙ (λ i. with_atoms (c.as_slice.ensures i) (c.new-atoms.ensures.items i)) in
    let first = c.from_vec.ensures ∙ c.in_ok-add_atoms-2.ensures ∙ ap (λ ys. with_atoms ys c.add_atoms.new.atoms.items) c.as_slice-2.ensures in
    let base = c.base_beside.ensures ∙ (λ i. cond (is_below_an_atom (c.max.ensures i) (c.as_slice-3.ensures i) || is_below_an_atom (c.max.ensures i) (c.as_slice-4.ensures i)) 0 (c.max.ensures i)) in
    maximum_is u w _ _ _ second first base
