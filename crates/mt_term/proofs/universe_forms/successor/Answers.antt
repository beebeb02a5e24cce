use Rattle.std.proofs.Common.{◌∙◌}
use Rattle.mt_term.proofs.UniverseAtoms.{raised_fits, raised_atom_past, raised_base_past}
use Rattle.mt_term.proofs.universe_forms.successor.Goals as goal

pub returns-in-None : goal.returns-in-None
returns-in-None c =
    let e = rw (c.in-None.is, c.as_slice.ensures) at c.in_ok-atoms.ensures in
    raised_atom_past c.args.u.now e

pub returns-in-Some-raised_base : goal.returns-in-Some-raised_base
returns-in-Some-raised_base c =
    let e = rw (c.in-Some.is, c.as_slice.ensures) at c.in_ok-atoms.ensures in
    let b = rw c.as_slice-2.ensures at c.in-Some-raised_base.ensures in
    raised_fits c.args.u.now _ _ b.1 (c.from_vec.ensures ∙ e.0) b.0 e.1

pub returns-in-None-raised_base : goal.returns-in-None-raised_base
returns-in-None-raised_base c =
    let b = rw c.as_slice-2.ensures at c.in-None-raised_base.ensures in
    raised_base_past c.args.u.now b
