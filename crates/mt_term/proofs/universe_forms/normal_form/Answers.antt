use Rattle.std.proofs.Common.{◌≡◌, ℕ, cond, sym, ◌∙◌}
use Rattle.std.proofs.lemmas.Bool.{cond-true, cond-false}
use Rattle.mt_term.specs.UniverseForms.{with_atoms, is_below_an_atom}
use Rattle.mt_term.proofs.UniverseAtoms.{normal_form_is}
use Rattle.mt_term.proofs.universe_forms.normal_form.Goals as goal
use Rattle.mt_term.proofs.universe_forms.normal_form.Goals.{then-is_below_an_atom, else-is_below_an_atom}

pub returns : goal.returns
returns c =
    let u = c.args.u.now in
    let test : c.is_below_an_atom.result ≡ is_below_an_atom u.base u.atoms = c.is_below_an_atom.ensures ∙ (λ i. is_below_an_atom u.base (c.as_slice-2.ensures i)) in
    let base : c.if-is_below_an_atom.base ≡ cond {A = ℕ} (is_below_an_atom u.base u.atoms) 0 u.base = elim c.if-is_below_an_atom.branch [
      | then-is_below_an_atom w ↦ w.base-is ∙ sym (cond-true {A = ℕ} (is_below_an_atom u.base u.atoms) 0 u.base (sym test ∙ w.if-is_below_an_atom.true))
      | else-is_below_an_atom w ↦ w.base-is ∙ sym (cond-false {A = ℕ} (is_below_an_atom u.base u.atoms) 0 u.base (sym test ∙ w.if-is_below_an_atom.false))
    ] in
    let atoms = c.from_vec.ensures ∙ c.in_ok-add_atoms.ensures ∙ (λ i. with_atoms (c.as_slice.ensures i) (c.new-atoms.ensures.items i)) in
    normal_form_is u _ _ atoms base
