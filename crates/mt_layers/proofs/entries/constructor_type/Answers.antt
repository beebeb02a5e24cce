use Rattle.mt_layers.proofs.entries.constructor_type.Goals as goal

pub returns-in-Some-Inductive-clause-held : goal.returns-in-Some-Inductive-clause-held
returns-in-Some-Inductive-clause-held c = λ m h.
    let below = c.in-Some-Inductive.ensures.held m h in
    let held = rw c.in-Some-Inductive.field-0-is at below in
    c.type_of_constructor.ensures.held m held.1
