-- Scope: `axiom a : Prop.`, and a type n with one constructor o.
use Rattle.std.proofs.Common.{false, true, ◌<◌, [], ◌∷◌, arith}
use Rattle.std.specs.Prelude.{codes}
use Rattle.mt_term.specs.declared.universes.Sort.TheVariants.{Prop, Typ}
use Rattle.mt_term.specs.Trees.{Var, Sort, Lam, App, Const, Ind, Meta, End}
use Rattle.mt_term.specs.Declarations.{Axiom, Inductive, Environment}
use Rattle.mt_term.specs.Stores.{no_store}
use Rattle.mt_calculus.specs.Scopes.{InScope, Plain}

abbrev sample : Environment
sample = record { entries = Axiom (codes "a") (Sort Prop) ∷ Inductive (codes "n") false 0 (Sort (Typ (record { base = 0; atoms = [] }))) (record { name = codes "o"; ty = Ind 1 } ∷ []) true ∷ []; names = []; below = [] }

in_scope : InScope sample no_store 1 (Lam (codes "x") (Const 0) (App (Var 0) (Var 1)))
in_scope = (omega arith, (omega arith, omega arith))

no_such_variable : InScope sample no_store 1 (Var 1) → ⊥
no_such_variable h = omega arith

no_such_entry : InScope sample no_store 0 (Const 2) → ⊥
no_such_entry h = omega arith

no_metavariable_is_plain : Plain 0 (App (Const 0) (Meta 0 End)) → ⊥
no_metavariable_is_plain h = h.1
