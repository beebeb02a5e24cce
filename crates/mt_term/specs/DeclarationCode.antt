-- How hypotheses, constructors and declarations are stored.
use Rattle.std.specs.Prelude.{ℕ, Bool, List, ◌⊎◌, ◌≡◌, refl}
use Rattle.std.specs.Coded.{Coded, code_by, coded×, coded⊎, coded_ℕ, coded_bool, coded_list}
use mathlib.Core.Logic.{inl, inr}
use Rattle.mt_term.specs.Trees.{Tree, Bytes}
use Rattle.mt_term.specs.TreeCode.{tree_code}
use Rattle.mt_term.specs.Declarations.{Hypothesis, Constructor, Declaration, Axiom, Definition}
use Rattle.mt_term.specs.Declarations.{Inductive, Recursive}

abbrev pub named : Coded (Bytes × Tree)
named = coded× (coded_list coded_ℕ) tree_code

abbrev pub hypothesis_code : Coded Hypothesis
hypothesis_code =
    code_by (Bytes × Tree) named (λ h. (h.name, h.ty)) (λ p. record { name = p.0; ty = p.1 })
    (λ _. refl)

abbrev pub constructor_code : Coded Constructor
constructor_code =
    code_by (Bytes × Tree) named (λ c. (c.name, c.ty)) (λ p. record { name = p.0; ty = p.1 })
    (λ _. refl)

-- the parts of an inductive type but its name, and of a recursive function but its name
abbrev pub InductiveParts : Type 0
InductiveParts = Bool × (ℕ × (Tree × (List Constructor × Bool)))

abbrev pub RecursiveParts : Type 0
RecursiveParts = Bool × (ℕ × (ℕ × (Tree × (Tree × Bool))))

abbrev pub Choice : Type 0
Choice =
    ((Bytes × Tree) ⊎ (Bytes × (Tree × Tree)))
    ⊎ ((Bytes × InductiveParts) ⊎ (Bytes × RecursiveParts))

abbrev pub choice_of : Declaration → Choice
choice_of (Axiom x T) = inl (inl (x, T))
choice_of (Definition x T b) = inl (inr (x, (T, b)))
choice_of (Inductive x co p T cs l) = inr (inl (x, (co, (p, (T, (cs, l))))))
choice_of (Recursive x co n r T b made) = inr (inr (x, (co, (n, (r, (T, (b, made)))))))

abbrev pub chosen : Choice → Declaration
chosen (inl (inl (x, T))) = Axiom x T
chosen (inl (inr (x, (T, b)))) = Definition x T b
chosen (inr (inl (x, (co, (p, (T, (cs, l))))))) = Inductive x co p T cs l
chosen (inr (inr (x, (co, (n, (r, (T, (b, made)))))))) = Recursive x co n r T b made

pub chosen_back : (d : Declaration) → chosen (choice_of d) ≡ d
chosen_back (Axiom x T) = refl
chosen_back (Definition x T b) = refl
chosen_back (Inductive x co p T cs l) = refl
chosen_back (Recursive x co n r T b made) = refl

abbrev pub name_code : Coded Bytes
name_code = coded_list coded_ℕ

abbrev pub inductive_code : Coded InductiveParts
inductive_code =
    coded× coded_bool
    (coded× coded_ℕ (coded× tree_code (coded× (coded_list constructor_code) coded_bool)))

abbrev pub recursive_code : Coded RecursiveParts
recursive_code =
    coded× coded_bool
    (coded× coded_ℕ (coded× coded_ℕ (coded× tree_code (coded× tree_code coded_bool))))

abbrev pub declaration_code : Coded Declaration
declaration_code =
    code_by Choice
    (coded⊎ (coded⊎ named (coded× name_code (coded× tree_code tree_code)))
    (coded⊎ (coded× name_code inductive_code) (coded× name_code recursive_code)))
    choice_of chosen chosen_back
