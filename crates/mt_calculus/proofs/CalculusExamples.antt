-- Small judgements, contractions, instances, positive types and guarded functions, over the natural numbers.
use Rattle.std.proofs.Common.{true, false, ◌≡◌, ◌≤◌, ℕ, zero, suc, List, [], ◌∷◌, Option, Some, None, slice_get, refl, subst, arith}
use Rattle.mt_term.specs.declared.universes.Sort.TheVariants.{Typ}
use Rattle.mt_term.specs.Trees.{Tree, Var, Sort, Prod, Lam, App, Const, Ind, Con, Match, Meta, End, Item, NoArm, Arm}
use Rattle.mt_term.specs.Declarations.{Constructor, Declaration, Axiom, Inductive, Recursive, Environment}
use Rattle.mt_term.specs.declared.universes.UnivExpr.{UnivExpr}
use Rattle.mt_calculus.specs.Conversion.{conv, back, reduct, same, prods}
use Rattle.mt_calculus.specs.SoundEnvironment.{before, SoundConstructor, SoundEntry, sound_inductive, sound_recursive, arity_sort, not_prop, SoundEnvironment}
use Rattle.mt_term.proofs.Options.{none_some, some_inj}
use Rattle.mt_term.specs.Stores.{Declared, Store, no_store}
use Rattle.mt_calculus.specs.Contraction.{InductiveOf, ConstructorOf, Contracts, beta, iota, unfold_rec, assigned, arm_here, arm_later, item_here}
use Rattle.mt_calculus.specs.Typing.{Has, IsContext, IsType, Fitting, Strict, here, c_empty, c_cons, t_var, t_typ, t_prod, t_ind, t_con, t_const, t_lam, t_app, t_match, t_sub, f_arm, f_none, b_more, b_done, k_sort, k_prod, at_none, m_end, of_types, lowest}
use Rattle.mt_calculus.specs.Positivity.{Positive, past_parameters, recursive_argument, result, of_type}
use Rattle.mt_calculus.specs.Guard.{Place, Smaller, GuardedRecursive, place_binder, past_binders, on_type, guarded_cases, guarded_call, guarded_var, guarded_ind, guarded_con, guarded_lam, guarded_item, guarded_end, at_place, guarded_branch, guarded_no_branch, BranchMarks, of_constructor, no_name, recursive_name, smaller}
use Rattle.mt_term.specs.Instances.{InstanceOf, inst_app, inst_con, inst_assigned, inst_end}

-- the numbers, entry 0: a type of two constructors, the second with one argument
abbrev zero_of : Constructor
zero_of = record { name = []; ty = Ind 0 }

abbrev suc_of : Constructor
suc_of = record { name = []; ty = Prod [] (Ind 0) (Ind 0) }

-- the predecessor of a number, and a function on them that calls itself on the predecessor, entry 1
abbrev cases_of : Tree → Tree
cases_of b = Match 0 (Lam [] (Ind 0) (Ind 0)) (Var 0) (Arm [] (Con 0 0) (Arm ([] ∷ []) b NoArm))

abbrev function : Tree
function = Lam [] (Ind 0) (cases_of (App (Const 1) (Var 0)))

abbrev pub numbers : Environment
numbers = record { entries = Inductive [] false 0 (Sort (Typ lowest)) (zero_of ∷ suc_of ∷ []) true ∷ Recursive [] false 1 0 (Prod [] (Ind 0) (Ind 0)) function false ∷ []; names = []; below = [] }

abbrev suc_is : ConstructorOf numbers 0 1 (Prod [] (Ind 0) (Ind 0))
suc_is = record { name = []; co = false; params = 0; ty = Sort (Typ lowest); cons = zero_of ∷ suc_of ∷ []; large = true; con_name = []; entry = refl; con = refl }

abbrev zero_is : ConstructorOf numbers 0 0 (Ind 0)
zero_is = record { name = []; co = false; params = 0; ty = Sort (Typ lowest); cons = zero_of ∷ suc_of ∷ []; large = true; con_name = []; entry = refl; con = refl }

-- the type of the numbers, where it is entry 0
abbrev numbers_are : {E : Environment} {cs : List Constructor} → slice_get (E.entries) 0 ≡ Some (Inductive [] false 0 (Sort (Typ lowest)) cs true) → InductiveOf E 0
numbers_are {cs = cs} g = record { name = []; co = false; params = 0; ty = Sort (Typ lowest); cons = cs; large = true; entry = g }

identity_contracts : Contracts numbers no_store (App (Lam [] (Ind 0) (Var 0)) (Con 0 0)) (Con 0 0)
identity_contracts = beta

match_contracts : Contracts numbers no_store (Match 0 (Lam [] (Ind 0) (Ind 0)) (App (Con 0 1) (Con 0 0)) (Arm [] (Con 0 0) (Arm ([] ∷ []) (Var 0) NoArm))) (Con 0 0)
match_contracts = iota (Item (Con 0 0) End) suc_is refl (arm_later arm_here) refl

function_contracts : Contracts numbers no_store (App (Const 1) (Con 0 0)) (App function (Con 0 0))
function_contracts = unfold_rec 1 {s = Item (Con 0 0) End} End refl item_here zero_is refl

identity_typed : Strict numbers [] (Has (Lam [] (Ind 0) (Var 0)) (Prod [] (Ind 0) (Ind 0)))
identity_typed = t_lam (k_sort (t_ind c_empty (numbers_are refl))) (t_var (c_cons c_empty (k_sort (t_ind c_empty (numbers_are refl)))) here)

one_typed : Strict numbers [] (Has (App (Con 0 1) (Con 0 0)) (Ind 0))
one_typed = t_app (t_con c_empty suc_is) (t_con c_empty zero_is)

suc_positive : Positive 0 0 (Sort (Typ lowest)) (Prod [] (Ind 0) (Ind 0))
suc_positive = past_parameters (recursive_argument (of_type End refl tt) (result End refl tt))

-- in the branch the argument is smaller
suc_marks : BranchMarks numbers 0 1 ([] ∷ []) (Place ∷ []) (Smaller ∷ Place ∷ [])
suc_marks = of_constructor suc_is (recursive_name (of_type End refl tt) no_name)

zero_marks : BranchMarks numbers 0 0 [] (Place ∷ []) (Place ∷ [])
zero_marks = of_constructor zero_is no_name

function_guarded : GuardedRecursive numbers 1 1 0 function
function_guarded = (omega arith, place_binder refl (λ e. omega (arith, e)) (on_type 0 End refl) (past_binders (guarded_cases (at_place refl) (guarded_lam guarded_ind guarded_ind) guarded_var (guarded_branch zero_marks guarded_con (guarded_branch suc_marks (guarded_call (Item (Var 0) End) item_here (smaller 0 End refl) (guarded_item guarded_var guarded_end)) guarded_no_branch)))))

-- metavariable 0 is the number 0
abbrev pub held : ℕ → Option Declared
held zero = Some (record { context = []; ty = Ind 0; body = Some (Con 0 0) })
held (suc n) = None

pub held_none : (n : ℕ) → 1 ≤ n → held n ≡ None
held_none zero h = absurd (omega (arith, h))
held_none (suc n) h = refl

abbrev pub store : Store
store = record { at = held; bound = 1; none = held_none }

value_contracts : Contracts numbers store (Meta 0 End) (Con 0 0)
value_contracts = assigned refl refl

value_instance : InstanceOf store (App (Con 0 1) (Meta 0 End)) (App (Con 0 1) (Con 0 0))
value_instance = inst_app inst_con (inst_assigned refl inst_con inst_end)

-- The environment of the numbers and the function is sound.
abbrev just_type : Environment
just_type = record { entries = Inductive [] false 0 (Sort (Typ lowest)) [] true ∷ []; names = []; below = [] }

abbrev just_numbers : Environment
just_numbers = record { entries = Inductive [] false 0 (Sort (Typ lowest)) (zero_of ∷ suc_of ∷ []) true ∷ []; names = []; below = [] }

abbrev with_axiom : Environment
with_axiom = record { entries = Inductive [] false 0 (Sort (Typ lowest)) (zero_of ∷ suc_of ∷ []) true ∷ Axiom [] (Prod [] (Ind 0) (Ind 0)) ∷ []; names = []; below = [] }

abbrev next_level : UnivExpr
next_level = record { base = 1; atoms = [] }

zero_sound : SoundConstructor just_type 0 0 (Sort (Typ lowest)) (Typ lowest) (Ind 0)
zero_sound = record { sort = Typ lowest; typed = t_ind c_empty (numbers_are refl); positive = past_parameters (result End refl tt); arguments = tt }

suc_sound : SoundConstructor just_type 0 0 (Sort (Typ lowest)) (Typ lowest) (Prod [] (Ind 0) (Ind 0))
suc_sound = record { sort = Typ lowest; typed = t_prod (t_ind c_empty (numbers_are refl)) (t_ind (c_cons c_empty (k_sort (t_ind c_empty (numbers_are refl)))) (numbers_are refl)) (of_types (λ v. refl)); positive = suc_positive; arguments = ((Typ lowest, t_ind c_empty (numbers_are refl), λ v h. omega arith), tt) }

constructors_sound : (k : ℕ) (c : Constructor) → slice_get (zero_of ∷ suc_of ∷ []) k ≡ Some c → SoundConstructor just_type 0 0 (Sort (Typ lowest)) (Typ lowest) (c.ty)
constructors_sound zero c e = subst (λ (c : Constructor). SoundConstructor just_type 0 0 (Sort (Typ lowest)) (Typ lowest) (c.ty)) (some_inj e) zero_sound
constructors_sound (suc zero) c e = subst (λ (c : Constructor). SoundConstructor just_type 0 0 (Sort (Typ lowest)) (Typ lowest) (c.ty)) (some_inj e) suc_sound
constructors_sound (suc (suc k)) c e = absurd (none_some e)

abbrev R : Tree
R = Lam [] (Ind 0) (Ind 0)

module _ where
  number : {Γ : List Tree} → Strict with_axiom Γ IsContext → Strict with_axiom Γ (IsType (Ind 0))
  number c = k_sort (t_ind c (numbers_are refl))

  one : Strict with_axiom (Ind 0 ∷ []) IsContext
  one = c_cons c_empty (number c_empty)

  two : Strict with_axiom (Ind 0 ∷ Ind 0 ∷ []) IsContext
  two = c_cons one (number one)

  -- a number is of the type that the motive gives
  returned : {Γ : List Tree} (t c : Tree) → Strict with_axiom Γ IsContext → Strict with_axiom Γ (Has t (Ind 0)) → Strict with_axiom Γ (Has c (Ind 0)) → Strict with_axiom Γ (Has t (App R c))
  returned t c g h d = t_sub h (conv (back (reduct beta))) (k_sort (t_app (t_lam {x = []} (number g) (t_ind (c_cons g (number g)) (numbers_are refl))) d))

  abbrev suc_of_numbers : ConstructorOf with_axiom 0 1 (Prod [] (Ind 0) (Ind 0))
  suc_of_numbers = record { name = []; co = false; params = 0; ty = Sort (Typ lowest); cons = zero_of ∷ suc_of ∷ []; large = true; con_name = []; entry = refl; con = refl }

  abbrev zero_of_numbers : ConstructorOf with_axiom 0 0 (Ind 0)
  zero_of_numbers = record { name = []; co = false; params = 0; ty = Sort (Typ lowest); cons = zero_of ∷ suc_of ∷ []; large = true; con_name = []; entry = refl; con = refl }

  branches : Strict with_axiom (Ind 0 ∷ []) (Fitting 0 R End 0 (Arm [] (Con 0 0) (Arm ([] ∷ []) (App (Const 1) (Var 0)) NoArm)))
  branches =
      f_arm zero_of_numbers at_none (b_done {p = 0} End End refl (returned (Con 0 0) (Con 0 0) one (t_con one zero_of_numbers) (t_con one zero_of_numbers)))
      (f_arm suc_of_numbers at_none (b_more (number one) (b_done {p = 0} End End refl (returned (App (Const 1) (Var 0)) (App (Con 0 1) (Var 0)) two (t_app (t_const two refl tt) (t_var two here)) (t_app (t_con two suc_of_numbers) (t_var two here)))))
      (f_none one (numbers_are refl) refl))

  body_typed : Strict with_axiom [] (Has function (Prod [] (Ind 0) (Ind 0)))
  body_typed =
      t_sub (t_lam (number c_empty) (t_match End (numbers_are refl) refl refl (t_var one here) at_none m_end (t_lam (number one) (t_ind two (numbers_are refl))) tt branches))
      (conv (prods same (reduct beta))) (k_prod (number c_empty) (number one))

guarded_before : GuardedRecursive just_numbers 1 1 0 function
guarded_before = (omega arith, place_binder refl (λ e. omega (arith, e)) (on_type 0 End refl) (past_binders (guarded_cases (at_place refl) (guarded_lam guarded_ind guarded_ind) guarded_var (guarded_branch (of_constructor zero_known no_name) guarded_con (guarded_branch (of_constructor suc_known (recursive_name (of_type End refl tt) no_name)) (guarded_call (Item (Var 0) End) item_here (smaller 0 End refl) (guarded_item guarded_var guarded_end)) guarded_no_branch)))))
  where
    zero_known : ConstructorOf just_numbers 0 0 (Ind 0)
    zero_known = record { name = []; co = false; params = 0; ty = Sort (Typ lowest); cons = zero_of ∷ suc_of ∷ []; large = true; con_name = []; entry = refl; con = refl }

    suc_known : ConstructorOf just_numbers 0 1 (Prod [] (Ind 0) (Ind 0))
    suc_known = record { name = []; co = false; params = 0; ty = Sort (Typ lowest); cons = zero_of ∷ suc_of ∷ []; large = true; con_name = []; entry = refl; con = refl }

type_entry : SoundEntry (before numbers 0) 0 (Inductive [] false 0 (Sort (Typ lowest)) (zero_of ∷ suc_of ∷ []) true)
type_entry = sound_inductive (t_typ {V = next_level} c_empty (λ v. refl)) arity_sort (omega arith) constructors_sound (λ e. not_prop)

function_entry : SoundEntry (before numbers 1) 1 (Recursive [] false 1 0 (Prod [] (Ind 0) (Ind 0)) function false)
function_entry = sound_recursive {s = Typ lowest} (t_prod (t_ind c_empty (numbers_are refl)) (t_ind (c_cons c_empty (k_sort (t_ind c_empty (numbers_are refl)))) (numbers_are refl)) (of_types (λ v. refl))) body_typed guarded_before

numbers_sound : SoundEnvironment numbers
numbers_sound = record { satisfiable = (λ n. n, λ k d l. absurd (omega (arith, l))); entries = go }
  where
    go : (n : ℕ) (d : Declaration) → slice_get (numbers.entries) n ≡ Some d → SoundEntry (before numbers n) n d
    go zero d e = subst (SoundEntry (before numbers 0) 0) (some_inj e) type_entry
    go (suc zero) d e = subst (SoundEntry (before numbers 1) 1) (some_inj e) function_entry
    go (suc (suc n)) d e = absurd (none_some e)
