-- What a unit asks for in a state: its conditions and names in their order, without charges. Units that declare an entry stand apart.
use Rattle.std.specs.Prelude.{ℕ, Bool, true, false, ◌&&◌, if◌then◌else◌, nat_lt, nat_le, List, [], ◌∷◌, length, Option, Some, None}
use Rattle.mt_term.specs.Trees.{Tree, Bytes, Meta, End}
use Rattle.mt_term.specs.Declarations.{Environment}
use Rattle.mt_term.specs.Reasons.{Taken, Cycle, OpenMetas, NoGoal, NotHere}
use Rattle.mt_term.specs.Naming.{named}
use Rattle.mt_term.specs.Instancing.{instance}
use Rattle.mt_term.specs.ScriptState.{Proof, State}
use Rattle.mt_term.specs.UniverseOrder.{acyclic}
use Rattle.mt_universe.specs.Graphs.{Universes, declared, number_of}
use Rattle.mt_tiny.specs.declared.Tiny.{Tiny}
use Rattle.mt_tiny.specs.declared.Tiny.TheVariants as tiny
use Rattle.mt_term_parser.specs.Written.{Written, Given}
use Rattle.mt_unit_parser.specs.WrittenUnits as written
use Rattle.mt_unit_parser.specs.WrittenUnits.{WrittenGroup, WrittenCon, WrittenType, WrittenFunction, WrittenKind, WrittenAction, Deed, Exact}
use Rattle.mt_resolver.specs.Built.{is_built}
use Rattle.mt_resolver.specs.Resolution.{Resolution, Found, Faults, then_found, resolved}
use Rattle.mt_session.specs.Tasks.{Task, Order, Begin, Close, Rest, Finish, universes_of}

-- ---- what is built so far

abbrev pub are_groups_built : List WrittenGroup → Bool
are_groups_built [] = true
are_groups_built (g ∷ gs) = is_built true g.type && are_groups_built gs

abbrev pub are_constructors_built : List WrittenCon → Bool
are_constructors_built [] = true
are_constructors_built (c ∷ cs) = is_built true c.type && are_constructors_built cs

-- one type, and one function
abbrev pub are_types_built : List WrittenType → Bool
are_types_built (t ∷ []) = is_built true t.arity && are_constructors_built t.cons
are_types_built _ = false

abbrev pub are_functions_built : List WrittenFunction → Bool
are_functions_built (f ∷ []) = are_groups_built f.groups && is_built true f.type && is_built true f.body
are_functions_built _ = false

abbrev pub is_built_deed : Deed → Bool
is_built_deed (Exact t) = is_built true t
is_built_deed _ = false

abbrev pub is_built_step : Tiny WrittenAction → Bool
is_built_step (tiny.Action a) = is_built_deed a.deed
is_built_step tiny.Dot = true
is_built_step _ = false

abbrev pub is_built_kind : WrittenKind → Bool
is_built_kind (written.Constraint a b) = true
is_built_kind (written.Axiom x T) = is_built true T
is_built_kind (written.Definition x (Given T) t) = is_built true T && is_built true t
is_built_kind (written.Inductive co groups types) = are_groups_built groups && are_types_built types
is_built_kind (written.Recursive co functions) = are_functions_built functions
is_built_kind (written.Theorem x T) = is_built true T
is_built_kind written.Qed = true
is_built_kind (written.Step s) = is_built_step s
is_built_kind _ = false

-- ---- commands

-- the name of an entry that is to come is in use by none
abbrev pub fresh_by : Option Tree → Bytes → ℕ → Resolution (Unit {0})
fresh_by None x at = Found tt
fresh_by (Some t) x at = Faults (Taken x) at

abbrev pub fresh : Environment → Bytes → ℕ → Resolution (Unit {0})
fresh E x at = fresh_by (named E.entries x) x at

-- a closed term
abbrev pub closed_term : Environment → Written → Resolution Tree
closed_term E t = resolved E [] t

-- the name that would be the 257th: the first of two, where it is new and 256 names are there, else the second
abbrev pub extra_by : Option ℕ → ℕ → Bytes → Bytes → Bytes
extra_by None n a b = if nat_le 256 n then a else b
extra_by (Some k) n a b = b

abbrev pub extra_name : List Bytes → Bytes → Bytes → Bytes
extra_name names a b = extra_by (number_of names a) (length names) a b

-- with the constraint there are at most 256 names, and no path of constraints leads back
abbrev pub ordered : Universes → Bytes → Bytes → ℕ → Resolution (Unit {0})
ordered g a b at =
    if nat_lt 256 (length (declared g a b).names) then Faults (Taken (extra_name g.names a b)) at
    else if acyclic (declared g a b).below then Found tt else Faults Cycle at

abbrev pub asked_by_command : Environment → ℕ → WrittenKind → Resolution Task
asked_by_command E at (written.Constraint a b) = then_found (ordered (universes_of E) a b at) (λ _. Found (Order a b))
asked_by_command E at (written.Theorem x T) =
    then_found (fresh E x at) (λ _. then_found (closed_term E T) (λ A. Found (Begin x A)))
asked_by_command E at _ = Faults NotHere at

-- ---- steps of a proof

-- the first goal, closed by a term that has the statement as its type
abbrev pub closed_by : State → Proof → ℕ → List (ℕ × Bool) → Written → Resolution Task
closed_by s p at [] t = Faults NoGoal at
closed_by s p at (g ∷ more) t = then_found (closed_term s.env t) (λ b. Found (Close g.0 p.ty b))

abbrev pub asked_by_deed : State → Proof → ℕ → Deed → Resolution Task
asked_by_deed s p at (Exact t) = closed_by s p at p.goals t
asked_by_deed s p at _ = Faults NotHere at

abbrev pub asked_by_step : State → Proof → ℕ → Tiny WrittenAction → Resolution Task
asked_by_step s p at (tiny.Action a) = asked_by_deed s p at a.deed
asked_by_step s p at tiny.Dot = Found Rest
asked_by_step s p at _ = Faults NotHere at

-- the proof, where no goal is open: a definition by the instance of its first metavariable
abbrev pub finished : State → Proof → ℕ → List (ℕ × Bool) → Resolution Task
finished s p at [] = Found (Finish p.name p.ty (instance s.store (Meta p.root End)))
finished s p at (g ∷ more) = Faults OpenMetas at

abbrev pub asked_by_proof : State → Proof → ℕ → WrittenKind → Resolution Task
asked_by_proof s p at (written.Step k) = asked_by_step s p at k
asked_by_proof s p at written.Qed = finished s p at p.goals
asked_by_proof s p at _ = Faults NotHere at

-- ---- units

-- outside a proof commands alone stand, and steps of a proof and `qed` inside one alone
abbrev pub asked_in : State → Option Proof → ℕ → WrittenKind → Resolution Task
asked_in s None at k = asked_by_command s.env at k
asked_in s (Some p) at k = asked_by_proof s p at k

-- what is not built does not stand anywhere
abbrev pub asked : State → ℕ → WrittenKind → Resolution Task
asked s at k = if is_built_kind k then asked_in s s.proof at k else Faults NotHere at

-- ---- units that declare an entry

abbrev pub is_declaring : WrittenKind → Bool
is_declaring (written.Axiom x T) = true
is_declaring (written.Definition x T t) = true
is_declaring (written.Inductive co groups types) = true
is_declaring (written.Recursive co functions) = true
is_declaring _ = false

-- a unit declares an entry: one that is built, outside a proof
abbrev pub declares : Option Proof → WrittenKind → Bool
declares None k = is_built_kind k && is_declaring k
declares (Some p) k = false

-- ---- the charge that an action takes before all else, where a goal is open

abbrev pub costs_goal : List (ℕ × Bool) → Bool
costs_goal [] = false
costs_goal (g ∷ more) = true

abbrev pub costs_in : Option Proof → Bool
costs_in None = false
costs_in (Some p) = costs_goal p.goals

abbrev pub is_action : WrittenKind → Bool
is_action (written.Step (tiny.Action a)) = true
is_action _ = false

-- a unit takes a charge of its own
abbrev pub takes_charge : Option Proof → WrittenKind → Bool
takes_charge p k = is_built_kind k && is_action k && costs_in p
