-- What `clear` makes of goals: it costs one charge.
use Rattle.std.specs.Prelude.{◌≡◌, refl, List, [], ◌∷◌, Some, None, codes}
use Rattle.mt_term.specs.Trees.{Var, Prod, Meta, End, Item}
use Rattle.mt_term.specs.Declarations.{Hypothesis}
use Rattle.mt_term.specs.Reasons.{Unbound, Taken}
use Rattle.mt_rules.specs.Charges.{Spent}
use Rattle.mt_unification_rules.specs.Placeholders.{Metas}
use Rattle.mt_unit_parser.specs.WrittenUnits.{Clear}
use Rattle.mt_action_rules.specs.Clearing.{term_without, variables_but}
use Rattle.mt_action_rules.specs.Actions.{act}
use Rattle.mt_action_rules.proofs.Samples.{n, m, h, x, prop, nat, nought, next, equal, plus, holds}
use Rattle.mt_action_rules.proofs.Samples.{meta, meta_under_one, meta_under_two, hypothesis, goal}
use Rattle.mt_action_rules.proofs.Samples.{closed, does, gives, refuses}

-- ---- terms without a variable

-- those past it go down by one, also under a binder
further_out : term_without [] 1 (Prod x nat (plus (Var 1) (Var 3)))
    ≡ Some (Prod x nat (plus (Var 1) (Var 2)))
further_out = refl

where_it_stands : term_without [] 1 (Prod x nat (plus (Var 1) (Var 2))) ≡ None
where_it_stands = refl

all_but_the_middle : variables_but 3 1 ≡ Item (Var 2) (Item (Var 0) End)
all_but_the_middle = refl

-- ---- clear

-- n : nat and h : P n
abbrev two : List Hypothesis
two = hypothesis n nat ∷ hypothesis h (holds (Var 0)) ∷ []

-- `clear h` on `P n`
the_newest : does (Clear h) 0 (goal two (holds (Var 1)) ∷ []) 1
    ≡ gives (closed two (holds (Var 1)) (Meta 1 (Item (Var 1) End))
    ∷ goal (hypothesis n nat ∷ []) (holds (Var 0)) ∷ []) (1 ∷ [])
unfolding act
the_newest = refl

no_charge : does (Clear h) 0 (goal two (holds (Var 1)) ∷ []) 0 ≡ Spent
unfolding act
no_charge = refl

-- `clear n` on `nat`: a later hypothesis uses it
used_later : does (Clear n) 0 (goal two nat ∷ []) 1 ≡ refuses (Taken n) 20
unfolding act
used_later = refl

-- `clear n` on `P n`
used_in_the_goal : does (Clear n) 0 (goal (hypothesis n nat ∷ []) (holds (Var 0)) ∷ []) 1
    ≡ refuses (Taken n) 20
unfolding act
used_in_the_goal = refl

-- `clear n` on `P m` under n, m and h : P m: those after n are one closer
abbrev three : List Hypothesis
three = hypothesis n nat ∷ hypothesis m nat ∷ hypothesis h (holds (Var 0)) ∷ []

an_older_one : does (Clear n) 0 (goal three (holds (Var 1)) ∷ []) 1
    ≡ gives (closed three (holds (Var 1)) (meta_under_two 1)
    ∷ goal (hypothesis m nat ∷ hypothesis h (holds (Var 0)) ∷ []) (holds (Var 1)) ∷ []) (1 ∷ [])
unfolding act
an_older_one = refl

-- `clear n` under n, m and n : P m: the newest of two
abbrev two_of_a_name : List Hypothesis
two_of_a_name = hypothesis n nat ∷ hypothesis m nat ∷ hypothesis n (holds (Var 0)) ∷ []

the_newest_of_two : does (Clear n) 0 (goal two_of_a_name (holds (Var 1)) ∷ []) 1
    ≡ gives (closed two_of_a_name (holds (Var 1)) (Meta 1 (Item (Var 2) (Item (Var 1) End)))
    ∷ goal (hypothesis n nat ∷ hypothesis m nat ∷ []) (holds (Var 0)) ∷ []) (1 ∷ [])
unfolding act
the_newest_of_two = refl

-- `clear n` on `Prop` under n and h : eq nat O ?0[n], where ?0 is `S O`: the instance does not use
-- n, and the new goal has it in its context
abbrev assigned : Metas
assigned =
    closed (hypothesis n nat ∷ []) nat (next nought)
    ∷ goal (hypothesis n nat ∷ hypothesis h (equal nought (meta_under_one 0)) ∷ []) prop ∷ []

by_instances : does (Clear n) 1 assigned 1
    ≡ gives (closed (hypothesis n nat ∷ []) nat (next nought)
    ∷ closed (hypothesis n nat ∷ hypothesis h (equal nought (meta_under_one 0)) ∷ []) prop
    (Meta 2 (Item (Var 0) End))
    ∷ goal (hypothesis h (equal nought (next nought)) ∷ []) prop ∷ []) (2 ∷ [])
unfolding act
by_instances = refl

-- the goal too is an instance: `P ?0[n]`, where ?0 is O
goal_by_instance : does (Clear n) 1
    (closed (hypothesis n nat ∷ []) nat nought
    ∷ goal (hypothesis n nat ∷ []) (holds (meta_under_one 0)) ∷ []) 1
    ≡ gives (closed (hypothesis n nat ∷ []) nat nought
    ∷ closed (hypothesis n nat ∷ []) (holds (meta_under_one 0)) (meta 2) ∷ goal [] (holds nought)
    ∷ []) (2 ∷ [])
unfolding act
goal_by_instance = refl

-- an open one may use each hypothesis of its context
by_an_open_one : does (Clear n) 1
    (goal (hypothesis n nat ∷ []) nat
    ∷ goal (hypothesis n nat ∷ hypothesis h (equal nought (meta_under_one 0)) ∷ []) prop ∷ []) 1
    ≡ refuses (Taken n) 20
unfolding act
by_an_open_one = refl

-- hypotheses before it stay as they stand: h : eq nat O ?0, where ?0 is O, before n
an_earlier_one : does (Clear n) 1
    (closed [] nat nought ∷ goal (hypothesis h (equal nought (meta 0)) ∷ hypothesis n nat ∷ []) prop
    ∷ []) 1
    ≡ gives (closed [] nat nought
    ∷ closed (hypothesis h (equal nought (meta 0)) ∷ hypothesis n nat ∷ []) prop
    (Meta 2 (Item (Var 1) End))
    ∷ goal (hypothesis h (equal nought (meta 0)) ∷ []) prop ∷ []) (2 ∷ [])
unfolding act
an_earlier_one = refl

-- `clear b`: an entry is no hypothesis
no_hypothesis : does (Clear (codes "b")) 0 (goal two (holds (Var 1)) ∷ []) 1
    ≡ refuses (Unbound (codes "b")) 20
unfolding act
no_hypothesis = refl
