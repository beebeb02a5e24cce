-- What a small store says, by computing.
use Rattle.std.proofs.Common.{◌≡◌, List, [], ◌∷◌, true, false, Some, None, slice_get, slice_set, refl, inl}
use Rattle.mt_term.specs.declared.universes.Sort.TheVariants.{Prop}
use Rattle.mt_term.specs.States.{is_open}
use Rattle.mt_term.specs.Trees.{Tree, Sort, App, Meta, End}
use Rattle.mt_term.specs.Stores.{at_once, onward, by_body, Reaches}
use Rattle.mt_pool.specs.declared.nodes.TermIds.{End as NoId}
use Rattle.mt_pool.specs.declared.nodes.Node.TheVariants.{App as AppNode, Meta as MetaNode, Var as VarNode}
use Rattle.mt_pool.specs.declared.contexts.HeldHyp.{HeldHyp}
use Rattle.mt_store.specs.declared.metavariables.HeldMeta.{HeldMeta}
use Rattle.mt_store.specs.Held.{store_in, metas_in, new_meta, new_in, assigned, IsOpen}
use Rattle.mt_store.specs.Search.{id_at, next_ids, is_meta}

-- Prop, ?1, ?0 and ?0 on itself
abbrev pool : List Tree
pool = Sort Prop ∷ Meta 1 End ∷ Meta 0 End ∷ App (Meta 0 End) (Meta 0 End) ∷ []

-- two metavariables of type Prop, the second under a hypothesis
abbrev A : HeldHyp
A = record { name = 65 ∷ []; ty = id_at 0 }

abbrev metas : List HeldMeta
metas = new_meta [] (id_at 0) ∷ new_meta (A ∷ []) (id_at 0) ∷ []

-- the first is given ?1 as its body
abbrev given : List HeldMeta
given = assigned metas 0 (id_at 1)

declared_first : (store_in pool metas).at 0 ≡ Some (record { context = []; ty = Sort Prop; body = None })
unfolding store_in
declared_first = refl

-- as a list, with the names of hypotheses
second_of_list : slice_get (metas_in pool metas) 1 ≡ Some (record { context = record { name = 65 ∷ []; ty = Sort Prop } ∷ []; ty = Sort Prop; body = None })
unfolding metas_in
second_of_list = refl

list_given : metas_in pool given ≡ slice_set (metas_in pool metas) 0 (record { context = []; ty = Sort Prop; body = Some (Meta 1 End) })
unfolding metas_in
list_given = refl

open_in_list : is_open (slice_get (metas_in pool given) 1) ≡ true
unfolding metas_in
open_in_list = refl

assigned_in_list : is_open (slice_get (metas_in pool given) 0) ≡ false
unfolding metas_in
assigned_in_list = refl

declared_second : (store_in pool metas).at 1 ≡ Some (record { context = Sort Prop ∷ []; ty = Sort Prop; body = None })
unfolding store_in
declared_second = refl

no_third : (store_in pool metas).at 2 ≡ None
unfolding store_in
no_third = refl

first_given : (store_in pool given).at 0 ≡ Some (record { context = []; ty = Sort Prop; body = Some (Meta 1 End) })
unfolding store_in
first_given = refl

second_as_before : (store_in pool given).at 1 ≡ (store_in pool metas).at 1
unfolding store_in
second_as_before = refl

-- nothing is given to one that is not there
none_given : assigned metas 2 (id_at 1) ≡ metas
none_given = refl

first_is_open : IsOpen (store_in pool metas) 0
first_is_open = record { declared = new_in pool [] (id_at 0); there = declared_first; no_body = refl }

-- ?0 reaches ?1 through its body
reaches_second : Reaches (store_in pool given) (Meta 0 End) 1
reaches_second = onward (at_once (inl refl)) first_given (by_body (Meta 1 End) refl (inl refl))

-- what a search goes on with
next_of_application : next_ids given (AppNode (id_at 2) (id_at 2)) ≡ id_at 2 ∷ id_at 2 ∷ []
next_of_application = refl

next_of_first : next_ids given (MetaNode 0 NoId) ≡ id_at 0 ∷ id_at 1 ∷ []
next_of_first = refl

next_of_second : next_ids given (MetaNode 1 NoId) ≡ id_at 0 ∷ id_at 0 ∷ []
next_of_second = refl

next_of_unknown : next_ids given (MetaNode 2 NoId) ≡ []
next_of_unknown = refl

the_wanted_one : is_meta 1 (MetaNode 1 NoId) ≡ true
the_wanted_one = refl

another_one : is_meta 1 (MetaNode 0 NoId) ≡ false
another_one = refl

no_metavariable_node : is_meta 1 (VarNode 1) ≡ false
no_metavariable_node = refl
