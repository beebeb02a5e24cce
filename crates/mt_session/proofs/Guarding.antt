-- The guard of functions looks at the entries alone, not at the order of universes.
use Rattle.std.proofs.Common.{ℕ, Bool, List}
use Rattle.mt_term.specs.Trees.{Tree, Trees, Arms, Bytes}
use Rattle.mt_term.specs.Declarations.{Declaration, Environment}
use Rattle.mt_term.specs.Universes.{Constraints}
use Rattle.mt_calculus.specs.Contraction.{ConstructorOf}
use Rattle.mt_calculus.specs.Guard.{Mark, BranchMarks, of_constructor, of_none, Guarded, guarded_call, guarded_cases, guarded_match, guarded_var, guarded_sort, guarded_prod, guarded_lam, guarded_app, guarded_const, guarded_ind, guarded_con, guarded_meta, GuardedAll, guarded_end, guarded_item, GuardedArms, guarded_no_arm, guarded_arm, GuardedBranches, guarded_no_branch, guarded_branch, OnType, on_type, GuardedUnder, past_binders, place_binder, other_binder, GuardedRecursive, CoinductiveMotive, motive_type, motive_past, UnderNoConstructor, absent, under_lam, under_match, under_con, ArmsUnderNoConstructor, no_arm_under, arm_under, UnderConstructor, past_types, at_parameter, at_other, at_recursive, at_call, CoinductiveResult, result_here, result_past, GuardedCorecursive}

module _ (es : List Declaration) (names names' : List Bytes) (cs ds : Constraints) where
  abbrev old : Environment
  old = record { entries = es; names = names; below = cs }

  abbrev new : Environment
  new = record { entries = es; names = names'; below = ds }

  abbrev constructor_elsewhere : {e k : ℕ} {C : Tree} → ConstructorOf old e k C → ConstructorOf new e k C
  constructor_elsewhere o = record { name = o.name; co = o.co; params = o.params; ty = o.ty; cons = o.cons; large = o.large; con_name = o.con_name; entry = o.entry; con = o.con }

  marks_elsewhere : {e k : ℕ} {xs : List Bytes} {ms ms' : List Mark} → BranchMarks old e k xs ms ms' → BranchMarks new e k xs ms ms'
  marks_elsewhere (of_constructor o m) = of_constructor (constructor_elsewhere o) m
  marks_elsewhere (of_none e) = of_none e

  on_type_elsewhere : {co : Bool} {t : Tree} → OnType old co t → OnType new co t
  on_type_elsewhere (on_type e us is) = on_type e us is

  module _ (f r : ℕ) where
    mutual
      term_elsewhere : {ms : List Mark} {t : Tree} → Guarded old f r ms t → Guarded new f r ms t
      term_elsewhere (guarded_call s at small all) = guarded_call s at small (all_elsewhere all)
      term_elsewhere (guarded_cases o R c bs) = guarded_cases o (term_elsewhere R) (term_elsewhere c) (branches_elsewhere bs)
      term_elsewhere (guarded_match o R c bs) = guarded_match o (term_elsewhere R) (term_elsewhere c) (arms_elsewhere bs)
      term_elsewhere guarded_var = guarded_var
      term_elsewhere guarded_sort = guarded_sort
      term_elsewhere (guarded_prod A B) = guarded_prod (term_elsewhere A) (term_elsewhere B)
      term_elsewhere (guarded_lam A b) = guarded_lam (term_elsewhere A) (term_elsewhere b)
      term_elsewhere (guarded_app t a) = guarded_app (term_elsewhere t) (term_elsewhere a)
      term_elsewhere (guarded_const n) = guarded_const n
      term_elsewhere guarded_ind = guarded_ind
      term_elsewhere guarded_con = guarded_con
      term_elsewhere (guarded_meta all) = guarded_meta (all_elsewhere all)

      all_elsewhere : {ms : List Mark} {s : Trees} → GuardedAll old f r ms s → GuardedAll new f r ms s
      all_elsewhere guarded_end = guarded_end
      all_elsewhere (guarded_item t s) = guarded_item (term_elsewhere t) (all_elsewhere s)

      arms_elsewhere : {ms : List Mark} {bs : Arms} → GuardedArms old f r ms bs → GuardedArms new f r ms bs
      arms_elsewhere guarded_no_arm = guarded_no_arm
      arms_elsewhere (guarded_arm b bs) = guarded_arm (term_elsewhere b) (arms_elsewhere bs)

      branches_elsewhere : {e k : ℕ} {ms : List Mark} {bs : Arms} → GuardedBranches old f r e k ms bs → GuardedBranches new f r e k ms bs
      branches_elsewhere guarded_no_branch = guarded_no_branch
      branches_elsewhere (guarded_branch m b bs) = guarded_branch (marks_elsewhere m) (term_elsewhere b) (branches_elsewhere bs)

    under_elsewhere : {n j : ℕ} {ms : List Mark} {t : Tree} → GuardedUnder old f r n j ms t → GuardedUnder new f r n j ms t
    under_elsewhere (past_binders g) = past_binders (term_elsewhere g)
    under_elsewhere (place_binder e a o g) = place_binder e a (on_type_elsewhere o) (under_elsewhere g)
    under_elsewhere (other_binder e a g) = other_binder e a (under_elsewhere g)

  motive_elsewhere : {R : Tree} → CoinductiveMotive old R → CoinductiveMotive new R
  motive_elsewhere (motive_type o) = motive_type (on_type_elsewhere o)
  motive_elsewhere (motive_past m) = motive_past (motive_elsewhere m)

  pub guarded_elsewhere : (f : ℕ) {n r : ℕ} {b : Tree} → GuardedRecursive old f n r b → GuardedRecursive new f n r b
  guarded_elsewhere f {r = r} g = (g.0, under_elsewhere f r g.1)

  module _ (f : ℕ) where
    mutual
      no_constructor_elsewhere : {t : Tree} → UnderNoConstructor old f t → UnderNoConstructor new f t
      no_constructor_elsewhere (absent a) = absent a
      no_constructor_elsewhere (under_lam A b) = under_lam A (no_constructor_elsewhere b)
      no_constructor_elsewhere (under_match R m c bs) = under_match R (motive_elsewhere m) c (arms_under_elsewhere bs)
      no_constructor_elsewhere (under_con e k s is con u) = under_con e k s is con (arguments_elsewhere u)

      arms_under_elsewhere : {bs : Arms} → ArmsUnderNoConstructor old f bs → ArmsUnderNoConstructor new f bs
      arms_under_elsewhere no_arm_under = no_arm_under
      arms_under_elsewhere (arm_under b bs) = arm_under (no_constructor_elsewhere b) (arms_under_elsewhere bs)

      arguments_elsewhere : {e p indices l d : ℕ} {C : Tree} {s : Trees} → UnderConstructor old f e p indices l d C s → UnderConstructor new f e p indices l d C s
      arguments_elsewhere (past_types s a) = past_types s a
      arguments_elsewhere (at_parameter a u) = at_parameter a (arguments_elsewhere u)
      arguments_elsewhere (at_other a u) = at_other a (arguments_elsewhere u)
      arguments_elsewhere (at_recursive o a u) = at_recursive o (no_constructor_elsewhere a) (arguments_elsewhere u)
      arguments_elsewhere (at_call us o a u) = at_call us o a (arguments_elsewhere u)

  result_elsewhere : {n : ℕ} {T : Tree} → CoinductiveResult old n T → CoinductiveResult new n T
  result_elsewhere (result_here o) = result_here (on_type_elsewhere o)
  result_elsewhere (result_past r) = result_past (result_elsewhere r)

  pub co_guarded_elsewhere : (f : ℕ) {n : ℕ} {T b : Tree} → GuardedCorecursive old f n T b → GuardedCorecursive new f n T b
  co_guarded_elsewhere f g = (result_elsewhere g.0, no_constructor_elsewhere f g.1)
