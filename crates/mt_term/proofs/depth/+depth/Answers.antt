use Rattle.std.proofs.Common.{arith, ◌<◌}
use Rattle.mt_term.specs.Trees.{Tree, Trees, Arms, Var, Sort, Prod, Lam, App, Const, Ind, Con, Match, Meta, End, Item, NoArm, Arm}
use Rattle.mt_term.specs.Depth.{depth, depth_all, depth_arms}
use Rattle.mt_term.specs.TreeOf.{tree_of, trees_of, arms_of}
use Rattle.mt_term.proofs.depth.+depth.Goals as goal

depth_some : (t : Tree) → 0 < depth t
depth_some (Var i) = omega arith
depth_some (Sort s) = omega arith
depth_some (Prod x a b) = omega arith
depth_some (Lam x a b) = omega arith
depth_some (App f a) = omega arith
depth_some (Const c) = omega arith
depth_some (Ind e) = omega arith
depth_some (Con e k) = omega arith
depth_some (Match e r c bs) = omega arith
depth_some (Meta n s) = omega arith

depth_all_some : (s : Trees) → 0 < depth_all s
depth_all_some End = omega arith
depth_all_some (Item t s) = omega arith

depth_arms_some : (bs : Arms) → 0 < depth_arms bs
depth_arms_some NoArm = omega arith
depth_arms_some (Arm xs b bs) = omega arith

pub are_branches_within-returns-then-depth_left-eq0 : goal.are_branches_within-returns-then-depth_left-eq0
are_branches_within-returns-then-depth_left-eq0 t c = omega (arith, c.if-depth_left-eq0.true, depth_arms_some (arms_of c.args.bs.now))

pub are_terms_within-returns-then-depth_left-eq0 : goal.are_terms_within-returns-then-depth_left-eq0
are_terms_within-returns-then-depth_left-eq0 t c = omega (arith, c.if-depth_left-eq0.true, depth_all_some (trees_of c.args.ts.now))

pub is_within-returns-then-depth_left-eq0 : goal.is_within-returns-then-depth_left-eq0
is_within-returns-then-depth_left-eq0 t c = omega (arith, c.if-depth_left-eq0.true, depth_some (tree_of c.args.t.now))
