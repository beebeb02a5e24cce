-- Inductive types on arguments, as the program holds them.
use Rattle.std.specs.Prelude.{Option, Some, None}
use Rattle.mt_term.specs.Trees.{Trees}
use Rattle.mt_term.specs.TreeOf.{tree_of, trees_of}
use Rattle.mt_rules.specs.Inference.{Family}
use Rattle.mt_term.specs.declared.terms.Terms.{Terms}
use Rattle.mt_kernel.specs.declared.branches.BranchGoal.{BranchGoal}
use Rattle.mt_kernel.specs.declared.families.Family.{Family as Held}
use Rattle.mt_kernel.specs.Fitting.{Goal}

abbrev pub trees_in : Option Terms → Option Trees
trees_in None = None
trees_in (Some s) = Some (trees_of s)

abbrev pub family_held : Held → Family
family_held f =
    record {
      number = f.number;
      params = trees_of f.params;
      indices = trees_of f.indices;
      arity = tree_of f.arity;
      constructors = f.constructors.now;
      large = f.large;
    }

abbrev pub family_in : Option Held → Option Family
family_in None = None
family_in (Some f) = Some (family_held f)

-- the goal of a branch
abbrev pub goal_in : Option BranchGoal → Option Goal
goal_in None = None
goal_in (Some g) = Some (record { own = tree_of g.own; ty = tree_of g.ty })
