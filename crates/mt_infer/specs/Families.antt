-- Inductive types on arguments, and the goals of branches, as inference holds them.
use Rattle.std.specs.Prelude.{ℕ, ◌<◌, List, Option, Some, None}
use Rattle.mt_term.specs.Trees.{Tree}
use Rattle.mt_term.specs.Declarations.{Constructor}
use Rattle.mt_rules.specs.Inference.{Family}
use Rattle.mt_pool.specs.declared.held.HeldConstructor.{HeldConstructor}
use Rattle.mt_pool.specs.HeldOf.{constructors_in, ConstructorsBelow}
use Rattle.mt_pool.specs.Region.{tree_at, trees_at, ids_of, AllBelow}
use Rattle.mt_infer.specs.declared.branches.BranchGoal.{BranchGoal}
use Rattle.mt_infer.specs.declared.families.Family.{Family as HeldFamily}
use Rattle.mt_infer.specs.Fitting.{Goal}

-- the constructors as the pool says them, as one word
unfoldable pub constructors_seen : List Tree → List HeldConstructor → List Constructor
constructors_seen p cs = constructors_in p cs

unfoldable pub family_held : List Tree → HeldFamily → Family
family_held p f =
    record {
      number = f.number;
      params = trees_at p (ids_of f.params);
      indices = trees_at p (ids_of f.indices);
      arity = tree_at p f.arity;
      constructors = constructors_seen p f.constructors.now;
      large = f.large;
    }

abbrev pub family_in : List Tree → Option HeldFamily → Option Family
family_in p None = None
family_in p (Some f) = Some (family_held p f)

-- its ids are held where there are n
unfoldable pub FamilyBelow : ℕ → HeldFamily → Type 0
FamilyBelow n f =
    AllBelow n (ids_of f.params) × AllBelow n (ids_of f.indices) × (f.arity.at < n)
    × ConstructorsBelow n f.constructors.now

abbrev pub FamilyInBelow : ℕ → Option HeldFamily → Type 0
FamilyInBelow n None = Unit {0}
FamilyInBelow n (Some f) = FamilyBelow n f

-- the goal of a branch
abbrev pub goal_in : List Tree → Option BranchGoal → Option Goal
goal_in p None = None
goal_in p (Some g) = Some (record { own = tree_at p g.own; ty = tree_at p g.ty })

abbrev pub GoalBelow : ℕ → Option BranchGoal → Type 0
GoalBelow n None = Unit {0}
GoalBelow n (Some g) = (g.own.at < n) × (g.ty.at < n)
