-- What contexts, arguments and families say as a pool grows.
use Rattle.std.proofs.Common.{ℕ, ◌≤◌, ◌≡◌, List, ◌∷◌, length, refl, arith}
use Rattle.mt_term.specs.Trees.{Tree, Item}
use Rattle.mt_pool.specs.declared.held.HeldConstructor.{HeldConstructor}
use Rattle.mt_pool.specs.HeldOf.{constructors_in, ConstructorsBelow}
use Rattle.mt_pool.specs.Region.{ids_of, Kept}
use Rattle.mt_pool.proofs.Region.{kept, tree-kept, trees-kept, all-below, length-kept}
use Rattle.mt_layers.proofs.Kept.{environment_rules, constructors-kept, constructors-more}
use Rattle.mt_infer.specs.declared.arguments.Args.{Args, End as NoMore, More'}
use Rattle.mt_infer.specs.declared.families.Family.{Family as HeldFamily}
use Rattle.mt_infer.specs.declared.scopes.Scope.{Scope, Empty, More' as Within}
use Rattle.mt_infer.specs.Arguments.{args_in, ArgsBelow}
use Rattle.mt_infer.specs.Families.{constructors_seen, family_held, FamilyBelow}
use Rattle.mt_infer.specs.Scopes.{scope_in, ScopeBelow}

pub args-kept : (p q : List Tree) (s : Args) → Kept p q → ArgsBelow (length p) s → args_in q s ≡ args_in p s
args-kept p q NoMore k h = refl
args-kept p q (More' a r rest) k h = λ i. Item (tree-kept p q a k h.0 i) (args-kept p q rest k h.1 i)

args-more : (n m : ℕ) (s : Args) → n ≤ m → ArgsBelow n s → ArgsBelow m s
args-more n m NoMore l h = tt
args-more n m (More' a r rest) l h = (omega (arith, h.0), args-more n m rest l h.1)

pub args-below : (p q : List Tree) (s : Args) → Kept p q → ArgsBelow (length p) s → ArgsBelow (length q) s
args-below p q s k h = args-more _ _ s (length-kept p q k) h

pub scope-kept : (p q : List Tree) (s : Scope) → Kept p q → ScopeBelow (length p) s → scope_in q s ≡ scope_in p s
scope-kept p q Empty k h = refl
scope-kept p q (Within x a r rest) k h = λ i. record { name = x.now; ty = tree-kept p q a k h.0 i } ∷ scope-kept p q rest k h.1 i

scope-more : (n m : ℕ) (s : Scope) → n ≤ m → ScopeBelow n s → ScopeBelow m s
scope-more n m Empty l h = tt
scope-more n m (Within x a r rest) l h = (omega (arith, h.0), scope-more n m rest l h.1)

pub scope-below : (p q : List Tree) (s : Scope) → Kept p q → ScopeBelow (length p) s → ScopeBelow (length q) s
scope-below p q s k h = scope-more _ _ s (length-kept p q k) h

pub types-kept : (p q : List Tree) (cs : List HeldConstructor) → Kept p q → ConstructorsBelow (length p) cs → constructors_seen q cs ≡ constructors_seen p cs
unfolding constructors_seen
types-kept p q cs k h = constructors-kept p q cs k h

pub types-below : (p q : List Tree) (cs : List HeldConstructor) → Kept p q → ConstructorsBelow (length p) cs → ConstructorsBelow (length q) cs
types-below p q cs k h = constructors-more _ _ cs (length-kept p q k) h

pub family-kept : (p q : List Tree) (f : HeldFamily) → Kept p q → FamilyBelow (length p) f → family_held q f ≡ family_held p f
unfolding family_held FamilyBelow
family-kept p q f k h = λ i. record { number = f.number; params = trees-kept p q (ids_of f.params) k h.0 i; indices = trees-kept p q (ids_of f.indices) k h.1 i; arity = tree-kept p q f.arity k h.2 i; constructors = types-kept p q f.constructors.now k h.3 i; large = f.large }

pub family-below : (p q : List Tree) (f : HeldFamily) → Kept p q → FamilyBelow (length p) f → FamilyBelow (length q) f
unfolding FamilyBelow
family-below p q f k h = (all-below p q (ids_of f.params) k h.0, all-below p q (ids_of f.indices) k h.1, omega (arith, length-kept p q k, h.2), types-below p q f.constructors.now k h.3)

pub seen-constructors : (p : List Tree) (cs : List HeldConstructor) → constructors_seen p cs ≡ constructors_in p cs
unfolding constructors_seen
seen-constructors p cs = refl

pub ruleset infer_held = (kept, environment_rules, args-kept, args-below, scope-kept, scope-below, types-kept, types-below, family-kept, family-below)

pub ruleset family_rules = (infer_held, seen-constructors)
