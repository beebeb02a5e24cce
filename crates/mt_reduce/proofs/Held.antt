-- What arguments say as a pool grows, and how terms are filled one by one.
use Rattle.std.proofs.Common.{false, nat_eq, Option, Some, None, ℕ, zero, suc, ◌≤◌, ◌≡◌, List, length, refl, ap, sym, ◌∙◌, arith}
use mathlib.Core.Path.{fun_ext}
use Rattle.mt_term.specs.Trees.{Tree, Trees, Var, Meta, End, Item}
use Rattle.mt_term.specs.Substitution.{sub, fill, up, then_as, count, products}
use Rattle.mt_term.specs.Lifting.{put, substitute}
use Rattle.mt_term.specs.Declarations.{Constructor}
use Rattle.mt_rules.specs.Inference.{constructor_type}
use Rattle.mt_rules.specs.WeakHead.{takes}
use Rattle.mt_term.proofs.Subst.{tr_ren, tr_sub, sub_id, meta_steady, steady_natural}
use Rattle.mt_pool.specs.declared.nodes.TermId.{TermId}
use Rattle.mt_pool.specs.Region.{tree_at, Kept}
use Rattle.mt_pool.proofs.Region.{kept, tree-kept, length-kept}
use Rattle.mt_layers.proofs.Kept.{environment_rules}
use Rattle.mt_reduce.specs.declared.arguments.Args.{Args, End as NoMore, More'}
use Rattle.mt_reduce.specs.Arguments.{args_in, ArgsBelow}

pub args-kept : (p q : List Tree) (s : Args) → Kept p q → ArgsBelow (length p) s → args_in q s ≡ args_in p s
args-kept p q NoMore k h = refl
args-kept p q (More' a r rest) k h = λ i. Item (tree-kept p q a k h.0 i) (args-kept p q rest k h.1 i)

args-more : (n m : ℕ) (s : Args) → n ≤ m → ArgsBelow n s → ArgsBelow m s
args-more n m NoMore l h = tt
args-more n m (More' a r rest) l h = (omega (arith, h.0), args-more n m rest l h.1)

pub args-below : (p q : List Tree) (s : Args) → Kept p q → ArgsBelow (length p) s → ArgsBelow (length q) s
args-below p q s k h = args-more _ _ s (length-kept p q k) h

-- as many places further in
abbrev inside : ℕ → (ℕ → Tree) → ℕ → Tree
inside zero σ = σ
inside (suc n) σ = inside n (up σ)

inside_up : (n : ℕ) (σ : ℕ → Tree) → inside n (up σ) ≡ up (inside n σ)
inside_up zero σ = refl
inside_up (suc n) σ = inside_up n (up σ)

put_inside : (n : ℕ) (u : Tree) → put n u ≡ inside n (then_as u Var)
put_inside zero u = refl
put_inside (suc n) u = ap up (put_inside n u) ∙ sym (inside_up n (then_as u Var))

filled_inside : (s : Trees) (τ σ : ℕ → Tree) → (λ (i : ℕ). sub (fill s τ) (inside (count s) σ i)) ≡ fill s (λ i. sub τ (σ i))
filled_inside End τ σ = refl
filled_inside (Item t s) τ σ = filled_inside s (then_as t τ) (up σ) ∙ ap (fill s) (fun_ext go)
  where
    go : (i : ℕ) → sub (then_as t τ) (up σ i) ≡ then_as t (λ j. sub τ (σ j)) i
    go zero = refl
    go (suc i) = tr_ren Meta (then_as t τ) suc (σ i)

one_first : (t : Tree) → (λ (i : ℕ). sub Var (then_as t Var i)) ≡ then_as t Var
one_first t = fun_ext (λ i. sub_id (then_as t Var i))

-- the oldest term first, and then the others
pub fill-first : (t : Tree) (s : Trees) (b : Tree) → sub (fill (Item t s) Var) b ≡ sub (fill s Var) (substitute (count s) t b)
fill-first t s b =
    sym (tr_sub Meta (steady_natural Meta meta_steady) (fill s Var) (put (count s) t) b
    ∙ ap (λ (ρ : ℕ → Tree). sub ρ b) (ap (λ (π : ℕ → Tree). λ (i : ℕ). sub (fill s Var) (π i)) (put_inside (count s) t) ∙ filled_inside s Var (then_as t Var) ∙ ap (fill s) (one_first t)))

pub fill-none : (b : Tree) → sub (fill End Var) b ≡ b
fill-none b = sub_id b

-- whether so many are all the arguments, by the constructor's type
pub takes-none : (o : Option Constructor) (n : ℕ) → constructor_type o ≡ None → takes o n ≡ false
takes-none None n e = refl
takes-none (Some c) n e = absurd cc

pub takes-some : (o : Option Constructor) (n : ℕ) (t : Tree) → constructor_type o ≡ Some t → takes o n ≡ nat_eq n (products t)
takes-some None n t e = absurd cc
takes-some (Some c) n t e = let same : c.ty ≡ t = cc in ap (λ (u : Tree). nat_eq n (products u)) same

pub ruleset takes_rules = (takes-none, takes-some)

-- the same for arguments of a pool that has grown
pub fill-next : (p q : List Tree) (a next body : TermId) (rest : Args) (n : ℕ) → Kept p q → ArgsBelow (length p) rest → n ≡ count (args_in p rest) → tree_at q next ≡ substitute n (tree_at p a) (tree_at p body)
    → sub (fill (args_in q rest) Var) (tree_at q next) ≡ sub (fill (Item (tree_at p a) (args_in p rest)) Var) (tree_at p body)
fill-next p q a next body rest n k h m e =
    ap (λ (s : Trees). sub (fill s Var) (tree_at q next)) (args-kept p q rest k h)
    ∙ ap (sub (fill (args_in p rest) Var)) (e ∙ ap (λ (i : ℕ). substitute i (tree_at p a) (tree_at p body)) m)
    ∙ sym (fill-first (tree_at p a) (args_in p rest) (tree_at p body))

pub ruleset reduce_rules = (kept, environment_rules, args-kept, args-below, fill-none)
