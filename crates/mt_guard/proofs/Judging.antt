-- The arguments of a constructor by what is looked up of it.
use Rattle.std.proofs.Common.{ℕ, ◌≡◌, true, false, List, Option, Some, None, slice_get, refl}
use Rattle.mt_term.specs.Trees.{Tree}
use Rattle.mt_term.specs.Declarations.{Constructor, Declaration, Axiom, Definition, Inductive, Recursive}
use Rattle.mt_guard.specs.Corecursive.{Judged, constructor_fits, entry_fits}
use Rattle.mt_guard.specs.Lookups.{making_of, made_of}
use Rattle.mt_guard.specs.Judging.{making_fits}

constructor-fits : (f e p : ℕ) (T : Tree) (o : Option Constructor) (vs : List Judged) → making_fits f e (made_of true p T o) vs ≡ constructor_fits f e p T o vs
constructor-fits f e p T None vs = refl
constructor-fits f e p T (Some c) vs = refl

not-fits : (f e p : ℕ) (T : Tree) (o : Option Constructor) (vs : List Judged) → making_fits f e (made_of false p T o) vs ≡ false
not-fits f e p T None vs = refl
not-fits f e p T (Some c) vs = refl

pub entry-fits : (f e k : ℕ) (d : Option Declaration) (vs : List Judged) → making_fits f e (making_of d k) vs ≡ entry_fits f e k d vs
entry-fits f e k (Some (Inductive x true p T cs l)) vs = constructor-fits f e p T (slice_get cs k) vs
entry-fits f e k (Some (Inductive x false p T cs l)) vs = not-fits f e p T (slice_get cs k) vs
entry-fits f e k None vs = refl
entry-fits f e k (Some (Axiom x T)) vs = refl
entry-fits f e k (Some (Definition x T b)) vs = refl
entry-fits f e k (Some (Recursive x co n r T b made)) vs = refl

pub ruleset judging = (entry-fits)
