-- The last constructor of an entry, by the test.
use Rattle.std.proofs.Common.{Bool, true, ◌≡◌, ◌-◌, ◌<◌, ℕ, List, [], ◌∷◌, length, refl, sym, ◌∙◌, subst, slice_get, Some, None, IfSome, IsTrue, ◌↔◌, Result, Ok, Err, IfOk, zero, suc, ap, arith}
use Rattle.mt_term.proofs.Options.{none_some, some_inj}
use Rattle.mt_term.specs.Declarations.{Constructor}
use Rattle.mt_pool.specs.declared.held.HeldConstructor.{HeldConstructor}
use Rattle.mt_pool.specs.Region.{tree_at}
use Rattle.mt_pool.specs.HeldOf.{constructor_in, constructors_in, ConstructorsBelow}
use Rattle.mt_positivity.specs.Entries.{IsPositiveLast}
use Rattle.mt_term.specs.Trees.{Tree}
use Rattle.mt_calculus.specs.Positivity.{Positive}
use Rattle.mt_positivity.specs.Deciding.{is_positive}
use Rattle.mt_positivity.proofs.Deciding.{positive-decides}

pub positive-iff : (b : Bool) (n p : ℕ) (T C : Tree) → b ≡ is_positive n p T C → IsTrue b ↔ Positive n p T C
positive-iff b n p T C e = let d = positive-decides n p T C in ((λ (h : b ≡ true). d.0 (sym e ∙ h)), (λ (h : Positive n p T C). e ∙ d.1 h))

-- a constructor of a list that is held is held
pub constructor_held : (m : ℕ) (cs : List HeldConstructor) (k : ℕ) (c : HeldConstructor) → ConstructorsBelow m cs → Some c ≡ slice_get cs k → c.ty.at < m
constructor_held m [] k c h e = absurd (none_some (sym e))
constructor_held m (d ∷ cs) zero c h e = subst (λ (x : HeldConstructor). x.ty.at < m) (sym (some_inj e)) h.0
constructor_held m (d ∷ cs) (suc k) c h e = constructor_held m cs k c h.1 e

-- the constructor at a place says what is held there
constructor_at : (p : List Tree) (cs : List HeldConstructor) (k : ℕ) (c : HeldConstructor) → Some c ≡ slice_get cs k → slice_get (constructors_in p cs) k ≡ Some (constructor_in p c)
constructor_at p [] k c e = absurd (none_some (sym e))
constructor_at p (d ∷ cs) zero c e = ap (λ (x : HeldConstructor). Some (constructor_in p x)) (sym (some_inj e))
constructor_at p (d ∷ cs) (suc k) c e = constructor_at p cs k c e

constructors_length : (p : List Tree) (cs : List HeldConstructor) → length (constructors_in p cs) ≡ length cs
constructors_length p [] = refl
constructors_length p (c ∷ cs) = ap suc (constructors_length p cs)

pub last-iff : (p : List Tree) (b : Bool) (n q : ℕ) (T : Tree) (cs : List HeldConstructor) (c : HeldConstructor) → Some c ≡ slice_get cs (length cs - 1) → b ≡ is_positive n q T (tree_at p c.ty)
    → IsTrue b ↔ IsPositiveLast n q T (constructors_in p cs)
last-iff p b n q T cs c e h =
    let k : slice_get (constructors_in p cs) (length (constructors_in p cs) - 1) ≡ Some (constructor_in p c) =
    ap (λ m. slice_get (constructors_in p cs) (m - 1)) (constructors_length p cs) ∙ constructor_at p cs (length cs - 1) c e in
    subst (λ o. IsTrue b ↔ IfSome o (λ (d : Constructor). Positive n q T d.ty)) (sym k) (positive-iff b n q T (tree_at p c.ty) h)

-- there is a last constructor
pub some_last : (cs : List HeldConstructor) (k : ℕ) → k < length cs → None ≡ slice_get cs k → ⊥
some_last [] k l e = absurd (omega (arith, l))
some_last (c ∷ cs) zero l e = none_some e
some_last (c ∷ cs) (suc k) l e = some_last cs k (omega (arith, l)) e

pub ok-map : {A X : Type 0} (P Q : A → Type 0) → ((a : A) → P a → Q a) → (r : Result A X) → IfOk r P → IfOk r Q
ok-map P Q f (Ok a) h = f a h
ok-map P Q f (Err x) h = tt
