-- Lists of terms, and lists from a place on.
use mathlib.Core.Path.{fun_ext}
use Rattle.std.proofs.Common.{ℕ, zero, suc, ◌≡◌, ◌+◌, ◌-◌, ◌<◌, List, [], ◌∷◌, Some, None, drop, slice_get, refl, sym, ap, ◌∙◌, add-one, arith}
use Rattle.mt_term.specs.Trees.{Tree, Trees, Item}
use Rattle.mt_term.specs.Substitution.{all_but, ren}
use Rattle.mt_term.specs.Lifting.{lift, raise}
use Rattle.mt_rules_laws.proofs.Yields.{some_is, nothing}

pub all_but_more : (n : ℕ) (t : Tree) (s : Trees) → 0 < n → all_but n (Item t s) ≡ all_but (n - 1) s
all_but_more zero t s h = let no : ⊥ = omega (arith, h) in absurd no
all_but_more (suc n) t s h =
    let e : n ≡ suc n - 1 = omega arith in
    ap (λ k. all_but k s) e

-- a list from a place on begins with the item there
drop_suc : {A : Type 0} (xs : List A) (i : ℕ) (x : A) → slice_get xs i ≡ Some x → drop i xs ≡ x ∷ drop (suc i) xs
drop_suc [] i x e = nothing e
drop_suc (y ∷ xs) zero x e = ap (λ z. z ∷ xs) (some_is e)
drop_suc (y ∷ xs) (suc i) x e = drop_suc xs i x e

pub drop_at : {A : Type 0} (xs : List A) (i : ℕ) (x : A) → slice_get xs i ≡ Some x → drop i xs ≡ x ∷ drop (i + 1) xs
drop_at xs i x e = drop_suc xs i x e ∙ ap (λ k. x ∷ drop k xs) (sym (add-one i))

pub drop_none : {A : Type 0} (xs : List A) (i : ℕ) → slice_get xs i ≡ None → drop i xs ≡ []
drop_none [] zero e = refl
drop_none [] (suc i) e = refl
drop_none (y ∷ xs) zero e = nothing (sym e)
drop_none (y ∷ xs) (suc i) e = drop_none xs i e

pub raise_one : (t : Tree) → ren suc t ≡ lift 1 0 t
raise_one t = ap (λ ξ. ren ξ t) (fun_ext go)
  where
    go : (i : ℕ) → suc i ≡ raise 1 0 i
    go i = omega arith
