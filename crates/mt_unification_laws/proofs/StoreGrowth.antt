-- Stores that grow, and a store in which a metavariable gets a body.
use Rattle.std.specs.Prelude.{◌≡◌, ◌≢◌, refl, ℕ, zero, suc, [], ◌∷◌, ◌++◌, Option, Some, None, option_map, slice_get, slice_set}
use Rattle.std.proofs.Common.{sym, ap, ◌∙◌}
use Rattle.mt_term.specs.Trees.{Tree}
use Rattle.mt_term.specs.States.{Metavariable, meta_with_body}
use Rattle.mt_term.specs.Stores.{Declared, types_of, declared_as, store_of}
use Rattle.mt_term.specs.StoreChanges.{Extends, Kept, Puts, with_body as declared_with}
use Rattle.mt_rules_laws.proofs.Yields.{some_is, nothing}
use Rattle.mt_unification_rules.specs.Placeholders.{Metas}
use Rattle.mt_unification_laws.specs.UnificationLaws.{KeptMeta, Grows}

kept_same : (m : Metavariable) → KeptMeta m m
kept_same m = record { context = refl; ty = refl; body = λ b h. h }

kept_twice : {a b c : Metavariable} → KeptMeta a b → KeptMeta b c → KeptMeta a c
kept_twice p q = record { context = q.context ∙ p.context; ty = q.ty ∙ p.ty; body = λ b h. q.body b (p.body b h) }

pub grows_same : (ms : Metas) → Grows ms ms
grows_same ms n m e = (m, e, kept_same m)

pub grows_twice : (ms ms' ms'' : Metas) → Grows ms ms' → Grows ms' ms'' → Grows ms ms''
grows_twice ms ms' ms'' x y n m e = let p = x n m e in let q = y n p.0 p.1 in (q.0, q.1, kept_twice p.2 q.2)

-- a store with one more
pub appended : (ms : Metas) (x : Metavariable) → Grows ms (ms ++ x ∷ [])
appended [] x n m e = nothing e
appended (c ∷ ms) x zero m e = grows_same (c ∷ ms) zero m e
appended (c ∷ ms) x (suc n) m e = appended ms x n m e

-- as judgements see it
pub grows_extends : (ms ms' : Metas) → Grows ms ms' → Extends (store_of ms) (store_of ms')
grows_extends ms ms' x n d e = go (slice_get ms n) refl e
  where
    go : (o : Option Metavariable) → slice_get ms n ≡ o → option_map declared_as o ≡ Some d → (c : Declared) × (option_map declared_as (slice_get ms' n) ≡ Some c) × Kept d c
    go None h g = nothing g
    go (Some m) h g =
        let p = x n m h in
        let same : declared_as m ≡ d = some_is g in (
          declared_as p.0,
          ap (option_map declared_as) p.1,
          record {
            context = ap types_of (p.2.context) ∙ ap (λ (a : Declared). a.context) same;
            ty = p.2.ty ∙ ap (λ (a : Declared). a.ty) same;
            body = λ b k. p.2.body b (ap (λ (a : Declared). a.body) same ∙ k);
          },
        )

-- a body for an open metavariable
pub set_grows : (ms : Metas) (n : ℕ) (m : Metavariable) (v : Tree) → slice_get ms n ≡ Some m → m.body ≡ None → Grows ms (slice_set ms n (meta_with_body m v))
set_grows [] n m v e o j c g = nothing e
set_grows (x ∷ xs) zero m v e o zero c g =
    let same : m ≡ c = some_is (sym e ∙ g) in (
      meta_with_body m v,
      refl,
      record {
        context = ap (λ (a : Metavariable). a.context) same;
        ty = ap (λ (a : Metavariable). a.ty) same;
        body = λ b h. nothing (sym o ∙ ap (λ (a : Metavariable). a.body) same ∙ h);
      },
    )
set_grows (x ∷ xs) zero m v e o (suc j) c g = (c, g, kept_same c)
set_grows (x ∷ xs) (suc n) m v e o zero c g = (c, g, kept_same c)
set_grows (x ∷ xs) (suc n) m v e o (suc j) c g = set_grows xs n m v e o j c g

set_here : (ms : Metas) (n : ℕ) (m c : Metavariable) → slice_get ms n ≡ Some m → slice_get (slice_set ms n c) n ≡ Some c
set_here [] n m c e = nothing e
set_here (x ∷ xs) zero m c e = refl
set_here (x ∷ xs) (suc n) m c e = set_here xs n m c e

set_other : (ms : Metas) (n j : ℕ) (c : Metavariable) → n ≢ j → slice_get (slice_set ms n c) j ≡ slice_get ms j
set_other [] n j c h = refl
set_other (x ∷ xs) zero zero c h = absurd (h refl)
set_other (x ∷ xs) zero (suc j) c h = refl
set_other (x ∷ xs) (suc n) zero c h = refl
set_other (x ∷ xs) (suc n) (suc j) c h = set_other xs n j c (λ q. h (ap suc q))

pub set_puts : (ms : Metas) (n : ℕ) (m : Metavariable) (v : Tree) → slice_get ms n ≡ Some m → Puts (store_of ms) n (declared_with (declared_as m) v) (store_of (slice_set ms n (meta_with_body m v)))
set_puts ms n m v e = record {
  new = ap (option_map declared_as) (set_here ms n m (meta_with_body m v) e);
  others = λ j h. ap (option_map declared_as) (set_other ms n j (meta_with_body m v) h);
}
