-- What is found in an environment whose entries are held in a pool.
use Rattle.std.proofs.Common.{ℕ, zero, suc, ◌<◌, ◌≤◌, length, ◌≡◌, List, [], ◌∷◌, Some, None, slice_get, option_map, sym, ap, ◌∙◌, subst}
use Rattle.std.proofs.lemmas.Option.{slice_get-map, slice_get_past}
use Rattle.mt_term.specs.Trees.{Tree}
use Rattle.mt_pool.specs.declared.held.Held.{Held}
use Rattle.mt_pool.specs.declared.held.HeldConstructor.{HeldConstructor}
use Rattle.mt_pool.specs.HeldOf.{constructor_in, constructors_in, ConstructorsBelow, declaration_in, HeldBelow}
use Rattle.mt_guard.specs.Lookups.{making_of}
use Rattle.mt_env.specs.Environments.{declarations_in, EntriesBelow}

pub entry-none : (p : List Tree) (es : List Held) (n : ℕ) → None ≡ slice_get es n → slice_get (declarations_in p es) n ≡ None
entry-none p es n e = slice_get-map (declaration_in p) es n ∙ ap (option_map (declaration_in p)) (sym e)

pub entry-some : (p : List Tree) (es : List Held) (n : ℕ) (h : Held) → Some h ≡ slice_get es n → slice_get (declarations_in p es) n ≡ Some (declaration_in p h)
entry-some p es n h e = slice_get-map (declaration_in p) es n ∙ ap (option_map (declaration_in p)) (sym e)

pub entry-below : (m : ℕ) (es : List Held) (n : ℕ) (h : Held) → EntriesBelow m es → Some h ≡ slice_get es n → HeldBelow m h
entry-below m [] n h b e = absurd cc
entry-below m (d ∷ es) zero h b e = let same : d ≡ h = cc in subst (HeldBelow m) same b.0
entry-below m (d ∷ es) (suc n) h b e = entry-below m es n h b.1 e

pub constructor-none : (p : List Tree) (cs : List HeldConstructor) (k : ℕ) → None ≡ slice_get cs k → slice_get (constructors_in p cs) k ≡ None
constructor-none p cs k e = slice_get-map (constructor_in p) cs k ∙ ap (option_map (constructor_in p)) (sym e)

pub constructor-some : (p : List Tree) (cs : List HeldConstructor) (k : ℕ) (c : HeldConstructor) → Some c ≡ slice_get cs k → slice_get (constructors_in p cs) k ≡ Some (constructor_in p c)
constructor-some p cs k c e = slice_get-map (constructor_in p) cs k ∙ ap (option_map (constructor_in p)) (sym e)

pub constructor-below : (m : ℕ) (cs : List HeldConstructor) (k : ℕ) (c : HeldConstructor) → ConstructorsBelow m cs → Some c ≡ slice_get cs k → c.ty.at < m
constructor-below m [] k c b e = absurd cc
constructor-below m (d ∷ cs) zero c b e = let same : d ≡ c = cc in subst (λ (x : HeldConstructor). x.ty.at < m) same b.0
constructor-below m (d ∷ cs) (suc k) c b e = constructor-below m cs k c b.1 e

pub making-some : (p : List Tree) (es : List Held) (n : ℕ) (h : Held) (k : ℕ) → slice_get es n ≡ Some h → making_of (slice_get (declarations_in p es) n) k ≡ making_of (Some (declaration_in p h)) k
making-some p es n h k e = ap (λ o. making_of o k) (entry-some p es n h (sym e))

pub making-none : (p : List Tree) (es : List Held) (n k : ℕ) → length es ≤ n → making_of (slice_get (declarations_in p es) n) k ≡ None
making-none p es n k l = ap (λ o. making_of o k) (entry-none p es n (sym (slice_get_past es n l)))

pub held-at : (m : ℕ) (es : List Held) (n : ℕ) (h : Held) → EntriesBelow m es → slice_get es n ≡ Some h → HeldBelow m h
held-at m es n h b e = entry-below m es n h b (sym e)

pub ruleset making_rules = (making-some, making-none, held-at)

pub ruleset lookups = (entry-none, entry-some, entry-below, constructor-none, constructor-some, constructor-below)
