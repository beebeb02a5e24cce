-- What is held stays held as a pool grows.
use Rattle.std.proofs.Common.{ℕ, suc, refl, ◌≤◌, ◌≡◌, List, [], ◌∷◌, length, sym, subst, ap, arith}
use Rattle.mt_term.specs.Trees.{Tree}
use Rattle.mt_term.specs.Declarations.{Declaration, Axiom, Definition, Inductive, Recursive}
use Rattle.mt_pool.specs.Region.{Kept}
use Rattle.mt_pool.specs.declared.held.HeldConstructor.{HeldConstructor}
use Rattle.mt_pool.specs.declared.held.Held.{Held}
use Rattle.mt_pool.specs.declared.held.Held.TheVariants.{Axiom as HeldAxiom, Definition as HeldDefinition, Inductive as HeldInductive, Recursive as HeldRecursive}
use Rattle.mt_pool.specs.HeldOf.{constructors_in, declaration_in, ConstructorsBelow, HeldBelow}
use Rattle.mt_pool.proofs.Region.{length-kept, tree-kept}
use Rattle.mt_env.specs.Environments.{HeldEnvironment, declarations_in, environment_in, no_entries, EntriesBelow, IsAdded}

constructors_more : (n m : ℕ) (cs : List HeldConstructor) → n ≤ m → ConstructorsBelow n cs → ConstructorsBelow m cs
constructors_more n m [] l h = tt
constructors_more n m (c ∷ cs) l h = (omega (arith, h.0), constructors_more n m cs l h.1)

held_more : (n m : ℕ) (h : Held) → n ≤ m → HeldBelow n h → HeldBelow m h
held_more n m (HeldAxiom x t) l h = omega (arith, h)
held_more n m (HeldDefinition x t b) l h = (omega (arith, h.0), omega (arith, h.1))
held_more n m (HeldInductive x co k t cs large) l h = (omega (arith, h.0), constructors_more n m cs l h.1)
held_more n m (HeldRecursive x co k r t b made) l h = (omega (arith, h.0), omega (arith, h.1))

pub held-below : (p q : List Tree) (h : Held) → Kept p q → HeldBelow (length p) h → HeldBelow (length q) h
held-below p q h k b = held_more _ _ h (length-kept p q k) b

entries_more : (n m : ℕ) (es : List Held) → n ≤ m → EntriesBelow n es → EntriesBelow m es
entries_more n m [] l h = tt
entries_more n m (e ∷ es) l h = (held_more n m e l h.0, entries_more n m es l h.1)

pub entries-below : (p q : List Tree) (es : List Held) → Kept p q → EntriesBelow (length p) es → EntriesBelow (length q) es
entries-below p q es k b = entries_more _ _ es (length-kept p q k) b

-- and says the same
constructors_kept : (p q : List Tree) (cs : List HeldConstructor) → Kept p q → ConstructorsBelow (length p) cs → constructors_in q cs ≡ constructors_in p cs
constructors_kept p q [] k h = refl
constructors_kept p q (c ∷ cs) k h = λ i. record { name = c.name; ty = tree-kept p q c.ty k h.0 i } ∷ constructors_kept p q cs k h.1 i

pub declaration-kept : (p q : List Tree) (h : Held) → Kept p q → HeldBelow (length p) h → declaration_in q h ≡ declaration_in p h
declaration-kept p q (HeldAxiom x t) k h = λ i. Axiom x (tree-kept p q t k h i)
declaration-kept p q (HeldDefinition x t b) k h = λ i. Definition x (tree-kept p q t k h.0 i) (tree-kept p q b k h.1 i)
declaration-kept p q (HeldInductive x co n t cs large) k h = λ i. Inductive x co n (tree-kept p q t k h.0 i) (constructors_kept p q cs k h.1 i) large
declaration-kept p q (HeldRecursive x co n r t b made) k h = λ i. Recursive x co n r (tree-kept p q t k h.0 i) (tree-kept p q b k h.1 i) made

declarations_kept : (p q : List Tree) (es : List Held) → Kept p q → EntriesBelow (length p) es → declarations_in q es ≡ declarations_in p es
declarations_kept p q [] k h = refl
declarations_kept p q (e ∷ es) k h = λ i. declaration-kept p q e k h.0 i ∷ declarations_kept p q es k h.1 i

pub environment-kept : (p q : List Tree) (e : HeldEnvironment) → Kept p q → EntriesBelow (length p) e.entries → environment_in q e ≡ environment_in p e
environment-kept p q e k h = λ i. record { entries = declarations_kept p q e.entries k h i; names = e.graph.names; below = e.graph.below }

pub declarations-length : (p : List Tree) (es : List Held) → length (declarations_in p es) ≡ length es
declarations-length p [] = refl
declarations-length p (e ∷ es) = ap suc (declarations-length p es)

-- an environment of one entry
pub one-added : (new : HeldEnvironment) (p : List Tree) (d : Declaration) → IsAdded no_entries new p d → EntriesBelow (length p) new.entries
one-added new p d h = subst (λ (e : HeldEnvironment). EntriesBelow (length p) e.entries) (sym h.1) (h.2, tt)

pub ruleset growing = (held-below, entries-below, one-added)
