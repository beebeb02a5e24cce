-- What an environment says as its pool grows.
use Rattle.std.proofs.Common.{Bool, true, ℕ, zero, suc, ◌<◌, ◌≤◌, ◌≡◌, List, [], ◌∷◌, ◌++◌, map, length, Option, Some, None, slice_get, option_map, refl, ap, sym, subst, ◌∙◌, arith}
use Rattle.std.proofs.lemmas.Option.{slice_get-map, slice_get_past}
use Rattle.mt_term.specs.Trees.{Tree}
use Rattle.mt_term.specs.Declarations.{Axiom, Definition, Inductive, Recursive, Declaration, Environment}
use Rattle.mt_rules.specs.Charges.{Done}
use Rattle.mt_term.specs.Stores.{Store}
use Rattle.mt_rules.specs.WeakHead.{whd}
use Rattle.mt_rules_laws.specs.ReductionLaws.{ReachedFrom, Compared}
use Rattle.mt_rules.specs.Comparison.{convert}
use Rattle.mt_term.specs.declared.modes.Mode.{Mode}
use Rattle.mt_rules_laws.proofs.ReductionTheorems.{weak_head_law, comparison_law}
use Rattle.mt_pool.specs.Region.{Kept}
use Rattle.mt_pool.specs.declared.held.Held.{Held}
use Rattle.mt_pool.specs.declared.held.Held.TheVariants.{Axiom as HeldAxiom, Definition as HeldDefinition, Inductive as HeldInductive, Recursive as HeldRecursive}
use Rattle.mt_pool.specs.declared.held.HeldConstructor.{HeldConstructor}
use Rattle.mt_pool.specs.HeldOf.{constructor_in, constructors_in, ConstructorsBelow, declaration_in, HeldBelow}
use Rattle.mt_pool.proofs.Region.{tree-kept, length-kept}
use Rattle.mt_store.proofs.HeldLaws.{store-kept, store-below, none-below as no-metas-below}
use Rattle.mt_env.specs.Environments.{HeldEnvironment, no_entries, EntriesBelow, IsAdded}
use Rattle.mt_layers.specs.Environments.{environment_in, EnvBelow, declaration_seen, SeenBelow}
use Rattle.mt_term.specs.Seen.{seen}
use denote.Bor.{Bor}

pub constructors-kept : (p q : List Tree) (cs : List HeldConstructor) → Kept p q → ConstructorsBelow (length p) cs → constructors_in q cs ≡ constructors_in p cs
constructors-kept p q [] k h = refl
constructors-kept p q (c ∷ cs) k h = λ i. record { name = c.name; ty = tree-kept p q c.ty k h.0 i } ∷ constructors-kept p q cs k h.1 i

pub declaration-kept : (p q : List Tree) (h : Held) → Kept p q → HeldBelow (length p) h → declaration_in q h ≡ declaration_in p h
declaration-kept p q (HeldAxiom x t) k h = λ i. Axiom x (tree-kept p q t k h i)
declaration-kept p q (HeldDefinition x t b) k h = λ i. Definition x (tree-kept p q t k h.0 i) (tree-kept p q b k h.1 i)
declaration-kept p q (HeldInductive x co n t cs large) k h = λ i. Inductive x co n (tree-kept p q t k h.0 i) (constructors-kept p q cs k h.1 i) large
declaration-kept p q (HeldRecursive x co n r t b made) k h = λ i. Recursive x co n r (tree-kept p q t k h.0 i) (tree-kept p q b k h.1 i) made

entries-kept : (p q : List Tree) (hs : List Held) → Kept p q → EntriesBelow (length p) hs → map (declaration_in q) hs ≡ map (declaration_in p) hs
entries-kept p q [] k h = refl
entries-kept p q (d ∷ hs) k h = λ i. declaration-kept p q d k h.0 i ∷ entries-kept p q hs k h.1 i

pub env-kept : (p q : List Tree) (env : HeldEnvironment) → Kept p q → EnvBelow (length p) env → environment_in q env ≡ environment_in p env
unfolding environment_in EnvBelow
env-kept p q env k h = λ i. record { entries = entries-kept p q env.entries k h i; names = env.graph.names; below = env.graph.below }

pub constructors-more : (n m : ℕ) (cs : List HeldConstructor) → n ≤ m → ConstructorsBelow n cs → ConstructorsBelow m cs
constructors-more n m [] l h = tt
constructors-more n m (c ∷ cs) l h = (omega (arith, h.0), constructors-more n m cs l h.1)

pub held-more : (n m : ℕ) (h : Held) → n ≤ m → HeldBelow n h → HeldBelow m h
held-more n m (HeldAxiom x t) l h = omega (arith, h)
held-more n m (HeldDefinition x t b) l h = (omega (arith, h.0), omega (arith, h.1))
held-more n m (HeldInductive x co k t cs large) l h = (omega (arith, h.0), constructors-more n m cs l h.1)
held-more n m (HeldRecursive x co k r t b made) l h = (omega (arith, h.0), omega (arith, h.1))

entries-more : (n m : ℕ) (hs : List Held) → n ≤ m → EntriesBelow n hs → EntriesBelow m hs
entries-more n m [] l h = tt
entries-more n m (d ∷ hs) l h = (held-more n m d l h.0, entries-more n m hs l h.1)

pub env-below : (p q : List Tree) (env : HeldEnvironment) → Kept p q → EnvBelow (length p) env → EnvBelow (length q) env
unfolding EnvBelow
env-below p q env k h = entries-more _ _ env.entries (length-kept p q k) h

-- an entry that is found
seen_is : (p : List Tree) (env : HeldEnvironment) (n : ℕ) → option_map (declaration_in p) (slice_get env.entries n) ≡ slice_get (environment_in p env).entries n
unfolding environment_in
seen_is p env n = sym (slice_get-map (declaration_in p) env.entries n)

pub below-at : (m : ℕ) (hs : List Held) (n : ℕ) (h : Held) → EntriesBelow m hs → slice_get hs n ≡ Some h → HeldBelow m h
below-at m [] n h b e = absurd cc
below-at m (d ∷ hs) zero h b e = let same : d ≡ h = cc in subst (HeldBelow m) same b.0
below-at m (d ∷ hs) (suc n) h b e = below-at m hs n h b.1 e

pub entry-none : (p : List Tree) (env : HeldEnvironment) (n : ℕ) → slice_get env.entries n ≡ None → slice_get (environment_in p env).entries n ≡ None
entry-none p env n e = sym (seen_is p env n) ∙ ap (option_map (declaration_in p)) e

pub entry-some : (p : List Tree) (env : HeldEnvironment) (n : ℕ) (h : Held) → slice_get env.entries n ≡ Some h → slice_get (environment_in p env).entries n ≡ Some (declaration_in p h)
entry-some p env n h e = sym (seen_is p env n) ∙ ap (option_map (declaration_in p)) e

pub entry-below : (m : ℕ) (env : HeldEnvironment) (n : ℕ) (h : Held) → EnvBelow m env → slice_get env.entries n ≡ Some h → HeldBelow m h
unfolding EnvBelow
entry-below m env n h b e = below-at m env.entries n h b e

pub seen-entry : (p : List Tree) (env : HeldEnvironment) (n : ℕ) (r : Option (Bor Held)) → seen r ≡ slice_get env.entries n → declaration_seen p r ≡ slice_get (environment_in p env).entries n
seen-entry p env n None e = sym (entry-none p env n (sym e))
seen-entry p env n (Some h) e = sym (entry-some p env n h.now (sym e))

pub seen-below : (m : ℕ) (env : HeldEnvironment) (n : ℕ) (r : Option (Bor Held)) → seen r ≡ slice_get env.entries n → EnvBelow m env → SeenBelow m r
seen-below m env n None e b = tt
seen-below m env n (Some h) e b = entry-below m env n h.now b (sym e)

constructor-at : (p : List Tree) (cs : List HeldConstructor) (k : ℕ) → slice_get (constructors_in p cs) k ≡ option_map (constructor_in p) (slice_get cs k)
constructor-at p cs k = slice_get-map (constructor_in p) cs k

pub constructor-none : (p : List Tree) (cs : List HeldConstructor) (k : ℕ) → slice_get cs k ≡ None → slice_get (constructors_in p cs) k ≡ None
constructor-none p cs k e = constructor-at p cs k ∙ ap (option_map (constructor_in p)) e

pub constructor-some : (p : List Tree) (cs : List HeldConstructor) (k : ℕ) (c : HeldConstructor) → slice_get cs k ≡ Some c → slice_get (constructors_in p cs) k ≡ Some (constructor_in p c)
constructor-some p cs k c e = constructor-at p cs k ∙ ap (option_map (constructor_in p)) e

pub constructor-below : (m : ℕ) (cs : List HeldConstructor) (k : ℕ) (c : HeldConstructor) → ConstructorsBelow m cs → slice_get cs k ≡ Some c → c.ty.at < m
constructor-below m [] k c b e = absurd cc
constructor-below m (d ∷ cs) zero c b e = let same : d ≡ c = cc in subst (λ (x : HeldConstructor). x.ty.at < m) same b.0
constructor-below m (d ∷ cs) (suc k) c b e = constructor-below m cs k c b.1 e

-- with the store
pub ruleset environment_rules = (env-kept, env-below, store-kept, store-below)

-- where no entry is, and where one is added
pub none-below : (n : ℕ) (env : HeldEnvironment) → env ≡ no_entries → EnvBelow n env
unfolding EnvBelow
none-below n env e = subst (λ (v : HeldEnvironment). EntriesBelow n v.entries) (sym e) tt

entries-then : (n : ℕ) (hs : List Held) (h : Held) → EntriesBelow n hs → HeldBelow n h → EntriesBelow n (hs ++ h ∷ [])
entries-then n [] h b last = (last, tt)
entries-then n (d ∷ hs) h b last = (b.0, entries-then n hs h b.1 last)

pub added-below : (p q : List Tree) (old new : HeldEnvironment) (d : Declaration) → IsAdded old new q d → Kept p q → EnvBelow (length p) old → EnvBelow (length q) new
unfolding EnvBelow
added-below p q old new d added k b = subst (λ (v : HeldEnvironment). EntriesBelow (length q) v.entries) (sym added.1) (entries-then (length q) old.entries added.0 (env-below p q old k b) added.2)

pub entries-below : (n : ℕ) (env : HeldEnvironment) → EnvBelow n env → EntriesBelow n env.entries
unfolding EnvBelow
entries-below n env b = b

pub ruleset added_rules = (none-below, added-below, entries-below, no-metas-below)

pub past_end : {A : Type 0} (xs : List A) (n : ℕ) → length xs ≤ n → slice_get xs n ≡ None
past_end xs n l = slice_get_past xs n l

-- a weak head is reached by contractions
pub reached_by : (E : Environment) (S : Store) (t u : Tree) (n l : ℕ) → whd E S t n ≡ Done u l → ReachedFrom E S t u
reached_by E S t u n l e = weak_head_law E S t u n l e

-- a yes of the comparison gives conversion, or the order of types
pub converted_by : (E : Environment) (S : Store) (mode : Mode) (t u : Tree) (n l : ℕ) (b : Bool) → convert E S mode t u n ≡ Done b l → b ≡ true → Compared E S mode t u
converted_by E S mode t u n l b e y = comparison_law E S mode t u n l (e ∙ ap (λ c. Done c l) y)
