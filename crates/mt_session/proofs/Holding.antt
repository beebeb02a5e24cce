-- Entries in the pool as the pool grows, and with one more.
use Rattle.std.proofs.Common.{◌≡◌, ◌≤◌, ℕ, suc, List, [], ◌∷◌, ◌++◌, map, length, refl, sym, ap, ◌∙◌, subst, arith}
use Rattle.mt_term.specs.Trees.{Tree}
use Rattle.mt_term.specs.Declarations.{Declaration, Axiom, Definition, Inductive, Recursive, Environment}
use Rattle.mt_term.specs.EnvironmentOf.{environment_of}
use Rattle.mt_term.specs.Naming.{Naming, find, named, naming, naming_entry}
use Rattle.mt_pool.specs.declared.held.HeldConstructor.{HeldConstructor}
use Rattle.mt_pool.specs.declared.held.Held.{Held}
use Rattle.mt_pool.specs.declared.held.Held.TheVariants.{Axiom as HeldAxiom, Definition as HeldDefinition, Inductive as HeldInductive, Recursive as HeldRecursive}
use Rattle.mt_pool.specs.HeldOf.{declaration_in, ConstructorsBelow, HeldBelow}
use Rattle.mt_pool.specs.Region.{Kept}
use Rattle.mt_pool.proofs.Region.{tree-kept, length-kept}
use Rattle.mt_env.specs.Environments.{HeldEnvironment, EntriesBelow, IsAdded, declarations_in}
use Rattle.mt_env.specs.Names.{Distinct}
use Rattle.mt_resolver.specs.TableOf.{AreNamesOf}
use Rattle.mt_session.specs.declared.sessions.Session.{Session}
use Rattle.mt_session.specs.Tasks.{universes_of}
use Rattle.mt_session.specs.Sessions.{AreTables}
use Rattle.mt_env.proofs.NamingLaws.{map_append, names_any, naming_last}
use Rattle.mt_env.proofs.EnteringLaws.{constructors_same}

declaration_same : (p q : List Tree) (h : Held) → Kept p q → HeldBelow (length p) h → declaration_in q h ≡ declaration_in p h
declaration_same p q (HeldAxiom x t) k h = λ i. Axiom x (tree-kept p q t k h i)
declaration_same p q (HeldDefinition x t b) k h = λ i. Definition x (tree-kept p q t k h.0 i) (tree-kept p q b k h.1 i)
declaration_same p q (HeldInductive x co n t cs large) k h = λ i. Inductive x co n (tree-kept p q t k h.0 i) (constructors_same p q cs k h.1 i) large
declaration_same p q (HeldRecursive x co n r t b made) k h = λ i. Recursive x co n r (tree-kept p q t k h.0 i) (tree-kept p q b k h.1 i) made

pub declarations_same : (p q : List Tree) (hs : List Held) → Kept p q → EntriesBelow (length p) hs → declarations_in q hs ≡ declarations_in p hs
declarations_same p q [] k h = refl
declarations_same p q (d ∷ hs) k h = λ i. declaration_same p q d k h.0 i ∷ declarations_same p q hs k h.1 i

constructors_more : (n m : ℕ) (cs : List HeldConstructor) → n ≤ m → ConstructorsBelow n cs → ConstructorsBelow m cs
constructors_more n m [] l h = tt
constructors_more n m (c ∷ cs) l h = (omega (arith, h.0), constructors_more n m cs l h.1)

held_more : (n m : ℕ) (h : Held) → n ≤ m → HeldBelow n h → HeldBelow m h
held_more n m (HeldAxiom x t) l h = omega (arith, h)
held_more n m (HeldDefinition x t b) l h = (omega (arith, h.0), omega (arith, h.1))
held_more n m (HeldInductive x co k t cs large) l h = (omega (arith, h.0), constructors_more n m cs l h.1)
held_more n m (HeldRecursive x co k r t b made) l h = (omega (arith, h.0), omega (arith, h.1))

entries_more : (n m : ℕ) (hs : List Held) → n ≤ m → EntriesBelow n hs → EntriesBelow m hs
entries_more n m [] l h = tt
entries_more n m (d ∷ hs) l h = (held_more n m d l h.0, entries_more n m hs l h.1)

pub entries_below : (p q : List Tree) (hs : List Held) → Kept p q → EntriesBelow (length p) hs → EntriesBelow (length q) hs
entries_below p q hs k h = entries_more (length p) (length q) hs (length-kept p q k) h

-- with one more entry
below_last : (n : ℕ) (hs : List Held) (h : Held) → EntriesBelow n hs → HeldBelow n h → EntriesBelow n (hs ++ h ∷ [])
below_last n [] h all one = (one, tt)
below_last n (d ∷ hs) h all one = (all.0, below_last n hs h all.1 one)

pub added_entries : (old new : HeldEnvironment) (p q : List Tree) (es : List Declaration) (d : Declaration) → Kept p q → EntriesBelow (length p) old.entries → declarations_in p old.entries ≡ es → IsAdded old new q d → declarations_in q new.entries ≡ es ++ d ∷ []
added_entries old new p q es d k below same added =
    let h = added.0 in
    ap (λ (e : HeldEnvironment). declarations_in q e.entries) added.1
    ∙ map_append (declaration_in q) old.entries (h ∷ [])
    ∙ ap (λ (l : List Declaration). l ++ declaration_in q h ∷ []) (declarations_same p q old.entries k below ∙ same)
    ∙ ap (λ (x : Declaration). es ++ x ∷ []) added.3

pub added_below : (old new : HeldEnvironment) (p q : List Tree) (d : Declaration) → Kept p q → EntriesBelow (length p) old.entries → IsAdded old new q d → EntriesBelow (length q) new.entries
added_below old new p q d k below added =
    subst (λ (e : HeldEnvironment). EntriesBelow (length q) e.entries) (sym added.1)
    (below_last (length q) old.entries added.0 (entries_below p q old.entries k below) added.2)

pub added_graph : (old new : HeldEnvironment) (q : List Tree) (d : Declaration) → IsAdded old new q d → new.graph ≡ old.graph
added_graph old new q d added = ap (λ (e : HeldEnvironment). e.graph) added.1

length_map : {A B : Type 0} (f : A → B) (xs : List A) → length (map f xs) ≡ length xs
length_map f [] = refl
length_map f (x ∷ xs) = ap suc (length_map f xs)

-- names do not depend on the pool
names_with : (p : List Tree) (hs : List Held) (es : List Declaration) (d : Declaration) → declarations_in p hs ≡ es → naming (es ++ d ∷ []) ≡ naming (declarations_in [] hs ++ d ∷ [])
names_with p hs es d same =
    let count : length es ≡ length (declarations_in [] hs) = ap length (sym same) ∙ length_map (declaration_in p) hs ∙ sym (length_map (declaration_in []) hs) in
    naming_last es d
    ∙ (λ i. naming (sym same i) ++ naming_entry (count i) d)
    ∙ ap (λ (l : Naming). l ++ naming_entry (length (declarations_in [] hs)) d) (names_any p [] hs)
    ∙ sym (naming_last (declarations_in [] hs) d)

pub distinct_held : (p : List Tree) (hs : List Held) (es : List Declaration) (d : Declaration) → declarations_in p hs ≡ es → Distinct (naming (es ++ d ∷ [])) → Distinct (naming (declarations_in [] hs ++ d ∷ []))
distinct_held p hs es d same h = subst Distinct (names_with p hs es d same) h

-- tables stay where the pool grows
pub tables_kept : (old new : Session) → AreTables old → Kept old.pool new.pool → environment_of new.env ≡ environment_of old.env → new.names ≡ old.names → new.held ≡ old.held → AreTables new
tables_kept old new t k e n h =
    let es : new.env.entries ≡ old.env.entries = ap (λ (E : Environment). E.entries) e in
    let hs : new.held.entries ≡ old.held.entries = ap (λ (x : HeldEnvironment). x.entries) h in
    let g : new.held.graph ≡ old.held.graph = ap (λ (x : HeldEnvironment). x.graph) h in record {
      names = record { each = λ x. ap (λ (ns : Naming). find ns x) n ∙ t.names.each x ∙ ap (λ l. named l x) (sym es) };
      entries = ap (declarations_in new.pool) hs ∙ declarations_same old.pool new.pool old.held.entries k t.below ∙ t.entries ∙ sym es;
      graph = g ∙ t.graph ∙ ap universes_of (sym e);
      below = subst (EntriesBelow (length new.pool)) (sym hs) (entries_below old.pool new.pool old.held.entries k t.below);
    }

-- and with one more entry
pub tables_added : (old new : Session) (d : Declaration) → AreTables old → AreNamesOf new.names (old.env.entries ++ d ∷ []) → Kept old.pool new.pool → IsAdded old.held new.held new.pool d → new.env.entries ≡ old.env.entries ++ d ∷ [] → new.env.names ≡ old.env.names → new.env.below ≡ old.env.below → AreTables new
tables_added old new d t names k added es ns below = record {
  names = subst (AreNamesOf new.names) (sym es) names;
  entries = added_entries old.held new.held old.pool new.pool old.env.entries d k t.below t.entries added ∙ sym es;
  graph = added_graph old.held new.held new.pool d added ∙ t.graph ∙ (λ i. record { names = sym ns i; below = sym below i });
  below = added_below old.held new.held old.pool new.pool d k t.below added;
}
