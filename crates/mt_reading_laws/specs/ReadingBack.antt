-- The law of reading back: the text of a closed term, read and taken by its names, is the term but
-- for names of binders.
use Rattle.std.specs.Prelude.{◌≡◌, ◌<◌, ◌≤◌, ◌^◌, ℕ, suc, true, false, Bool, max, if◌then◌else◌}
use Rattle.std.specs.Prelude.{List, [], ◌∷◌, ◌++◌, length, codes, Option, Some, None, slice_get}
use Rattle.mt_term.specs.Trees.{Tree, Bytes, Var, Sort, Prod, Lam, App, Const, Ind, Con, Match}
use Rattle.mt_term.specs.Trees.{Meta}
use Rattle.mt_term.specs.Declarations.{Declaration, Environment}
use Rattle.mt_calculus.specs.Scopes.{Plain}
use Rattle.mt_term.specs.Naming.{name_of, as_term, named}
use Rattle.mt_term.specs.UniverseForms.{IsNormal, fits}
use Rattle.mt_term.specs.Alike.{is_alike}
use Rattle.mt_term.specs.declared.universes.Atom.{Atom}
use Rattle.mt_term.specs.declared.universes.Sort.{Sort as AnySort}
use Rattle.mt_term.specs.declared.universes.Sort.TheVariants as sort
use Rattle.mt_term_parser.specs.Written.{Written}
use Rattle.mt_term_parser.specs.Readings.{Got}
use Rattle.mt_term_parser.specs.Grammar.{term_at}
use Rattle.mt_printer.specs.Chosen.{Scope, entry_name, uses, shown_binder}
use Rattle.mt_printer.specs.TermText.{term_text, universe_name, is_binder, is_compound}
use Rattle.mt_resolver.specs.Resolution.{first_place, resolved, Found}
use Rattle.mt_reading_laws.specs.Names.{IsName}

-- no two entries, and no two universes, have one name
pub record AreApart (E : Environment) : Type 0 where
  pub entries : (n : ℕ) (d : Declaration)
      → slice_get E.entries n ≡ Some d
      → named E.entries (name_of d) ≡ Some (as_term n d)
  pub universes : (n : ℕ) (x : Bytes)
      → slice_get E.names n ≡ Some x
      → first_place E.names x ≡ Some n

-- ---- forms

-- a sort in normal form, whose numbers are below 2 ^ 32
abbrev pub IsNormalSort : AnySort → Type 0
IsNormalSort sort.Prop = Unit {0}
IsNormalSort (sort.Typ u) = IsNormal u × (fits u ≡ true)

-- entry n is a constant
abbrev pub IsConstant : List Declaration → ℕ → Type 0
IsConstant es n = (d : Declaration) × (slice_get es n ≡ Some d) × (as_term n d ≡ Const n)

-- sorts in normal form, variables, products, abstractions, applications and constants
abbrev pub HasForms : Environment → Tree → Type 0
HasForms E (Var i) = Unit {0}
HasForms E (Sort r) = IsNormalSort r
HasForms E (Prod x A B) = HasForms E A × HasForms E B
HasForms E (Lam x A b) = HasForms E A × HasForms E b
HasForms E (App f a) = HasForms E f × HasForms E a
HasForms E (Const c) = IsConstant E.entries c
HasForms E (Ind e) = ⊥
HasForms E (Con e k) = ⊥
HasForms E (Match e R c bs) = ⊥
HasForms E (Meta n s) = ⊥

-- ---- the names that are printed

abbrev pub AreUniverseNames : List Bytes → List Atom → Type 0
AreUniverseNames names [] = Unit {0}
AreUniverseNames names (a ∷ rest) =
    IsName (universe_name names a.name) × AreUniverseNames names rest

abbrev pub AreSortNames : List Bytes → AnySort → Type 0
AreSortNames names sort.Prop = Unit {0}
AreSortNames names (sort.Typ u) = AreUniverseNames names u.atoms

abbrev pub IsShownName : Option Bytes → Type 0
IsShownName None = Unit {0}
IsShownName (Some x) = IsName x

-- each name in a term's text is a name of the grammar: those of binders, constants and universes
abbrev pub HasNames : Environment → Scope → Tree → Type 0
HasNames E s (Var i) = Unit {0}
HasNames E s (Sort r) = AreSortNames E.names r
HasNames E s (Prod x A B) =
    IsShownName (shown_binder E.entries s x 0 B) × HasNames E s A
    × HasNames E (shown_binder E.entries s x 0 B ∷ s) B
HasNames E s (Lam x A b) =
    IsShownName (shown_binder E.entries s x 0 b) × HasNames E s A
    × HasNames E (shown_binder E.entries s x 0 b ∷ s) b
HasNames E s (App f a) = HasNames E s f × HasNames E s a
HasNames E s (Const c) = IsName (entry_name E.entries c)
HasNames E s (Ind e) = Unit {0}
HasNames E s (Con e k) = Unit {0}
HasNames E s (Match e R c bs) = Unit {0}
HasNames E s (Meta n ts) = Unit {0}

-- ---- nesting

-- one more, where a text stands in parentheses
abbrev pub in_parentheses : Bool → ℕ → ℕ
in_parentheses true n = suc n
in_parentheses false n = n

-- how many terms of the grammar are open one in another within a term's text
abbrev pub open_within : Tree → ℕ
open_within (Var i) = 0
open_within (Sort r) = 0
open_within (Prod x A B) =
    if uses 0 B
    then suc (max (open_within A) (open_within B))
    else max (in_parentheses (is_binder A) (open_within A)) (suc (open_within B))
open_within (Lam x A b) = suc (max (open_within A) (open_within b))
open_within (App f a) =
    max (in_parentheses (is_binder f) (open_within f))
    (in_parentheses (is_compound a) (open_within a))
open_within (Const c) = 0
open_within (Ind e) = 0
open_within (Con e k) = 0
open_within (Match e R c bs) = 0
open_within (Meta n s) = 0

-- the nesting of a term's text
abbrev pub nesting : Tree → ℕ
nesting t = suc (open_within t)

-- ---- the law

-- a text is read up to an end as a raw term, which by its names is a term alike to t
pub record ReadsAs (E : Environment) (text : Bytes) (end : ℕ) (t : Tree) : Type 0 where
  pub raw : Written
  pub is_read : term_at text 0 0 ≡ Got raw end
  pub term : Tree
  pub is_found : resolved E [] raw ≡ Found term
  pub is_same : is_alike t term ≡ true

-- The text of a closed term of these forms, whose printed names are names of the grammar and whose
-- nesting is at most 200,
-- followed by ` .`, is read up to its own end as the term, but for the names of binders.

abbrev pub ReadingBack : Type 0
ReadingBack =
    (E : Environment) (t : Tree)
    → AreApart E
    → Plain 0 t
    → HasForms E t
    → HasNames E [] t
    → nesting t ≤ 200
    → length (term_text E [] t) < 2 ^ 64
    → ReadsAs E (term_text E [] t ++ codes " .") (length (term_text E [] t)) t
