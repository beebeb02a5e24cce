-- The text of terms.
use Rattle.std.specs.Prelude.{ℕ, zero, suc, Bool, true, false, if◌then◌else◌, List, [], ◌∷◌, ◌++◌, codes, Option, Some, None, slice_get, unwrap_or, length}
use Rattle.std.specs.Fmt.{decimal}
use Rattle.mt_term.specs.Trees.{Tree, Trees, Arms, Bytes, Var, Sort, Prod, Lam, App, Const, Ind, Con, Match, Meta, End, Item, NoArm, Arm}
use Rattle.mt_term.specs.Declarations.{Declaration, Environment}
use Rattle.mt_term.specs.declared.universes.Atom.{Atom}
use Rattle.mt_term.specs.declared.universes.UnivExpr.{UnivExpr}
use Rattle.mt_term.specs.declared.universes.Sort.{Sort as AnySort}
use Rattle.mt_term.specs.declared.universes.Sort.TheVariants.{Prop, Typ}
use Rattle.mt_printer.specs.Chosen.{Scope, entry_name, constructor_name, shown_binder, branch_scope}

-- ∀, λ, an arrow and a double arrow between blanks
abbrev pub forall_sign : Bytes
forall_sign = 226 ∷ 136 ∷ 128 ∷ []

abbrev pub lambda_sign : Bytes
lambda_sign = 206 ∷ 187 ∷ []

abbrev pub arrow_text : Bytes
arrow_text = 32 ∷ 226 ∷ 134 ∷ 146 ∷ 32 ∷ []

abbrev pub gives_text : Bytes
gives_text = 32 ∷ 226 ∷ 135 ∷ 146 ∷ 32 ∷ []

-- what is shown for a variable; nothing for one that is not used, or not in scope
abbrev pub variable_text : Option (Option Bytes) → Bytes
variable_text (Some (Some x)) = x
variable_text (Some None) = []
variable_text None = []

-- what is shown where a variable is bound
abbrev pub binder_text : Option Bytes → Bytes
binder_text (Some x) = x
binder_text None = codes "_"

-- the name of a universe; no bytes where there is none
abbrev pub universe_name : List Bytes → ℕ → Bytes
universe_name names n = unwrap_or (slice_get names n) []

-- an offset that is not 0
abbrev pub offset_text : ℕ → Bytes
offset_text zero = []
offset_text (suc k) = codes "+" ++ decimal (suc k)

abbrev pub atom_text : List Bytes → Atom → Bytes
atom_text names a = universe_name names a.name ++ offset_text a.offset

-- further atoms
abbrev pub atoms_text : List Bytes → List Atom → Bytes
atoms_text names [] = []
atoms_text names (a ∷ rest) = codes "," ++ atom_text names a ++ atoms_text names rest

-- the base, where it is positive or there are no atoms, and the atoms
abbrev pub universe_text : List Bytes → ℕ → List Atom → Bytes
universe_text names zero (a ∷ rest) = atom_text names a ++ atoms_text names rest
universe_text names n rest = decimal n ++ atoms_text names rest

abbrev pub sort_text : List Bytes → AnySort → Bytes
sort_text names Prop = codes "Prop"
sort_text names (Typ u) = codes "Type[" ++ universe_text names u.base u.atoms ++ codes "]"

-- a product or an abstraction: it stands in parentheses as a function, an argument or the left of an arrow
abbrev pub is_binder : Tree → Bool
is_binder (Prod x A B) = true
is_binder (Lam x A b) = true
is_binder _ = false

-- a binder or an application: it stands in parentheses as an argument
abbrev pub is_compound : Tree → Bool
is_compound (App f a) = true
is_compound t = is_binder t

-- a text in parentheses, where they are wanted
abbrev pub enclosed : Bool → Bytes → Bytes
enclosed true text = codes "(" ++ text ++ codes ")"
enclosed false text = text

-- a product: an arrow where its variable is not used
abbrev pub product_text : Option Bytes → Bool → Bytes → Bytes → Bytes
product_text (Some x) wrapped A B = forall_sign ++ x ++ codes ":" ++ A ++ codes "." ++ B
product_text None wrapped A B = enclosed wrapped A ++ arrow_text ++ B

-- the names that stand in a branch, each after a blank
abbrev pub pattern_text : List Declaration → Scope → List Bytes → Tree → Bytes
pattern_text es s [] b = []
pattern_text es s (x ∷ xs) b = codes " " ++ binder_text (shown_binder es s x (length xs) b) ++ pattern_text es (shown_binder es s x (length xs) b ∷ s) xs b

-- what stands before branch k
abbrev pub branch_mark : ℕ → Bytes
branch_mark zero = codes " "
branch_mark (suc k) = codes " | "

-- The text of a term, under variables that are shown by the names of a scope.
abbrev mutual
  pub term_text : Environment → Scope → Tree → Bytes
  term_text E s (Var i) = variable_text (slice_get s i)
  term_text E s (Sort r) = sort_text E.names r
  term_text E s (Prod x A B) =
      product_text (shown_binder E.entries s x 0 B) (is_binder A) (term_text E s A) (term_text E (shown_binder E.entries s x 0 B ∷ s) B)
  term_text E s (Lam x A b) =
      lambda_sign ++ binder_text (shown_binder E.entries s x 0 b) ++ codes ":" ++ term_text E s A ++ codes "." ++ term_text E (shown_binder E.entries s x 0 b ∷ s) b
  term_text E s (App f a) = enclosed (is_binder f) (term_text E s f) ++ codes " " ++ enclosed (is_compound a) (term_text E s a)
  term_text E s (Const c) = entry_name E.entries c
  term_text E s (Ind e) = entry_name E.entries e
  term_text E s (Con e k) = constructor_name E.entries e k
  term_text E s (Match e R c bs) =
      codes "match " ++ term_text E s c ++ codes " return " ++ term_text E s R ++ codes " with [" ++ arms_text E s e 0 bs ++ codes " ]"
  term_text E s (Meta n ts) = codes "?" ++ decimal n ++ codes "[" ++ terms_text E s ts ++ codes "]"

  -- terms with a semicolon between them
  pub terms_text : Environment → Scope → Trees → Bytes
  terms_text E s End = []
  terms_text E s (Item t ts) = term_text E s t ++ more_terms_text E s ts

  -- further terms
  pub more_terms_text : Environment → Scope → Trees → Bytes
  more_terms_text E s End = []
  more_terms_text E s (Item t ts) = codes ";" ++ term_text E s t ++ more_terms_text E s ts

  -- the branches from number k on
  pub arms_text : Environment → Scope → ℕ → ℕ → Arms → Bytes
  arms_text E s e k NoArm = []
  arms_text E s e k (Arm xs b bs) =
      branch_mark k ++ constructor_name E.entries e k ++ pattern_text E.entries s xs b ++ gives_text ++ term_text E (branch_scope E.entries s xs b) b ++ arms_text E s e (suc k) bs
