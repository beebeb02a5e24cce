-- The entries and constructors that stand in a term, by their places in an environment.
use Rattle.std.specs.Prelude.{List, [], ◌∷◌, ◌++◌, map}
use Rattle.mt_term.specs.Trees.{Tree, Trees, Arms, Bytes, Var, Sort, Prod, Lam, App, Const, Ind}
use Rattle.mt_term.specs.Trees.{Con, Match, Meta, End, Item, NoArm, Arm}
use Rattle.mt_term.specs.Declarations.{Declaration}
use Rattle.mt_printer.specs.declared.named.Named.{Named}
use Rattle.mt_printer.specs.declared.named.Named.TheVariants.{Entry, Constructor}
use Rattle.mt_printer.specs.Chosen.{Scope, shown_names, entry_name, constructor_name}

abbrev pub name_in : List Declaration → Named → Bytes
name_in es (Entry n) = entry_name es n
name_in es (Constructor e k) = constructor_name es e k

abbrev pub names_in : List Declaration → List Named → List Bytes
names_in es ns = map (name_in es) ns

-- as often as they stand there
abbrev mutual
  pub named_in : Tree → List Named
  named_in (Var j) = []
  named_in (Sort s) = []
  named_in (Prod x A B) = named_in A ++ named_in B
  named_in (Lam x A b) = named_in A ++ named_in b
  named_in (App f a) = named_in f ++ named_in a
  named_in (Const c) = Entry c ∷ []
  named_in (Ind e) = Entry e ∷ []
  named_in (Con e k) = Constructor e k ∷ []
  named_in (Match e R c bs) = named_in R ++ named_in c ++ named_arms bs
  named_in (Meta n s) = named_all s

  pub named_all : Trees → List Named
  named_all End = []
  named_all (Item t s) = named_in t ++ named_all s

  pub named_arms : Arms → List Named
  named_arms NoArm = []
  named_arms (Arm xs b bs) = named_in b ++ named_arms bs

abbrev pub named_each : List Tree → List Named
named_each [] = []
named_each (t ∷ ts) = named_in t ++ named_each ts

-- the names in scope, and those of what was found
abbrev pub avoided_by : List Declaration → Scope → List Named → List Bytes
avoided_by es s ns = shown_names s ++ names_in es ns
