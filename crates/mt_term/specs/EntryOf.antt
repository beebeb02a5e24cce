-- What an entry of the program says.
use Rattle.std.specs.Prelude.{Option, Some, None}
use Rattle.mt_term.specs.TreeOf.{tree_of}
use Rattle.mt_term.specs.Declarations.{Declaration, Axiom, Definition, Inductive, Recursive}
use Rattle.mt_term.specs.declared.entries.Entry.{Entry}
use Rattle.mt_term.specs.declared.entries.Entry.TheVariants.{Axiom as AxiomEntry}
use Rattle.mt_term.specs.declared.entries.Entry.TheVariants.{Definition as DefinitionEntry}
use Rattle.mt_term.specs.declared.entries.Entry.TheVariants.{Inductive as InductiveEntry}
use Rattle.mt_term.specs.declared.entries.Entry.TheVariants.{Recursive as RecursiveEntry}
use denote.Bor.{Bor}

abbrev pub declaration_of : Entry → Declaration
declaration_of (AxiomEntry name ty) = Axiom name (tree_of ty)
declaration_of (DefinitionEntry name ty body) = Definition name (tree_of ty) (tree_of body)
declaration_of (InductiveEntry name co params ty cons large) =
    Inductive name co params (tree_of ty) cons large
declaration_of (RecursiveEntry name co binders place ty body made) =
    Recursive name co binders place (tree_of ty) (tree_of body) made

abbrev pub seen_declaration : Option (Bor Entry) → Option Declaration
seen_declaration None = None
seen_declaration (Some e) = Some (declaration_of e.now)
