-- Terms whose texts are read back, by computing.
use Rattle.std.specs.Prelude.{◌≡◌, refl, ℕ, Some, [], ◌∷◌, ◌++◌, length, codes}
use Rattle.std.specs.Fmt.{digits}
use Rattle.std.specs.Str.{chars}
use lib.Utf8.{encode}
use Rattle.unicode_ident.proofs.Computing.{unicode_ident}
use Rattle.mt_term.specs.Trees.{Tree, Bytes, Var, Sort, Prod, Lam, App, Const}
use Rattle.mt_term.specs.Declarations.{Environment, Axiom}
use Rattle.mt_term.specs.Reasons.{TooDeep}
use Rattle.mt_term.specs.Naming.{as_term, named}
use Rattle.mt_term.specs.Alike.{is_alike}
use Rattle.mt_term.specs.UniverseForms.{normal_form}
use Rattle.mt_term.specs.declared.universes.Sort.TheVariants.{Prop, Typ}
use Rattle.mt_term_parser.specs.Written as raw
use Rattle.mt_term_parser.specs.Written.{Written, Term, Given, NoArgument, Argument}
use Rattle.mt_term_parser.specs.declared.raw.Part.TheVariants as part
use Rattle.mt_term_parser.specs.declared.raw.RawSort.TheVariants as raw_sort
use Rattle.mt_term_parser.specs.Readings.{Got, Stops}
use Rattle.mt_term_parser.specs.Grammar.{term_at}
use Rattle.mt_printer.specs.Chosen.{fit_name}
use Rattle.mt_printer.specs.TermText.{term_text}
use Rattle.mt_resolver.specs.Resolution.{first_place}
use Rattle.mt_reading_laws.specs.ReadingBack.{nesting, ReadsAs}

-- `axiom a : Prop. axiom x : a.`, with the universe names u and v
abbrev pub sample : Environment
sample =
    record {
      entries = Axiom (codes "a") (Sort Prop) ∷ Axiom (codes "x") (Const 0) ∷ [];
      names = codes "u" ∷ codes "v" ∷ [];
      below = [];
    }

abbrev IsReadBack : Tree → Type 0
IsReadBack t =
    ReadsAs sample (term_text sample [] t ++ codes " .") (length (term_text sample [] t)) t

abbrev name : ℕ → Bytes → Written
name at x = Term at (raw.Name x)

-- `∀A:Type[3,u+2].A → A`
abbrev arrow : Tree
arrow =
    Prod (codes "A")
    (Sort (Typ (record { base = 3; atoms = record { name = 0; offset = 2 } ∷ [] })))
    (Prod (codes "_") (Var 0) (Var 1))

an_arrow : IsReadBack arrow
unfolding fit_name digits chars encode unicode_ident normal_form is_alike
an_arrow = record {
  raw =
      Term 0
      (raw.Prod (codes "A") (Term 5 (raw.Sort (raw_sort.Typ (part.Number 3 ∷ part.Name (codes "u") 2 ∷ [])))) (Term 17 (raw.Prod (codes "_") (name 17 (codes "A")) (name 23 (codes "A")))));
  is_read = refl;
  term = arrow;
  is_found = refl;
  is_same = refl;
}

-- `λx_1:a.x_1 (x (λ_:a.x_1))`: the binder has another name than the constant in its body
abbrev pub apart : Tree
apart = Lam (codes "x") (Const 0) (App (Var 0) (App (Const 1) (Lam (codes "x") (Const 0) (Var 1))))

abbrev raw_apart : Written
raw_apart =
    Term 0
    (raw.Lam (codes "x_1") (Given (name 6 (codes "a"))) (Term 8 (raw.App (name 8 (codes "x_1")) (Argument
    (Term 13 (raw.App (name 13 (codes "x")) (Argument (Term 16 (raw.Lam (codes "_") (Given (name 20 (codes "a"))) (name 22 (codes "x_1")))) NoArgument)))
    NoArgument))))

two_names : IsReadBack apart
unfolding fit_name digits chars encode unicode_ident is_alike
two_names = record {
  raw = raw_apart;
  is_read = refl;
  term =
      Lam (codes "x_1") (Const 0) (App (Var 0) (App (Const 1) (Lam (codes "_") (Const 0) (Var 1))));
  is_found = refl;
  is_same = refl;
}

-- its nesting is the least room in which it is read
five_deep : nesting apart ≡ 5
five_deep = refl

room_for_five : term_at (term_text sample [] apart ++ codes " .") 0 195 ≡ Got raw_apart 27
unfolding fit_name digits chars encode unicode_ident
room_for_five = refl

room_for_four : term_at (term_text sample [] apart ++ codes " .") 0 196 ≡ Stops TooDeep 20
unfolding fit_name digits chars encode unicode_ident
room_for_four = refl

-- the names of the sample stand for its entries and universes
two_entries : named sample.entries (codes "x") ≡ Some (as_term 1 (Axiom (codes "x") (Const 0)))
two_entries = refl

two_universes : first_place sample.names (codes "v") ≡ Some 1
two_universes = refl
