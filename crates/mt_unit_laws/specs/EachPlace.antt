-- The places that stand in a unit as it is written: each of them is in a set.
use Rattle.std.specs.Prelude.{◌≡◌, ℕ, List, [], ◌∷◌, Some}
use Rattle.std.specs.Str.{IsUtf8, IsCharBoundary}
use Rattle.mt_tactical.specs.Tacticals.{Sequence, Step, Choices, End, Item, Action, Skip}
use Rattle.mt_tactical.specs.Tacticals.{Semicolon, Dot, Branches, Focus, NoBranch, Branch}
use Rattle.mt_tactical.specs.declared.Pick.{Pick}
use Rattle.mt_tactical.specs.declared.Pick.TheVariants as pick
use Rattle.mt_tiny.specs.declared.Tiny.{Tiny}
use Rattle.mt_tiny.specs.declared.Tiny.TheVariants as tiny
use Rattle.mt_term_parser.specs.Readings.{Got}
use Rattle.mt_term_parser.specs.Written.{Written, Form, Domain, Arguments, Cases, Term}
use Rattle.mt_term_parser.specs.Written.{Lam, Prod, App, Match, Cast, Absent, Given}
use Rattle.mt_term_parser.specs.Written.{NoArgument, Argument, NoCase, Case}
use Rattle.mt_unit_parser.specs.WrittenUnits as written
use Rattle.mt_unit_parser.specs.WrittenUnits.{WrittenGroup, WrittenCon, WrittenType}
use Rattle.mt_unit_parser.specs.WrittenUnits.{WrittenFunction, WrittenEq, Deed, WrittenAction}
use Rattle.mt_unit_parser.specs.WrittenUnits.{WrittenKind, WrittenUnit}
use Rattle.mt_unit_parser.specs.Blocks.{unit}

-- each of a list is as a relation says
abbrev pub EachOf : {A : Type 0} → (A → Type 0) → List A → Type 0
EachOf Q [] = Unit {0}
EachOf Q (a ∷ rest) = Q a × EachOf Q rest

module _ (P : ℕ → Type 0) where
  -- ---- terms

  abbrev mutual
    -- the place of a term's first token, and those of its parts
    pub InTerm : Written → Type 0
    InTerm (Term at form) = P at × InForm form

    pub InForm : Form → Type 0
    InForm (Lam x A b) = InDomain A × InTerm b
    InForm (Prod x A B) = InTerm A × InTerm B
    InForm (App f args) = InTerm f × InArguments args
    InForm (Match c R cs) = InTerm c × InDomain R × InCases cs
    InForm (Cast t T) = InTerm t × InTerm T
    InForm _ = Unit {0}

    pub InDomain : Domain → Type 0
    InDomain Absent = Unit {0}
    InDomain (Given A) = InTerm A

    pub InArguments : Arguments → Type 0
    InArguments NoArgument = Unit {0}
    InArguments (Argument t args) = InTerm t × InArguments args

    pub InCases : Cases → Type 0
    InCases NoCase = Unit {0}
    InCases (Case x xs body cs) = InTerm body × InCases cs

  -- ---- commands

  abbrev pub InGroup : WrittenGroup → Type 0
  InGroup g = InTerm g.type

  -- the place of a constructor's name
  abbrev pub InCon : WrittenCon → Type 0
  InCon c = P c.at × InTerm c.type

  abbrev pub InType : WrittenType → Type 0
  InType t = InTerm t.arity × EachOf InCon t.cons

  abbrev pub InFunction : WrittenFunction → Type 0
  InFunction f = EachOf InGroup f.groups × InTerm f.type × InTerm f.body

  abbrev pub InEquation : WrittenEq → Type 0
  InEquation e = InTerm e.term

  -- ---- actions, signs and blocks

  abbrev pub InDeed : Deed → Type 0
  InDeed (written.Exact t) = InTerm t
  InDeed (written.Refine t) = InTerm t
  InDeed (written.Apply t) = InTerm t
  InDeed (written.Cut t) = InTerm t
  InDeed (written.Lapply t) = InTerm t
  InDeed (written.Change t) = InTerm t
  InDeed (written.Generalize t) = InTerm t
  InDeed (written.Cases t) = InTerm t
  InDeed (written.Elim t) = InTerm t
  InDeed _ = Unit {0}

  -- the place of an action's first token
  abbrev pub InAction : WrittenAction → Type 0
  InAction a = P a.start × InDeed a.deed

  abbrev pub InPick : Pick → Type 0
  InPick pick.Next = Unit {0}
  InPick (pick.Positions at ns) = P at
  InPick (pick.Rest at) = P at

  abbrev mutual
    pub InSequence : Sequence WrittenAction → Type 0
    InSequence End = Unit {0}
    InSequence (Item s more) = InStep s × InSequence more

    pub InStep : Step WrittenAction → Type 0
    InStep (Action at a) = P at × InAction a
    InStep (Skip at) = P at
    InStep (Semicolon at) = P at
    InStep (Dot at) = P at
    InStep (Branches cs close) = InChoices cs × P close
    InStep (Focus start ns dot at body close) = P start × P at × InSequence body × P close

    pub InChoices : Choices WrittenAction → Type 0
    InChoices NoBranch = Unit {0}
    InChoices (Branch at p body more) = P at × InPick p × InSequence body × InChoices more

  abbrev pub InTiny : Tiny WrittenAction → Type 0
  InTiny (tiny.Action a) = InAction a
  InTiny _ = Unit {0}

  -- ---- units

  abbrev pub InKind : WrittenKind → Type 0
  InKind (written.Axiom x T) = InTerm T
  InKind (written.Definition x T t) = InDomain T × InTerm t
  InKind (written.Inductive co gs ts) = EachOf InGroup gs × EachOf InType ts
  InKind (written.Recursive co fs) = EachOf InFunction fs
  InKind (written.Hint n xs es t u) =
      EachOf InGroup xs × EachOf InEquation es × InTerm t × InTerm u
  InKind (written.Theorem x T) = InTerm T
  InKind (written.Step s) = InTiny s
  InKind (written.Block s) = InSequence s
  InKind _ = Unit {0}

-- each place in a unit of a text is the bound of a character
abbrev pub EachPlaceLaw : Type 0
EachPlaceLaw = (text : List ℕ) (at : ℕ) (u : WrittenUnit) (end : ℕ) → IsUtf8 text →
    IsCharBoundary text at → unit text at ≡ Got (Some u) end → InKind (IsCharBoundary text) u.kind
