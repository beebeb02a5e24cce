-- The laws on declared entries, as statements.
use Rattle.std.specs.Prelude.{◌≡◌, ◌≤◌, ◌+◌, ℕ, zero, [], ◌∷◌, ◌++◌, length}
use Rattle.mt_term.specs.Declarations.{Declaration, Environment}
use Rattle.mt_term.specs.Naming.{naming}
use Rattle.mt_calculus.specs.SoundEnvironment.{with_entry, SoundEntry, SoundEnvironment}
use Rattle.mt_env.specs.Names.{Distinct}
use Rattle.mt_unit_parser.specs.WrittenUnits.{WrittenKind}
use Rattle.mt_decl.specs.Answers.{Answer, Made, Refused, Spent, Answering}
use Rattle.mt_decl.specs.Declaring.{declared_entry}

-- over a sound environment what a unit declares is a sound entry, and the environment with it is
-- sound
abbrev pub DeclaredLaw : Type 0
DeclaredLaw =
    (E : Environment)
    → SoundEnvironment E
    → (start : ℕ) (kind : WrittenKind) (d : Declaration) (n l : ℕ)
    → declared_entry E start kind n ≡ Made d l
    → SoundEntry E (length E.entries) d × SoundEnvironment (with_entry E d)

-- an answer with more left
abbrev pub with_more : {A : Type 0} → ℕ → Answer A → Answer A
with_more i (Made a left) = Made a (left + i)
with_more i (Refused r at left) = Refused r at (left + i)
with_more i Spent = Spent

-- what is left of the allowance, nothing where it is spent
abbrev pub rest : {A : Type 0} → Answer A → ℕ
rest (Made a left) = left
rest (Refused r at left) = left
rest Spent = zero

-- what is not spent at an allowance is the same at a greater one, with as much more left; and never
-- more is left than was given
abbrev pub GoesByAllowance : {A : Type 0} → Answering A → Type 0
GoesByAllowance m =
    ((n i : ℕ) → (m n ≡ Spent → ⊥) → m (n + i) ≡ with_more i (m n)) × ((n : ℕ) → rest (m n) ≤ n)

-- what a unit declares goes by its allowance
abbrev pub DeclaredAllowanceLaw : Type 0
DeclaredAllowanceLaw =
    (E : Environment) (start : ℕ) (kind : WrittenKind)
    → GoesByAllowance (declared_entry E start kind)

-- where no two entries or constructors of an environment have one name, none have with what a unit
-- declares
abbrev pub DeclaredNamesLaw : Type 0
DeclaredNamesLaw =
    (E : Environment) (start : ℕ) (kind : WrittenKind) (d : Declaration) (n l : ℕ)
    → declared_entry E start kind n ≡ Made d l
    → Distinct (naming E.entries)
    → Distinct (naming (E.entries ++ d ∷ []))
