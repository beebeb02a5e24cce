-- The laws over derivations, as statements.
use Rattle.std.specs.Prelude.{◌≡◌, ℕ, zero, suc, Bool, List, [], ◌∷◌, ◌++◌, length}
use Rattle.std.specs.Prelude.{Some, None, slice_get}
use Rattle.mt_term.specs.declared.universes.UnivExpr.{UnivExpr}
use Rattle.mt_term.specs.Universes.{IsAtMost}
use Rattle.mt_term.specs.Trees.{Tree, Trees, Var, Meta}
use Rattle.mt_term.specs.Substitution.{ups, tr, tr_all, tr_arms, fill, beyond, under, one}
use Rattle.mt_term.specs.Lifting.{lift, raise, put, substitute}
use Rattle.mt_term.specs.Declarations.{Declaration, Environment}
use Rattle.mt_term.specs.Stores.{Declared, Store, Owned, AllMetas, InStore}
use Rattle.mt_term.specs.StoreChanges.{Extends}
use Rattle.mt_calculus.specs.Typing.{Judgement, IsContext, IsType, Has, Stands, Fitting, Body}
use Rattle.mt_calculus.specs.Typing.{Look, Insert, ins, ren_judgement, Holds, Strict}
use Rattle.mt_calculus.specs.Scopes.{PlainContext, PlainJudgement}
use Rattle.mt_calculus.specs.SoundEnvironment.{SoundEnvironment}

-- a judgement with its variables and metavariables transformed
abbrev pub tr_judgement : (ℕ → Trees → Tree) → (ℕ → Tree) → Judgement → Judgement
tr_judgement f σ IsContext = IsContext
tr_judgement f σ (IsType T) = IsType (tr f σ T)
tr_judgement f σ (Has t T) = Has (tr f σ t) (tr f σ T)
tr_judgement f σ (Stands t) = Stands (tr f σ t)
tr_judgement f σ (Fitting e R ps k bs) = Fitting e (tr f σ R) (tr_all f σ ps) k (tr_arms f σ bs)
tr_judgement f σ (Body e p R c T xs b) =
    Body e p (tr f σ R) (tr f σ c) (tr f σ T) xs (tr f (ups xs σ) b)

-- each hypothesis's type transformed, as it stands under the ones before it
abbrev pub tr_context : (ℕ → Trees → Tree) → List Tree → List Tree
tr_context f [] = []
tr_context f (A ∷ Γ) = tr f Var A ∷ tr_context f Γ

-- the context of a judgement is a context
abbrev pub ContextLaw : Type 0
ContextLaw =
    (E : Environment) (w : Bool) (S : Store) (Γ : List Tree) (J : Judgement)
    → Holds E w S Γ J
    → Holds E w S Γ IsContext

-- weakening: with a hypothesis put in at any place, which is a type there, a judgement holds
abbrev pub WeakeningLaw : Type 0
WeakeningLaw =
    (E : Environment)
    → SoundEnvironment E
    → (w : Bool) (S : Store)
    → Owned S
    → (A : Tree) (Δ : List Tree) (k : ℕ) (Γ Γ' : List Tree) (J : Judgement)
    → Insert A Δ k Γ Γ'
    → Holds E w S Δ (IsType A)
    → Holds E w S Γ J
    → Holds E w S Γ' (ren_judgement (ins k) J)

-- substitution: each judgement in a context holds in another under terms that have there the types
-- of its hypotheses under the earlier terms
abbrev pub SubstitutionLaw : Type 0
SubstitutionLaw =
    (E : Environment)
    → SoundEnvironment E
    → (w : Bool) (S : Store)
    → Owned S
    → (Γ Δ : List Tree) (s : Trees) (J : Judgement)
    → Holds E w S Δ IsContext
    → ((i : ℕ) (T : Tree) → Look Γ i T → Holds E w S Δ (Has (fill s beyond i) (under s T)))
    → Holds E w S Γ J
    → Holds E w S Δ (tr_judgement Meta (fill s beyond) J)

-- substitution of one term for the innermost hypothesis
abbrev pub OneTermLaw : Type 0
OneTermLaw =
    (E : Environment)
    → SoundEnvironment E
    → (w : Bool) (S : Store)
    → Owned S
    → (Γ : List Tree) (A a : Tree) (J : Judgement)
    → Holds E w S Γ (Has a A)
    → Holds E w S (A ∷ Γ) J
    → Holds E w S Γ (tr_judgement Meta (one a) J)

-- growth: a judgement holds over an environment with the same entries and further ones, whose
-- constraints give at least the same order
abbrev pub GrowthLaw : Type 0
GrowthLaw =
    (E E' : Environment)
    → ((c : ℕ) (d : Declaration)
    → slice_get (E.entries) c ≡ Some d
    → slice_get (E'.entries) c ≡ Some d)
    → ((U V : UnivExpr) → IsAtMost (E.below) U V → IsAtMost (E'.below) U V)
    → (w : Bool) (S : Store) (Γ : List Tree) (J : Judgement) → Holds E w S Γ J → Holds E' w S Γ J

-- a strict judgement holds over any store, dropping allowed or not
abbrev pub StrictLaw : Type 0
StrictLaw =
    (E : Environment)
    → SoundEnvironment E
    → (w : Bool) (S : Store) (Γ : List Tree) (J : Judgement)
    → Strict E Γ J
    → Holds E w S Γ J

-- a strict judgement speaks of its context's variables alone, and of no metavariable
abbrev pub ScopeLaw : Type 0
ScopeLaw =
    (E : Environment)
    → SoundEnvironment E
    → (Γ : List Tree) (J : Judgement)
    → Strict E Γ J
    → PlainContext Γ × PlainJudgement Γ J

-- a judgement holds over a store that extends its own
abbrev pub ExtensionLaw : Type 0
ExtensionLaw =
    (E : Environment)
    → SoundEnvironment E
    → (w : Bool) (S S' : Store)
    → Owned S
    → Extends S S'
    → (Γ : List Tree) (J : Judgement)
    → Holds E w S Γ J
    → Holds E w S' Γ J

-- metavariables under new numbers
abbrev pub renumbered : (ℕ → ℕ) → ℕ → Trees → Tree
renumbered μ n s = Meta (μ n) s

-- a term with its metavariables under new numbers
abbrev pub renumber : (ℕ → ℕ) → Tree → Tree
renumber μ t = tr (renumbered μ) Var t

-- a metavariable has, with new numbers, the context and type of another, and its body where it has
-- one
pub record Renumbered (μ : ℕ → ℕ) (d c : Declared) : Type 0 where
  pub context : c.context ≡ tr_context (renumbered μ) (d.context)
  pub ty : c.ty ≡ renumber μ (d.ty)
  pub body : (b : Tree) → d.body ≡ Some b → c.body ≡ Some (renumber μ b)

-- new numbers: a judgement holds, with these, over a store that has each metavariable of its own
-- store under its new number
abbrev pub RenumberingLaw : Type 0
RenumberingLaw =
    (E : Environment)
    → SoundEnvironment E
    → (w : Bool) (S S' : Store)
    → Owned S
    → (μ : ℕ → ℕ)
    → ((n : ℕ) (d : Declared)
    → S.at n ≡ Some d
    → (c : Declared) × (S'.at (μ n) ≡ Some c) × Renumbered μ d c)
    → (Γ : List Tree) (J : Judgement)
    → Holds E w S Γ J
    → Holds E w S' (tr_context (renumbered μ) Γ) (tr_judgement (renumbered μ) Var J)

-- a context is another with `by` further hypotheses at a place; the older ones are Δ
pub data Lifted (by : ℕ) (Δ : List Tree) : ℕ → List Tree → List Tree → Type 0 where
  lifted_here : (Θ : List Tree) → length Θ ≡ by → Lifted by Δ zero Δ (Θ ++ Δ)
  lifted_past : {k : ℕ} {B : Tree} {Γ Γ' : List Tree}
      → Lifted by Δ k Γ Γ'
      → Lifted by Δ (suc k) (B ∷ Γ) (lift by k B ∷ Γ')

-- lifting: a judgement holds, lifted, in each context that is its own with further hypotheses at a
-- place
abbrev pub LiftLaw : Type 0
LiftLaw =
    (E : Environment)
    → SoundEnvironment E
    → (w : Bool) (S : Store)
    → Owned S
    → (by at : ℕ) (Δ Γ Γ' : List Tree) (J : Judgement)
    → Lifted by Δ at Γ Γ'
    → Holds E w S Γ' IsContext
    → Holds E w S Γ J
    → Holds E w S Γ' (ren_judgement (raise by at) J)

-- a context without the hypothesis A at a place, and with u for it in the later ones; the older
-- ones are Δ
pub data Replaced (A u : Tree) (Δ : List Tree) : ℕ → List Tree → List Tree → Type 0 where
  replaced_here : Replaced A u Δ zero (A ∷ Δ) Δ
  replaced_past : {k : ℕ} {B : Tree} {Γ Γ' : List Tree}
      → Replaced A u Δ k Γ Γ'
      → Replaced A u Δ (suc k) (B ∷ Γ) (substitute k u B ∷ Γ')

-- replacement: a judgement holds with a term for a hypothesis at any place, whose type the term has
-- under the hypotheses before it
abbrev pub ReplacementLaw : Type 0
ReplacementLaw =
    (E : Environment)
    → SoundEnvironment E
    → (w : Bool) (S : Store)
    → Owned S
    → (A u : Tree) (at : ℕ) (Δ Γ Γ' : List Tree) (J : Judgement)
    → Replaced A u Δ at Γ Γ'
    → Holds E w S Δ (Has u A)
    → Holds E w S Γ J
    → Holds E w S Γ' (tr_judgement Meta (put at u) J)

-- what an open metavariable is exchanged for: another number, or a term
pub data Exchanged : Type 0 where
  by_number : ℕ → Exchanged
  by_term : Tree → Exchanged

abbrev pub exchanged_on : Exchanged → Trees → Tree
exchanged_on (by_number m) s = Meta m s
exchanged_on (by_term u) s = under s u

-- a metavariable on its terms: under its new number, or the term under them
abbrev pub exchanged : (ℕ → Exchanged) → ℕ → Trees → Tree
exchanged μ n s = exchanged_on (μ n) s

-- metavariable d may be exchanged: a second store holds the images of its context and its type
-- under the number; or the term has there the image of its type in the image of its context
abbrev pub ExchangedBy : Environment → Bool → Store → (ℕ → Trees → Tree) → Declared → Exchanged
    → Type 0
ExchangedBy E w S f d (by_number m) =
    (c : Declared) × (S.at m ≡ Some c) × (c.context ≡ tr_context f (d.context))
    × (c.ty ≡ tr f Var (d.ty))
ExchangedBy E w S f d (by_term u) =
    Holds E w S (tr_context f (d.context)) (Has u (tr f Var (d.ty))) × AllMetas (InStore S) u

-- exchange: the image of each judgement over a store of open metavariables holds over the second
-- store
abbrev pub ExchangeLaw : Type 0
ExchangeLaw =
    (E : Environment)
    → SoundEnvironment E
    → (w : Bool) (S S' : Store)
    → Owned S
    → Owned S'
    → ((n : ℕ) (d : Declared) → S.at n ≡ Some d → d.body ≡ None)
    → (μ : ℕ → Exchanged)
    → ((n : ℕ) (d : Declared) → S.at n ≡ Some d → ExchangedBy E w S' (exchanged μ) d (μ n))
    → (Γ : List Tree) (J : Judgement)
    → Holds E w S Γ J
    → Holds E w S' (tr_context (exchanged μ) Γ) (tr_judgement (exchanged μ) Var J)
