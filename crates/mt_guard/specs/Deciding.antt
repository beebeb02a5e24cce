-- The guard of recursive functions as a test that computes.
use Rattle.std.specs.Prelude.{ℕ, zero, suc, ◌-◌, Bool, true, false, not, ◌&&◌, ◌||◌, nat_eq, nat_lt, if◌then◌else◌, List, [], ◌∷◌, Option, Some, None, slice_get}
use Rattle.mt_term.specs.Trees.{Tree, Trees, Arms, Bytes, Var, Sort, Prod, Lam, App, Const, Ind, Con, Match, Meta, End, Item, NoArm, Arm}
use Rattle.mt_term.specs.Declarations.{Constructor, Declaration, Inductive, Environment}
use Rattle.mt_term.specs.Substitution.{products}
use Rattle.mt_term.specs.Spines.{item_at}
use Rattle.mt_calculus.specs.Guard.{Mark, Place, Smaller, Other, others}
use Rattle.mt_positivity.specs.Deciding.{avoids, is_recursive}

abbrev pub is_smaller_mark : Option Mark → Bool
is_smaller_mark (Some Smaller) = true
is_smaller_mark _ = false

abbrev pub is_place_mark : Option Mark → Bool
is_place_mark (Some Place) = true
is_place_mark _ = false

-- whether a term is a smaller variable, or an application of one
abbrev pub is_smaller : List Mark → Tree → Bool
is_smaller ms (Var i) = is_smaller_mark (slice_get ms i)
is_smaller ms (App f a) = is_smaller ms f
is_smaller ms _ = false

-- whether a match on a term makes branch variables smaller
abbrev pub is_opened : List Mark → Tree → Bool
is_opened ms (Var i) = is_place_mark (slice_get ms i) || is_smaller_mark (slice_get ms i)
is_opened ms t = is_smaller ms t

-- the mark of a branch variable by the type of the constructor's argument
abbrev pub mark_by : Bool → Mark
mark_by b = if b then Smaller else Other

-- the marks of a branch's variables before others, by the rest of its constructor's type
abbrev pub marks : ℕ → ℕ → ℕ → ℕ → ℕ → Tree → List Bytes → List Mark → List Mark
marks e p indices l d C [] ms = ms
marks e p indices (suc l) d (Prod y A C) (x ∷ xs) ms = marks e p indices l d C (x ∷ xs) ms
marks e p indices zero d (Prod y A C) (x ∷ xs) ms = marks e p indices zero (suc d) C xs (mark_by (is_recursive e p indices d A) ∷ ms)
marks e p indices l d _ (x ∷ xs) ms = others xs (Other ∷ ms)

abbrev pub constructor_marks : ℕ → ℕ → Tree → Option Constructor → List Bytes → List Mark → List Mark
constructor_marks e p T None xs ms = others xs ms
constructor_marks e p T (Some c) xs ms = marks e p (products T - p) p zero c.ty xs ms

-- the marks in branch k of a match on an entry
abbrev pub entry_marks : ℕ → ℕ → Option Declaration → List Bytes → List Mark → List Mark
entry_marks e k (Some (Inductive x co p T cs l)) xs ms = constructor_marks e p T (slice_get cs k) xs ms
entry_marks e k _ xs ms = others xs ms

abbrev pub branch_marks : Environment → ℕ → ℕ → List Bytes → List Mark → List Mark
branch_marks E e k xs ms = entry_marks e k (slice_get E.entries e) xs ms

abbrev pub is_smaller_item : List Mark → Option Tree → Bool
is_smaller_item ms None = false
is_smaller_item ms (Some a) = is_smaller ms a

-- for the recursive function f of place r
module _ (E : Environment) (f r : ℕ) where
  abbrev mutual
    -- whether a term on further arguments, each of which is guarded, is guarded
    pub guards : List Mark → Tree → Trees → Bool
    guards ms (Var i) s = true
    guards ms (Sort u) s = true
    guards ms (Prod x A B) s = guards ms A End && guards (Other ∷ ms) B End
    guards ms (Lam x A b) s = guards ms A End && guards (Other ∷ ms) b End
    guards ms (App g a) s = guards ms g (Item a s) && guards ms a End
    guards ms (Const c) s = not (nat_eq c f) || is_smaller_item ms (item_at s r)
    guards ms (Ind e) s = true
    guards ms (Con e k) s = true
    guards ms (Match e R c bs) s = guards ms R End && guards ms c End && (if is_opened ms c then guards_branches e zero ms bs else guards_arms ms bs)
    guards ms (Meta n us) s = guards_all ms us

    pub guards_all : List Mark → Trees → Bool
    guards_all ms End = true
    guards_all ms (Item t s) = guards ms t End && guards_all ms s

    pub guards_arms : List Mark → Arms → Bool
    guards_arms ms NoArm = true
    guards_arms ms (Arm xs b bs) = guards (others xs ms) b End && guards_arms ms bs

    pub guards_branches : ℕ → ℕ → List Mark → Arms → Bool
    guards_branches e k ms NoArm = true
    guards_branches e k ms (Arm xs b bs) = guards (branch_marks E e k xs ms) b End && guards_branches e (suc k) ms bs

abbrev pub is_of_kind : Bool → Option Declaration → Bool
is_of_kind co (Some (Inductive x true p T cs l)) = co
is_of_kind co (Some (Inductive x false p T cs l)) = not co
is_of_kind co _ = false

-- whether a term is an inductive, or a coinductive, type on arguments
abbrev pub is_on_type : Environment → Bool → Tree → Bool
is_on_type E co (Ind e) = is_of_kind co (slice_get E.entries e)
is_on_type E co (App g a) = is_on_type E co g
is_on_type E co _ = false

-- whether the body of f is guarded under its binders, of which so many are left and so many passed
abbrev pub guards_under : Environment → ℕ → ℕ → ℕ → ℕ → List Mark → Tree → Bool
guards_under E f r zero j ms b = guards E f r ms b End
guards_under E f r (suc n) j ms (Lam x A b) =
    avoids f A
    && (if nat_eq j r then is_on_type E false A && guards_under E f r n (suc j) (Place ∷ ms) b
    else guards_under E f r n (suc j) (Other ∷ ms) b)
guards_under E f r (suc n) j ms _ = false

-- whether a recursive function, entry f with n binders and the recursive place r, is guarded
abbrev pub is_guarded : Environment → ℕ → ℕ → ℕ → Tree → Bool
is_guarded E f n r b = nat_lt r n && guards_under E f r n zero [] b
