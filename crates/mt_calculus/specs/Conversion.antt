-- Conversion, written t ≈ u, the least equivalence of terms and reducts and of alike terms; and the
-- order of types, written T ≤ U. Both over an environment E and a store S.
use Rattle.std.specs.Prelude.{◌≡◌, ℕ, List, length}
use Rattle.mt_term.specs.Trees.{Tree, Trees, Arms, Bytes, Sort, Prod, Lam, App, Match, Meta}
use Rattle.mt_term.specs.Trees.{End, Item, NoArm, Arm}
use Rattle.mt_term.specs.declared.universes.Sort.{Sort as AnySort}
use Rattle.mt_term.specs.declared.universes.Sort.TheVariants.{Prop, Typ}
use Rattle.mt_term.specs.declared.universes.UnivExpr.{UnivExpr}
use Rattle.mt_term.specs.Declarations.{Environment}
use Rattle.mt_term.specs.Universes.{IsAtMost}
use Rattle.mt_term.specs.Stores.{Store}
use Rattle.mt_calculus.specs.Contraction.{Contracts}

mutual
  -- conversion
  pub data Conv (E : Environment) (S : Store) : Tree → Tree → Type 0 where
    -- an equivalence of terms and their reducts
    same : {t : Tree} → Conv E S t t
    back : {t u : Tree} → Conv E S t u → Conv E S u t
    chain : {t u v : Tree} → Conv E S t u → Conv E S u v → Conv E S t v
    reduct : {t u : Tree} → Contracts E S t u → Conv E S t u
    -- Type U ≈ Type V where U ≤ V and V ≤ U under the constraints
    sorts : {U V : UnivExpr}
        → IsAtMost (E.below) U V → IsAtMost (E.below) V U
        → Conv E S (Sort (Typ U)) (Sort (Typ V))
    -- Part by part. The two sides may have different names, so alike terms are convertible.
    prods : {x y : Bytes} {A A' B B' : Tree}
        → Conv E S A A' → Conv E S B B'
        → Conv E S (Prod x A B) (Prod y A' B')
    lams : {x y : Bytes} {A A' b b' : Tree}
        → Conv E S A A' → Conv E S b b'
        → Conv E S (Lam x A b) (Lam y A' b')
    app_conv : {f f' a a' : Tree}
        → Conv E S f f' → Conv E S a a'
        → Conv E S (App f a) (App f' a')
    matches : {e : ℕ} {R R' c c' : Tree} {bs bs' : Arms}
        → Conv E S R R' → Conv E S c c' → ConvArms E S bs bs'
        → Conv E S (Match e R c bs) (Match e R' c' bs')
    metas : {n : ℕ} {s s' : Trees} → ConvAll E S s s' → Conv E S (Meta n s) (Meta n s')

  -- term by term
  pub data ConvAll (E : Environment) (S : Store) : Trees → Trees → Type 0 where
    ends : ConvAll E S End End
    items : {t t' : Tree} {s s' : Trees}
        → Conv E S t t' → ConvAll E S s s'
        → ConvAll E S (Item t s) (Item t' s')

  -- branch by branch, each with as many names
  pub data ConvArms (E : Environment) (S : Store) : Arms → Arms → Type 0 where
    no_arms : ConvArms E S NoArm NoArm
    arms : {xs ys : List Bytes} {b b' : Tree} {bs bs' : Arms}
        → length xs ≡ length ys → Conv E S b b' → ConvArms E S bs bs'
        → ConvArms E S (Arm xs b bs) (Arm ys b' bs')

-- The order of types: the least preorder with
--
--       T ≈ U                        U ≤ V under the constraints               B ≤ B'
--     ───────     ────────────      ───────────────────────────     ──────────────────────────
--      T ≤ U       Prop ≤ s              Type U ≤ Type V             Π x : A. B ≤ Π x : A. B'
pub data AtMost (E : Environment) (S : Store) : Tree → Tree → Type 0 where
  conv : {T U : Tree} → Conv E S T U → AtMost E S T U
  on : {T U V : Tree} → AtMost E S T U → AtMost E S U V → AtMost E S T V
  prop : {s : AnySort} → AtMost E S (Sort Prop) (Sort s)
  typ : {U V : UnivExpr} → IsAtMost (E.below) U V → AtMost E S (Sort (Typ U)) (Sort (Typ V))
  cod : {x : Bytes} {A B B' : Tree} → AtMost E S B B' → AtMost E S (Prod x A B) (Prod x A B')
