-- Alike terms are convertible.
use Rattle.std.proofs.Common.{Bool, true, false, true≢false, ◌≡◌, ◌&&◌, List, [], ◌∷◌, length, eqb, eqb-true, refl, sym, ap, ap₂, subst}
use Rattle.mt_term.specs.declared.universes.Atom.{Atom}
use Rattle.mt_term.specs.declared.universes.UnivExpr.{UnivExpr}
use Rattle.mt_term.specs.declared.universes.Sort.{Sort as AnySort}
use Rattle.mt_term.specs.declared.universes.Sort.TheVariants.{Prop, Typ}
use Rattle.mt_term.specs.Trees.{Tree, Trees, Arms, Var, Sort, Prod, Lam, App, Const, Ind, Con, Match, Meta, End, Item, NoArm, Arm}
use Rattle.mt_term.specs.Declarations.{Environment}
use Rattle.mt_term.specs.Stores.{Store}
use Rattle.mt_term.specs.Alike.{alike, alike_all, alike_arms, same_sort, same_universe, same_atoms}
use Rattle.mt_calculus.specs.Conversion.{Conv, same, prods, lams, app_conv, matches, metas, ConvAll, ends, items, ConvArms, no_arms, arms}

pub never : {A : Type 0} → false ≡ true → A
never e = absurd (true≢false (sym e))

pub both : (a b : Bool) → (a && b) ≡ true → (a ≡ true) × (b ≡ true)
both true b e = (refl, e)
both false b e = never e

same_atoms_is : (s r : List Atom) → same_atoms s r ≡ true → s ≡ r
same_atoms_is [] [] e = refl
same_atoms_is [] (b ∷ r) e = never e
same_atoms_is (a ∷ s) [] e = never e
same_atoms_is (a ∷ s) (b ∷ r) e =
    let p = both (eqb a.name b.name && eqb a.offset b.offset) (same_atoms s r) e in
    let q = both (eqb a.name b.name) (eqb a.offset b.offset) p.0 in
    let n = eqb-true a.name b.name q.0 in
    let o = eqb-true a.offset b.offset q.1 in
    ap₂ ◌∷◌ (λ i. record { name = n i; offset = o i }) (same_atoms_is s r p.1)

same_universe_is : (u v : UnivExpr) → same_universe u v ≡ true → u ≡ v
same_universe_is u v e =
    let p = both (eqb u.base v.base) (same_atoms u.atoms v.atoms) e in
    let n = eqb-true u.base v.base p.0 in
    let o = same_atoms_is u.atoms v.atoms p.1 in
    λ i. record { base = n i; atoms = o i }

pub same_sort_is : (s r : AnySort) → same_sort s r ≡ true → s ≡ r
same_sort_is Prop Prop e = refl
same_sort_is Prop (Typ v) e = never e
same_sort_is (Typ u) Prop e = never e
same_sort_is (Typ u) (Typ v) e = ap Typ (same_universe_is u v e)

module _ (E : Environment) (S : Store) where
  mutual
    pub alike_conv : (t u : Tree) → alike t u ≡ true → Conv E S t u
    alike_conv (Var i) (Var j) e = subst (λ k. Conv E S (Var i) (Var k)) (eqb-true i j e) same
    alike_conv (Sort s) (Sort r) e = subst (λ k. Conv E S (Sort s) (Sort k)) (same_sort_is s r e) same
    alike_conv (Prod x a b) (Prod y c d) e = let p = both (alike a c) (alike b d) e in prods (alike_conv a c p.0) (alike_conv b d p.1)
    alike_conv (Lam x a b) (Lam y c d) e = let p = both (alike a c) (alike b d) e in lams (alike_conv a c p.0) (alike_conv b d p.1)
    alike_conv (App f a) (App g b) e = let p = both (alike f g) (alike a b) e in app_conv (alike_conv f g p.0) (alike_conv a b p.1)
    alike_conv (Const c) (Const d) e = subst (λ k. Conv E S (Const c) (Const k)) (eqb-true c d e) same
    alike_conv (Ind c) (Ind d) e = subst (λ k. Conv E S (Ind c) (Ind k)) (eqb-true c d e) same
    alike_conv (Con c k) (Con d j) e =
        let p = both (eqb c d) (eqb k j) e in
        subst (λ i. Conv E S (Con c k) (Con i j)) (eqb-true c d p.0) (subst (λ i. Conv E S (Con c k) (Con c i)) (eqb-true k j p.1) same)
    alike_conv (Match n r c bs) (Match m p d cs) e =
        let h = both (eqb n m && alike r p && alike c d) (alike_arms bs cs) e in
        let g = both (eqb n m && alike r p) (alike c d) h.0 in
        let k = both (eqb n m) (alike r p) g.0 in
        subst (λ i. Conv E S (Match n r c bs) (Match i p d cs)) (eqb-true n m k.0) (matches (alike_conv r p k.1) (alike_conv c d g.1) (alike_conv_arms bs cs h.1))
    alike_conv (Meta n s) (Meta m r) e =
        let p = both (eqb n m) (alike_all s r) e in
        subst (λ i. Conv E S (Meta n s) (Meta i r)) (eqb-true n m p.0) (metas (alike_conv_all s r p.1))
    alike_conv _ _ e = never e

    pub alike_conv_all : (s r : Trees) → alike_all s r ≡ true → ConvAll E S s r
    alike_conv_all End End e = ends
    alike_conv_all (Item t s) (Item u r) e = let p = both (alike t u) (alike_all s r) e in items (alike_conv t u p.0) (alike_conv_all s r p.1)
    alike_conv_all _ _ e = never e

    pub alike_conv_arms : (bs cs : Arms) → alike_arms bs cs ≡ true → ConvArms E S bs cs
    alike_conv_arms NoArm NoArm e = no_arms
    alike_conv_arms (Arm xs b bs) (Arm ys c cs) e =
        let p = both (eqb (length xs) (length ys) && alike b c) (alike_arms bs cs) e in
        let q = both (eqb (length xs) (length ys)) (alike b c) p.0 in
        arms (eqb-true (length xs) (length ys) q.0) (alike_conv b c q.1) (alike_conv_arms bs cs p.1)
    alike_conv_arms _ _ e = never e
