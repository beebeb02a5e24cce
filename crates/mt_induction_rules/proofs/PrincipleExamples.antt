-- Induction principles of types.
use Rattle.std.specs.Prelude.{◌≡◌, refl, [], ◌∷◌, Some, codes}
use Rattle.mt_term.specs.Trees.{Var, Prod, Lam, Const, Ind, Con, Match, NoArm, Arm}
use Rattle.mt_induction_rules.specs.Principles.{principle}
use Rattle.mt_induction_rules.proofs.Samples.{◌·◌, ◌⟶◌, prop, type, nat, O, S, binder, made}
use Rattle.mt_induction_rules.proofs.Samples.{A, B, P, R, a, b, f, m, n, x, y, z}
use Rattle.mt_induction_rules.proofs.Samples.{nat_type, list_type, vector_type, equality_type}
use Rattle.mt_induction_rules.proofs.Samples.{conjunction_type}
use Rattle.mt_induction_rules.proofs.Samples.{existential_type, well_founded_type, order_type}
use Rattle.mt_induction_rules.proofs.Samples.{tree_type, false_type}
use Rattle.mt_induction_rules.proofs.Samples.{true_type, accessible_type, dependent_type, path_type}

-- the natural numbers
-- `∀P:nat → Prop.P O → (∀x:nat.P x → P (S x)) → ∀x:nat.P x`
naturals : principle 0 nat_type ≡ Some (made (codes "nat_ind")
    (binder P (Prod x nat prop)
    ∷ binder f (Var 0 · O)
    ∷ binder f (Prod x nat (Var 2 · Var 0 ⟶ Var 3 · (S · Var 1)))
    ∷ binder x nat
    ∷ [])
    (Var 3 · Var 0)
    (Match 0 (Lam x nat (Var 4 · Var 0)) (Var 0)
    (Arm [] (Var 2)
    (Arm (x ∷ []) (Var 2 · Var 0 · (Const 1 · Var 4 · Var 3 · Var 2 · Var 0)) NoArm))))
naturals = refl

-- lists
-- `∀A:Type[0].∀P:list A → Prop.P (nil A) → (∀x:A.∀x_1:list A.P x_1 → P (cons A x x_1)) → ∀x:list
-- A.P x`
lists : principle 2 list_type ≡ Some (made (codes "list_ind")
    (binder A (type 0)
    ∷ binder P (Prod x (Ind 2 · Var 0) prop)
    ∷ binder f (Var 0 · (Con 2 0 · Var 1))
    ∷ binder f
    (Prod x (Var 2)
    (Prod x (Ind 2 · Var 3) (Var 3 · Var 0 ⟶ Var 4 · (Con 2 1 · Var 5 · Var 2 · Var 1))))
    ∷ binder x (Ind 2 · Var 3)
    ∷ [])
    (Var 3 · Var 0)
    (Match 2 (Lam x (Ind 2 · Var 4) (Var 4 · Var 0)) (Var 0)
    (Arm [] (Var 2)
    (Arm (x ∷ x ∷ []) (Var 3 · Var 1 · Var 0 · (Const 3 · Var 6 · Var 5 · Var 4 · Var 3 · Var 0))
    NoArm))))
lists = refl

-- vectors
-- `∀A:Type[0].∀P:∀x:nat.vec A x → Prop.P O (vnil A) → (∀n:nat.∀x:A.∀x_1:vec A n.P n x_1 → P (S n)
-- (vcons A n x x_1)) → ∀x:nat.∀x_1:vec A x.P x x_1`
vectors : principle 2 vector_type ≡ Some (made (codes "vec_ind")
    (binder A (type 0)
    ∷ binder P (Prod x nat (Prod x (Ind 2 · Var 1 · Var 0) prop))
    ∷ binder f (Var 0 · O · (Con 2 0 · Var 1))
    ∷ binder f
    (Prod n nat
    (Prod x (Var 3)
    (Prod x (Ind 2 · Var 4 · Var 1)
    (Var 4 · Var 2 · Var 0 ⟶ Var 5 · (S · Var 3) · (Con 2 1 · Var 6 · Var 3 · Var 2 · Var 1)))))
    ∷ binder x nat
    ∷ binder x (Ind 2 · Var 4 · Var 0)
    ∷ [])
    (Var 4 · Var 1 · Var 0)
    (Match 2 (Lam x nat (Lam x (Ind 2 · Var 6 · Var 0) (Var 6 · Var 1 · Var 0))) (Var 0)
    (Arm [] (Var 3)
    (Arm (n ∷ x ∷ x ∷ [])
    (Var 5 · Var 2 · Var 1 · Var 0 · (Const 3 · Var 8 · Var 7 · Var 6 · Var 5 · Var 2 · Var 0))
    NoArm))))
vectors = refl

-- equality
-- `∀A:Type[0].∀x:A.∀P:∀x_1:A.eq A x x_1 → Prop.P x (refl A x) → ∀x_1:A.∀x_2:eq A x x_1.P x_1 x_2`
equality : principle 2 equality_type ≡ Some (made (codes "eq_ind")
    (binder A (type 0)
    ∷ binder x (Var 0)
    ∷ binder P (Prod x (Var 1) (Prod x (Ind 2 · Var 2 · Var 1 · Var 0) prop))
    ∷ binder f (Var 0 · Var 1 · (Con 2 0 · Var 2 · Var 1))
    ∷ binder x (Var 3)
    ∷ binder x (Ind 2 · Var 4 · Var 3 · Var 0)
    ∷ [])
    (Var 3 · Var 1 · Var 0)
    (Match 2 (Lam x (Var 5) (Lam x (Ind 2 · Var 6 · Var 5 · Var 0) (Var 5 · Var 1 · Var 0))) (Var 0)
    (Arm [] (Var 2) NoArm)))
equality = refl

-- conjunction
-- `∀A:Prop.∀B:Prop.∀P:and A B → Prop.(∀x:A.∀x_1:B.P (conj A B x x_1)) → ∀x:and A B.P x`
conjunction : principle 2 conjunction_type ≡ Some (made (codes "and_ind")
    (binder A prop
    ∷ binder B prop
    ∷ binder P (Prod x (Ind 2 · Var 1 · Var 0) prop)
    ∷ binder f (Prod x (Var 2) (Prod x (Var 2) (Var 2 · (Con 2 0 · Var 4 · Var 3 · Var 1 · Var 0))))
    ∷ binder x (Ind 2 · Var 3 · Var 2)
    ∷ [])
    (Var 2 · Var 0)
    (Match 2 (Lam x (Ind 2 · Var 4 · Var 3) (Var 3 · Var 0)) (Var 0)
    (Arm (x ∷ x ∷ []) (Var 3 · Var 1 · Var 0) NoArm)))
conjunction = refl

-- the existential
-- `∀A:Type[0].∀B:A → Prop.∀P:ex A B → Prop.(∀x:A.∀x_1:B x.P (witness A B x x_1)) → ∀x:ex A B.P x`
existential : principle 2 existential_type ≡ Some (made (codes "ex_ind")
    (binder A (type 0)
    ∷ binder B (Var 0 ⟶ prop)
    ∷ binder P (Prod x (Ind 2 · Var 1 · Var 0) prop)
    ∷ binder f
    (Prod x (Var 2) (Prod x (Var 2 · Var 0) (Var 2 · (Con 2 0 · Var 4 · Var 3 · Var 1 · Var 0))))
    ∷ binder x (Ind 2 · Var 3 · Var 2)
    ∷ [])
    (Var 2 · Var 0)
    (Match 2 (Lam x (Ind 2 · Var 4 · Var 3) (Var 3 · Var 0)) (Var 0)
    (Arm (x ∷ x ∷ []) (Var 3 · Var 1 · Var 0) NoArm)))
existential = refl

-- well-founded trees
-- `∀A:Type[0].∀B:A → Type[0].∀P:W A B → Prop.(∀a:A.∀x:B a → W A B.(∀x_1:B a.P (x x_1)) → P (sup A B
-- a x)) → ∀x:W A B.P x`
well_founded : principle 2 well_founded_type ≡ Some (made (codes "W_ind")
    (binder A (type 0)
    ∷ binder B (Var 0 ⟶ type 0)
    ∷ binder P (Prod x (Ind 2 · Var 1 · Var 0) prop)
    ∷ binder f
    (Prod a (Var 2)
    (Prod x (Var 2 · Var 0 ⟶ Ind 2 · Var 4 · Var 3)
    (Prod x (Var 3 · Var 1) (Var 3 · (Var 1 · Var 0))
    ⟶ Var 3 · (Con 2 0 · Var 5 · Var 4 · Var 2 · Var 1))))
    ∷ binder x (Ind 2 · Var 3 · Var 2)
    ∷ [])
    (Var 2 · Var 0)
    (Match 2 (Lam x (Ind 2 · Var 4 · Var 3) (Var 3 · Var 0)) (Var 0)
    (Arm (a ∷ x ∷ [])
    (Var 3 · Var 1 · Var 0 · Lam x (Var 5 · Var 1)
    (Const 3 · Var 7 · Var 6 · Var 5 · Var 4 · (Var 1 · Var 0))) NoArm)))
well_founded = refl

-- the order of the naturals
-- `∀n:nat.∀P:∀x:nat.le n x → Prop.P n (le_n n) → (∀m:nat.∀x:le n m.P m x → P (S m) (le_S n m x)) →
-- ∀x:nat.∀x_1:le n x.P x x_1`
order : principle 2 order_type ≡ Some (made (codes "le_ind")
    (binder n nat
    ∷ binder P (Prod x nat (Prod x (Ind 2 · Var 1 · Var 0) prop))
    ∷ binder f (Var 0 · Var 1 · (Con 2 0 · Var 1))
    ∷ binder f
    (Prod m nat
    (Prod x (Ind 2 · Var 3 · Var 0)
    (Var 3 · Var 1 · Var 0 ⟶ Var 4 · (S · Var 2) · (Con 2 1 · Var 5 · Var 2 · Var 1))))
    ∷ binder x nat
    ∷ binder x (Ind 2 · Var 4 · Var 0)
    ∷ [])
    (Var 4 · Var 1 · Var 0)
    (Match 2 (Lam x nat (Lam x (Ind 2 · Var 6 · Var 0) (Var 6 · Var 1 · Var 0))) (Var 0)
    (Arm [] (Var 3)
    (Arm (m ∷ x ∷ [])
    (Var 4 · Var 1 · Var 0 · (Const 3 · Var 7 · Var 6 · Var 5 · Var 4 · Var 1 · Var 0)) NoArm))))
order = refl

-- trees, with an argument that is a tree and one that is a function to trees
-- `∀P:tree → Prop.P leaf → (∀x:tree.P x → ∀x_1:nat → tree.(∀x_2:nat.P (x_1 x_2)) → P (node x x_1))
-- → ∀x:tree.P x`
branching : principle 2 tree_type ≡ Some (made (codes "tree_ind")
    (binder P (Prod x (Ind 2) prop)
    ∷ binder f (Var 0 · Con 2 0)
    ∷ binder f
    (Prod x (Ind 2)
    (Var 2 · Var 0
    ⟶ Prod x (nat ⟶ Ind 2)
    (Prod x nat (Var 5 · (Var 1 · Var 0)) ⟶ Var 5 · (Con 2 1 · Var 3 · Var 1))))
    ∷ binder x (Ind 2)
    ∷ [])
    (Var 3 · Var 0)
    (Match 2 (Lam x (Ind 2) (Var 4 · Var 0)) (Var 0)
    (Arm [] (Var 2)
    (Arm (x ∷ x ∷ [])
    (Var 3 · Var 1 · (Const 3 · Var 5 · Var 4 · Var 3 · Var 1) · Var 0
    · Lam x nat (Const 3 · Var 6 · Var 5 · Var 4 · (Var 1 · Var 0))) NoArm))))
branching = refl

-- the empty type
-- `∀P:False → Prop.∀x:False.P x`
falsity : principle 2 false_type ≡ Some (made (codes "False_ind")
    (binder P (Prod x (Ind 2) prop)
    ∷ binder x (Ind 2)
    ∷ [])
    (Var 1 · Var 0)
    (Match 2 (Lam x (Ind 2) (Var 2 · Var 0)) (Var 0) NoArm))
falsity = refl

-- the unit type
-- `∀P:True → Prop.P I → ∀x:True.P x`
truth : principle 2 true_type ≡ Some (made (codes "True_ind")
    (binder P (Prod x (Ind 2) prop)
    ∷ binder f (Var 0 · Con 2 0)
    ∷ binder x (Ind 2)
    ∷ [])
    (Var 2 · Var 0)
    (Match 2 (Lam x (Ind 2) (Var 3 · Var 0)) (Var 0) (Arm [] (Var 1) NoArm)))
truth = refl

-- accessibility, whose hypothesis is over two binders
-- `∀A:Type[0].∀R:A → A → Prop.∀P:∀x:A.acc A R x → Prop.(∀x:A.∀x_1:∀y:A.R y x → acc A R
-- y.(∀y:A.∀x_2:R y x.P y (x_1 y x_2)) → P x (acc_in A R x x_1)) → ∀x:A.∀x_1:acc A R x.P x x_1`
accessible : principle 2 accessible_type ≡ Some (made (codes "acc_ind")
    (binder A (type 0)
    ∷ binder R (Var 0 ⟶ Var 1 ⟶ prop)
    ∷ binder P (Prod x (Var 1) (Prod x (Ind 2 · Var 2 · Var 1 · Var 0) prop))
    ∷ binder f
    (Prod x (Var 2)
    (Prod x (Prod y (Var 3) (Var 3 · Var 0 · Var 1 ⟶ Ind 2 · Var 5 · Var 4 · Var 1))
    (Prod y (Var 4) (Prod x (Var 4 · Var 0 · Var 2) (Var 4 · Var 1 · (Var 2 · Var 1 · Var 0)))
    ⟶ Var 3 · Var 2 · (Con 2 0 · Var 5 · Var 4 · Var 2 · Var 1))))
    ∷ binder x (Var 3)
    ∷ binder x (Ind 2 · Var 4 · Var 3 · Var 0)
    ∷ [])
    (Var 3 · Var 1 · Var 0)
    (Match 2 (Lam x (Var 5) (Lam x (Ind 2 · Var 6 · Var 5 · Var 0) (Var 5 · Var 1 · Var 0))) (Var 0)
    (Arm (x ∷ x ∷ [])
    (Var 4 · Var 1 · Var 0
    · Lam y (Var 7)
    (Lam x (Var 7 · Var 0 · Var 2)
    (Const 3 · Var 9 · Var 8 · Var 7 · Var 6 · Var 1 · (Var 2 · Var 1 · Var 0)))) NoArm)))
accessible = refl

-- an index that depends on another, both over parameters
-- `∀A:Type[0].∀B:A → Type[0].∀P:∀a:A.∀x:B a.at A B a x → Prop.(∀a:A.∀b:B a.P a b (here A B a b)) →
-- ∀a:A.∀x:B a.∀x_1:at A B a x.P a x x_1`
dependent : principle 2 dependent_type ≡ Some (made (codes "at_ind")
    (binder A (type 0)
    ∷ binder B (Var 0 ⟶ type 0)
    ∷ binder P
    (Prod a (Var 1) (Prod x (Var 1 · Var 0) (Prod x (Ind 2 · Var 3 · Var 2 · Var 1 · Var 0) prop)))
    ∷ binder f
    (Prod a (Var 2)
    (Prod b (Var 2 · Var 0) (Var 2 · Var 1 · Var 0 · (Con 2 0 · Var 4 · Var 3 · Var 1 · Var 0))))
    ∷ binder a (Var 3)
    ∷ binder x (Var 3 · Var 0)
    ∷ binder x (Ind 2 · Var 5 · Var 4 · Var 1 · Var 0)
    ∷ [])
    (Var 4 · Var 2 · Var 1 · Var 0)
    (Match 2
    (Lam a (Var 6)
    (Lam x (Var 6 · Var 0)
    (Lam x (Ind 2 · Var 8 · Var 7 · Var 1 · Var 0) (Var 7 · Var 2 · Var 1 · Var 0))))
    (Var 0)
    (Arm (a ∷ b ∷ []) (Var 5 · Var 1 · Var 0) NoArm)))
dependent = refl

-- paths, with two indices
-- `∀A:Type[0].∀R:A → A → Prop.∀P:∀x:A.∀x_1:A.path A R x x_1 → Prop.(∀x:A.P x x (stop A R x)) →
-- (∀x:A.∀y:A.∀z:A.∀x_1:R x y.∀x_2:path A R y z.P y z x_2 → P x z (step A R x y z x_1 x_2)) →
-- ∀x:A.∀x_1:A.∀x_2:path A R x x_1.P x x_1 x_2`
paths : principle 2 path_type ≡ Some (made (codes "path_ind")
    (binder A (type 0)
    ∷ binder R (Var 0 ⟶ Var 1 ⟶ prop)
    ∷ binder P
    (Prod x (Var 1) (Prod x (Var 2) (Prod x (Ind 2 · Var 3 · Var 2 · Var 1 · Var 0) prop)))
    ∷ binder f (Prod x (Var 2) (Var 1 · Var 0 · Var 0 · (Con 2 0 · Var 3 · Var 2 · Var 0)))
    ∷ binder f
    (Prod x (Var 3)
    (Prod y (Var 4)
    (Prod z (Var 5)
    (Prod x (Var 5 · Var 2 · Var 1)
    (Prod x (Ind 2 · Var 7 · Var 6 · Var 2 · Var 1)
    (Var 6 · Var 3 · Var 2 · Var 0
    ⟶ Var 7 · Var 5 · Var
    3 · (Con 2 1 · Var 9 · Var 8 · Var 5 · Var 4 · Var 3 · Var 2 · Var 1)))))))
    ∷ binder x (Var 4)
    ∷ binder x (Var 5)
    ∷ binder x (Ind 2 · Var 6 · Var 5 · Var 1 · Var 0)
    ∷ [])
    (Var 5 · Var 2 · Var 1 · Var 0)
    (Match 2
    (Lam x (Var 7)
    (Lam x (Var 8) (Lam x (Ind 2 · Var 9 · Var 8 · Var 1 · Var 0) (Var 8 · Var 2 · Var 1 · Var 0))))
    (Var 0)
    (Arm (x ∷ []) (Var 5 · Var 0)
    (Arm (x ∷ y ∷ z ∷ x ∷ x ∷ [])
    (Var 8 · Var 4 · Var 3 · Var 2 · Var 1 · Var 0
    · (Const 3 · Var 12 · Var 11 · Var 10 · Var 9 · Var 8 · Var 3 · Var 2 · Var 0)) NoArm))))
paths = refl
