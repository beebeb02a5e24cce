-- Branches, arguments, types at arguments and types of motives under a transformation.
use Rattle.std.proofs.Common.{◌≡◌, ℕ, zero, suc, List, subst}
use Rattle.mt_term.proofs.Subst.{Steady, tr_one, up_tr}
use Rattle.mt_term.specs.Trees.{Tree, Trees, Arms, Bytes, Var, App}
use Rattle.mt_term.specs.Substitution.{up, ups, tr, tr_all, tr_arms}
use Rattle.mt_calculus.specs.Contraction.{ArmAt, arm_here, arm_later, ItemAt, item_here, item_later}
use Rattle.mt_calculus.specs.Typing.{Instantiated, at_none, at_more, MotiveType, m_end, m_more}
use Rattle.mt_term.specs.declared.universes.Sort.{Sort as AnySort}

pub arm_at_tr : (f : ℕ → Trees → Tree) (σ : ℕ → Tree) {bs : Arms} {k : ℕ} {xs : List Bytes} {b : Tree} → ArmAt bs k xs b → ArmAt (tr_arms f σ bs) k xs (tr f (ups xs σ) b)
arm_at_tr f σ arm_here = arm_here
arm_at_tr f σ (arm_later a) = arm_later (arm_at_tr f σ a)

pub item_at_tr : (f : ℕ → Trees → Tree) (σ : ℕ → Tree) {a : Tree} {s : Trees} {r : ℕ} → ItemAt a s r → ItemAt (tr f σ a) (tr_all f σ s) r
item_at_tr f σ item_here = item_here
item_at_tr f σ (item_later i) = item_later (item_at_tr f σ i)

pub instantiated_tr : (f : ℕ → Trees → Tree) → Steady f → (σ : ℕ → Tree) {T : Tree} {s : Trees} {U : Tree} → Instantiated T s U → Instantiated (tr f σ T) (tr_all f σ s) (tr f σ U)
instantiated_tr f st σ at_none = at_none
instantiated_tr f st σ (at_more {B = B} {a = a} {T = U} {s = s} i) = at_more (subst (λ C. Instantiated C (tr_all f σ s) (tr f σ U)) (tr_one f st σ a B) (instantiated_tr f st σ i))

pub motive_tr : {s : AnySort} (f : ℕ → Trees → Tree) → Steady f → (σ : ℕ → Tree) {r : AnySort} {T h M : Tree} → MotiveType s T h r M → MotiveType s (tr f σ T) (tr f σ h) r (tr f σ M)
motive_tr f st σ m_end = m_end
motive_tr {s = s} f st σ {r = r} (m_more {B = B} {h = h} {M = M} m) = m_more (subst (λ g. MotiveType s (tr f (up σ) B) (App g (Var zero)) r (tr f (up σ) M)) (up_tr f st σ h) (motive_tr f st (up σ) m))
