-- The sort that a motive answers in, from the sort of its type in a pool that has grown.
use Rattle.std.proofs.Common.{ℕ, ◌≡◌, Bool, List, ◌∷◌, sym, ◌∙◌}
use Rattle.mt_term.specs.Trees.{Tree}
use Rattle.mt_term.specs.Declarations.{Hypothesis, Environment}
use Rattle.mt_rules.specs.Charges.{Done}
use Rattle.mt_term.specs.Stores.{Store}
use Rattle.mt_rules.specs.Inference.{Product, infer, elimination, eliminating}
use Rattle.mt_pool.specs.Region.{tree_at}
use Rattle.mt_infer.specs.declared.families.Family.{Family as HeldFamily}
use Rattle.mt_infer.specs.Families.{family_held}
use Rattle.mt_infer.specs.Fitting.{eliminating_over, on_newest, on_params, product_over}
use Rattle.mt_infer.proofs.Eliminating.{index_done}
use Rattle.mt_infer.proofs.Matches.{elimination_done}

pub elimination_step : (E : Environment) (S : Store) (Γ : List Hypothesis) (p : List Tree) (f : HeldFamily) (r t : Tree) (n l : ℕ) (E1 E2 : Environment) (S1 S2 : Store) (Γ1 Γ2 : List Hypothesis) (r1 a u : Tree)
    → infer E1 S1 Γ1 r1 n ≡ Done t l → E1 ≡ E → S1 ≡ S → Γ1 ≡ Γ → r1 ≡ r → E2 ≡ E → S2 ≡ S → Γ2 ≡ Γ → a ≡ tree_at p f.arity → u ≡ on_params (family_held p f)
    → elimination E S Γ (family_held p f) r n ≡ eliminating E2 S2 Γ2 f.large a u t l
elimination_step E S Γ p f r t n l E1 E2 S1 S2 Γ1 Γ2 r1 a u h e1 s1 g1 er e2 s2 g2 ea eu =
    elimination_done E S Γ p f r t n l (sym (λ i. infer (e1 i) (s1 i) (g1 i) (er i) n) ∙ h)
    ∙ sym (λ i. eliminating (e2 i) (s2 i) (g2 i) f.large (ea i) (eu i) t l)

-- the rest of the arity, after the product over an index, in a pool that has grown
pub index_step : (E : Environment) (S : Store) (Γ : List Hypothesis) (large : Bool) (a b u t : Tree) (n k : ℕ) (P : Product) (E1 E2 : Environment) (S1 S2 : Store) (Γ1 Γ2 : List Hypothesis) (t1 a1 b2 u2 : Tree)
    → product_over E1 S1 Γ1 t1 a1 n ≡ Done P k → E1 ≡ E → S1 ≡ S → Γ1 ≡ Γ → t1 ≡ t → a1 ≡ a → E2 ≡ E → S2 ≡ S → Γ2 ≡ Γ → b2 ≡ b → u2 ≡ on_newest u
    → eliminating_over E S Γ large a b u t n ≡ eliminating E2 S2 (record { name = P.name; ty = P.dom } ∷ Γ2) large b2 u2 P.cod k
index_step E S Γ large a b u t n k P E1 E2 S1 S2 Γ1 Γ2 t1 a1 b2 u2 h e1 s1 g1 et ea e2 s2 g2 eb eu =
    index_done E S Γ large u t n a b P.name P.dom P.cod k (sym (λ i. product_over (e1 i) (s1 i) (g1 i) (et i) (ea i) n) ∙ h)
    ∙ sym (λ i. eliminating (e2 i) (s2 i) (record { name = P.name; ty = P.dom } ∷ g2 i) large (eb i) (eu i) P.cod k)
