-- The laws of the comparison.
use Rattle.std.specs.Prelude.{ℕ, zero, suc, ◌≡◌, ◌+◌, ◌≤◌, Bool, true, false, ◌&&◌, nat_eq}
use Rattle.std.proofs.Common.{arith}
use Rattle.mt_term.specs.Trees.{Tree, Trees, Arms, Var, Sort, Prod, Lam, App, Const, Ind, Con, Match, Meta, End, Item, NoArm, Arm}
use Rattle.mt_term.specs.Declarations.{Environment}
use Rattle.mt_rules.specs.Charges.{Charged, rest}
use Rattle.mt_term.specs.Universes.{Constraints}
use Rattle.mt_term.specs.Stores.{Store}
use Rattle.mt_term.specs.Alike.{is_alike}
use Rattle.mt_rules.specs.Comparison.{Question, and_next, ◌and◌, same_shapes, same_terms, same_bodies, same_spine, same_heads, convert_in, convert_by, compared, convert, heads, spines, terms, bodies}
use Rattle.mt_term.specs.declared.modes.Mode.{Mode}
use Rattle.mt_rules_laws.proofs.Charged.{Tied, Agree, AgreeAfter, give-agree, charge-agree, then-agree, if-agree, agree-rest}
use Rattle.mt_rules_laws.proofs.KnotLaws.{IsCharged, fixed-agree, fixed-is}
use Rattle.mt_rules_laws.proofs.WeakHeadLaws.{whd-agree}

next-agree : (k i : ℕ) (m m' : Charged Bool) → Agree k i m m' → (b : Bool) → Agree k i (and_next m b) (and_next m' b)
next-agree k i m m' h true = h
next-agree k i m m' h false = give-agree k i false

and-agree : (k i : ℕ) (m m' r r' : Charged Bool) → Agree k i m m' → Agree k i r r' → Agree k i (m and r) (m' and r')
unfolding ◌and◌
and-agree k i m m' r r' h s = then-agree k i m m' _ _ h (next-agree k i r r' s)

module _ (k i : ℕ) (again again' : Question → Charged Bool) (h : (q : Question) → Agree k i (again q) (again' q)) where
  same_terms-agree : (s r : Trees) → Agree k i (same_terms again s r) (same_terms again' s r)
  same_terms-agree End End = give-agree k i true
  same_terms-agree (Item t s) (Item u r) = and-agree k i _ _ _ _ (h _) (same_terms-agree s r)
  same_terms-agree _ _ = give-agree k i false

  same_bodies-agree : (bs cs : Arms) → Agree k i (same_bodies again bs cs) (same_bodies again' bs cs)
  same_bodies-agree NoArm NoArm = give-agree k i true
  same_bodies-agree (Arm xs b bs) (Arm ys c cs) = and-agree k i _ _ _ _ (h _) (same_bodies-agree bs cs)
  same_bodies-agree _ _ = give-agree k i false

  same_spine-agree : (t u : Tree) → Agree k i (same_spine again t u) (same_spine again' t u)
  same_spine-agree (Var j) (Var l) = give-agree k i _
  same_spine-agree (Const c) (Const d) = give-agree k i _
  same_spine-agree (Ind e) (Ind d) = give-agree k i _
  same_spine-agree (Con e j) (Con d l) = give-agree k i _
  same_spine-agree (Meta n s) (Meta m r) = if-agree k i (nat_eq n m) _ _ _ _ (same_terms-agree s r) (give-agree k i false)
  same_spine-agree (Match e r c bs) (Match d p t cs) =
      if-agree k i (nat_eq e d && same_shapes bs cs) _ _ _ _ (and-agree k i _ _ _ _ (h _) (and-agree k i _ _ _ _ (h _) (same_bodies-agree bs cs))) (give-agree k i false)
  same_spine-agree (App f a) (App g b) = and-agree k i _ _ _ _ (same_spine-agree f g) (h _)
  same_spine-agree _ _ = give-agree k i false

  same_heads-agree : (below : Constraints) (mode : Mode) (t u : Tree) → Agree k i (same_heads again below mode t u) (same_heads again' below mode t u)
  same_heads-agree below mode (Sort s) (Sort r) = give-agree k i _
  same_heads-agree below mode (Prod x a b) (Prod y c d) = and-agree k i _ _ _ _ (h _) (h _)
  same_heads-agree below mode (Lam x a b) (Lam y c d) = and-agree k i _ _ _ _ (h _) (h _)
  same_heads-agree below mode t u = same_spine-agree t u

  convert_in-agree : (E : Environment) (S : Store) (q : Question) → Agree k i (convert_in E S again q) (convert_in E S again' q)
  convert_in-agree E S (mode, t, u) =
      if-agree k i (is_alike t u) _ _ _ _ (give-agree k i true)
      (then-agree k i _ _ _ _ (whd-agree E S k i t) (λ t'. then-agree k i _ _ _ _ (whd-agree E S k i u) (λ u'. same_heads-agree E.below mode t' u')))

convert_by-agree : (E : Environment) (S : Store) (k i : ℕ) (again again' : Question → Charged Bool) → ((q : Question) → AgreeAfter k i (again q) (again' q))
    → (q : Question) → Agree k i (convert_by E S again q) (convert_by E S again' q)
convert_by-agree E S zero i again again' h q = charge-agree 0 i _ _ tt
convert_by-agree E S (suc k) i again again' h q = charge-agree (suc k) i _ _ (convert_in-agree k i again again' h E S q)

compared-charged : (E : Environment) (S : Store) → IsCharged Question (λ q. Bool) (convert_by E S)
compared-charged E S = record { agrees = λ k i again again' h. convert_by-agree E S k i again again' h }

compared-agree : (E : Environment) (S : Store) (k i : ℕ) (q : Question) → Agree k i (compared E S q) (compared E S q)
unfolding compared
compared-agree E S k i q = fixed-agree _ _ _ (compared-charged E S) k i q

-- it unfolds
pub compared-is : (E : Environment) (S : Store) (q : Question) (n : ℕ) → compared E S q n ≡ convert_by E S (compared E S) q n
unfolding compared
compared-is E S q n = fixed-is _ _ _ (compared-charged E S) q n

-- the comparison agrees with itself at greater allowances
pub convert-agree : (E : Environment) (S : Store) (k i : ℕ) (mode : Mode) (t u : Tree) → Agree k i (convert E S mode t u) (convert E S mode t u)
unfolding convert
convert-agree E S k i mode t u = compared-agree E S k i (mode, t, u)

pub convert-grows : (E : Environment) (S : Store) (mode : Mode) (t u : Tree) (n i : ℕ) → Tied n i (convert E S mode t u n) (convert E S mode t u (n + i))
convert-grows E S mode t u n i = (convert-agree E S n i mode t u).at n (omega arith)

pub convert-rest : (E : Environment) (S : Store) (mode : Mode) (t u : Tree) (n : ℕ) → rest (convert E S mode t u n) ≤ n
convert-rest E S mode t u n = agree-rest (convert E S mode t u) n (convert-agree E S n 0 mode t u)

pub heads-rest : (E : Environment) (S : Store) (mode : Mode) (t u : Tree) (n : ℕ) → rest (heads E S mode t u n) ≤ n
unfolding heads
heads-rest E S mode t u n = agree-rest _ n (same_heads-agree n 0 (compared E S) (compared E S) (compared-agree E S n 0) E.below mode t u)

pub spines-rest : (E : Environment) (S : Store) (t u : Tree) (n : ℕ) → rest (spines E S t u n) ≤ n
unfolding spines
spines-rest E S t u n = agree-rest _ n (same_spine-agree n 0 (compared E S) (compared E S) (compared-agree E S n 0) t u)

pub terms-rest : (E : Environment) (S : Store) (s r : Trees) (n : ℕ) → rest (terms E S s r n) ≤ n
unfolding terms
terms-rest E S s r n = agree-rest _ n (same_terms-agree n 0 (compared E S) (compared E S) (compared-agree E S n 0) s r)

pub bodies-rest : (E : Environment) (S : Store) (bs cs : Arms) (n : ℕ) → rest (bodies E S bs cs n) ≤ n
unfolding bodies
bodies-rest E S bs cs n = agree-rest _ n (same_bodies-agree n 0 (compared E S) (compared E S) (compared-agree E S n 0) bs cs)
