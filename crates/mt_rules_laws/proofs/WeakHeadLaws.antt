-- The laws of the weak head and the normal form.
use Rattle.std.specs.Prelude.{ℕ, zero, suc, ◌≡◌, ◌+◌, ◌≤◌, refl, List, [], ◌∷◌, false, if◌then◌else◌, Option, Some, None, is_some}
use Rattle.std.proofs.Common.{ap, arith}
use Rattle.mt_term.specs.Trees.{Tree, Trees, Arms, Var, Sort, Prod, Lam, App, Const, Ind, Con, Match, Meta, End, Item, NoArm, Arm}
use Rattle.mt_term.specs.Substitution.{apps}
use Rattle.mt_term.specs.Declarations.{Declaration, Definition, Recursive, Environment}
use Rattle.mt_rules.specs.Charges.{Charged, give, ◌>>=◌, rest}
use Rattle.mt_term.specs.Spines.{on_args}
use Rattle.mt_term.specs.Stores.{Store, body_of}
use Rattle.mt_rules.specs.WeakHead.{Arg, plain, full_con, matched, beta, body_under, opened, unfolded, follow, look_by, whd_by, whd, beside, look, paid, step, follow_or, parts_by, all_by, arms_by, normal_by, normal}
use Rattle.mt_rules_laws.proofs.Charged.{Tied, Agree, AgreeAfter, give-agree, charge-agree, then-agree, agree-rest}
use Rattle.mt_rules_laws.proofs.KnotLaws.{IsCharged, fixed-agree, fixed-is}

-- the arguments are the same, and their weak heads agree
pub data Args (k i : ℕ) : List Arg → List Arg → Type 0 where
  none : Args k i [] []
  more : (a : Tree) (m m' : Charged Tree) (vs ws : List Arg) → Agree k i m m' → Args k i vs ws → Args k i ((a, m) ∷ vs) ((a, m') ∷ ws)

pub plain-same : (k i : ℕ) (vs ws : List Arg) → Args k i vs ws → plain vs ≡ plain ws
plain-same k i _ _ none = refl
plain-same k i _ _ (more a m m' vs ws h s) = ap (Item a) (plain-same k i vs ws s)

give-same : {A : Type 0} (k i : ℕ) (o o' : A) → o ≡ o' → Agree k i (give o) (give o')
give-same k i o o' e = rw e (give-agree k i o')

opened-agree : (es : List Declaration) (k i r : ℕ) (vs ws : List Arg) → Args k i vs ws → Agree k i (opened es r vs) (opened es r ws)
opened-agree es k i r _ _ none = give-agree k i None
opened-agree es k i zero _ _ (more a m m' vs ws h s) =
    then-agree k i _ _ _ _ h (λ d. give-same k i _ _ (ap (λ q. if is_some (full_con es d) then Some (Item d q) else None) (plain-same k i vs ws s)))
opened-agree es k i (suc r) _ _ (more a m m' vs ws h s) =
    then-agree k i _ _ _ _ (opened-agree es k i r vs ws s) (λ o. give-agree k i _)

unfolded-agree : (es : List Declaration) (k i : ℕ) (o : Option Declaration) (vs ws : List Arg) → Args k i vs ws → Agree k i (unfolded es o vs) (unfolded es o ws)
unfolded-agree es k i (Some (Definition x t b)) vs ws s = give-same k i _ _ (ap (λ q. Some (apps b q)) (plain-same k i vs ws s))
unfolded-agree es k i (Some (Recursive x false n r t b made)) vs ws s = then-agree k i _ _ _ _ (opened-agree es k i r vs ws s) (λ o. give-agree k i _)
unfolded-agree es k i _ vs ws s = give-agree k i None

module _ (E : Environment) (S : Store) (k i : ℕ) (again again' : Tree → Charged Tree) (h : (t : Tree) → AgreeAfter k i (again t) (again' t)) where
  follow-agree : (t : Tree) (o : Option Tree) → Agree k i (follow again t o) (follow again' t o)
  follow-agree t None = give-agree k i t
  follow-agree t (Some u) = charge-agree k i _ _ (h u)

  look_by-agree : (t : Tree) (vs ws : List Arg) → Args k i vs ws → Agree k i (look_by E S again t vs) (look_by E S again' t ws)
  look_by-agree (Lam x a b) vs ws s = give-same k i _ _ (ap (beta b) (plain-same k i vs ws s))
  look_by-agree (App f a) vs ws s =
      look_by-agree f _ _ (more a _ _ vs ws (then-agree k i _ _ _ _ (look_by-agree a [] [] none) (follow-agree a)) s)
  look_by-agree (Const c) vs ws s = unfolded-agree E.entries k i _ vs ws s
  look_by-agree (Match e r c bs) vs ws s =
      then-agree k i _ _ _ _ (then-agree k i _ _ _ _ (look_by-agree c [] [] none) (follow-agree c))
      (λ d. give-same k i _ _ (ap (on_args (matched E.entries e r bs d)) (plain-same k i vs ws s)))
  look_by-agree (Meta n t) vs ws s = give-same k i _ _ (ap (on_args (body_under (body_of (S.at n)) t)) (plain-same k i vs ws s))
  look_by-agree _ vs ws s = give-agree k i None

  whd_by-agree : (t : Tree) → Agree k i (whd_by E S again t) (whd_by E S again' t)
  whd_by-agree t = then-agree k i _ _ _ _ (look_by-agree t [] [] none) (follow-agree t)

whd-charged : (E : Environment) (S : Store) → IsCharged Tree (λ t. Tree) (whd_by E S)
whd-charged E S = record { agrees = λ k i again again' h. whd_by-agree E S k i again again' h }

-- the weak head agrees with itself at greater allowances
pub whd-agree : (E : Environment) (S : Store) (k i : ℕ) (t : Tree) → Agree k i (whd E S t) (whd E S t)
unfolding whd
whd-agree E S k i t = fixed-agree _ _ _ (whd-charged E S) k i t

pub whd-grows : (E : Environment) (S : Store) (t : Tree) (n i : ℕ) → Tied n i (whd E S t n) (whd E S t (n + i))
whd-grows E S t n i = (whd-agree E S n i t).at n (omega arith)

pub whd-rest : (E : Environment) (S : Store) (t : Tree) (n : ℕ) → rest (whd E S t n) ≤ n
whd-rest E S t n = agree-rest (whd E S t) n (whd-agree E S n 0 t)

-- it unfolds
pub whd-is : (E : Environment) (S : Store) (t : Tree) (n : ℕ) → whd E S t n ≡ whd_by E S (whd E S) t n
unfolding whd
whd-is E S t n = fixed-is _ _ _ (whd-charged E S) t n

after : (E : Environment) (S : Store) (k i : ℕ) (t : Tree) → AgreeAfter k i (whd E S t) (whd E S t)
after E S zero i t = tt
after E S (suc k) i t = whd-agree E S k i t

beside-agree : (E : Environment) (S : Store) (k i : ℕ) (s : Trees) → Args k i (beside E S s) (beside E S s)
beside-agree E S k i End = none
beside-agree E S k i (Item a s) = more a _ _ _ _ (whd_by-agree E S k i (whd E S) (whd E S) (after E S k i) a) (beside-agree E S k i s)

pub look-agree : (E : Environment) (S : Store) (k i : ℕ) (t : Tree) (s : Trees) → Agree k i (look E S t s) (look E S t s)
unfolding look
look-agree E S k i t s = look_by-agree E S k i (whd E S) (whd E S) (after E S k i) t _ _ (beside-agree E S k i s)

pub look-rest : (E : Environment) (S : Store) (t : Tree) (s : Trees) (n : ℕ) → rest (look E S t s n) ≤ n
look-rest E S t s n = agree-rest (look E S t s) n (look-agree E S n 0 t s)

paid-agree : (k i : ℕ) (o : Option Tree) → Agree k i (paid o) (paid o)
paid-agree k i None = give-agree k i None
paid-agree k i (Some u) = charge-agree k i _ _ (after-give k i)
  where
    after-give : (k i : ℕ) → AgreeAfter k i (give (Some u)) (give (Some u))
    after-give zero i = tt
    after-give (suc k) i = give-agree k i (Some u)

pub step-agree : (E : Environment) (S : Store) (k i : ℕ) (t : Tree) → Agree k i (step E S t) (step E S t)
unfolding step
step-agree E S k i t = then-agree k i _ _ _ _ (look-agree E S k i t End) (paid-agree k i)

pub step-grows : (E : Environment) (S : Store) (t : Tree) (n i : ℕ) → Tied n i (step E S t n) (step E S t (n + i))
step-grows E S t n i = (step-agree E S n i t).at n (omega arith)

pub step-rest : (E : Environment) (S : Store) (t : Tree) (n : ℕ) → rest (step E S t n) ≤ n
step-rest E S t n = agree-rest (step E S t) n (step-agree E S n 0 t)

-- the normal form
module _ (E : Environment) (S : Store) (k i : ℕ) (again again' : Tree → Charged Tree) (h : (t : Tree) → AgreeAfter k i (again t) (again' t)) where
  follow_or-agree : (m m' : Charged Tree) → Agree k i m m' → (o : Option Tree) → Agree k i (follow_or m again o) (follow_or m' again' o)
  follow_or-agree m m' g None = g
  follow_or-agree m m' g (Some u) = charge-agree k i _ _ (h u)

  part-agree : (t : Tree) (m m' : Charged Tree) → Agree k i m m' → Agree k i (look E S t End >>= follow_or m again) (look E S t End >>= follow_or m' again')
  part-agree t m m' g = then-agree k i _ _ _ _ (look-agree E S k i t End) (follow_or-agree m m' g)

  mutual
    pub parts-agree : (t : Tree) → Agree k i (parts_by E S again t) (parts_by E S again' t)
    parts-agree (Prod x a b) = then-agree k i _ _ _ _ (part-agree a _ _ (parts-agree a)) (λ c. then-agree k i _ _ _ _ (part-agree b _ _ (parts-agree b)) (λ d. give-agree k i _))
    parts-agree (Lam x a b) = then-agree k i _ _ _ _ (part-agree a _ _ (parts-agree a)) (λ c. then-agree k i _ _ _ _ (part-agree b _ _ (parts-agree b)) (λ d. give-agree k i _))
    parts-agree (App f a) = then-agree k i _ _ _ _ (part-agree f _ _ (parts-agree f)) (λ c. then-agree k i _ _ _ _ (part-agree a _ _ (parts-agree a)) (λ d. give-agree k i _))
    parts-agree (Match e r c bs) =
        then-agree k i _ _ _ _ (part-agree r _ _ (parts-agree r)) (λ p.
        then-agree k i _ _ _ _ (part-agree c _ _ (parts-agree c)) (λ d. then-agree k i _ _ _ _ (arms-agree bs) (λ ds. give-agree k i _)))
    parts-agree (Meta n s) = then-agree k i _ _ _ _ (all-agree s) (λ r. give-agree k i _)
    parts-agree (Var j) = give-agree k i _
    parts-agree (Sort s) = give-agree k i _
    parts-agree (Const c) = give-agree k i _
    parts-agree (Ind e) = give-agree k i _
    parts-agree (Con e j) = give-agree k i _

    pub all-agree : (s : Trees) → Agree k i (all_by E S again s) (all_by E S again' s)
    all-agree End = give-agree k i _
    all-agree (Item t s) = then-agree k i _ _ _ _ (part-agree t _ _ (parts-agree t)) (λ c. then-agree k i _ _ _ _ (all-agree s) (λ r. give-agree k i _))

    pub arms-agree : (bs : Arms) → Agree k i (arms_by E S again bs) (arms_by E S again' bs)
    arms-agree NoArm = give-agree k i _
    arms-agree (Arm xs b bs) = then-agree k i _ _ _ _ (part-agree b _ _ (parts-agree b)) (λ c. then-agree k i _ _ _ _ (arms-agree bs) (λ ds. give-agree k i _))

normal-charged : (E : Environment) (S : Store) → IsCharged Tree (λ t. Tree) (normal_by E S)
normal-charged E S = record { agrees = λ k i again again' h t. part-agree E S k i again again' h t _ _ (parts-agree E S k i again again' h t) }

pub normal-agree : (E : Environment) (S : Store) (k i : ℕ) (t : Tree) → Agree k i (normal E S t) (normal E S t)
unfolding normal
normal-agree E S k i t = fixed-agree _ _ _ (normal-charged E S) k i t

pub normal-grows : (E : Environment) (S : Store) (t : Tree) (n i : ℕ) → Tied n i (normal E S t n) (normal E S t (n + i))
normal-grows E S t n i = (normal-agree E S n i t).at n (omega arith)

pub normal-rest : (E : Environment) (S : Store) (t : Tree) (n : ℕ) → rest (normal E S t n) ≤ n
normal-rest E S t n = agree-rest (normal E S t) n (normal-agree E S n 0 t)

pub normal-is : (E : Environment) (S : Store) (t : Tree) (n : ℕ) → normal E S t n ≡ normal_by E S (normal E S) t n
unfolding normal
normal-is E S t n = fixed-is _ _ _ (normal-charged E S) t n
