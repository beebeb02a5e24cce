-- What is reached, by sets of terms that have all that their members lead to.
use Rattle.std.proofs.Common.{◌≡◌, ◌≢◌, ℕ, List, [], ◌∷◌, Some, refl, subst, inl, inr}
use Rattle.mt_term.specs.Trees.{Tree, Trees, Arms, Var, Sort, Prod, Lam, App, Const, Ind, Con, Match, Meta, End, Item, NoArm, Arm}
use Rattle.mt_term.specs.Stores.{Declared, Store, Mentions, MentionsIn, MentionsArms, MentionsOf, MentionsHeld, by_context, by_type, by_body, at_once, onward, Reaches}

-- a set has each of the terms
abbrev pub EachTerm : (Tree → Type 0) → Trees → Type 0
EachTerm P End = Unit {0}
EachTerm P (Item t s) = P t × EachTerm P s

abbrev pub EachBody : (Tree → Type 0) → Arms → Type 0
EachBody P NoArm = Unit {0}
EachBody P (Arm xs b bs) = P b × EachBody P bs

abbrev pub EachType : (Tree → Type 0) → List Tree → Type 0
EachType P [] = Unit {0}
EachType P (A ∷ Γ) = P A × EachType P Γ

pub record EachHeld (P : Tree → Type 0) (d : Declared) : Type 0 where
  pub context : EachType P d.context
  pub ty : P d.ty
  pub body : (b : Tree) → d.body ≡ Some b → P b

-- a set has the parts of a term, and what the metavariable that it is holds
abbrev pub Spread : Store → (Tree → Type 0) → Tree → Type 0
Spread S P (Var i) = Unit {0}
Spread S P (Sort s) = Unit {0}
Spread S P (Prod x A B) = P A × P B
Spread S P (Lam x A b) = P A × P b
Spread S P (App f a) = P f × P a
Spread S P (Const c) = Unit {0}
Spread S P (Ind e) = Unit {0}
Spread S P (Con e k) = Unit {0}
Spread S P (Match e R c bs) = P R × P c × EachBody P bs
Spread S P (Meta m s) = EachTerm P s × ((d : Declared) → S.at m ≡ Some d → EachHeld P d)

-- so has a larger set
terms_more : (P Q : Tree → Type 0) → ((t : Tree) → P t → Q t) → (s : Trees) → EachTerm P s → EachTerm Q s
terms_more P Q f End h = tt
terms_more P Q f (Item t s) h = (f t h.0, terms_more P Q f s h.1)

bodies_more : (P Q : Tree → Type 0) → ((t : Tree) → P t → Q t) → (bs : Arms) → EachBody P bs → EachBody Q bs
bodies_more P Q f NoArm h = tt
bodies_more P Q f (Arm xs b bs) h = (f b h.0, bodies_more P Q f bs h.1)

types_more : (P Q : Tree → Type 0) → ((t : Tree) → P t → Q t) → (Γ : List Tree) → EachType P Γ → EachType Q Γ
types_more P Q f [] h = tt
types_more P Q f (A ∷ Γ) h = (f A h.0, types_more P Q f Γ h.1)

held_more : (P Q : Tree → Type 0) → ((t : Tree) → P t → Q t) → (d : Declared) → EachHeld P d → EachHeld Q d
held_more P Q f d h = record { context = types_more P Q f d.context h.context; ty = f d.ty h.ty; body = λ b e. f b (h.body b e) }

spread_more : (S : Store) (P Q : Tree → Type 0) → ((t : Tree) → P t → Q t) → (t : Tree) → Spread S P t → Spread S Q t
spread_more S P Q f (Var i) h = tt
spread_more S P Q f (Sort s) h = tt
spread_more S P Q f (Prod x A B) h = (f A h.0, f B h.1)
spread_more S P Q f (Lam x A b) h = (f A h.0, f b h.1)
spread_more S P Q f (App g a) h = (f g h.0, f a h.1)
spread_more S P Q f (Const c) h = tt
spread_more S P Q f (Ind e) h = tt
spread_more S P Q f (Con e k) h = tt
spread_more S P Q f (Match e R c bs) h = (f R h.0, f c h.1, bodies_more P Q f bs h.2)
spread_more S P Q f (Meta m s) h = (terms_more P Q f s h.0, λ d e. held_more P Q f d (h.1 d e))

-- a term is not metavariable n
abbrev pub IsOther : ℕ → Tree → Type 0
IsOther n (Meta m s) = m ≢ n
IsOther n t = Unit {0}

pub record Expanded (S : Store) (n : ℕ) (P : Tree → Type 0) (t : Tree) : Type 0 where
  pub spread : Spread S P t
  pub other : IsOther n t

pub expanded_more : (S : Store) (n : ℕ) (P Q : Tree → Type 0) → ((t : Tree) → P t → Q t) → (t : Tree) → Expanded S n P t → Expanded S n Q t
expanded_more S n P Q f t h = record { spread = spread_more S P Q f t h.spread; other = h.other }

-- a set that has all that its members lead to, and not metavariable n
module _ (S : Store) (n : ℕ) (P : Tree → Type 0) (closed : (t : Tree) → P t → Expanded S n P t) where
  abbrev Known : ℕ → Type 0
  Known m = (s : Trees) × P (Meta m s)

  mutual
    known : (m : ℕ) (t : Tree) → P t → Mentions m t → Known m
    known m (Var i) p k = absurd k
    known m (Sort s) p k = absurd k
    known m (Prod x A B) p (inl k) = known m A (closed (Prod x A B) p).spread.0 k
    known m (Prod x A B) p (inr k) = known m B (closed (Prod x A B) p).spread.1 k
    known m (Lam x A b) p (inl k) = known m A (closed (Lam x A b) p).spread.0 k
    known m (Lam x A b) p (inr k) = known m b (closed (Lam x A b) p).spread.1 k
    known m (App f a) p (inl k) = known m f (closed (App f a) p).spread.0 k
    known m (App f a) p (inr k) = known m a (closed (App f a) p).spread.1 k
    known m (Const c) p k = absurd k
    known m (Ind e) p k = absurd k
    known m (Con e j) p k = absurd k
    known m (Match e R c bs) p (inl k) = known m R (closed (Match e R c bs) p).spread.0 k
    known m (Match e R c bs) p (inr (inl k)) = known m c (closed (Match e R c bs) p).spread.1 k
    known m (Match e R c bs) p (inr (inr k)) = known_arms m bs (closed (Match e R c bs) p).spread.2 k
    known m (Meta j s) p (inl e) = (s, subst (λ i. P (Meta i s)) e p)
    known m (Meta j s) p (inr k) = known_all m s (closed (Meta j s) p).spread.0 k

    known_all : (m : ℕ) (s : Trees) → EachTerm P s → MentionsIn m s → Known m
    known_all m End p k = absurd k
    known_all m (Item t s) p (inl k) = known m t p.0 k
    known_all m (Item t s) p (inr k) = known_all m s p.1 k

    known_arms : (m : ℕ) (bs : Arms) → EachBody P bs → MentionsArms m bs → Known m
    known_arms m NoArm p k = absurd k
    known_arms m (Arm xs b bs) p (inl k) = known m b p.0 k
    known_arms m (Arm xs b bs) p (inr k) = known_arms m bs p.1 k

  known_of : (m : ℕ) (Γ : List Tree) → EachType P Γ → MentionsOf m Γ → Known m
  known_of m [] p k = absurd k
  known_of m (A ∷ Γ) p (inl k) = known m A p.0 k
  known_of m (A ∷ Γ) p (inr k) = known_of m Γ p.1 k

  known_held : (m : ℕ) (d : Declared) → EachHeld P d → MentionsHeld m d → Known m
  known_held m d p (by_context k) = known_of m d.context p.context k
  known_held m d p (by_type k) = known m d.ty p.ty k
  known_held m d p (by_body b e k) = known m b (p.body b e) k

  known_reached : (t : Tree) → P t → (m : ℕ) → Reaches S t m → Known m
  known_reached t p m (at_once f) = known m t p f
  known_reached t p m (onward {k = k} {d = d} r e f) =
      let z = known_reached t p k r in
      known_held m d ((closed (Meta k z.0) z.1).spread.1 d e) f

  pub never_reached : (t : Tree) → P t → Reaches S t n → ⊥
  never_reached t p r = let z = known_reached t p n r in (closed (Meta n z.0) z.1).other refl

-- what stands in a term is reached from another
abbrev pub Leads : Store → Tree → Tree → Type 0
Leads S t u = (m : ℕ) → Mentions m u → Reaches S t m

each_term : (S : Store) (t : Tree) (s : Trees) → ((m : ℕ) → MentionsIn m s → Reaches S t m) → EachTerm (Leads S t) s
each_term S t End h = tt
each_term S t (Item u s) h = (λ m k. h m (inl k), each_term S t s (λ m k. h m (inr k)))

each_body : (S : Store) (t : Tree) (bs : Arms) → ((m : ℕ) → MentionsArms m bs → Reaches S t m) → EachBody (Leads S t) bs
each_body S t NoArm h = tt
each_body S t (Arm xs b bs) h = (λ m k. h m (inl k), each_body S t bs (λ m k. h m (inr k)))

each_type : (S : Store) (t : Tree) (Γ : List Tree) → ((m : ℕ) → MentionsOf m Γ → Reaches S t m) → EachType (Leads S t) Γ
each_type S t [] h = tt
each_type S t (A ∷ Γ) h = (λ m k. h m (inl k), each_type S t Γ (λ m k. h m (inr k)))

-- then so is what stands in its parts, and in what the metavariable that it is holds
pub leads_on : (S : Store) (t u : Tree) → Leads S t u → Spread S (Leads S t) u
leads_on S t (Var i) h = tt
leads_on S t (Sort s) h = tt
leads_on S t (Prod x A B) h = (λ m k. h m (inl k), λ m k. h m (inr k))
leads_on S t (Lam x A b) h = (λ m k. h m (inl k), λ m k. h m (inr k))
leads_on S t (App f a) h = (λ m k. h m (inl k), λ m k. h m (inr k))
leads_on S t (Const c) h = tt
leads_on S t (Ind e) h = tt
leads_on S t (Con e j) h = tt
leads_on S t (Match e R c bs) h = (λ m k. h m (inl k), λ m k. h m (inr (inl k)), each_body S t bs (λ m k. h m (inr (inr k))))
leads_on S t (Meta j s) h = (
  each_term S t s (λ m k. h m (inr k)),
  λ d e. record {
    context = each_type S t d.context (λ m k. onward (h j (inl refl)) e (by_context k));
    ty = λ m k. onward (h j (inl refl)) e (by_type k);
    body = λ b q m k. onward (h j (inl refl)) e (by_body b q k);
  },
)
