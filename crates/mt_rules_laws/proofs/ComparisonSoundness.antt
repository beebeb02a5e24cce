-- A yes of the comparison gives conversion, or the order of types.
use Rattle.std.specs.Prelude.{ℕ, ◌≡◌, refl, length, nat_eq, if◌then◌else◌, Bool, true, false, ◌&&◌, Some}
use Rattle.std.proofs.Common.{subst, subst₂, eqb-true}
use Rattle.mt_term.specs.Trees.{Bytes, Tree, Trees, Arms, Var, Sort, Prod, Lam, App, Const, Ind, Con, Match, Meta, End, Item, NoArm, Arm}
use Rattle.mt_term.specs.declared.universes.Sort.{Sort as AnySort}
use Rattle.mt_term.specs.declared.universes.Sort.TheVariants.{Prop, Typ}
use Rattle.mt_term.specs.declared.modes.Mode.{Mode}
use Rattle.mt_term.specs.declared.modes.Mode.TheVariants.{Equal, AtMost as Below}
use Rattle.mt_term.specs.Declarations.{Environment}
use Rattle.mt_rules.specs.Charges.{Charged, give, ◌>>=◌}
use Rattle.mt_term.specs.Universes.{SortIsAtMost}
use Rattle.mt_term.specs.UniverseOrder.{SortIsSame}
use Rattle.mt_term.specs.Alike.{is_alike}
use Rattle.mt_term.specs.Stores.{Declared, Store, AllMetas, AllMetasIn, AllMetasArms, AllMetasHeld}
use Rattle.mt_calculus.specs.Conversion.{Conv, same, back, chain, reduct, sorts, prods, lams, app_conv, matches, metas, ConvAll, ends, items, ConvArms, no_arms, arms, AtMost, conv, on, prop, typ, cod}
use Rattle.mt_rules.specs.WeakHead.{whd}
use Rattle.mt_rules.specs.Comparison.{Question, and_next, ◌and◌, sorts_fit, same_shapes, same_terms, same_bodies, same_spine, same_heads, convert_in, convert_by, compared, convert}
use Rattle.mt_calculus_laws.proofs.Steps.{Reduces, done, more}
use Rattle.mt_calculus_laws.proofs.AlikeLaws.{alike_conv, both}
use Rattle.mt_universe.proofs.UniverseOrderLaws.{sort_at_most_decides, sort_same_decides}
use Rattle.mt_rules_laws.proofs.Yields.{Yields, gives, charges, then_yields, so_yields, fixed_yields, untrue}
use Rattle.mt_rules_laws.proofs.WeakHeadSoundness.{BodyMetas, Reached, whd_yields}

pub reduces_conv : {E : Environment} {T : Store} {t u : Tree} → Reduces E T t u → Conv E T t u
reduces_conv done = same
reduces_conv (more c r) = chain (reduct c) (reduces_conv r)

-- a yes has a consequence
abbrev pub IfYes : Type 0 → Bool → Type 0
IfYes X b = b ≡ true → X

and_yields : (X Y Z : Type 0) (m r : Charged Bool) → (X → Y → Z) → Yields m (IfYes X) → Yields r (IfYes Y) → Yields (m and r) (IfYes Z)
unfolding ◌and◌
and_yields X Y Z m r f y z = then_yields (IfYes X) (IfYes Z) m (and_next r) y go
  where
    go : (b : Bool) → IfYes X b → Yields (and_next r b) (IfYes Z)
    go true h = so_yields (IfYes Y) (IfYes Z) r (λ a g e. f (h refl) (g e)) z
    go false h = gives (IfYes Z) false (λ e. untrue e)

if_yields : {A : Type 0} (P : A → Type 0) (b : Bool) (m r : Charged A) → (b ≡ true → Yields m P) → Yields r P → Yields (if b then m else r) P
if_yields P true m r y z = y refl
if_yields P false m r y z = z

module _ (E : Environment) (T : Store) where
  -- what a yes means
  abbrev pub Fit : Mode → Tree → Tree → Type 0
  Fit Equal t u = Conv E T t u
  Fit Below t u = AtMost E T t u

  pub as_fit : (m : Mode) {t u : Tree} → Conv E T t u → Fit m t u
  as_fit Equal c = c
  as_fit Below c = conv c

  fit_via : (m : Mode) {t t' u u' : Tree} → Conv E T t t' → Fit m t' u' → Conv E T u' u → Fit m t u
  fit_via Equal a r b = chain a (chain r b)
  fit_via Below a r b = on (conv a) (on r (conv b))

  fit_prod : (m : Mode) (x y : Bytes) (A C B D : Tree) → Conv E T A C → Fit m B D → Fit m (Prod x A B) (Prod y C D)
  fit_prod Equal x y A C B D c r = prods c r
  fit_prod Below x y A C B D c r = on (conv (prods c same)) (cod r)

  at_most_sorts : (s r : AnySort) → SortIsAtMost (E.below) s r → AtMost E T (Sort s) (Sort r)
  at_most_sorts Prop r h = prop
  at_most_sorts (Typ u) Prop h = absurd h
  at_most_sorts (Typ u) (Typ v) h = typ h

  same_sorts : (s r : AnySort) → SortIsSame (E.below) s r → Conv E T (Sort s) (Sort r)
  same_sorts Prop Prop h = same
  same_sorts Prop (Typ v) h = absurd h
  same_sorts (Typ u) Prop h = absurd h
  same_sorts (Typ u) (Typ v) h = sorts h.0 h.1

  sorts_fit_is : (m : Mode) (s r : AnySort) → sorts_fit (E.below) m s r ≡ true → Fit m (Sort s) (Sort r)
  sorts_fit_is Equal s r h = same_sorts s r ((sort_same_decides (E.below) s r).0 h)
  sorts_fit_is Below s r h = at_most_sorts s r ((sort_at_most_decides (E.below) s r).0 h)

  module _ (P : ℕ → Type 0) where
    -- the answer to a question, of terms that have metavariables that are P
    abbrev Told : (q : Question) → Bool → Type 0
    Told (m, t, u) b = AllMetas P t → AllMetas P u → b ≡ true → Fit m t u

    module _ (again : Question → Charged Bool) (ih : (q : Question) → Yields (again q) (Told q)) where
      asked : (m : Mode) (t u : Tree) → AllMetas P t → AllMetas P u → Yields (again (m, t, u)) (IfYes (Fit m t u))
      asked m t u p q = so_yields (Told (m, t, u)) (IfYes (Fit m t u)) (again (m, t, u)) (λ b h. h p q) (ih (m, t, u))

      terms_yield : (s r : Trees) → AllMetasIn P s → AllMetasIn P r → Yields (same_terms again s r) (IfYes (ConvAll E T s r))
      terms_yield End End p q = gives (IfYes (ConvAll E T End End)) true (λ e. ends)
      terms_yield (Item t s) (Item u r) p q = and_yields (Conv E T t u) (ConvAll E T s r) (ConvAll E T (Item t s) (Item u r)) (again (Equal, t, u)) (same_terms again s r) items (asked Equal t u p.0 q.0) (terms_yield s r p.1 q.1)
      terms_yield End (Item u r) p q = gives (IfYes (ConvAll E T End (Item u r))) false (λ e. untrue e)
      terms_yield (Item t s) End p q = gives (IfYes (ConvAll E T (Item t s) End)) false (λ e. untrue e)

      bodies_yield : (bs cs : Arms) → AllMetasArms P bs → AllMetasArms P cs → same_shapes bs cs ≡ true → Yields (same_bodies again bs cs) (IfYes (ConvArms E T bs cs))
      bodies_yield NoArm NoArm p q h = gives (IfYes (ConvArms E T NoArm NoArm)) true (λ e. no_arms)
      bodies_yield (Arm xs b bs) (Arm ys c cs) p q h =
          let n = both (nat_eq (length xs) (length ys)) (same_shapes bs cs) h in
          and_yields (Conv E T b c) (ConvArms E T bs cs) (ConvArms E T (Arm xs b bs) (Arm ys c cs)) (again (Equal, b, c)) (same_bodies again bs cs) (arms (eqb-true (length xs) (length ys) n.0)) (asked Equal b c p.0 q.0) (bodies_yield bs cs p.1 q.1 n.1)
      bodies_yield NoArm (Arm ys c cs) p q h = untrue h
      bodies_yield (Arm xs b bs) NoArm p q h = untrue h

      abbrev Same : Tree → Tree → Bool → Type 0
      Same t u = IfYes (Conv E T t u)

      spine_yields : (t u : Tree) → AllMetas P t → AllMetas P u → Yields (same_spine again t u) (Same t u)
      spine_yields (Var i) (Var j) p q = gives (Same (Var i) (Var j)) (nat_eq i j) (λ e. subst (λ k. Conv E T (Var i) (Var k)) (eqb-true i j e) same)
      spine_yields (Const c) (Const d) p q = gives (Same (Const c) (Const d)) (nat_eq c d) (λ e. subst (λ k. Conv E T (Const c) (Const k)) (eqb-true c d e) same)
      spine_yields (Ind c) (Ind d) p q = gives (Same (Ind c) (Ind d)) (nat_eq c d) (λ e. subst (λ k. Conv E T (Ind c) (Ind k)) (eqb-true c d e) same)
      spine_yields (Con c k) (Con d j) p q =
          gives (Same (Con c k) (Con d j)) (nat_eq c d && nat_eq k j) (λ e.
          let h = both (nat_eq c d) (nat_eq k j) e in
          subst₂ (λ a b. Conv E T (Con c k) (Con a b)) (eqb-true c d h.0) (eqb-true k j h.1) same)
      spine_yields (Meta n s) (Meta m r) p q =
          if_yields (Same (Meta n s) (Meta m r)) (nat_eq n m) (same_terms again s r) (give false)
          (λ h. so_yields (IfYes (ConvAll E T s r)) (Same (Meta n s) (Meta m r)) (same_terms again s r) (λ b f e. subst (λ k. Conv E T (Meta n s) (Meta k r)) (eqb-true n m h) (metas (f e))) (terms_yield s r p.1 q.1))
          (gives (Same (Meta n s) (Meta m r)) false (λ e. untrue e))
      spine_yields (Match e r c bs) (Match d k t cs) p q =
          if_yields (Same (Match e r c bs) (Match d k t cs)) (nat_eq e d && same_shapes bs cs) (again (Equal, r, k) and again (Equal, c, t) and same_bodies again bs cs) (give false)
          (λ h.
          let n = both (nat_eq e d) (same_shapes bs cs) h in
          and_yields (Conv E T r k) (Conv E T c t × ConvArms E T bs cs) (Conv E T (Match e r c bs) (Match d k t cs)) (again (Equal, r, k)) (again (Equal, c, t) and same_bodies again bs cs)
          (λ f g. subst (λ i. Conv E T (Match e r c bs) (Match i k t cs)) (eqb-true e d n.0) (matches f g.0 g.1)) (asked Equal r k p.0 q.0)
          (and_yields (Conv E T c t) (ConvArms E T bs cs) (Conv E T c t × ConvArms E T bs cs) (again (Equal, c, t)) (same_bodies again bs cs) (λ f g. (f, g)) (asked Equal c t p.1 q.1) (bodies_yield bs cs p.2 q.2 n.1)))
          (gives (Same (Match e r c bs) (Match d k t cs)) false (λ e. untrue e))
      spine_yields (App f a) (App g b) p q = and_yields (Conv E T f g) (Conv E T a b) (Conv E T (App f a) (App g b)) (same_spine again f g) (again (Equal, a, b)) app_conv (spine_yields f g p.0 q.0) (asked Equal a b p.1 q.1)
      spine_yields t u p q = gives (Same t u) false (λ e. untrue e)

      heads_yield : (m : Mode) (t u : Tree) → AllMetas P t → AllMetas P u → Yields (same_heads again (E.below) m t u) (IfYes (Fit m t u))
      heads_yield m (Sort s) (Sort r) p q = gives (IfYes (Fit m (Sort s) (Sort r))) (sorts_fit (E.below) m s r) (sorts_fit_is m s r)
      heads_yield m (Prod x a b) (Prod y c d) p q = and_yields (Conv E T a c) (Fit m b d) (Fit m (Prod x a b) (Prod y c d)) (again (Equal, a, c)) (again (m, b, d)) (fit_prod m x y a c b d) (asked Equal a c p.0 q.0) (asked m b d p.1 q.1)
      heads_yield m (Lam x a b) (Lam y c d) p q = and_yields (Conv E T a c) (Conv E T b d) (Fit m (Lam x a b) (Lam y c d)) (again (Equal, a, c)) (again (Equal, b, d)) (λ f g. as_fit m (lams f g)) (asked Equal a c p.0 q.0) (asked Equal b d p.1 q.1)
      heads_yield m t u p q = so_yields (Same t u) (IfYes (Fit m t u)) (same_spine again t u) (λ b f e. as_fit m (f e)) (spine_yields t u p q)

module _ (E : Environment) (S T : Store) (P : ℕ → Type 0) (env : BodyMetas E P)
    (agree : (n : ℕ) → P n → S.at n ≡ T.at n) (held : (n : ℕ) (d : Declared) → P n → S.at n ≡ Some d → AllMetasHeld P d) where
  alike_fit : (t u : Tree) → is_alike t u ≡ true → Conv E T t u
  unfolding is_alike
  alike_fit t u e = alike_conv E T t u e

  convert_in_yields : (again : Question → Charged Bool) → ((q : Question) → Yields (again q) (Told E T P q)) → (m : Mode) (t u : Tree) → AllMetas P t → AllMetas P u → Yields (convert_in E S again (m, t, u)) (IfYes (Fit E T m t u))
  convert_in_yields again ih m t u p q =
      if_yields (IfYes (Fit E T m t u)) (is_alike t u) (give true) (whd E S t >>= (λ t'. whd E S u >>= (λ u'. same_heads again (E.below) m t' u')))
      (λ h. gives (IfYes (Fit E T m t u)) true (λ e. as_fit E T m (alike_fit t u h)))
      (then_yields (Reached E S T P env agree held t) (IfYes (Fit E T m t u)) (whd E S t) _ (whd_yields E S T P env agree held t p) (λ t' f.
      then_yields (Reached E S T P env agree held u) (IfYes (Fit E T m t u)) (whd E S u) _ (whd_yields E S T P env agree held u q) (λ u' g.
      so_yields (IfYes (Fit E T m t' u')) (IfYes (Fit E T m t u)) (same_heads again (E.below) m t' u') (λ b h e. fit_via E T m (reduces_conv f.0) (h e) (back (reduces_conv g.0))) (heads_yield E T P again ih m t' u' f.1 g.1))))

  compared_yields : (q : Question) → Yields (compared E S q) (Told E T P q)
  unfolding compared
  compared_yields q = fixed_yields Question (λ q. Bool) (convert_by E S) (Told E T P) keeps q
    where
      keeps : (again : Question → Charged Bool) → ((q : Question) → Yields (again q) (Told E T P q)) → (q : Question) → Yields (convert_by E S again q) (Told E T P q)
      keeps again ih (m, t, u) n a r e p q = charges (IfYes (Fit E T m t u)) (convert_in E S again (m, t, u)) (convert_in_yields again ih m t u p q) n a r e

  -- the comparison
  pub convert_yields : (m : Mode) (t u : Tree) → AllMetas P t → AllMetas P u → Yields (convert E S m t u) (IfYes (Fit E T m t u))
  unfolding convert
  convert_yields m t u p q n a r e = compared_yields (m, t, u) n a r e p q
