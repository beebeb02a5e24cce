-- The comparison, rule by rule, as a program follows it.
use Rattle.std.specs.Prelude.{ℕ, suc, ◌≡◌, ◌-◌, ◌<◌, ◌≤◌, refl, Bool, true, false, ◌&&◌, if◌then◌else◌, nat_eq, List}
use Rattle.std.proofs.Common.{◌∙◌, ap, arith}
use Rattle.mt_term.specs.Trees.{Bytes, Tree, Trees, Arms, Var, Sort, Prod, Lam, App, Const, Ind, Con, Match, Meta, End, Item, NoArm, Arm}
use Rattle.mt_term.specs.declared.universes.Sort.{Sort as AnySort}
use Rattle.mt_term.specs.declared.modes.Mode.{Mode}
use Rattle.mt_term.specs.declared.modes.Mode.TheVariants.{Equal}
use Rattle.mt_term.specs.Declarations.{Environment}
use Rattle.mt_term.specs.Reasons.{Reason}
use Rattle.mt_rules.specs.Charges.{Done, Refused, Spent, Charged, give, ◌>>=◌, and_then, rest}
use Rattle.mt_term.specs.Alike.{is_alike}
use Rattle.mt_term.specs.Stores.{Store}
use Rattle.mt_rules.specs.WeakHead.{whd}
use Rattle.mt_rules.specs.Comparison.{and_next, ◌and◌, sorts_fit, same_shapes, compared, convert, heads, spines, terms, bodies}
use Rattle.mt_rules_laws.proofs.Charged.{then-rest}
use Rattle.mt_rules_laws.proofs.WeakHeadLaws.{whd-rest}
use Rattle.mt_rules_laws.proofs.ComparisonLaws.{compared-is, convert-rest, heads-rest, spines-rest, terms-rest, bodies-rest}

-- a sequence that ends at the first no
and-yes : (m r : Charged Bool) (n l : ℕ) → m n ≡ Done true l → (m and r) n ≡ r l
unfolding ◌and◌
and-yes m r n l e = ap (λ o. and_then o (and_next r)) e

and-no : (m r : Charged Bool) (n l : ℕ) → m n ≡ Done false l → (m and r) n ≡ Done false l
unfolding ◌and◌
and-no m r n l e = ap (λ o. and_then o (and_next r)) e

and-spent : (m r : Charged Bool) (n : ℕ) → m n ≡ Spent → (m and r) n ≡ Spent
unfolding ◌and◌
and-spent m r n e = ap (λ o. and_then o (and_next r)) e

and-refused : (m r : Charged Bool) (n l : ℕ) (q : Reason) → m n ≡ Refused q l → (m and r) n ≡ Refused q l
unfolding ◌and◌
and-refused m r n l q e = ap (λ o. and_then o (and_next r)) e

next-rest : (r : Charged Bool) → ((l : ℕ) → rest (r l) ≤ l) → (b : Bool) (l : ℕ) → rest (and_next r b l) ≤ l
next-rest r h true l = h l
next-rest r h false l = omega arith

and-rest : (m r : Charged Bool) → ((l : ℕ) → rest (r l) ≤ l) → (n : ℕ) → rest ((m and r) n) ≤ rest (m n)
unfolding ◌and◌
and-rest m r h n = then-rest (m n) (and_next r) (next-rest r h)

module _ (E : Environment) (S : Store) (mode : Mode) (t u : Tree) where
  second : Tree → Charged Bool
  second t' = whd E S u >>= (λ u'. heads E S mode t' u')

  parts : Charged Bool
  parts = whd E S t >>= (λ t'. second t')

  second-rest : (t' : Tree) (l : ℕ) → rest (second t' l) ≤ l
  unfolding second
  second-rest t' l = omega (arith, then-rest (whd E S u l) (λ u'. heads E S mode t' u') (λ u'. heads-rest E S mode t' u'), whd-rest E S u l)

  charged : (n : ℕ) → 0 < n → convert E S mode t u n ≡ (if is_alike t u then give true else parts) (n - 1)
  unfolding convert parts second heads
  charged n h =
      let p : n ≡ suc (n - 1) = omega (arith, h) in
      ap (compared E S (mode, t, u)) p ∙ compared-is E S (mode, t, u) (suc (n - 1))

  pub convert-out : (n : ℕ) → n ≡ 0 → convert E S mode t u n ≡ Spent
  unfolding convert
  convert-out n e = ap (compared E S (mode, t, u)) e ∙ compared-is E S (mode, t, u) 0

  pub convert-alike : (n : ℕ) → 0 < n → is_alike t u ≡ true → convert E S mode t u n ≡ Done true (n - 1)
  convert-alike n h a = charged n h ∙ ap (λ (b : Bool). (if b then give true else parts) (n - 1)) a

  other : (n : ℕ) → 0 < n → is_alike t u ≡ false → convert E S mode t u n ≡ and_then (whd E S t (n - 1)) second
  unfolding parts
  other n h a = charged n h ∙ ap (λ (b : Bool). (if b then give true else parts) (n - 1)) a

  pub convert-left_spent : (n : ℕ) → 0 < n → is_alike t u ≡ false → whd E S t (n - 1) ≡ Spent → convert E S mode t u n ≡ Spent
  convert-left_spent n h a s = other n h a ∙ ap (λ o. and_then o second) s

  pub convert-left_refused : (n l : ℕ) (q : Reason) → 0 < n → is_alike t u ≡ false → whd E S t (n - 1) ≡ Refused q l → convert E S mode t u n ≡ Refused q l
  convert-left_refused n l q h a s = other n h a ∙ ap (λ o. and_then o second) s

  pub convert-left_within : (n : ℕ) → 0 < n → is_alike t u ≡ false → rest (convert E S mode t u n) ≤ rest (whd E S t (n - 1))
  convert-left_within n h a = rw (other n h a) (then-rest (whd E S t (n - 1)) second second-rest)

  left : (t' : Tree) (n l : ℕ) → 0 < n → is_alike t u ≡ false → whd E S t (n - 1) ≡ Done t' l → convert E S mode t u n ≡ and_then (whd E S u l) (λ u'. heads E S mode t' u')
  unfolding second
  left t' n l h a s = other n h a ∙ ap (λ o. and_then o second) s

  pub convert-right_spent : (t' : Tree) (n l : ℕ) → 0 < n → is_alike t u ≡ false → whd E S t (n - 1) ≡ Done t' l → whd E S u l ≡ Spent → convert E S mode t u n ≡ Spent
  convert-right_spent t' n l h a s z = left t' n l h a s ∙ ap (λ o. and_then o (λ u'. heads E S mode t' u')) z

  pub convert-right_refused : (t' : Tree) (n l k : ℕ) (q : Reason) → 0 < n → is_alike t u ≡ false → whd E S t (n - 1) ≡ Done t' l → whd E S u l ≡ Refused q k → convert E S mode t u n ≡ Refused q k
  convert-right_refused t' n l k q h a s z = left t' n l h a s ∙ ap (λ o. and_then o (λ u'. heads E S mode t' u')) z

  pub convert-right_within : (t' : Tree) (n l : ℕ) → 0 < n → is_alike t u ≡ false → whd E S t (n - 1) ≡ Done t' l → rest (convert E S mode t u n) ≤ rest (whd E S u l)
  convert-right_within t' n l h a s = rw (left t' n l h a s) (then-rest (whd E S u l) _ (λ u'. heads-rest E S mode t' u'))

  pub convert-heads : (t' u' : Tree) (n l k : ℕ) → 0 < n → is_alike t u ≡ false → whd E S t (n - 1) ≡ Done t' l → whd E S u l ≡ Done u' k → convert E S mode t u n ≡ heads E S mode t' u' k
  convert-heads t' u' n l k h a s z = left t' n l h a s ∙ ap (λ o. and_then o (λ u'. heads E S mode t' u')) z

pub ruleset convert_rules = (convert-rest, heads-rest, whd-rest, convert-out, convert-alike, convert-left_spent, convert-left_refused, convert-left_within, convert-right_spent, convert-right_refused, convert-right_within, convert-heads)

pub heads-sort : (E : Environment) (S : Store) (mode : Mode) (s r : AnySort) (n : ℕ) → heads E S mode (Sort s) (Sort r) n ≡ Done (sorts_fit E.below mode s r) n
unfolding heads
heads-sort E S mode s r n = refl

heads-prod-is : (E : Environment) (S : Store) (mode : Mode) (x y : Bytes) (a b c d : Tree) (n : ℕ) → heads E S mode (Prod x a b) (Prod y c d) n ≡ (convert E S Equal a c and convert E S mode b d) n
unfolding heads convert
heads-prod-is E S mode x y a b c d n = refl

pub heads-prod-yes : (E : Environment) (S : Store) (mode : Mode) (x y : Bytes) (a b c d : Tree) (n l : ℕ) → convert E S Equal a c n ≡ Done true l → heads E S mode (Prod x a b) (Prod y c d) n ≡ convert E S mode b d l
heads-prod-yes E S mode x y a b c d n l z = heads-prod-is E S mode x y a b c d n ∙ and-yes _ _ n l z

pub heads-prod-no : (E : Environment) (S : Store) (mode : Mode) (x y : Bytes) (a b c d : Tree) (n l : ℕ) → convert E S Equal a c n ≡ Done false l → heads E S mode (Prod x a b) (Prod y c d) n ≡ Done false l
heads-prod-no E S mode x y a b c d n l z = heads-prod-is E S mode x y a b c d n ∙ and-no _ _ n l z

pub heads-prod-spent : (E : Environment) (S : Store) (mode : Mode) (x y : Bytes) (a b c d : Tree) (n : ℕ) → convert E S Equal a c n ≡ Spent → heads E S mode (Prod x a b) (Prod y c d) n ≡ Spent
heads-prod-spent E S mode x y a b c d n z = heads-prod-is E S mode x y a b c d n ∙ and-spent _ _ n z

pub heads-prod-refused : (E : Environment) (S : Store) (mode : Mode) (x y : Bytes) (a b c d : Tree) (n l : ℕ) (q : Reason) → convert E S Equal a c n ≡ Refused q l → heads E S mode (Prod x a b) (Prod y c d) n ≡ Refused q l
heads-prod-refused E S mode x y a b c d n l q z = heads-prod-is E S mode x y a b c d n ∙ and-refused _ _ n l q z

pub heads-prod-within : (E : Environment) (S : Store) (mode : Mode) (x y : Bytes) (a b c d : Tree) (n : ℕ) → rest (heads E S mode (Prod x a b) (Prod y c d) n) ≤ rest (convert E S Equal a c n)
heads-prod-within E S mode x y a b c d n = rw (heads-prod-is E S mode x y a b c d n) (and-rest (convert E S Equal a c) (convert E S mode b d) (convert-rest E S mode b d) n)

heads-lam-is : (E : Environment) (S : Store) (mode : Mode) (x y : Bytes) (a b c d : Tree) (n : ℕ) → heads E S mode (Lam x a b) (Lam y c d) n ≡ (convert E S Equal a c and convert E S Equal b d) n
unfolding heads convert
heads-lam-is E S mode x y a b c d n = refl

pub heads-lam-yes : (E : Environment) (S : Store) (mode : Mode) (x y : Bytes) (a b c d : Tree) (n l : ℕ) → convert E S Equal a c n ≡ Done true l → heads E S mode (Lam x a b) (Lam y c d) n ≡ convert E S Equal b d l
heads-lam-yes E S mode x y a b c d n l z = heads-lam-is E S mode x y a b c d n ∙ and-yes _ _ n l z

pub heads-lam-no : (E : Environment) (S : Store) (mode : Mode) (x y : Bytes) (a b c d : Tree) (n l : ℕ) → convert E S Equal a c n ≡ Done false l → heads E S mode (Lam x a b) (Lam y c d) n ≡ Done false l
heads-lam-no E S mode x y a b c d n l z = heads-lam-is E S mode x y a b c d n ∙ and-no _ _ n l z

pub heads-lam-spent : (E : Environment) (S : Store) (mode : Mode) (x y : Bytes) (a b c d : Tree) (n : ℕ) → convert E S Equal a c n ≡ Spent → heads E S mode (Lam x a b) (Lam y c d) n ≡ Spent
heads-lam-spent E S mode x y a b c d n z = heads-lam-is E S mode x y a b c d n ∙ and-spent _ _ n z

pub heads-lam-refused : (E : Environment) (S : Store) (mode : Mode) (x y : Bytes) (a b c d : Tree) (n l : ℕ) (q : Reason) → convert E S Equal a c n ≡ Refused q l → heads E S mode (Lam x a b) (Lam y c d) n ≡ Refused q l
heads-lam-refused E S mode x y a b c d n l q z = heads-lam-is E S mode x y a b c d n ∙ and-refused _ _ n l q z

pub heads-lam-within : (E : Environment) (S : Store) (mode : Mode) (x y : Bytes) (a b c d : Tree) (n : ℕ) → rest (heads E S mode (Lam x a b) (Lam y c d) n) ≤ rest (convert E S Equal a c n)
heads-lam-within E S mode x y a b c d n = rw (heads-lam-is E S mode x y a b c d n) (and-rest (convert E S Equal a c) (convert E S Equal b d) (convert-rest E S Equal b d) n)

pub heads-var : (E : Environment) (S : Store) (mode : Mode) (i : ℕ) (u : Tree) (n : ℕ) → heads E S mode (Var i) u n ≡ spines E S (Var i) u n
unfolding heads spines
heads-var E S mode i u n = refl

pub heads-const : (E : Environment) (S : Store) (mode : Mode) (c : ℕ) (u : Tree) (n : ℕ) → heads E S mode (Const c) u n ≡ spines E S (Const c) u n
unfolding heads spines
heads-const E S mode c u n = refl

pub heads-ind : (E : Environment) (S : Store) (mode : Mode) (e : ℕ) (u : Tree) (n : ℕ) → heads E S mode (Ind e) u n ≡ spines E S (Ind e) u n
unfolding heads spines
heads-ind E S mode e u n = refl

pub heads-con : (E : Environment) (S : Store) (mode : Mode) (e k : ℕ) (u : Tree) (n : ℕ) → heads E S mode (Con e k) u n ≡ spines E S (Con e k) u n
unfolding heads spines
heads-con E S mode e k u n = refl

pub heads-app : (E : Environment) (S : Store) (mode : Mode) (f a : Tree) (u : Tree) (n : ℕ) → heads E S mode (App f a) u n ≡ spines E S (App f a) u n
unfolding heads spines
heads-app E S mode f a u n = refl

pub heads-match : (E : Environment) (S : Store) (mode : Mode) (e : ℕ) (r c : Tree) (bs : Arms) (u : Tree) (n : ℕ) → heads E S mode (Match e r c bs) u n ≡ spines E S (Match e r c bs) u n
unfolding heads spines
heads-match E S mode e r c bs u n = refl

pub heads-meta : (E : Environment) (S : Store) (mode : Mode) (m : ℕ) (s : Trees) (u : Tree) (n : ℕ) → heads E S mode (Meta m s) u n ≡ spines E S (Meta m s) u n
unfolding heads spines
heads-meta E S mode m s u n = refl

pub ruleset heads_rules = (convert-rest, heads-rest, spines-rest, heads-sort, heads-prod-yes, heads-prod-no, heads-prod-spent, heads-prod-refused, heads-prod-within, heads-lam-yes, heads-lam-no, heads-lam-spent, heads-lam-refused, heads-lam-within, heads-var, heads-const, heads-ind, heads-con, heads-app, heads-match, heads-meta)

pub spines-var : (E : Environment) (S : Store) (i j : ℕ) (n : ℕ) → spines E S (Var i) (Var j) n ≡ Done (nat_eq i j) n
unfolding spines
spines-var E S i j n = refl

pub spines-const : (E : Environment) (S : Store) (c d : ℕ) (n : ℕ) → spines E S (Const c) (Const d) n ≡ Done (nat_eq c d) n
unfolding spines
spines-const E S c d n = refl

pub spines-ind : (E : Environment) (S : Store) (e d : ℕ) (n : ℕ) → spines E S (Ind e) (Ind d) n ≡ Done (nat_eq e d) n
unfolding spines
spines-ind E S e d n = refl

pub spines-con : (E : Environment) (S : Store) (e k d j : ℕ) (n : ℕ) → spines E S (Con e k) (Con d j) n ≡ Done (nat_eq e d && nat_eq k j) n
unfolding spines
spines-con E S e k d j n = refl

spines-app-is : (E : Environment) (S : Store) (f a g b : Tree) (n : ℕ) → spines E S (App f a) (App g b) n ≡ (spines E S f g and convert E S Equal a b) n
unfolding spines convert
spines-app-is E S f a g b n = refl

pub spines-app-yes : (E : Environment) (S : Store) (f a g b : Tree) (n l : ℕ) → spines E S f g n ≡ Done true l → spines E S (App f a) (App g b) n ≡ convert E S Equal a b l
spines-app-yes E S f a g b n l z = spines-app-is E S f a g b n ∙ and-yes _ _ n l z

pub spines-app-no : (E : Environment) (S : Store) (f a g b : Tree) (n l : ℕ) → spines E S f g n ≡ Done false l → spines E S (App f a) (App g b) n ≡ Done false l
spines-app-no E S f a g b n l z = spines-app-is E S f a g b n ∙ and-no _ _ n l z

pub spines-app-spent : (E : Environment) (S : Store) (f a g b : Tree) (n : ℕ) → spines E S f g n ≡ Spent → spines E S (App f a) (App g b) n ≡ Spent
spines-app-spent E S f a g b n z = spines-app-is E S f a g b n ∙ and-spent _ _ n z

pub spines-app-refused : (E : Environment) (S : Store) (f a g b : Tree) (n l : ℕ) (q : Reason) → spines E S f g n ≡ Refused q l → spines E S (App f a) (App g b) n ≡ Refused q l
spines-app-refused E S f a g b n l q z = spines-app-is E S f a g b n ∙ and-refused _ _ n l q z

pub spines-app-within : (E : Environment) (S : Store) (f a g b : Tree) (n : ℕ) → rest (spines E S (App f a) (App g b) n) ≤ rest (spines E S f g n)
spines-app-within E S f a g b n = rw (spines-app-is E S f a g b n) (and-rest (spines E S f g) (convert E S Equal a b) (convert-rest E S Equal a b) n)

pub spines-meta : (E : Environment) (S : Store) (m k : ℕ) (s r : Trees) (n : ℕ) → nat_eq m k ≡ true → spines E S (Meta m s) (Meta k r) n ≡ terms E S s r n
unfolding spines terms
spines-meta E S m k s r n h = ap (λ (y : Bool). (if y then terms E S s r else give false) n) h

pub spines-meta_apart : (E : Environment) (S : Store) (m k : ℕ) (s r : Trees) (n : ℕ) → nat_eq m k ≡ false → spines E S (Meta m s) (Meta k r) n ≡ Done false n
unfolding spines terms
spines-meta_apart E S m k s r n h = ap (λ (y : Bool). (if y then terms E S s r else give false) n) h

-- the matched terms of two matches, and then the bodies of their branches
unfoldable pub matches : Environment → Store → Tree → Tree → Arms → Arms → Charged Bool
matches E S c t bs cs = convert E S Equal c t and bodies E S bs cs

pub matches-rest : (E : Environment) (S : Store) (c t : Tree) (bs cs : Arms) (n : ℕ) → rest (matches E S c t bs cs n) ≤ n
unfolding matches
matches-rest E S c t bs cs n = omega (arith, and-rest (convert E S Equal c t) (bodies E S bs cs) (bodies-rest E S bs cs) n, convert-rest E S Equal c t n)

spines-match-is : (E : Environment) (S : Store) (e d : ℕ) (r c p t : Tree) (bs cs : Arms) (n : ℕ) → (nat_eq e d && same_shapes bs cs) ≡ true → spines E S (Match e r c bs) (Match d p t cs) n ≡ (convert E S Equal r p and matches E S c t bs cs) n
unfolding spines convert bodies matches
spines-match-is E S e d r c p t bs cs n h = ap (λ (y : Bool). (if y then convert E S Equal r p and convert E S Equal c t and bodies E S bs cs else give false) n) h

pub spines-match-yes : (E : Environment) (S : Store) (e d : ℕ) (r c p t : Tree) (bs cs : Arms) (n l : ℕ) → (nat_eq e d && same_shapes bs cs) ≡ true → convert E S Equal r p n ≡ Done true l → spines E S (Match e r c bs) (Match d p t cs) n ≡ matches E S c t bs cs l
spines-match-yes E S e d r c p t bs cs n l h z = spines-match-is E S e d r c p t bs cs n h ∙ and-yes _ _ n l z

pub spines-match-no : (E : Environment) (S : Store) (e d : ℕ) (r c p t : Tree) (bs cs : Arms) (n l : ℕ) → (nat_eq e d && same_shapes bs cs) ≡ true → convert E S Equal r p n ≡ Done false l → spines E S (Match e r c bs) (Match d p t cs) n ≡ Done false l
spines-match-no E S e d r c p t bs cs n l h z = spines-match-is E S e d r c p t bs cs n h ∙ and-no _ _ n l z

pub spines-match-spent : (E : Environment) (S : Store) (e d : ℕ) (r c p t : Tree) (bs cs : Arms) (n : ℕ) → (nat_eq e d && same_shapes bs cs) ≡ true → convert E S Equal r p n ≡ Spent → spines E S (Match e r c bs) (Match d p t cs) n ≡ Spent
spines-match-spent E S e d r c p t bs cs n h z = spines-match-is E S e d r c p t bs cs n h ∙ and-spent _ _ n z

pub spines-match-refused : (E : Environment) (S : Store) (e d : ℕ) (r c p t : Tree) (bs cs : Arms) (n l : ℕ) (q : Reason) → (nat_eq e d && same_shapes bs cs) ≡ true → convert E S Equal r p n ≡ Refused q l → spines E S (Match e r c bs) (Match d p t cs) n ≡ Refused q l
spines-match-refused E S e d r c p t bs cs n l q h z = spines-match-is E S e d r c p t bs cs n h ∙ and-refused _ _ n l q z

pub spines-match-within : (E : Environment) (S : Store) (e d : ℕ) (r c p t : Tree) (bs cs : Arms) (n : ℕ) → (nat_eq e d && same_shapes bs cs) ≡ true → rest (spines E S (Match e r c bs) (Match d p t cs) n) ≤ rest (convert E S Equal r p n)
spines-match-within E S e d r c p t bs cs n h = rw (spines-match-is E S e d r c p t bs cs n h) (and-rest (convert E S Equal r p) (matches E S c t bs cs) (matches-rest E S c t bs cs) n)

pub spines-match_apart : (E : Environment) (S : Store) (e d : ℕ) (r c p t : Tree) (bs cs : Arms) (n : ℕ) → (nat_eq e d && same_shapes bs cs) ≡ false → spines E S (Match e r c bs) (Match d p t cs) n ≡ Done false n
unfolding spines convert bodies
spines-match_apart E S e d r c p t bs cs n h = ap (λ (y : Bool). (if y then convert E S Equal r p and convert E S Equal c t and bodies E S bs cs else give false) n) h

matches-is : (E : Environment) (S : Store) (c t : Tree) (bs cs : Arms) (n : ℕ) → matches E S c t bs cs n ≡ (convert E S Equal c t and bodies E S bs cs) n
unfolding matches
matches-is E S c t bs cs n = refl

pub matches-yes : (E : Environment) (S : Store) (c t : Tree) (bs cs : Arms) (n l : ℕ) → convert E S Equal c t n ≡ Done true l → matches E S c t bs cs n ≡ bodies E S bs cs l
matches-yes E S c t bs cs n l z = matches-is E S c t bs cs n ∙ and-yes _ _ n l z

pub matches-no : (E : Environment) (S : Store) (c t : Tree) (bs cs : Arms) (n l : ℕ) → convert E S Equal c t n ≡ Done false l → matches E S c t bs cs n ≡ Done false l
matches-no E S c t bs cs n l z = matches-is E S c t bs cs n ∙ and-no _ _ n l z

pub matches-spent : (E : Environment) (S : Store) (c t : Tree) (bs cs : Arms) (n : ℕ) → convert E S Equal c t n ≡ Spent → matches E S c t bs cs n ≡ Spent
matches-spent E S c t bs cs n z = matches-is E S c t bs cs n ∙ and-spent _ _ n z

pub matches-refused : (E : Environment) (S : Store) (c t : Tree) (bs cs : Arms) (n l : ℕ) (q : Reason) → convert E S Equal c t n ≡ Refused q l → matches E S c t bs cs n ≡ Refused q l
matches-refused E S c t bs cs n l q z = matches-is E S c t bs cs n ∙ and-refused _ _ n l q z

pub matches-within : (E : Environment) (S : Store) (c t : Tree) (bs cs : Arms) (n : ℕ) → rest (matches E S c t bs cs n) ≤ rest (convert E S Equal c t n)
matches-within E S c t bs cs n = rw (matches-is E S c t bs cs n) (and-rest (convert E S Equal c t) (bodies E S bs cs) (bodies-rest E S bs cs) n)

pub ruleset spines_rules = (convert-rest, spines-rest, terms-rest, bodies-rest, matches-rest, spines-var, spines-const, spines-ind, spines-con, spines-app-yes, spines-app-no, spines-app-spent, spines-app-refused, spines-app-within, spines-meta, spines-meta_apart, spines-match-yes, spines-match-no, spines-match-spent, spines-match-refused, spines-match-within, spines-match_apart, matches-yes, matches-no, matches-spent, matches-refused, matches-within)

terms-item-is : (E : Environment) (S : Store) (t u : Tree) (s r : Trees) (n : ℕ) → terms E S (Item t s) (Item u r) n ≡ (convert E S Equal t u and terms E S s r) n
unfolding terms convert
terms-item-is E S t u s r n = refl

pub terms-item-yes : (E : Environment) (S : Store) (t u : Tree) (s r : Trees) (n l : ℕ) → convert E S Equal t u n ≡ Done true l → terms E S (Item t s) (Item u r) n ≡ terms E S s r l
terms-item-yes E S t u s r n l z = terms-item-is E S t u s r n ∙ and-yes _ _ n l z

pub terms-item-no : (E : Environment) (S : Store) (t u : Tree) (s r : Trees) (n l : ℕ) → convert E S Equal t u n ≡ Done false l → terms E S (Item t s) (Item u r) n ≡ Done false l
terms-item-no E S t u s r n l z = terms-item-is E S t u s r n ∙ and-no _ _ n l z

pub terms-item-spent : (E : Environment) (S : Store) (t u : Tree) (s r : Trees) (n : ℕ) → convert E S Equal t u n ≡ Spent → terms E S (Item t s) (Item u r) n ≡ Spent
terms-item-spent E S t u s r n z = terms-item-is E S t u s r n ∙ and-spent _ _ n z

pub terms-item-refused : (E : Environment) (S : Store) (t u : Tree) (s r : Trees) (n l : ℕ) (q : Reason) → convert E S Equal t u n ≡ Refused q l → terms E S (Item t s) (Item u r) n ≡ Refused q l
terms-item-refused E S t u s r n l q z = terms-item-is E S t u s r n ∙ and-refused _ _ n l q z

pub terms-item-within : (E : Environment) (S : Store) (t u : Tree) (s r : Trees) (n : ℕ) → rest (terms E S (Item t s) (Item u r) n) ≤ rest (convert E S Equal t u n)
terms-item-within E S t u s r n = rw (terms-item-is E S t u s r n) (and-rest (convert E S Equal t u) (terms E S s r) (terms-rest E S s r) n)

pub terms-end : (E : Environment) (S : Store) (n : ℕ) → terms E S End End n ≡ Done true n
unfolding terms
terms-end E S n = refl

pub terms-longer : (E : Environment) (S : Store) (t : Tree) (s : Trees) (n : ℕ) → terms E S (Item t s) End n ≡ Done false n
unfolding terms
terms-longer E S t s n = refl

pub terms-shorter : (E : Environment) (S : Store) (t : Tree) (s : Trees) (n : ℕ) → terms E S End (Item t s) n ≡ Done false n
unfolding terms
terms-shorter E S t s n = refl

pub ruleset terms_rules = (convert-rest, terms-rest, terms-end, terms-longer, terms-shorter, terms-item-yes, terms-item-no, terms-item-spent, terms-item-refused, terms-item-within)

bodies-arm-is : (E : Environment) (S : Store) (xs ys : List Bytes) (b c : Tree) (bs cs : Arms) (n : ℕ) → bodies E S (Arm xs b bs) (Arm ys c cs) n ≡ (convert E S Equal b c and bodies E S bs cs) n
unfolding bodies convert
bodies-arm-is E S xs ys b c bs cs n = refl

pub bodies-arm-yes : (E : Environment) (S : Store) (xs ys : List Bytes) (b c : Tree) (bs cs : Arms) (n l : ℕ) → convert E S Equal b c n ≡ Done true l → bodies E S (Arm xs b bs) (Arm ys c cs) n ≡ bodies E S bs cs l
bodies-arm-yes E S xs ys b c bs cs n l z = bodies-arm-is E S xs ys b c bs cs n ∙ and-yes _ _ n l z

pub bodies-arm-no : (E : Environment) (S : Store) (xs ys : List Bytes) (b c : Tree) (bs cs : Arms) (n l : ℕ) → convert E S Equal b c n ≡ Done false l → bodies E S (Arm xs b bs) (Arm ys c cs) n ≡ Done false l
bodies-arm-no E S xs ys b c bs cs n l z = bodies-arm-is E S xs ys b c bs cs n ∙ and-no _ _ n l z

pub bodies-arm-spent : (E : Environment) (S : Store) (xs ys : List Bytes) (b c : Tree) (bs cs : Arms) (n : ℕ) → convert E S Equal b c n ≡ Spent → bodies E S (Arm xs b bs) (Arm ys c cs) n ≡ Spent
bodies-arm-spent E S xs ys b c bs cs n z = bodies-arm-is E S xs ys b c bs cs n ∙ and-spent _ _ n z

pub bodies-arm-refused : (E : Environment) (S : Store) (xs ys : List Bytes) (b c : Tree) (bs cs : Arms) (n l : ℕ) (q : Reason) → convert E S Equal b c n ≡ Refused q l → bodies E S (Arm xs b bs) (Arm ys c cs) n ≡ Refused q l
bodies-arm-refused E S xs ys b c bs cs n l q z = bodies-arm-is E S xs ys b c bs cs n ∙ and-refused _ _ n l q z

pub bodies-arm-within : (E : Environment) (S : Store) (xs ys : List Bytes) (b c : Tree) (bs cs : Arms) (n : ℕ) → rest (bodies E S (Arm xs b bs) (Arm ys c cs) n) ≤ rest (convert E S Equal b c n)
bodies-arm-within E S xs ys b c bs cs n = rw (bodies-arm-is E S xs ys b c bs cs n) (and-rest (convert E S Equal b c) (bodies E S bs cs) (bodies-rest E S bs cs) n)

pub bodies-end : (E : Environment) (S : Store) (n : ℕ) → bodies E S NoArm NoArm n ≡ Done true n
unfolding bodies
bodies-end E S n = refl

pub bodies-longer : (E : Environment) (S : Store) (xs : List Bytes) (b : Tree) (bs : Arms) (n : ℕ) → bodies E S (Arm xs b bs) NoArm n ≡ Done false n
unfolding bodies
bodies-longer E S xs b bs n = refl

pub bodies-shorter : (E : Environment) (S : Store) (xs : List Bytes) (b : Tree) (bs : Arms) (n : ℕ) → bodies E S NoArm (Arm xs b bs) n ≡ Done false n
unfolding bodies
bodies-shorter E S xs b bs n = refl

pub ruleset bodies_rules = (convert-rest, bodies-rest, bodies-end, bodies-longer, bodies-shorter, bodies-arm-yes, bodies-arm-no, bodies-arm-spent, bodies-arm-refused, bodies-arm-within)
