-- Where a closed tactical succeeds, stepping its tinycals in the order written, each at the full allowance, leads to the same.
use Rattle.std.proofs.Common.{◌≡◌, ℕ, zero, suc, ◌≤◌, Bool, true, false, List, [], ◌∷◌, ◌++◌, Option, None, Some, refl, ap, arith, subst, sym, ◌∙◌, if◌then◌else◌, nat_eq}
use Rattle.std.proofs.lemmas.List.{append_assoc, append-nil}
use Rattle.mt_tiny.specs.Outcomes.{Outcome, Done, Stopped, give, ◌>>=◌, and_then, Then}
use Rattle.mt_tiny.specs.Provers.{ProverRules}
use Rattle.mt_tiny.specs.Goals.{Refusal, Placed, numbered, goals_of, behind, taken, before, with_taken, picked, opened, any_open, may_focus, acted}
use Rattle.mt_tiny.specs.declared.levels.Level.{Level}
use Rattle.mt_tiny.specs.declared.levels.Tag.TheVariants as tag
use Rattle.mt_tiny.specs.declared.Tiny.{Tiny}
use Rattle.mt_tiny.specs.declared.Tiny.TheVariants as tiny
use Rattle.mt_tiny.specs.Stepping.{Stacked, stack, Answer, opening, if_fresh, at_positions, zooming, leaving, tiny_step, onward, stepped}
use Rattle.mt_tactical.specs.Tacticals.{Sequence, Step, Choices, End, Item, Action, Skip, Semicolon, Dot, Branches, Focus, NoBranch, Branch}
use Rattle.mt_tactical.specs.declared.Pick.{Pick}
use Rattle.mt_tactical.specs.declared.Pick.TheVariants as pick
use Rattle.mt_tactical.specs.Meaning.{first_place, Stop, at_place, branched, signed, unfocused, focused, at_positions as chosen_at, meaning, item, branches, block_step}
use Rattle.mt_tactical.specs.Tinycals.{sign_of, tinycals, item_tinies, branch_tinies}
use Rattle.mt_tactical_laws.proofs.Answers.{then-at, then-map, then-bind, then-stopping}
use Rattle.mt_tactical_laws.proofs.Greater.{LawfulOn, at_full, acted-more}

-- a position is no zero, since fresh is one
abbrev IsPosition : ℕ → Type 0
IsPosition zero = ⊥
IsPosition (suc k) = Unit {0}

abbrev Positive : Placed → Type 0
Positive [] = Unit {0}
Positive (x ∷ xs) = IsPosition x.0 × Positive xs

numbered-positive : (i : ℕ) (gs : List ℕ) → Positive (numbered (suc i) gs)
numbered-positive i [] = tt
numbered-positive i (g ∷ gs) = (tt, numbered-positive (suc i) gs)

abbrev OnTaken : Option (ℕ × Placed) → Type 0
OnTaken None = Unit {0}
OnTaken (Some r) = Positive r.1

abbrev OnPicked : Option (List ℕ × Placed) → Type 0
OnPicked None = Unit {0}
OnPicked (Some r) = Positive r.1

behind-positive : (x : ℕ × ℕ) (o : Option (ℕ × Placed)) → IsPosition x.0 → OnTaken o → OnTaken (behind x o)
behind-positive x None h t = tt
behind-positive x (Some r) h t = (h, t)

if_taken-positive : (x : ℕ × ℕ) (xs : Placed) (b : Bool) (o : Option (ℕ × Placed)) → Positive (x ∷ xs) → OnTaken o
    → OnTaken (if b then Some (x.1, xs) else behind x o)
if_taken-positive x xs true o h t = h.1
if_taken-positive x xs false o h t = behind-positive x o h.0 t

before-positive : (g : ℕ) (o : Option (List ℕ × Placed)) → OnPicked o → OnPicked (before g o)
before-positive g None t = tt
before-positive g (Some r) t = t

with_taken-positive : (is : List ℕ) (o : Option (ℕ × Placed)) → OnTaken o → ((ys : Placed) → Positive ys → OnPicked (picked is ys))
    → OnPicked (with_taken o (λ ys. picked is ys))
with_taken-positive is None t h = tt
with_taken-positive is (Some r) t h = before-positive r.0 (picked is r.1) (h r.1 t)

-- what is taken away keeps the others as positions
taken-positive : (i : ℕ) (xs : Placed) → Positive xs → OnTaken (taken i xs)
taken-positive i [] h = tt
taken-positive i (x ∷ xs) h = if_taken-positive x xs (nat_eq i x.0) (taken i xs) h (taken-positive i xs h.1)

picked-positive : (is : List ℕ) (xs : Placed) → Positive xs → OnPicked (picked is xs)
picked-positive [] xs h = h
picked-positive (i ∷ is) xs h = with_taken-positive is (taken i xs) (taken-positive i xs h) (λ ys k. picked-positive is ys k)

abbrev OnSome : {B : Type 0} → Option B → Type 0
OnSome None = ⊥
OnSome (Some b) = Unit {0}

some_not_none : {B : Type 0} {b : B} → Some b ≡ None → ⊥
some_not_none e = subst OnSome e tt

module _ {P A R : Type 0} (v : ProverRules P A R) (w : LawfulOn v) (K : ℕ) where
  -- a branch level
  abbrev in_branches : List ℕ → List ℕ → List ℕ → Placed → ℕ → Level
  in_branches f p d lf fr = record { focus = f; pending = p; done = d; left = lf; fresh = fr; tag = tag.Branch }

  abbrev then_steps : Option (P × Stacked) → List (Tiny A) → Option (P × Stacked)
  then_steps None ys = None
  then_steps (Some x) ys = stepped v K ys x.0 x.1

  onward-then : (o : Outcome (Refusal R) (P × Stacked)) (f g : P → Stacked → Option (P × Stacked)) (ys : List (Tiny A))
      → ((s : P) (L : Stacked) → f s L ≡ then_steps (g s L) ys) → onward v o f ≡ then_steps (onward v o g) ys
  onward-then (Done x left) f g ys h = h x.0 x.1
  onward-then (Stopped r left) f g ys h = refl

  stepped-append : (xs ys : List (Tiny A)) (s : P) (L : Stacked) → stepped v K (xs ++ ys) s L ≡ then_steps (stepped v K xs s L) ys
  stepped-append [] ys s L = refl
  stepped-append (t ∷ xs) ys s L =
      onward-then (tiny_step v t s L.top L.below K) (λ s' L'. stepped v K (xs ++ ys) s' L') (λ s' L'. stepped v K xs s' L') ys (λ s' L'. stepped-append xs ys s' L')

  in_row : (xs ys : List (Tiny A)) (s : P) (L : Stacked) (s' : P) (L' : Stacked) (r : Option (P × Stacked))
      → stepped v K xs s L ≡ Some (s', L') → stepped v K ys s' L' ≡ r → stepped v K (xs ++ ys) s L ≡ r
  in_row xs ys s L s' L' r a b = stepped-append xs ys s L ∙ (ap (λ o. then_steps o ys) a ∙ b)

  -- the steps lead to this state, this focus and pending; all else but fresh is as before
  abbrev Led : List (Tiny A) → P → Level → List Level → P × List ℕ × List ℕ → ℕ → Type 0
  Led ts s T bs x l = (l ≤ K) × (fr : ℕ) × (stepped v K ts s (stack T bs) ≡ Some (x.0, stack (record T { focus = x.1; pending = x.2; fresh = fr }) bs))

  abbrev SequenceLaw : Sequence A → Type 0
  SequenceLaw c = (s : P) (T : Level) (bs : List Level) (n : ℕ) → n ≤ K → Then (meaning v c s T.focus T.pending n) (Led (tinycals c) s T bs)

  abbrev StepLaw : Step A → Type 0
  StepLaw i = (s : P) (T : Level) (bs : List Level) (n : ℕ) → n ≤ K → Then (item v i s T.focus T.pending n) (Led (item_tinies i) s T bs)

  -- the steps lead to a branch level in which everything together is the goals so far
  abbrev Ended : List (Tiny A) → P → Level → List Level → P × List ℕ → ℕ → Type 0
  Ended ts s T bs x l =
      (l ≤ K) × (f : List ℕ) × (p : List ℕ) × (d : List ℕ) × (lf : Placed) × (fr : ℕ)
      × (stepped v K ts s (stack T bs) ≡ Some (x.0, stack (in_branches f p d lf fr) bs)) × (d ++ f ++ p ++ goals_of lf ≡ x.1)

  -- just after `[` or `|`: x is the focused goal at its position
  abbrev FirstLaw : Choices A → Type 0
  FirstLaw c =
      (s : P) (d : List ℕ) (x : ℕ × ℕ) (more : Placed) (bs : List Level) (n : ℕ) → n ≤ K → IsPosition x.0 → Positive more
      → Then (branches v c s d (x ∷ more) n) (Ended (branch_tinies [] c) s (in_branches (x.1 ∷ []) [] d more x.0) bs)

  -- before `|` or `]`
  abbrev BetweenLaw : Choices A → Type 0
  BetweenLaw c =
      (s : P) (f p d : List ℕ) (lf : Placed) (fr : ℕ) (bs : List Level) (n : ℕ) → n ≤ K → Positive lf
      → Then (branches v c s (d ++ f ++ p) lf n) (Ended (branch_tinies (tiny.Bar ∷ []) c) s (in_branches f p d lf fr) bs)

  -- sequences
  end-law : SequenceLaw End
  end-law s T bs n h = (h, T.fresh, refl)

  item-law : (i : Step A) (c : Sequence A) → StepLaw i → SequenceLaw c → SequenceLaw (Item i c)
  item-law i c a b s T bs n h =
      then-bind (Led (item_tinies i) s T bs) (Led (tinycals (Item i c)) s T bs) (item v i s T.focus T.pending n) (λ x. meaning v c x.0 x.1 x.2) (a s T bs n h)
      (λ x l t. then-map (Led (tinycals c) x.0 (record T { focus = x.1; pending = x.2; fresh = t.1 }) bs) (Led (tinycals (Item i c)) s T bs) (meaning v c x.0 x.1 x.2 l)
      (b x.0 (record T { focus = x.1; pending = x.2; fresh = t.1 }) bs l t.0)
      (λ y l' u. (u.0, u.1, in_row (item_tinies i) (tinycals c) s (stack T bs) x.0 (stack (record T { focus = x.1; pending = x.2; fresh = t.1 }) bs) (Some (y.0, stack (record T { focus = y.1; pending = y.2; fresh = u.1 }) bs)) t.2 u.2)))

  action-law : (at : ℕ) (a : A) → StepLaw (Action at a)
  action-law at a s T bs n h =
      then-bind (λ x l. (l ≤ n) × (left : ℕ) × (acted v a s T.focus K ≡ Done x left)) (Led (tiny.Action a ∷ []) s T bs) (at_place v at (acted v a s T.focus) n) (λ x. give (x.0, x.1, T.pending))
      (then-stopping (λ x l. (l ≤ n) × (left : ℕ) × (acted v a s T.focus K ≡ Done x left)) (λ r. (r, at)) (acted v a s T.focus n) (at_full (acted v a s T.focus) n K (acted-more v w a s T.focus) h))
      (λ x l t. (omega (arith, h, t.0), 0, rw t.2 refl))

  dot-law : (at : ℕ) → StepLaw (Dot at)
  dot-law at s T bs n h = (h, 0, refl)

  -- branches
  fresh-law : (k : ℕ) (m : Answer v) → IsPosition k → if_fresh v k m ≡ m
  fresh-law zero m h = absurd h
  fresh-law (suc k) m h = refl

  -- the goals of a branch are taken: its body, then the other branches
  body-law : (body : Sequence A) (rest : Choices A) → SequenceLaw body → BetweenLaw rest
      → (s : P) (f d : List ℕ) (lf : Placed) (fr : ℕ) (bs : List Level) (n : ℕ) → n ≤ K → Positive lf
      → Then (and_then (meaning v body s f [] n) (λ x. branches v rest x.0 (d ++ x.1 ++ x.2) lf))
      (Ended (tinycals body ++ branch_tinies (tiny.Bar ∷ []) rest) s (in_branches f [] d lf fr) bs)
  body-law body rest a b s f d lf fr bs n h q =
      then-bind (Led (tinycals body) s (in_branches f [] d lf fr) bs) (Ended (tinycals body ++ branch_tinies (tiny.Bar ∷ []) rest) s (in_branches f [] d lf fr) bs)
      (meaning v body s f [] n) (λ x. branches v rest x.0 (d ++ x.1 ++ x.2) lf) (a s (in_branches f [] d lf fr) bs n h)
      (λ x l t. then-map (Ended (branch_tinies (tiny.Bar ∷ []) rest) x.0 (in_branches x.1 x.2 d lf t.1) bs)
      (Ended (tinycals body ++ branch_tinies (tiny.Bar ∷ []) rest) s (in_branches f [] d lf fr) bs) (branches v rest x.0 (d ++ x.1 ++ x.2) lf l)
      (b x.0 x.1 x.2 d lf t.1 bs l t.0 q)
      (λ y l' u. (
        u.0,
        u.1,
        u.2,
        u.3,
        u.4,
        u.5,
        in_row (tinycals body) (branch_tinies (tiny.Bar ∷ []) rest) s (stack (in_branches f [] d lf fr) bs) x.0 (stack (in_branches x.1 x.2 d lf t.1) bs)
            (Some (y.0, stack (in_branches u.1 u.2 u.3 u.4 u.5) bs)) t.2 u.6,
        u.7,
      )))

  -- what steps on a level lead to after a first step that leads to another
  after_step : (t : Tiny A) (ts : List (Tiny A)) (s : P) (T T' : Level) (bs : List Level)
      → ((g : P → Stacked → Option (P × Stacked)) → onward v (tiny_step v t s T bs K) g ≡ g s (stack T' bs))
      → (o : Outcome (Stop R) (P × List ℕ)) → Then o (Ended ts s T' bs) → Then o (Ended (t ∷ ts) s T bs)
  after_step t ts s T T' bs e o h =
      then-map (Ended ts s T' bs) (Ended (t ∷ ts) s T bs) o h
      (λ x l u. (u.0, u.1, u.2, u.3, u.4, u.5, e (λ s' L'. stepped v K ts s' L') ∙ u.6, u.7))

  positions-law : (body : Sequence A) (rest : Choices A) → SequenceLaw body → BetweenLaw rest
      → (at : ℕ) (ns : List ℕ) (o : Option (List ℕ × Placed)) → OnPicked o
      → (s : P) (d : List ℕ) (x : ℕ × ℕ) (more : Placed) (bs : List Level) (n : ℕ) → n ≤ K → IsPosition x.0 → picked ns (x ∷ more) ≡ o
      → Then (and_then (chosen_at v at o n) (λ r. meaning v body s r.0 [] >>= (λ y. branches v rest y.0 (d ++ y.1 ++ y.2) r.1)))
      (Ended (tiny.Positions ns ∷ (tinycals body ++ branch_tinies (tiny.Bar ∷ []) rest)) s (in_branches (x.1 ∷ []) [] d more x.0) bs)
  positions-law body rest a b at ns None q s d x more bs n h k e = tt
  positions-law body rest a b at ns (Some r) q s d x more bs n h k e =
      after_step (tiny.Positions ns) (tinycals body ++ branch_tinies (tiny.Bar ∷ []) rest) s (in_branches (x.1 ∷ []) [] d more x.0) (in_branches r.0 [] d r.1 0) bs
      (λ g. ap (λ m. onward v (m K) g) (fresh-law x.0 (at_positions v s (in_branches (x.1 ∷ []) [] d more x.0) bs (picked ns (x ∷ more))) k)
      ∙ ap (λ o. onward v (at_positions v s (in_branches (x.1 ∷ []) [] d more x.0) bs o K) g) e)
      (and_then (meaning v body s r.0 [] n) (λ y. branches v rest y.0 (d ++ y.1 ++ y.2) r.1))
      (body-law body rest a b s r.0 d r.1 0 bs n h q)

  first-branch : (at : ℕ) (choice : Pick) (body : Sequence A) (rest : Choices A) → SequenceLaw body → BetweenLaw rest → FirstLaw (Branch at choice body rest)
  first-branch at pick.Next body rest a b s d x more bs n h k q = body-law body rest a b s (x.1 ∷ []) d more x.0 bs n h q
  first-branch at (pick.Positions place ns) body rest a b s d x more bs n h k q =
      positions-law body rest a b place ns (picked ns (x ∷ more)) (picked-positive ns (x ∷ more) (k, q)) s d x more bs n h k refl
  first-branch at (pick.Rest place) body rest a b s d x more bs n h k q =
      after_step tiny.Wildcard (tinycals body ++ branch_tinies (tiny.Bar ∷ []) rest) s (in_branches (x.1 ∷ []) [] d more x.0) (in_branches (goals_of (x ∷ more)) [] d [] 0) bs
      (λ g. ap (λ m. onward v (m K) g) (fresh-law x.0 (give (s, stack (in_branches (goals_of (x ∷ more)) [] d [] 0) bs)) k))
      (and_then (meaning v body s (goals_of (x ∷ more)) [] n) (λ y. branches v rest y.0 (d ++ y.1 ++ y.2) []))
      (body-law body rest a b s (goals_of (x ∷ more)) d [] 0 bs n h tt)

  first-none : FirstLaw NoBranch
  first-none s d x more bs n h k q = (h, x.1 ∷ [], [], d, more, x.0, refl, rw (append-nil (d ++ (x.1 ∷ []))) (append_assoc d (x.1 ∷ []) (goals_of more)))

  between-none : BetweenLaw NoBranch
  between-none s f p d lf fr bs n h q = (h, f, p, d, lf, fr, refl, refl)

  between-branch : (at : ℕ) (choice : Pick) (body : Sequence A) (rest : Choices A) → FirstLaw (Branch at choice body rest) → BetweenLaw (Branch at choice body rest)
  between-branch at choice body rest a s f p d [] fr bs n h q = tt
  between-branch at choice body rest a s f p d (x ∷ more) fr bs n h q =
      after_step tiny.Bar (branch_tinies [] (Branch at choice body rest)) s (in_branches f p d (x ∷ more) fr) (in_branches (x.1 ∷ []) [] (d ++ f ++ p) more x.0) bs
      (λ g. refl)
      (branches v (Branch at choice body rest) s (d ++ f ++ p) (x ∷ more) n)
      (a s (d ++ f ++ p) x more bs n h q.0 q.1)

  opened-law : (c : Choices A) (close : ℕ) → FirstLaw c → (s : P) (T : Level) (bs : List Level) (n : ℕ) → n ≤ K → (gs : List ℕ) → opened v s T.focus ≡ gs
      → Then (branched v (first_place c close) (λ lf. branches v c s [] lf) gs T.pending n) (Led (item_tinies (Branches c close)) s T bs)
  opened-law c close a s T bs n h [] e = tt
  opened-law c close a s T bs n h (g ∷ gs) e =
      then-bind (Ended (branch_tinies [] c) s (in_branches (g ∷ []) [] [] (numbered 2 gs) 1) (record T { focus = []; fresh = 0 } ∷ bs))
      (Led (item_tinies (Branches c close)) s T bs) (branches v c s [] (numbered 1 (g ∷ gs)) n) (λ x. give (x.0, opened v x.0 x.1, T.pending))
      (a s [] (1, g) (numbered 2 gs) (record T { focus = []; fresh = 0 } ∷ bs) n h tt (numbered-positive 1 gs))
      (λ x l u. (
        u.0,
        0,
        ap (λ o. onward v (opening v s T bs o K) (λ s' L'. stepped v K (branch_tinies [] c ++ (tiny.BranchClose ∷ [])) s' L')) e
            ∙ in_row (branch_tinies [] c) (tiny.BranchClose ∷ []) s (stack (in_branches (g ∷ []) [] [] (numbered 2 gs) 1) (record T { focus = []; fresh = 0 } ∷ bs))
            x.0 (stack (in_branches u.1 u.2 u.3 u.4 u.5) (record T { focus = []; fresh = 0 } ∷ bs))
            (Some (x.0, stack (record T { focus = opened v x.0 x.1; fresh = 0 }) bs)) u.6
            (ap (λ gs. Some (x.0, stack (record T { focus = opened v x.0 gs; fresh = 0 }) bs)) u.7),
      ))

  branches-law : (c : Choices A) (close : ℕ) → FirstLaw c → StepLaw (Branches c close)
  branches-law c close a s T bs n h = opened-law c close a s T bs n h (opened v s T.focus) refl

  -- focus
  abbrev in_focus_on : List ℕ × List ℕ → ℕ → Level
  in_focus_on x fr = record { focus = x.0; pending = x.1; done = []; left = []; fresh = fr; tag = tag.Focus }

  sign-law : (dot : Bool) (ts : List (Tiny A)) (s : P) (ns : List ℕ) (bs : List Level)
      → stepped v K (sign_of dot ∷ ts) s (stack (in_focus_on (ns, []) 0) bs) ≡ stepped v K ts s (stack (in_focus_on (signed v dot s ns) 0) bs)
  sign-law true ts s ns bs = refl
  sign-law false ts s ns bs = refl

  unfocus-law : (at : ℕ) (s₀ : P) (T : Level) (bs : List Level) (ts : List (Tiny A)) (s : P) (x : List ℕ × List ℕ) (fr : ℕ) (n : ℕ) → n ≤ K
      → (b : Bool) → any_open v s (x.0 ++ x.1) ≡ b
      → stepped v K (ts ++ (tiny.Unfocus ∷ [])) s₀ (stack T bs) ≡ stepped v K (tiny.Unfocus ∷ []) s (stack (in_focus_on x fr) (record T { fresh = 0 } ∷ bs))
      → Then (unfocused v at s b T.focus T.pending n) (Led (ts ++ (tiny.Unfocus ∷ [])) s₀ T bs)
  unfocus-law at s₀ T bs ts s x fr n h true e r = tt
  unfocus-law at s₀ T bs ts s x fr n h false e r =
      (h, 0, r ∙ ap (λ o. onward v (leaving v s (record T { fresh = 0 } ∷ bs) o K) (λ s' L'. Some (s', L'))) e)

  focused-law : (at : ℕ) (ns : List ℕ) (dot : Bool) (sign : ℕ) (body : Sequence A) (unfocus : ℕ) → SequenceLaw body
      → (s : P) (T : Level) (bs : List Level) (n : ℕ) → n ≤ K → (b : Bool) → may_focus v s ns ≡ b
      → Then (focused v at unfocus b (meaning v body s (signed v dot s ns).0 (signed v dot s ns).1) T.focus T.pending n)
      (Led (tiny.Focus ns ∷ (sign_of dot ∷ (tinycals body ++ (tiny.Unfocus ∷ [])))) s T bs)
  focused-law at ns dot sign body unfocus a s T bs n h false e = tt
  focused-law at ns dot sign body unfocus a s T bs n h true e =
      then-bind (Led (tinycals body) s (in_focus_on (signed v dot s ns) 0) (record T { fresh = 0 } ∷ bs)) (Led (tiny.Focus ns ∷ (sign_of dot ∷ (tinycals body ++ (tiny.Unfocus ∷ [])))) s T bs)
      (meaning v body s (signed v dot s ns).0 (signed v dot s ns).1 n) (λ x. unfocused v unfocus x.0 (any_open v x.0 (x.1 ++ x.2)) T.focus T.pending)
      (a s (in_focus_on (signed v dot s ns) 0) (record T { fresh = 0 } ∷ bs) n h)
      (λ x l t. unfocus-law unfocus s T bs (tiny.Focus ns ∷ (sign_of dot ∷ tinycals body)) x.0 (x.1, x.2) t.1 l t.0 (any_open v x.0 (x.1 ++ x.2)) refl
      (ap (λ b. onward v (zooming v s T bs ns b K) (λ s' L'. stepped v K (sign_of dot ∷ (tinycals body ++ (tiny.Unfocus ∷ []))) s' L')) e
      ∙ (sign-law dot (tinycals body ++ (tiny.Unfocus ∷ [])) s ns (record T { fresh = 0 } ∷ bs)
      ∙ in_row (tinycals body) (tiny.Unfocus ∷ []) s (stack (in_focus_on (signed v dot s ns) 0) (record T { fresh = 0 } ∷ bs)) x.0 (stack (in_focus_on (x.1, x.2) t.1) (record T { fresh = 0 } ∷ bs))
      (stepped v K (tiny.Unfocus ∷ []) x.0 (stack (in_focus_on (x.1, x.2) t.1) (record T { fresh = 0 } ∷ bs))) t.2 refl)))

  focus-law : (at : ℕ) (ns : List ℕ) (dot : Bool) (sign : ℕ) (body : Sequence A) (unfocus : ℕ) → SequenceLaw body → StepLaw (Focus at ns dot sign body unfocus)
  focus-law at ns dot sign body unfocus a s T bs n h = focused-law at ns dot sign body unfocus a s T bs n h (may_focus v s ns) refl

  record ChoicesLaw (c : Choices A) : Type 0 where
    first : FirstLaw c
    between : BetweenLaw c

  choices-law : (at : ℕ) (choice : Pick) (body : Sequence A) (rest : Choices A) → SequenceLaw body → ChoicesLaw rest → ChoicesLaw (Branch at choice body rest)
  choices-law at choice body rest a b =
      record { first = first-branch at choice body rest a b.between; between = between-branch at choice body rest (first-branch at choice body rest a b.between) }

  -- the induction
  mutual
    sequence-law : (c : Sequence A) → SequenceLaw c
    sequence-law End = end-law
    sequence-law (Item i c) = item-law i c (step-law i) (sequence-law c)

    step-law : (i : Step A) → StepLaw i
    step-law (Action at a) = action-law at a
    step-law (Skip at) = λ s T bs n h. (h, T.fresh, refl)
    step-law (Semicolon at) = λ s T bs n h. (h, T.fresh, refl)
    step-law (Dot at) = dot-law at
    step-law (Branches c close) = branches-law c close (all-choices c).first
    step-law (Focus at ns dot sign body unfocus) = focus-law at ns dot sign body unfocus (sequence-law body)

    all-choices : (c : Choices A) → ChoicesLaw c
    all-choices NoBranch = record { first = first-none; between = between-none }
    all-choices (Branch at choice body rest) = choices-law at choice body rest (sequence-law body) (all-choices rest)

  -- where the tactical succeeds at an allowance, its steps, each at an allowance no smaller, succeed with the same
  pub stepping : (c : Sequence A) (s : P) (T : Level) (bs : List Level) (n : ℕ) → n ≤ K → (x : P × List ℕ × List ℕ) (l : ℕ)
      → meaning v c s T.focus T.pending n ≡ Done x l
      → (fr : ℕ) × (stepped v K (tinycals c) s (stack T bs) ≡ Some (x.0, stack (record T { focus = x.1; pending = x.2; fresh = fr }) bs))
  stepping c s T bs n h x l e =
      let r : Led (tinycals c) s T bs x l = then-at (Led (tinycals c) s T bs) (meaning v c s T.focus T.pending n) x l (sequence-law c s T bs n h) e in
      (r.1, r.2)

  -- where a step is refused or Spent, so is the tactical
  pub stopped : (c : Sequence A) (s : P) (T : Level) (bs : List Level) (n : ℕ) → n ≤ K → stepped v K (tinycals c) s (stack T bs) ≡ None
      → (x : P × List ℕ × List ℕ) (l : ℕ) → meaning v c s T.focus T.pending n ≡ Done x l → ⊥
  stopped c s T bs n h e x l d = some_not_none (sym ((stepping c s T bs n h x l d).1) ∙ e)

  -- the same of a block: its stack and the stack after its steps differ in the top level's fresh alone
  abbrev SteppedTo : Sequence A → P → Level → List Level → P × Stacked → ℕ → Type 0
  SteppedTo c s T bs y l = (fr : ℕ) × (stepped v K (tinycals c) s (stack T bs) ≡ Some (y.0, stack (record y.1.top { fresh = fr }) y.1.below))

  pub block-stepping : (c : Sequence A) (s : P) (T : Level) (bs : List Level) (n : ℕ) → n ≤ K → (y : P × Stacked) (l : ℕ)
      → block_step v c s T bs n ≡ Done y l → SteppedTo c s T bs y l
  block-stepping c s T bs n h y l e =
      then-at (SteppedTo c s T bs) (block_step v c s T bs n) y l
      (then-bind (Led (tinycals c) s T bs) (SteppedTo c s T bs) (meaning v c s T.focus T.pending n) (λ x. give (x.0, stack (record T { focus = x.1; pending = x.2; fresh = 0 }) bs))
      (sequence-law c s T bs n h) (λ x l t. (t.1, t.2)))
      e
