-- Meanings leave no more of the allowance than they are given.
use Rattle.std.proofs.Common.{◌≡◌, ◌≤◌, ℕ, Bool, true, false, List, [], ◌∷◌, ◌++◌, length, Option, None, Some, refl, ap, sym, ◌∙◌, subst, arith}
use Rattle.mt_tiny.specs.Outcomes.{Outcome, Done, Stopped, give, and_then, ◌>>=◌, rest}
use Rattle.mt_tiny.specs.Provers.{ProverRules, LeavesNoMore}
use Rattle.mt_tiny.specs.Goals.{NoGoal, NotHere, Placed, numbered, picked, opened, any_open, may_focus, acted}
use Rattle.mt_tiny.proofs.Acting.{Within, give-within, stop-within, then-within, stopping-within, acted-within}
use Rattle.mt_tiny.specs.declared.stops.TinyStop.{TinyStop}
use Rattle.mt_tiny.specs.declared.stops.TinyStop.TheVariants.{OutOfMemory}
use Rattle.mt_tactical.proofs.Stopping.{stops-through, memory-stops}
use Rattle.mt_tactical.specs.BlockAnswers.{StopsAt}
use Rattle.mt_tactical.specs.Tacticals.{Sequence, Step, Choices, End, Item, Action, Skip, Semicolon, Dot, Branches, Focus, NoBranch, Branch}
use Rattle.mt_tactical.specs.declared.Pick.{Pick}
use Rattle.mt_tactical.specs.declared.Pick.TheVariants as pick
use Rattle.mt_tactical.specs.Meaning.{Stop, Lists, Gathered, first_place, at_place, branched, signed, unfocused, focused, at_positions, chosen, meaning, item, branches}

module _ {P A R : Type 0} (v : ProverRules P A R) (w : LeavesNoMore v) where
  branched-within : (at : ℕ) (go : Placed → Gathered v) (gs p : List ℕ) → ((left : Placed) → Within (go left)) → Within (branched v at go gs p)
  branched-within at go [] p h = stop-within _
  branched-within at go (g ∷ gs) p h =
      then-within (go (numbered 1 (g ∷ gs))) (λ x. give (x.0, opened v x.0 x.1, p)) (h (numbered 1 (g ∷ gs))) (λ x. give-within _)

  unfocused-within : (at : ℕ) (s : P) (b : Bool) (f p : List ℕ) → Within (unfocused v at s b f p)
  unfocused-within at s false f p = give-within _
  unfocused-within at s true f p = stop-within _

  pub focused-within : (at unfocus : ℕ) (b : Bool) (go : Lists v) (f p : List ℕ) → Within go → Within (focused v at unfocus b go f p)
  focused-within at unfocus false go f p h = stop-within _
  focused-within at unfocus true go f p h =
      then-within go (λ x. unfocused v unfocus x.0 (any_open v x.0 (x.1 ++ x.2)) f p) h (λ x. unfocused-within unfocus x.0 (any_open v x.0 (x.1 ++ x.2)) f p)

  at_positions-within : (at : ℕ) (o : Option (List ℕ × Placed)) → Within (at_positions v at o)
  at_positions-within at None = stop-within _
  at_positions-within at (Some r) = give-within _

  pub chosen-within : (at : ℕ) (choice : Pick) (left : Placed) → Within (chosen v at choice left)
  chosen-within at choice [] = stop-within _
  chosen-within at pick.Next (x ∷ more) = give-within _
  chosen-within at (pick.Positions place is) (x ∷ more) = at_positions-within place (picked is (x ∷ more))
  chosen-within at (pick.Rest place) (x ∷ more) = give-within _

  mutual
    pub meaning-within : (c : Sequence A) (s : P) (f p : List ℕ) → Within (meaning v c s f p)
    meaning-within End s f p = give-within _
    meaning-within (Item i c) s f p = then-within (item v i s f p) (λ x. meaning v c x.0 x.1 x.2) (item-within i s f p) (λ x. meaning-within c x.0 x.1 x.2)

    pub item-within : (i : Step A) (s : P) (f p : List ℕ) → Within (item v i s f p)
    item-within (Action at a) s f p =
        then-within (at_place v at (acted v a s f)) (λ x. give (x.0, x.1, p)) (stopping-within (λ r. (r, at)) (acted v a s f) (acted-within v w a s f)) (λ x. give-within _)
    item-within (Skip at) s f p = give-within _
    item-within (Semicolon at) s f p = give-within _
    item-within (Dot at) s f p = give-within _
    item-within (Branches c close) s f p = branched-within (first_place c close) (λ left. branches v c s [] left) (opened v s f) p (λ left. branches-within c s [] left)
    item-within (Focus at ns dot sign body unfocus) s f p =
        focused-within at unfocus (may_focus v s ns) (meaning v body s (signed v dot s ns).0 (signed v dot s ns).1) f p (meaning-within body s (signed v dot s ns).0 (signed v dot s ns).1)

    pub branches-within : (c : Choices A) (s : P) (d : List ℕ) (left : Placed) → Within (branches v c s d left)
    branches-within NoBranch s d left = give-within _
    branches-within (Branch at choice body c) s d left =
        then-within (chosen v at choice left) (λ y. meaning v body s y.0 [] >>= (λ x. branches v c x.0 (d ++ x.1 ++ x.2) y.1)) (chosen-within at choice left)
        (λ y. then-within (meaning v body s y.0 []) (λ x. branches v c x.0 (d ++ x.1 ++ x.2) y.1) (meaning-within body s y.0 []) (λ x. branches-within c x.0 (d ++ x.1 ++ x.2) y.1))

  -- a stop of an item is one of the tactical
  pub item-stops : {S : Type 0} (view : S → R) (i : Step A) (c : Sequence A) (s : P) (f p : List ℕ) (n left at : ℕ) (e : TinyStop S) (whole : Outcome (Stop R) (P × List ℕ × List ℕ))
      → meaning v (Item i c) s f p n ≡ whole → StopsAt view (item v i s f p n) left at e → StopsAt view whole left at e
  item-stops view i c s f p n left at e whole same h =
      subst (λ o. StopsAt view o left at e) same (stops-through view (item v i s f p n) (λ x. meaning v c x.0 x.1 x.2) left at e (λ x. meaning-within c x.0 x.1 x.2) h)

  -- a stop in choosing the goals of a branch
  pub chosen-stops : {S : Type 0} (view : S → R) (at : ℕ) (choice : Pick) (body : Sequence A) (c : Choices A) (s : P) (d : List ℕ) (lf : Placed) (n left place : ℕ) (e : TinyStop S)
      (whole : Outcome (Stop R) (P × List ℕ)) → branches v (Branch at choice body c) s d lf n ≡ whole
      → StopsAt view (chosen v at choice lf n) left place e → StopsAt view whole left place e
  chosen-stops view at choice body c s d lf n left place e whole same h =
      subst (λ o. StopsAt view o left place e) same
      (stops-through view (chosen v at choice lf n) (λ y. meaning v body s y.0 [] >>= (λ x. branches v c x.0 (d ++ x.1 ++ x.2) y.1)) left place e
      (λ y. then-within (meaning v body s y.0 []) (λ x. branches v c x.0 (d ++ x.1 ++ x.2) y.1) (meaning-within body s y.0 []) (λ x. branches-within c x.0 (d ++ x.1 ++ x.2) y.1)) h)

  -- the goals are chosen: the body of the branch, and then the other branches
  body-next : (at : ℕ) (choice : Pick) (body : Sequence A) (c : Choices A) (s : P) (d : List ℕ) (lf : Placed) (n m : ℕ) (y : List ℕ × Placed)
      → chosen v at choice lf n ≡ Done y m
      → branches v (Branch at choice body c) s d lf n ≡ and_then (meaning v body s y.0 [] m) (λ x. branches v c x.0 (d ++ x.1 ++ x.2) y.1)
  body-next at choice body c s d lf n m y e =
      ap (λ (o : Outcome (Stop R) (List ℕ × Placed)). and_then o (λ y. meaning v body s y.0 [] >>= (λ x. branches v c x.0 (d ++ x.1 ++ x.2) y.1))) e

  pub body-stops : {S : Type 0} (view : S → R) (at : ℕ) (choice : Pick) (body : Sequence A) (c : Choices A) (s : P) (d : List ℕ) (lf : Placed) (n m : ℕ) (gs none : List ℕ) (more : Placed)
      (left place : ℕ) (e : TinyStop S) (whole : Outcome (Stop R) (P × List ℕ)) → branches v (Branch at choice body c) s d lf n ≡ whole
      → chosen v at choice lf n ≡ Done (gs, more) m → none ≡ [] → StopsAt view (meaning v body s gs none m) left place e → StopsAt view whole left place e
  body-stops view at choice body c s d lf n m gs none more left place e whole same k z h =
      let t : StopsAt view (meaning v body s gs [] m) left place e = subst (λ q. StopsAt view (meaning v body s gs q m) left place e) z h in
      subst (λ o. StopsAt view o left place e) (sym (body-next at choice body c s d lf n m (gs, more) k) ∙ same)
      (stops-through view (meaning v body s gs [] m) (λ x. branches v c x.0 (d ++ x.1 ++ x.2) more) left place e (λ x. branches-within c x.0 (d ++ x.1 ++ x.2) more) t)

  -- the branch is done
  pub branch-next : (at : ℕ) (choice : Pick) (body : Sequence A) (c : Choices A) (s : P) (d : List ℕ) (lf : Placed) (n m left : ℕ) (y : List ℕ × Placed) (x : P × List ℕ × List ℕ)
      → chosen v at choice lf n ≡ Done y m → meaning v body s y.0 [] m ≡ Done x left
      → branches v (Branch at choice body c) s d lf n ≡ branches v c x.0 (d ++ x.1 ++ x.2) y.1 left
  branch-next at choice body c s d lf n m left y x k h =
      body-next at choice body c s d lf n m y k
      ∙ ap (λ (o : Outcome (Stop R) (P × List ℕ × List ℕ)). and_then o (λ x. branches v c x.0 (d ++ x.1 ++ x.2) y.1)) h

  -- where memory is wanting for the goals of a branch that is done
  pub branch-memory : (at : ℕ) (choice : Pick) (body : Sequence A) (c : Choices A) (s : P) (d : List ℕ) (lf : Placed) (n m left : ℕ) (y : List ℕ × Placed) (x : P × List ℕ × List ℕ)
      (whole : Outcome (Stop R) (P × List ℕ)) → branches v (Branch at choice body c) s d lf n ≡ whole
      → chosen v at choice lf n ≡ Done y m → meaning v body s y.0 [] m ≡ Done x left → rest whole ≤ left
  branch-memory at choice body c s d lf n m left y x whole same k h =
      subst (λ o. rest o ≤ left) (sym (branch-next at choice body c s d lf n m left y x k h) ∙ same) ((branches-within c x.0 (d ++ x.1 ++ x.2) y.1).at left)

  -- where memory is wanting before anything is done
  pub item-memory : {S : Type 0} (view : S → R) (i : Step A) (s : P) (f p : List ℕ) (n at : ℕ) (e : TinyStop S) → e ≡ OutOfMemory → StopsAt view (item v i s f p n) n at e
  item-memory view i s f p n at e m = memory-stops view (item v i s f p n) n at e m ((item-within i s f p).at n)

  pub meaning-memory : {S : Type 0} (view : S → R) (c : Sequence A) (s : P) (f p : List ℕ) (n at : ℕ) (e : TinyStop S) → e ≡ OutOfMemory → StopsAt view (meaning v c s f p n) n at e
  meaning-memory view c s f p n at e m = memory-stops view (meaning v c s f p n) n at e m ((meaning-within c s f p).at n)

  pub branches-memory : {S : Type 0} (view : S → R) (c : Choices A) (s : P) (d : List ℕ) (lf : Placed) (n at : ℕ) (e : TinyStop S) → e ≡ OutOfMemory → StopsAt view (branches v c s d lf n) n at e
  branches-memory view c s d lf n at e m = memory-stops view (branches v c s d lf n) n at e m ((branches-within c s d lf).at n)

  pub ruleset memory_rules = (item-memory, meaning-memory, branches-memory)

  pub ruleset item_rules = (item-stops)

  -- branches on the goals goals in focus
  pub branching-none : (c : Choices A) (close : ℕ) (s : P) (f p goals : List ℕ) (n : ℕ) → goals ≡ opened v s f → length goals ≡ 0
      → item v (Branches c close) s f p n ≡ Stopped (NoGoal, first_place c close) n
  branching-none c close s f p [] n e h = ap (λ (gs : List ℕ). branched v (first_place c close) (λ lf. branches v c s [] lf) gs p n) (sym e)
  branching-none c close s f p (g ∷ gs) n e h = absurd (omega arith)

  branching-on : (c : Choices A) (close : ℕ) (s : P) (f p goals : List ℕ) (n : ℕ) → goals ≡ opened v s f → (length goals ≡ 0 → ⊥)
      → item v (Branches c close) s f p n ≡ and_then (branches v c s [] (numbered 1 goals) n) (λ x. give (x.0, opened v x.0 x.1, p))
  branching-on c close s f p [] n e h = absurd (h refl)
  branching-on c close s f p (g ∷ gs) n e h = ap (λ (gs : List ℕ). branched v (first_place c close) (λ lf. branches v c s [] lf) gs p n) (sym e)

  pub branching-stops : {S : Type 0} (view : S → R) (c : Choices A) (close : ℕ) (s : P) (f p goals : List ℕ) (n left at : ℕ) (e : TinyStop S) → goals ≡ opened v s f → (length goals ≡ 0 → ⊥)
      → StopsAt view (branches v c s [] (numbered 1 goals) n) left at e → StopsAt view (item v (Branches c close) s f p n) left at e
  branching-stops view c close s f p goals n left at e o h t =
      subst (λ o. StopsAt view o left at e) (sym (branching-on c close s f p goals n o h))
      (stops-through view (branches v c s [] (numbered 1 goals) n) (λ x. give (x.0, opened v x.0 x.1, p)) left at e (λ x. give-within _) t)

  pub branching-first : {S : Type 0} (view : S → R) (c : Choices A) (close : ℕ) (s : P) (f p : List ℕ) (n at : ℕ) (e : TinyStop S) → e ≡ OutOfMemory
      → StopsAt view (item v (Branches c close) s f p n) n at e
  branching-first view c close s f p n at e m = item-memory view (Branches c close) s f p n at e m

  pub branching-done : (c : Choices A) (close : ℕ) (s : P) (f p goals : List ℕ) (n left : ℕ) (x : P × List ℕ) → goals ≡ opened v s f → (length goals ≡ 0 → ⊥)
      → branches v c s [] (numbered 1 goals) n ≡ Done x left → item v (Branches c close) s f p n ≡ Done (x.0, opened v x.0 x.1, p) left
  branching-done c close s f p goals n left x o h t =
      branching-on c close s f p goals n o h ∙ ap (λ (m : Outcome (Stop R) (P × List ℕ)). and_then m (λ x. give (x.0, opened v x.0 x.1, p))) t

  pub branching-memory : {S : Type 0} (view : S → R) (c : Choices A) (close : ℕ) (s : P) (f p goals : List ℕ) (n left at : ℕ) (x : P × List ℕ) (e : TinyStop S) → goals ≡ opened v s f → (length goals ≡ 0 → ⊥)
      → branches v c s [] (numbered 1 goals) n ≡ Done x left → e ≡ OutOfMemory → StopsAt view (item v (Branches c close) s f p n) left at e
  branching-memory view c close s f p goals n left at x e o h t m =
      let u : rest (item v (Branches c close) s f p n) ≤ left = subst (λ o. rest o ≤ left) (sym (branching-done c close s f p goals n left x o h t)) (omega arith) in
      memory-stops view (item v (Branches c close) s f p n) left at e m u

  pub ruleset branching_rules = (branching-none, branching-first, branching-stops, branching-done, branching-memory)

  pub ruleset branches_rules = (chosen-stops, body-stops, branch-next, branch-memory)

  -- focus
  pub focus-refused : (at : ℕ) (ns : List ℕ) (dot : Bool) (sign : ℕ) (body : Sequence A) (unfocus : ℕ) (s : P) (f p : List ℕ) (n : ℕ) → may_focus v s ns ≡ false
      → item v (Focus at ns dot sign body unfocus) s f p n ≡ Stopped (NoGoal, at) n
  focus-refused at ns dot sign body unfocus s f p n e =
      ap (λ (b : Bool). focused v at unfocus b (meaning v body s (signed v dot s ns).0 (signed v dot s ns).1) f p n) e

  focus-on : (at : ℕ) (ns : List ℕ) (dot : Bool) (sign : ℕ) (body : Sequence A) (unfocus : ℕ) (s : P) (f p : List ℕ) (n : ℕ) (y : List ℕ × List ℕ) → may_focus v s ns ≡ true
      → y ≡ signed v dot s ns
      → item v (Focus at ns dot sign body unfocus) s f p n
      ≡ and_then (meaning v body s y.0 y.1 n) (λ x. unfocused v unfocus x.0 (any_open v x.0 (x.1 ++ x.2)) f p)
  focus-on at ns dot sign body unfocus s f p n y e h =
      ap (λ (b : Bool). focused v at unfocus b (meaning v body s (signed v dot s ns).0 (signed v dot s ns).1) f p n) e
      ∙ ap (λ (z : List ℕ × List ℕ). and_then (meaning v body s z.0 z.1 n) (λ x. unfocused v unfocus x.0 (any_open v x.0 (x.1 ++ x.2)) f p)) (sym h)

  pub focus-first : {S : Type 0} (view : S → R) (at : ℕ) (ns : List ℕ) (dot : Bool) (sign : ℕ) (body : Sequence A) (unfocus : ℕ) (s : P) (f p : List ℕ) (n place : ℕ)
      (e : TinyStop S) → e ≡ OutOfMemory → StopsAt view (item v (Focus at ns dot sign body unfocus) s f p n) n place e
  focus-first view at ns dot sign body unfocus s f p n place e m = item-memory view (Focus at ns dot sign body unfocus) s f p n place e m

  pub focus-stops : {S : Type 0} (view : S → R) (at : ℕ) (ns : List ℕ) (dot : Bool) (sign : ℕ) (body : Sequence A) (unfocus : ℕ) (s : P) (f p : List ℕ) (n left place : ℕ) (y : List ℕ × List ℕ)
      (e : TinyStop S) → may_focus v s ns ≡ true → y ≡ signed v dot s ns → StopsAt view (meaning v body s y.0 y.1 n) left place e
      → StopsAt view (item v (Focus at ns dot sign body unfocus) s f p n) left place e
  focus-stops view at ns dot sign body unfocus s f p n left place y e h k t =
      subst (λ o. StopsAt view o left place e) (sym (focus-on at ns dot sign body unfocus s f p n y h k))
      (stops-through view (meaning v body s y.0 y.1 n) (λ x. unfocused v unfocus x.0 (any_open v x.0 (x.1 ++ x.2)) f p) left place e
      (λ x. unfocused-within unfocus x.0 (any_open v x.0 (x.1 ++ x.2)) f p) t)

  focus-after : (at : ℕ) (ns : List ℕ) (dot : Bool) (sign : ℕ) (body : Sequence A) (unfocus : ℕ) (s : P) (f p : List ℕ) (n left : ℕ) (y : List ℕ × List ℕ) (x : P × List ℕ × List ℕ) (b : Bool)
      → may_focus v s ns ≡ true → y ≡ signed v dot s ns → meaning v body s y.0 y.1 n ≡ Done x left → any_open v x.0 (x.1 ++ x.2) ≡ b
      → item v (Focus at ns dot sign body unfocus) s f p n ≡ unfocused v unfocus x.0 b f p left
  focus-after at ns dot sign body unfocus s f p n left y x b h k t o =
      focus-on at ns dot sign body unfocus s f p n y h k
      ∙ ap (λ (m : Outcome (Stop R) (P × List ℕ × List ℕ)). and_then m (λ x. unfocused v unfocus x.0 (any_open v x.0 (x.1 ++ x.2)) f p)) t
      ∙ ap (λ (c : Bool). unfocused v unfocus x.0 c f p left) o

  pub focus-open : (at : ℕ) (ns : List ℕ) (dot : Bool) (sign : ℕ) (body : Sequence A) (unfocus : ℕ) (s : P) (f p : List ℕ) (n left : ℕ) (y : List ℕ × List ℕ) (x : P × List ℕ × List ℕ)
      → may_focus v s ns ≡ true → y ≡ signed v dot s ns → meaning v body s y.0 y.1 n ≡ Done x left → any_open v x.0 (x.1 ++ x.2) ≡ true
      → item v (Focus at ns dot sign body unfocus) s f p n ≡ Stopped (NotHere, unfocus) left
  focus-open at ns dot sign body unfocus s f p n left y x h k t o = focus-after at ns dot sign body unfocus s f p n left y x true h k t o

  pub focus-done : (at : ℕ) (ns : List ℕ) (dot : Bool) (sign : ℕ) (body : Sequence A) (unfocus : ℕ) (s : P) (f p : List ℕ) (n left : ℕ) (y : List ℕ × List ℕ) (x : P × List ℕ × List ℕ)
      → may_focus v s ns ≡ true → y ≡ signed v dot s ns → meaning v body s y.0 y.1 n ≡ Done x left → any_open v x.0 (x.1 ++ x.2) ≡ false
      → item v (Focus at ns dot sign body unfocus) s f p n ≡ Done (x.0, f, p) left
  focus-done at ns dot sign body unfocus s f p n left y x h k t o = focus-after at ns dot sign body unfocus s f p n left y x false h k t o

  pub ruleset focus_rules = (focus-refused, focus-first, focus-stops, focus-open, focus-done)
