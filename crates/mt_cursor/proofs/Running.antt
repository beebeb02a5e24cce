-- Runs of a cursor: what an accepted unit, a way back and another text make of one.
use Rattle.std.proofs.Common.{◌≡◌, ◌<◌, ◌≤◌, ◌⊎◌, ℕ, zero, suc, ◌+◌, Bool, true, false, List, [], ◌∷◌, ◌++◌, length, take, drop, slice_get, Option, Some, None, IsSome, Err, refl, ap, sym, ◌∙◌, subst, arith, inl, inr, length-append}
use Rattle.std.proofs.lemmas.List.{length-take-le}
use Rattle.std.proofs.lemmas.Option.{slice_get_within}
use Rattle.std.specs.Prelude.{unwrap_or}
use Rattle.std.specs.Str.{IsUtf8, IsCharBoundary}
use Rattle.mt_term.specs.Trees.{Bytes}
use Rattle.mt_text.specs.declared.UnitSpan.{UnitSpan}
use Rattle.mt_term.specs.declared.refusals.Halt.{Halt}
use Rattle.mt_term.specs.declared.refusals.Halt.TheVariants as halt
use Rattle.mt_cursor.specs.declared.accepted.Accepted.{Accepted}
use Rattle.mt_cursor.specs.Runners.{Rules, Parsed, Found, Stepped, Becomes, StepsTo, cost_of, PlaceLaw, SeenLaw, IsUnitOf, MarksKept, OlderKept, IsNewest}
use Rattle.mt_cursor.specs.Sessions.{Standing, end_after, place_of, with_unit, with_next, without_units, fold, kept_by, first_passing, ends_by, is_seen_by, most}
use Rattle.mt_cursor.specs.Cursors.{View, spans, units_in, session_in, standing_in, start_by, start_of, IsRunFrom, IsRun, Unchanged, Adds}
use Rattle.mt_cursor.proofs.Lists.{get_of_front, get_before, get_of_push}
use Rattle.mt_cursor.proofs.Folding.{Front, front, fold_placed, next_of, same_fold, AllPass, all_first, all_front, first_within}

pub spans_length : {M : Type 0} (xs : List (Accepted M)) → length (spans xs) ≡ length xs
spans_length [] = refl
spans_length (x ∷ xs) = ap suc (spans_length xs)

pub spans_push : {M : Type 0} (xs : List (Accepted M)) (x : Accepted M) → spans (xs ++ x ∷ []) ≡ spans xs ++ x.span ∷ []
spans_push [] x = refl
spans_push (y ∷ xs) x = ap (λ us. y.span ∷ us) (spans_push xs x)

pub spans_take : {M : Type 0} (n : ℕ) (xs : List (Accepted M)) → spans (take n xs) ≡ take n (spans xs)
spans_take zero [] = refl
spans_take zero (x ∷ xs) = refl
spans_take (suc n) [] = refl
spans_take (suc n) (x ∷ xs) = ap (λ us. x.span ∷ us) (spans_take n xs)

-- a run from a state has that state as its start
start_is : {R M S : Type 0} (state : R → S) (marked : R → M → Option S) (r : R) (xs : List (Accepted M)) (s : S)
    → (xs ≡ [] → state r ≡ s) → ((a : Accepted M) → slice_get xs 0 ≡ Some a → marked r a.before ≡ Some s) → start_by state marked r xs ≡ s
start_is state marked r [] s none first = none refl
start_is state marked r (a ∷ rest) s none first = ap (λ o. unwrap_or o (state r)) (first a refl)

section_of : {S : Type 0} (rules : Rules S) (text : Bytes) (s : S) (n : ℕ) → n ≡ 0 → (fold rules text s n).state ≡ s
section_of rules text s n e = ap (λ k. (fold rules text s k).state) e

pub run_start : {R M S : Type 0} (rules : Rules S) (state : R → S) (marked : R → M → Option S) (age : M → ℕ) (s : S) (v : View R M)
    → IsRunFrom rules state marked age s v → start_of state marked v ≡ s
run_start rules state marked age s v run =
    start_is state marked v.runner v.accepted s
    (λ e. ap (λ st. st.state) run.now ∙ section_of rules v.text s (length v.accepted) (ap length e))
    (λ a e. run.before 0 a e)

-- all accepted units are there
pub run_whole : {R M S : Type 0} (rules : Rules S) (state : R → S) (marked : R → M → Option S) (age : M → ℕ) (s : S) (v : View R M)
    → IsRunFrom rules state marked age s v → length (fold rules v.text s (length v.accepted)).units ≡ length v.accepted
run_whole rules state marked age s v run = ap (λ st. length st.units) (sym run.now) ∙ spans_length v.accepted

-- the next unit is read at the bound of a character
pub run_placed : {R M S : Type 0} (rules : Rules S) (state : R → S) (marked : R → M → Option S) (age : M → ℕ) (s : S) (v : View R M)
    → IsRunFrom rules state marked age s v → PlaceLaw rules → IsCharBoundary v.text (place_of (units_in v))
run_placed rules state marked age s v run place =
    subst (λ st. IsCharBoundary v.text (place_of st.units)) (sym run.now) (fold_placed rules v.text s (length v.accepted) run.utf8 place)

-- a runner that keeps its state and its live marks
pub run_kept : {R M S : Type 0} (rules : Rules S) (state : R → S) (marked : R → M → Option S) (age : M → ℕ) (s : S) (v : View R M) (r : R)
    → IsRunFrom rules state marked age s v → state r ≡ state v.runner → MarksKept (marked v.runner) (marked r)
    → IsRunFrom rules state marked age s (record { runner = r; text = v.text; accepted = v.accepted })
run_kept rules state marked age s v r run same marks = record {
  utf8 = run.utf8;
  short = run.short;
  now = ap (λ q. record { units = spans v.accepted; state = q }) same ∙ run.now;
  before = λ i a e. marks a.before (fold rules v.text s i).state (run.before i a e);
  ages = run.ages;
}

-- one more unit, with a mark of the state before it
pub run_accepted : {R M S : Type 0} (rules : Rules S) (state : R → S) (marked : R → M → Option S) (age : M → ℕ) (s : S) (v : View R M) (r : R) (a : Accepted M) (c : ℕ)
    → IsRunFrom rules state marked age s v → rules.parse v.text (place_of (units_in v)) ≡ Found a.span
    → rules.step (state v.runner) v.text a.span ≡ Becomes (state r) c → marked v.runner a.before ≡ Some (state v.runner)
    → IsNewest age a.before (marked v.runner) → MarksKept (marked v.runner) (marked r)
    → IsRunFrom rules state marked age s (record { runner = r; text = v.text; accepted = v.accepted ++ a ∷ [] })
run_accepted rules state marked age s v r a c run found step mark newest marks = record {
  utf8 = run.utf8;
  short = run.short;
  now =
      ap (λ us. record { units = us; state = state r }) (spans_push v.accepted a)
      ∙ sym (next_of rules v.text (standing_in state v) a.span (state r) c found step)
      ∙ ap (with_next rules v.text) run.now
      ∙ ap (fold rules v.text s) (sym (length-append v.accepted (a ∷ []) ∙ plus_one (length v.accepted)));
  before = λ i b e. elim (get_of_push v.accepted a i b e) [
    | inl old ↦ marks b.before (fold rules v.text s i).state (run.before i b old)
    | inr last ↦ marks b.before (fold rules v.text s i).state
        (ap (λ x. marked v.runner x.before) last.1 ∙ mark ∙ ap Some (ap (λ st. st.state) run.now ∙ ap (λ k. (fold rules v.text s k).state) (sym last.0)))
  ];
  ages = λ i j b d le e f. elim (get_of_push v.accepted a j d f) [
    | inl old ↦ elim (get_of_push v.accepted a i b e) [
      | inl also ↦ run.ages i j b d le also old
      | inr last ↦ absurd (omega (arith, last.0, slice_get_within v.accepted j d old))
    ]
    | inr last ↦ elim (get_of_push v.accepted a i b e) [
      | inl also ↦ subst (λ x. age b.before ≤ age x.before) (sym last.1) (newest b.before (fold rules v.text s i).state (run.before i b also))
      | inr both ↦ subst (λ x. age x.before ≤ age d.before) (last.1 ∙ sym both.1) (omega arith)
    ]
  ];
}
  where
    plus_one : (n : ℕ) → n + 1 ≡ suc n
    plus_one n = omega arith

-- the way back to the state before an accepted unit
pub run_back : {R M S : Type 0} (rules : Rules S) (state : R → S) (marked : R → M → Option S) (age : M → ℕ) (s : S) (v : View R M) (r : R) (k : ℕ) (a : Accepted M)
    → IsRunFrom rules state marked age s v → slice_get v.accepted k ≡ Some a → marked v.runner a.before ≡ Some (state r)
    → OlderKept age a.before (marked v.runner) (marked r)
    → IsRunFrom rules state marked age s (record { runner = r; text = v.text; accepted = take k v.accepted })
run_back rules state marked age s v r k a run get back older =
    let le : k ≤ length v.accepted = omega (arith, slice_get_within v.accepted k a get) in
    let f : Front rules v.text s (length v.accepted) k = front rules v.text s (length v.accepted) k (run_whole rules state marked age s v run) le in
    let units : spans (take k v.accepted) ≡ (fold rules v.text s k).units = spans_take k v.accepted ∙ ap (λ st. take k st.units) run.now ∙ sym f.units in
    let now : state r ≡ (fold rules v.text s k).state = some_same (state r) (fold rules v.text s k).state (sym back ∙ run.before k a get) in
    record {
      utf8 = run.utf8;
      short = run.short;
      now =
          ap (λ us. record { units = us; state = state r }) units ∙ ap (λ q. record { units = (fold rules v.text s k).units; state = q }) now
          ∙ ap (fold rules v.text s) (sym (length-take-le k v.accepted le));
      before = λ i b e.
          let old : slice_get v.accepted i ≡ Some b = get_of_front v.accepted k i b e in
          let lt : i < k = get_before v.accepted k i b e in
          older b.before (fold rules v.text s i).state (run.ages i k b a (omega arith) old get) (run.before i b old);
      ages = λ i j b d le e f. run.ages i j b d le (get_of_front v.accepted k i b e) (get_of_front v.accepted k j d f);
    }
  where
    some_same : {A : Type 0} (x y : A) → Some x ≡ Some y → x ≡ y
    some_same x y e = ap (λ o. unwrap_or o x) e

-- another text with the same bytes before a place, where all units are decided by what stands before it
pub run_edited : {R M S : Type 0} (rules : Rules S) (state : R → S) (marked : R → M → Option S) (age : M → ℕ) (s : S) (v : View R M) (text : Bytes) (start : ℕ)
    → IsRunFrom rules state marked age s v → PlaceLaw rules → SeenLaw rules → IsUtf8 text → length text ≤ most → take start v.text ≡ take start text
    → AllPass (is_seen_by start) (units_in v)
    → IsRunFrom rules state marked age s (record { runner = v.runner; text = text; accepted = v.accepted })
run_edited rules state marked age s v text start run place seen utf8 short same all =
    let whole : length (fold rules v.text s (length v.accepted)).units ≡ length v.accepted = run_whole rules state marked age s v run in
    let units : units_in v ≡ (fold rules v.text s (length v.accepted)).units = ap (λ st. st.units) run.now in
    let folds : (i : ℕ) → i ≤ length v.accepted → fold rules text s i ≡ fold rules v.text s i =
    (λ i le.
    let f : Front rules v.text s (length v.accepted) i = front rules v.text s (length v.accepted) i whole le in
    same_fold rules v.text text s start i run.utf8 utf8 place seen same f.whole
    (subst (AllPass (is_seen_by start)) (ap (take i) units ∙ sym f.units) (all_front (is_seen_by start) (units_in v) i all))) in
    record {
      utf8 = utf8;
      short = short;
      now = run.now ∙ sym (folds (length v.accepted) (omega arith));
      before = λ i a e. run.before i a e ∙ ap (λ st. Some st.state) (sym (folds i (omega (arith, slice_get_within v.accepted i a e))));
      ages = run.ages;
    }

-- no unit of any text
pub run_empty : {R M S : Type 0} (rules : Rules S) (state : R → S) (marked : R → M → Option S) (age : M → ℕ) (r : R) (text : Bytes)
    → IsUtf8 text → length text ≤ most → IsRunFrom rules state marked age (state r) (record { runner = r; text = text; accepted = [] })
run_empty {R} {M} rules state marked age r text utf8 short = record {
  utf8 = utf8;
  short = short;
  now = refl;
  before = λ i a e. absurd (omega (arith, slice_get_within {A = Accepted M} [] i a e));
  ages = λ i j a b le e f. absurd (omega (arith, slice_get_within {A = Accepted M} [] i a e));
}

-- ---- units that stand first

-- the end of the last unit
pub last_end : {M : Type 0} (xs : List (Accepted M)) (n at : ℕ) (a : Accepted M) → slice_get xs n ≡ Some a → length xs ≡ suc n
    → end_after at (spans xs) ≡ a.span.end
last_end [] n at a get len = absurd (omega arith)
last_end (x ∷ []) zero at a get len = ap (λ o. (unwrap_or o x).span.end) get
last_end (x ∷ []) (suc n) at a get len = absurd (omega arith)
last_end (x ∷ y ∷ xs) zero at a get len = absurd (omega arith)
last_end (x ∷ y ∷ xs) (suc n) at a get len = last_end (y ∷ xs) n x.span.end a get (omega arith)

-- one more unit that passes
pub passes_more : {M : Type 0} (test : UnitSpan → Bool) (xs : List (Accepted M)) (i : ℕ) (a : Accepted M) → slice_get xs i ≡ Some a → test a.span ≡ true
    → first_passing test (spans (drop i xs)) ≡ suc (first_passing test (spans (drop (suc i) xs)))
passes_more test [] i a get passes = absurd (omega (arith, slice_get_within {A = Accepted _} [] i a get))
passes_more test (x ∷ xs) zero a get passes =
    let e : test x.span ≡ true = ap (λ o. test (unwrap_or o x).span) get ∙ passes in rw e refl
passes_more test (x ∷ xs) (suc i) a get passes = passes_more test xs i a get passes

-- a unit that does not
pub passes_no_more : {M : Type 0} (test : UnitSpan → Bool) (xs : List (Accepted M)) (i : ℕ) (a : Accepted M) → slice_get xs i ≡ Some a → test a.span ≡ false
    → first_passing test (spans (drop i xs)) ≡ 0
passes_no_more test [] i a get passes = absurd (omega (arith, slice_get_within {A = Accepted _} [] i a get))
passes_no_more test (x ∷ xs) zero a get passes =
    let e : test x.span ≡ false = ap (λ o. test (unwrap_or o x).span) get ∙ passes in rw e refl
passes_no_more test (x ∷ xs) (suc i) a get passes = passes_no_more test xs i a get passes

-- ---- runs from the state in which they began

pub to_run : {R M S : Type 0} (rules : Rules S) (state : R → S) (marked : R → M → Option S) (age : M → ℕ) (IsEmpty : S → Type 0) (s : S) (v : View R M)
    → IsEmpty s → IsRunFrom rules state marked age s v → IsRun rules state marked age IsEmpty v
to_run rules state marked age IsEmpty s v empty run =
    let start : start_of state marked v ≡ s = run_start rules state marked age s v run in
    record { empty = subst IsEmpty (sym start) empty; run = subst (λ q. IsRunFrom rules state marked age q v) (sym start) run }

-- a run that follows another from the same state
pub record Follows {R M S : Type 0} (rules : Rules S) (state : R → S) (marked : R → M → Option S) (age : M → ℕ) (IsEmpty : S → Type 0) (old new : View R M) : Type 0 where
  pub start : start_of state marked new ≡ start_of state marked old
  pub run : IsRun rules state marked age IsEmpty new

pub follows : {R M S : Type 0} (rules : Rules S) (state : R → S) (marked : R → M → Option S) (age : M → ℕ) (IsEmpty : S → Type 0) (old new : View R M)
    → IsRun rules state marked age IsEmpty old → IsRunFrom rules state marked age (start_of state marked old) new
    → Follows rules state marked age IsEmpty old new
follows rules state marked age IsEmpty old new run from = record {
  start = run_start rules state marked age (start_of state marked old) new from;
  run = to_run rules state marked age IsEmpty (start_of state marked old) new run.empty from;
}

pub kept : {R M S : Type 0} (rules : Rules S) (state : R → S) (marked : R → M → Option S) (age : M → ℕ) (IsEmpty : S → Type 0) (v : View R M) (r : R)
    → IsRun rules state marked age IsEmpty v → state r ≡ state v.runner → MarksKept (marked v.runner) (marked r)
    → Follows rules state marked age IsEmpty v (record { runner = r; text = v.text; accepted = v.accepted })
kept rules state marked age IsEmpty v r run same marks =
    follows rules state marked age IsEmpty v _ run (run_kept rules state marked age (start_of state marked v) v r run.run same marks)

pub grown : {R M S : Type 0} (rules : Rules S) (state : R → S) (marked : R → M → Option S) (age : M → ℕ) (IsEmpty : S → Type 0) (v : View R M) (r : R) (a : Accepted M) (c : ℕ)
    → IsRun rules state marked age IsEmpty v → rules.parse v.text (place_of (units_in v)) ≡ Found a.span
    → rules.step (state v.runner) v.text a.span ≡ Becomes (state r) c → marked v.runner a.before ≡ Some (state v.runner)
    → IsNewest age a.before (marked v.runner) → MarksKept (marked v.runner) (marked r)
    → Follows rules state marked age IsEmpty v (record { runner = r; text = v.text; accepted = v.accepted ++ a ∷ [] })
grown rules state marked age IsEmpty v r a c run found step mark newest marks =
    follows rules state marked age IsEmpty v _ run (run_accepted rules state marked age (start_of state marked v) v r a c run.run found step mark newest marks)

-- the unit that is next is read at the bound of a character
pub next_is_unit : {R M S : Type 0} (rules : Rules S) (state : R → S) (marked : R → M → Option S) (age : M → ℕ) (IsEmpty : S → Type 0) (v : View R M) (u : UnitSpan)
    → IsRun rules state marked age IsEmpty v → PlaceLaw rules → rules.parse v.text (place_of (units_in v)) ≡ Found u → IsUnitOf rules v.text u
next_is_unit rules state marked age IsEmpty v u run place found = record {
  at = place_of (units_in v);
  bound = run_placed rules state marked age (start_of state marked v) v run.run place;
  is = found;
}

-- ---- steps

pub same_where_hindered : {S : Type 0} (d : Stepped S) (old new : S) (h : Halt) → StepsTo d old new (Err h) → new ≡ old
same_where_hindered d old new (halt.Refused f) e = e.1
same_where_hindered d old new halt.Spent e = e.1
same_where_hindered d old new halt.OutOfMemory e = e

-- what was added, where a step led on
pub adds : {R M S : Type 0} (rules : Rules S) (state : R → S) (v : View R M) (r : R) (a : Accepted M) (before now : ℕ)
    → rules.step (state v.runner) v.text a.span ≡ Becomes (state r) (cost_of (rules.step (state v.runner) v.text a.span))
    → now ≡ before + cost_of (rules.step (state v.runner) v.text a.span)
    → Adds state (rules.step (state v.runner) v.text a.span) a.span before now v (record { runner = r; text = v.text; accepted = v.accepted ++ a ∷ [] })
adds rules state v r a before now step cost = record { is = step; units = spans_push v.accepted a; steps = cost }

-- ---- the way back

pub is_marked : {R M S : Type 0} (rules : Rules S) (state : R → S) (marked : R → M → Option S) (age : M → ℕ) (s : S) (v : View R M) (k : ℕ) (a : Accepted M)
    → IsRunFrom rules state marked age s v → slice_get v.accepted k ≡ Some a → IsSome (marked v.runner a.before)
is_marked rules state marked age s v k a run get = subst IsSome (sym (run.before k a get)) refl

pub backed : {R M S : Type 0} (rules : Rules S) (state : R → S) (marked : R → M → Option S) (age : M → ℕ) (IsEmpty : S → Type 0) (v : View R M) (r : R) (k : ℕ) (a : Accepted M)
    → IsRun rules state marked age IsEmpty v → slice_get v.accepted k ≡ Some a → marked v.runner a.before ≡ Some (state r)
    → OlderKept age a.before (marked v.runner) (marked r)
    → Follows rules state marked age IsEmpty v (record { runner = r; text = v.text; accepted = take k v.accepted })
backed rules state marked age IsEmpty v r k a run get back older =
    follows rules state marked age IsEmpty v _ run (run_back rules state marked age (start_of state marked v) v r k a run.run get back older)

-- the units that end by a place, and the state after them
pub kept_is : {R M S : Type 0} (rules : Rules S) (state : R → S) (marked : R → M → Option S) (age : M → ℕ) (s : S) (v : View R M) (pos : ℕ)
    → IsRunFrom rules state marked age s v → kept_by rules s pos (session_in v) ≡ fold rules v.text s (first_passing (ends_by pos) (units_in v))
kept_is rules state marked age s v pos run = ap (λ st. fold rules v.text s (first_passing (ends_by pos) st.units)) (sym run.now)

-- after all of them the state is the present one
pub last_state : {R M S : Type 0} (rules : Rules S) (state : R → S) (marked : R → M → Option S) (age : M → ℕ) (s : S) (v : View R M) (n : ℕ)
    → IsRunFrom rules state marked age s v → n ≤ length v.accepted → slice_get v.accepted n ≡ None → state v.runner ≡ (fold rules v.text s n).state
last_state rules state marked age s v n run le none =
    ap (λ st. st.state) run.now ∙ ap (λ k. (fold rules v.text s k).state) (past v.accepted n le none)
  where
    past : {A : Type 0} (xs : List A) (n : ℕ) → n ≤ length xs → slice_get xs n ≡ None → length xs ≡ n
    past [] zero le none = refl
    past [] (suc n) le none = absurd (omega arith)
    past (x ∷ xs) zero le none = absurd (cc)
    past (x ∷ xs) (suc n) le none = ap suc (past xs n (omega arith) none)

-- ---- another text

pub another_text : {R M S : Type 0} (rules : Rules S) (state : R → S) (marked : R → M → Option S) (age : M → ℕ) (IsEmpty : S → Type 0) (v : View R M) (text : Bytes)
    → IsRun rules state marked age IsEmpty v → v.accepted ≡ [] → IsUtf8 text → length text ≤ most
    → Follows rules state marked age IsEmpty v (record { runner = v.runner; text = text; accepted = v.accepted })
another_text {R} {M} rules state marked age IsEmpty v text run none utf8 short =
    follows rules state marked age IsEmpty v _ run
    (subst (λ xs. IsRunFrom rules state marked age (start_by state marked v.runner xs) (record { runner = v.runner; text = text; accepted = xs })) (sym none)
    (run_empty {R = R} {M = M} rules state marked age v.runner text utf8 short))

pub changed_text : {R M S : Type 0} (rules : Rules S) (state : R → S) (marked : R → M → Option S) (age : M → ℕ) (IsEmpty : S → Type 0) (v : View R M) (text : Bytes) (start : ℕ)
    → IsRun rules state marked age IsEmpty v → PlaceLaw rules → SeenLaw rules → IsUtf8 text → length text ≤ most → take start v.text ≡ take start text
    → AllPass (is_seen_by start) (units_in v)
    → Follows rules state marked age IsEmpty v (record { runner = v.runner; text = text; accepted = v.accepted })
changed_text rules state marked age IsEmpty v text start run place seen utf8 short same all =
    follows rules state marked age IsEmpty v _ run
    (run_edited rules state marked age (start_of state marked v) v text start run.run place seen utf8 short same all)

-- the units that stand first and are decided by what stands before a place
pub seen_front : {M : Type 0} (start : ℕ) (xs : List (Accepted M)) → AllPass (is_seen_by start) (spans (take (first_passing (is_seen_by start) (spans xs)) xs))
seen_front start xs = subst (AllPass (is_seen_by start)) (sym (spans_take (first_passing (is_seen_by start) (spans xs)) xs)) (all_first (is_seen_by start) (spans xs))

pub front_within : {M : Type 0} (test : UnitSpan → Bool) (xs : List (Accepted M)) → first_passing test (spans xs) ≤ length xs
front_within test xs = subst (λ n. first_passing test (spans xs) ≤ n) (spans_length xs) (first_within test (spans xs))

-- what was kept by going back to the units that end by a place
pub kept_from : {R M S : Type 0} (rules : Rules S) (state : R → S) (marked : R → M → Option S) (age : M → ℕ) (old w : View R M) (pos : ℕ)
    → IsRunFrom rules state marked age (start_of state marked old) old → IsRunFrom rules state marked age (start_of state marked w) w
    → w.text ≡ old.text → start_of state marked w ≡ start_of state marked old
    → w.accepted ≡ take (first_passing (ends_by pos) (units_in old)) old.accepted
    → standing_in state w ≡ kept_by rules (start_of state marked old) pos (session_in old)
kept_from rules state marked age old w pos run back text start accepted =
    back.now ∙ ap (λ t. fold rules t (start_of state marked w) (length w.accepted)) text ∙ ap (λ s. fold rules old.text s (length w.accepted)) start
    ∙ ap (fold rules old.text (start_of state marked old)) (ap length accepted ∙ length-take-le (first_passing (ends_by pos) (units_in old)) old.accepted (front_within (ends_by pos) old.accepted))
    ∙ sym (kept_is rules state marked age (start_of state marked old) old pos run)
