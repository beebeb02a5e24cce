-- Constructors, rule by rule, as a program follows them.
use Rattle.std.specs.Prelude.{ℕ, ◌≡◌, ◌≤◌, ◌+◌, Bool, true, false, ◌&&◌, IsTrue, ◌↔◌, List, [], ◌∷◌, ◌++◌, suc, length, map, drop, Some, None, slice_get, refl}
use Rattle.std.proofs.Common.{◌∙◌, ap, sym, subst, arith, append_assoc}
use Rattle.std.proofs.lemmas.List.{append-nil}
use Rattle.mt_term.specs.Trees.{Bytes, Tree}
use Rattle.mt_term.specs.declared.universes.Sort.{Sort as AnySort}
use Rattle.mt_term.specs.Declarations.{Hypothesis, Constructor, Environment}
use Rattle.mt_term.specs.Reasons.{Reason, NotPositive}
use Rattle.mt_calculus.specs.Positivity.{Positive}
use Rattle.mt_pool.specs.declared.nodes.TermId.{TermId}
use Rattle.mt_pool.specs.declared.held.HeldConstructor.{HeldConstructor}
use Rattle.mt_pool.specs.Region.{tree_at}
use Rattle.mt_pool.specs.HeldOf.{constructors_in}
use Rattle.mt_positivity.specs.Deciding.{is_positive}
use Rattle.mt_positivity.specs.Entries.{IsPositiveLast}
use Rattle.mt_positivity.proofs.Deciding.{positive-decides}
use Rattle.mt_term_parser.specs.declared.raw.Raw.{Raw}
use Rattle.mt_term_parser.specs.WrittenOf.{written_of}
use Rattle.mt_unit_parser.specs.declared.units.RawCon.{RawCon}
use Rattle.mt_unit_parser.specs.UnitOf.{con_of}
use Rattle.mt_resolver.specs.Resolution.{Resolution, Found, Faults, resolved}
use Rattle.mt_decl.specs.Answers.{Answer, Made, Refused, Spent, Answering, and_then, make, taken}
use Rattle.mt_decl.specs.Telescopes.{generalized, names_of}
use Rattle.mt_decl.specs.Declaring.{DeclaredConstructors, one_more, or_not_positive, declared_constructors}
use Rattle.mt_decl.specs.EntryLaws.{rest}
use Rattle.mt_decl.specs.Fitting.{sorting}
use Rattle.mt_decl.specs.Judging.{type_judged}
use Rattle.mt_decl.specs.Constructing.{family, finished, typed, constructed, joined, constructed_on}
use Rattle.mt_decl.proofs.Allowance.{make_goes, then_goes, constructor_goes, constructors_go}
use Rattle.mt_decl.proofs.FittingRules.{sorting-rest}
use Rattle.mt_decl.proofs.JudgingRules.{type-rest}
use Rattle.mt_decl.proofs.Sequences.{then_rest, drop_one, drop_past}

-- ---- a constructor that is positive

module _ (E : Environment) (start : ℕ) (Γ : List Hypothesis) (s : AnySort) (only : Bool) (x : Bytes) (C : Tree) where
  closed : Bool → AnySort → Answering (Constructor × Bool)
  closed large r = make (record { name = x; ty = generalized Γ C }, large)

  then_closed : Bool → Answering (Constructor × Bool)
  then_closed large m = and_then (type_judged E start (generalized Γ C) m) (closed large)

  finished-is : (n : ℕ) → finished E start Γ s only x C n ≡ and_then (sorting E start s only Γ C n) then_closed
  unfolding finished closed then_closed
  finished-is n = refl

  then_closed-rest : (large : Bool) (l : ℕ) → rest (then_closed large l) ≤ rest (type_judged E start (generalized Γ C) l)
  unfolding closed then_closed
  then_closed-rest large l = then_rest (type_judged E start (generalized Γ C) l) (closed large) (λ r m. omega arith)

  then_closed-falls : (large : Bool) (l : ℕ) → rest (then_closed large l) ≤ l
  then_closed-falls large l = omega (arith, then_closed-rest large l, type-rest E start (generalized Γ C) l)

  pub finish-sorts_refused : (r : Reason) (n at l : ℕ) → sorting E start s only Γ C n ≡ Refused r at l → finished E start Γ s only x C n ≡ Refused r at l
  finish-sorts_refused r n at l e = finished-is n ∙ ap (λ (o : Answer Bool). and_then o then_closed) e

  pub finish-sorts_spent : (n : ℕ) → sorting E start s only Γ C n ≡ Spent → finished E start Γ s only x C n ≡ Spent
  finish-sorts_spent n e = finished-is n ∙ ap (λ (o : Answer Bool). and_then o then_closed) e

  pub finish-sorts_within : (n : ℕ) → rest (finished E start Γ s only x C n) ≤ rest (sorting E start s only Γ C n)
  finish-sorts_within n = rw (finished-is n) (then_rest (sorting E start s only Γ C n) then_closed then_closed-falls)

  pub finish-rest : (n : ℕ) → rest (finished E start Γ s only x C n) ≤ n
  finish-rest n = omega (arith, finish-sorts_within n, sorting-rest E start Γ C s only n)

  sorts : (large : Bool) (n l : ℕ) → sorting E start s only Γ C n ≡ Made large l → finished E start Γ s only x C n ≡ then_closed large l
  sorts large n l e = finished-is n ∙ ap (λ (o : Answer Bool). and_then o then_closed) e

  pub finish-type_refused : (large : Bool) (r : Reason) (n l at k : ℕ) → sorting E start s only Γ C n ≡ Made large l → type_judged E start (generalized Γ C) l ≡ Refused r at k → finished E start Γ s only x C n ≡ Refused r at k
  unfolding then_closed
  finish-type_refused large r n l at k e f = sorts large n l e ∙ ap (λ (o : Answer AnySort). and_then o (closed large)) f

  pub finish-type_spent : (large : Bool) (n l : ℕ) → sorting E start s only Γ C n ≡ Made large l → type_judged E start (generalized Γ C) l ≡ Spent → finished E start Γ s only x C n ≡ Spent
  unfolding then_closed
  finish-type_spent large n l e f = sorts large n l e ∙ ap (λ (o : Answer AnySort). and_then o (closed large)) f

  pub finish-type_within : (large : Bool) (n l : ℕ) → sorting E start s only Γ C n ≡ Made large l → rest (finished E start Γ s only x C n) ≤ rest (type_judged E start (generalized Γ C) l)
  finish-type_within large n l e = rw (sorts large n l e) (then_closed-rest large l)

  pub finish-made : (large : Bool) (r : AnySort) (n l k : ℕ) → sorting E start s only Γ C n ≡ Made large l → type_judged E start (generalized Γ C) l ≡ Made r k
      → finished E start Γ s only x C n ≡ Made (record { name = x; ty = generalized Γ C }, large) k
  unfolding then_closed closed
  finish-made large r n l k e f = sorts large n l e ∙ ap (λ (o : Answer AnySort). and_then o (closed large)) f

pub ruleset finish_rules = (finish-sorts_refused, finish-sorts_spent, finish-sorts_within, finish-rest, finish-type_refused, finish-type_spent, finish-type_within, finish-made)

-- ---- positivity

pub positive-same : (b : Bool) (n p : ℕ) (T C : Tree) → IsTrue b ↔ Positive n p T C → b ≡ is_positive n p T C
positive-same b n p T C h = by b (is_positive n p T C) h (positive-decides n p T C).0 (positive-decides n p T C).1
  where
    by : (b c : Bool) → IsTrue b ↔ Positive n p T C → (c ≡ true → Positive n p T C) → (Positive n p T C → c ≡ true) → b ≡ c
    by true c h f g = sym (g (h.0 refl))
    by false true h f g = let no : false ≡ true = h.1 (f refl) in no
    by false false h f g = refl

-- the same of the only constructor that is held
pub positive-one : (p : List Tree) (b : Bool) (n q : ℕ) (ty k : TermId) (x : Bytes) (cs : List HeldConstructor) → cs ≡ record { name = x; ty = k } ∷ []
    → IsTrue b ↔ IsPositiveLast n q (tree_at p ty) (constructors_in p cs) → b ≡ is_positive n q (tree_at p ty) (tree_at p k)
positive-one p b n q ty k x cs e h =
    positive-same b n q (tree_at p ty) (tree_at p k) (subst (λ ds. IsTrue b ↔ IsPositiveLast n q (tree_at p ty) (constructors_in p ds)) e h)

-- ---- one constructor

module _ (E : Environment) (start number : ℕ) (Γ : List Hypothesis) (T : Tree) (s : AnySort) (only : Bool) (at : ℕ) (x : Bytes) where
  after_positive : Tree → Unit {0} → Answering (Constructor × Bool)
  after_positive C z = finished E start Γ s only x C

  typed-is : (C : Tree) (n : ℕ) → typed E start number Γ T s only at x C n ≡ and_then (or_not_positive at (is_positive number (length Γ) T (generalized Γ C)) n) (after_positive C)
  unfolding typed after_positive
  typed-is C n = refl

  pub typed-negative : (C : Tree) (n : ℕ) → is_positive number (length Γ) T (generalized Γ C) ≡ false → typed E start number Γ T s only at x C n ≡ Refused NotPositive at n
  typed-negative C n f = typed-is C n ∙ ap (λ b. and_then (or_not_positive at b n) (after_positive C)) f

  pub typed-positive : (C : Tree) (n : ℕ) → is_positive number (length Γ) T (generalized Γ C) ≡ true → typed E start number Γ T s only at x C n ≡ finished E start Γ s only x C n
  unfolding after_positive
  typed-positive C n f = typed-is C n ∙ ap (λ b. and_then (or_not_positive at b n) (after_positive C)) f

  positive_or_not : (C : Tree) (n : ℕ) (b : Bool) → rest (and_then (or_not_positive at b n) (after_positive C)) ≤ n
  unfolding after_positive
  positive_or_not C n true = finish-rest E start Γ s only x C n
  positive_or_not C n false = omega arith

  pub typed-rest : (C : Tree) (n : ℕ) → rest (typed E start number Γ T s only at x C n) ≤ n
  typed-rest C n = rw (typed-is C n) (positive_or_not C n (is_positive number (length Γ) T (generalized Γ C)))

  module _ (w : Raw) where
    after_type : Tree → Answering (Constructor × Bool)
    after_type C = typed E start number Γ T s only at x C

    constructed-is : (n : ℕ) → constructed E start number Γ T s only at x (written_of w) n ≡ and_then (taken (resolved E (names_of Γ) (written_of w)) n) after_type
    unfolding constructed typed finished sorting type_judged after_type
    constructed-is n = refl

    pub constructor-faults : (r : Reason) (place n : ℕ) → resolved E (names_of Γ) (written_of w) ≡ Faults r place → constructed E start number Γ T s only at x (written_of w) n ≡ Refused r place n
    constructor-faults r place n e = constructed-is n ∙ ap (λ (q : Resolution Tree). and_then (taken q n) after_type) e

    pub constructor-found : (C : Tree) (n : ℕ) → resolved E (names_of Γ) (written_of w) ≡ Found C → constructed E start number Γ T s only at x (written_of w) n ≡ typed E start number Γ T s only at x C n
    unfolding after_type
    constructor-found C n e = constructed-is n ∙ ap (λ (q : Resolution Tree). and_then (taken q n) after_type) e

    pub constructor-rest : (n : ℕ) → rest (constructed E start number Γ T s only at x (written_of w) n) ≤ n
    unfolding constructed
    constructor-rest n = (constructor_goes E start (family number Γ T s) only (record { name = x; at = at; type = written_of w })).1 n

pub ruleset typed_rules = (typed-negative, typed-positive, typed-rest)

pub ruleset constructor_rules = (constructor-faults, constructor-found, constructor-rest)

-- ---- the constructors in order

all_of : (a b c : Bool) → (a && (b && c)) ≡ ((a && b) && c)
all_of true b c = refl
all_of false b c = refl

all_true : (a : Bool) → (a && true) ≡ a
all_true true = refl
all_true false = refl

module _ (E : Environment) (start number : ℕ) (Γ : List Hypothesis) (T : Tree) (s : AnySort) (only : Bool) (before : List Constructor) (all : Bool) where
  others : List RawCon → Constructor × Bool → Answering DeclaredConstructors
  others cs d m = and_then (declared_constructors E start (family number Γ T s) only (map con_of cs) m) (λ ds. make (one_more d.0 d.1 ds))

  on-is : (c : RawCon) (cs : List RawCon) (n : ℕ) → constructed_on E start number Γ T s only before all (c ∷ cs) n ≡ and_then (and_then (constructed E start number Γ T s only c.at c.name (written_of c.ty) n) (others cs)) (joined before all)
  unfolding constructed constructed_on others
  on-is c cs n = refl

  join : (d : Constructor × Bool) (o : Answer DeclaredConstructors) → and_then (and_then o (λ ds. make (one_more d.0 d.1 ds))) (joined before all) ≡ and_then o (joined (before ++ d.0 ∷ []) (all && d.1))
  join d (Made ds l) = ap (λ (cs : List Constructor). Made (cs, all && (d.1 && ds.1)) l) (sym (append_assoc before (d.0 ∷ []) ds.0)) ∙ ap (λ (b : Bool). Made ((before ++ d.0 ∷ []) ++ ds.0, b) l) (all_of all d.1 ds.1)
  join d (Refused r at l) = refl
  join d Spent = refl

  pub on-rest : (cs : List RawCon) (n : ℕ) → rest (constructed_on E start number Γ T s only before all cs n) ≤ n
  unfolding constructed_on
  on-rest cs n = (then_goes (declared_constructors E start (family number Γ T s) only (map con_of cs)) (joined before all) (constructors_go E start (family number Γ T s) only (map con_of cs)) (λ ds. make_goes (before ++ ds.0, all && ds.1))).1 n

  others-rest : (cs : List RawCon) (d : Constructor × Bool) (l : ℕ) → rest (others cs d l) ≤ l
  unfolding others
  others-rest cs d l = (then_goes (declared_constructors E start (family number Γ T s) only (map con_of cs)) (λ ds. make (one_more d.0 d.1 ds)) (constructors_go E start (family number Γ T s) only (map con_of cs)) (λ ds. make_goes (one_more d.0 d.1 ds))).1 l

  module _ (cs : List RawCon) (k : ℕ) where
    pub on-none : (n : ℕ) → slice_get cs k ≡ None → constructed_on E start number Γ T s only before all (drop k cs) n ≡ Made (before, all) n
    unfolding constructed_on
    on-none n e =
        ap (λ ds. constructed_on E start number Γ T s only before all ds n) (drop_past cs k e)
        ∙ ap (λ (ds : List Constructor). Made (ds, all && true) n) (append-nil before) ∙ ap (λ (b : Bool). Made (before, b) n) (all_true all)

    module _ (c : RawCon) (at : slice_get cs k ≡ Some c) where
      here : (n : ℕ) → constructed_on E start number Γ T s only before all (drop k cs) n ≡ and_then (and_then (constructed E start number Γ T s only c.at c.name (written_of c.ty) n) (others (drop (suc k) cs))) (joined before all)
      here n = ap (λ ds. constructed_on E start number Γ T s only before all ds n) (drop_one cs k c at) ∙ on-is c (drop (suc k) cs) n

      pub on-refused : (r : Reason) (n place l : ℕ) → constructed E start number Γ T s only c.at c.name (written_of c.ty) n ≡ Refused r place l → constructed_on E start number Γ T s only before all (drop k cs) n ≡ Refused r place l
      on-refused r n place l e = here n ∙ ap (λ (o : Answer (Constructor × Bool)). and_then (and_then o (others (drop (suc k) cs))) (joined before all)) e

      pub on-spent : (n : ℕ) → constructed E start number Γ T s only c.at c.name (written_of c.ty) n ≡ Spent → constructed_on E start number Γ T s only before all (drop k cs) n ≡ Spent
      on-spent n e = here n ∙ ap (λ (o : Answer (Constructor × Bool)). and_then (and_then o (others (drop (suc k) cs))) (joined before all)) e

      pub on-within : (n : ℕ) → rest (constructed_on E start number Γ T s only before all (drop k cs) n) ≤ rest (constructed E start number Γ T s only c.at c.name (written_of c.ty) n)
      on-within n =
          let o : Answer (Constructor × Bool) = constructed E start number Γ T s only c.at c.name (written_of c.ty) n in
          let first : rest (and_then o (others (drop (suc k) cs))) ≤ rest o = then_rest o (others (drop (suc k) cs)) (others-rest (drop (suc k) cs)) in
          let second : rest (and_then (and_then o (others (drop (suc k) cs))) (joined before all)) ≤ rest (and_then o (others (drop (suc k) cs))) = then_rest (and_then o (others (drop (suc k) cs))) (joined before all) (λ ds m. omega arith) in
          rw (here n) (omega (arith, first, second))

      pub on-next : (d : Constructor × Bool) (next n l : ℕ) → next ≡ k + 1 → constructed E start number Γ T s only c.at c.name (written_of c.ty) n ≡ Made d l
          → constructed_on E start number Γ T s only before all (drop k cs) n ≡ constructed_on E start number Γ T s only (before ++ d.0 ∷ []) (all && d.1) (drop next cs) l
      unfolding constructed_on others
      on-next d next n l m e =
          let same : suc k ≡ next = omega arith in
          here n ∙ ap (λ (o : Answer (Constructor × Bool)). and_then (and_then o (others (drop (suc k) cs))) (joined before all)) e
          ∙ join d (declared_constructors E start (family number Γ T s) only (map con_of (drop (suc k) cs)) l)
          ∙ ap (λ j. constructed_on E start number Γ T s only (before ++ d.0 ∷ []) (all && d.1) (drop j cs) l) same

      pub on-made_rest : (d : Constructor × Bool) (n l : ℕ) → constructed E start number Γ T s only c.at c.name (written_of c.ty) n ≡ Made d l → rest (constructed_on E start number Γ T s only before all (drop k cs) n) ≤ l
      on-made_rest d n l e = omega (arith, on-within n, ap rest e)

pub ruleset constructors_rules = (on-none, on-refused, on-spent, on-within, on-next, on-made_rest, on-rest)
