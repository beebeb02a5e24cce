-- The places in a command or an action that is read are bounds of characters.
use Rattle.std.proofs.Common.{ℕ, Bool, true, false, List, [], ◌∷◌}
use Rattle.std.specs.Prelude.{codes, Some, None}
use Rattle.std.specs.Str.{IsCharBoundary}
use Rattle.mt_lexer.specs.declared.Token.{Token}
use Rattle.mt_term.specs.Reasons.{Syntax}
use Rattle.mt_term_parser.specs.Written.{Bytes, Written, Absent, Given}
use Rattle.mt_term_parser.specs.Readings.{Got, then_read, passed, word_of, is_name, is_name_kind, number, sees, sees_sign}
use Rattle.mt_term_parser.specs.Grammar.{term_at}
use Rattle.mt_unit_parser.specs.declared.words.Verb.{Verb}
use Rattle.mt_unit_parser.specs.declared.words.Verb.TheVariants as verb
use Rattle.mt_unit_parser.specs.WrittenUnits.{Intro, Whd, Normalize, Assumption, Constructor, Clear, Constraint, Axiom, Definition, Inductive, Recursive, Hint, Coercion, Theorem, Qed}
use Rattle.mt_unit_parser.specs.Units.{WrittenSignature, is_spelled, spelled, after_sign, head, variable, group, groups, some_groups, nums, constraint, stated, assumed, theorem, optional_type, body, defined, constructor, optional_bar, constructors, signature, inductive, recursion_head, function, recursion, corecursion, letting, variables, equation, sides, hint_head, hint, coercion, qed, with_term, deed, action}
use Rattle.mt_unit_laws.specs.EachPlace.{EachOf, InTerm, InDomain, InGroup, InCon, InEquation, InDeed, InAction, InKind}
use Rattle.mt_unit_laws.proofs.Carried.{Carries, Nothing, carries-got, carries-stop, carries-then, carries-token, carries-after, carries-pass, carries-if, row-carries, sign-carries, name-carries, binder-carries, number-carries, separated-carries}
use Rattle.mt_unit_laws.proofs.PlacedTerms.{term_at-carries}

pub spelled-carries : {text : List ℕ} {at : ℕ} (w : List ℕ) → Carries text Nothing at (spelled w text at)
spelled-carries {text} w = carries-token (λ t p. carries-pass t (is_spelled w text t) tt tt)

pub nums-carries : (text : List ℕ) (at : ℕ) → Carries text (EachOf Nothing) at (nums text at)
nums-carries text at = separated-carries Nothing 44 (number text) (λ place. number-carries) at

module _ (text : List ℕ) where
  abbrev P : ℕ → Type 0
  P = IsCharBoundary text

  after-carries : (c at : ℕ) → Carries text (InTerm P) at (after_sign c text at)
  after-carries c at = carries-then (sign-carries c) (λ _ a _. term_at-carries text a 0)

  head-carries : (at : ℕ) → Carries text (InGroup P) at (head text at)
  head-carries at = carries-then name-carries (λ x a _. carries-then (after-carries 58 a) (λ T end p. carries-got {Q = InGroup P} (record { name = x; type = T }) p))

  variable-carries : (at : ℕ) → Carries text (InGroup P) at (variable text at)
  variable-carries at = carries-then binder-carries (λ x a _. carries-then (after-carries 58 a) (λ T end p. carries-got {Q = InGroup P} (record { name = x; type = T }) p))

  group-carries : (at : ℕ) → Carries text (InGroup P) at (group text at)
  group-carries at = carries-then (sign-carries 40) (λ _ a _. carries-then (variable-carries a) (λ g b p. carries-then (sign-carries 41) (λ _ end _. carries-got {Q = InGroup P} g p)))

  groups-carries : (at : ℕ) → Carries text (EachOf (InGroup P)) at (groups text at)
  groups-carries at = row-carries text (InGroup P) (group text) group-carries (sees_sign 40 text) at

  some_groups-carries : (at : ℕ) → Carries text (EachOf (InGroup P)) at (some_groups text at)
  some_groups-carries at =
      carries-then (group-carries at) (λ g a p. carries-then (groups-carries a) (λ more end q. carries-got {Q = EachOf (InGroup P)} (g ∷ more) (p, q)))

  -- ---- commands

  pub constraint-carries : (at : ℕ) → Carries text (InKind P) at (constraint text at)
  constraint-carries at =
      carries-then (spelled-carries (codes "constraint")) (λ _ a _.
      carries-then name-carries (λ x b _.
      carries-then (sign-carries 60) (λ _ c _.
      carries-then name-carries (λ y d _.
      carries-then (sign-carries 46) (λ _ end _. carries-got {Q = InKind P} (Constraint x y) tt)))))

  stated-carries : (at : ℕ) → Carries text (InGroup P) at (stated text at)
  stated-carries at = carries-then (head-carries at) (λ g a p. carries-then (sign-carries 46) (λ _ end _. carries-got {Q = InGroup P} g p))

  pub assumed-carries : (at : ℕ) → Carries text (InKind P) at (assumed text at)
  assumed-carries at = carries-then (stated-carries at) (λ g end p. carries-got {Q = InKind P} (Axiom g.name g.type) p)

  pub theorem-carries : (at : ℕ) → Carries text (InKind P) at (theorem text at)
  theorem-carries at = carries-then (stated-carries at) (λ g end p. carries-got {Q = InKind P} (Theorem g.name g.type) p)

  optional_type-carries : (at : ℕ) → Carries text (InDomain P) at (optional_type text at)
  optional_type-carries at =
      carries-if (sees_sign 58 text at) (carries-then (after-carries 58 at) (λ T end p. carries-got {Q = InDomain P} (Given T) p)) (carries-got {Q = InDomain P} Absent tt)

  body-carries : (at : ℕ) → Carries text (InTerm P) at (body text at)
  body-carries at = carries-then (after-carries 0x225D at) (λ t a p. carries-then (sign-carries 46) (λ _ end _. carries-got {Q = InTerm P} t p))

  pub defined-carries : (at : ℕ) → Carries text (InKind P) at (defined text at)
  defined-carries at =
      carries-then name-carries (λ x a _.
      carries-then (optional_type-carries a) (λ T b p.
      carries-then (body-carries b) (λ t end q. carries-got {Q = InKind P} (Definition x T t) (p, q))))

  constructor-by : (t : Token) → P t.start → Carries text (InCon P) t.end
      (then_read (passed (is_name text t) t (word_of text t)) (λ x a. then_read (after_sign 58 text a) (λ T end. Got (record { at = t.start; name = x; type = T }) end)))
  constructor-by t s =
      carries-then (carries-pass {Q = Nothing} t (is_name text t) (word_of text t) tt) (λ x a _.
      carries-then (after-carries 58 a) (λ T end p. carries-got {Q = InCon P} (record { at = t.start; name = x; type = T }) (s, p)))

  constructor-carries : (at : ℕ) → Carries text (InCon P) at (constructor text at)
  constructor-carries at = carries-token (λ t s. constructor-by t s)

  bar-carries : (at : ℕ) → Carries text Nothing at (optional_bar text at)
  bar-carries at = carries-if (sees_sign 124 text at) (sign-carries 124) (carries-got tt tt)

  constructors-carries : (at : ℕ) → Carries text (EachOf (InCon P)) at (constructors text at)
  constructors-carries at =
      carries-then (bar-carries at) (λ _ a _.
      carries-if (sees (is_name text) text a) (separated-carries (InCon P) 124 (constructor text) constructor-carries a) (carries-got {Q = EachOf (InCon P)} [] tt))

  abbrev InSignature : WrittenSignature → Type 0
  InSignature s = EachOf (InGroup P) s.groups × InTerm P s.type

  signature-carries : (at : ℕ) → Carries text InSignature at (signature text at)
  signature-carries at =
      carries-then name-carries (λ x a _.
      carries-then (groups-carries a) (λ gs b p.
      carries-then (after-carries 58 b) (λ T end q. carries-got {Q = InSignature} (record { name = x; groups = gs; type = T }) (p, q))))

  pub inductive-carries : (co : Bool) (at : ℕ) → Carries text (InKind P) at (inductive co text at)
  inductive-carries co at =
      carries-then (signature-carries at) (λ s a p.
      carries-then (sign-carries 0x225D) (λ _ b _.
      carries-then (constructors-carries b) (λ cs c q.
      carries-then (sign-carries 46) (λ _ end _. carries-got {Q = InKind P} (Inductive co s.groups (record { name = s.name; arity = s.type; cons = cs } ∷ [])) (p.0, ((p.1, q), tt))))))

  abbrev InHead : WrittenSignature × Bytes → Type 0
  InHead s = InSignature s.0

  recursion_head-carries : (at : ℕ) → Carries text InHead at (recursion_head text at)
  recursion_head-carries at =
      carries-then name-carries (λ x a _.
      carries-then (some_groups-carries a) (λ gs b p.
      carries-then (spelled-carries (codes "on")) (λ _ c _.
      carries-then name-carries (λ y d _.
      carries-then (after-carries 58 d) (λ T end q. carries-got {Q = InHead} (record { name = x; groups = gs; type = T }, y) (p, q))))))

  recursion-carries : (at : ℕ) → Carries text (InKind P) at (recursion text at)
  recursion-carries at =
      carries-then (recursion_head-carries at) (λ s a p.
      carries-then (body-carries a) (λ t end q. carries-got {Q = InKind P} (Recursive false (function s.0 (Some s.1) t ∷ [])) ((p.0, p.1, q), tt)))

  corecursion-carries : (at : ℕ) → Carries text (InKind P) at (corecursion text at)
  corecursion-carries at =
      carries-then (signature-carries at) (λ s a p.
      carries-then (body-carries a) (λ t end q. carries-got {Q = InKind P} (Recursive true (function s None t ∷ [])) ((p.0, p.1, q), tt)))

  pub letting-carries : (at : ℕ) → Carries text (InKind P) at (letting text at)
  letting-carries at =
      carries-after _ (λ t s.
      carries-if (is_spelled (codes "rec") text t) (recursion-carries t.end)
      (carries-if (is_spelled (codes "corec") text t) (corecursion-carries t.end) (carries-stop Syntax t.start)))

  variables-carries : (at : ℕ) → Carries text (EachOf (InGroup P)) at (variables text at)
  variables-carries at =
      carries-if (sees (λ t. is_name_kind t.kind) text at) (separated-carries (InGroup P) 44 (variable text) variable-carries at) (carries-got {Q = EachOf (InGroup P)} [] tt)

  equation-carries : (at : ℕ) → Carries text (InEquation P) at (equation text at)
  equation-carries at =
      carries-then (sign-carries 59) (λ _ a _.
      carries-then name-carries (λ x b _.
      carries-then (after-carries 0x225F b) (λ t end p. carries-got {Q = InEquation P} (record { name = x; term = t }) p)))

  abbrev InSides : Written × Written → Type 0
  InSides s = InTerm P s.0 × InTerm P s.1

  sides-carries : (at : ℕ) → Carries text InSides at (sides text at)
  sides-carries at =
      carries-then (after-carries 0x22A2 at) (λ t a p.
      carries-then (after-carries 0x2261 a) (λ u b q.
      carries-then (sign-carries 46) (λ _ end _. carries-got {Q = InSides} (t, u) (p, q))))

  hint_head-carries : (at : ℕ) → Carries text Nothing at (hint_head text at)
  hint_head-carries at =
      carries-then (spelled-carries (codes "hint")) (λ _ a _.
      carries-then number-carries (λ n b _. carries-then (sign-carries 0x2254) (λ _ end _. carries-got n tt)))

  pub hint-carries : (at : ℕ) → Carries text (InKind P) at (hint text at)
  hint-carries at =
      carries-then (hint_head-carries at) (λ n a _.
      carries-then (variables-carries a) (λ xs b p.
      carries-then (row-carries text (InEquation P) (equation text) equation-carries (sees_sign 59 text) b) (λ es c q.
      carries-then (sides-carries c) (λ s end r. carries-got {Q = InKind P} (Hint n xs es s.0 s.1) (p, q, r.0, r.1)))))

  pub coercion-carries : (at : ℕ) → Carries text (InKind P) at (coercion text at)
  coercion-carries at = carries-then name-carries (λ x a _. carries-then (sign-carries 46) (λ _ end _. carries-got {Q = InKind P} (Coercion x) tt))

  pub qed-carries : (at : ℕ) → Carries text (InKind P) at (qed text at)
  qed-carries at = carries-then (sign-carries 46) (λ _ end _. carries-got {Q = InKind P} Qed tt)

  -- ---- actions

  in-deed : (v : Verb) (t : Written) → InTerm P t → InDeed P (with_term v t)
  in-deed verb.Exact t p = p
  in-deed verb.Refine t p = p
  in-deed verb.Apply t p = p
  in-deed verb.Cut t p = p
  in-deed verb.Lapply t p = p
  in-deed verb.Change t p = p
  in-deed verb.Generalize t p = p
  in-deed verb.Cases t p = p
  in-deed verb.Elim t p = p
  in-deed verb.Intro t p = tt
  in-deed verb.Whd t p = tt
  in-deed verb.Normalize t p = tt
  in-deed verb.Assumption t p = tt
  in-deed verb.Constructor t p = tt
  in-deed verb.Clear t p = tt

  on-term : (v : Verb) (depth at : ℕ) → Carries text (InDeed P) at (then_read (term_at text at depth) (λ t end. Got (with_term v t) end))
  on-term v depth at = carries-then (term_at-carries text at depth) (λ t end p. carries-got {Q = InDeed P} (with_term v t) (in-deed v t p))

  deed-carries : (v : Verb) (depth at : ℕ) → Carries text (InDeed P) at (deed v depth text at)
  deed-carries verb.Intro depth at = carries-then binder-carries (λ x end _. carries-got {Q = InDeed P} (Intro x) tt)
  deed-carries verb.Clear depth at = carries-then name-carries (λ x end _. carries-got {Q = InDeed P} (Clear x) tt)
  deed-carries verb.Constructor depth at = carries-then number-carries (λ n end _. carries-got {Q = InDeed P} (Constructor n) tt)
  deed-carries verb.Whd depth at = carries-got {Q = InDeed P} Whd tt
  deed-carries verb.Normalize depth at = carries-got {Q = InDeed P} Normalize tt
  deed-carries verb.Assumption depth at = carries-got {Q = InDeed P} Assumption tt
  deed-carries v depth at = on-term v depth at

  pub action-carries : (v : Verb) (depth : ℕ) (t : Token) → P t.start → Carries text (InAction P) t.end (action v depth text t)
  action-carries v depth t s = carries-then (deed-carries v depth t.end) (λ d end p. carries-got {Q = InAction P} (record { start = t.start; deed = d }) (s, p))
