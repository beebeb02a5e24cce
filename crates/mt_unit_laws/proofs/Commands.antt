-- Commands and actions of two texts that begin with the same bytes.
use Rattle.std.proofs.Common.{◌≡◌, ℕ, Bool, true, false, ◌&&◌, cond, List, [], ◌∷◌, refl, ap, ap₂}
use Rattle.std.specs.Prelude.{codes, bytes_eq, Some, None}
use Rattle.mt_lexer.specs.declared.Token.{Token}
use Rattle.mt_term.specs.Reasons.{Syntax}
use Rattle.mt_term_parser.specs.Written.{Absent, Given}
use Rattle.mt_term_parser.specs.Readings.{Got, Stops, then_read, passed, word_of, is_name, is_name_kind, number}
use Rattle.mt_term_parser.specs.Grammar.{term_at}
use Rattle.mt_unit_parser.specs.declared.words.Verb.{Verb}
use Rattle.mt_unit_parser.specs.declared.words.Verb.TheVariants as verb
use Rattle.mt_unit_parser.specs.WrittenUnits.{WrittenCon, Intro, Whd, Normalize, Assumption, Constructor, Clear, Constraint, Axiom, Definition, Inductive, Recursive, Hint, Coercion, Theorem, Qed}
use Rattle.mt_unit_parser.specs.Units.{is_spelled, spelled, after_sign, head, variable, group, groups, some_groups, nums, constraint, stated, assumed, theorem, optional_type, body, defined, constructor, optional_bar, constructors, signature, inductive, recursion_head, function, recursion, corecursion, letting, variables, equation, sides, hint_head, hint, coercion, qed, verb_of_word, verb_of_sign, verb_of, with_term, deed, action}
use Rattle.mt_unit_laws.proofs.Texts.{Front, SameToken}
use Rattle.mt_unit_laws.proofs.Local.{Local, local-got, local-weaker, local-then, local-token, local-pass, local-if}
use Rattle.mt_unit_laws.proofs.Terms.{sign-same, is_name-same, sign-local, name-local, binder-local, number-local, if-sign, row-of-sign, separated-local, term_at-local}
use Rattle.mt_unit_laws.proofs.Final.{Final, final-stop, final-to, final-then, final-map, final-token, final-sign}

-- ---- parts

pub is_spelled-same : (w : List ℕ) (f : Front) (t : Token) → SameToken f t → is_spelled w f.first t ≡ is_spelled w f.second t
is_spelled-same w f t e = ap (λ v. is_name_kind t.kind && bytes_eq v w) e.word

pub spelled-local : {f : Front} {S : Type 0} {at : ℕ} (w : List ℕ) → Local f S 1 at (spelled w f.first at) (spelled w f.second at)
spelled-local {f} w = local-token (λ t. local-pass t (is_spelled w f.first t) (is_spelled w f.second t) tt tt (is_spelled-same w f t) (λ _. refl))

after-local : {f : Front} {S : Type 0} {at : ℕ} (c : ℕ) → Local f S 1 at (after_sign c f.first at) (after_sign c f.second at)
after-local c = local-then (sign-local c) (λ _ a. term_at-local a 0)

head-local : {f : Front} {S : Type 0} {at : ℕ} → Local f S 1 at (head f.first at) (head f.second at)
head-local = local-then name-local (λ x a. local-then (after-local 58) (λ T end. local-got (record { name = x; type = T })))

variable-local : {f : Front} {S : Type 0} {at : ℕ} → Local f S 1 at (variable f.first at) (variable f.second at)
variable-local = local-then binder-local (λ x a. local-then (after-local 58) (λ T end. local-got (record { name = x; type = T })))

group-local : {f : Front} {S : Type 0} {at : ℕ} → Local f S 1 at (group f.first at) (group f.second at)
group-local = local-then (sign-local 40) (λ _ a. local-then variable-local (λ g b. local-then (sign-local 41) (λ _ end. local-got g)))

groups-local : {f : Front} {S : Type 0} {at : ℕ} → Local f S 0 at (groups f.first at) (groups f.second at)
groups-local {f} = row-of-sign 40 (group f.first) (group f.second) (λ place. group-local)

some_groups-local : {f : Front} {S : Type 0} {at : ℕ} → Local f S 1 at (some_groups f.first at) (some_groups f.second at)
some_groups-local = local-then group-local (λ g a. local-then groups-local (λ more end. local-got (g ∷ more)))

pub nums-local : {f : Front} {S : Type 0} {at : ℕ} → Local f S 1 at (nums f.first at) (nums f.second at)
nums-local {f} = separated-local 44 (number f.first) (number f.second) (λ place. number-local)

optional_type-local : {f : Front} {S : Type 0} {at : ℕ} → Local f S 0 at (optional_type f.first at) (optional_type f.second at)
optional_type-local = if-sign 58 (local-weaker (local-then (after-local 58) (λ T end. local-got (Given T)))) (local-got Absent)

constructor-by : {f : Front} (t : Token) → Local {A = WrittenCon} f (SameToken f t) 0 t.end
    (then_read (passed (is_name f.first t) t (word_of f.first t)) (λ x a. then_read (after_sign 58 f.first a) (λ T end. Got (record { at = t.start; name = x; type = T }) end)))
    (then_read (passed (is_name f.second t) t (word_of f.second t)) (λ x a. then_read (after_sign 58 f.second a) (λ T end. Got (record { at = t.start; name = x; type = T }) end)))
constructor-by {f} t =
    local-then (local-pass t (is_name f.first t) (is_name f.second t) (word_of f.first t) (word_of f.second t) (is_name-same f t) (λ e. e.word)) (λ x a.
    local-then (after-local 58) (λ T end. local-got (record { at = t.start; name = x; type = T })))

constructor-local : {f : Front} {S : Type 0} {at : ℕ} → Local f S 1 at (constructor f.first at) (constructor f.second at)
constructor-local = local-token (λ t. constructor-by t)

bar-local : {f : Front} {S : Type 0} {at : ℕ} → Local f S 0 at (optional_bar f.first at) (optional_bar f.second at)
bar-local = if-sign 124 (local-weaker (sign-local 124)) (local-got tt)

constructors-local : {f : Front} {S : Type 0} {at : ℕ} → Local f S 0 at (constructors f.first at) (constructors f.second at)
constructors-local {f} =
    local-then bar-local (λ _ a.
    local-if (is_name f.first) (is_name f.second) (is_name-same f) (local-weaker (separated-local 124 (constructor f.first) (constructor f.second) (λ place. constructor-local))) (local-got []))

signature-local : {f : Front} {S : Type 0} {at : ℕ} → Local f S 1 at (signature f.first at) (signature f.second at)
signature-local =
    local-then name-local (λ x a.
    local-then groups-local (λ gs b.
    local-then (after-local 58) (λ T end. local-got (record { name = x; groups = gs; type = T }))))

recursion_head-local : {f : Front} {S : Type 0} {at : ℕ} → Local f S 1 at (recursion_head f.first at) (recursion_head f.second at)
recursion_head-local =
    local-then name-local (λ x a.
    local-then some_groups-local (λ gs b.
    local-then (spelled-local (codes "on")) (λ _ c.
    local-then name-local (λ y d.
    local-then (after-local 58) (λ T end. local-got (record { name = x; groups = gs; type = T }, y))))))

variables-local : {f : Front} {S : Type 0} {at : ℕ} → Local f S 0 at (variables f.first at) (variables f.second at)
variables-local {f} =
    local-if (λ t. is_name_kind t.kind) (λ t. is_name_kind t.kind) (λ t e. refl) (local-weaker (separated-local 44 (variable f.first) (variable f.second) (λ place. variable-local))) (local-got [])

equation-local : {f : Front} {S : Type 0} {at : ℕ} → Local f S 1 at (equation f.first at) (equation f.second at)
equation-local =
    local-then (sign-local 59) (λ _ a.
    local-then name-local (λ x b.
    local-then (after-local 0x225F) (λ t end. local-got (record { name = x; term = t }))))

hint_head-local : {f : Front} {S : Type 0} {at : ℕ} → Local f S 1 at (hint_head f.first at) (hint_head f.second at)
hint_head-local =
    local-then (spelled-local (codes "hint")) (λ _ a.
    local-then number-local (λ n b. local-then (sign-local 0x2254) (λ _ end. local-got n)))

-- ---- commands, which end with `.`

pub constraint-final : {f : Front} {S : Type 0} {at : ℕ} → Final f S at (constraint f.first at) (constraint f.second at)
constraint-final =
    final-then (spelled-local (codes "constraint")) (λ _ a.
    final-then name-local (λ x b.
    final-then (sign-local 60) (λ _ c.
    final-then name-local (λ y d. final-map (λ _ end. Constraint x y) (final-sign 46 refl)))))

stated-final : {f : Front} {S : Type 0} {at : ℕ} → Final f S at (stated f.first at) (stated f.second at)
stated-final = final-then head-local (λ g a. final-map (λ _ end. g) (final-sign 46 refl))

pub assumed-final : {f : Front} {S : Type 0} {at : ℕ} → Final f S at (assumed f.first at) (assumed f.second at)
assumed-final = final-map (λ g end. Axiom g.name g.type) stated-final

pub theorem-final : {f : Front} {S : Type 0} {at : ℕ} → Final f S at (theorem f.first at) (theorem f.second at)
theorem-final = final-map (λ g end. Theorem g.name g.type) stated-final

body-final : {f : Front} {S : Type 0} {at : ℕ} → Final f S at (body f.first at) (body f.second at)
body-final = final-then (after-local 0x225D) (λ t a. final-map (λ _ end. t) (final-sign 46 refl))

pub defined-final : {f : Front} {S : Type 0} {at : ℕ} → Final f S at (defined f.first at) (defined f.second at)
defined-final =
    final-then name-local (λ x a.
    final-then optional_type-local (λ T b. final-map (λ t end. Definition x T t) body-final))

pub inductive-final : {f : Front} {S : Type 0} {at : ℕ} (co : Bool) → Final f S at (inductive co f.first at) (inductive co f.second at)
inductive-final co =
    final-then signature-local (λ s a.
    final-then (sign-local 0x225D) (λ _ b.
    final-then constructors-local (λ cs c.
    final-map (λ _ end. Inductive co s.groups (record { name = s.name; arity = s.type; cons = cs } ∷ [])) (final-sign 46 refl))))

recursion-final : {f : Front} {S : Type 0} {at : ℕ} → Final f S at (recursion f.first at) (recursion f.second at)
recursion-final = final-then recursion_head-local (λ s a. final-map (λ t end. Recursive false (function s.0 (Some s.1) t ∷ [])) body-final)

corecursion-final : {f : Front} {S : Type 0} {at : ℕ} → Final f S at (corecursion f.first at) (corecursion f.second at)
corecursion-final = final-then signature-local (λ s a. final-map (λ t end. Recursive true (function s None t ∷ [])) body-final)

letting-by : {f : Front} (t : Token) (rec corec : Bool)
    → Final f (SameToken f t) t.end (cond rec (recursion f.first t.end) (cond corec (corecursion f.first t.end) (Stops Syntax t.start)))
    (cond rec (recursion f.second t.end) (cond corec (corecursion f.second t.end) (Stops Syntax t.start)))
letting-by t true corec = recursion-final
letting-by t false true = corecursion-final
letting-by t false false = final-stop Syntax t.start (λ e. e.begins) _

pub letting-final : {f : Front} {S : Type 0} {at : ℕ} → Final f S at (letting f.first at) (letting f.second at)
letting-final {f} =
    final-token
    (λ t a. cond (is_spelled (codes "rec") f.first t) (recursion f.first a) (cond (is_spelled (codes "corec") f.first t) (corecursion f.first a) (Stops Syntax t.start)))
    (λ t a. cond (is_spelled (codes "rec") f.second t) (recursion f.second a) (cond (is_spelled (codes "corec") f.second t) (corecursion f.second a) (Stops Syntax t.start)))
    (λ t. final-to (letting-by t (is_spelled (codes "rec") f.first t) (is_spelled (codes "corec") f.first t)) _
    (λ e. ap₂ (λ rec corec. cond rec (recursion f.second t.end) (cond corec (corecursion f.second t.end) (Stops Syntax t.start)))
    (is_spelled-same (codes "rec") f t e) (is_spelled-same (codes "corec") f t e)))

sides-final : {f : Front} {S : Type 0} {at : ℕ} → Final f S at (sides f.first at) (sides f.second at)
sides-final =
    final-then (after-local 0x22A2) (λ t a.
    final-then (after-local 0x2261) (λ u b. final-map (λ _ end. (t, u)) (final-sign 46 refl)))

pub hint-final : {f : Front} {S : Type 0} {at : ℕ} → Final f S at (hint f.first at) (hint f.second at)
hint-final {f} =
    final-then hint_head-local (λ n a.
    final-then variables-local (λ xs b.
    final-then (row-of-sign 59 (equation f.first) (equation f.second) (λ place. equation-local)) (λ es c.
    final-map (λ s end. Hint n xs es s.0 s.1) sides-final)))

pub coercion-final : {f : Front} {S : Type 0} {at : ℕ} → Final f S at (coercion f.first at) (coercion f.second at)
coercion-final = final-then name-local (λ x a. final-map (λ _ end. Coercion x) (final-sign 46 refl))

pub qed-final : {f : Front} {S : Type 0} {at : ℕ} → Final f S at (qed f.first at) (qed f.second at)
qed-final = final-map (λ _ end. Qed) (final-sign 46 refl)

-- ---- actions

pub verb-same : (f : Front) (t : Token) → SameToken f t → verb_of f.first t ≡ verb_of f.second t
verb-same f t e = ap₂ (λ w s. cond (is_name_kind t.kind) (verb_of_word w) (verb_of_sign s)) e.word (sign-same f t e)

term-deed : {f : Front} {S : Type 0} {at : ℕ} (v : Verb) (depth : ℕ)
    → Local f S 0 at (then_read (term_at f.first at depth) (λ t end. Got (with_term v t) end)) (then_read (term_at f.second at depth) (λ t end. Got (with_term v t) end))
term-deed {at = at} v depth = local-weaker (local-then (term_at-local at depth) (λ t end. local-got (with_term v t)))

deed-local : {f : Front} {S : Type 0} {at : ℕ} (v : Verb) (depth : ℕ) → Local f S 0 at (deed v depth f.first at) (deed v depth f.second at)
deed-local verb.Intro depth = local-weaker (local-then binder-local (λ x end. local-got (Intro x)))
deed-local verb.Clear depth = local-weaker (local-then name-local (λ x end. local-got (Clear x)))
deed-local verb.Constructor depth = local-weaker (local-then number-local (λ n end. local-got (Constructor n)))
deed-local verb.Whd depth = local-got Whd
deed-local verb.Normalize depth = local-got Normalize
deed-local verb.Assumption depth = local-got Assumption
deed-local verb.Exact depth = term-deed verb.Exact depth
deed-local verb.Refine depth = term-deed verb.Refine depth
deed-local verb.Apply depth = term-deed verb.Apply depth
deed-local verb.Cut depth = term-deed verb.Cut depth
deed-local verb.Lapply depth = term-deed verb.Lapply depth
deed-local verb.Change depth = term-deed verb.Change depth
deed-local verb.Generalize depth = term-deed verb.Generalize depth
deed-local verb.Cases depth = term-deed verb.Cases depth
deed-local verb.Elim depth = term-deed verb.Elim depth

pub action-local : {f : Front} {S : Type 0} (v : Verb) (depth : ℕ) (t : Token) → Local f S 0 t.end (action v depth f.first t) (action v depth f.second t)
action-local v depth t = local-then (deed-local v depth) (λ d end. local-got (record { start = t.start; deed = d }))
