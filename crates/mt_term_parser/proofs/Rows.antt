-- Parts in a row, a part at a time.
use Rattle.std.proofs.Common.{◌≡◌, ℕ, zero, suc, ◌+◌, ◌-◌, ◌<◌, ◌≤◌, Bool, true, false, List, [], ◌∷◌, ◌++◌, length, map, refl, sym, ap, ◌∙◌, subst, arith}
use Rattle.std.proofs.lemmas.List.{append_assoc, append-nil}
use Rattle.mt_term.specs.Reasons.{Reason}
use Rattle.mt_term.specs.ReasonOf.{reason_of}
use Rattle.mt_term.specs.declared.refusals.Halt.{Halt}
use Rattle.mt_term.specs.declared.refusals.Halt.TheVariants as halt
use Rattle.mt_term_parser.specs.Readings.{Reading, Got, Stops, then_read, many, many_from, sees_sign, HaltsAs}
use Rattle.mt_term_parser.specs.Grammar.{led, separated}

-- what is read after parts that were read before
abbrev pub after : {A : Type 0} → List A → Reading (List A) → Reading (List A)
after before r = then_read r (λ more end. Got (before ++ more) end)

pub after-nil : {A : Type 0} (r : Reading (List A)) → after [] r ≡ r
after-nil (Got more end) = refl
after-nil (Stops reason at) = refl

abbrev onward : {A : Type 0} → (ℕ → Bool) → (ℕ → Reading A) → ℕ → ℕ → Bool → Reading (List A)
onward {A} sees one bound at b =
    elim b as (λ _. Reading (List A)) [
      | true ↦ then_read (one at) (λ a end. then_read (many sees one bound end) (λ more last. Got (a ∷ more) last))
      | false ↦ Got [] at
    ]

-- no further part
pub many-none : {A : Type 0} (sees : ℕ → Bool) (one : ℕ → Reading A) (before : List A) (bound at : ℕ) → sees at ≡ false → after before (many sees one bound at) ≡ Got before at
many-none sees one before zero at none = ap (λ r. Got r at) (append-nil before)
many-none sees one before (suc bound) at none =
    ap (λ b. after before (onward sees one bound at b)) none ∙ ap (λ r. Got r at) (append-nil before)

pub after-cons : {A : Type 0} (before : List A) (a : A) (r : Reading (List A)) → after before (then_read r (λ more last. Got (a ∷ more) last)) ≡ after (before ++ a ∷ []) r
after-cons before a (Got more last) = ap (λ r. Got r last) (sym (append_assoc before (a ∷ []) more))
after-cons before a (Stops reason at) = refl

-- one more part
pub many-one : {A : Type 0} (sees : ℕ → Bool) (one : ℕ → Reading A) (before : List A) (bound at end : ℕ) (a : A) → sees at ≡ true → one at ≡ Got a end
    → after before (many sees one (suc bound) at) ≡ after (before ++ a ∷ []) (many sees one bound end)
many-one {A} sees one before bound at end a seen got =
    ap (λ b. after before (onward sees one bound at b)) seen
    ∙ ap (λ (r : Reading A). after before (then_read r (λ a end. then_read (many sees one bound end) (λ more last. Got (a ∷ more) last)))) got
    ∙ after-cons before a (many sees one bound end)

-- a fault in a part
pub many-stops : {A : Type 0} (sees : ℕ → Bool) (one : ℕ → Reading A) (before : List A) (bound at place : ℕ) (reason : Reason) → sees at ≡ true → one at ≡ Stops reason place
    → after before (many sees one (suc bound) at) ≡ Stops reason place
many-stops {A} sees one before bound at place reason seen stops =
    ap (λ b. after before (onward sees one bound at b)) seen
    ∙ ap (λ (r : Reading A). after before (then_read r (λ a end. then_read (many sees one bound end) (λ more last. Got (a ∷ more) last)))) stops

-- so far these parts of the row d are read, and the next is read from here
pub record Row {A : Type 0} (text : List ℕ) (sees : ℕ → Bool) (one : ℕ → Reading A) (d : Reading (List A)) (before : List A) (at : ℕ) : Type 0 where
  pub bound : ℕ
  pub enough : length text ≤ at + bound
  pub known : d ≡ after before (many sees one bound at)

pub Row-begins : {A : Type 0} (text : List ℕ) (sees : ℕ → Bool) (one : ℕ → Reading A) (at : ℕ) → Row text sees one (many_from text sees one at) [] at
Row-begins text sees one at = record { bound = length text - at; enough = omega arith; known = sym (after-nil (many sees one (length text - at) at)) }

pub Row-first : {A : Type 0} (text : List ℕ) (sees : ℕ → Bool) (one : ℕ → Reading A) (a : A) (at : ℕ)
    → Row text sees one (then_read (many_from text sees one at) (λ more last. Got (a ∷ more) last)) (a ∷ []) at
Row-first text sees one a at = record { bound = length text - at; enough = omega arith; known = refl }

pub Row-one : {A : Type 0} (text : List ℕ) (sees : ℕ → Bool) (one : ℕ → Reading A) (d : Reading (List A)) (before : List A) (at end : ℕ) (a : A)
    → Row text sees one d before at → sees at ≡ true → at < length text → one at ≡ Got a end → at < end → Row text sees one d (before ++ a ∷ []) end
Row-one text sees one d before at end a row seen inside got order = further row.bound row.enough row.known
  where
    further : (bound : ℕ) → length text ≤ at + bound → d ≡ after before (many sees one bound at) → Row text sees one d (before ++ a ∷ []) end
    further zero enough known = absurd (omega arith)
    further (suc bound) enough known = record { bound = bound; enough = omega arith; known = known ∙ many-one sees one before bound at end a seen got }

pub Row-stops : {A : Type 0} (text : List ℕ) (sees : ℕ → Bool) (one : ℕ → Reading A) (d : Reading (List A)) (before : List A) (at place : ℕ) (reason : Reason)
    → Row text sees one d before at → sees at ≡ true → at < length text → one at ≡ Stops reason place → d ≡ Stops reason place
Row-stops text sees one d before at place reason row seen inside stops = further row.bound row.enough row.known
  where
    further : (bound : ℕ) → length text ≤ at + bound → d ≡ after before (many sees one bound at) → d ≡ Stops reason place
    further zero enough known = absurd (omega arith)
    further (suc bound) enough known = known ∙ many-stops sees one before bound at place reason seen stops

-- a call for the next part halts the row
pub Row-halts : {A : Type 0} (text : List ℕ) (sees : ℕ → Bool) (one : ℕ → Reading A) (d : Reading (List A)) (before : List A) (at : ℕ) (h : Halt)
    → Row text sees one d before at → sees at ≡ true → at < length text → HaltsAs (one at) h → HaltsAs d h
Row-halts text sees one d before at (halt.Refused fault) row seen inside stops =
    Row-stops text sees one d before at fault.at (reason_of fault.refusal) row seen inside stops
Row-halts text sees one d before at halt.Spent row seen inside stops = stops
Row-halts text sees one d before at halt.OutOfMemory row seen inside stops = tt

pub Row-ends : {A : Type 0} (text : List ℕ) (sees : ℕ → Bool) (one : ℕ → Reading A) (d : Reading (List A)) (before : List A) (at : ℕ)
    → Row text sees one d before at → sees at ≡ false → d ≡ Got before at
Row-ends text sees one d before at row none = row.known ∙ many-none sees one before row.bound at none

-- the first of parts with a sign between them
pub Row-separated : {A : Type 0} (c : ℕ) (text : List ℕ) (one : ℕ → Reading A) (at end : ℕ) (a : A) (before : List A) → one at ≡ Got a end → before ≡ a ∷ []
    → Row text (sees_sign c text) (led c text one) (separated c text one at) before end
Row-separated {A} c text one at end a before got e =
    record {
      bound = length text - end;
      enough = omega arith;
      known =
          ap (λ (r : Reading A). then_read r (λ a end. then_read (many_from text (sees_sign c text) (led c text one) end) (λ more last. Got (a ∷ more) last))) got
          ∙ ap (λ b. after b (many (sees_sign c text) (led c text one) (length text - end) end)) (sym e);
    }

-- a fault in the first of parts with a sign between them
pub separated-halts : {A : Type 0} (c : ℕ) (text : List ℕ) (one : ℕ → Reading A) (at : ℕ) (h : Halt) → HaltsAs (one at) h → HaltsAs (separated c text one at) h
separated-halts {A} c text one at (halt.Refused fault) stops =
    ap (λ (r : Reading A). then_read r (λ a end. then_read (many_from text (sees_sign c text) (led c text one) end) (λ more last. Got (a ∷ more) last))) stops
separated-halts c text one at halt.Spent stops = stops
separated-halts c text one at halt.OutOfMemory stops = tt

pub map-push : {T A : Type 0} (f : T → A) (items : List T) (x : T) → map f (items ++ x ∷ []) ≡ map f items ++ f x ∷ []
map-push f [] x = refl
map-push f (y ∷ ys) x = ap (λ r. f y ∷ r) (map-push f ys x)

-- one more part in a list that is seen by a map
pub Row-push : {T A : Type 0} (f : T → A) (text : List ℕ) (sees : ℕ → Bool) (one : ℕ → Reading A) (d : Reading (List A)) (items longer : List T) (at end : ℕ) (x : T)
    → Row text sees one d (map f items) at → sees at ≡ true → at < length text → one at ≡ Got (f x) end → at < end → longer ≡ items ++ x ∷ []
    → Row text sees one d (map f longer) end
Row-push {T} {A} f text sees one d items longer at end x row seen inside got order e =
    let P : List A → Type 0 = λ r. Row text sees one d r end in
    subst P (sym (ap (map f) e ∙ map-push f items x)) (Row-one text sees one d (map f items) at end (f x) row seen inside got order)

-- the first of parts with a sign between them, in a list that is seen by a map
pub Row-separated-map : {T A : Type 0} (f : T → A) (c : ℕ) (text : List ℕ) (one : ℕ → Reading A) (at end : ℕ) (x : T) (items : List T) → one at ≡ Got (f x) end → items ≡ x ∷ []
    → Row text (sees_sign c text) (led c text one) (separated c text one at) (map f items) end
Row-separated-map f c text one at end x items got e = Row-separated c text one at end (f x) (map f items) got (ap (map f) e)
