-- Readings that end where other text begins.
use Rattle.std.proofs.Common.{◌≡◌, ℕ, zero, suc, ◌+◌, ◌-◌, ◌≤◌, Bool, true, false, List, [], ◌∷◌, ◌++◌, length, drop, refl, sym, ap, ◌∙◌, arith, length-append, length-drop, append_assoc, append-nil}
use Rattle.mt_term_parser.specs.Readings.{Reading, Got, Stops, then_read, many, many_from}

-- a part is read, and this text is left
pub record ReadTo {A : Type 0} (text : List ℕ) (r : Reading A) (a : A) (rest : List ℕ) : Type 0 where
  pub end : ℕ
  pub is : r ≡ Got a end
  pub after : drop end text ≡ rest

pub read-then : {A B : Type 0} {text more rest : List ℕ} {r : Reading A} {a : A} {b : B} (f : A → ℕ → Reading B)
    → ReadTo text r a more → ((end : ℕ) → drop end text ≡ more → ReadTo text (f a end) b rest) → ReadTo text (then_read r f) b rest
read-then f r next =
    let n = next r.end r.after in
    record { end = n.end; is = ap (λ x. then_read x f) r.is ∙ n.is; after = n.after }

pub read-same : {A : Type 0} {text rest : List ℕ} {r s : Reading A} {a : A} → r ≡ s → ReadTo text s a rest → ReadTo text r a rest
read-same e r = record { end = r.end; is = e ∙ r.is; after = r.after }

pub read-got : {A : Type 0} {text rest : List ℕ} (a : A) (end : ℕ) → drop end text ≡ rest → ReadTo text (Got a end) a rest
read-got a end e = record { end = end; is = refl; after = e }

-- parts that were read in a row
pub record Row {A : Type 0} (text : List ℕ) (sees : ℕ → Bool) (one : ℕ → Reading A) (at : ℕ) (parts : List A) (rest : List ℕ) : Type 0 where
  pub to : ℕ
  pub goes : (n : ℕ) → many sees one (length parts + n) at ≡ then_read (many sees one n to) (λ more last. Got (parts ++ more) last)
  pub after : drop to text ≡ rest
  pub count : length parts + length rest ≤ length (drop at text)

got-same : {A : Type 0} (r : Reading (List A)) → r ≡ then_read r (λ more last. Got more last)
got-same (Got a e) = refl
got-same (Stops r e) = refl

pub row-none : {A : Type 0} {text rest : List ℕ} (sees : ℕ → Bool) (one : ℕ → Reading A) (at : ℕ) → drop at text ≡ rest → Row text sees one at [] rest
row-none sees one at e =
    record {
      to = at;
      goes = λ n. ap (λ m. many sees one m at) (let z : 0 + n ≡ n = omega arith in z) ∙ got-same (many sees one n at);
      after = e;
      count = let l = ap length e in omega arith;
    }

pub many-one : {A : Type 0} (sees : ℕ → Bool) (one : ℕ → Reading A) (at end n : ℕ) (a : A) → sees at ≡ true → one at ≡ Got a end
    → many sees one (suc n) at ≡ then_read (many sees one n end) (λ more last. Got (a ∷ more) last)
many-one {A} sees one at end n a e h =
    ap (λ (b : Bool). elim b as (λ _. Reading (List A)) [ true ↦ then_read (one at) (λ a end. then_read (many sees one n end) (λ more last. Got (a ∷ more) last)) | false ↦ Got [] at ]) e
    ∙ ap (λ r. then_read r (λ a end. then_read (many sees one n end) (λ more last. Got (a ∷ more) last))) h

then-then : {A B C : Type 0} (r : Reading A) (f : A → ℕ → Reading B) (g : B → ℕ → Reading C) → then_read (then_read r f) g ≡ then_read r (λ a e. then_read (f a e) g)
then-then (Got a e) f g = refl
then-then (Stops r e) f g = refl

-- one more part
pub row-more : {A : Type 0} {text rest more : List ℕ} {sees : ℕ → Bool} {one : ℕ → Reading A} {at : ℕ} {parts : List A} (a : A) (r : Row text sees one at parts more)
    → sees r.to ≡ true → (s : ReadTo text (one r.to) a rest) → suc (length rest) ≤ length more → Row text sees one at (parts ++ a ∷ []) rest
row-more {A} {text} {rest} {more} {sees} {one} {at} {parts} a r e s h =
    record {
      to = s.end;
      goes = λ n.
          ap (λ m. many sees one m at) (let z : length (parts ++ a ∷ []) + n ≡ length parts + suc n = omega (arith, length-append parts (a ∷ [])) in z)
          ∙ r.goes (suc n)
          ∙ ap (λ q. then_read q (λ more last. Got (parts ++ more) last)) (many-one sees one r.to s.end n a e s.is)
          ∙ then-then (many sees one n s.end) (λ more last. Got (a ∷ more) last) (λ more last. Got (parts ++ more) last)
          ∙ ap (λ (k : List A → List A). then_read (many sees one n s.end) (λ more last. Got (k more) last)) (λ i more. sym (append_assoc parts (a ∷ []) more) i);
      after = s.after;
      count = let c = r.count in omega (arith, length-append parts (a ∷ []));
    }

pub many-stops : {A : Type 0} (sees : ℕ → Bool) (one : ℕ → Reading A) (at n : ℕ) → sees at ≡ false → many sees one n at ≡ Got [] at
many-stops {A} sees one at zero e = refl
many-stops {A} sees one at (suc n) e =
    ap (λ (b : Bool). elim b as (λ _. Reading (List A)) [ true ↦ then_read (one at) (λ a end. then_read (many sees one n end) (λ more last. Got (a ∷ more) last)) | false ↦ Got [] at ]) e

-- all parts, where none is seen after them
pub row-read : {A : Type 0} {text rest : List ℕ} {sees : ℕ → Bool} {one : ℕ → Reading A} {at : ℕ} {parts : List A} (r : Row text sees one at parts rest)
    → sees r.to ≡ false → ReadTo text (many_from text sees one at) parts rest
row-read {A} {text} {rest} {sees} {one} {at} {parts} r e =
    let n : ℕ = length text - at - length parts in
    let enough : length text - at ≡ length parts + n = let c = r.count in omega (arith, length-drop at text) in
    record {
      end = r.to;
      is =
          ap (λ m. many sees one m at) enough ∙ r.goes n ∙ ap (λ q. then_read q (λ more last. Got (parts ++ more) last)) (many-stops sees one r.to n e)
          ∙ ap (λ xs. Got xs r.to) (append-nil parts);
      after = r.after;
    }
