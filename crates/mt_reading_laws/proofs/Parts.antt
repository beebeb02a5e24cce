-- Terms under the names of a scope, and their parts.
use Rattle.std.proofs.Common.{◌≡◌, ℕ, zero, suc, ◌+◌, ◌^◌, ◌<◌, ◌≤◌, Bool, true, false, cond, ◌||◌, List, [], ◌∷◌, ◌++◌, length, Option, Some, None, refl, sym, ap, ap₂, ◌∙◌, arith, subst, length-append, append-nil, inl, inr}
use Rattle.std.specs.Prelude.{codes, bytes_eq, slice_index}
use Rattle.std.proofs.lemmas.List.Folds.{list_any-append}
use Rattle.std.proofs.lemmas.Bool.{or_cases, eqb-true}
use Rattle.std.proofs.lemmas.Str.{chars-nil}
use Rattle.mt_lexer.specs.Tokens.{is_start}
use Rattle.mt_term.specs.Trees.{Tree, Bytes, Var, Sort, Prod, Lam, App, Const, Ind, Con, Match, Meta}
use Rattle.mt_calculus.specs.Scopes.{Plain}
use Rattle.mt_term.specs.Declarations.{Environment}
use Rattle.mt_printer.specs.Chosen.{Scope, shown_names, is_one_of, uses, occurring, base_name, chosen, shown_binder, entry_name}
use Rattle.mt_printer.specs.TermText.{term_text, enclosed, product_text, binder_text, lambda_sign, is_binder, is_compound}
use Rattle.mt_reading_laws.specs.Names.{IsName}
use Rattle.mt_reading_laws.specs.ReadingBack.{HasForms, HasNames, IsShownName}
use Rattle.mt_reading_laws.proofs.Bytes.{bytes-apart}
use Rattle.mt_reading_laws.proofs.Words.{nothing-starts, false≢true}
use Rattle.mt_reading_laws.proofs.Chosen_names.{fit_name-fits}
use Rattle.mt_reading_laws.proofs.Scopes.{IsSeen, or-false, or-true, true-false, seen-under, seen-first}

-- ---- lengths

pub name-long : (x : Bytes) → IsName x → 1 ≤ length x
name-long [] n = false≢true (nothing-starts (sym (ap (λ cs. is_start (slice_index cs 0)) chars-nil) ∙ n.word.starts))
name-long (c ∷ x) n = let e : length (c ∷ x) ≡ suc (length x) = refl in omega arith

long-right : (xs ys : List ℕ) → length ys ≤ length (xs ++ ys)
long-right xs ys = omega (arith, length-append xs ys)

long-left : (xs ys : List ℕ) → length xs ≤ length (xs ++ ys)
long-left xs ys = omega (arith, length-append xs ys)

enclosed-long : (b : Bool) (text : List ℕ) → length text ≤ length (enclosed b text)
enclosed-long true text = let e : length (enclosed true text) ≡ suc (length (text ++ codes ")")) = refl in omega (arith, e, length-append text (codes ")"))
enclosed-long false text = omega arith

pub product-left : (o : Option Bytes) (b : Bool) (A B : List ℕ) → length A ≤ length (product_text o b A B)
product-left (Some x) b A B = simp (length-append {A = ℕ}) (omega arith)
product-left None b A B = let h = enclosed-long b A in omega (arith, length-append {A = ℕ})

pub product-right : (o : Option Bytes) (b : Bool) (A B : List ℕ) → length B + 1 ≤ length (product_text o b A B)
product-right (Some x) b A B = simp (length-append {A = ℕ}) (omega arith)
product-right None b A B = omega (arith, length-append {A = ℕ})

pub lambda-left : (x A b : List ℕ) → length A ≤ length (lambda_sign ++ x ++ codes ":" ++ A ++ codes "." ++ b)
lambda-left x A b = simp (length-append {A = ℕ}) (omega arith)

pub lambda-right : (x A b : List ℕ) → length b + 1 ≤ length (lambda_sign ++ x ++ codes ":" ++ A ++ codes "." ++ b)
lambda-right x A b = simp (length-append {A = ℕ}) (omega arith)

pub app-left : (p q : Bool) (f a : List ℕ) → length f ≤ length (enclosed p f ++ codes " " ++ enclosed q a)
app-left p q f a = let h = enclosed-long p f in omega (arith, length-append {A = ℕ})

pub app-right : (p q : Bool) (f a : List ℕ) → length a ≤ length (enclosed p f ++ codes " " ++ enclosed q a)
app-right p q f a = let h = enclosed-long q a in omega (arith, length-append {A = ℕ})

app-both : (p q : Bool) (f a : List ℕ) → length f + length a ≤ length (enclosed p f ++ codes " " ++ enclosed q a)
app-both p q f a = let h = enclosed-long p f in let k = enclosed-long q a in omega (arith, length-append {A = ℕ})

product-both : (o : Option Bytes) (b : Bool) (A B : List ℕ) → length A + length B ≤ length (product_text o b A B)
product-both (Some x) b A B = simp (length-append {A = ℕ}) (omega arith)
product-both None b A B = let h = enclosed-long b A in omega (arith, length-append {A = ℕ})

lambda-both : (x A b : List ℕ) → length A + length b ≤ length (lambda_sign ++ x ++ codes ":" ++ A ++ codes "." ++ b)
lambda-both x A b = simp (length-append {A = ℕ}) (omega arith)

-- a term's text is no shorter than the number of constants in it
pub occurring-long : (E : Environment) (s : Scope) (t : Tree) → HasForms E t → HasNames E s t → length (occurring E.entries t) ≤ length (term_text E s t)
occurring-long E s (Var i) f n = omega arith
occurring-long E s (Sort r) f n = omega arith
occurring-long E s (Prod x A B) f n =
    let o = shown_binder E.entries s x 0 B in
    let h = occurring-long E s A f.0 n.1 in
    let k = occurring-long E (o ∷ s) B f.1 n.2 in
    let l = product-both o (is_binder A) (term_text E s A) (term_text E (o ∷ s) B) in
    omega (arith, h, k, l, length-append (occurring E.entries A) (occurring E.entries B))
occurring-long E s (Lam x A b) f n =
    let o = shown_binder E.entries s x 0 b in
    let h = occurring-long E s A f.0 n.1 in
    let k = occurring-long E (o ∷ s) b f.1 n.2 in
    let l = lambda-both (binder_text o) (term_text E s A) (term_text E (o ∷ s) b) in
    omega (arith, h, k, l, length-append (occurring E.entries A) (occurring E.entries b))
occurring-long E s (App g a) f n =
    let h = occurring-long E s g f.0 n.0 in
    let k = occurring-long E s a f.1 n.1 in
    let l = app-both (is_binder g) (is_compound a) (term_text E s g) (term_text E s a) in
    omega (arith, h, k, l, length-append (occurring E.entries g) (occurring E.entries a))
occurring-long E s (Const c) f n = name-long (entry_name E.entries c) n
occurring-long E s (Ind e) f n = absurd f
occurring-long E s (Con e k) f n = absurd f
occurring-long E s (Match e R c bs) f n = absurd f
occurring-long E s (Meta m ts) f n = absurd f

-- ---- terms in a scope

-- Each variable of a term is found by the name that is shown for it, and no entry's name in it is that of a variable.
pub record Within (E : Environment) (s : Scope) (t : Tree) : Type 0 where
  pub named : (i : ℕ) → uses i t ≡ true → IsSeen s i
  pub hidden : (x : Bytes) → is_one_of (occurring E.entries t) x ≡ true → is_one_of (shown_names s) x ≡ false
  pub size : length (shown_names s) + length (term_text E s t) < 2 ^ 64

pub or-left : (a b : Bool) → a ≡ true → (a || b) ≡ true
or-left true b e = refl
or-left false b e = false≢true e

one-append-left : (xs ys : List Bytes) (x : Bytes) → is_one_of xs x ≡ true → is_one_of (xs ++ ys) x ≡ true
one-append-left xs ys x e = list_any-append (λ y. bytes_eq y x) xs ys ∙ or-left (is_one_of xs x) (is_one_of ys x) e

one-append-right : (xs ys : List Bytes) (x : Bytes) → is_one_of ys x ≡ true → is_one_of (xs ++ ys) x ≡ true
one-append-right xs ys x e = list_any-append (λ y. bytes_eq y x) xs ys ∙ or-true (is_one_of xs x) (is_one_of ys x) e

-- a part in the same scope
part-within : (E : Environment) (s : Scope) (a t : Tree) → ((i : ℕ) → uses i a ≡ true → uses i t ≡ true)
    → ((x : Bytes) → is_one_of (occurring E.entries a) x ≡ true → is_one_of (occurring E.entries t) x ≡ true) → length (term_text E s a) ≤ length (term_text E s t) → Within E s t → Within E s a
part-within E s a t used found less w = record {
  named = λ i e. w.named i (used i e);
  hidden = λ x e. w.hidden x (found x e);
  size = let z = w.size in omega arith;
}

-- a chosen name is that of no variable in scope and of no entry in the part
chosen-new : (E : Environment) (s : Scope) (x : Bytes) (b : Tree) → length (shown_names s) + length (occurring E.entries b) < 2 ^ 64
    → (is_one_of (shown_names s) (chosen E.entries s x (b ∷ [])) ≡ false) × (is_one_of (occurring E.entries b) (chosen E.entries s x (b ∷ [])) ≡ false)
chosen-new E s x b small =
    let avoided : List Bytes = shown_names s ++ (occurring E.entries b ++ []) in
    let c : Bytes = chosen E.entries s x (b ∷ []) in
    let short : length avoided < 2 ^ 64 = omega (arith, length-append (shown_names s) (occurring E.entries b ++ []), ap length (append-nil (occurring E.entries b))) in
    let fresh : is_one_of avoided c ≡ false = fit_name-fits avoided (base_name x) short in
    let parts = or-false (is_one_of (shown_names s) c) (is_one_of (occurring E.entries b ++ []) c) (sym (list_any-append (λ y. bytes_eq y c) (shown_names s) (occurring E.entries b ++ [])) ∙ fresh) in
    (parts.0, ap (λ xs. is_one_of xs c) (sym (append-nil (occurring E.entries b))) ∙ parts.1)

-- a part under a binder that is shown by c, or not shown
under-by : (E : Environment) (s : Scope) (t b : Tree) (c : Bytes) (u : Bool) → uses 0 b ≡ u → IsShownName (cond u (Some c) None)
    → (is_one_of (shown_names s) c ≡ false) × (is_one_of (occurring E.entries b) c ≡ false)
    → ((i : ℕ) → uses (suc i) b ≡ true → uses i t ≡ true) → ((x : Bytes) → is_one_of (occurring E.entries b) x ≡ true → is_one_of (occurring E.entries t) x ≡ true)
    → length (term_text E (cond u (Some c) None ∷ s) b) + 1 ≤ length (term_text E s t) → Within E s t → Within E (cond u (Some c) None ∷ s) b
under-by E s t b c true e n new used found less w = record {
  named = named;
  hidden = λ x h.
      ap₂ (λ p q. p || q) (bytes-apart c x (λ same. true-false (is_one_of (occurring E.entries b) x) h (ap (is_one_of (occurring E.entries b)) (sym same) ∙ new.1))) (w.hidden x (found x h));
  size = let z = w.size in omega arith;
} where
  named : (i : ℕ) → uses i b ≡ true → IsSeen (Some c ∷ s) i
  named zero h = seen-first s c n
  named (suc i) h = seen-under s (Some c) i (n, new.0) (w.named i (used i h))
under-by E s t b c false e n new used found less w = record {
  named = named;
  hidden = λ x h. w.hidden x (found x h);
  size = let z = w.size in omega arith;
} where
  named : (i : ℕ) → uses i b ≡ true → IsSeen (None ∷ s) i
  named zero h = true-false (uses 0 b) h e
  named (suc i) h = seen-under s None i tt (w.named i (used i h))

-- ---- the parts of each form

next-use : (i : ℕ) (b : Tree) → uses (suc i) b ≡ true → uses (i + 1) b ≡ true
next-use i b e = ap (λ k. uses k b) (let z : i + 1 ≡ suc i = omega arith in z) ∙ e

pub left-of-product : (E : Environment) (s : Scope) (x : Bytes) (A B : Tree) → Within E s (Prod x A B) → Within E s A
left-of-product E s x A B w =
    let o = shown_binder E.entries s x 0 B in
    part-within E s A (Prod x A B) (λ i e. or-left (uses i A) (uses (i + 1) B) e) (λ y e. one-append-left (occurring E.entries A) (occurring E.entries B) y e)
    (product-left o (is_binder A) (term_text E s A) (term_text E (o ∷ s) B)) w

pub left-of-lambda : (E : Environment) (s : Scope) (x : Bytes) (A b : Tree) → Within E s (Lam x A b) → Within E s A
left-of-lambda E s x A b w =
    let o = shown_binder E.entries s x 0 b in
    part-within E s A (Lam x A b) (λ i e. or-left (uses i A) (uses (i + 1) b) e) (λ y e. one-append-left (occurring E.entries A) (occurring E.entries b) y e)
    (lambda-left (binder_text o) (term_text E s A) (term_text E (o ∷ s) b)) w

pub left-of-app : (E : Environment) (s : Scope) (f a : Tree) → Within E s (App f a) → Within E s f
left-of-app E s f a w =
    part-within E s f (App f a) (λ i e. or-left (uses i f) (uses i a) e) (λ y e. one-append-left (occurring E.entries f) (occurring E.entries a) y e)
    (app-left (is_binder f) (is_compound a) (term_text E s f) (term_text E s a)) w

pub right-of-app : (E : Environment) (s : Scope) (f a : Tree) → Within E s (App f a) → Within E s a
right-of-app E s f a w =
    part-within E s a (App f a) (λ i e. or-true (uses i f) (uses i a) e) (λ y e. one-append-right (occurring E.entries f) (occurring E.entries a) y e)
    (app-right (is_binder f) (is_compound a) (term_text E s f) (term_text E s a)) w

pub under-product : (E : Environment) (s : Scope) (x : Bytes) (A B : Tree) → HasForms E (Prod x A B) → HasNames E s (Prod x A B) → Within E s (Prod x A B) → Within E (shown_binder E.entries s x 0 B ∷ s) B
under-product E s x A B f n w =
    let o = shown_binder E.entries s x 0 B in
    let many = occurring-long E (o ∷ s) B f.1 n.2 in
    let less = product-right o (is_binder A) (term_text E s A) (term_text E (o ∷ s) B) in
    let size = w.size in
    under-by E s (Prod x A B) B (chosen E.entries s x (B ∷ [])) (uses 0 B) refl n.0 (chosen-new E s x B (omega arith))
    (λ i e. or-true (uses i A) (uses (i + 1) B) (next-use i B e)) (λ y e. one-append-right (occurring E.entries A) (occurring E.entries B) y e) less w

pub under-lambda : (E : Environment) (s : Scope) (x : Bytes) (A b : Tree) → HasForms E (Lam x A b) → HasNames E s (Lam x A b) → Within E s (Lam x A b) → Within E (shown_binder E.entries s x 0 b ∷ s) b
under-lambda E s x A b f n w =
    let o = shown_binder E.entries s x 0 b in
    let many = occurring-long E (o ∷ s) b f.1 n.2 in
    let less = lambda-right (binder_text o) (term_text E s A) (term_text E (o ∷ s) b) in
    let size = w.size in
    under-by E s (Lam x A b) b (chosen E.entries s x (b ∷ [])) (uses 0 b) refl n.0 (chosen-new E s x b (omega arith))
    (λ i e. or-true (uses i A) (uses (i + 1) b) (next-use i b e)) (λ y e. one-append-right (occurring E.entries A) (occurring E.entries b) y e) less w

-- a variable that is used is one of those that there are
used-below : (E : Environment) (n : ℕ) (t : Tree) (i : ℕ) → HasForms E t → Plain n t → uses i t ≡ true → i < n
used-below E n (Var j) i f p e = subst (λ k. k < n) (sym (eqb-true i j e)) p
used-below E n (Sort r) i f p e = false≢true e
used-below E n (Prod x A B) i f p e =
    elim (or_cases (uses i A) (uses (i + 1) B) e) [
      | inl h ↦ used-below E n A i f.0 p.0 h
      | inr h ↦ let k : i + 1 < suc n = used-below E (suc n) B (i + 1) f.1 p.1 h in omega arith
    ]
used-below E n (Lam x A b) i f p e =
    elim (or_cases (uses i A) (uses (i + 1) b) e) [
      | inl h ↦ used-below E n A i f.0 p.0 h
      | inr h ↦ let k : i + 1 < suc n = used-below E (suc n) b (i + 1) f.1 p.1 h in omega arith
    ]
used-below E n (App g a) i f p e = elim (or_cases (uses i g) (uses i a) e) [ inl h ↦ used-below E n g i f.0 p.0 h | inr h ↦ used-below E n a i f.1 p.1 h ]
used-below E n (Const c) i f p e = false≢true e
used-below E n (Ind k) i f p e = absurd f
used-below E n (Con k j) i f p e = absurd f
used-below E n (Match k R c bs) i f p e = absurd f
used-below E n (Meta m ts) i f p e = absurd f

none-used : (E : Environment) (t : Tree) (i : ℕ) → HasForms E t → Plain 0 t → uses i t ≡ true → IsSeen [] i
none-used E t i f p e = absurd (let h = used-below E 0 t i f p e in omega arith)

pub closed-within : (E : Environment) (t : Tree) → HasForms E t → Plain 0 t → length (term_text E [] t) < 2 ^ 64 → Within E [] t
closed-within E t f p small = record { named = λ i e. none-used E t i f p e; hidden = λ x e. refl; size = omega arith }
