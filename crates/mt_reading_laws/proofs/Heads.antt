-- The texts of the forms before other text, and what they begin with.
use Rattle.std.proofs.Common.{◌≡◌, ℕ, Bool, true, false, ◌==◌, List, [], ◌∷◌, ◌++◌, Option, Some, None, refl, sym, ap, ◌∙◌, lit<, lit≤, append_assoc, eq-eqb}
use Rattle.std.specs.Prelude.{codes, slice_index}
use Rattle.std.specs.Str.{chars}
use lib.Utf8.{encode}
use Rattle.std.proofs.lemmas.Bool.{eqb-true}
use Rattle.std.proofs.lemmas.Str.{chars-append}
use Rattle.unicode_ident.proofs.Computing.{unicode_ident}
use Rattle.mt_lexer.specs.Tokens.{is_start, is_reserved}
use Rattle.mt_term.specs.Trees.{Tree, Bytes, Var, Sort, Prod, Lam, App, Const, Ind, Con, Match, Meta}
use Rattle.mt_term.specs.Declarations.{Environment}
use Rattle.mt_term.specs.declared.universes.Sort.TheVariants.{Prop, Typ}
use Rattle.mt_printer.specs.Chosen.{Scope, uses, entry_name, shown_binder}
use Rattle.mt_printer.specs.TermText.{term_text, universe_text, enclosed, product_text, binder_text, lambda_sign, variable_text, is_binder, is_compound}
use Rattle.mt_reading_laws.specs.Names.{IsWord}
use Rattle.mt_reading_laws.specs.ReadingBack.{HasForms, HasNames, IsShownName}
use Rattle.mt_reading_laws.proofs.Words.{head_of, head-byte, nothing-starts, false≢true}
use Rattle.mt_reading_laws.proofs.Signs.{lambda, forall}
use Rattle.mt_reading_laws.proofs.Parts.{Within, left-of-product, left-of-app}

-- ---- texts

pub lambda-flat : (x A b rest : List ℕ) → (lambda_sign ++ x ++ codes ":" ++ A ++ codes "." ++ b) ++ rest ≡ 206 ∷ 187 ∷ (x ++ 58 ∷ (A ++ 46 ∷ (b ++ rest)))
lambda-flat x A b rest = simp (append_assoc {A = ℕ}) refl

pub product-flat : (x : List ℕ) (w : Bool) (A B rest : List ℕ) → product_text (Some x) w A B ++ rest ≡ 226 ∷ 136 ∷ 128 ∷ (x ++ 58 ∷ (A ++ 46 ∷ (B ++ rest)))
product-flat x w A B rest = simp (append_assoc {A = ℕ}) refl

pub arrow-flat : (w : Bool) (A B rest : List ℕ) → product_text None w A B ++ rest ≡ enclosed w A ++ 32 ∷ 226 ∷ 134 ∷ 146 ∷ 32 ∷ (B ++ rest)
arrow-flat w A B rest = simp (append_assoc {A = ℕ}) refl

pub app-flat : (p q : Bool) (f a rest : List ℕ) → (enclosed p f ++ codes " " ++ enclosed q a) ++ rest ≡ enclosed p f ++ 32 ∷ (enclosed q a ++ rest)
app-flat p q f a rest = simp (append_assoc {A = ℕ}) refl

pub enclosed-flat : (t rest : List ℕ) → enclosed true t ++ rest ≡ 40 ∷ (t ++ 41 ∷ rest)
enclosed-flat t rest = simp (append_assoc {A = ℕ}) refl

pub sort-flat : (u rest : List ℕ) → (codes "Type[" ++ u ++ codes "]") ++ rest ≡ codes "Type" ++ 91 ∷ (u ++ 93 ∷ rest)
sort-flat u rest = simp (append_assoc {A = ℕ}) refl

-- ---- words

pub blank-word : IsWord (codes "_")
unfolding chars encode unicode_ident
blank-word = record { utf8 = (95 ∷ [], (refl, refl)); starts = refl; continues = refl; short = lit≤ tt }

pub prop-word : IsWord (codes "Prop")
unfolding chars encode unicode_ident
prop-word = record { utf8 = (codes "Prop", (refl, refl)); starts = refl; continues = refl; short = lit≤ tt }

pub type-word : IsWord (codes "Type")
unfolding chars encode unicode_ident
type-word = record { utf8 = (codes "Type", (refl, refl)); starts = refl; continues = refl; short = lit≤ tt }

pub binder-word : (o : Option Bytes) → IsShownName o → IsWord (binder_text o)
binder-word (Some x) n = n.word
binder-word None n = blank-word

pub binder-free : (o : Option Bytes) → IsShownName o → is_reserved (binder_text o) ≡ false
binder-free (Some x) n = n.free
binder-free None n = refl

-- ---- the first character

not-star-by : (c : ℕ) (b : Bool) → (c == 42) ≡ b → is_start c ≡ true → b ≡ false
unfolding unicode_ident
not-star-by c false e h = refl
not-star-by c true e h = sym h ∙ ap is_start (eqb-true c 42 e)

word-head-by : (x rest : List ℕ) (ks : List ℕ) → chars x ≡ ks → IsWord x → (head_of (x ++ rest) == 42) ≡ false
word-head-by x rest [] h w = false≢true (nothing-starts (sym (ap (λ r. is_start (slice_index r 0)) h) ∙ w.starts))
word-head-by x rest (c ∷ cs) h w =
    ap (λ r. slice_index r 0 == 42) (chars-append x rest w.utf8 ∙ ap (λ r. r ++ chars rest) h)
    ∙ not-star-by c (c == 42) refl (sym (ap (λ r. is_start (slice_index r 0)) h) ∙ w.starts)

word-head : (x rest : List ℕ) → IsWord x → (head_of (x ++ rest) == 42) ≡ false
word-head x rest w = word-head-by x rest (chars x) refl w

-- text with this front does not begin with a star
abbrev NoStar : List ℕ → Type 0
NoStar text = (rest : List ℕ) → (head_of (text ++ rest) == 42) ≡ false

enclosed-head : (b : Bool) (t : List ℕ) → NoStar t → NoStar (enclosed b t)
enclosed-head true t h rest = ap (λ c. c == 42) (head-byte 40 ((t ++ codes ")") ++ rest) (lit< tt))
enclosed-head false t h rest = h rest

lambda-head : (rest : List ℕ) → (head_of (206 ∷ 187 ∷ rest) == 42) ≡ false
lambda-head rest = ap (λ r. slice_index r 0 == 42) (chars-append (206 ∷ 187 ∷ []) rest lambda.utf8 ∙ ap (λ r. r ++ chars rest) lambda.char)

forall-head : (rest : List ℕ) → (head_of (226 ∷ 136 ∷ 128 ∷ rest) == 42) ≡ false
forall-head rest = ap (λ r. slice_index r 0 == 42) (chars-append (226 ∷ 136 ∷ 128 ∷ []) rest forall.utf8 ∙ ap (λ r. r ++ chars rest) forall.char)

product-head : (o : Option Bytes) (w : Bool) (A B : List ℕ) → NoStar A → NoStar (product_text o w A B)
product-head (Some x) w A B h rest = ap (λ r. head_of r == 42) (product-flat x w A B rest) ∙ forall-head (x ++ 58 ∷ (A ++ 46 ∷ (B ++ rest)))
product-head None w A B h rest = ap (λ r. head_of r == 42) (arrow-flat w A B rest) ∙ enclosed-head w A h (32 ∷ 226 ∷ 134 ∷ 146 ∷ 32 ∷ (B ++ rest))

pub self : (i : ℕ) → uses i (Var i) ≡ true
self i = eq-eqb i i refl

pub text-head : (E : Environment) (s : Scope) (t : Tree) → HasForms E t → HasNames E s t → Within E s t → NoStar (term_text E s t)
text-head E s (Var i) f n w rest =
    let v = w.named i (self i) in
    ap (λ o. head_of (variable_text o ++ rest) == 42) v.there ∙ word-head v.name rest v.good.word
text-head E s (Sort Prop) f n w rest = word-head (codes "Prop") rest prop-word
text-head E s (Sort (Typ u)) f n w rest =
    let x = universe_text E.names u.base u.atoms in
    ap (λ r. head_of r == 42) (sort-flat x rest) ∙ word-head (codes "Type") (91 ∷ (x ++ 93 ∷ rest)) type-word
text-head E s (Prod x A B) f n w rest =
    let o = shown_binder E.entries s x 0 B in
    product-head o (is_binder A) (term_text E s A) (term_text E (o ∷ s) B) (text-head E s A f.0 n.1 (left-of-product E s x A B w)) rest
text-head E s (Lam x A b) f n w rest =
    let o = shown_binder E.entries s x 0 b in
    ap (λ r. head_of r == 42) (lambda-flat (binder_text o) (term_text E s A) (term_text E (o ∷ s) b) rest)
    ∙ lambda-head (binder_text o ++ 58 ∷ (term_text E s A ++ 46 ∷ (term_text E (o ∷ s) b ++ rest)))
text-head E s (App g a) f n w rest =
    ap (λ r. head_of r == 42) (app-flat (is_binder g) (is_compound a) (term_text E s g) (term_text E s a) rest)
    ∙ enclosed-head (is_binder g) (term_text E s g) (text-head E s g f.0 n.0 (left-of-app E s g a w)) (32 ∷ (enclosed (is_compound a) (term_text E s a) ++ rest))
text-head E s (Const c) f n w rest = word-head (entry_name E.entries c) rest n.word
text-head E s (Ind e) f n w rest = absurd f
text-head E s (Con e k) f n w rest = absurd f
text-head E s (Match e R c bs) f n w rest = absurd f
text-head E s (Meta m ts) f n w rest = absurd f
