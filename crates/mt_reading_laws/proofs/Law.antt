-- The law of reading back, by induction over terms.
use Rattle.std.proofs.Common.{◌≡◌, ℕ, zero, suc, ◌≤◌, max, Bool, true, false, cond, List, [], ◌∷◌, ◌++◌, length, drop, Option, Some, None, refl, ap, ◌∙◌, arith, lit<, length-append, length-drop}
use Rattle.std.specs.Prelude.{codes}
use Rattle.std.proofs.lemmas.List.{drop_at}
use Rattle.unicode_ident.proofs.Computing.{unicode_ident}
use Rattle.mt_lexer.specs.Tokens.{is_continue}
use Rattle.mt_term.specs.Trees.{Tree, Bytes, Var, Sort, Prod, Lam, App, Const, Ind, Con, Match, Meta}
use Rattle.mt_term.specs.Declarations.{Environment}
use Rattle.mt_term.specs.Alike.{is_alike}
use Rattle.mt_term.specs.declared.universes.Sort.TheVariants.{Prop, Typ}
use Rattle.mt_term_parser.specs.Readings.{Got}
use Rattle.mt_term_parser.specs.Grammar.{term}
use Rattle.mt_printer.specs.Chosen.{Scope, uses, chosen, shown_binder}
use Rattle.mt_printer.specs.TermText.{term_text, enclosed, product_text, binder_text, is_binder, is_compound}
use Rattle.mt_reading_laws.specs.ReadingBack.{AreApart, HasForms, HasNames, IsShownName, in_parentheses, open_within, ReadingBack}
use Rattle.mt_reading_laws.proofs.Words.{head_of, head-byte}
use Rattle.mt_reading_laws.proofs.Scopes.{names_of}
use Rattle.mt_reading_laws.proofs.Parts.{Within, left-of-product, left-of-lambda, left-of-app, right-of-app, under-product, under-lambda, closed-within}
use Rattle.mt_reading_laws.proofs.Heads.{lambda-flat, product-flat, arrow-flat, app-flat, enclosed-flat, binder-word, binder-free, text-head}
use Rattle.mt_reading_laws.proofs.Atoms.{AtomRead, SpineRead, WholeRead, Closes, closes-close, closes-dot, closes-end, spine-of-atom, whole-of-spine, atom-of-whole, spine-of-app}
use Rattle.mt_reading_laws.proofs.Leaves.{variable-atom, constant-atom, prop-atom, type-atom}
use Rattle.mt_reading_laws.proofs.Binders.{lambda-whole, product-whole, arrow-whole}

-- what is asked of a term in a scope, with room for terms within it
record Fits (E : Environment) (s : Scope) (t : Tree) (room : ℕ) : Type 0 where
  pub depth_left : open_within t ≤ room
  pub forms : HasForms E t
  pub names : HasNames E s t
  pub within : Within E s t

abbrev EndsName : List ℕ → Type 0
EndsName rest = is_continue (head_of rest) ≡ false

-- a term's text is read wherever it stands
record Readable (E : Environment) (t : Tree) : Type 0 where
  pub whole : (s : Scope) (room : ℕ) (text rest : List ℕ) (at : ℕ) → Fits E s t room → Closes text rest → drop at text ≡ term_text E s t ++ rest → WholeRead E (names_of s) t room text at rest
  pub spine : (s : Scope) (room : ℕ) (text rest : List ℕ) (at : ℕ) → is_binder t ≡ false → Fits E s t room → EndsName rest → drop at text ≡ term_text E s t ++ rest
      → SpineRead E (names_of s) t (term room text) text at rest
  pub atom : (s : Scope) (room : ℕ) (text rest : List ℕ) (at : ℕ) → is_compound t ≡ false → Fits E s t room → EndsName rest → drop at text ≡ term_text E s t ++ rest
      → AtomRead E (names_of s) t (term room text) text at rest

of-atom : (E : Environment) (t : Tree) → ((s : Scope) (room : ℕ) (text rest : List ℕ) (at : ℕ) → Fits E s t room → EndsName rest → drop at text ≡ term_text E s t ++ rest
    → AtomRead E (names_of s) t (term room text) text at rest) → Readable E t
of-atom E t atom = record {
  whole = λ s room text rest at f c e. whole-of-spine room c (spine-of-atom (atom s room text rest at f c.ends e));
  spine = λ s room text rest at b f c e. spine-of-atom (atom s room text rest at f c e);
  atom = λ s room text rest at b f c e. atom s room text rest at f c e;
}

of-whole : (E : Environment) (t : Tree) → is_binder t ≡ true → is_compound t ≡ true
    → ((s : Scope) (room : ℕ) (text rest : List ℕ) (at : ℕ) → Fits E s t room → Closes text rest → drop at text ≡ term_text E s t ++ rest → WholeRead E (names_of s) t room text at rest) → Readable E t
of-whole E t p q whole = record {
  whole = whole;
  spine = λ s room text rest at b f c e. absurd (cc);
  atom = λ s room text rest at b f c e. absurd (cc);
}

of-none : (E : Environment) (t : Tree) → (HasForms E t → ⊥) → Readable E t
of-none E t never = record {
  whole = λ s room text rest at f c e. absurd (never f.forms);
  spine = λ s room text rest at b f c e. absurd (never f.forms);
  atom = λ s room text rest at b f c e. absurd (never f.forms);
}

-- ---- parentheses

in-parentheses : (E : Environment) (t : Tree) (s : Scope) (room : ℕ) (text rest : List ℕ) (at : ℕ) → Readable E t → suc (open_within t) ≤ room → HasForms E t → HasNames E s t → Within E s t
    → drop at text ≡ enclosed true (term_text E s t) ++ rest → AtomRead E (names_of s) t (term room text) text at rest
in-parentheses E t s zero text rest at r d f n w e = absurd (omega arith)
in-parentheses E t s (suc room) text rest at r d f n w e =
    atom-of-whole at room (e ∙ enclosed-flat (term_text E s t) rest) (text-head E s t f n w (41 ∷ rest))
    (λ place h. r.whole s room text (41 ∷ rest) place (record { depth_left = omega arith; forms = f; names = n; within = w }) (closes-close text rest) h)

-- as an argument
argument-by : (E : Environment) (t : Tree) (s : Scope) (room : ℕ) (text rest : List ℕ) (at : ℕ) (q : Bool) → is_compound t ≡ q → Readable E t → in_parentheses q (open_within t) ≤ room → HasForms E t → HasNames E s t
    → Within E s t → EndsName rest → drop at text ≡ enclosed q (term_text E s t) ++ rest → AtomRead E (names_of s) t (term room text) text at rest
argument-by E t s room text rest at true q r d f n w c e = in-parentheses E t s room text rest at r d f n w e
argument-by E t s room text rest at false q r d f n w c e = r.atom s room text rest at q (record { depth_left = d; forms = f; names = n; within = w }) c e

-- as a function or the left of an arrow
function-by : (E : Environment) (t : Tree) (s : Scope) (room : ℕ) (text rest : List ℕ) (at : ℕ) (p : Bool) → is_binder t ≡ p → Readable E t → in_parentheses p (open_within t) ≤ room → HasForms E t → HasNames E s t
    → Within E s t → EndsName rest → drop at text ≡ enclosed p (term_text E s t) ++ rest → SpineRead E (names_of s) t (term room text) text at rest
function-by E t s room text rest at true p r d f n w c e = spine-of-atom (in-parentheses E t s room text rest at r d f n w e)
function-by E t s room text rest at false p r d f n w c e = r.spine s room text rest at p (record { depth_left = d; forms = f; names = n; within = w }) c e

-- ---- the forms

blank-ends : (rest : List ℕ) → EndsName (32 ∷ rest)
unfolding unicode_ident
blank-ends rest = ap is_continue (head-byte 32 rest (lit< tt))

app-spine : (E : Environment) (g a : Tree) → Readable E g → Readable E a → (s : Scope) (room : ℕ) (text rest : List ℕ) (at : ℕ) → Fits E s (App g a) room → EndsName rest
    → drop at text ≡ term_text E s (App g a) ++ rest → SpineRead E (names_of s) (App g a) (term room text) text at rest
app-spine E g a rg ra s room text rest at f c e =
    let p : Bool = is_binder g in
    let q : Bool = is_compound a in
    let tg : List ℕ = term_text E s g in
    let ta : List ℕ = term_text E s a in
    let d : max (in_parentheses p (open_within g)) (in_parentheses q (open_within a)) ≤ room = f.depth_left in
    let more : List ℕ = enclosed q ta ++ rest in
    let head = function-by E g s room text (32 ∷ more) at p refl rg (omega arith) f.forms.0 f.names.0 (left-of-app E s g a f.within) (blank-ends more) (e ∙ app-flat p q tg ta rest) in
    let less : suc (length rest) ≤ length (32 ∷ more) = let l : length (32 ∷ more) ≡ suc (length more) = refl in omega (arith, l, length-append (enclosed q ta) rest) in
    spine-of-app head (λ place h. argument-by E a s room text rest place q refl ra (omega arith) f.forms.1 f.names.1 (right-of-app E s g a f.within) c h) less

of-app : (E : Environment) (g a : Tree) → Readable E g → Readable E a → Readable E (App g a)
of-app E g a rg ra = record {
  whole = λ s room text rest at f c e. whole-of-spine room c (app-spine E g a rg ra s room text rest at f c.ends e);
  spine = λ s room text rest at b f c e. app-spine E g a rg ra s room text rest at f c e;
  atom = λ s room text rest at b f c e. absurd (cc);
}

lambda-by : (E : Environment) (x : Bytes) (A b : Tree) → Readable E A → Readable E b → (s : Scope) (room : ℕ) (text rest : List ℕ) (at : ℕ) → Fits E s (Lam x A b) room → Closes text rest
    → drop at text ≡ term_text E s (Lam x A b) ++ rest → WholeRead E (names_of s) (Lam x A b) room text at rest
lambda-by E x A b ra rb s zero text rest at f c e = absurd (let d : suc (max (open_within A) (open_within b)) ≤ 0 = f.depth_left in omega arith)
lambda-by E x A b ra rb s (suc room) text rest at f c e =
    let o : Option Bytes = shown_binder E.entries s x 0 b in
    let ta : List ℕ = term_text E s A in
    let tb : List ℕ = term_text E (o ∷ s) b in
    let d : suc (max (open_within A) (open_within b)) ≤ suc room = f.depth_left in
    lambda-whole room at (binder_text o) ta tb x A b (binder-word o f.names.0) (binder-free o f.names.0)
    (λ place h. ra.whole s room text (46 ∷ (tb ++ rest)) place (record { depth_left = omega arith; forms = f.forms.0; names = f.names.1; within = left-of-lambda E s x A b f.within }) (closes-dot text (tb ++ rest)) h)
    (λ place h. rb.whole (o ∷ s) room text rest place (record { depth_left = omega arith; forms = f.forms.1; names = f.names.2; within = under-lambda E s x A b f.forms f.names f.within }) c h)
    (e ∙ lambda-flat (binder_text o) ta tb rest)

-- a product, used or not
product-by : (E : Environment) (x : Bytes) (A B : Tree) → Readable E A → Readable E B → (s : Scope) (room : ℕ) (text rest : List ℕ) (at : ℕ) (name : Bytes) (u : Bool)
    → cond u (suc (max (open_within A) (open_within B))) (max (in_parentheses (is_binder A) (open_within A)) (suc (open_within B))) ≤ room
    → HasForms E (Prod x A B) → IsShownName (cond u (Some name) None) → HasNames E s A → HasNames E (cond u (Some name) None ∷ s) B → Within E s A → Within E (cond u (Some name) None ∷ s) B → Closes text rest
    → drop at text ≡ product_text (cond u (Some name) None) (is_binder A) (term_text E s A) (term_text E (cond u (Some name) None ∷ s) B) ++ rest → WholeRead E (names_of s) (Prod x A B) room text at rest
product-by E x A B ra rb s zero text rest at name true d f n na nb wa wb c e = absurd (omega arith)
product-by E x A B ra rb s (suc room) text rest at name true d f n na nb wa wb c e =
    let ta : List ℕ = term_text E s A in
    let tb : List ℕ = term_text E (Some name ∷ s) B in
    product-whole room at name ta tb x A B n.word n.free
    (λ place h. ra.whole s room text (46 ∷ (tb ++ rest)) place (record { depth_left = omega arith; forms = f.0; names = na; within = wa }) (closes-dot text (tb ++ rest)) h)
    (λ place h. rb.whole (Some name ∷ s) room text rest place (record { depth_left = omega arith; forms = f.1; names = nb; within = wb }) c h)
    (e ∙ product-flat name (is_binder A) ta tb rest)
product-by E x A B ra rb s zero text rest at name false d f n na nb wa wb c e = absurd (omega arith)
product-by E x A B ra rb s (suc room) text rest at name false d f n na nb wa wb c e =
    let p : Bool = is_binder A in
    let ta : List ℕ = term_text E s A in
    let tb : List ℕ = term_text E (None ∷ s) B in
    let more : List ℕ = 226 ∷ 134 ∷ 146 ∷ 32 ∷ (tb ++ rest) in
    arrow-whole room x A B
    (function-by E A s (suc room) text (32 ∷ more) at p refl ra (omega arith) f.0 na wa (blank-ends more) (e ∙ arrow-flat p ta tb rest))
    (λ place h. rb.whole (None ∷ s) room text rest place (record { depth_left = omega arith; forms = f.1; names = nb; within = wb }) c h)

-- ---- all terms

readable : (E : Environment) → AreApart E → (t : Tree) → Readable E t
readable E apart (Var i) = of-atom E (Var i) (λ s room text rest at f c e. variable-atom s text rest at i f.within c e)
readable E apart (Sort Prop) = of-atom E (Sort Prop) (λ s room text rest at f c e. prop-atom text rest at c e)
readable E apart (Sort (Typ u)) = of-atom E (Sort (Typ u)) (λ s room text rest at f c e. type-atom text rest at u apart f.forms f.names e)
readable E apart (Prod x A B) =
    let ra = readable E apart A in
    let rb = readable E apart B in
    of-whole E (Prod x A B) refl refl (λ s room text rest at f c e.
    product-by E x A B ra rb s room text rest at (chosen E.entries s x (B ∷ [])) (uses 0 B) f.depth_left f.forms f.names.0 f.names.1 f.names.2
    (left-of-product E s x A B f.within) (under-product E s x A B f.forms f.names f.within) c e)
readable E apart (Lam x A b) =
    let ra = readable E apart A in
    let rb = readable E apart b in
    of-whole E (Lam x A b) refl refl (λ s room text rest at f c e. lambda-by E x A b ra rb s room text rest at f c e)
readable E apart (App g a) = of-app E g a (readable E apart g) (readable E apart a)
readable E apart (Const k) = of-atom E (Const k) (λ s room text rest at f c e. constant-atom s text rest at k apart f.forms f.names f.within c e)
readable E apart (Ind k) = of-none E (Ind k) (λ h. h)
readable E apart (Con k j) = of-none E (Con k j) (λ h. h)
readable E apart (Match k R c bs) = of-none E (Match k R c bs) (λ h. h)
readable E apart (Meta m ts) = of-none E (Meta m ts) (λ h. h)

pub reading-back : ReadingBack
unfolding is_alike
reading-back E t apart closed forms names depth_left small =
    let x : List ℕ = term_text E [] t in
    let text : List ℕ = x ++ codes " ." in
    let r = (readable E apart t).whole [] 199 text (32 ∷ 46 ∷ []) 0 (record { depth_left = omega arith; forms = forms; names = names; within = closed-within E t forms closed small }) (closes-end text []) (drop_at [] text 0 refl) in
    let end : r.read.end ≡ length x =
    let a : length (drop r.read.end text) ≡ 2 = ap length r.read.after in
    omega (arith, a, length-drop r.read.end text, length-append x (codes " .")) in
    record {
      raw = r.written;
      is_read = r.read.is ∙ ap (λ n. Got r.written n) end;
      term = r.stands.term;
      is_found = r.stands.found;
      is_same = r.stands.same;
    }
