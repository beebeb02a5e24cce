-- The names of what stands in a term are those that the term's text must not use.
use Rattle.std.proofs.Common.{◌≡◌, ◌∙◌, ◌<◌, ◌≤◌, ◌+◌, ℕ, List, [], ◌∷◌, ◌++◌, length, length-append, map, refl, sym, ap, append_assoc, arith}
use Rattle.std.specs.Prelude.{Some, None, Option}
use Rattle.std.proofs.lemmas.List.{map-append, length-map}
use Rattle.mt_term.specs.Trees.{Tree, Trees, Arms, Bytes, Var, Sort, Prod, Lam, App, Const, Ind, Con, Match, Meta, End, Item, NoArm, Arm}
use Rattle.mt_term.specs.Declarations.{Declaration}
use Rattle.mt_printer.specs.declared.named.Named.{Named}
use Rattle.mt_printer.specs.Chosen.{Scope, avoided_under, shown_names, occurring, occurring_all, occurring_arms, occurring_each}
use Rattle.mt_printer.specs.NamedIn.{name_in, names_in, named_in, named_all, named_arms, named_each, avoided_by}
use Rattle.mt_printer.specs.ScopeOf.{turned}

both : (es : List Declaration) (xs ys : List Named) (a b : List Bytes) → names_in es xs ≡ a → names_in es ys ≡ b → names_in es (xs ++ ys) ≡ a ++ b
both es xs ys a b p q = map-append (name_in es) xs ys ∙ (λ i. p i ++ q i)

mutual
  names_of : (es : List Declaration) (t : Tree) → names_in es (named_in t) ≡ occurring es t
  names_of es (Var j) = refl
  names_of es (Sort s) = refl
  names_of es (Prod x A B) = both es (named_in A) (named_in B) (occurring es A) (occurring es B) (names_of es A) (names_of es B)
  names_of es (Lam x A b) = both es (named_in A) (named_in b) (occurring es A) (occurring es b) (names_of es A) (names_of es b)
  names_of es (App f a) = both es (named_in f) (named_in a) (occurring es f) (occurring es a) (names_of es f) (names_of es a)
  names_of es (Const c) = refl
  names_of es (Ind e) = refl
  names_of es (Con e k) = refl
  names_of es (Match e R c bs) =
      both es (named_in R ++ named_in c) (named_arms bs) (occurring es R ++ occurring es c) (occurring_arms es bs)
      (both es (named_in R) (named_in c) (occurring es R) (occurring es c) (names_of es R) (names_of es c)) (names_of_arms es bs)
  names_of es (Meta n s) = names_of_all es s

  names_of_all : (es : List Declaration) (s : Trees) → names_in es (named_all s) ≡ occurring_all es s
  names_of_all es End = refl
  names_of_all es (Item t s) = both es (named_in t) (named_all s) (occurring es t) (occurring_all es s) (names_of es t) (names_of_all es s)

  names_of_arms : (es : List Declaration) (bs : Arms) → names_in es (named_arms bs) ≡ occurring_arms es bs
  names_of_arms es NoArm = refl
  names_of_arms es (Arm xs b bs) = both es (named_in b) (named_arms bs) (occurring es b) (occurring_arms es bs) (names_of es b) (names_of_arms es bs)

names_of_each : (es : List Declaration) (ts : List Tree) → names_in es (named_each ts) ≡ occurring_each es ts
names_of_each es [] = refl
names_of_each es (t ∷ ts) = both es (named_in t) (named_each ts) (occurring es t) (occurring_each es ts) (names_of es t) (names_of_each es ts)

named_each-append : (ts us : List Tree) → named_each (ts ++ us) ≡ named_each ts ++ named_each us
named_each-append [] us = refl
named_each-append (t ∷ ts) us = ap (λ xs. named_in t ++ xs) (named_each-append ts us) ∙ sym (append_assoc (named_in t) (named_each ts) (named_each us))

-- what was found in two lists of terms is avoided under both
pub found_avoided : (es : List Declaration) (s : Scope) (ts us : List Tree) (ns : List Named) → ns ≡ named_each ts ++ named_each us → avoided_by es s ns ≡ avoided_under es s (ts ++ us)
found_avoided es s ts us ns e = ap (λ xs. shown_names s ++ xs) (ap (names_in es) (e ∙ sym (named_each-append ts us)) ∙ names_of_each es (ts ++ us))

shown_few : (s : Scope) → length (shown_names s) ≤ length s
shown_few [] = omega arith
shown_few (None ∷ s) = let h = shown_few s in omega (arith, h)
shown_few (Some x ∷ s) = let h = shown_few s in omega (arith, h)

-- how many names are avoided
pub avoided_few : (es : List Declaration) (s : Scope) (ns : List Named) → length (avoided_by es s ns) ≤ length s + length ns
avoided_few es s ns = omega (arith, length-append (shown_names s) (names_in es ns), length-map ns (name_in es), shown_few s)

pub length_turned : (xs : List (Option Bytes)) (s : Scope) → length (turned xs s) ≡ length xs + length s
length_turned [] s = omega arith
length_turned (x ∷ xs) s = let h = length_turned xs (x ∷ s) in omega (arith, h)
