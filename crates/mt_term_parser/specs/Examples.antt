-- Short terms.
use Rattle.std.specs.Prelude.{◌≡◌, [], ◌∷◌, ◌++◌, codes, refl}
use lib.Utf8.{encode}
use Rattle.std.specs.Str.{chars}
use Rattle.unicode_ident.proofs.Computing.{unicode_ident}
use Rattle.mt_term.specs.Reasons.{Lex, Syntax, Incomplete, TooDeep}
use Rattle.mt_term_parser.specs.declared.raw.Part.TheVariants as part
use Rattle.mt_term_parser.specs.declared.raw.RawSort.TheVariants as sort
use Rattle.mt_term_parser.specs.Written.{Term, Name, Hole, Vector, Sort, Lam, Prod, App, Match}
use Rattle.mt_term_parser.specs.Written.{Cast, Absent, Given, NoArgument, Argument, NoCase, Case}
use Rattle.mt_term_parser.specs.Readings.{Got, Stops}
use Rattle.mt_term_parser.specs.Grammar.{term_at}

a_name : term_at (codes " a.") 0 0 ≡ Got (Term 1 (Name (codes "a"))) 2
unfolding chars encode unicode_ident
a_name = refl

application : term_at (codes "f (g) ?.") 0 0 ≡ Got
    (Term 0 (App (Term 0 (Name (codes "f"))) (Argument (Term 3 (Name (codes "g"))) (Argument (Term 6 Hole) NoArgument))))
    7
unfolding chars encode unicode_ident
application = refl

-- `λx:A.x → (B)`: the arrow's term begins at its own first token
lambda : term_at (codes "fun x:A.x -> (B).") 0 0 ≡ Got
    (Term 0 (Lam (codes "x") (Given (Term 6 (Name (codes "A")))) (Term 8 (Prod (codes "_") (Term 8 (Name (codes "x"))) (Term 14 (Name (codes "B")))))))
    16
unfolding chars encode unicode_ident
lambda = refl

plain_lambda : term_at (codes "fun _.Prop") 0 0 ≡ Got
    (Term 0 (Lam (codes "_") Absent (Term 6 (Sort sort.Prop)))) 10
unfolding chars encode unicode_ident
plain_lambda = refl

product : term_at (codes "forall x:A.(x)") 0 0 ≡ Got
    (Term 0 (Prod (codes "x") (Term 9 (Name (codes "A"))) (Term 12 (Name (codes "x"))))) 14
unfolding chars encode unicode_ident
product = refl

-- parentheses round a part are the first token of the whole
head : term_at (codes "(f) a") 0 0 ≡ Got
    (Term 0 (App (Term 1 (Name (codes "f"))) (Argument (Term 4 (Name (codes "a"))) NoArgument))) 5
unfolding chars encode unicode_ident
head = refl

cast : term_at (codes "(t:T)") 0 0 ≡ Got
    (Term 0 (Cast (Term 1 (Name (codes "t"))) (Term 3 (Name (codes "T"))))) 5
unfolding chars encode unicode_ident
cast = refl

-- `f …`
vector : term_at (codes "f" ++ 226 ∷ 128 ∷ 166 ∷ []) 0 0 ≡ Got
    (Term 0 (App (Term 0 (Name (codes "f"))) (Argument (Term 1 Vector) NoArgument))) 4
unfolding chars encode unicode_ident
vector = refl

sorts : term_at (codes "Type[0,u+2,v]") 0 0 ≡ Got
    (Term 0 (Sort (sort.Typ (part.Number 0 ∷ part.Name (codes "u") 2 ∷ part.Name (codes "v") 0 ∷ []))))
    13
unfolding chars encode unicode_ident
sorts = refl

matched : term_at (codes "match n return P with [O=>x|S p _=>y]") 0 0
    ≡ Got (Term 0 (Match (Term 6 (Name (codes "n"))) (Given (Term 15 (Name (codes "P"))))
    (Case (codes "O") [] (Term 26 (Name (codes "x"))) (Case (codes "S") (codes "p" ∷ codes "_" ∷ []) (Term 35 (Name (codes "y"))) NoCase)))) 37
unfolding chars encode unicode_ident
matched = refl

no_arm : term_at (codes "match n with []") 0 0 ≡ Got
    (Term 0 (Match (Term 6 (Name (codes "n"))) Absent NoCase)) 15
unfolding chars encode unicode_ident
no_arm = refl

-- a character that is no token, where a term has to begin, and after a whole term
no_token : term_at (codes "f (%") 0 0 ≡ Stops Lex 3
unfolding chars encode unicode_ident
no_token = refl

not_needed : term_at (codes "f %") 0 0 ≡ Got (Term 0 (Name (codes "f"))) 1
unfolding chars encode unicode_ident
not_needed = refl

misplaced : term_at (codes "f . a") 1 0 ≡ Stops Syntax 2
unfolding chars encode unicode_ident
misplaced = refl

no_name : term_at (codes "_") 0 0 ≡ Stops Syntax 0
unfolding chars encode unicode_ident
no_name = refl

cut_off : term_at (codes "fun x ") 0 0 ≡ Stops Incomplete 6
unfolding chars encode unicode_ident
cut_off = refl

deepest : term_at (codes "a") 0 199 ≡ Got (Term 0 (Name (codes "a"))) 1
unfolding chars encode unicode_ident
deepest = refl

too_deep : term_at (codes "(a)") 0 199 ≡ Stops TooDeep 1
unfolding chars encode unicode_ident
too_deep = refl

-- what begins no term is no nesting
full_but_misplaced : term_at (codes "(.)") 0 199 ≡ Stops Syntax 1
unfolding chars encode unicode_ident
full_but_misplaced = refl
