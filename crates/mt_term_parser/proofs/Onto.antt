-- One more item at the end of a list of arguments or arms.
use Rattle.std.proofs.Common.{◌≡◌, List, [], ◌∷◌, ◌++◌, map, refl, ap}
use Rattle.mt_term_parser.specs.Written.{Arguments, Argument, Cases}
use Rattle.mt_term_parser.specs.WrittenOf.{written_of, case_of}
use Rattle.mt_term_parser.specs.Grammar.{arguments_onto, cases_onto}
use Rattle.mt_term_parser.specs.declared.raw.Raw.{Raw}
use Rattle.mt_term_parser.specs.declared.raw.Arm.{Arm}

pub arguments_onto-push : (xs : List Raw) (x : Raw) (more : Arguments) → arguments_onto (map written_of (xs ++ x ∷ [])) more ≡ arguments_onto (map written_of xs) (Argument (written_of x) more)
arguments_onto-push [] x more = refl
arguments_onto-push (y ∷ ys) x more = ap (Argument (written_of y)) (arguments_onto-push ys x more)

pub cases_onto-push : (xs : List Arm) (x : Arm) (more : Cases) → cases_onto (map case_of (xs ++ x ∷ [])) more ≡ cases_onto (map case_of xs) (cases_onto (case_of x ∷ []) more)
cases_onto-push [] x more = refl
cases_onto-push (y ∷ ys) x more = ap (λ more. cases_onto (case_of y ∷ []) more) (cases_onto-push ys x more)
