-- The sorts of arguments, rule by rule, as a program follows them.
use Rattle.std.specs.Prelude.{ℕ, ◌≡◌, ◌≤◌, Bool, true, false, ◌&&◌, List, ◌∷◌, refl}
use Rattle.std.proofs.Common.{◌∙◌, ap, arith}
use Rattle.mt_term.specs.Trees.{Bytes, Tree, Trees, Arms, Var, Sort, Prod, Lam, App, Const, Ind, Con, Match, Meta}
use Rattle.mt_term.specs.declared.universes.Sort.{Sort as AnySort}
use Rattle.mt_term.specs.declared.universes.UnivExpr.{UnivExpr}
use Rattle.mt_term.specs.declared.universes.Sort.TheVariants as sort
use Rattle.mt_term.specs.Declarations.{Hypothesis, Environment}
use Rattle.mt_term.specs.Reasons.{Reason, KernelRefused, number_of}
use Rattle.mt_rules.specs.Charges as charges
use Rattle.mt_rules.specs.Charges.{Outcome}
use Rattle.mt_rules.specs.KernelCheck.{check}
use Rattle.mt_rules_laws.proofs.InferenceLaws.{check-rest}
use Rattle.mt_decl.specs.Answers.{Answer, Made, Refused, Spent, Answering, and_then, make, from_kernel, yes_or_no, by_kernel}
use Rattle.mt_decl.specs.Telescopes.{abstracted, generalized}
use Rattle.mt_decl.specs.Declaring.{argument_check, arguments_fit, do_arguments_fit}
use Rattle.mt_decl.specs.EntryLaws.{rest}
use Rattle.mt_decl.specs.Fitting.{checking, judging, accepting, fitting, all_fitting, sorting}
use Rattle.mt_decl.proofs.Allowance.{fit_goes, do_fit_goes, sorts_go}
use Rattle.mt_decl.proofs.Sequences.{kernel_rest, yes_rest, then_rest}

module _ (E : Environment) (s : AnySort) (Γ : List Hypothesis) where
  pub checking-is : (A : Tree) (n : ℕ) → checking E s Γ A n ≡ check E (abstracted Γ A) (generalized Γ (Sort s)) n
  unfolding checking
  checking-is A n = refl

  pub checking-rest : (A : Tree) (n : ℕ) → charges.rest (checking E s Γ A n) ≤ n
  unfolding checking
  checking-rest A n = check-rest E (abstracted Γ A) (generalized Γ (Sort s)) n

  -- a No is refused at the place
  pub judging-done : (start : ℕ) (A : Tree) (z : Unit {0}) (n l : ℕ) → checking E s Γ A n ≡ charges.Done z l → judging E start s Γ A n ≡ Made z l
  unfolding checking judging
  judging-done start A z n l e = ap (λ (o : Outcome (Unit {0})). from_kernel start o) e

  pub judging-refused : (start : ℕ) (A : Tree) (r : Reason) (n l : ℕ) → checking E s Γ A n ≡ charges.Refused r l → judging E start s Γ A n ≡ Refused (KernelRefused (number_of r)) start l
  unfolding checking judging
  judging-refused start A r n l e = ap (λ (o : Outcome (Unit {0})). from_kernel start o) e

  pub judging-spent : (start : ℕ) (A : Tree) (n : ℕ) → checking E s Γ A n ≡ charges.Spent → judging E start s Γ A n ≡ Spent
  unfolding checking judging
  judging-spent start A n e = ap (λ (o : Outcome (Unit {0})). from_kernel start o) e

  pub judging-within : (start : ℕ) (A : Tree) (n : ℕ) → rest (judging E start s Γ A n) ≤ charges.rest (checking E s Γ A n)
  unfolding checking judging
  judging-within start A n = omega (arith, kernel_rest start (check E (abstracted Γ A) (generalized Γ (Sort s)) n))

  -- a No is an answer
  pub accepting-yes : (A : Tree) (z : Unit {0}) (n l : ℕ) → checking E s Γ A n ≡ charges.Done z l → accepting E s Γ A n ≡ Made true l
  unfolding checking accepting
  accepting-yes A z n l e = ap (λ (o : Outcome (Unit {0})). yes_or_no o) e

  pub accepting-no : (A : Tree) (r : Reason) (n l : ℕ) → checking E s Γ A n ≡ charges.Refused r l → accepting E s Γ A n ≡ Made false l
  unfolding checking accepting
  accepting-no A r n l e = ap (λ (o : Outcome (Unit {0})). yes_or_no o) e

  pub accepting-spent : (A : Tree) (n : ℕ) → checking E s Γ A n ≡ charges.Spent → accepting E s Γ A n ≡ Spent
  unfolding checking accepting
  accepting-spent A n e = ap (λ (o : Outcome (Unit {0})). yes_or_no o) e

  pub accepting-within : (A : Tree) (n : ℕ) → rest (accepting E s Γ A n) ≤ charges.rest (checking E s Γ A n)
  unfolding checking accepting
  accepting-within A n = omega (arith, yes_rest (check E (abstracted Γ A) (generalized Γ (Sort s)) n))

  -- the arguments in order
  pub fitting-rest : (start : ℕ) (C : Tree) (n : ℕ) → rest (fitting E start s Γ C n) ≤ n
  unfolding fitting
  fitting-rest start C n = (fit_goes E start s Γ C).1 n

  pub all-rest : (C : Tree) (n : ℕ) → rest (all_fitting E s Γ C n) ≤ n
  unfolding all_fitting
  all-rest C n = (do_fit_goes E s Γ C).1 n

-- the rest of a product, under the argument before it
module _ (E : Environment) (s : AnySort) (Γ : List Hypothesis) (x : Bytes) (A B : Tree) where
  abbrev inner : List Hypothesis
  inner = record { name = x; ty = A } ∷ Γ

  pub fitting-made : (start : ℕ) (z : Unit {0}) (n l : ℕ) → judging E start s Γ A n ≡ Made z l → fitting E start s Γ (Prod x A B) n ≡ fitting E start s (record { name = x; ty = A } ∷ Γ) B l
  unfolding judging fitting
  fitting-made start z n l e = ap (λ (o : Answer (Unit {0})). and_then o (λ z. arguments_fit E start s inner B)) e

  pub fitting-refused : (start : ℕ) (r : Reason) (n at l : ℕ) → judging E start s Γ A n ≡ Refused r at l → fitting E start s Γ (Prod x A B) n ≡ Refused r at l
  unfolding judging fitting
  fitting-refused start r n at l e = ap (λ (o : Answer (Unit {0})). and_then o (λ z. arguments_fit E start s inner B)) e

  pub fitting-spent : (start n : ℕ) → judging E start s Γ A n ≡ Spent → fitting E start s Γ (Prod x A B) n ≡ Spent
  unfolding judging fitting
  fitting-spent start n e = ap (λ (o : Answer (Unit {0})). and_then o (λ z. arguments_fit E start s inner B)) e

  pub fitting-within : (start n : ℕ) → rest (fitting E start s Γ (Prod x A B) n) ≤ rest (judging E start s Γ A n)
  unfolding judging fitting
  fitting-within start n = then_rest (by_kernel start (argument_check E s Γ A) n) (λ z. arguments_fit E start s inner B) (λ z l. (fit_goes E start s inner B).1 l)

  others : Bool → Answering Bool
  others b m = and_then (do_arguments_fit E s inner B m) (λ c. make (b && c))

  all-is : (n : ℕ) → all_fitting E s Γ (Prod x A B) n ≡ and_then (accepting E s Γ A n) others
  unfolding accepting all_fitting others
  all-is n = refl

  others-rest : (b : Bool) (l : ℕ) → rest (others b l) ≤ rest (all_fitting E s inner B l)
  unfolding all_fitting others
  others-rest b l = then_rest (do_arguments_fit E s inner B l) (λ c. make (b && c)) (λ c m. omega arith)

  others-fall : (b : Bool) (l : ℕ) → rest (others b l) ≤ l
  others-fall b l = omega (arith, others-rest b l, all-rest E s inner B l)

  pub all-first_refused : (r : Reason) (n at l : ℕ) → accepting E s Γ A n ≡ Refused r at l → all_fitting E s Γ (Prod x A B) n ≡ Refused r at l
  all-first_refused r n at l e = all-is n ∙ ap (λ (o : Answer Bool). and_then o others) e

  pub all-first_spent : (n : ℕ) → accepting E s Γ A n ≡ Spent → all_fitting E s Γ (Prod x A B) n ≡ Spent
  all-first_spent n e = all-is n ∙ ap (λ (o : Answer Bool). and_then o others) e

  pub all-first_within : (n : ℕ) → rest (all_fitting E s Γ (Prod x A B) n) ≤ rest (accepting E s Γ A n)
  all-first_within n = rw (all-is n) (then_rest (accepting E s Γ A n) others others-fall)

  first : (b : Bool) (n l : ℕ) → accepting E s Γ A n ≡ Made b l → all_fitting E s Γ (Prod x A B) n ≡ others b l
  first b n l e = all-is n ∙ ap (λ (o : Answer Bool). and_then o others) e

  pub all-others_refused : (b : Bool) (r : Reason) (n l at k : ℕ) → accepting E s Γ A n ≡ Made b l → all_fitting E s (record { name = x; ty = A } ∷ Γ) B l ≡ Refused r at k → all_fitting E s Γ (Prod x A B) n ≡ Refused r at k
  unfolding all_fitting others
  all-others_refused b r n l at k e f = first b n l e ∙ ap (λ (o : Answer Bool). and_then o (λ c. make (b && c))) f

  pub all-others_spent : (b : Bool) (n l : ℕ) → accepting E s Γ A n ≡ Made b l → all_fitting E s (record { name = x; ty = A } ∷ Γ) B l ≡ Spent → all_fitting E s Γ (Prod x A B) n ≡ Spent
  unfolding all_fitting others
  all-others_spent b n l e f = first b n l e ∙ ap (λ (o : Answer Bool). and_then o (λ c. make (b && c))) f

  pub all-others_within : (b : Bool) (n l : ℕ) → accepting E s Γ A n ≡ Made b l → rest (all_fitting E s Γ (Prod x A B) n) ≤ rest (all_fitting E s (record { name = x; ty = A } ∷ Γ) B l)
  all-others_within b n l e = rw (first b n l e) (others-rest b l)

  pub all-made : (b c : Bool) (n l k : ℕ) → accepting E s Γ A n ≡ Made b l → all_fitting E s (record { name = x; ty = A } ∷ Γ) B l ≡ Made c k → all_fitting E s Γ (Prod x A B) n ≡ Made (b && c) k
  unfolding all_fitting others
  all-made b c n l k e f = first b n l e ∙ ap (λ (o : Answer Bool). and_then o (λ c. make (b && c))) f

-- what is no product has no arguments
module _ (E : Environment) (s : AnySort) (Γ : List Hypothesis) where
  pub fitting-var : (start : ℕ) (i : ℕ) (n : ℕ) → fitting E start s Γ (Var i) n ≡ Made tt n
  unfolding fitting
  fitting-var start i n = refl

  pub all-var : (i : ℕ) (n : ℕ) → all_fitting E s Γ (Var i) n ≡ Made true n
  unfolding all_fitting
  all-var i n = refl

  pub fitting-sort : (start : ℕ) (r : AnySort) (n : ℕ) → fitting E start s Γ (Sort r) n ≡ Made tt n
  unfolding fitting
  fitting-sort start r n = refl

  pub all-sort : (r : AnySort) (n : ℕ) → all_fitting E s Γ (Sort r) n ≡ Made true n
  unfolding all_fitting
  all-sort r n = refl

  pub fitting-lam : (start : ℕ) (x : Bytes) (A b : Tree) (n : ℕ) → fitting E start s Γ (Lam x A b) n ≡ Made tt n
  unfolding fitting
  fitting-lam start x A b n = refl

  pub all-lam : (x : Bytes) (A b : Tree) (n : ℕ) → all_fitting E s Γ (Lam x A b) n ≡ Made true n
  unfolding all_fitting
  all-lam x A b n = refl

  pub fitting-app : (start : ℕ) (f a : Tree) (n : ℕ) → fitting E start s Γ (App f a) n ≡ Made tt n
  unfolding fitting
  fitting-app start f a n = refl

  pub all-app : (f a : Tree) (n : ℕ) → all_fitting E s Γ (App f a) n ≡ Made true n
  unfolding all_fitting
  all-app f a n = refl

  pub fitting-const : (start : ℕ) (c : ℕ) (n : ℕ) → fitting E start s Γ (Const c) n ≡ Made tt n
  unfolding fitting
  fitting-const start c n = refl

  pub all-const : (c : ℕ) (n : ℕ) → all_fitting E s Γ (Const c) n ≡ Made true n
  unfolding all_fitting
  all-const c n = refl

  pub fitting-ind : (start : ℕ) (e : ℕ) (n : ℕ) → fitting E start s Γ (Ind e) n ≡ Made tt n
  unfolding fitting
  fitting-ind start e n = refl

  pub all-ind : (e : ℕ) (n : ℕ) → all_fitting E s Γ (Ind e) n ≡ Made true n
  unfolding all_fitting
  all-ind e n = refl

  pub fitting-con : (start : ℕ) (e k : ℕ) (n : ℕ) → fitting E start s Γ (Con e k) n ≡ Made tt n
  unfolding fitting
  fitting-con start e k n = refl

  pub all-con : (e k : ℕ) (n : ℕ) → all_fitting E s Γ (Con e k) n ≡ Made true n
  unfolding all_fitting
  all-con e k n = refl

  pub fitting-match : (start : ℕ) (e : ℕ) (R c : Tree) (bs : Arms) (n : ℕ) → fitting E start s Γ (Match e R c bs) n ≡ Made tt n
  unfolding fitting
  fitting-match start e R c bs n = refl

  pub all-match : (e : ℕ) (R c : Tree) (bs : Arms) (n : ℕ) → all_fitting E s Γ (Match e R c bs) n ≡ Made true n
  unfolding all_fitting
  all-match e R c bs n = refl

  pub fitting-meta : (start : ℕ) (m : ℕ) (us : Trees) (n : ℕ) → fitting E start s Γ (Meta m us) n ≡ Made tt n
  unfolding fitting
  fitting-meta start m us n = refl

  pub all-meta : (m : ℕ) (us : Trees) (n : ℕ) → all_fitting E s Γ (Meta m us) n ≡ Made true n
  unfolding all_fitting
  all-meta m us n = refl

-- whether the sorts of the arguments allow a match into every sort
module _ (E : Environment) (start : ℕ) (Γ : List Hypothesis) (C : Tree) where
  pub sorting-made : (u : UnivExpr) (only : Bool) (z : Unit {0}) (n l : ℕ) → fitting E start (sort.Typ u) Γ C n ≡ Made z l → sorting E start (sort.Typ u) only Γ C n ≡ Made true l
  unfolding fitting sorting
  sorting-made u only z n l e = ap (λ (o : Answer (Unit {0})). and_then o (λ z. make true)) e

  pub sorting-refused : (u : UnivExpr) (only : Bool) (r : Reason) (n at l : ℕ) → fitting E start (sort.Typ u) Γ C n ≡ Refused r at l → sorting E start (sort.Typ u) only Γ C n ≡ Refused r at l
  unfolding fitting sorting
  sorting-refused u only r n at l e = ap (λ (o : Answer (Unit {0})). and_then o (λ z. make true)) e

  pub sorting-spent : (u : UnivExpr) (only : Bool) (n : ℕ) → fitting E start (sort.Typ u) Γ C n ≡ Spent → sorting E start (sort.Typ u) only Γ C n ≡ Spent
  unfolding fitting sorting
  sorting-spent u only n e = ap (λ (o : Answer (Unit {0})). and_then o (λ z. make true)) e

  pub sorting-within : (u : UnivExpr) (only : Bool) (n : ℕ) → rest (sorting E start (sort.Typ u) only Γ C n) ≤ rest (fitting E start (sort.Typ u) Γ C n)
  unfolding fitting sorting
  sorting-within u only n = then_rest (arguments_fit E start (sort.Typ u) Γ C n) (λ z. make true) (λ z l. omega arith)

  pub sorting-only : (n : ℕ) → sorting E start sort.Prop true Γ C n ≡ all_fitting E sort.Prop Γ C n
  unfolding all_fitting sorting
  sorting-only n = refl

  pub sorting-several : (n : ℕ) → sorting E start sort.Prop false Γ C n ≡ Made false n
  unfolding sorting
  sorting-several n = refl

  pub sorting-rest : (s : AnySort) (only : Bool) (n : ℕ) → rest (sorting E start s only Γ C n) ≤ n
  unfolding sorting
  sorting-rest s only n = (sorts_go E start s only Γ C).1 n

pub ruleset sorting_rules = (sorting-made, sorting-refused, sorting-spent, sorting-within, sorting-only, sorting-several, fitting-rest)

pub ruleset checking_rules = (checking-is, checking-rest, check-rest)

pub ruleset judging_rules = (checking-rest, judging-done, judging-refused, judging-spent, judging-within)

pub ruleset accepting_rules = (checking-rest, accepting-yes, accepting-no, accepting-spent, accepting-within)

pub ruleset fitting_rules = (fitting-rest, fitting-made, fitting-refused, fitting-spent, fitting-within, fitting-var, fitting-sort, fitting-lam, fitting-app, fitting-const, fitting-ind, fitting-con, fitting-match, fitting-meta)

pub ruleset all_rules = (all-rest, all-first_refused, all-first_spent, all-first_within, all-others_refused, all-others_spent, all-others_within, all-made, all-var, all-sort, all-lam, all-app, all-const, all-ind, all-con, all-match, all-meta)
