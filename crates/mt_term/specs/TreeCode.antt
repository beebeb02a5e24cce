-- Trees may stand in what contracts see of a value: each is stored as a term of the program.
use Rattle.std.specs.Prelude.{◌≡◌, refl}
use Rattle.std.proofs.Common.{Box, Global}
use Rattle.std.specs.Coded.{Coded, code_by}
use Rattle.mt_term.specs.Trees.{Tree, Trees, Arms, Var, Sort, Prod, Lam, App, Const, Ind, Con}
use Rattle.mt_term.specs.Trees.{Match, Meta, End, Item, NoArm, Arm}
use Rattle.mt_term.specs.TreeOf.{tree_of, trees_of, arms_of}
use Rattle.mt_term.specs.declared.terms.Term.{Term, Var as TermVar, Sort as TermSort, Prod', Lam'}
use Rattle.mt_term.specs.declared.terms.Term.{App', Const as TermConst, Ind as TermInd}
use Rattle.mt_term.specs.declared.terms.Term.{Con as TermCon, Match', Meta as TermMeta}
use Rattle.mt_term.specs.declared.terms.Terms.{Terms, End as TermsEnd, Item'}
use Rattle.mt_term.specs.declared.terms.Branches.{Branches, End as NoBranch, Item' as Branch'}
use Rattle.mt_term.specs.contracts.terms.Term as term
use denote.RawPtr.{null_ptr}

abbrev nowhere : Box (Unit {0}) Global
nowhere = record { value = tt; ptr = null_ptr; alloc = record { memory = record { seal = tt } } }

-- a term of the program that says the tree
abbrev mutual
  pub term_in : Tree → Term
  term_in (Var i) = TermVar i
  term_in (Sort s) = TermSort s
  term_in (Prod x a b) = Prod' x nowhere (term_in a) nowhere (term_in b)
  term_in (Lam x a b) = Lam' x nowhere (term_in a) nowhere (term_in b)
  term_in (App f a) = App' nowhere (term_in f) nowhere (term_in a)
  term_in (Const n) = TermConst n
  term_in (Ind n) = TermInd n
  term_in (Con n k) = TermCon n k
  term_in (Match n r c bs) = Match' n nowhere (term_in r) nowhere (term_in c) (branches_in bs)
  term_in (Meta n s) = TermMeta n (terms_in s)

  pub terms_in : Trees → Terms
  terms_in End = TermsEnd
  terms_in (Item t ts) = Item' nowhere (term_in t) nowhere (terms_in ts)

  pub branches_in : Arms → Branches
  branches_in NoArm = NoBranch
  branches_in (Arm names body bs) = Branch' nowhere names (term_in body) nowhere (branches_in bs)

mutual
  pub says_tree : (t : Tree) → tree_of (term_in t) ≡ t
  says_tree (Var i) = refl
  says_tree (Sort s) = refl
  says_tree (Prod x a b) = λ i. Prod x (says_tree a i) (says_tree b i)
  says_tree (Lam x a b) = λ i. Lam x (says_tree a i) (says_tree b i)
  says_tree (App f a) = λ i. App (says_tree f i) (says_tree a i)
  says_tree (Const n) = refl
  says_tree (Ind n) = refl
  says_tree (Con n k) = refl
  says_tree (Match n r c bs) = λ i. Match n (says_tree r i) (says_tree c i) (says_arms bs i)
  says_tree (Meta n s) = λ i. Meta n (says_trees s i)

  pub says_trees : (ts : Trees) → trees_of (terms_in ts) ≡ ts
  says_trees End = refl
  says_trees (Item t ts) = λ i. Item (says_tree t i) (says_trees ts i)

  pub says_arms : (bs : Arms) → arms_of (branches_in bs) ≡ bs
  says_arms NoArm = refl
  says_arms (Arm names body bs) = λ i. Arm names (says_tree body i) (says_arms bs i)

abbrev pub tree_code : Coded Tree
tree_code = code_by Term term.the_row.coded term_in tree_of says_tree
