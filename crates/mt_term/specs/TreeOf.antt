-- The trees that the program's terms say.
use Rattle.mt_term.specs.Trees.{Tree, Trees, Arms, Var, Sort, Prod, Lam, App, Const, Ind, Con}
use Rattle.mt_term.specs.Trees.{Match, Meta, End, Item, NoArm, Arm}
use Rattle.mt_term.specs.declared.terms.Term.{Term, Var as TermVar, Sort as TermSort, Prod', Lam'}
use Rattle.mt_term.specs.declared.terms.Term.{App', Const as TermConst, Ind as TermInd}
use Rattle.mt_term.specs.declared.terms.Term.{Con as TermCon, Match', Meta as TermMeta}
use Rattle.mt_term.specs.declared.terms.Terms.{Terms, End as TermsEnd, Item'}
use Rattle.mt_term.specs.declared.terms.Branches.{Branches, End as NoBranch, Item' as Branch'}

abbrev mutual
  pub tree_of : Term → Tree
  tree_of (TermVar i) = Var i
  tree_of (TermSort s) = Sort s
  tree_of (Prod' x p a q b) = Prod x (tree_of a) (tree_of b)
  tree_of (Lam' x p a q b) = Lam x (tree_of a) (tree_of b)
  tree_of (App' p f q a) = App (tree_of f) (tree_of a)
  tree_of (TermConst n) = Const n
  tree_of (TermInd n) = Ind n
  tree_of (TermCon n k) = Con n k
  tree_of (Match' n p r q c bs) = Match n (tree_of r) (tree_of c) (arms_of bs)
  tree_of (TermMeta n s) = Meta n (trees_of s)

  pub trees_of : Terms → Trees
  trees_of TermsEnd = End
  trees_of (Item' p t q ts) = Item (tree_of t) (trees_of ts)

  pub arms_of : Branches → Arms
  arms_of NoBranch = NoArm
  arms_of (Branch' p names body q bs) = Arm names (tree_of body) (arms_of bs)
