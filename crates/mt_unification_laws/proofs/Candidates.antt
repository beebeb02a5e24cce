-- Candidates are hints of the list that they are taken from: what holds of each of these holds of each candidate.
use Rattle.std.specs.Prelude.{List, [], ◌∷◌, ◌++◌, if◌then◌else◌, nat_lt, Bool, true, false, Option, Some, None}
use Rattle.mt_term.specs.Trees.{Tree}
use Rattle.mt_term.specs.States.{Hint}
use Rattle.mt_unification_rules.specs.Hints.{Candidate, heads_are, picked_if, picks_of, inserted, all_inserted, picked, candidates}
use Rattle.mt_unification_laws.specs.TypedHints.{EachHint}

abbrev pub EachCandidate : (Hint → Type 0) → List Candidate → Type 0
EachCandidate P [] = Unit {0}
EachCandidate P (c ∷ cs) = P c.hint × EachCandidate P cs

module _ (P : Hint → Type 0) where
  one_inserted : (c : Candidate) (ds : List Candidate) → P c.hint → EachCandidate P ds → EachCandidate P (inserted c ds)
  one_inserted c [] g gs = (g, tt)
  one_inserted c (d ∷ ds) g gs = go (nat_lt c.hint.precedence d.hint.precedence) (one_inserted c ds g gs.1)
    where
      go : (b : Bool) → EachCandidate P (inserted c ds) → EachCandidate P (if b then c ∷ d ∷ ds else d ∷ inserted c ds)
      go true k = (g, gs)
      go false k = (gs.0, k)

  more_inserted : (cs ds : List Candidate) → EachCandidate P cs → EachCandidate P ds → EachCandidate P (all_inserted cs ds)
  more_inserted [] ds g gs = gs
  more_inserted (c ∷ cs) ds g gs = more_inserted cs (inserted c ds) g.1 (one_inserted c ds g.0 gs)

  one_picked : (b : Bool) (c : Candidate) (cs : List Candidate) → P c.hint → EachCandidate P cs → EachCandidate P (picked_if b c ++ cs)
  one_picked true c cs g gs = (g, gs)
  one_picked false c cs g gs = gs

  last_picked : (b : Bool) (c : Candidate) → P c.hint → EachCandidate P (picked_if b c)
  last_picked true c g = (g, tt)
  last_picked false c g = tt

  picked_each : (hs : List Hint) (a b : Tree) (ds : List Candidate) → EachHint P hs → EachCandidate P ds → EachCandidate P (picked hs a b ds)
  picked_each [] a b ds g gs = gs
  picked_each (h ∷ hs) a b ds g gs =
      picked_each hs a b (all_inserted (picks_of h a b) ds) g.1 (more_inserted (picks_of h a b) ds (one_picked (heads_are h a b) _ _ g.0 (last_picked (heads_are h b a) _ g.0)) gs)

  pub candidates_each : (hs : List Hint) (o p : Option Tree) → EachHint P hs → EachCandidate P (candidates hs o p)
  candidates_each hs (Some a) (Some b) g = picked_each hs a b [] g tt
  candidates_each hs (Some a) None g = tt
  candidates_each hs None p g = tt
