-- Refinement meets its laws, together.
use Rattle.mt_refinement_rules.specs.Refinement.{refine}
use Rattle.mt_refinement_laws.specs.Places.{IsPlaceIn}
use Rattle.mt_refinement_laws.specs.RefinementLaws.{Refined, RefinementMeetsLaw}
use Rattle.mt_refinement_laws.proofs.MeetsRules.{meets_of}
use Rattle.mt_refinement_laws.proofs.ProperRefinement.{refinement_proper_law}
use Rattle.mt_refinement_laws.proofs.RefinementAllowance.{refinement_allowance_law}
use Rattle.mt_refinement_laws.proofs.RefinementGrowth.{refinement_growth_law}
use Rattle.mt_refinement_laws.proofs.RefinementPlaces.{refinement_place_law}
use Rattle.mt_refinement_laws.proofs.RefinementSoundness.{refinement_law}

pub refinement_meets_law : RefinementMeetsLaw
refinement_meets_law S ms Γ w o =
    meets_of (Refined S ms Γ o) (λ r at. IsPlaceIn w at) (refine S ms Γ w o) (refinement_allowance_law S ms Γ w o)
    (λ n t l e. record {
      grows = refinement_growth_law S ms Γ w o t n l e;
      proper = λ free z c h. refinement_proper_law S free ms Γ w o t n l z c h e;
      sound = λ good z c h. refinement_law S good ms Γ w o t n l z c h e;
    })
    (λ n r at l e. (refinement_place_law S ms Γ w o r n l).1 at e) (λ n r l e. (refinement_place_law S ms Γ w o r n l).0 e)
