-- Environments that grow, and go back.
use Rattle.std.specs.Prelude.{ℕ, ◌≡◌, List, [], ◌∷◌, ◌++◌, length, take, refl}
use Rattle.std.proofs.Common.{◌∙◌, ap, sym}
use Rattle.std.proofs.lemmas.List.{append-nil}
use Rattle.std.proofs.Math.Seq.{take-append_seam}
use Rattle.mt_term.specs.Trees.{Bytes}
use Rattle.mt_term.specs.Declarations.{Declaration, Environment}
use Rattle.mt_calculus.specs.SoundEnvironment.{before}
use Rattle.mt_resolver.proofs.Tables.{Extends-cut}
use Rattle.mt_decl.specs.Growing.{Grows}

module _ (es es' : List Declaration) (ns : List Bytes) (ps : List (ℕ × ℕ)) where
  pub grows-same : es' ≡ es → Grows (record { entries = es; names = ns; below = ps }) (record { entries = es'; names = ns; below = ps })
  grows-same e = record { more = []; entries = e ∙ sym (append-nil es); names = refl; below = refl }

  pub grows-one : (d : Declaration) → es' ≡ es ++ d ∷ [] → Grows (record { entries = es; names = ns; below = ps }) (record { entries = es'; names = ns; below = ps })
  grows-one d e = record { more = d ∷ []; entries = e; names = refl; below = refl }

pub ruleset growing_rules = (grows-same, grows-one)

pub before-back : (E E' : Environment) → Grows E E' → before E' (length E.entries) ≡ E
before-back E E' g =
    ap (λ es. record { entries = take (length E.entries) es; names = E'.names; below = E'.below }) g.entries
    ∙ ap (λ es. record { entries = es; names = E'.names; below = E'.below }) (take-append_seam E.entries g.more)
    ∙ ap (λ ns. record { entries = E.entries; names = ns; below = E'.below }) g.names
    ∙ ap (λ ps. record { entries = E.entries; names = E.names; below = ps }) g.below

pub before-grown : (E E' E'' : Environment) (k : ℕ) → Grows E E' → k ≡ length E.entries → E'' ≡ before E' k → E'' ≡ E
before-grown E E' E'' k g count e = e ∙ ap (λ j. before E' j) count ∙ before-back E E' g

pub ruleset back_rules = (before-grown, Extends-cut)
