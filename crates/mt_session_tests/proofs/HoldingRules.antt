-- Environments in a pool, with one more entry.
use Rattle.std.specs.Prelude.{ℕ, ◌≡◌, List, [], ◌∷◌, ◌++◌, length}
use Rattle.std.proofs.Common.{◌∙◌, ap, sym, subst}
use Rattle.mt_term.specs.Trees.{Tree}
use Rattle.mt_term.specs.Declarations.{Declaration, Environment}
use Rattle.mt_term.specs.Naming.{Naming}
use Rattle.mt_calculus.specs.SoundEnvironment.{with_entry}
use Rattle.mt_pool.specs.Region.{Kept}
use Rattle.mt_pool.specs.declared.held.Held.{Held}
use Rattle.mt_pool.specs.HeldOf.{declaration_in, HeldBelow}
use Rattle.mt_env.specs.Environments.{HeldEnvironment, environment_in, EntriesBelow, IsAdded}
use Rattle.mt_env.proofs.NamingLaws.{map_append}
use Rattle.mt_resolver.specs.TableOf.{AreNamesOf}
use Rattle.mt_guard.proofs.Growing.{entries-below, environment-kept}

below_last : (n : ℕ) (es : List Held) (h : Held) → EntriesBelow n es → HeldBelow n h → EntriesBelow n (es ++ h ∷ [])
below_last n [] h all one = (one, tt)
below_last n (e ∷ es) h all one = (all.0, below_last n es h all.1 one)

module _ (old new : HeldEnvironment) (p q : List Tree) (d : Declaration) where
  pub added-below : Kept p q → EntriesBelow (length p) old.entries → IsAdded old new q d → EntriesBelow (length q) new.entries
  added-below k below added =
      subst (λ (e : HeldEnvironment). EntriesBelow (length q) e.entries) (sym added.1)
      (below_last (length q) old.entries added.0 (entries-below p q old.entries k below) added.2)

  said : Kept p q → EntriesBelow (length p) old.entries → IsAdded old new q d → environment_in q new ≡ with_entry (environment_in p old) d
  said k below added =
      ap (environment_in q) added.1
      ∙ ap (λ (es : List Declaration). record { entries = es; names = old.graph.names; below = old.graph.below }) (map_append (declaration_in q) old.entries (added.0 ∷ []))
      ∙ ap (λ (E : Environment). with_entry E (declaration_in q added.0)) (environment-kept p q old k below)
      ∙ ap (with_entry (environment_in p old)) added.3

  pub added-said : (E E' : Environment) → Kept p q → EntriesBelow (length p) old.entries → IsAdded old new q d → environment_in p old ≡ E → E' ≡ with_entry E d → environment_in q new ≡ E'
  added-said E E' k below added same e = said k below added ∙ ap (λ (F : Environment). with_entry F d) same ∙ sym e

-- and as the pool alone grows
pub still-said : (p q : List Tree) (old : HeldEnvironment) (E E' : Environment) → Kept p q → EntriesBelow (length p) old.entries → environment_in p old ≡ E → E' ≡ E → environment_in q old ≡ E'
still-said p q old E E' k below same e = environment-kept p q old k below ∙ same ∙ sym e

pub names-stay : (T T' : Naming) (E E' : Environment) → T' ≡ T → E' ≡ E → AreNamesOf T E.entries → AreNamesOf T' E'.entries
names-stay T T' E E' t e names = subst (λ (F : Environment). AreNamesOf T' F.entries) (sym e) (subst (λ (S : Naming). AreNamesOf S E.entries) (sym t) names)

pub ruleset holding_rules = (still-said, names-stay, entries-below)
