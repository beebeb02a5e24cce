-- The laws of weak heads, comparison and inference over derivations, proved.
use Rattle.std.specs.Prelude.{◌≡◌, refl, ℕ, List, [], true, false, Option, Some, None}
use Rattle.mt_term.specs.Trees.{Tree, Sort}
use Rattle.mt_term.specs.Declarations.{Hypothesis, Environment}
use Rattle.mt_term.specs.declared.universes.Sort.{Sort as AnySort}
use Rattle.mt_term.specs.declared.modes.Mode.{Mode}
use Rattle.mt_term.specs.declared.modes.Mode.TheVariants.{Equal, AtMost as InOrder}
use Rattle.mt_term.specs.Stores.{Declared, Store, no_store, Owned, AllMetas, AllMetasHeld, InStore, MentionsHeld, onward, Below}
use Rattle.mt_calculus.specs.Conversion.{AtMost}
use Rattle.mt_calculus.specs.Typing.{IsContext, IsType, Has, Holds, c_empty, t_sub, k_sort}
use Rattle.mt_calculus.specs.SoundEnvironment.{SoundEnvironment}
use Rattle.mt_calculus.specs.SoundStore.{SoundStore, Part}
use Rattle.mt_rules.specs.Inference.{infer, context_types, agrees}
use Rattle.mt_rules.specs.KernelCheck.{check_type, check}
use Rattle.mt_rules_laws.specs.ReductionLaws.{ReachedFrom, itself, further, Compared, WeakHeadLaw, StepLaw, NormalFormLaw, ComparisonLaw, InferenceLaw, StrictInferenceLaw, TypeCheckLaw, CheckLaw}
use Rattle.mt_calculus_laws.proofs.Images.{is_some_at}
use Rattle.mt_term.proofs.Options.{none_some}
use Rattle.mt_calculus_laws.proofs.Steps.{Reduces, done, more}
use Rattle.mt_calculus_laws.proofs.Plain.{plain}
use Rattle.mt_calculus_laws.proofs.Renames.{larger_store}
use Rattle.mt_calculus_laws.proofs.EnvironmentLaws.{plain_entries, closed_environment}
use Rattle.mt_term.proofs.ReachLaws.{all_of_term, all_of_held, held_of_all}
use Rattle.mt_calculus_laws.proofs.MetaLaws.{any_metas, any_metas_of, plain_metas_of}
use Rattle.mt_rules_laws.proofs.Yields.{Yields, then_yields, so_yields}
use Rattle.mt_rules_laws.proofs.WeakHeadSoundness.{any_bodies, whd_yields, step_yields, normal_yields}
use Rattle.mt_rules_laws.proofs.ComparisonSoundness.{Fit, convert_yields}
use Rattle.mt_rules_laws.proofs.InferenceSoundness.{Is, infer_yields, sorted_yields, fit_yields}

-- each number
abbrev Any : ℕ → Type 0
Any n = Unit {0}

-- none
abbrev No : ℕ → Type 0
No n = ⊥

after : {E : Environment} {S : Store} {t u v : Tree} → ReachedFrom E S t u → Reduces E S u v → ReachedFrom E S t v
after h done = h
after h (more c r) = after (further h c) r

any_held : (d : Declared) → AllMetasHeld Any d
any_held d = record { context = any_metas_of Any (λ n. tt) d.context; ty = any_metas Any (λ n. tt) d.ty; body = λ b e. any_metas Any (λ n. tt) b }

pub weak_head_law : WeakHeadLaw
weak_head_law E S t u n l e = after itself (whd_yields E S S Any (any_bodies E Any (λ n. tt)) (λ n p. refl) (λ n d p e. any_held d) t (any_metas Any (λ n. tt) t) n u l e).0

pub step_law : StepLaw
step_law E S t u n l e = after itself (step_yields E S S Any (any_bodies E Any (λ n. tt)) (λ n p. refl) (λ n d p e. any_held d) t (any_metas Any (λ n. tt) t) n (Some u) l e).0

pub normal_form_law : NormalFormLaw
normal_form_law E S t u n l e = after itself (normal_yields E S S Any (any_bodies E Any (λ n. tt)) (λ n p. refl) (λ n d p e. any_held d) t (any_metas Any (λ n. tt) t) n u l e).0

compared_of : (E : Environment) (S : Store) (mode : Mode) (t u : Tree) → Fit E S mode t u → Compared E S mode t u
compared_of E S Equal t u h = h
compared_of E S InOrder t u h = h

pub comparison_law : ComparisonLaw
comparison_law E S mode t u n l e =
    compared_of E S mode t u (convert_yields E S S Any (any_bodies E Any (λ n. tt)) (λ n p. refl) (λ n d p e. any_held d) mode t u (any_metas Any (λ n. tt) t) (any_metas Any (λ n. tt) u) n true l e refl)

-- the part of a store that is below a metavariable mentions its own metavariables alone
part_owned : (S part : Store) (d : Declared) → Owned S → Part S (Below S d) part → Owned part
part_owned S part d own p n c e = all_of_held (InStore part) c go
  where
    here : (m : ℕ) → Below S d m → (o : Option Declared) → S.at m ≡ o → InStore S m → InStore part m
    here m b None g h = absurd (h g)
    here m b (Some a) g h = is_some_at (p.all m a b g)

    go : (m : ℕ) → MentionsHeld m c → InStore part m
    go m h =
        let q = p.held n c e in
        here m (onward q.0 q.1 h) (S.at m) refl (held_of_all (InStore S) m c (own n c q.1) h)

-- in a sound store contexts are contexts, and types are types in them
pub sound_typed : (E : Environment) → SoundEnvironment E → (S : Store) → SoundStore E S → (n : ℕ) (d : Declared) → S.at n ≡ Some d → Holds E true S (d.context) IsContext × Holds E true S (d.context) (IsType (d.ty))
sound_typed E sound S stored n d e =
    let m = stored.metavariables n d e in
    let own = part_owned S m.part d stored.owned m.is_part in
    let keeps : (k : ℕ) (c : Declared) → m.part.at k ≡ Some c → S.at k ≡ Some c = λ k c g. (m.is_part.held k c g).1 in
    let closed = closed_environment E sound in
    (larger_store E true closed m.part S own keeps (d.context) IsContext m.context, larger_store E true closed m.part S own keeps (d.context) (IsType (d.ty)) m.ty)

pub inference_law : InferenceLaw
inference_law E sound S stored Γ t u n l c e =
    (infer_yields E sound true S S Any (λ n p. refl) (λ n d p e. any_held d) stored.owned (λ n d p e. sound_typed E sound S stored n d e) Γ t c (any_metas_of Any (λ n. tt) (context_types Γ)) (any_metas Any (λ n. tt) t) n u l e).0

none_owned : Owned no_store
none_owned n d e = absurd (none_some e)

strict_yields : (E : Environment) (sound : SoundEnvironment E) (S : Store) (Γ : List Hypothesis) (t : Tree) → Holds E false no_store (context_types Γ) IsContext → AllMetas No t → Yields (infer E S Γ t) (Is E sound false S no_store No (λ n p. absurd p) (λ n d p e. absurd p) none_owned (λ n d p e. absurd p) Γ t)
strict_yields E sound S Γ t c p =
    infer_yields E sound false S no_store No (λ n p. absurd p) (λ n d p e. absurd p) none_owned (λ n d p e. absurd p) Γ t c (plain_metas_of No (context_types Γ) (plain E (plain_entries E sound) (λ n. refl) c)) p

pub strict_inference_law : StrictInferenceLaw
strict_inference_law E sound S Γ t u n l c free e = (strict_yields E sound S Γ t c (all_of_term No t free) n u l e).0

module _ (E : Environment) (sound : SoundEnvironment E) where
  type_yields : (ty : Tree) → AllMetas No ty → Yields (check_type E ty) (λ s. Holds E false no_store [] (Has ty (Sort s)))
  unfolding check_type
  type_yields ty p = sorted_yields E sound false no_store no_store No (λ n p. absurd p) (λ n d p e. absurd p) none_owned (λ n d p e. absurd p) [] ty (infer E no_store [] ty) (strict_yields E sound no_store [] ty c_empty p)

  abbrev Checked : Tree → Tree → Unit {0} → Type 0
  Checked term ty z = (s : AnySort) × Holds E false no_store [] (Has ty (Sort s)) × Holds E false no_store [] (Has term ty)

  check_yields : (term ty : Tree) → AllMetas No term → AllMetas No ty → Yields (check E term ty) (Checked term ty)
  unfolding check
  check_yields term ty p q =
      then_yields (λ s. Holds E false no_store [] (Has ty (Sort s))) (Checked term ty) (check_type E ty) _ (type_yields ty q) (λ s hs.
      then_yields (Is E sound false no_store no_store No (λ n p. absurd p) (λ n d p e. absurd p) none_owned (λ n d p e. absurd p) [] term) (Checked term ty) (infer E no_store [] term) _ (strict_yields E sound no_store [] term c_empty p) (λ t ht.
      so_yields (λ z. AtMost E no_store t ty) (Checked term ty) (agrees E no_store [] InOrder t ty) (λ z le. (s, hs, t_sub ht.0 le (k_sort hs)))
      (fit_yields E sound false no_store no_store No (λ n p. absurd p) (λ n d p e. absurd p) none_owned (λ n d p e. absurd p) [] InOrder t ty ht.1 q)))

pub type_check_law : TypeCheckLaw
type_check_law E sound ty s n l free e = type_yields E sound ty (all_of_term No ty free) n s l e

pub check_law : CheckLaw
check_law E sound term ty z n l free free' e = check_yields E sound term ty (all_of_term No term free) (all_of_term No ty free') n z l e
