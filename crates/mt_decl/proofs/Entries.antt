-- A sound environment with one more sound entry.
use Rattle.std.proofs.Common.{◌≡◌, ℕ, zero, suc, ◌<◌, ◌≤◌, List, [], ◌∷◌, ◌++◌, length, Some, refl, sym, ap, ◌∙◌, subst, arith}
use Rattle.std.specs.Prelude.{take, slice_get}
use Rattle.mt_term.specs.Declarations.{Declaration, Environment}
use Rattle.mt_calculus.specs.SoundEnvironment.{before, with_entry, SoundEntry, SoundEnvironment}

-- the entries before a place stay, and before the end there are all
take_more : (n : ℕ) (es : List Declaration) (d : Declaration) → n ≤ length es → take n (es ++ d ∷ []) ≡ take n es
take_more zero es d h = refl
take_more (suc n) [] d h = absurd (omega (arith, h))
take_more (suc n) (x ∷ es) d h = ap (λ l. x ∷ l) (take_more n es d (omega (arith, h)))

take_whole : (es : List Declaration) → take (length es) es ≡ es
take_whole [] = refl
take_whole (x ∷ es) = ap (λ l. x ∷ l) (take_whole es)

-- an entry of a list with one more was there, or is the new one at the end
place_more : (P : ℕ → Declaration → Type 0) (es : List Declaration) (d : Declaration) → P (length es) d → ((n : ℕ) (x : Declaration) → n < length es → slice_get es n ≡ Some x → P n x) → (n : ℕ) (x : Declaration) → slice_get (es ++ d ∷ []) n ≡ Some x → P n x
place_more P [] d p all zero x is = let same : d ≡ x = cc in subst (P 0) same p
place_more P [] d p all (suc n) x is = let no : ⊥ = cc in absurd no
place_more P (y ∷ es) d p all zero x is = all zero x (omega arith) is
place_more P (y ∷ es) d p all (suc n) x is = place_more (λ m. P (suc m)) es d p (λ m z l h. all (suc m) z (omega (arith, l)) h) n x is

-- the environment's entries replaced
abbrev of_entries : Environment → List Declaration → Environment
of_entries E es = record { entries = es; names = E.names; below = E.below }

pub sound_with : (E : Environment) → SoundEnvironment E → (d : Declaration) → SoundEntry E (length E.entries) d → SoundEnvironment (with_entry E d)
sound_with E sound d new = record {
  satisfiable = sound.satisfiable;
  entries = place_more (λ n x. SoundEntry (before (with_entry E d) n) n x) E.entries d
      (subst (λ l. SoundEntry (of_entries E l) (length E.entries) d) (sym (take_more (length E.entries) E.entries d (omega arith) ∙ take_whole E.entries)) new)
      (λ n x l is. subst (λ l. SoundEntry (of_entries E l) n x) (sym (take_more n E.entries d (omega (arith, l)))) (sound.entries n x is));
}
