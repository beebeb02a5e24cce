-- How what the resolver's calls answer agrees with the definitions.
use Rattle.std.specs.Prelude.{◌≡◌, Result, MatchResult}
use Rattle.mt_term.specs.ReasonOf.{reason_of}
use Rattle.mt_term.specs.declared.refusals.Halt.{Halt}
use Rattle.mt_term.specs.declared.refusals.Halt.TheVariants as halt
use Rattle.mt_resolver.specs.Resolution.{Resolution, Found, Faults}

-- a call halted as the resolution does, or for want of memory
abbrev pub HaltsAs : {A : Type 0} → Resolution A → Halt → Type 0
HaltsAs r (halt.Refused fault) = r ≡ Faults (reason_of fault.refusal) fault.at
HaltsAs r halt.Spent = ⊥
HaltsAs r halt.OutOfMemory = Unit {0}

-- a call found what the resolution does, or memory was wanting
abbrev pub Resolves : {T A : Type 0} → (T → A) → Resolution A → Result T Halt → Type 0
Resolves view r result = MatchResult result (λ t. r ≡ Found (view t)) (HaltsAs r)
