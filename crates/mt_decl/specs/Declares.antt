-- How what the calls answer agrees with the definitions.
use Rattle.std.specs.Prelude.{◌≡◌, ◌≤◌, ◌+◌, ℕ, Result, Ok, Err}
use Rattle.mt_term.specs.ReasonOf.{reason_of}
use Rattle.mt_term.specs.declared.refusals.Halt.{Halt}
use Rattle.mt_term.specs.declared.refusals.Halt.TheVariants as halt
use Rattle.mt_decl.specs.Answers.{Answer, Made, Refused, Spent}
use Rattle.mt_decl.specs.EntryLaws.{rest}

-- A call answered as the definition does, with this much left; where memory was wanting, at most
-- what the definition charges was charged.
abbrev pub Declares : {A B : Type 0} → (B → A) → Answer A → ℕ → Result B Halt → Type 0
Declares value o left (Ok b) = o ≡ Made (value b) left
Declares value o left (Err (halt.Refused f)) = o ≡ Refused (reason_of f.refusal) f.at left
Declares value o left (Err halt.Spent) = (o ≡ Spent) × (left ≡ 0)
Declares value o left (Err halt.OutOfMemory) = rest o ≤ left

-- The same of an allowance: each charge was counted once, and what was not charged is left.
abbrev pub DeclaresFrom : {A B : Type 0} → (B → A) → Answer A → ℕ → ℕ → ℕ → Result B Halt → Type 0
DeclaresFrom value o allowance before now result =
    (left : ℕ) × Declares value o left result × (now + left ≡ before + allowance)
