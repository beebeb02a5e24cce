-- The value of digits.
use Rattle.std.proofs.Common.{◌≡◌, ◌<◌, ℕ, ◌+◌, ◌-◌, ◌*◌, List, [], ◌∷◌, ◌++◌, length, take, get_or, refl, ap, ◌∙◌}
use Rattle.std.proofs.lemmas.List.{take_more}
use Rattle.mt_lexer.specs.Tokens.{value_onto}

-- one more digit at the end
pub value_onto-more : (v : ℕ) (ds : List ℕ) (d : ℕ) → value_onto v (ds ++ d ∷ []) ≡ value_onto v ds * 10 + (d - 48)
value_onto-more v [] d = refl
value_onto-more v (e ∷ ds) d = value_onto-more (v * 10 + (e - 48)) ds d

pub value_onto-take : (ds : List ℕ) (i : ℕ) → i < length ds → value_onto 0 (take (i + 1) ds) ≡ value_onto 0 (take i ds) * 10 + (get_or ds i 0 - 48)
value_onto-take ds i lt = ap (value_onto 0) (take_more ds i 0 lt) ∙ value_onto-more 0 (take i ds) (get_or ds i 0)
