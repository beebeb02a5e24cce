-- Lists that are copied element by element.
use Rattle.std.specs.Prelude.{List, [], ◌∷◌, Option, Some, None}

-- a list for something, where it is there
abbrev pub held : {A B : Type 0} → (A → List B) → Option A → List B
held f None = []
held f (Some x) = f x

abbrev pub alone : {A : Type 0} → A → List A
alone x = x ∷ []
