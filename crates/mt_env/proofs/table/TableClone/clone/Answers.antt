use Rattle.std.proofs.Common.{◌≡◌, ◌∙◌, List, [], ◌∷◌, map, refl, ℕ, Vec, Global}
use Rattle.std.specs.List.{AllZip, each_same}
use Rattle.mt_env.specs.declared.refs.Ref.{Ref}
use Rattle.mt_term.specs.Trees.{Tree, Bytes}
use Rattle.mt_env.specs.Names.{term_of}
use Rattle.mt_env.proofs.table.TableClone.clone.Goals as goal

-- what cannot be told from each clone cannot be told from all of them
clones_alike : {A B : Type 0} (R : A → A → Type 0) (f : A → B) → ((x y : A) → R x y → f y ≡ f x) → (xs ys : List A) → AllZip R xs ys → map f ys ≡ map f xs
clones_alike R f same [] [] h = refl
clones_alike R f same [] (y ∷ ys) h = absurd h
clones_alike R f same (x ∷ xs) [] h = absurd h
clones_alike R f same (x ∷ xs) (y ∷ ys) h = λ i. same x y h.0 i ∷ clones_alike R f same xs ys h.1 i

pub returns : goal.returns
returns c =
    let seen : Vec ℕ Global × Ref → Bytes × Tree = λ e. (e.0.items, term_of e.1) in
    clones_alike _ seen (λ x y h i. (each_same x.0.items y.0.items h.0.0 i, term_of (h.1 i)))
    c.self.inside.refs.entries c.in_ok-clone.field-0.entries c.in_ok-clone.ensures.cases
    ∙ c.self.view_is
