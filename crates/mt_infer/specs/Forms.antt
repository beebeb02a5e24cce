-- A term as a sort, and as a product.
use Rattle.std.specs.Prelude.{ℕ, ◌<◌, List, Option, Some, None}
use Rattle.mt_term.specs.Trees.{Tree, Sort, Prod}
use Rattle.mt_term.specs.declared.universes.Sort.{Sort as AnySort}
use Rattle.mt_rules.specs.Inference.{Product}
use Rattle.mt_pool.specs.Region.{tree_at}
use Rattle.mt_infer.specs.declared.expected.HeldProduct.{HeldProduct}

abbrev pub sort_in : Tree → Option AnySort
sort_in (Sort s) = Some s
sort_in _ = None

abbrev pub product_in : Tree → Option Product
product_in (Prod x a b) = Some (record { name = x; dom = a; cod = b })
product_in _ = None

-- the product that is held
abbrev pub held : List Tree → HeldProduct → Product
held p k = record { name = k.name; dom = tree_at p k.domain; cod = tree_at p k.codomain }

abbrev pub held_in : List Tree → Option HeldProduct → Option Product
held_in p None = None
held_in p (Some k) = Some (held p k)

abbrev pub ProductBelow : ℕ → HeldProduct → Type 0
ProductBelow n k = (k.domain.at < n) × (k.codomain.at < n)

abbrev pub ProductInBelow : ℕ → Option HeldProduct → Type 0
ProductInBelow n None = Unit {0}
ProductInBelow n (Some k) = ProductBelow n k
