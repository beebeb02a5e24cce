-- A term as a sort, and as a product.
use Rattle.std.specs.Prelude.{Option, Some, None}
use Rattle.mt_term.specs.Trees.{Tree, Sort, Prod}
use Rattle.mt_term.specs.declared.universes.Sort.{Sort as AnySort}
use Rattle.mt_rules.specs.Inference.{Product}
use Rattle.mt_term.specs.TreeOf.{tree_of}
use Rattle.mt_kernel.specs.declared.expected.Product.{Product as Held}

abbrev pub sort_in : Tree → Option AnySort
sort_in (Sort s) = Some s
sort_in _ = None

abbrev pub product_in : Tree → Option Product
product_in (Prod x a b) = Some (record { name = x; dom = a; cod = b })
product_in _ = None

-- the product that the program holds
abbrev pub held : Held → Product
held p = record { name = p.name; dom = tree_of p.domain.value; cod = tree_of p.codomain.value }

abbrev pub held_in : Option Held → Option Product
held_in None = None
held_in (Some p) = Some (held p)
