use Rattle.std.proofs.Common.{[], ◌∷◌, subst, OnOk}
use Rattle.indexmap.proofs.MapLemmas.{OnOk-map}
use Rattle.mt_pool.specs.Region.{ids_of}
use Rattle.mt_pool.specs.declared.nodes.TermIds.{TermIds}
use Rattle.mt_store.specs.Search.{Adds}
use Rattle.mt_store.proofs.AddLaws.{adds_then}
use Rattle.mt_store.proofs.found.Found.+insert_terms.Goals as goal

pub returns-in_ok-insert-in-Item : goal.returns-in_ok-insert-in-Item
returns-in_ok-insert-in-Item t c =
    let mid = c.insert.new.self in
    let new = c.insert_terms.new.self in
    let rest = ids_of c.in-Item.ids.value in
    rw c.in-Item.is
    (OnOk-map c.insert_terms.result (Adds mid new rest) (Adds c.args.self.now new (c.in-Item.id ∷ rest))
    (λ a. adds_then c.args.self.now mid new (c.in-Item.id ∷ []) rest c.in_ok-insert-in-Item.ensures a)
    (subst (λ (x : TermIds). OnOk c.insert_terms.result (Adds mid new (ids_of x))) c.deref.ensures c.insert_terms.ensures))
