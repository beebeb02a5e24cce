use Rattle.std.proofs.Common.{[], ◌∷◌, subst, OnOk}
use Rattle.indexmap.proofs.MapLemmas.{OnOk-map}
use Rattle.mt_pool.specs.Region.{branches_of}
use Rattle.mt_store.specs.Search.{bodies_of, Adds}
use Rattle.mt_pool.specs.declared.nodes.BranchIds.{BranchIds}
use Rattle.mt_store.proofs.AddLaws.{adds_then}
use Rattle.mt_store.proofs.found.Found.+insert_bodies.Goals as goal

pub returns-in_ok-insert-in-Item : goal.returns-in_ok-insert-in-Item
returns-in_ok-insert-in-Item t c =
    let mid = c.insert.new.self in
    let new = c.insert_bodies.new.self in
    let rest = bodies_of (branches_of c.in-Item.branches.value) in
    rw c.in-Item.is
    (OnOk-map c.insert_bodies.result (Adds mid new rest) (Adds c.args.self.now new (c.in-Item.body ∷ rest))
    (λ a. adds_then c.args.self.now mid new (c.in-Item.body ∷ []) rest c.in_ok-insert-in-Item.ensures a)
    (subst (λ (x : BranchIds). OnOk c.insert_bodies.result (Adds mid new (bodies_of (branches_of x)))) c.deref.ensures c.insert_bodies.ensures))
