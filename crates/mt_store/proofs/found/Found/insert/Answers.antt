use Rattle.std.proofs.Common.{[], ◌∷◌, List, map, subst}
use Rattle.mt_pool.specs.declared.nodes.TermId.{TermId}
use Rattle.mt_store.specs.Search.{id_at, Adds}
use Rattle.mt_store.proofs.AddLaws.{adds_one}
use Rattle.mt_store.proofs.found.Found.insert.Goals as goal

pub returns : goal.returns
returns c =
    let a = adds_one c.self.inside.places.keys c.insert.new.self.keys c.args.id.at c.in_ok-insert.ensures.keys in
    subst (λ (l : List TermId). Adds l (map id_at c.insert.new.self.keys) (c.args.id ∷ [])) c.self.view_is a
