use Rattle.std.proofs.Common.{[], ◌∷◌, List, refl, sym, ◌∙◌, subst}
use Rattle.mt_pool.specs.declared.nodes.TermId.{TermId}
use Rattle.mt_store.specs.Search.{Adds}
use Rattle.mt_store.proofs.SearchLaws.{search_starts, search_held, search_found, search_next, search_ends}
use Rattle.mt_store.proofs.stores.Store.reaches.Goals as goal

pub search-init : goal.search-init
search-init c =
    search_starts c.args.self.now c.args.pool.now c.args.t c.args.n c.insert.new.self c.requires.t
    (subst (λ (ks : List TermId). Adds ks c.insert.new.self (c.args.t ∷ [])) c.new-found.ensures c.in_ok-insert.ensures)

pub node-requires : goal.node-requires
node-requires c =
    search_held c.args.self.now c.args.pool.now c.args.t c.args.n c.search.at c.search.found c.search.invariant c.in-Some.id (sym c.in-Some.ensures.is)

pub returns-clause-reaches : goal.returns-clause-reaches
returns-clause-reaches c =
    let ends = search_ends c.args.self.now c.args.pool.now c.args.t c.args.n c.search.at c.search.found c.search.invariant (sym c.in_default.ensures.is) in
    (λ e. absurd cc, λ r. absurd (ends r))

pub returns-then-branch-clause-reaches : goal.returns-then-branch-clause-reaches
returns-then-branch-clause-reaches c =
    let found = search_found c.args.self.now c.args.pool.now c.args.t c.args.n c.search.at c.search.found c.search.invariant c.in-Some.id (sym c.in-Some.ensures.is)
    c.node.result.now c.node.ensures.tree (sym c.in_ok-expand.ensures.is ∙ c.if-branch.true) in
    (λ e. found, λ r. refl)

pub search-preserved : goal.search-preserved
search-preserved c =
    search_next c.args.self.now c.args.pool.now c.args.t c.args.n c.search.at c.search.found c.search.invariant c.in-Some.id (sym c.in-Some.ensures.is)
    c.node.result.now c.node.ensures.tree c.expand.new.found c.requires.held c.node.ensures.below (sym c.in_ok-expand.ensures.is ∙ c.if-branch.false) (c.in_ok-expand.ensures.adds c.if-branch.false)
