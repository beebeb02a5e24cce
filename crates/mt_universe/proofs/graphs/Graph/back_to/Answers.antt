use Rattle.std.proofs.Common.{◌≡◌, ℕ, ◌<◌, length, take, slice_index, sym, ap, ◌∙◌, subst, arith}
use Rattle.std.proofs.lemmas.List.Elements.{All-same, All-take}
use Rattle.mt_term.specs.UniverseOrder.{AreLongest}
use Rattle.mt_term.specs.Universes.{Satisfiable}
use Rattle.mt_universe.specs.Graphs.{Universes, named_in, as_at}
use Rattle.mt_universe.specs.Tables.{entry}
use Rattle.mt_universe.proofs.GraphLaws.{within, kept_graph, names_where_below, as_at_kept, kept_written_back}
use Rattle.mt_universe.proofs.graphs.Graph.back_to.Goals as goal

pub named_in-kept-requires : goal.named_in-kept-requires
named_in-kept-requires c =
    let g : Universes = record { names = c.self.inside.names.items; below = c.self.inside.below.items } in
    let k = c.self.invariant in
    All-same (λ (p : ℕ × ℕ). (p.0 < 256) × (p.1 < 256)) _ (take c.args.count g.below) (c.deref.ensures.value ∙ c.truncate.ensures.items)
    (All-take (λ (p : ℕ × ℕ). (p.0 < 256) × (p.1 < 256)) c.args.count g.below (within g _ _ k))

pub rebuild-requires-clause-paths : goal.rebuild-requires-clause-paths
rebuild-requires-clause-paths c =
    let g : Universes = record { names = c.self.inside.names.items; below = c.self.inside.below.items } in
    let k = c.self.invariant in
    let e : length g.below ≡ length c.args.self.now.below = ap (λ (x : Universes). length x.below) c.self.view_is in
    let some : 0 < length g.below = omega (arith, c.len.ensures) in
    let names = names_where_below g k.numbered some in
    omega (arith, k.paths_made names, ap (λ xs. length xs) c.deref_mut.ensures.value)

pub rebuild-requires-clause-heights : goal.rebuild-requires-clause-heights
rebuild-requires-clause-heights c =
    let g : Universes = record { names = c.self.inside.names.items; below = c.self.inside.below.items } in
    let k = c.self.invariant in
    let e : length g.below ≡ length c.args.self.now.below = ap (λ (x : Universes). length x.below) c.self.view_is in
    let some : 0 < length g.below = omega (arith, c.len.ensures) in
    let names = names_where_below g k.numbered some in
    omega (arith, k.heights_made names, ap (λ xs. length xs) c.deref_mut-2.ensures.value)

pub rebuild-requires-clause-within : goal.rebuild-requires-clause-within
rebuild-requires-clause-within c =
    let g : Universes = record { names = c.self.inside.names.items; below = c.self.inside.below.items } in
    let k = c.self.invariant in
    All-same (λ (p : ℕ × ℕ). (p.0 < 256) × (p.1 < 256)) _ (take c.args.count g.below) (c.deref-2.ensures.value ∙ c.truncate.ensures.items)
    (All-take (λ (p : ℕ × ℕ). (p.0 < 256) × (p.1 < 256)) c.args.count g.below (within g _ _ k))

pub rebuild-requires-clause-satisfiable : goal.rebuild-requires-clause-satisfiable
rebuild-requires-clause-satisfiable c =
    let g : Universes = record { names = c.self.inside.names.items; below = c.self.inside.below.items } in
    let k = c.self.invariant in
    let s = (kept_graph g _ _ k).satisfiable in
    subst Satisfiable (sym (c.deref-2.ensures.value ∙ c.truncate.ensures.items))
    (s.0, All-take (λ (p : ℕ × ℕ). s.0 p.0 < s.0 p.1) c.args.count g.below s.1)

pub invariant_of-self : goal.invariant_of-self
invariant_of-self c =
    let g : Universes = record { names = c.self.inside.names.items; below = c.self.inside.below.items } in
    let k = c.self.invariant in
    let e : length g.below ≡ length c.args.self.now.below = ap (λ (x : Universes). length x.below) c.self.view_is in
    let some : 0 < length g.below = omega (arith, c.len.ensures) in
    let names = names_where_below g k.numbered some in
    let ps = c.rebuild.new.paths in
    let hs = c.rebuild.new.heights in
    let below : c.deref-2.result.now ≡ take c.args.count g.below = c.deref-2.ensures.value ∙ c.truncate.ensures.items in
    let kept : c.named_in-kept.result ≡ named_in (take c.args.count g.below) = c.named_in-kept.ensures ∙ ap named_in (c.deref.ensures.value ∙ c.truncate.ensures.items) in
    let names' : take (named_in (take c.args.count g.below)) g.names ≡ c.truncate-2.new.self.items = sym (c.truncate-2.ensures.items ∙ ap (λ n. take n g.names) kept) in
    let below' : take c.args.count g.below ≡ c.truncate.new.self.items = sym c.truncate.ensures.items in
    let is : ◌≡◌ {A = Universes} (as_at g c.args.count) (record { names = c.truncate-2.new.self.items; below = c.truncate.new.self.items }) = λ i. record { names = names' i; below = below' i } in
    let longest : AreLongest (take c.args.count g.below) (entry ps) (slice_index hs) = subst (λ cs. AreLongest cs (entry ps) (slice_index hs)) below c.rebuild.ensures in
    kept_written_back (as_at g c.args.count) _ _ _ ps _ hs _ is
    (omega (arith, c.deref_mut.ensures.len)) (omega (arith, c.deref_mut-2.ensures.len))
    (as_at_kept g _ _ k c.args.count ps hs (omega (arith, k.paths_made names, c.deref_mut.ensures.len, c.self.inside.paths.ok)) (omega (arith, k.heights_made names, c.deref_mut-2.ensures.len)) longest)
