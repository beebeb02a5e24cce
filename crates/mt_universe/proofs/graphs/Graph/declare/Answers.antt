use Rattle.std.proofs.Common.{◌≡◌, ℕ, ◌≤◌, ◌⊎◌, length, slice_index, sym, ap, ◌∙◌, subst, inl, inr, arith}
use Rattle.mt_term.specs.UniverseOrder.{more_paths, more_heights}
use Rattle.mt_universe.specs.Graphs.{Universes, number_or_next, named, declared}
use Rattle.mt_universe.specs.Tables.{entry}
use Rattle.mt_universe.specs.Kept.{IsKept}
use Rattle.mt_universe.proofs.GraphLaws.{too_many, few_enough, cycle_refused, declared_kept, declared_is, kept_for, kept_graph, kept_written_back, short, small}
use Rattle.mt_universe.proofs.graphs.Graph.declare.Goals as goal
use Rattle.mt_universe.proofs.graphs.Graph.declare.Goals.{then-low-ge-NAMES-via-then-low-ge-NAMES, then-low-ge-NAMES-via-else-low-ge-NAMES+then-high-ge-NAMES}

pub returns-then-low-ge-NAMES-clause-cause : goal.returns-then-low-ge-NAMES-clause-cause
returns-then-low-ge-NAMES-clause-cause c =
    let g = c.args.self.now in
    let ns : c.deref.result.now ≡ g.names = c.deref.ensures.value ∙ ap (λ (x : Universes). x.names) c.self.view_is in
    let low : c.numbers-low.result.0 ≡ number_or_next g.names c.args.a = c.numbers-low.ensures.first ∙ ap (λ xs. number_or_next xs c.args.a) ns in
    let high : c.numbers-low.result.1 ≡ number_or_next (named g.names c.args.a) c.args.b = c.numbers-low.ensures.second ∙ ap (λ xs. number_or_next (named xs c.args.a) c.args.b) ns in
    let which : (256 ≤ number_or_next g.names c.args.a) ⊎ (256 ≤ number_or_next (named g.names c.args.a) c.args.b) = elim c.then-low-ge-NAMES.branch [
      | then-low-ge-NAMES-via-then-low-ge-NAMES w ↦ inl (omega arith)
      | then-low-ge-NAMES-via-else-low-ge-NAMES+then-high-ge-NAMES w ↦ inr (omega arith)
    ] in
    too_many g c.args.a c.args.b which

pub returns-then-length_of-gt0-clause-cause : goal.returns-then-length_of-gt0-clause-cause
returns-then-length_of-gt0-clause-cause c =
    let g = c.args.self.now in
    let ns : c.deref.result.now ≡ g.names = c.deref.ensures.value ∙ ap (λ (x : Universes). x.names) c.self.view_is in
    let low : c.numbers-low.result.0 ≡ number_or_next g.names c.args.a = c.numbers-low.ensures.first ∙ ap (λ xs. number_or_next xs c.args.a) ns in
    let high : c.numbers-low.result.1 ≡ number_or_next (named g.names c.args.a) c.args.b = c.numbers-low.ensures.second ∙ ap (λ xs. number_or_next (named xs c.args.a) c.args.b) ns in
    let before = subst (λ xs. IsKept (record { names = xs; below = c.self.inside.below.items }) c.self.inside.paths.items c.self.inside.heights.items) (sym c.deref-2.ensures.value) c.self.invariant in
    let k = kept_for _ _ _ c.args.self.now _ _ c.deref-2.ensures.value c.self.view_is (c.ready.ensures.kept c.self.inside.below.items before) in
    let path : entry c.ready.new.paths.items (number_or_next (named g.names c.args.a) c.args.b) (number_or_next g.names c.args.a) ≡ c.length_of.result =
    sym (c.length_of.ensures ∙ (λ i. entry (c.deref-3.ensures.value i) (high i) (low i))) in (
      few_enough g c.args.a c.args.b k.few (omega arith) (omega arith),
      cycle_refused g _ _ k c.args.a c.args.b (omega arith),
    )

pub extend_heights-requires-clause-short : goal.extend_heights-requires-clause-short
extend_heights-requires-clause-short c =
    let before = subst (λ xs. IsKept (record { names = xs; below = c.self.inside.below.items }) c.self.inside.paths.items c.self.inside.heights.items) (sym c.deref-2.ensures.value) c.self.invariant in
    let k = kept_for _ _ _ c.args.self.now _ _ c.deref-2.ensures.value c.self.view_is (c.ready.ensures.kept c.self.inside.below.items before) in
    λ a b. subst (λ t. entry t a b ≤ 257) (sym c.deref-4.ensures.value) (short c.args.self.now _ _ k a b)

pub extend_heights-requires-clause-small : goal.extend_heights-requires-clause-small
extend_heights-requires-clause-small c =
    let before = subst (λ xs. IsKept (record { names = xs; below = c.self.inside.below.items }) c.self.inside.paths.items c.self.inside.heights.items) (sym c.deref-2.ensures.value) c.self.invariant in
    let k = kept_for _ _ _ c.args.self.now _ _ c.deref-2.ensures.value c.self.view_is (c.ready.ensures.kept c.self.inside.below.items before) in
    λ b. subst (λ t. slice_index t b ≤ 256) (sym c.deref_mut.ensures.value) (small c.args.self.now _ _ k b)

pub extend_paths-requires-clause-short : goal.extend_paths-requires-clause-short
extend_paths-requires-clause-short c =
    let before = subst (λ xs. IsKept (record { names = xs; below = c.self.inside.below.items }) c.self.inside.paths.items c.self.inside.heights.items) (sym c.deref-2.ensures.value) c.self.invariant in
    let k = kept_for _ _ _ c.args.self.now _ _ c.deref-2.ensures.value c.self.view_is (c.ready.ensures.kept c.self.inside.below.items before) in
    λ a b. subst (λ t. entry t a b ≤ 257) (sym c.deref_mut-2.ensures.value) (short c.args.self.now _ _ k a b)

pub invariant_of-self-2 : goal.invariant_of-self-2
invariant_of-self-2 c =
    let g = c.args.self.now in
    let ns : c.deref.result.now ≡ g.names = c.deref.ensures.value ∙ ap (λ (x : Universes). x.names) c.self.view_is in
    let low : c.numbers-low.result.0 ≡ number_or_next g.names c.args.a = c.numbers-low.ensures.first ∙ ap (λ xs. number_or_next xs c.args.a) ns in
    let high : c.numbers-low.result.1 ≡ number_or_next (named g.names c.args.a) c.args.b = c.numbers-low.ensures.second ∙ ap (λ xs. number_or_next (named xs c.args.a) c.args.b) ns in
    let before = subst (λ xs. IsKept (record { names = xs; below = c.self.inside.below.items }) c.self.inside.paths.items c.self.inside.heights.items) (sym c.deref-2.ensures.value) c.self.invariant in
    let k = kept_for _ _ _ c.args.self.now _ _ c.deref-2.ensures.value c.self.view_is (c.ready.ensures.kept c.self.inside.below.items before) in
    let made = c.in_ok-ready.ensures.made c.self.inside.below.items before in
    let ps = c.extend_paths.new.paths in
    let hs = c.extend_heights.new.heights in
    let back : entry c.ready.new.paths.items (number_or_next (named g.names c.args.a) c.args.b) (number_or_next g.names c.args.a) ≡ c.length_of.result =
    sym (c.length_of.ensures ∙ (λ i. entry (c.deref-3.ensures.value i) (high i) (low i))) in
    let size : length ps ≡ 65536 = omega (arith, made.0, c.deref_mut-2.ensures.len) in
    let heights_size : length hs ≡ 256 = omega (arith, made.1, c.deref_mut.ensures.len) in
    let paths_more : (p q : ℕ) → entry ps p q ≡ more_paths (entry c.ready.new.paths.items) (number_or_next g.names c.args.a) (number_or_next (named g.names c.args.a) c.args.b) p q =
    λ p q. c.extend_paths.ensures p q ∙ (λ i. more_paths (entry (c.deref_mut-2.ensures.value i)) (low i) (high i) p q) in
    let heights_more : (q : ℕ) → slice_index hs q ≡ more_heights (entry c.ready.new.paths.items) (slice_index c.ready.new.heights.items) (number_or_next g.names c.args.a) (number_or_next (named g.names c.args.a) c.args.b) q =
    λ q. c.extend_heights.ensures q ∙ (λ i. more_heights (entry (c.deref-4.ensures.value i)) (slice_index (c.deref_mut.ensures.value i)) (low i) (high i) q) in
    let done = declared_kept g c.ready.new.paths.items c.ready.new.heights.items k c.args.a c.args.b ps hs (omega arith) (omega arith) (omega arith) size heights_size paths_more heights_more in
    let is = declared_is g c.args.a c.args.b c.add_constraint.new.names.items c.self.inside.names.items c.add_constraint.new.below.items c.self.inside.below.items c.numbers-low.result.0 c.numbers-low.result.1
    c.self.view_is c.in_ok-add_constraint.ensures.names c.in_ok-add_constraint.ensures.below low high in
    kept_written_back (declared g c.args.a c.args.b) _ _ _ ps _ hs _ is (omega (arith, c.deref_mut-2.ensures.len)) (omega (arith, c.deref_mut.ensures.len)) done

pub returns-clause-graph : goal.returns-clause-graph
returns-clause-graph c =
    let g = c.args.self.now in
    let ns : c.deref.result.now ≡ g.names = c.deref.ensures.value ∙ ap (λ (x : Universes). x.names) c.self.view_is in
    let low : c.numbers-low.result.0 ≡ number_or_next g.names c.args.a = c.numbers-low.ensures.first ∙ ap (λ xs. number_or_next xs c.args.a) ns in
    let high : c.numbers-low.result.1 ≡ number_or_next (named g.names c.args.a) c.args.b = c.numbers-low.ensures.second ∙ ap (λ xs. number_or_next (named xs c.args.a) c.args.b) ns in
    let before = subst (λ xs. IsKept (record { names = xs; below = c.self.inside.below.items }) c.self.inside.paths.items c.self.inside.heights.items) (sym c.deref-2.ensures.value) c.self.invariant in
    let k = kept_for _ _ _ c.args.self.now _ _ c.deref-2.ensures.value c.self.view_is (c.ready.ensures.kept c.self.inside.below.items before) in
    let made = c.in_ok-ready.ensures.made c.self.inside.below.items before in
    let ps = c.extend_paths.new.paths in
    let hs = c.extend_heights.new.heights in
    let back : entry c.ready.new.paths.items (number_or_next (named g.names c.args.a) c.args.b) (number_or_next g.names c.args.a) ≡ c.length_of.result =
    sym (c.length_of.ensures ∙ (λ i. entry (c.deref-3.ensures.value i) (high i) (low i))) in
    let size : length ps ≡ 65536 = omega (arith, made.0, c.deref_mut-2.ensures.len) in
    let heights_size : length hs ≡ 256 = omega (arith, made.1, c.deref_mut.ensures.len) in
    let paths_more : (p q : ℕ) → entry ps p q ≡ more_paths (entry c.ready.new.paths.items) (number_or_next g.names c.args.a) (number_or_next (named g.names c.args.a) c.args.b) p q =
    λ p q. c.extend_paths.ensures p q ∙ (λ i. more_paths (entry (c.deref_mut-2.ensures.value i)) (low i) (high i) p q) in
    let heights_more : (q : ℕ) → slice_index hs q ≡ more_heights (entry c.ready.new.paths.items) (slice_index c.ready.new.heights.items) (number_or_next g.names c.args.a) (number_or_next (named g.names c.args.a) c.args.b) q =
    λ q. c.extend_heights.ensures q ∙ (λ i. more_heights (entry (c.deref-4.ensures.value i)) (slice_index (c.deref_mut.ensures.value i)) (low i) (high i) q) in
    let done = declared_kept g c.ready.new.paths.items c.ready.new.heights.items k c.args.a c.args.b ps hs (omega arith) (omega arith) (omega arith) size heights_size paths_more heights_more in
    kept_graph (declared g c.args.a c.args.b) ps hs done
