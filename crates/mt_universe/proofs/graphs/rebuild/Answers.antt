use Rattle.std.proofs.Common.{ℕ, ◌<◌, length, get_or, take, slice_index, arith}
use Rattle.std.proofs.lemmas.List.{take_more}
use Rattle.std.proofs.lemmas.List.Elements.{All-take}
use Rattle.mt_universe.specs.Tables.{entry}
use Rattle.mt_universe.proofs.OrderLaws.{short_paths, small_heights}
use Rattle.mt_universe.proofs.GraphLaws.{no_way_back, longest_more}
use Rattle.mt_universe.proofs.graphs.rebuild.Goals as goal

pub extend_heights-requires-clause-short : goal.extend_heights-requires-clause-short
extend_heights-requires-clause-short c =
    let cs = c.args.below.now in
    let i = c.loop-low.low-index in
    let v = c.loop-low.invariant in
    let part = All-take (λ (p : ℕ × ℕ). (p.0 < 256) × (p.1 < 256)) i cs c.requires.within in
    λ a b. short_paths 256 (take i cs) (entry c.loop-low.paths) (slice_index c.loop-low.heights) v.longest part a b

pub extend_heights-requires-clause-small : goal.extend_heights-requires-clause-small
extend_heights-requires-clause-small c =
    let cs = c.args.below.now in
    let i = c.loop-low.low-index in
    let v = c.loop-low.invariant in
    let part = All-take (λ (p : ℕ × ℕ). (p.0 < 256) × (p.1 < 256)) i cs c.requires.within in
    λ b. small_heights 256 (take i cs) (entry c.loop-low.paths) (slice_index c.loop-low.heights) v.longest part b

pub extend_paths-requires-clause-short : goal.extend_paths-requires-clause-short
extend_paths-requires-clause-short c =
    let cs = c.args.below.now in
    let i = c.loop-low.low-index in
    let v = c.loop-low.invariant in
    let part = All-take (λ (p : ℕ × ℕ). (p.0 < 256) × (p.1 < 256)) i cs c.requires.within in
    λ a b. short_paths 256 (take i cs) (entry c.loop-low.paths) (slice_index c.loop-low.heights) v.longest part a b

pub extend_paths-requires-clause-back : goal.extend_paths-requires-clause-back
extend_paths-requires-clause-back c =
    let cs = c.args.below.now in
    let i = c.loop-low.low-index in
    let v = c.loop-low.invariant in
    let lt : i < length cs = omega arith in
    let low = (get_or cs i (0, 0)).0 in
    let high = (get_or cs i (0, 0)).1 in
    let is = take_more cs i (0, 0) lt in
    no_way_back cs i low high (entry c.loop-low.paths) (slice_index c.loop-low.heights) lt is v.longest c.requires.satisfiable

pub loop-low-preserved : goal.loop-low-preserved
loop-low-preserved c =
    let cs = c.args.below.now in
    let i = c.loop-low.low-index in
    let v = c.loop-low.invariant in
    let lt : i < length cs = omega arith in
    let low = (get_or cs i (0, 0)).0 in
    let high = (get_or cs i (0, 0)).1 in
    let is = take_more cs i (0, 0) lt in
    record {
      paths_made = omega arith;
      heights_made = omega arith;
      longest = longest_more cs i low high (entry c.loop-low.paths) (slice_index c.loop-low.heights) lt is v.longest c.requires.satisfiable
          (entry c.extend_paths.new.paths) (slice_index c.extend_heights.new.heights) c.extend_paths.ensures c.extend_heights.ensures;
    }
