use Rattle.std.proofs.Common.{length, max, min, sym, ap, ◌∙◌}
use Rattle.cu_shape.specs.Index.{axis_by_axis, differences}
use Rattle.cu_grid.specs.Counts.{chunk_lo, chunk_hi}
use Rattle.cu_codec.proofs.Shared.{ranks_of, lengths_of, shared_of, first_of}
use Rattle.cu_codec.proofs.parts.shared.Goals as goal

pub latest-first-requires : goal.latest-first-requires
latest-first-requires c =
    let r = ranks_of c.args.grid.now c.args.coord.now c.args.region.now.lo c.args.region.now.hi c.chunk_region-own.ensures.kept c.requires.coordinate c.requires.region in
    sym (ap length c.chunk_region-own.ensures.lo ∙ r.a_rank)

pub earliest-last-requires : goal.earliest-last-requires
earliest-last-requires c =
    let r = ranks_of c.args.grid.now c.args.coord.now c.args.region.now.lo c.args.region.now.hi c.chunk_region-own.ensures.kept c.requires.coordinate c.requires.region in
    r.hi_rank ∙ sym (ap length c.chunk_region-own.ensures.hi ∙ r.b_rank)

pub difference-requires : goal.difference-requires
difference-requires c =
    let r = ranks_of c.args.grid.now c.args.coord.now c.args.region.now.lo c.args.region.now.hi c.chunk_region-own.ensures.kept c.requires.coordinate c.requires.region in
    let l = lengths_of _ _ _ _ r in
    ap length (c.latest-first.ensures ∙ ap (λ x. axis_by_axis max x c.args.region.now.lo) c.chunk_region-own.ensures.lo) ∙ l.first
    ∙ sym (ap length (c.earliest-last.ensures ∙ ap (λ x. axis_by_axis min x c.args.region.now.hi) c.chunk_region-own.ensures.hi) ∙ l.last)

pub difference-requires-2 : goal.difference-requires-2
difference-requires-2 c =
    let r = ranks_of c.args.grid.now c.args.coord.now c.args.region.now.lo c.args.region.now.hi c.chunk_region-own.ensures.kept c.requires.coordinate c.requires.region in
    let l = lengths_of _ _ _ _ r in
    ap length c.chunk_region-own.ensures.lo ∙ r.a_rank
    ∙ sym (ap length (c.latest-first.ensures ∙ ap (λ x. axis_by_axis max x c.args.region.now.lo) c.chunk_region-own.ensures.lo) ∙ l.first)

pub difference-requires-3 : goal.difference-requires-3
difference-requires-3 c =
    let r = ranks_of c.args.grid.now c.args.coord.now c.args.region.now.lo c.args.region.now.hi c.chunk_region-own.ensures.kept c.requires.coordinate c.requires.region in
    let l = lengths_of _ _ _ _ r in
    sym (ap length (c.latest-first.ensures ∙ ap (λ x. axis_by_axis max x c.args.region.now.lo) c.chunk_region-own.ensures.lo) ∙ l.first)

pub difference-requires-4 : goal.difference-requires-4
difference-requires-4 c =
    let r = ranks_of c.args.grid.now c.args.coord.now c.args.region.now.lo c.args.region.now.hi c.chunk_region-own.ensures.kept c.requires.coordinate c.requires.region in
    sym r.hi_rank

pub returns-clause-shared : goal.returns-clause-shared
returns-clause-shared c =
    let g = c.args.grid.now in
    let lo = c.args.region.now.lo in
    let hi = c.args.region.now.hi in
    let s = shared_of c.args.grid.now c.args.coord.now c.args.region.now.lo c.args.region.now.hi c.chunk_region-own.ensures.kept c.requires.coordinate c.requires.region in
    let first = c.latest-first.ensures ∙ ap (λ x. axis_by_axis max x c.args.region.now.lo) c.chunk_region-own.ensures.lo in
    let last = c.earliest-last.ensures ∙ ap (λ x. axis_by_axis min x c.args.region.now.hi) c.chunk_region-own.ensures.hi in
    let sizes = c.difference.ensures ∙ ap (λ x. differences x c.latest-first.result) last ∙ ap (λ x. differences (axis_by_axis min (chunk_hi c.args.grid.now.shape c.args.grid.now.chunk c.args.coord.now) c.args.region.now.hi) x) first in
    let in_chunk = c.difference-2.ensures ∙ ap (λ x. differences x c.chunk_region-own.result.lo) first ∙ ap (λ x. differences (first_of (chunk_lo c.args.grid.now.chunk c.args.coord.now) c.args.region.now.lo) x) c.chunk_region-own.ensures.lo in
    let in_region = c.difference-3.ensures ∙ ap (λ x. differences x c.args.region.now.lo) first in
    rw (sizes, in_chunk, in_region) s
