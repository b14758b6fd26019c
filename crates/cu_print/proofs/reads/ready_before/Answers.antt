use Rattle.std.proofs.Common.{length, max, sym, ap, ◌∙◌, arith}
use Rattle.cu_shape.specs.Index.{product, axis_by_axis}
use Rattle.cu_grid.specs.Counts.{chunk_lo, chunk_hi}
use Rattle.cu_grid.proofs.Covers.{bounds_of}
use Rattle.cu_grid.proofs.Meeting.{within_of}
use Rattle.cu_codec.proofs.Shared.{few_elements, within_sizes}
use Rattle.cu_print.proofs.First.{first_within}
use Rattle.cu_print.proofs.reads.ready_before.Goals as goal

pub extents-requires : goal.extents-requires
extents-requires c = let b = bounds_of c.args.grid.now.shape c.args.region.now.lo c.args.region.now.hi c.requires.region in b.hi_rank ∙ sym b.lo_rank

pub difference-requires : goal.difference-requires
difference-requires c =
    let f = first_within (chunk_lo c.args.grid.now.chunk c.args.coord.now) (chunk_hi c.args.grid.now.shape c.args.grid.now.chunk c.args.coord.now) c.args.region.now.lo c.args.region.now.hi c.requires.meets.1.0 c.requires.meets.1.2 c.requires.meets.1.1 in
    (within_of c.args.region.now.lo c.args.region.now.hi (axis_by_axis max (chunk_lo c.args.grid.now.chunk c.args.coord.now) c.args.region.now.lo) f.0).lo_rank ∙ ap length (sym c.first_in-first.ensures)

pub place-requires-clause-counted : goal.place-requires-clause-counted
place-requires-clause-counted c =
    let few = few_elements c.args.grid.now c.args.region.now.lo c.args.region.now.hi c.shape-shape.ensures.kept c.requires.region in
    let e = ap product c.extents.ensures in
    omega arith

pub place-requires-clause-inside : goal.place-requires-clause-inside
place-requires-clause-inside c =
    let f = first_within (chunk_lo c.args.grid.now.chunk c.args.coord.now) (chunk_hi c.args.grid.now.shape c.args.grid.now.chunk c.args.coord.now) c.args.region.now.lo c.args.region.now.hi c.requires.meets.1.0 c.requires.meets.1.2 c.requires.meets.1.1 in
    rw (c.extents.ensures, c.difference.ensures, c.first_in-first.ensures)
    (within_sizes c.args.region.now.lo c.args.region.now.hi (axis_by_axis max (chunk_lo c.args.grid.now.chunk c.args.coord.now) c.args.region.now.lo) f.0)
