use Rattle.std.proofs.Common.{◌≡◌, ap, arith}
use Rattle.std.proofs.lemmas.Int.{to_z-of_z}
use Rattle.std.specs.Int.{w128}
use Rattle.cu_num.specs.Dtype.{size_of}
use Rattle.cu_shape.specs.Index.{product}
use Rattle.cu_codec.proofs.Shared.{few_elements}
use Rattle.cu_codec.proofs.Taken.{laid_of}
use Rattle.cu_codec.proofs.parts.lay_part.Goals as goal

pub copy_box-requires-clause-from_small : goal.copy_box-requires-clause-from_small
copy_box-requires-clause-from_small c =
    let few = few_elements c.args.grid.now c.args.region.now.lo c.args.region.now.hi c.chunk.ensures.kept c.requires.region in
    let e = ap product c.shared-shared.ensures.extents in
    omega arith

pub returns : goal.returns
returns c =
    let wide : c.from-size.result ≡ size_of c.args.t = omega arith in
    let filled = rw (to_z-of_z w128 c.args.fill c.ranges.fill) at c.fill_past_edge.ensures.filled in
    let copied = rw (c.chunk.ensures.value, c.shared-shared.ensures.extents, wide) at c.copy_box.ensures.copied in
    record {
      laid = laid_of c.args.grid.now c.args.coord.now c.args.region.now.lo c.args.region.now.hi c.chunk.ensures.kept c.requires.coordinate c.requires.region
          c.shared-shared.result.sizes c.shared-shared.result.in_chunk c.shared-shared.result.in_region c.shared-shared.ensures.shared
          c.args.t c.args.fill c.args.input.now c.fill_past_edge.new.chunk c.copy_box.new.target c.requires.whole copied
          filled;
    }
