use Rattle.std.proofs.Common.{ap, arith}
use Rattle.cu_shape.specs.Index.{product}
use Rattle.cu_codec.proofs.Shared.{few_elements}
use Rattle.cu_codec.proofs.Taken.{taken_of}
use Rattle.cu_codec.proofs.parts.take_part.Goals as goal

pub copy_box-requires-clause-to_small : goal.copy_box-requires-clause-to_small
copy_box-requires-clause-to_small c =
    let few = few_elements c.args.grid.now c.args.region.now.lo c.args.region.now.hi c.chunk.ensures.kept c.requires.region in
    let e = ap product c.shared-shared.ensures.extents in
    omega arith

pub returns : goal.returns
returns c =
    let copied = rw (c.chunk.ensures.value, c.shared-shared.ensures.extents) at c.copy_box.ensures.copied in
    record {
      taken = taken_of c.args.grid.now c.args.coord.now c.args.region.now.lo c.args.region.now.hi c.chunk.ensures.kept c.requires.coordinate c.requires.region
          c.shared-shared.result.sizes c.shared-shared.result.in_chunk c.shared-shared.result.in_region c.shared-shared.ensures.shared
          c.args.size c.args.order c.args.chunk.now c.args.out.now c.copy_box.new.target copied;
    }
