use Rattle.std.proofs.Common.{refl, slice_index, ◌∙◌, arith}
use Rattle.cu_op.specs.Kind.Map.{read_walk}
use Rattle.cu_op.proofs.Steps.{one_mapped, all_mapped, read_as}
use Rattle.cu_op.proofs.kinds.map.map_walks.Goals as goal

pub bounds-arrays-array : goal.bounds-arrays-array
bounds-arrays-array c = (c.requires.lo c.loop-array.array-index 0 c.loop-array-test.true).0

pub loop-array-preserved : goal.loop-array-preserved
loop-array-preserved c =
    let a = slice_index c.args.ins.now c.loop-array.array-index in
    let within = (c.requires.lo c.loop-array.array-index 0 c.loop-array-test.true).0 in
    let made = c.push.ensures in
    record {
      walks = made.items
          ∙ one_mapped (read_walk c.args.arrays.now c.args.region.now.lo c.args.region.now.hi) c.args.ins.now c.loop-array.array-index 0 a c.loop-array.walks.items _ c.loop-array-test.true refl
          (read_as c.args.arrays.now a c.index-arrays-array.result c.shape-shape.result.now c.args.region.now.lo c.args.region.now.hi c.read_back.result within
          c.index-arrays-array.is c.shape-shape.ensures.value c.read_back.ensures.lo c.read_back.ensures.hi) c.loop-array.invariant.walks;
      count = omega (arith, made.len);
    }

pub returns : goal.returns
returns c = all_mapped (read_walk c.args.arrays.now c.args.region.now.lo c.args.region.now.hi) c.args.ins.now c.loop-array.array-index c.loop-array.walks.items c.loop-array-test.false c.loop-array.invariant.walks
