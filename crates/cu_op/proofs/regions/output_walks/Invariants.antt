use Rattle.std.proofs.Common.{◌≡◌, take, map}
use Rattle.arrayvec.specs.ArrayVec.{array_vec_len}
use Rattle.cu_op.specs.Chunks.{walk}
use Rattle.cu_op.proofs.regions.output_walks.Given as goal

abbrev pub invariant-loop-array : goal.invariant-loop-array
invariant-loop-array l = record {
  walks : l.walks.items ≡ map (λ a. walk a l.region.lo l.region.hi) (take l.array-index l.array-items);
  count : array_vec_len l.walks ≡ l.array-index;
}
