use Rattle.std.proofs.Common.{◌≡◌, take, map}
use Rattle.arrayvec.specs.ArrayVec.{array_vec_len}
use Rattle.cu_op.specs.Chunks.{whole_walk}
use Rattle.cu_op.proofs.kinds.pull.whole_walks.Given as goal

abbrev pub invariant-loop-array : goal.invariant-loop-array
invariant-loop-array l = record {
  walks : l.walks.items ≡ map (whole_walk l.arrays) (take l.array-index l.numbers);
  count : array_vec_len l.walks ≡ l.array-index;
}
