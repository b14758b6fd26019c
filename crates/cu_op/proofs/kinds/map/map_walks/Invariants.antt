use Rattle.std.proofs.Common.{◌≡◌, take, map}
use Rattle.arrayvec.specs.ArrayVec.{array_vec_len}
use Rattle.cu_op.specs.Kind.Map.{read_walk}
use Rattle.cu_op.proofs.kinds.map.map_walks.Given as goal

abbrev pub invariant-loop-array : goal.invariant-loop-array
invariant-loop-array l = record {
  walks : l.walks.items ≡ map (read_walk l.arrays l.region.lo l.region.hi) (take l.array-index l.ins);
  count : array_vec_len l.walks ≡ l.array-index;
}
