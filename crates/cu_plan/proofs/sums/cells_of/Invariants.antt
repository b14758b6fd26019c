use Rattle.std.proofs.Common.{◌≡◌, ◌≤◌, ◌*◌, ◌^◌, take}
use Rattle.std.specs.Prelude.{sum_by}
use Rattle.cu_op.specs.Arrays.{array_at, array_chunk_count}
use Rattle.cu_plan.proofs.sums.cells_of.Given as goal

abbrev pub invariant-loop-array : goal.invariant-loop-array
invariant-loop-array l = record {
  sum : l.count ≡ sum_by (λ a. array_chunk_count (array_at l.arrays a)) (take l.array-index l.array-items);
  few : l.count ≤ l.array-index * 2 ^ 60;
}
