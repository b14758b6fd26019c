use Rattle.std.proofs.Common.{◌≡◌, ◌≤◌, ◌++◌, [], take, drop}
use Rattle.arrayvec.specs.ArrayVec.{array_vec_len}
use Rattle.cu_op.specs.Walks.{new_walks}
use Rattle.cu_op.proofs.walks.each_once.Given as goal

abbrev pub invariant-loop-at : goal.invariant-loop-at
invariant-loop-at l = record {
  walks : l.kept.items ++ new_walks (drop l.at l.walks) (take l.at l.walks) ≡ new_walks l.walks [];
  count : array_vec_len l.kept ≤ l.at;
}
