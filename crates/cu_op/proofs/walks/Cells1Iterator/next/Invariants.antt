use Rattle.std.proofs.Common.{◌≡◌, [], length, drop, All}
use Rattle.cu_op.specs.Walks.{IsWalkOver, open_cells, cells_of_walks}
use Rattle.cu_op.proofs.walks.Cells1Iterator.next.Given as goal

abbrev pub invariant-loop-at : goal.invariant-loop-at
invariant-loop-at l = record {
  at : l.self-inside.at ≡ l.at;
  end : l.at-end ≡ length l.self-inside.walks.items;
  over : All (IsWalkOver l.self-inside.arrays.now) l.self-inside.walks.items;
  spent : open_cells l.self-inside.array l.self-inside.cover ≡ [];
  left : l.fn.self ≡ cells_of_walks l.self-inside.arrays.now (drop l.at l.self-inside.walks.items);
}
