-- A chunk is one of those that a task's walks go over exactly where the operation needs it.
use Rattle.cu_grid.specs.Grid.{IsGrid}
use Rattle.cu_op.proofs.KindLaws.{laws_of}
use Rattle.cu_op.proofs.Operations.{Fit, stands}
use Rattle.cu_op.proofs.SameCells.{HaveSame, of_new}
use Rattle.cu_op.specs.Arrays.{grid_at, grid_counts}
use Rattle.cu_op.specs.Cells.{regions_of, task_grid, task_coord}
use Rattle.cu_op.specs.InputCells.{own_cells}
use Rattle.cu_op.specs.Walks.{read_chunks, input_walks, cells_of_walks}
use Rattle.cu_op.specs.declared.cells.Cell.{Cell}
use Rattle.cu_op.specs.declared.layout.ArrayInfo.{ArrayInfo}
use Rattle.cu_op.specs.declared.operation.Op.{Op}
use Rattle.cu_shape.proofs.Places.{index-inside}
use Rattle.std.proofs.Common.{ℕ, ◌<◌, List, length}

module _ (arrays : List ArrayInfo) (grids : (a : ℕ) → a < length arrays → IsGrid (grid_at arrays a)) (k : ℕ) where
  pub walks_same : (op : Op) (task : ℕ) (c : Cell) → Fit arrays k op → task < regions_of arrays op → HaveSame (cells_of_walks arrays (input_walks arrays op task)) (own_cells arrays op task) c
  walks_same op task c fit h = (laws_of op).same arrays (task_coord arrays op task) c (stands arrays grids k op fit) (index-inside (grid_counts (task_grid arrays op)) task h)

  pub reads_same : (op : Op) (task : ℕ) (c : Cell) → Fit arrays k op → task < regions_of arrays op → HaveSame (read_chunks arrays op task) (own_cells arrays op task) c
  reads_same op task c fit h =
      let once = of_new arrays (input_walks arrays op task) c in
      let all = walks_same op task c fit h in
      (λ x. all.0 (once.0 x), λ x. once.1 (all.1 x))
