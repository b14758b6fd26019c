-- The task that writes a chunk of a made array, as it is computed from the chunk's coordinate.
use Rattle.std.proofs.Common.{◌≡◌, ℕ, ◌<◌, ◌≤◌, ◌*◌, List, length, Some, ap, sym, ◌∙◌, false}
use Rattle.std.proofs.lemmas.List.Elements.{All-contains}
use Rattle.cu_shape.specs.Index.{product, quotients}
use Rattle.cu_shape.proofs.Axes.{length-axis_by_axis}
use Rattle.cu_grid.specs.Counts.{chunk_lo}
use Rattle.cu_grid.specs.Grid.{IsGrid, IsCoordinate}
use Rattle.cu_grid.proofs.Regions.{coordinate-length}
use Rattle.cu_op.specs.Arrays.{grid_at, grid_counts, maker_at, is_inlined}
use Rattle.cu_op.specs.Chunks.{cell}
use Rattle.cu_op.specs.Cells.{task_grid}
use Rattle.cu_op.specs.Operation.{writes_of}
use Rattle.cu_op.specs.PlanView.{PlanView}
use Rattle.cu_op.specs.Schedule.{op_of, task_at, WritesCell, IsNested, MakesChunk}
use Rattle.cu_op.specs.Sound.{Sound}
use Rattle.cu_op.proofs.Nested.{begins_in}
use Rattle.cu_op.proofs.Operations as ops
use Rattle.cu_op.proofs.Plans.{grid_ok, few_regions}
use Rattle.cu_op.proofs.TaskCells.{fit_of, region_for, writes_of_stored}

module _ (p : PlanView) (s : Sound p) (k a : ℕ) (coord : List ℕ) (within : a < length p.arrays) (here : IsCoordinate (grid_at p.arrays a) coord)
    (made : maker_at p.arrays a ≡ Some k) where
  operation : k < length p.ops
  operation = (s.makers a k within made).0

  tasks_ok : IsGrid (task_grid p.arrays (op_of p k))
  tasks_ok = ops.grid_of_tasks p.arrays (λ b h. grid_ok p b s h) k (op_of p k) (fit_of p s k operation)

  nested : IsNested (grid_at p.arrays a) (task_grid p.arrays (op_of p k))
  nested =
      All-contains (λ b. IsNested (grid_at p.arrays b) (task_grid p.arrays (op_of p k))) (writes_of (op_of p k)) a
      (ops.nested_writes p.arrays (λ b h. grid_ok p b s h) k (op_of p k) (fit_of p s k operation)) (s.makers a k within made).1

  pub made_ranks : length (task_grid p.arrays (op_of p k)).chunk ≡ length (chunk_lo (grid_at p.arrays a).chunk coord)
  made_ranks =
      let ok = grid_ok p a s within in
      let n = coordinate-length (grid_at p.arrays a) coord ok here in
      let m = length-axis_by_axis (λ i c. i * c) coord (grid_at p.arrays a).chunk (n ∙ sym ok.ranks) in
      tasks_ok.ranks ∙ ap length nested.shape ∙ sym n ∙ sym m

  pub made_box : IsCoordinate (task_grid p.arrays (op_of p k)) (quotients (chunk_lo (grid_at p.arrays a).chunk coord) (task_grid p.arrays (op_of p k)).chunk)
  made_box = (begins_in (grid_at p.arrays a) (task_grid p.arrays (op_of p k)) coord (grid_ok p a s within) tasks_ok nested here).region

  pub made_few : product (grid_counts (task_grid p.arrays (op_of p k))) ≤ 65536
  made_few = few_regions p k s operation

  pub made_makes : MakesChunk p k (task_at p.arrays (op_of p k) (cell a coord)) a coord
  made_makes = region_for p s k a coord within here made

  pub made_writes : is_inlined p.arrays a ≡ false → WritesCell p k (task_at p.arrays (op_of p k) (cell a coord)) a coord
  made_writes stored = writes_of_stored p s k _ a coord made_makes stored
