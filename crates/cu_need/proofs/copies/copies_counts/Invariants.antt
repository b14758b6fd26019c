use Rattle.std.proofs.Common.{◌≡◌, ◌≤◌, ◌+◌, ◌*◌, ◌^◌, drop}
use Rattle.std.specs.Prelude.{sum_by}
use Rattle.cu_copy.specs.Copies.{rechunk_cells, rechunk_tasks}
use Rattle.cu_need.proofs.copies.copies_counts.Given as goal

-- what is left adds its own
abbrev pub invariant-loop-rechunk : goal.invariant-loop-rechunk
invariant-loop-rechunk l = record {
  few_tasks : l.tasks ≤ l.rechunk-index * 2 ^ 41;
  few_cells : l.cells ≤ l.rechunk-index * 2 ^ 41;
  tasks : l.tasks + sum_by (rechunk_tasks l.most) (drop l.rechunk-index l.copies) ≡ sum_by (rechunk_tasks l.most) l.copies;
  cells : l.cells + sum_by (rechunk_cells l.most) (drop l.rechunk-index l.copies) ≡ sum_by (rechunk_cells l.most) l.copies;
}
