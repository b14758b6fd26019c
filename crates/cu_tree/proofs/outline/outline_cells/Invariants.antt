use Rattle.std.proofs.Common.{◌≡◌, ◌+◌, ◌*◌, ◌≤◌, ◌^◌, drop}
use Rattle.cu_tree.specs.Outlines.{outline_cells}
use Rattle.cu_tree.proofs.outline.outline_cells.Given as goal

abbrev pub invariant-loop-one : goal.invariant-loop-one
invariant-loop-one l = record {
  rest : l.cells + outline_cells (drop l.one-index l.outline) ≡ outline_cells l.outline;
  small : l.cells ≤ l.one-index * 2 ^ 33;
}
