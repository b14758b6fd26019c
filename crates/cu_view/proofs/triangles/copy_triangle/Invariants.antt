use Rattle.std.proofs.Common.{◌-◌, ℕ, ◌<◌, IsTrue, List, length, get_or}
use Rattle.cu_grid.specs.Counts.{IsWithin}
use Rattle.cu_origin.specs.Pull.{is_in_triangle}
use Rattle.cu_view.specs.Gathered.{HasMoved, IsElementKept}
use Rattle.cu_view.proofs.triangles.copy_triangle.Given as goal

abbrev pub invariant-loop-row : goal.invariant-loop-row
invariant-loop-row l = record {
  moved : (idx : List ℕ) → IsWithin l.part.lo l.part.hi idx → IsTrue (is_in_triangle l.lower l.k idx) → get_or idx (length l.part.lo - 2) 0 < l.row → HasMoved l.copying.piece.now l.copying.from.now l.copying.bytes.now l.copying.to.now l.output idx;
  others : (idx : List ℕ) → IsWithin l.copying.to.now.region.lo l.copying.to.now.region.hi idx → (IsWithin l.part.lo l.part.hi idx → get_or idx (length l.part.lo - 2) 0 < l.row → ¬ IsTrue (is_in_triangle l.lower l.k idx)) → IsElementKept l.copying.to.now l.initial.output l.output idx;
}
