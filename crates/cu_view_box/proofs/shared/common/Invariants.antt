use Rattle.std.proofs.Common.{◌≡◌, ◌<◌, ◌≤◌, ◌↔◌, ℕ, List, length, get_or}
use Rattle.cu_grid.specs.Counts.{IsWithin}
use Rattle.cu_view_box.proofs.shared.common.Given as goal

abbrev pub invariant-loop-axis : goal.invariant-loop-axis
invariant-loop-axis l = record {
  lo_rank : length l.shared.lo ≡ length l.a.lo;
  hi_rank : length l.shared.hi ≡ length l.a.lo;
  exact : (idx : List ℕ) → IsWithin l.shared.lo l.shared.hi idx
      ↔ (IsWithin l.a.lo l.a.hi idx × ((k : ℕ) → k < l.axis → (get_or l.b.lo k 0 ≤ get_or idx k 0) × (get_or idx k 0 < get_or l.b.hi k 0)));
}
