-- So many rooms are there, each long enough.
use Rattle.std.proofs.Common.{◌≡◌, All, length, vec_len}
use Rattle.cu_cells.specs.Cells.{FitIn}
use Rattle.cu_mem.proofs.share.rooms_for_late.Given as goal

abbrev pub invariant-loop-at : goal.invariant-loop-at
invariant-loop-at l = record {
  fit : All (λ r. FitIn l.specs (length r.items)) l.rooms.items;
  count : vec_len l.rooms ≡ l.at;
}
