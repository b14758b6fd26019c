-- The values of the keys so far are no longer.
use Rattle.std.proofs.Common.{take}
use Rattle.cu_cells.specs.Cells.{FitIn}
use Rattle.cu_mem.proofs.share.longest.Given as goal

abbrev pub invariant-loop-at : goal.invariant-loop-at
invariant-loop-at l = FitIn (take l.at l.specs) l.most
