use Rattle.std.proofs.Common.{◌≡◌, length}
use Rattle.cu_take.specs.Taken.{elements_at_places, column_places}
use Rattle.cu_take.proofs.RowSteps.{RowTaken}
use Rattle.cu_take.proofs.rows.take_four_rows.Given as goal

abbrev pub invariant-loop-j : goal.invariant-loop-j
invariant-loop-j l = record {
  same_length : length l.out ≡ length l.fn.out;
  row : RowTaken l.kind l.acc l.fn.out l.out l.q (λ i. elements_at_places l.from l.input
      (column_places l.place l.width 4 i)) l.j;
}
