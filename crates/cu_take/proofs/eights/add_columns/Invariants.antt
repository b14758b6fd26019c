use Rattle.std.proofs.Common.{◌≡◌, length}
use Rattle.cu_num.specs.declared.folds.FoldKind.TheVariants.{Sum}
use Rattle.cu_take.specs.Taken.{elements_at_places, column_places}
use Rattle.cu_take.proofs.RowSteps.{RowTaken}
use Rattle.cu_take.proofs.eights.add_columns.Given as goal

abbrev pub invariant-loop-j : goal.invariant-loop-j
invariant-loop-j l = record {
  same_length : length l.out ≡ length l.fn.out;
  row : RowTaken Sum l.acc l.fn.out l.out l.q (λ i. elements_at_places l.from l.input
      (column_places l.place l.rows.step 8 i)) l.j;
}
