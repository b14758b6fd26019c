use Rattle.std.proofs.Common.{ℕ, ℤ, List, ◌∙◌}
use Rattle.cu_num.specs.declared.folds.FoldKind.TheVariants.{Sum}
use Rattle.cu_take.specs.Taken.{elements_at_places, column_places}
use Rattle.cu_take.proofs.RowSteps.{row_more}
use Rattle.cu_take.proofs.eights.add_columns.Goals as goal

pub loop-j-preserved : goal.loop-j-preserved
loop-j-preserved c =
    let xs : ℕ → List ℤ = λ i. elements_at_places c.args.from c.args.input.now
    (column_places c.args.place c.args.rows.step 8 i) in
    record {
      same_length = c.add_column.auto.out ∙ c.loop-j.invariant.same_length;
      row = row_more Sum c.args.acc c.args.out.now c.loop-j.out c.add_column.new.out c.args.q xs
          c.loop-j.j c.loop-j.invariant.row c.add_column.ensures.takes c.add_column.ensures.others;
    }
