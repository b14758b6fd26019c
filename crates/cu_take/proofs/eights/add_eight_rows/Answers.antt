use Rattle.std.proofs.Common.{◌+◌, ℕ, ℤ, List, subst, ◌∙◌, arith}
use Rattle.cu_num.specs.declared.folds.FoldKind.TheVariants.{Sum}
use Rattle.cu_take.specs.Taken.{HasTaken, elements_at_places, column_places}
use Rattle.cu_take.proofs.RowSteps.{results_more, column_later}
use Rattle.cu_take.proofs.eights.add_eight_rows.Goals as goal

pub loop-j-preserved : goal.loop-j-preserved
loop-j-preserved c =
    let inv = c.loop-j.invariant in
    let step = c.add_first_columns-j.ensures in
    let width = c.args.width in
    let j = c.loop-j.j in
    let xs : ℕ → List ℤ = λ i. elements_at_places c.args.from c.args.input.now
    (column_places c.args.place width 8 i) in
    record {
      same_length = c.add_first_columns-j.auto.out ∙ inv.same_length;
      within = omega (arith, step.within, inv.within);
      row = results_more Sum c.args.acc c.args.out.now c.loop-j.out c.add_first_columns-j.new.out
          c.args.q xs j c.add_first_columns-j.result inv.row
          (λ i b. subst (λ ps. HasTaken Sum c.args.acc c.loop-j.out c.add_first_columns-j.new.out
          (c.args.q + j + i) (elements_at_places c.args.from c.args.input.now ps))
          (column_later c.args.place width 8 j i) (step.takes i b))
          step.others;
    }
