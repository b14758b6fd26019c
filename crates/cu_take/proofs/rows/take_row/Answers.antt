use Rattle.std.proofs.Common.{◌+◌, ℕ, ℤ, List, subst, ◌∙◌}
use Rattle.cu_take.specs.Taken.{HasTaken, elements_at_places, column_places}
use Rattle.cu_take.proofs.RowSteps.{row_more, column_one}
use Rattle.cu_take.proofs.rows.take_row.Goals as goal

pub loop-j-preserved : goal.loop-j-preserved
loop-j-preserved c =
    let kind = c.args.kind in
    let acc = c.args.acc in
    let j = c.loop-j.j in
    let xs : ℕ → List ℤ = λ i. elements_at_places c.args.from c.args.input.now
    (column_places c.args.place c.args.width 1 i) in
    record {
      same_length = c.take_one.auto.out ∙ c.loop-j.invariant.same_length;
      row = row_more kind acc c.args.out.now c.loop-j.out c.take_one.new.out c.args.q xs j
          c.loop-j.invariant.row
          (subst (λ ps. HasTaken kind acc c.loop-j.out c.take_one.new.out (c.args.q + j)
          (elements_at_places c.args.from c.args.input.now ps))
          (column_one c.args.place c.args.width j) c.take_one.ensures.takes)
          c.take_one.ensures.others;
    }
