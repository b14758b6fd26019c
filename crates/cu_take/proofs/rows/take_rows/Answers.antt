use Rattle.std.proofs.Common.{◌≡◌, ◌+◌, ◌-◌, ◌*◌, ◌≤◌, length, sym, subst, ap, ◌∙◌, arith}
use Rattle.cu_num.specs.Dtype.{size_of}
use Rattle.cu_take.specs.Taken.{HasTaken, elements_at_places, column_places}
use Rattle.cu_take.proofs.RowSteps.{rows_left, takes_more_rows}
use Rattle.cu_take.proofs.rows.take_rows.Goals as goal

pub take_first_rows-k-requires-clause-input : goal.take_first_rows-k-requires-clause-input
take_first_rows-k-requires-clause-input c =
    let count = c.args.rows.count in
    let width = c.args.rows.width in
    let k = c.loop-k.k in
    let whole : k + (count - k) ≡ count = omega arith in
    subst (λ n. n * size_of c.args.from ≤ length c.args.input.now)
    (sym (rows_left c.args.place width k (count - k) ∙ ap (λ n. c.args.place + n * width) whole))
    c.requires.input

pub loop-k-preserved : goal.loop-k-preserved
loop-k-preserved c =
    let inv = c.loop-k.invariant in
    let step = c.take_first_rows-k.ensures in
    record {
      same_length = c.take_first_rows-k.auto.out ∙ inv.same_length;
      within = omega (arith, step.within);
      done = λ j b. takes_more_rows c.args.kind c.args.from c.args.acc c.args.input.now
          c.args.out.now c.loop-k.out c.take_first_rows-k.new.out (c.args.q + j)
          c.args.place c.args.rows.width c.loop-k.k c.take_first_rows-k.result j (inv.done j b)
          (step.takes j b);
      left = λ p o. step.others p o ∙ inv.left p o;
    }

pub returns-clause-takes : goal.returns-clause-takes
returns-clause-takes c j b =
    let all : c.loop-k.k ≡ c.args.rows.count = omega arith in
    subst (λ n. HasTaken c.args.kind c.args.acc c.args.out.now c.loop-k.out (c.args.q + j)
    (elements_at_places c.args.from c.args.input.now (column_places c.args.place c.args.rows.width n j)))
    all (c.loop-k.invariant.done j b)
