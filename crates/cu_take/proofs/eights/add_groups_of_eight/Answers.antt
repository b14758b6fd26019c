use Rattle.std.proofs.Common.{◌+◌, ◌*◌, ◌≤◌, ◌∙◌, arith}
use Rattle.std.proofs.Math.Nat.{mul-le-mul_right}
use Rattle.cu_num.specs.Dtype.{size_of}
use Rattle.cu_num.specs.declared.folds.FoldKind.TheVariants.{Sum}
use Rattle.cu_take.proofs.RowSteps.{takes_more_rows}
use Rattle.cu_take.proofs.eights.add_groups_of_eight.Goals as goal

pub add_eight_rows-requires-clause-input : goal.add_eight_rows-requires-clause-input
add_eight_rows-requires-clause-input c =
    let width = c.args.rows.width in
    let k = c.loop-k.k in
    let some : (k + 8) * width ≤ c.args.rows.count * width = mul-le-mul_right width (omega arith) in
    let within : c.args.place + k * width + 8 * width ≤ c.args.place + c.args.rows.count * width =
    omega (arith, some) in
    let bytes : (c.args.place + k * width + 8 * width) * size_of c.args.from
    ≤ (c.args.place + c.args.rows.count * width) * size_of c.args.from =
    mul-le-mul_right (size_of c.args.from) within in
    omega (arith, bytes, c.requires.input)

pub loop-k-preserved : goal.loop-k-preserved
loop-k-preserved c =
    let inv = c.loop-k.invariant in
    let step = c.add_eight_rows.ensures in
    record {
      same_length = c.add_eight_rows.auto.out ∙ inv.same_length;
      within = omega (arith);
      done = λ j b. takes_more_rows Sum c.args.from c.args.acc c.args.input.now
          c.args.out.now c.loop-k.out c.add_eight_rows.new.out (c.args.q + j)
          c.args.place c.args.rows.width c.loop-k.k 8 j (inv.done j b)
          (step.takes j b);
      left = λ p o. step.others p o ∙ inv.left p o;
    }
