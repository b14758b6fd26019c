use Rattle.cu_op.proofs.Listed.{listed_few, listed_none, listed_own}
use Rattle.cu_op.proofs.inlining.listed_number.Goals as goal
use Rattle.cu_op.proofs.inlining.listed_number.Goals.{then-is_listed, else-is_listed}
use Rattle.std.proofs.Common.{arith, sym, ◌∙◌}

pub overflow_add-number : goal.overflow_add-number
overflow_add-number c =
    let i = c.loop-before.invariant in
    let few = listed_few c.args.plan.now c.loop-before.before in
    let t = c.loop-before-test.true in
    let b = c.ranges.op.fits in
    omega (arith, i, few, t, b)

pub loop-before-preserved : goal.loop-before-preserved
loop-before-preserved c =
    let p = c.args.plan.now in
    let k = c.loop-before.before in
    let i = c.loop-before.invariant in
    elim c.if-is_listed.branch [
      | then-is_listed w ↦
          let n = w.number-is in
          let more = listed_own p k (sym c.is_listed.ensures ∙ w.if-is_listed.true) in
          omega (arith, i, n, more)
      | else-is_listed w ↦
          let n = w.number-is in
          let more = listed_none p k (sym c.is_listed.ensures ∙ w.if-is_listed.false) in
          omega (arith, i, n, more)
    ]
