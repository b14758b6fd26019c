use Rattle.std.proofs.Common.{◌+ℤ◌, ◌∙◌, arith}
use Rattle.std.specs.Int.{w128}
use Rattle.std.proofs.lemmas.Int.{ints, to_z-of_z}
use Rattle.cu_take.proofs.RowSteps.{short_fits, short_added}
use Rattle.cu_take.proofs.rows.short_sum.Goals as goal

pub overflow_add-short : goal.overflow_add-short
overflow_add-short c = short_fits _ (omega (arith, ints)) (omega (arith, ints))

pub overflow_add-short-2 : goal.overflow_add-short-2
overflow_add-short-2 c = short_fits _ (omega (arith, ints)) (omega (arith, ints))

pub overflow_add-short-3 : goal.overflow_add-short-3
overflow_add-short-3 c = short_fits _ (omega (arith, ints)) (omega (arith, ints))

pub returns : goal.returns
returns c =
    to_z-of_z w128 c.from.result (record { sfits = c.from.type_inv }) ∙ c.from.ensures
    ∙ short_added c.short.result c.short-2.result c.short-3.result c.short-4.result
    (record { low = c.short.ensures.low; high = c.short.ensures.high })
    (record { low = c.short-2.ensures.low; high = c.short-2.ensures.high })
    (record { low = c.short-3.ensures.low; high = c.short-3.ensures.high })
    (record { low = c.short-4.ensures.low; high = c.short-4.ensures.high })
    ∙ (λ i. (c.short.ensures.value ∙ to_z-of_z w128 c.args.w c.ranges.w) i +ℤ
    (c.short-2.ensures.value ∙ to_z-of_z w128 c.args.x c.ranges.x) i
    +ℤ (c.short-3.ensures.value ∙ to_z-of_z w128 c.args.y c.ranges.y) i +ℤ (c.short-4.ensures.value
    ∙ to_z-of_z w128 c.args.z c.ranges.z) i)
