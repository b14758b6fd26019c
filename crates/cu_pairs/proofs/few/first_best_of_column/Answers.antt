use Rattle.std.proofs.Common.{◌≡◌, ◌+◌, ◌-◌, ◌*◌, ◌<◌, min, sym, ◌∙◌, subst, arith}
use Rattle.std.specs.Int.{w128, cast_signed}
use Rattle.cu_shape.proofs.Rounded.{before_end}
use Rattle.cu_reduce.specs.Places.{is_beyond}
use Rattle.cu_pairs.specs.Columns.{column_of}
use Rattle.cu_pairs.specs.Runs.{IsBestValue, IsLeading}
use Rattle.cu_pairs.proofs.Parts.{kept}
use Rattle.cu_pairs.proofs.Leading.{OfBlock, leading_first, leading_more, leading_kept}
use Rattle.cu_pairs.proofs.FewColumns.{first_row_of, from_start}
use Rattle.cu_pairs.proofs.few.first_best_of_column.Goals as goal
use Rattle.cu_pairs.proofs.few.first_best_of_column.Goals.{then-is_beyond, else-is_beyond}

pub loop-block-init : goal.loop-block-init
loop-block-init c =
    let f = column_of c.args.t c.args.rows.width c.args.rows.bytes.now c.args.column in
    let n = c.min.result in
    let is : n ≡ min 256 c.args.count = omega (arith, c.min.ensures) in
    let value : IsBestValue c.args.least f n c.best_of_part-best.result = from_start c.args.least f n c.best_of_part-best.result c.best_of_part-best.ensures in
    let same = kept c.best_of_part-best.result (record { sfits = c.best_of_part-best.type_inv }) in
    subst (λ v. IsLeading c.args.least f (min 256 c.args.count) 0 v) (sym same)
    (subst (λ m. IsLeading c.args.least f m 0 c.best_of_part-best.result) is (leading_first c.args.least f n c.best_of_part-best.result value))

pub loop-block-preserved : goal.loop-block-preserved
loop-block-preserved c =
    let least = c.args.least in
    let f = column_of c.args.t c.args.rows.width c.args.rows.bytes.now c.args.column in
    let count = c.args.count in
    let block = c.loop-block.block in
    let before : block * 256 < count = before_end count 256 block (omega arith) (omega (arith, c.loop-block-test.true, c.div_ceil-block-end.ensures)) in
    let from = block * 256 in
    let end = c.min-in-loop-block.result in
    let ends : end ≡ min (from + 256) count = c.min-in-loop-block.ensures in
    let so_far : min (block * 256) count ≡ from = omega arith in
    let then_all : from + (end - from) ≡ min ((block + 1) * 256) count = omega arith in
    let value = c.best_of_part-value.result in
    let old = c.loop-block.best in
    let part : OfBlock least f from (end - from) value = c.best_of_part-value.ensures in
    let led : IsLeading least f from c.loop-block.start old =
    subst (λ m. IsLeading least f m c.loop-block.start old) so_far (subst (λ b. IsLeading least f (min (block * 256) count) c.loop-block.start b) c.loop-block.best-is c.loop-block.invariant) in
    let same = kept value (record { sfits = c.best_of_part-value.type_inv }) in
    let test : c.is_beyond.result ≡ is_beyond least value old = c.is_beyond.ensures ∙ (λ i. is_beyond least (same i) (c.loop-block.best-is i)) in
    let all = min ((block + 1) * 256) count in
    elim c.if-is_beyond.branch [
      | then-is_beyond w ↦
          let more = subst (λ m. IsLeading least f m from value) then_all (leading_more least f from (end - from) c.loop-block.start old value led part (sym test ∙ w.if-is_beyond.true)) in
          subst (λ s. IsLeading least f all s (cast_signed w128 c.if-is_beyond.best-bits)) (sym w.start-is) (subst (λ b. IsLeading least f all from b) (sym (w.best-is ∙ same)) more)
      | else-is_beyond w ↦
          let still = subst (λ m. IsLeading least f m c.loop-block.start old) then_all (leading_kept least f from (end - from) c.loop-block.start old value led part (sym test ∙ w.if-is_beyond.false)) in
          subst (λ s. IsLeading least f all s (cast_signed w128 c.if-is_beyond.best-bits)) (sym w.start-is) (subst (λ b. IsLeading least f all c.loop-block.start b) (sym (w.best-is ∙ c.loop-block.best-is)) still)
    ]

pub returns : goal.returns
returns c =
    let least = c.args.least in
    let f = column_of c.args.t c.args.rows.width c.args.rows.bytes.now c.args.column in
    let count = c.args.count in
    let start = c.loop-block.start in
    let best = c.loop-block.best in
    let all : min (c.loop-block.block * 256) count ≡ count = omega (arith, c.loop-block-test.false, c.div_ceil-block-end.ensures) in
    let led : IsLeading least f count start best =
    subst (λ m. IsLeading least f m start best) all (subst (λ b. IsLeading least f (min (c.loop-block.block * 256) count) start b) c.loop-block.best-is c.loop-block.invariant) in
    first_row_of least f count start c.row_of.result best led c.row_of.ensures.after c.row_of.ensures.within
    (λ k a b e. c.row_of.ensures.before k a b (e ∙ sym c.loop-block.best-is))
    (λ b. c.row_of.ensures.found b ∙ c.loop-block.best-is)
