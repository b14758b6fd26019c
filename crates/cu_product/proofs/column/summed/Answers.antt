use Rattle.std.proofs.Common.{◌≡◌, ◌≤◌, ◌+◌, ◌*◌, ◌+ℤ◌, ◌*ℤ◌, length, arith, ap, sym, ◌∙◌}
use Rattle.std.specs.Int.{w128, cast_signed, cast_unsigned}
use Rattle.cu_num.specs.Dtype.{size_of}
use Rattle.cu_num.specs.Element.{bytes_at, element_bytes}
use Rattle.cu_num.specs.Wrap.{wrapped}
use Rattle.cu_num.specs.declared.layout.Endian.TheVariants.{Little}
use Rattle.cu_num.proofs.ElementBytes.{bytes_at-written_at_same, length-written_at, length-element_bytes}
use Rattle.cu_num.proofs.Wrapped.{wrapped-add}
use Rattle.cu_product.specs.Block.{inner_product}
use Rattle.cu_product.specs.Matrices.{numbers}
use Rattle.cu_product.proofs.Parts.{kept, size_most}
use Rattle.cu_product.proofs.Sums.{read_number, wrapped_bytes, inner_product-more}
use Rattle.cu_product.proofs.column.summed.Goals as goal

pub loop-q-preserved : goal.loop-q-preserved
loop-q-preserved c =
    let t = c.args.t in
    let q = c.loop-q.q in
    let sum = c.loop-q.sum in
    let left = numbers t c.args.row.now in
    let right = numbers t c.args.column.now in
    let s = inner_product left right q in
    let most = size_most t in
    let fits : 0 * size_of t + size_of t ≤ length sum = omega (arith, c.loop-q.invariant.eight) in
    let x : cast_signed w128 (cast_unsigned w128 c.load.result) ≡ left q = kept c.load.result (record { sfits = c.load.type_inv }) ∙ c.load.ensures.value in
    let y : cast_signed w128 (cast_unsigned w128 c.load-in-loop-q.result) ≡ right q = kept c.load-in-loop-q.result (record { sfits = c.load-in-loop-q.type_inv }) ∙ c.load-in-loop-q.ensures.value in
    let more : cast_signed w128 (cast_unsigned w128 c.scalar2-more.result) ≡ wrapped t (left q *ℤ right q) =
    kept c.scalar2-more.result (record { sfits = c.scalar2-more.type_inv }) ∙ c.scalar2-more.ensures.value ∙ (λ i. wrapped t (x i *ℤ y i)) in
    let before : cast_signed w128 (cast_unsigned w128 c.load-in-loop-q-2.result) ≡ wrapped t s =
    kept c.load-in-loop-q-2.result (record { sfits = c.load-in-loop-q-2.type_inv }) ∙ c.load-in-loop-q-2.ensures.value ∙ read_number t sum 0 s c.loop-q.invariant.done in
    let total : cast_signed w128 (cast_unsigned w128 c.scalar2-total.result) ≡ wrapped t (s +ℤ left q *ℤ right q) =
    kept c.scalar2-total.result (record { sfits = c.scalar2-total.type_inv }) ∙ c.scalar2-total.ensures.value ∙ (λ i. wrapped t (before i +ℤ more i)) ∙ sym (wrapped-add t s (left q *ℤ right q) c.requires.integer) in
    record {
      eight = ap length c.save.ensures ∙ (length-written_at Little t sum 0 _ fits ∙ c.loop-q.invariant.eight);
      done = ap (λ all. bytes_at t all 0) c.save.ensures
          ∙ bytes_at-written_at_same t sum _ 0 (length-element_bytes _ t _) fits
          ∙ ap (element_bytes Little t) total
          ∙ wrapped_bytes t (s +ℤ left q *ℤ right q)
          ∙ ap (element_bytes Little t) (sym (inner_product-more left right q));
    }
