use Rattle.std.proofs.Common.{◌≡◌, ◌≢◌, ◌≤◌, ◌+◌, ◌*◌, ◌+ℤ◌, ◌*ℤ◌, length, arith, ap, ◌∙◌, sym, subst, ⊎_elim}
use Rattle.std.proofs.lemmas.Bool.{cases_lt}
use Rattle.std.specs.Int.{w128, cast_signed, cast_unsigned}
use Rattle.cu_num.specs.Dtype.{size_of}
use Rattle.cu_num.specs.Element.{bytes_at, element_bytes, element_at}
use Rattle.cu_num.specs.Wrap.{wrapped}
use Rattle.cu_num.specs.declared.layout.Endian.TheVariants.{Little}
use Rattle.cu_num.proofs.Wrapped.{wrapped-wrapped}
use Rattle.cu_num.proofs.ElementBytes.{bytes_at-written_at_same, bytes_at-written_at_other, length-written_at, length-element_bytes}
use Rattle.cu_reduce.specs.Numbers.{HasNumber}
use Rattle.cu_product.specs.Matrices.{numbers}
use Rattle.cu_product.proofs.Parts.{kept, element_inside}
use Rattle.cu_product.proofs.Sums.{same_bytes, read_number, added}
use Rattle.cu_product.proofs.rows.add_multiple.Goals as goal

pub loop-at-preserved : goal.loop-at-preserved
loop-at-preserved c =
    let t = c.args.t in
    let x = cast_signed w128 (cast_unsigned w128 c.args.x) in
    let at = c.loop-at.at in
    let out = c.loop-at.out in
    let y = numbers c.args.right_t c.args.row.now at in
    let same = c.loop-at.invariant.same_length in
    let fits : at * size_of t + size_of t ≤ length out = element_inside t at c.args.columns (length out) (same ∙ c.requires.out) c.loop-at-test.true in
    let row_at = kept c.load.result (record { sfits = c.load.type_inv }) ∙ c.load.ensures.value in
    let wrapped_y : cast_signed w128 (cast_unsigned w128 c.wrap-y.result) ≡ wrapped t y = kept c.wrap-y.result (record { sfits = c.wrap-y.type_inv }) ∙ c.wrap-y.ensures.value ∙ ap (wrapped t) row_at in
    let more : cast_signed w128 (cast_unsigned w128 c.scalar2-more.result) ≡ wrapped t (x *ℤ wrapped t y) =
    kept c.scalar2-more.result (record { sfits = c.scalar2-more.type_inv }) ∙ c.scalar2-more.ensures.value ∙ ap (λ z. wrapped t (x *ℤ z)) wrapped_y in
    let before : cast_signed w128 (cast_unsigned w128 c.load-in-loop-at.result) ≡ element_at Little t out at = kept c.load-in-loop-at.result (record { sfits = c.load-in-loop-at.type_inv }) ∙ c.load-in-loop-at.ensures.value in
    let sum : cast_signed w128 (cast_unsigned w128 c.scalar2-sum.result) ≡ wrapped t (element_at Little t out at +ℤ wrapped t (x *ℤ wrapped t y)) =
    kept c.scalar2-sum.result (record { sfits = c.scalar2-sum.type_inv }) ∙ c.scalar2-sum.ensures.value ∙ (λ i. wrapped t (before i +ℤ more i)) in
    record {
      same_length = ap length c.save.ensures ∙ (length-written_at Little t out at _ fits ∙ same);
      done = λ j s b h. ⊎_elim
          (λ less. let apart : j ≢ at = omega arith in
          ap (λ all. bytes_at t all j) c.save.ensures ∙ bytes_at-written_at_other t out _ at j apart (length-element_bytes _ t _) fits ∙ c.loop-at.invariant.done j s less h)
          (λ more_or_same.
          let is : j ≡ at = omega arith in
          let old = read_number t out at s (c.loop-at.invariant.rest at (omega arith) ∙ subst (λ k. HasNumber t c.args.out.now k s) is h) in
          subst (λ k. HasNumber t c.save.new.bytes k (s +ℤ x *ℤ numbers c.args.right_t c.args.row.now k)) (sym is)
          (ap (λ all. bytes_at t all at) c.save.ensures
          ∙ bytes_at-written_at_same t out _ at (length-element_bytes _ t _) fits
          ∙ ap (element_bytes Little t) (sum ∙ ap (λ z. wrapped t (z +ℤ wrapped t (x *ℤ wrapped t y))) old ∙ added t c.requires.integer s x y)
          ∙ same_bytes t (wrapped t (s +ℤ x *ℤ y)) (s +ℤ x *ℤ y) (wrapped-wrapped t (s +ℤ x *ℤ y))))
          (cases_lt j at);
      rest = λ j b. let apart : j ≢ at = omega arith in
          ap (λ all. bytes_at t all j) c.save.ensures ∙ bytes_at-written_at_other t out _ at j apart (length-element_bytes _ t _) fits ∙ c.loop-at.invariant.rest j (omega arith);
    }

pub returns : goal.returns
returns c j s b h =
    let ends = c.loop-at-test.false in
    subst (λ x. HasNumber c.args.t c.loop-at.out j (s +ℤ x *ℤ numbers c.args.right_t c.args.row.now j)) (kept c.args.x c.ranges.x) (c.loop-at.invariant.done j s (omega arith) h)
