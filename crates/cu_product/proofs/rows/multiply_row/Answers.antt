use Rattle.std.proofs.Common.{◌≡◌, ◌+◌, ◌*◌, ◌+ℤ◌, ◌*ℤ◌, length, arith, ap, sym, ◌∙◌, subst, refl, rules}
use Rattle.std.specs.Int.{w128, cast_signed, cast_unsigned}
use Rattle.std.specs.List.{between}
use Rattle.cu_num.specs.Dtype.{size_of}
use Rattle.cu_num.specs.Element.{element_bytes}
use Rattle.cu_num.specs.Wrap.{wrapped}
use Rattle.cu_num.specs.declared.layout.Endian.TheVariants.{Little}
use Rattle.cu_reduce.specs.Numbers.{HasNumber}
use Rattle.cu_product.specs.Matrices.{numbers, row_product}
use Rattle.cu_product.proofs.Parts.{kept, part_ends, part_room, element_of_part, element_inside}
use Rattle.cu_product.proofs.Sums.{same_bytes, added_left, inner_product-more}
use Rattle.cu_product.proofs.rows.multiply_row.Goals as goal

pub overflow_mul-room : goal.overflow_mul-room
overflow_mul-room c =
    let total : length c.args.right.now ≡ c.args.sizes.inner * (c.args.sizes.columns * c.size.result) = c.requires.right ∙ ap (λ s. c.args.sizes.inner * c.args.sizes.columns * s) (sym c.size.ensures) ∙ omega arith in
    let room = part_room c.args.sizes.inner (c.args.sizes.columns * c.size.result) (length c.args.right.now) total c.requires.some in
    omega arith

pub loop-q-init : goal.loop-q-init
loop-q-init c = record {
  same_length = c.clear.auto.out;
  done = λ j b. c.clear.ensures j (element_inside c.args.t j c.args.sizes.columns (length c.clear.new.out) (c.clear.auto.out ∙ c.requires.out) b);
}

pub overflow_mul-q : goal.overflow_mul-q
overflow_mul-q c =
    let total : length c.args.right.now ≡ c.args.sizes.inner * (c.args.sizes.columns * c.size.result) = c.requires.right ∙ ap (λ s. c.args.sizes.inner * c.args.sizes.columns * s) (sym c.size.ensures) ∙ omega arith in
    let ends = part_ends c.args.sizes.inner (c.args.sizes.columns * c.size.result) c.loop-q.q (length c.args.right.now) total c.loop-q-test.true in
    omega arith

pub overflow_mul-q-in-loop-q : goal.overflow_mul-q-in-loop-q
overflow_mul-q-in-loop-q c =
    let total : length c.args.right.now ≡ c.args.sizes.inner * (c.args.sizes.columns * c.size.result) = c.requires.right ∙ ap (λ s. c.args.sizes.inner * c.args.sizes.columns * s) (sym c.size.ensures) ∙ omega arith in
    let ends = part_ends c.args.sizes.inner (c.args.sizes.columns * c.size.result) c.loop-q.q (length c.args.right.now) total c.loop-q-test.true in
    omega arith

pub slice_bounds-add_multiple-end : goal.slice_bounds-add_multiple-end
slice_bounds-add_multiple-end c =
    let total : length c.args.right.now ≡ c.args.sizes.inner * (c.args.sizes.columns * c.size.result) = c.requires.right ∙ ap (λ s. c.args.sizes.inner * c.args.sizes.columns * s) (sym c.size.ensures) ∙ omega arith in
    let ends = part_ends c.args.sizes.inner (c.args.sizes.columns * c.size.result) c.loop-q.q (length c.args.right.now) total c.loop-q-test.true in
    search rules

pub loop-q-preserved : goal.loop-q-preserved
loop-q-preserved c =
    let t = c.args.t in
    let right_t = c.args.right_t in
    let right = c.args.right.now in
    let q = c.loop-q.q in
    let columns = c.args.sizes.columns in
    let room = columns * c.size.result in
    let l = numbers c.args.left_t c.args.row.now q in
    let own : room ≡ columns * size_of right_t = ap (λ s. columns * s) c.size.ensures in
    let starts : q * room ≡ q * columns * size_of right_t = ap (λ s. q * s) own ∙ omega arith in
    let more : (q + 1) * room ≡ q * room + room = omega arith in
    let factor : cast_signed w128 (cast_unsigned w128 c.wrap-x.result) ≡ wrapped t l =
    kept c.wrap-x.result (record { sfits = c.wrap-x.type_inv }) ∙ c.wrap-x.ensures.value ∙ ap (wrapped t) (kept c.load.result (record { sfits = c.load.type_inv }) ∙ c.load.ensures.value) in
    record {
      same_length = c.add_multiple.auto.out ∙ c.loop-q.invariant.same_length;
      done = λ j b.
          let s = row_product q columns (numbers c.args.left_t c.args.row.now) (numbers right_t right) j in
          let y = numbers right_t right (q * columns + j) in
          let inside = element_inside right_t j columns (columns * size_of right_t) refl b in
          let is : numbers right_t (between (q * room) ((q + 1) * room) right) j ≡ y = element_of_part right_t right (q * columns) (q * room) ((q + 1) * room) j starts (omega arith) in
          c.add_multiple.ensures j s b (c.loop-q.invariant.done j b)
          ∙ (λ i. element_bytes Little t (s +ℤ factor i *ℤ is i))
          ∙ same_bytes t (s +ℤ wrapped t l *ℤ y) (s +ℤ l *ℤ y) (added_left t c.requires.integer s l y)
          ∙ ap (element_bytes Little t) (sym (inner_product-more (numbers c.args.left_t c.args.row.now) (λ k. numbers right_t right (k * columns + j)) q));
    }

pub returns : goal.returns
returns c j b =
    let all : c.loop-q.q ≡ c.args.sizes.inner = omega arith in
    subst (λ n. HasNumber c.args.t c.loop-q.out j (row_product n c.args.sizes.columns (numbers c.args.left_t c.args.row.now) (numbers c.args.right_t c.args.right.now) j)) all (c.loop-q.invariant.done j b)
