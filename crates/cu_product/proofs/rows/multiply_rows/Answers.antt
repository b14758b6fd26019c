use Rattle.std.proofs.Common.{◌≡◌, ◌≤◌, ◌<◌, ◌+◌, ◌-◌, ◌*◌, suc, ℕ, length, arith, ap, sym, ◌∙◌, refl, rules, ⊎_elim}
use Rattle.std.proofs.Math.Nat.{mul-le-mul_right}
use Rattle.std.proofs.lemmas.Bool.{cases_lt}
use Rattle.std.proofs.lemmas.List.Edits.{length-between}
use Rattle.std.specs.List.{between}
use Rattle.cu_num.specs.Dtype.{size_of}
use Rattle.cu_num.specs.Element.{element_bytes}
use Rattle.cu_num.specs.declared.layout.Endian.TheVariants.{Little}
use Rattle.cu_product.specs.Matrices.{numbers}
use Rattle.cu_product.proofs.Parts.{part_ends, part_room, element_of_part, element_inside, length-put_mid, bytes_below, bytes_inside}
use Rattle.cu_product.proofs.Sums.{inner_product_same}
use Rattle.cu_product.proofs.rows.multiply_rows.Goals as goal

pub overflow_mul-row_room : goal.overflow_mul-row_room
overflow_mul-row_room c =
    let row_total : length c.args.left.now ≡ c.args.sizes.rows * (c.args.sizes.inner * c.size.result) = c.requires.left ∙ ap (λ s. c.args.sizes.rows * c.args.sizes.inner * s) (sym c.size.ensures) ∙ omega arith in
    let room = part_room c.args.sizes.rows (c.args.sizes.inner * c.size.result) (length c.args.left.now) row_total c.requires.some_rows in
    omega arith

pub overflow_mul-out_room : goal.overflow_mul-out_room
overflow_mul-out_room c =
    let row_total : length c.args.left.now ≡ c.args.sizes.rows * (c.args.sizes.inner * c.size.result) = c.requires.left ∙ ap (λ s. c.args.sizes.rows * c.args.sizes.inner * s) (sym c.size.ensures) ∙ omega arith in
    let out_total : length c.args.out.now ≡ c.args.sizes.rows * (c.args.sizes.columns * c.size-2.result) = c.requires.out ∙ ap (λ s. c.args.sizes.rows * c.args.sizes.columns * s) (sym c.size-2.ensures) ∙ omega arith in
    let room = part_room c.args.sizes.rows (c.args.sizes.columns * c.size-2.result) (length c.args.out.now) out_total c.requires.some_rows in
    omega arith

pub overflow_mul-row : goal.overflow_mul-row
overflow_mul-row c =
    let row_total : length c.args.left.now ≡ c.args.sizes.rows * (c.args.sizes.inner * c.size.result) = c.requires.left ∙ ap (λ s. c.args.sizes.rows * c.args.sizes.inner * s) (sym c.size.ensures) ∙ omega arith in
    let out_total : length c.args.out.now ≡ c.args.sizes.rows * (c.args.sizes.columns * c.size-2.result) = c.requires.out ∙ ap (λ s. c.args.sizes.rows * c.args.sizes.columns * s) (sym c.size-2.ensures) ∙ omega arith in
    let row_ends = part_ends c.args.sizes.rows (c.args.sizes.inner * c.size.result) c.loop-i.i (length c.args.left.now) row_total c.loop-i-test.true in
    let out_ends = part_ends c.args.sizes.rows (c.args.sizes.columns * c.size-2.result) c.loop-i.i (length c.args.out.now) out_total c.loop-i-test.true in
    omega arith

pub overflow_mul-row-in-loop-i : goal.overflow_mul-row-in-loop-i
overflow_mul-row-in-loop-i c =
    let row_total : length c.args.left.now ≡ c.args.sizes.rows * (c.args.sizes.inner * c.size.result) = c.requires.left ∙ ap (λ s. c.args.sizes.rows * c.args.sizes.inner * s) (sym c.size.ensures) ∙ omega arith in
    let out_total : length c.args.out.now ≡ c.args.sizes.rows * (c.args.sizes.columns * c.size-2.result) = c.requires.out ∙ ap (λ s. c.args.sizes.rows * c.args.sizes.columns * s) (sym c.size-2.ensures) ∙ omega arith in
    let row_ends = part_ends c.args.sizes.rows (c.args.sizes.inner * c.size.result) c.loop-i.i (length c.args.left.now) row_total c.loop-i-test.true in
    let out_ends = part_ends c.args.sizes.rows (c.args.sizes.columns * c.size-2.result) c.loop-i.i (length c.args.out.now) out_total c.loop-i-test.true in
    omega arith

pub overflow_mul-part : goal.overflow_mul-part
overflow_mul-part c =
    let row_total : length c.args.left.now ≡ c.args.sizes.rows * (c.args.sizes.inner * c.size.result) = c.requires.left ∙ ap (λ s. c.args.sizes.rows * c.args.sizes.inner * s) (sym c.size.ensures) ∙ omega arith in
    let out_total : length c.args.out.now ≡ c.args.sizes.rows * (c.args.sizes.columns * c.size-2.result) = c.requires.out ∙ ap (λ s. c.args.sizes.rows * c.args.sizes.columns * s) (sym c.size-2.ensures) ∙ omega arith in
    let row_ends = part_ends c.args.sizes.rows (c.args.sizes.inner * c.size.result) c.loop-i.i (length c.args.left.now) row_total c.loop-i-test.true in
    let out_ends = part_ends c.args.sizes.rows (c.args.sizes.columns * c.size-2.result) c.loop-i.i (length c.args.out.now) out_total c.loop-i-test.true in
    omega arith

pub overflow_mul-part-in-loop-i : goal.overflow_mul-part-in-loop-i
overflow_mul-part-in-loop-i c =
    let row_total : length c.args.left.now ≡ c.args.sizes.rows * (c.args.sizes.inner * c.size.result) = c.requires.left ∙ ap (λ s. c.args.sizes.rows * c.args.sizes.inner * s) (sym c.size.ensures) ∙ omega arith in
    let out_total : length c.args.out.now ≡ c.args.sizes.rows * (c.args.sizes.columns * c.size-2.result) = c.requires.out ∙ ap (λ s. c.args.sizes.rows * c.args.sizes.columns * s) (sym c.size-2.ensures) ∙ omega arith in
    let row_ends = part_ends c.args.sizes.rows (c.args.sizes.inner * c.size.result) c.loop-i.i (length c.args.left.now) row_total c.loop-i-test.true in
    let out_ends = part_ends c.args.sizes.rows (c.args.sizes.columns * c.size-2.result) c.loop-i.i (length c.args.out.now) out_total c.loop-i-test.true in
    omega arith

pub slice_bounds-row-end : goal.slice_bounds-row-end
slice_bounds-row-end c =
    let row_total : length c.args.left.now ≡ c.args.sizes.rows * (c.args.sizes.inner * c.size.result) = c.requires.left ∙ ap (λ s. c.args.sizes.rows * c.args.sizes.inner * s) (sym c.size.ensures) ∙ omega arith in
    let out_total : length c.args.out.now ≡ c.args.sizes.rows * (c.args.sizes.columns * c.size-2.result) = c.requires.out ∙ ap (λ s. c.args.sizes.rows * c.args.sizes.columns * s) (sym c.size-2.ensures) ∙ omega arith in
    let row_ends = part_ends c.args.sizes.rows (c.args.sizes.inner * c.size.result) c.loop-i.i (length c.args.left.now) row_total c.loop-i-test.true in
    let out_ends = part_ends c.args.sizes.rows (c.args.sizes.columns * c.size-2.result) c.loop-i.i (length c.args.out.now) out_total c.loop-i-test.true in
    search rules

pub slice_bounds-part-end : goal.slice_bounds-part-end
slice_bounds-part-end c =
    let row_total : length c.args.left.now ≡ c.args.sizes.rows * (c.args.sizes.inner * c.size.result) = c.requires.left ∙ ap (λ s. c.args.sizes.rows * c.args.sizes.inner * s) (sym c.size.ensures) ∙ omega arith in
    let out_total : length c.args.out.now ≡ c.args.sizes.rows * (c.args.sizes.columns * c.size-2.result) = c.requires.out ∙ ap (λ s. c.args.sizes.rows * c.args.sizes.columns * s) (sym c.size-2.ensures) ∙ omega arith in
    let row_ends = part_ends c.args.sizes.rows (c.args.sizes.inner * c.size.result) c.loop-i.i (length c.args.left.now) row_total c.loop-i-test.true in
    let out_ends = part_ends c.args.sizes.rows (c.args.sizes.columns * c.size-2.result) c.loop-i.i (length c.args.out.now) out_total c.loop-i-test.true in
    search rules

pub loop-i-preserved : goal.loop-i-preserved
loop-i-preserved c =
    let t = c.args.t in
    let left_t = c.args.left_t in
    let left = c.args.left.now in
    let right = numbers c.args.right_t c.args.right.now in
    let rows = c.args.sizes.rows in
    let inner = c.args.sizes.inner in
    let columns = c.args.sizes.columns in
    let at = c.loop-i.i in
    let out = c.loop-i.out in
    let new = c.multiply_row.new.out in
    let room = columns * c.size-2.result in
    let row_room = inner * c.size.result in
    let a = at * room in
    let n = (at + 1) * room - at * room in
    let row_total : length left ≡ rows * row_room = c.requires.left ∙ ap (λ s. rows * inner * s) (sym c.size.ensures) ∙ omega arith in
    let out_total : length c.args.out.now ≡ rows * room = c.requires.out ∙ ap (λ s. rows * columns * s) (sym c.size-2.ensures) ∙ omega arith in
    let row_ends = part_ends rows row_room at (length left) row_total c.loop-i-test.true in
    let out_ends = part_ends rows room at (length c.args.out.now) out_total c.loop-i-test.true in
    let same = c.loop-i.invariant.same_length in
    let own : room ≡ columns * size_of t = ap (λ s. columns * s) c.size-2.ensures in
    let begins : a ≡ at * columns * size_of t = ap (λ s. at * s) own ∙ omega arith in
    let row_begins : at * row_room ≡ at * inner * size_of left_t = ap (λ s. at * (inner * s)) c.size.ensures ∙ omega arith in
    let long : length new ≡ n = c.multiply_row.auto.out ∙ length-between out a ((at + 1) * room) (omega arith) in
    let new_long : length new ≡ columns * size_of t = long ∙ omega arith in
    record {
      same_length = length-put_mid a n out new long (omega arith) ∙ same;
      done = λ i j b d. ⊎_elim
          (λ less.
          let rows_before : (i + 1) * columns ≤ at * columns = mul-le-mul_right columns (let l : i + 1 ≤ at = omega arith in l) in
          let before : suc (i * columns + j) * size_of t ≤ at * columns * size_of t = mul-le-mul_right (size_of t) (let l : suc (i * columns + j) ≤ at * columns = omega arith in l) in
          bytes_below t a n out new (i * columns + j) (omega arith) (omega arith) ∙ c.loop-i.invariant.done i j less d)
          (λ rest.
          let is : i ≡ at = omega arith in
          let place : (i * columns + j) * size_of t ≡ a + j * size_of t = ap (λ k. (k * columns + j) * size_of t) is ∙ omega arith in
          let room_there = element_inside t j columns (length new) new_long d in
          let row : (q : ℕ) → q < inner → numbers left_t (between (at * row_room) ((at + 1) * row_room) left) q ≡ numbers left_t left (i * inner + q) =
          λ q e.
          let inside = element_inside left_t q inner (inner * size_of left_t) refl e in
          let room_is : row_room ≡ inner * size_of left_t = ap (λ s. inner * s) c.size.ensures in
          element_of_part left_t left (at * inner) (at * row_room) ((at + 1) * row_room) q row_begins (omega arith) ∙ ap (λ k. numbers left_t left (k * inner + q)) (sym is) in
          bytes_inside t a n out new (i * columns + j) j place room_there (omega arith)
          ∙ c.multiply_row.ensures j d
          ∙ ap (element_bytes Little t)
          (inner_product_same (numbers left_t (between (at * row_room) ((at + 1) * row_room) left)) (λ q. right (q * columns + j)) (λ q. numbers left_t left (i * inner + q)) (λ q. right (q * columns + j)) inner
          (λ q e. (row q e, refl))))
          (cases_lt i at);
    }
