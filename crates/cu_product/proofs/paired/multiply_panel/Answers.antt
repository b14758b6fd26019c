use Rattle.std.proofs.Common.{◌≡◌, ◌≤◌, ◌<◌, ◌+◌, ◌-◌, ◌*◌, ◌/◌, ℕ, length, arith, ap, sym, subst, ◌∙◌, refl, ⊎_elim}
use Rattle.std.proofs.lemmas.Bool.{cases_lt}
use Rattle.std.proofs.lemmas.List.Edits.{length-between}
use borrow.Rule.Slice.PartMut.{put_mid}
use Rattle.std.specs.List.{between}
use Rattle.cu_num.specs.Dtype.{size_of}
use Rattle.cu_num.specs.Element.{element_bytes}
use Rattle.cu_num.specs.declared.layout.Endian.TheVariants.{Little}
use Rattle.cu_reduce.specs.Numbers.{HasNumber}
use Rattle.cu_product.specs.Block.{inner_product}
use Rattle.cu_product.specs.Matrices.{numbers}
use Rattle.cu_product.specs.Pairs.{column}
use Rattle.cu_product.proofs.Pairs.{part_place, place_before, place_beside, place_behind}
use Rattle.cu_product.proofs.Parts.{part_ends, part_room, place_within, element_of_part, element_inside, element_small, length-put_mid, bytes_below, bytes_inside, bytes_beyond}
use Rattle.cu_product.proofs.Sums.{inner_product_same}
use Rattle.cu_product.proofs.paired.multiply_panel.Goals as goal

pub overflow_mul-row : goal.overflow_mul-row
overflow_mul-row c =
    let s = c.size-width.result in
    let row_total : length c.args.left.now ≡ c.args.sizes.rows * (c.args.sizes.inner * s) = c.requires.left ∙ ap (λ k. c.args.sizes.rows * c.args.sizes.inner * k) (sym c.size-width.ensures) ∙ omega arith in
    let row_ends = part_ends c.args.sizes.rows (c.args.sizes.inner * s) c.loop-i.i (length c.args.left.now) row_total c.loop-i-test.true in
    omega arith

pub overflow_mul-row-in-loop-i : goal.overflow_mul-row-in-loop-i
overflow_mul-row-in-loop-i c =
    let s = c.size-width.result in
    let row_total : length c.args.left.now ≡ c.args.sizes.rows * (c.args.sizes.inner * s) = c.requires.left ∙ ap (λ k. c.args.sizes.rows * c.args.sizes.inner * k) (sym c.size-width.ensures) ∙ omega arith in
    let row_ends = part_ends c.args.sizes.rows (c.args.sizes.inner * s) c.loop-i.i (length c.args.left.now) row_total c.loop-i-test.true in
    omega arith

pub slice_bounds-row-end : goal.slice_bounds-row-end
slice_bounds-row-end c =
    let s = c.size-width.result in
    let row_total : length c.args.left.now ≡ c.args.sizes.rows * (c.args.sizes.inner * s) = c.requires.left ∙ ap (λ k. c.args.sizes.rows * c.args.sizes.inner * k) (sym c.size-width.ensures) ∙ omega arith in
    let row_ends = part_ends c.args.sizes.rows (c.args.sizes.inner * s) c.loop-i.i (length c.args.left.now) row_total c.loop-i-test.true in
    row_ends.1

pub overflow_add-at-in-loop-i : goal.overflow_add-at-in-loop-i
overflow_add-at-in-loop-i c =
    let s = c.size-width.result in
    let row_total : length c.args.left.now ≡ c.args.sizes.rows * (c.args.sizes.inner * s) = c.requires.left ∙ ap (λ k. c.args.sizes.rows * c.args.sizes.inner * k) (sym c.size-width.ensures) ∙ omega arith in
    let row_ends = part_ends c.args.sizes.rows (c.args.sizes.inner * s) c.loop-i.i (length c.args.left.now) row_total c.loop-i-test.true in
    let out_total : length c.args.out.now ≡ c.args.sizes.rows * c.args.sizes.columns * s = c.requires.out ∙ ap (λ k. c.args.sizes.rows * c.args.sizes.columns * k) (sym c.size-width.ensures) in
    let out_ends = part_place c.args.sizes.rows c.args.sizes.columns c.args.first c.loop-i.i s (length c.args.out.now) out_total c.loop-i-test.true c.requires.fits in
    let same = c.loop-i.invariant.same_length in
    omega arith

pub slice_bounds-multiply_part-end : goal.slice_bounds-multiply_part-end
slice_bounds-multiply_part-end c =
    let s = c.size-width.result in
    let row_total : length c.args.left.now ≡ c.args.sizes.rows * (c.args.sizes.inner * s) = c.requires.left ∙ ap (λ k. c.args.sizes.rows * c.args.sizes.inner * k) (sym c.size-width.ensures) ∙ omega arith in
    let row_ends = part_ends c.args.sizes.rows (c.args.sizes.inner * s) c.loop-i.i (length c.args.left.now) row_total c.loop-i-test.true in
    let out_total : length c.args.out.now ≡ c.args.sizes.rows * c.args.sizes.columns * s = c.requires.out ∙ ap (λ k. c.args.sizes.rows * c.args.sizes.columns * k) (sym c.size-width.ensures) in
    let out_ends = part_place c.args.sizes.rows c.args.sizes.columns c.args.first c.loop-i.i s (length c.args.out.now) out_total c.loop-i-test.true c.requires.fits in
    let same = c.loop-i.invariant.same_length in
    omega arith

pub overflow_mul-row_room : goal.overflow_mul-row_room
overflow_mul-row_room c =
    let s = c.size-width.result in
    let row_total : length c.args.left.now ≡ c.args.sizes.rows * (c.args.sizes.inner * s) = c.requires.left ∙ ap (λ k. c.args.sizes.rows * c.args.sizes.inner * k) (sym c.size-width.ensures) ∙ omega arith in
    let least = part_room c.args.sizes.rows (c.args.sizes.inner * s) (length c.args.left.now) row_total c.requires.some_rows in omega arith

pub slice_bounds-row-start : goal.slice_bounds-row-start
slice_bounds-row-start c =
    let s = c.size-width.result in
    let row_total : length c.args.left.now ≡ c.args.sizes.rows * (c.args.sizes.inner * s) = c.requires.left ∙ ap (λ k. c.args.sizes.rows * c.args.sizes.inner * k) (sym c.size-width.ensures) ∙ omega arith in
    let row_ends = part_ends c.args.sizes.rows (c.args.sizes.inner * s) c.loop-i.i (length c.args.left.now) row_total c.loop-i-test.true in
    let from = row_ends.0 in omega arith

pub overflow_mul-at : goal.overflow_mul-at
overflow_mul-at c =
    let less = place_within c.args.sizes.rows c.args.sizes.columns c.loop-i.i c.args.first c.loop-i-test.true (let fits = c.requires.fits in omega arith) in
    let small = element_small c.args.t (c.loop-i.i * c.args.sizes.columns + c.args.first) (c.args.sizes.rows * c.args.sizes.columns) (length c.args.out.now) c.requires.out less in
    omega arith

pub overflow_add-at : goal.overflow_add-at
overflow_add-at c =
    let less = place_within c.args.sizes.rows c.args.sizes.columns c.loop-i.i c.args.first c.loop-i-test.true (let fits = c.requires.fits in omega arith) in
    let small = element_small c.args.t (c.loop-i.i * c.args.sizes.columns + c.args.first) (c.args.sizes.rows * c.args.sizes.columns) (length c.args.out.now) c.requires.out less in
    omega arith

pub overflow_mul-at-in-loop-i : goal.overflow_mul-at-in-loop-i
overflow_mul-at-in-loop-i c =
    let s = c.size-width.result in
    let out_total : length c.args.out.now ≡ c.args.sizes.rows * c.args.sizes.columns * s = c.requires.out ∙ ap (λ k. c.args.sizes.rows * c.args.sizes.columns * k) (sym c.size-width.ensures) in
    let out_ends = part_place c.args.sizes.rows c.args.sizes.columns c.args.first c.loop-i.i s (length c.args.out.now) out_total c.loop-i-test.true c.requires.fits in
    omega arith

pub multiply_part-requires-clause-row : goal.multiply_part-requires-clause-row
multiply_part-requires-clause-row c =
    let s = c.size-width.result in
    let row_total : length c.args.left.now ≡ c.args.sizes.rows * (c.args.sizes.inner * s) = c.requires.left ∙ ap (λ k. c.args.sizes.rows * c.args.sizes.inner * k) (sym c.size-width.ensures) ∙ omega arith in
    let row_ends = part_ends c.args.sizes.rows (c.args.sizes.inner * s) c.loop-i.i (length c.args.left.now) row_total c.loop-i-test.true in
    let whole : c.args.sizes.inner ≡ 2 * (c.args.sizes.inner / 2) = (let even = c.requires.even in omega arith) in
    length-between c.args.left.now (c.loop-i.i * (c.args.sizes.inner * s)) ((c.loop-i.i + 1) * (c.args.sizes.inner * s)) row_ends.1
    ∙ (let from = row_ends.0 in omega arith) ∙ ap (λ k. c.args.sizes.inner * k) c.size-width.ensures ∙ ap (λ n. n * size_of c.args.t) whole

pub multiply_part-requires-clause-out : goal.multiply_part-requires-clause-out
multiply_part-requires-clause-out c =
    let s = c.size-width.result in
    let out_total : length c.args.out.now ≡ c.args.sizes.rows * c.args.sizes.columns * s = c.requires.out ∙ ap (λ k. c.args.sizes.rows * c.args.sizes.columns * k) (sym c.size-width.ensures) in
    let out_ends = part_place c.args.sizes.rows c.args.sizes.columns c.args.first c.loop-i.i s (length c.args.out.now) out_total c.loop-i-test.true c.requires.fits in
    let a = (c.loop-i.i * c.args.sizes.columns + c.args.first) * s in
    let same = c.loop-i.invariant.same_length in
    length-between c.loop-i.out a (a + 8 * s) (omega arith) ∙ (let left : a + 8 * s - a ≡ 8 * s = omega arith in left) ∙ ap (λ k. 8 * k) c.size-width.ensures

pub loop-i-init : goal.loop-i-init
loop-i-init c = record { same_length = refl; products = λ i j b d. absurd (omega arith); others = λ i j b d. refl }

pub multiply_part-requires-clause-some : goal.multiply_part-requires-clause-some
multiply_part-requires-clause-some c = let some = c.requires.some in let even = c.requires.even in omega arith

pub multiply_part-requires-clause-few : goal.multiply_part-requires-clause-few
multiply_part-requires-clause-few c = let few = c.requires.few in omega arith

pub multiply_part-requires-clause-panel : goal.multiply_part-requires-clause-panel
multiply_part-requires-clause-panel c = c.requires.panel

pub multiply_part-requires-clause-zeros : goal.multiply_part-requires-clause-zeros
multiply_part-requires-clause-zeros c = λ q l. c.requires.zeros q (let even = c.requires.even in omega arith)

pub multiply_part-requires-clause-own : goal.multiply_part-requires-clause-own
multiply_part-requires-clause-own c = c.requires.own

pub multiply_part-requires-clause-own_sums : goal.multiply_part-requires-clause-own_sums
multiply_part-requires-clause-own_sums c = c.requires.own_sums

pub loop-i-preserved : goal.loop-i-preserved
loop-i-preserved c =
    let t = c.args.t in
    let left = c.args.left.now in
    let rows = c.args.sizes.rows in
    let inner = c.args.sizes.inner in
    let columns = c.args.sizes.columns in
    let first = c.args.first in
    let at = c.loop-i.i in
    let out = c.loop-i.out in
    let new = c.multiply_part.new.out in
    let s = c.size-width.result in
    let row_total : length c.args.left.now ≡ c.args.sizes.rows * (c.args.sizes.inner * s) = c.requires.left ∙ ap (λ k. c.args.sizes.rows * c.args.sizes.inner * k) (sym c.size-width.ensures) ∙ omega arith in
    let row_ends = part_ends c.args.sizes.rows (c.args.sizes.inner * s) c.loop-i.i (length c.args.left.now) row_total c.loop-i-test.true in
    let out_total : length c.args.out.now ≡ c.args.sizes.rows * c.args.sizes.columns * s = c.requires.out ∙ ap (λ k. c.args.sizes.rows * c.args.sizes.columns * k) (sym c.size-width.ensures) in
    let out_ends = part_place c.args.sizes.rows c.args.sizes.columns c.args.first c.loop-i.i s (length c.args.out.now) out_total c.loop-i-test.true c.requires.fits in
    let a = (at * columns + first) * s in
    let n = a + 8 * s - a in
    let row_room = inner * s in
    let same = c.loop-i.invariant.same_length in
    let begins : a ≡ (at * columns + first) * size_of t = ap (λ k. (at * columns + first) * k) c.size-width.ensures in
    let row_begins : at * row_room ≡ at * inner * size_of t = ap (λ k. at * (inner * k)) c.size-width.ensures ∙ omega arith in
    let row_is : row_room ≡ inner * size_of t = ap (λ k. inner * k) c.size-width.ensures in
    let four : 8 * s ≡ 8 * size_of t = ap (λ k. 8 * k) c.size-width.ensures in
    let long : length new ≡ n = c.multiply_part.auto.out ∙ length-between out a (a + 8 * s) (omega arith) in
    let new_long : length new ≡ 8 * size_of t = long ∙ omega arith in
    let starts : a ≤ length out = omega arith in
    let whole : 2 * (inner / 2) ≡ inner = (let even = c.requires.even in omega arith) in
    record {
      same_length = length-put_mid a n out new long (omega arith) ∙ same;
      products = λ i j b d. ⊎_elim
          (λ less.
          let before = place_before columns first i at (first + j) (size_of t) less (omega arith) in
          bytes_below t a n out new (i * columns + (first + j)) (omega arith) starts ∙ c.loop-i.invariant.products i j less d)
          (λ more.
          let is : at ≡ i = omega arith in
          let place : (at * columns + (first + j)) * size_of t ≡ a + j * size_of t = sym (ap (λ k. k + j * size_of t) begins ∙ omega arith) in
          let room_there = element_inside t j 8 (length new) new_long d in
          let own = numbers t (between (at * row_room) ((at + 1) * row_room) left) in
          let row : (q : ℕ) → q < inner → own q ≡ numbers t left (at * inner + q) =
          λ q e.
          let inside = element_inside t q inner (inner * size_of t) refl e in
          element_of_part t left (at * inner) (at * row_room) ((at + 1) * row_room) q row_begins (omega arith) in
          let right = column t c.args.panel.now j in
          subst (λ k. HasNumber t (put_mid a n out new) (k * columns + (first + j)) (inner_product (λ q. numbers t left (k * inner + q)) right inner)) is
          (bytes_inside t a n out new (at * columns + (first + j)) j place room_there starts
          ∙ c.multiply_part.ensures j d
          ∙ ap (λ h. element_bytes Little t (inner_product own right h)) whole
          ∙ ap (element_bytes Little t) (inner_product_same own right (λ q. numbers t left (at * inner + q)) right inner (λ q e. (row q e, refl)))))
          (cases_lt i at);
      others = λ i j b d. ⊎_elim
          (λ less.
          let before = place_before columns first i at j (size_of t) less (omega (arith, c.requires.fits)) in
          bytes_below t a n out new (i * columns + j) (omega arith) starts ∙ c.loop-i.invariant.others i j b d)
          (λ more. ⊎_elim
          (λ later.
          let behind = place_behind columns first i at j (size_of t) later c.requires.fits in
          bytes_beyond t a n out new (i * columns + j) long (omega arith) starts ∙ c.loop-i.invariant.others i j b d)
          (λ rest.
          let is : i ≡ at = omega arith in
          let beside : (i * columns + j) * size_of t + size_of t ≤ a = subst (λ k. (k * columns + j) * size_of t + size_of t ≤ a) (sym is) (let p = place_beside columns first at j (size_of t) d in omega arith) in
          bytes_below t a n out new (i * columns + j) beside starts ∙ c.loop-i.invariant.others i j b d)
          (cases_lt at i))
          (cases_lt i at);
    }

pub returns-clause-products : goal.returns-clause-products
returns-clause-products c = λ i j p q. c.loop-i.invariant.products i j (let ends = c.loop-i-test.false in omega arith) q

pub returns-clause-others : goal.returns-clause-others
returns-clause-others c = c.loop-i.invariant.others
