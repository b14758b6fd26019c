use Rattle.std.proofs.Common.{◌≡◌, ◌≢◌, ◌≤◌, ◌<◌, ◌+◌, ◌*◌, ℕ, ℤ, length, arith, refl, ap, sym, subst, ◌∙◌, below_more}
use Rattle.std.specs.List.{between}
use Rattle.std.proofs.lemmas.List.Edits.{length-between}
use Rattle.cu_num.specs.Dtype.{size_of}
use Rattle.cu_num.specs.Element.{bytes_at, element_bytes}
use Rattle.cu_num.specs.declared.layout.Endian.TheVariants.{Little}
use Rattle.cu_num.proofs.ElementBytes.{bytes_at-written_at_same, bytes_at-written_at_other, length-written_at, length-element_bytes}
use Rattle.cu_reduce.specs.Numbers.{HasNumber}
use Rattle.cu_product.specs.Block.{inner_product}
use Rattle.cu_product.specs.Matrices.{numbers, row_product}
use Rattle.cu_product.proofs.Parts.{kept, part_ends, part_room, element_of_part, element_inside}
use Rattle.cu_product.proofs.Sums.{read_number, wrapped_bytes, inner_product_same}
use Rattle.cu_product.proofs.column.multiply_column.Goals as goal

pub overflow_mul-room : goal.overflow_mul-room
overflow_mul-room c =
    let room = c.args.sizes.inner * c.size.result in
    let total : length c.args.left.now ≡ c.args.sizes.rows * room = c.requires.left ∙ ap (λ s. c.args.sizes.rows * c.args.sizes.inner * s) (sym c.size.ensures) ∙ omega arith in
    let least = part_room c.args.sizes.rows room (length c.args.left.now) total c.requires.some_rows in omega arith

pub overflow_mul-i : goal.overflow_mul-i
overflow_mul-i c =
    let room = c.args.sizes.inner * c.size.result in
    let total : length c.args.left.now ≡ c.args.sizes.rows * room = c.requires.left ∙ ap (λ s. c.args.sizes.rows * c.args.sizes.inner * s) (sym c.size.ensures) ∙ omega arith in
    let ends = part_ends c.args.sizes.rows room c.loop-i.i (length c.args.left.now) total c.loop-i-test.true in
    let from = ends.0 in let to = ends.1 in omega arith

pub overflow_mul-i-in-loop-i : goal.overflow_mul-i-in-loop-i
overflow_mul-i-in-loop-i c =
    let room = c.args.sizes.inner * c.size.result in
    let total : length c.args.left.now ≡ c.args.sizes.rows * room = c.requires.left ∙ ap (λ s. c.args.sizes.rows * c.args.sizes.inner * s) (sym c.size.ensures) ∙ omega arith in
    let ends = part_ends c.args.sizes.rows room c.loop-i.i (length c.args.left.now) total c.loop-i-test.true in
    let to = ends.1 in omega arith

pub slice_bounds-summed-start : goal.slice_bounds-summed-start
slice_bounds-summed-start c =
    let room = c.args.sizes.inner * c.size.result in
    let total : length c.args.left.now ≡ c.args.sizes.rows * room = c.requires.left ∙ ap (λ s. c.args.sizes.rows * c.args.sizes.inner * s) (sym c.size.ensures) ∙ omega arith in
    let ends = part_ends c.args.sizes.rows room c.loop-i.i (length c.args.left.now) total c.loop-i-test.true in
    let from = ends.0 in omega arith

pub slice_bounds-summed-end : goal.slice_bounds-summed-end
slice_bounds-summed-end c =
    let room = c.args.sizes.inner * c.size.result in
    let total : length c.args.left.now ≡ c.args.sizes.rows * room = c.requires.left ∙ ap (λ s. c.args.sizes.rows * c.args.sizes.inner * s) (sym c.size.ensures) ∙ omega arith in
    let ends = part_ends c.args.sizes.rows room c.loop-i.i (length c.args.left.now) total c.loop-i-test.true in
    ends.1

pub summed-sum-requires-clause-row : goal.summed-sum-requires-clause-row
summed-sum-requires-clause-row c =
    let room = c.args.sizes.inner * c.size.result in
    let total : length c.args.left.now ≡ c.args.sizes.rows * room = c.requires.left ∙ ap (λ s. c.args.sizes.rows * c.args.sizes.inner * s) (sym c.size.ensures) ∙ omega arith in
    let ends = part_ends c.args.sizes.rows room c.loop-i.i (length c.args.left.now) total c.loop-i-test.true in
    length-between c.args.left.now (c.loop-i.i * room) ((c.loop-i.i + 1) * room) ends.1 ∙ (let from = ends.0 in omega arith) ∙ ap (λ s. c.args.sizes.inner * s) c.size.ensures

pub save-requires : goal.save-requires
save-requires c = element_inside c.args.t c.loop-i.i c.args.sizes.rows (length c.loop-i.out) (c.loop-i.invariant.same_length ∙ c.requires.out) c.loop-i-test.true

pub loop-i-preserved : goal.loop-i-preserved
loop-i-preserved c =
    let t = c.args.t in
    let i = c.loop-i.i in
    let out = c.loop-i.out in
    let inner = c.args.sizes.inner in
    let left = c.args.left.now in
    let column = numbers t c.args.column.now in
    let room = inner * c.size.result in
    let total : length left ≡ c.args.sizes.rows * room = c.requires.left ∙ ap (λ s. c.args.sizes.rows * inner * s) (sym c.size.ensures) ∙ omega arith in
    let ends = part_ends c.args.sizes.rows room i (length left) total c.loop-i-test.true in
    let begins : i * room ≡ i * inner * size_of t = ap (λ s. i * (inner * s)) c.size.ensures ∙ omega arith in
    let room_is : room ≡ inner * size_of t = ap (λ s. inner * s) c.size.ensures in
    let same = c.loop-i.invariant.same_length in
    let fits : i * size_of t + size_of t ≤ length out = element_inside t i c.args.sizes.rows (length out) (same ∙ c.requires.out) c.loop-i-test.true in
    let part = numbers t (between (i * room) ((i + 1) * room) left) in
    let value = kept c.load.result (record { sfits = c.load.type_inv }) ∙ c.load.ensures.value ∙ read_number t c.summed-sum.result 0 (inner_product part column inner) c.summed-sum.ensures in
    let row : (q : ℕ) → q < inner → part q ≡ numbers t left (i * inner + q) =
    λ q e.
    let inside = element_inside t q inner (inner * size_of t) refl e in
    element_of_part t left (i * inner) (i * room) ((i + 1) * room) q begins (omega arith) in
    record {
      same_length = ap length c.save.ensures ∙ (length-written_at Little t out i _ fits ∙ same);
      done = below_more _ _
          (λ k b. let apart : k ≢ i = omega arith in
          ap (λ all. bytes_at t all k) c.save.ensures ∙ bytes_at-written_at_other t out _ i k apart (length-element_bytes _ t _) fits ∙ c.loop-i.invariant.done k b)
          (ap (λ all. bytes_at t all i) c.save.ensures
          ∙ bytes_at-written_at_same t out _ i (length-element_bytes _ t _) fits
          ∙ ap (element_bytes Little t) value
          ∙ wrapped_bytes t (inner_product part column inner)
          ∙ ap (element_bytes Little t) (inner_product_same part column (λ q. numbers t left (i * inner + q)) column inner (λ q e. (row q e, refl))));
    }

pub returns : goal.returns
returns c i j p q =
    let t = c.args.t in
    let inner = c.args.sizes.inner in
    let columns = c.args.sizes.columns in
    let left : ℕ → ℤ = λ k. numbers t c.args.left.now (i * inner + k) in
    let column = numbers t c.args.column.now in
    let ends = c.loop-i-test.false in
    let first : j ≡ 0 = omega (arith, c.requires.one) in
    let at : i ≡ i * columns + j = (let one : i ≡ i * 1 + 0 = omega arith in one) ∙ (λ k. i * sym c.requires.one k + sym first k) in
    let place : (k : ℕ) → k ≡ k * columns + j = λ k. (let one : k ≡ k * 1 + 0 = omega arith in one) ∙ (λ l. k * sym c.requires.one l + sym first l) in
    subst (λ k. HasNumber t c.loop-i.out k (row_product inner columns left column j)) at
    (c.loop-i.invariant.done i (omega arith)
    ∙ ap (element_bytes Little t) (inner_product_same left column left (λ k. column (k * columns + j)) inner (λ k e. (refl, ap column (place k)))))
