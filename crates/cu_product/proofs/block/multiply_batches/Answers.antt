use Rattle.std.proofs.Common.{rules, ◌≡◌, ◌*◌, ◌<◌, ◌∷◌, ◌++◌, [], suc, length, ◌+◌, ◌-◌, ◌≤◌, ◌/◌, arith, ap, sym, ◌∙◌, refl, ⊎_elim}
use Rattle.std.proofs.Math.Nat.{mul-le-mul_right}
use Rattle.std.proofs.lemmas.Bool.{cases_lt}
use Rattle.std.proofs.lemmas.List.Edits.{length-between}
use Rattle.cu_num.specs.Dtype.{size_of}
use Rattle.cu_num.specs.Element.{element_bytes}
use Rattle.cu_num.specs.declared.layout.Endian.TheVariants.{Little}
use Rattle.cu_shape.specs.Index.{product, place_of, index_at}
use Rattle.cu_shape.proofs.Places.{inside-length, place-below, index-place}
use Rattle.cu_product.specs.Block.{product_sizes, left_number, right_number}
use Rattle.cu_product.proofs.Batches.{place_batch, total_of, has_some, room_within, element_in_matrix, whole_parts}
use Rattle.cu_product.proofs.Parts.{part_ends, element_inside, size_positive, length-put_mid, bytes_below, bytes_inside}
use Rattle.cu_product.proofs.Sums.{inner_product_same}
use Rattle.cu_product.proofs.block.multiply_batches.Goals as goal

pub overflow_mul-room : goal.overflow_mul-room
overflow_mul-room c =
    let dims = c.args.dims.now in
    let d = product dims.batch in
    let own_total = total_of dims.batch dims.m dims.n (size_of c.args.t) (size_of c.args.t) (length c.args.out.now) refl c.requires.out in
    let some = has_some d dims.m dims.n (size_of c.args.t) (length c.args.out.now) own_total c.requires.some in
    omega (arith, (room_within d dims.m dims.n (size_of c.args.t) (length c.args.out.now) own_total some.batch (size_positive c.args.t)).0)

pub overflow_mul-room-2 : goal.overflow_mul-room-2
overflow_mul-room-2 c =
    let dims = c.args.dims.now in
    let d = product dims.batch in
    let room = dims.m * dims.n * c.size.result in
    let total = total_of dims.batch dims.m dims.n (size_of c.args.t) c.size.result (length c.args.out.now) c.size.ensures c.requires.out in
    let some = has_some d dims.m dims.n c.size.result (length c.args.out.now) total c.requires.some in
    let positive : 0 < c.size.result = let own = size_positive c.args.t in omega (arith, c.size.ensures) in
    omega (arith, (room_within d dims.m dims.n c.size.result (length c.args.out.now) total some.batch positive).1)

pub nonzero_div-p-end : goal.nonzero_div-p-end
nonzero_div-p-end c =
    let dims = c.args.dims.now in
    let d = product dims.batch in
    let room = dims.m * dims.n * c.size.result in
    let total = total_of dims.batch dims.m dims.n (size_of c.args.t) c.size.result (length c.args.out.now) c.size.ensures c.requires.out in
    let some = has_some d dims.m dims.n c.size.result (length c.args.out.now) total c.requires.some in
    some.room

pub index_of-at-requires : goal.index_of-at-requires
index_of-at-requires c =
    let dims = c.args.dims.now in
    let d = product dims.batch in
    let room = dims.m * dims.n * c.size.result in
    let total = total_of dims.batch dims.m dims.n (size_of c.args.t) c.size.result (length c.args.out.now) c.size.ensures c.requires.out in
    let some = has_some d dims.m dims.n c.size.result (length c.args.out.now) total c.requires.some in
    let count : length c.args.out.now / room ≡ d = whole_parts d room (length c.args.out.now) total some.room in
    let below : c.loop-p.p < d = omega (arith, count, c.loop-p-test.true) in
    below

pub overflow_mul-part : goal.overflow_mul-part
overflow_mul-part c =
    let dims = c.args.dims.now in
    let d = product dims.batch in
    let room = dims.m * dims.n * c.size.result in
    let total = total_of dims.batch dims.m dims.n (size_of c.args.t) c.size.result (length c.args.out.now) c.size.ensures c.requires.out in
    let some = has_some d dims.m dims.n c.size.result (length c.args.out.now) total c.requires.some in
    let count : length c.args.out.now / room ≡ d = whole_parts d room (length c.args.out.now) total some.room in
    let below : c.loop-p.p < d = omega (arith, count, c.loop-p-test.true) in
    let ends = part_ends d room c.loop-p.p (length c.args.out.now) total below in
    omega (arith, ends.0, ends.1)

pub overflow_mul-part-in-loop-p : goal.overflow_mul-part-in-loop-p
overflow_mul-part-in-loop-p c =
    let dims = c.args.dims.now in
    let d = product dims.batch in
    let room = dims.m * dims.n * c.size.result in
    let total = total_of dims.batch dims.m dims.n (size_of c.args.t) c.size.result (length c.args.out.now) c.size.ensures c.requires.out in
    let some = has_some d dims.m dims.n c.size.result (length c.args.out.now) total c.requires.some in
    let count : length c.args.out.now / room ≡ d = whole_parts d room (length c.args.out.now) total some.room in
    let below : c.loop-p.p < d = omega (arith, count, c.loop-p-test.true) in
    let ends = part_ends d room c.loop-p.p (length c.args.out.now) total below in
    omega (arith, ends.0, ends.1)

pub slice_bounds-part-end : goal.slice_bounds-part-end
slice_bounds-part-end c =
    let dims = c.args.dims.now in
    let d = product dims.batch in
    let room = dims.m * dims.n * c.size.result in
    let total = total_of dims.batch dims.m dims.n (size_of c.args.t) c.size.result (length c.args.out.now) c.size.ensures c.requires.out in
    let some = has_some d dims.m dims.n c.size.result (length c.args.out.now) total c.requires.some in
    let count : length c.args.out.now / room ≡ d = whole_parts d room (length c.args.out.now) total some.room in
    let below : c.loop-p.p < d = omega (arith, count, c.loop-p-test.true) in
    let ends = part_ends d room c.loop-p.p (length c.args.out.now) total below in
    search rules

pub loop-p-preserved : goal.loop-p-preserved
loop-p-preserved c =
    let dims = c.args.dims.now in
    let d = product dims.batch in
    let room = dims.m * dims.n * c.size.result in
    let total = total_of dims.batch dims.m dims.n (size_of c.args.t) c.size.result (length c.args.out.now) c.size.ensures c.requires.out in
    let some = has_some d dims.m dims.n c.size.result (length c.args.out.now) total c.requires.some in
    let count : length c.args.out.now / room ≡ d = whole_parts d room (length c.args.out.now) total some.room in
    let below : c.loop-p.p < d = omega (arith, count, c.loop-p-test.true) in
    let ends = part_ends d room c.loop-p.p (length c.args.out.now) total below in
    let t = c.args.t in
    let p = c.loop-p.p in
    let m = dims.m in
    let n = dims.n in
    let k = dims.k in
    let out = c.loop-p.out in
    let new = c.multiply_matrices.new.out in
    let a = p * room in
    let more = (p + 1) * room - a in
    let same = c.loop-p.invariant.same_length in
    let long : length new ≡ more = c.multiply_matrices.auto.out ∙ length-between out a ((p + 1) * room) (omega (arith, ends.1, same)) in
    let room_is : room ≡ m * n * size_of t = ap (λ s. m * n * s) c.size.ensures in
    let begins : a ≡ p * (m * n) * size_of t = ap (λ s. p * s) room_is ∙ omega arith in
    let new_long : length new ≡ m * n * size_of t = long ∙ (let one : more ≡ room = omega (arith, ends.0) in one) ∙ room_is in
    let left = left_number c.args.left_t dims c.args.left.now in
    let right = right_number c.args.right_t dims c.args.right.now in
    record {
      same_length = length-put_mid a more out new long (omega (arith, ends.0, ends.1, same)) ∙ same;
      done = λ b i j inside before x y.
          let place = place_batch dims.batch b m n i j (inside-length dims.batch b inside) in
          let q = place_of dims.batch b in
          let in_matrix = element_in_matrix m n i j x y in
          ⊎_elim
          (λ less.
          let parts_before : (q + 1) * (m * n) ≤ p * (m * n) = mul-le-mul_right (m * n) (let l : q + 1 ≤ p = omega arith in l) in
          let end_before : suc (q * (m * n) + (i * n + j)) * size_of t ≤ p * (m * n) * size_of t = mul-le-mul_right (size_of t) (let l : suc (q * (m * n) + (i * n + j)) ≤ p * (m * n) = omega arith in l) in
          let at : place_of (product_sizes dims) (b ++ i ∷ j ∷ []) * size_of t ≡ (q * (m * n) + (i * n + j)) * size_of t = ap (λ z. z * size_of t) place in
          bytes_below t a more out new (place_of (product_sizes dims) (b ++ i ∷ j ∷ [])) (omega (arith, at)) (omega (arith, ends.0, ends.1, same)) ∙ c.loop-p.invariant.done b i j inside less x y)
          (λ rest.
          let is : q ≡ p = omega arith in
          let index : c.index_of-at.result ≡ b = c.index_of-at.ensures.index ∙ ap (index_at dims.batch) (sym is) ∙ index-place dims.batch b inside in
          let at : place_of (product_sizes dims) (b ++ i ∷ j ∷ []) * size_of t ≡ a + (i * n + j) * size_of t = ap (λ z. z * size_of t) (place ∙ ap (λ z. z * (m * n) + (i * n + j)) is) ∙ omega (arith, begins) in
          bytes_inside t a more out new (place_of (product_sizes dims) (b ++ i ∷ j ∷ [])) (i * n + j) at (element_inside t (i * n + j) (m * n) (length new) new_long in_matrix) (omega (arith, ends.0, ends.1, same))
          ∙ c.multiply_matrices.ensures i j x y
          ∙ ap (element_bytes Little t)
          (inner_product_same _ _ (left b i) (λ z. right b z j) k
          (λ z e. (
            c.matrix_at-left_matrix.ensures.elements i z x e ∙ ap (λ idx. left idx i z) index,
            c.matrix_at-right_matrix.ensures.elements z j e y ∙ ap (λ idx. right idx z j) index,
          ))))
          (cases_lt q p);
    }

pub returns : goal.returns
returns c = λ b i j inside x y.
    let dims = c.args.dims.now in
    let d = product dims.batch in
    let room = dims.m * dims.n * c.size.result in
    let total = total_of dims.batch dims.m dims.n (size_of c.args.t) c.size.result (length c.args.out.now) c.size.ensures c.requires.out in
    let some = has_some d dims.m dims.n c.size.result (length c.args.out.now) total c.requires.some in
    let count : length c.args.out.now / room ≡ d = whole_parts d room (length c.args.out.now) total some.room in
    let last = place-below dims.batch b inside in
    c.loop-p.invariant.done b i j inside (omega (arith, count, c.loop-p-test.false, last)) x y
