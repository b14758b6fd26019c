use Rattle.std.proofs.Common.{rules, ◌≡◌, ◌*◌, ◌<◌, length, ◌+◌, arith, ap, sym, ◌∙◌, refl}
use Rattle.cu_num.specs.Dtype.{size_of}
use Rattle.cu_num.specs.Element.{element_at}
use Rattle.cu_num.specs.declared.layout.Endian.TheVariants.{Little}
use Rattle.cu_shape.specs.Index.{product, place_of, back}
use Rattle.cu_shape.proofs.Places.{inside-length, inside-positive}
use Rattle.cu_product.proofs.Batches.{place_batch, total_of, room_within, batch_within, element_in_matrix, rank_within, product_positive}
use Rattle.cu_product.proofs.Parts.{part_ends, element_of_part, element_inside, size_positive}
use Rattle.cu_product.proofs.block.matrix_at.Goals as goal

pub overflow_mul-room : goal.overflow_mul-room
overflow_mul-room c =
    let d = product c.args.batch.now in
    let some = inside-positive c.args.batch.now (back c.args.batch.now c.args.at.now) c.requires.read in
    let total = total_of c.args.batch.now c.args.rows c.args.columns (size_of c.args.t) (size_of c.args.t) (length c.args.bytes.now) refl c.requires.bytes in
    let within = room_within d c.args.rows c.args.columns (size_of c.args.t) (length c.args.bytes.now) total some (size_positive c.args.t) in
    omega (arith, within.0)

pub overflow_mul-room-2 : goal.overflow_mul-room-2
overflow_mul-room-2 c =
    let d = product c.args.batch.now in
    let some = inside-positive c.args.batch.now (back c.args.batch.now c.args.at.now) c.requires.read in
    let total = total_of c.args.batch.now c.args.rows c.args.columns (size_of c.args.t) c.size.result (length c.args.bytes.now) c.size.ensures c.requires.bytes in
    let positive : 0 < c.size.result = let own = size_positive c.args.t in omega (arith, c.size.ensures) in
    let within = room_within d c.args.rows c.args.columns c.size.result (length c.args.bytes.now) total some positive in
    omega (arith, within.1)

pub back-requires : goal.back-requires
back-requires c = rank_within c.args.batch.now c.args.at.now c.requires.read

pub place-requires-clause-counted : goal.place-requires-clause-counted
place-requires-clause-counted c =
    let d = product c.args.batch.now in
    let some = inside-positive c.args.batch.now (back c.args.batch.now c.args.at.now) c.requires.read in
    let total = total_of c.args.batch.now c.args.rows c.args.columns (size_of c.args.t) c.size.result (length c.args.bytes.now) c.size.ensures c.requires.bytes in
    let positive : 0 < c.size.result = let own = size_positive c.args.t in omega (arith, c.size.ensures) in
    let room = product_positive (c.args.rows * c.args.columns) c.size.result (product_positive c.args.rows c.args.columns c.requires.some_rows c.requires.some_columns) positive in
    let few = batch_within d (c.args.rows * c.args.columns * c.size.result) (length c.args.bytes.now) total room in
    omega arith

pub overflow_mul-first : goal.overflow_mul-first
overflow_mul-first c =
    let d = product c.args.batch.now in
    let some = inside-positive c.args.batch.now (back c.args.batch.now c.args.at.now) c.requires.read in
    let total = total_of c.args.batch.now c.args.rows c.args.columns (size_of c.args.t) c.size.result (length c.args.bytes.now) c.size.ensures c.requires.bytes in
    let ends = part_ends d (c.args.rows * c.args.columns * c.size.result) c.place.result (length c.args.bytes.now) total c.place.ensures.below in
    omega (arith, ends.0, ends.1)

pub overflow_add-result : goal.overflow_add-result
overflow_add-result c =
    let d = product c.args.batch.now in
    let some = inside-positive c.args.batch.now (back c.args.batch.now c.args.at.now) c.requires.read in
    let total = total_of c.args.batch.now c.args.rows c.args.columns (size_of c.args.t) c.size.result (length c.args.bytes.now) c.size.ensures c.requires.bytes in
    let ends = part_ends d (c.args.rows * c.args.columns * c.size.result) c.place.result (length c.args.bytes.now) total c.place.ensures.below in
    omega (arith, ends.0, ends.1)

pub slice_bounds-result-end : goal.slice_bounds-result-end
slice_bounds-result-end c =
    let d = product c.args.batch.now in
    let some = inside-positive c.args.batch.now (back c.args.batch.now c.args.at.now) c.requires.read in
    let total = total_of c.args.batch.now c.args.rows c.args.columns (size_of c.args.t) c.size.result (length c.args.bytes.now) c.size.ensures c.requires.bytes in
    let ends = part_ends d (c.args.rows * c.args.columns * c.size.result) c.place.result (length c.args.bytes.now) total c.place.ensures.below in
    search rules

pub returns-clause-elements : goal.returns-clause-elements
returns-clause-elements c = λ i j p q.
    let t = c.args.t in
    let rows = c.args.rows in
    let columns = c.args.columns in
    let read = back c.args.batch.now c.args.at.now in
    let size = c.size.result in
    let from = c.place.result * (rows * columns * size) in
    let begins : from ≡ c.place.result * (rows * columns) * size_of t = ap (λ s. c.place.result * (rows * columns * s)) c.size.ensures ∙ omega arith in
    let inside = element_inside t (i * columns + j) (rows * columns) (rows * columns * size_of t) refl (element_in_matrix rows columns i j p q) in
    let room : rows * columns * size ≡ rows * columns * size_of t = ap (λ s. rows * columns * s) c.size.ensures in
    let place : c.place.result ≡ place_of c.args.batch.now read = c.place.ensures.place ∙ ap (place_of c.args.batch.now) c.back.ensures in
    element_of_part t c.args.bytes.now (c.place.result * (rows * columns)) from (from + rows * columns * size) (i * columns + j) begins (omega arith)
    ∙ ap (element_at Little t c.args.bytes.now)
    (ap (λ k. k * (rows * columns) + (i * columns + j)) place ∙ sym (place_batch c.args.batch.now read rows columns i j (inside-length c.args.batch.now read c.requires.read)))
