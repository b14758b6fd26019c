use Rattle.std.proofs.Common.{◌≡◌, ◌+◌, ◌+ℤ◌, ◌++◌, ◌*◌, ◌≤◌, suc, length, take, ap, ◌∙◌, arith, rules}
use Rattle.cu_num.specs.Dtype.{size_of}
use Rattle.cu_num.specs.Element.{element_at, element_bytes, bytes_at}
use Rattle.cu_num.specs.declared.layout.Endian.TheVariants.{Little}
use Rattle.cu_pairs.proofs.Parts.{size_positive}
use Rattle.cu_scan.specs.Scanned.{row_element}
use Rattle.cu_scan.proofs.Buffers.{bytes_first, bytes_second}
use Rattle.cu_scan.proofs.RowSums.{row_small, before_row, element_before}
use Rattle.cu_scan.proofs.blocks.next_row.Goals as goal

pub overflow_add-from : goal.overflow_add-from
overflow_add-from c =
    let small = row_small (suc c.args.row) c.args.inner c.args.inner (size_of c.args.acc)
    (length c.args.out.now) c.requires.inner (size_positive c.args.acc) c.requires.out in
    omega arith

pub overflow_add-row : goal.overflow_add-row
overflow_add-row c =
    let small = row_small (suc c.args.row) c.args.inner c.args.inner (size_of c.args.acc)
    (length c.args.out.now) c.requires.inner (size_positive c.args.acc) c.requires.out in
    omega arith

pub returns-clause-adds : goal.returns-clause-adds
returns-clause-adds c q b =
    let acc = c.args.acc in
    let row = c.args.row in
    let inner = c.args.inner in
    let out = c.args.out.now in
    let new = c.add_row.new.out in
    let from = (row + 1) * inner * c.size-size.result in
    let next : row + 1 ≡ suc row = omega arith in
    let cut : from ≡ suc row * inner * size_of acc =
    (λ i. next i * inner * c.size-size.ensures i) in
    let room : from ≤ length out = omega (arith, cut, c.requires.out) in
    let front : c.split_at_mut-done.result.0.now ≡ take from out = search rules in
    let own : element_at Little acc c.row_of-2.result.now q ≡ row_element acc inner out row q =
    c.row_of-2.ensures.elements q b ∙ ap (λ xs. row_element acc inner xs row q) front
    ∙ element_before acc out from (row * inner + q) (before_row row (suc row) inner q
    (size_of acc) from (omega arith) b cut) in
    let next_element : element_at Little c.args.t c.row_of.result.now q
    ≡ row_element c.args.t inner c.args.input.now (suc row) q =
    c.row_of.ensures.elements q b ∙ ap (λ k. row_element c.args.t inner c.args.input.now k q) next in
    ap (λ xs. bytes_at acc (xs ++ new) (suc row * inner + q)) front
    ∙ bytes_second acc (suc row * inner) from out new q cut room
    ∙ c.add_row.ensures.sums q b ∙ (λ i. element_bytes Little acc (own i +ℤ next_element i))

pub returns-clause-keeps : goal.returns-clause-keeps
returns-clause-keeps c r q less b =
    let acc = c.args.acc in
    let row = c.args.row in
    let inner = c.args.inner in
    let out = c.args.out.now in
    let new = c.add_row.new.out in
    let from = (row + 1) * inner * c.size-size.result in
    let next : row + 1 ≡ suc row = omega arith in
    let cut : from ≡ suc row * inner * size_of acc =
    (λ i. next i * inner * c.size-size.ensures i) in
    let room : from ≤ length out = omega (arith, cut, c.requires.out) in
    let front : c.split_at_mut-done.result.0.now ≡ take from out = search rules in
    ap (λ xs. bytes_at acc (xs ++ new) (r * inner + q)) front
    ∙ bytes_first acc from out new (r * inner + q) (before_row r (suc row) inner q
    (size_of acc) from less b cut) room
