use Rattle.std.proofs.Common.{◌≡◌, ◌+◌, ◌+ℤ◌, ◌*◌, length, take, drop, ◌-◌, ◌∙◌}
use Rattle.cu_num.specs.Dtype.{size_of}
use Rattle.cu_num.specs.Element.{element_at, element_bytes}
use Rattle.cu_num.specs.declared.layout.Endian.TheVariants.{Little}
use Rattle.cu_pairs.proofs.BlockParts.{block_written, block_length, element_in}
use Rattle.cu_scan.specs.Scanned.{row_element}
use Rattle.cu_scan.proofs.RowSums.{same_room}
use Rattle.cu_scan.proofs.carries.take_into.Goals as goal

pub returns-clause-adds : goal.returns-clause-adds
returns-clause-adds c q b =
    let acc = c.args.acc in
    let size = c.size-size.result in
    let from = c.args.at * c.args.inner in
    let out = c.args.out.now in
    let end = same_room (from + c.args.inner) size (size_of acc)
    (length out) c.size-size.ensures c.requires.out in
    let long = c.take_row.ensures.same_length
    ∙ block_length c.args.at c.args.inner size (size_of acc) out c.size-size.ensures end in
    let w = block_written acc c.args.at c.args.inner size out c.take_row.new.out c.size-size.ensures long end in
    let own : element_at Little acc (take ((from + c.args.inner) * size - from * size) (drop
    (from * size) out)) q ≡ row_element acc c.args.inner out c.args.at q =
    element_in acc out from c.args.inner size q c.size-size.ensures c.requires.out b in
    w.here q b ∙ c.take_row.ensures.sums q b
    ∙ (λ i. element_bytes Little acc (own i +ℤ c.row_of.ensures.elements q b i))

pub returns-clause-keeps : goal.returns-clause-keeps
returns-clause-keeps c r q less b =
    let acc = c.args.acc in
    let size = c.size-size.result in
    let end = same_room (c.args.at * c.args.inner + c.args.inner) size (size_of acc)
    (length c.args.out.now) c.size-size.ensures c.requires.out in
    let long = c.take_row.ensures.same_length
    ∙ block_length c.args.at c.args.inner size
    (size_of acc) c.args.out.now c.size-size.ensures end in
    let w = block_written acc c.args.at c.args.inner size c.args.out.now c.take_row.new.out c.size-size.ensures long end in
    w.before r q less b
