use Rattle.std.proofs.Common.{◌+◌, ◌+ℤ◌, ◌*◌, ◌≤◌, length, ◌∙◌, arith}
use Rattle.std.proofs.Math.Nat.{mul-le-mul_right}
use Rattle.cu_num.specs.Dtype.{size_of}
use Rattle.cu_num.specs.Element.{element_bytes}
use Rattle.cu_num.specs.declared.layout.Endian.TheVariants.{Little}
use Rattle.cu_pairs.proofs.Parts.{size_positive}
use Rattle.cu_pairs.proofs.BlockParts.{block_written, block_length, factor_below}
use Rattle.cu_scan.proofs.RowSums.{same_room}
use Rattle.cu_scan.proofs.blocks.first_row.Goals as goal

pub overflow_mul-at : goal.overflow_mul-at
overflow_mul-at c =
    let less : c.args.at * c.args.inner
    ≤ c.args.row * c.args.inner = mul-le-mul_right c.args.inner c.requires.at in
    let fits = factor_below (c.args.row * c.args.inner + c.args.inner) (size_of c.args.acc)
    (length c.args.out.now) (size_positive c.args.acc) c.requires.out in
    omega arith

pub returns-clause-adds : goal.returns-clause-adds
returns-clause-adds c q b =
    let acc = c.args.acc in
    let size = c.size-size.result in
    let end = same_room (c.args.row * c.args.inner + c.args.inner) size (size_of acc)
    (length c.args.out.now) c.size-size.ensures c.requires.out in
    let long = c.take_row.ensures.same_length ∙ c.start_row.auto.out
    ∙ block_length c.args.row c.args.inner size
    (size_of acc) c.args.out.now c.size-size.ensures end in
    let w = block_written acc c.args.row c.args.inner size c.args.out.now c.take_row.new.out c.size-size.ensures long end in
    w.here q b ∙ c.take_row.ensures.sums q b
    ∙ (λ i. element_bytes Little acc (c.start_row.ensures q b i
    +ℤ c.row_of.ensures.elements q b i))

pub returns-clause-keeps : goal.returns-clause-keeps
returns-clause-keeps c r q less b =
    let acc = c.args.acc in
    let size = c.size-size.result in
    let end = same_room (c.args.row * c.args.inner + c.args.inner) size (size_of acc)
    (length c.args.out.now) c.size-size.ensures c.requires.out in
    let long = c.take_row.ensures.same_length ∙ c.start_row.auto.out
    ∙ block_length c.args.row c.args.inner size
    (size_of acc) c.args.out.now c.size-size.ensures end in
    let w = block_written acc c.args.row c.args.inner size c.args.out.now c.take_row.new.out c.size-size.ensures long end in
    w.before r q less b
