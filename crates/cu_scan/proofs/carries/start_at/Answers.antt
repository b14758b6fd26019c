use Rattle.std.proofs.Common.{◌+◌, ◌*◌, length, ◌∙◌}
use Rattle.cu_num.specs.Dtype.{size_of}
use Rattle.cu_num.specs.declared.layout.Endian.TheVariants.{Little}
use Rattle.cu_num.proofs.ElementBytes.{element_at_same}
use Rattle.cu_pairs.proofs.BlockParts.{block_written, block_length}
use Rattle.cu_scan.proofs.RowSums.{same_room}
use Rattle.cu_scan.proofs.carries.start_at.Goals as goal

pub returns-clause-starts : goal.returns-clause-starts
returns-clause-starts c q b =
    let acc = c.args.acc in
    let size = c.size-size.result in
    let end = same_room (c.args.at * c.args.inner + c.args.inner) size (size_of acc)
    (length c.args.out.now) c.size-size.ensures c.requires.out in
    let long = c.start_row.auto.out
    ∙ block_length c.args.at c.args.inner size
    (size_of acc) c.args.out.now c.size-size.ensures end in
    let w = block_written acc c.args.at c.args.inner size c.args.out.now c.start_row.new.out c.size-size.ensures long end in
    element_at_same Little acc _ c.start_row.new.out (c.args.at * c.args.inner + q) q
    (w.here q b) ∙ c.start_row.ensures q b

pub returns-clause-keeps : goal.returns-clause-keeps
returns-clause-keeps c r q less b =
    let acc = c.args.acc in
    let size = c.size-size.result in
    let end = same_room (c.args.at * c.args.inner + c.args.inner) size (size_of acc)
    (length c.args.out.now) c.size-size.ensures c.requires.out in
    let long = c.start_row.auto.out
    ∙ block_length c.args.at c.args.inner size
    (size_of acc) c.args.out.now c.size-size.ensures end in
    let w = block_written acc c.args.at c.args.inner size c.args.out.now c.start_row.new.out c.size-size.ensures long end in
    w.before r q less b
