use Rattle.std.proofs.Common.{◌+◌, pos, length, sym, ap, ◌∙◌}
use Rattle.cu_num.specs.Element.{element_at}
use Rattle.cu_num.specs.declared.layout.Endian.TheVariants.{Little}
use Rattle.cu_num.proofs.Wrapped.{wrapped_in_range}
use Rattle.cu_reduce.proofs.Folding.{zero_in_range}
use Rattle.cu_pairs.proofs.BlockParts.{element_in}
use Rattle.cu_pairs.proofs.Sizes.{none_left, some_left}
use Rattle.cu_scan.proofs.Buffers.{number_read}
use Rattle.cu_scan.proofs.RowSums.{given_none, given_some}
use Rattle.cu_scan.proofs.blocks.start_row.Goals as goal

pub returns-then-is_empty : goal.returns-then-is_empty
returns-then-is_empty c q b =
    let acc = c.args.acc in
    let carry = c.args.carry.now in
    number_read acc c.zero_row.new.out q (pos 0) (c.zero_row.ensures.zeros q b)
    ∙ wrapped_in_range acc (pos 0) (zero_in_range acc)
    ∙ sym (given_none acc carry (c.args.from + q) (none_left
    (length carry) c.is_empty.result c.is_empty.ensures c.if-is_empty.true))

pub returns-else-is_empty : goal.returns-else-is_empty
returns-else-is_empty c q b =
    let acc = c.args.acc in
    let carry = c.args.carry.now in
    let some = some_left (length carry) c.is_empty.result c.is_empty.ensures c.if-is_empty.false in
    ap (λ xs. element_at Little acc xs q) c.copy_from_slice.ensures.after
    ∙ element_in acc carry c.args.from c.args.count c.size-size.result q c.size-size.ensures
    (c.requires.carry some) b
    ∙ sym (given_some acc carry (c.args.from + q) some)
