use Rattle.std.proofs.Common.{◌≡◌, ◌+◌, ◌*◌, ◌≤◌, suc, length, arith, mul-le-mul_right}
use Rattle.cu_num.specs.Dtype.{size_of}
use Rattle.cu_take.proofs.Buffers.{size_positive}
use Rattle.cu_group.specs.Regions.{label_in, row_sources}
use Rattle.cu_group.proofs.RowPlaces.{block_bounds, row_bounds}
use Rattle.cu_group.proofs.Totals.{taken_total}
use Rattle.cu_group.proofs.blocks.group_blocks.Goals as goal

pub returns : goal.returns
returns c o q j h b l =
    let acc = c.args.acc in
    let ends = block_bounds c.args.sizes.outer c.args.sizes.groups o c.args.sizes.inner
    (size_of acc) (length c.args.out.now) h c.requires.inner
    (size_positive acc) c.requires.out in
    let within = row_bounds (o * c.args.sizes.groups) c.args.sizes.groups q c.args.sizes.inner
    (size_of acc) (length c.args.out.now) b c.requires.inner (size_positive acc) ends.1 in
    let at = (o * c.args.sizes.groups + q) * c.args.sizes.inner + j in
    let last : suc at * size_of acc
    ≤ ((o * c.args.sizes.groups + q) * c.args.sizes.inner + c.args.sizes.inner) * size_of acc = mul-le-mul_right (size_of acc) (omega (arith, l)) in
    let own : suc at * size_of acc ≡ at * size_of acc + size_of acc = omega arith in
    taken_total c.args.kind c.args.t acc ((o * c.args.sizes.groups + q) * c.args.sizes.inner + j) c.args.input.now c.fill.new.out c.take_blocks.new.out
    (row_sources (label_in c.args.label_t c.args.labels.now) c.args.sizes.inner
    (o * c.args.sizes.count) c.args.sizes.count q j) c.requires.types
    (c.fill.ensures ((o * c.args.sizes.groups + q) * c.args.sizes.inner + j)
    (let all = within.2 in omega (arith, last, own, all)))
    (c.take_blocks.ensures o q j h b l)
