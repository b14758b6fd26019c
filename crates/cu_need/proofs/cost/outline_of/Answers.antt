use Rattle.std.proofs.Common.{ap}
use Rattle.cu_need.specs.Operands.{operands_of}
use Rattle.cu_need.proofs.OperandsWithin.{arguments_within, both_within}
use Rattle.cu_need.proofs.cost.outline_of.Goals as goal

pub function_bytes-requires-clause-within : goal.function_bytes-requires-clause-within
function_bytes-requires-clause-within c =
    arguments_within c.args.infos.now _ _ _ _ _ c.requires.operands (ap (operands_of c.args.infos.now c.args.number) c.in-Elementwise.is) c.as_slice.ensures c.info_at-made.ensures

pub wanted_bytes-left_bytes-requires : goal.wanted_bytes-left_bytes-requires
wanted_bytes-left_bytes-requires c =
    let both = both_within _ _ _ c.requires.operands (ap (operands_of c.args.infos.now c.args.number) c.in-Matmul.is) in
    rw (c.left_wanted.ensures, c.info_at-made.ensures, c.array_of-left.ensures, c.array_of-right.ensures, c.as_slice-in-Matmul.ensures, c.as_slice-in-Matmul-2.ensures) both.0

pub wanted_bytes-right_bytes-requires : goal.wanted_bytes-right_bytes-requires
wanted_bytes-right_bytes-requires c =
    let both = both_within _ _ _ c.requires.operands (ap (operands_of c.args.infos.now c.args.number) c.in-Matmul.is) in
    rw (c.right_wanted.ensures, c.info_at-made.ensures, c.array_of-left.ensures, c.array_of-right.ensures, c.as_slice-in-Matmul.ensures, c.as_slice-in-Matmul-2.ensures) both.1

pub chunk_bytes-source_bytes-requires : goal.chunk_bytes-source_bytes-requires
chunk_bytes-source_bytes-requires c =
    let both = both_within _ _ _ c.requires.operands (ap (operands_of c.args.infos.now c.args.number) c.in-GroupBy.is) in
    rw (c.array_of-source-in-GroupBy.ensures, c.as_slice-in-GroupBy.ensures) both.0.source

pub product_outline-requires-clause-left : goal.product_outline-requires-clause-left
product_outline-requires-clause-left c =
    let both = both_within _ _ _ c.requires.operands (ap (operands_of c.args.infos.now c.args.number) c.in-Matmul.is) in
    rw (c.array_of-left.ensures, c.as_slice-in-Matmul.ensures) both.0.source
