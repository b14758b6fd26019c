use Rattle.std.proofs.Common.{◌+◌, arith}
use Rattle.std.proofs.lemmas.List.{take_rest}
use Rattle.cu_lower_reduce.proofs.Chains.{merge_at}
use Rattle.cu_lower_reduce.proofs.merges.merge_step.Goals as goal

pub returns : goal.returns
returns c =
    rw (c.written_before.ensures, take_rest c.args.rounds.now (c.args.at + 1), c.partial_after-after.ensures, c.merge_bytes.ensures.bytes, c.bytes_of.ensures.bytes)
    (merge_at c.args.s.now c.args.kind c.args.made.now c.args.s.now.first c.args.partial.now c.args.rounds.now c.args.at (c.args.s.now.first + c.args.at) (record { axis = 0; from = 0; to = 0 }) c.requires.within (omega arith))
