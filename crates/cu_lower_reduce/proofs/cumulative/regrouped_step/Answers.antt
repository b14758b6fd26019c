use Rattle.std.proofs.Common.{◌+◌, refl}
use Rattle.cu_lower_reduce.proofs.SumChains.{merge_at}
use Rattle.cu_lower_reduce.proofs.cumulative.regrouped_step.Goals as goal

pub returns : goal.returns
returns c =
    rw (c.sums_after.ensures, c.merge_bytes.ensures.bytes, c.bytes_of-bytes.ensures.bytes)
    (merge_at c.args.s.now c.args.s.now.first c.args.sums.now c.args.rounds.now c.args.at (c.args.s.now.first + c.args.at) (record { axis = 0; from = 0; to = 0 }) c.requires.within refl)
