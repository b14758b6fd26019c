use Rattle.cu_lower_reduce.proofs.SumChains.{carry_of}
use Rattle.cu_lower_reduce.proofs.cumulative.carried_step.Goals as goal

pub returns : goal.returns
returns c =
    rw (c.sums_after.ensures, c.carry_bytes.ensures.bytes, c.bytes_of-bytes.ensures.bytes, c.carry_before.ensures)
    (carry_of c.args.s.now c.args.axis c.args.sums.now c.args.rounds.now c.args.at c.requires.within)
