use Rattle.std.proofs.Common.{◌+◌, ◌*◌, arith}
use Rattle.std.proofs.lemmas.List.{take_rest}
use Rattle.cu_lower_reduce.proofs.Chains.{pair_at}
use Rattle.cu_lower_reduce.proofs.search.pair_step.Goals as goal

pub returns : goal.returns
returns c =
    rw (c.stored.ensures, c.places_number.ensures, c.stored-2.ensures, c.written_before.ensures, take_rest c.args.rounds.now (c.args.at + 1), c.partial_after.ensures, c.partial_after-2.ensures, c.pair_merge_bytes.ensures.bytes, c.bytes_of-value.ensures.bytes, c.bytes_of-place.ensures.bytes)
    (pair_at c.args.s.now c.args.x.now c.args.s.now.first c.args.values.now c.args.places.now c.args.rounds.now c.args.at (c.args.s.now.first + 2 * c.args.at) (record { axis = 0; from = 0; to = 0 }) c.requires.within (omega arith))
