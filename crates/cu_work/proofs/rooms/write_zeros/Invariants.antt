-- The memory that is taken stays as much, and each turn writes one item more.
use Rattle.std.proofs.Common.{◌≡◌, ◌-◌, vec_len, vec_capacity}
use Rattle.cu_work.proofs.rooms.write_zeros.Given as goal

abbrev pub invariant-loop-zero : goal.invariant-loop-zero
invariant-loop-zero g l = vec_capacity l.filled ≡ vec_capacity l.fn.items

abbrev pub decreases-loop-zero : goal.decreases-loop-zero
decreases-loop-zero g l = l.count - vec_len l.filled
