-- No entry so far is under the key.
use Rattle.std.proofs.Common.{◌≡◌, drop}
use Rattle.cu_mem.specs.Entries.{held_in}
use Rattle.cu_mem.proofs.entries.bytes_of.Given as goal

abbrev pub invariant-loop-e : goal.invariant-loop-e
invariant-loop-e l = held_in l.slots l.key ≡ held_in (drop l.e-index l.slots) l.key
