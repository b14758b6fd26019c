use Rattle.std.proofs.Common.{◌≡◌, take, length}
use Rattle.cu_kern.proofs.strips.write.Given as goal

abbrev pub invariant-loop-k : goal.invariant-loop-k
invariant-loop-k l = record {
  same_length : length l.place ≡ length l.part;
  done : take l.k l.place ≡ take l.k l.part;
}
