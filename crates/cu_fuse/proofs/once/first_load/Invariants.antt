use Rattle.std.proofs.Common.{◌≡◌, ◌+◌, drop}
use Rattle.std.specs.List.{position_or_len}
use Rattle.cu_fuse.specs.Once.{loads}
use Rattle.cu_fuse.proofs.once.first_load.Given as goal

abbrev pub invariant-loop-instr : goal.invariant-loop-instr
invariant-loop-instr l = record {
  place : position_or_len (loads l.k) l.code ≡ l.number + position_or_len (loads l.k)
      (drop l.instr-index l.code);
  at : l.number ≡ l.instr-index;
}
