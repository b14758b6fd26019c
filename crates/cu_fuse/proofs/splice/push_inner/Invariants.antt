use Rattle.std.proofs.Common.{◌≡◌, ◌+◌, ◌++◌, length, map, take}
use Rattle.cu_fuse.specs.Splice.{moved_behind}
use Rattle.cu_fuse.proofs.splice.push_inner.Given as goal

abbrev pub invariant-loop-instr : goal.invariant-loop-instr
invariant-loop-instr l = record {
  so_far : l.code.items ≡ l.initial.code.items ++ map (moved_behind l.count l.inner.input) (take l.instr-index l.inner.code.now);
  long : length l.code.items ≡ l.count + l.instr-index;
}
