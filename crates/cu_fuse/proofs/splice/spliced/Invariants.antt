use Rattle.std.proofs.Common.{◌≡◌, ◌≤◌, ◌*◌, ◌++◌, length, drop}
use Rattle.cu_fuse.specs.Splice.{spliced_from, spliced}
use Rattle.cu_fuse.proofs.splice.spliced.Given as goal

abbrev pub invariant-loop-instr : goal.invariant-loop-instr
invariant-loop-instr l = record {
  so_far : l.code.items ++ spliced_from l.inner.input l.inner.width l.inner.code.now l.places.items (length l.code.items) (drop l.instr-index l.outer) ≡ spliced l.inner.input l.inner.width l.inner.code.now l.outer;
  long : length l.places.items ≡ l.instr-index;
  few : length l.code.items ≤ 32 * l.instr-index;
}
