use Rattle.std.proofs.Common.{◌≡◌, map, take}
use Rattle.cu_fuse.specs.Once.{over_distinct}
use Rattle.cu_fuse.proofs.once.code_over_distinct.Given as goal

abbrev pub invariant-loop-instr : goal.invariant-loop-instr
invariant-loop-instr l = l.over.items ≡ map (over_distinct l.ins) (take l.instr-index l.code)
