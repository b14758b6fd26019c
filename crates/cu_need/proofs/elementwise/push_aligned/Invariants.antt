use Rattle.std.proofs.Common.{◌≡◌, ◌≤◌, ◌+◌, ◌++◌, length, map, drop}
use Rattle.cu_need.specs.Chunks.{arrays_in}
use Rattle.cu_need.specs.Operands.{in_aligned}
use Rattle.cu_need.proofs.elementwise.push_aligned.Given as goal

-- what is left adds its own
abbrev pub invariant-loop-arg : goal.invariant-loop-arg
invariant-loop-arg l = record {
  few : length l.wanted.items ≤ length l.initial.wanted.items + l.arg-index;
  rest : l.wanted.items ++ map (in_aligned l.made) (arrays_in l.infos (drop l.arg-index l.args)) ≡ l.initial.wanted.items ++ map (in_aligned l.made) (arrays_in l.infos l.args);
}
