use Rattle.std.proofs.Common.{◌≡◌, ◌≤◌, ◌+◌, ◌*◌, ◌^◌, true, max, map, drop}
use Rattle.std.specs.Prelude.{sum_by}
use Rattle.cu_typing.specs.Joined.{aligned_within}
use Rattle.cu_need.specs.Chunks.{arrays_in, aligned_bytes}
use Rattle.cu_need.proofs.elementwise.function_bytes.Given as goal
use Rattle.cu_shape.specs.Counts.{largest}
use Rattle.cu_node.specs.Info.{chunk_bytes}

-- the arrays that are left add theirs
abbrev pub invariant-loop-arg : goal.invariant-loop-arg
invariant-loop-arg l = record {
  small : l.scratch ≤ 2 ^ 28;
  few : l.regions ≤ l.arg-index * 2 ^ 28;
  within : aligned_within l.made.dims l.made.chunk (arrays_in l.infos (drop l.arg-index l.args)) ≡ true;
  scratch : max l.scratch (largest (map (aligned_bytes l.made) (arrays_in l.infos (drop l.arg-index l.args)))) ≡ max (chunk_bytes l.made) (largest (map (aligned_bytes l.made) (arrays_in l.infos l.args)));
  regions : l.regions + sum_by (aligned_bytes l.made) (arrays_in l.infos (drop l.arg-index l.args)) ≡ sum_by (aligned_bytes l.made) (arrays_in l.infos l.args);
}
