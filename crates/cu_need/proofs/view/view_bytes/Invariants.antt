use Rattle.std.proofs.Common.{◌≡◌, ◌≤◌, ◌^◌, max, map, drop}
use Rattle.cu_need.specs.Chunks.{arrays_in}
use Rattle.cu_need.proofs.view.view_bytes.Given as goal
use Rattle.cu_shape.specs.Counts.{largest}
use Rattle.cu_node.specs.Info.{chunk_bytes}

-- the arrays that are left add theirs
abbrev pub invariant-loop-arg : goal.invariant-loop-arg
invariant-loop-arg l = record {
  small : l.scratch ≤ 2 ^ 28;
  scratch : max l.scratch (largest (map chunk_bytes (arrays_in l.infos (drop l.arg-index l.args)))) ≡ max (chunk_bytes l.made) (largest (map chunk_bytes (arrays_in l.infos l.args)));
}
