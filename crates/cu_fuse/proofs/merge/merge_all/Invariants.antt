use Rattle.std.proofs.Common.{◌≡◌, [], drop}
use Rattle.cu_fuse.specs.Fused.{map_inputs, merged_all}
use Rattle.cu_fuse.specs.Runs.{CanRun}
use Rattle.cu_fuse.proofs.merge.merge_all.Given as goal

abbrev pub invariant-loop-a : goal.invariant-loop-a
invariant-loop-a l = record {
  so_far : merged_all l.setting (drop l.a-index l.a-items) l.ops.items ≡ merged_all l.setting (map_inputs l.initial.ops.items) l.initial.ops.items;
  run : CanRun l.setting.arrays l.setting.reserved [] l.ops.items;
}
