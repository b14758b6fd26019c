use Rattle.std.proofs.Common.{◌≡◌, [], drop}
use Rattle.cu_fuse.specs.Copies.{joined_copies, may_join}
use Rattle.cu_fuse.specs.Runs.{CanRun}
use Rattle.cu_fuse.specs.Together.{all_together}
use Rattle.cu_fuse.proofs.JointCopy.{joining}
use Rattle.cu_fuse.proofs.copies.join_all.Given as goal

abbrev pub invariant-loop-a : goal.invariant-loop-a
invariant-loop-a l = record {
  so_far : all_together (may_join l.setting) (joining l.setting) (drop l.a-index l.a-items) l.ops.items ≡ joined_copies l.setting l.initial.ops.items;
  run : CanRun l.setting.arrays l.setting.reserved [] l.ops.items;
}
