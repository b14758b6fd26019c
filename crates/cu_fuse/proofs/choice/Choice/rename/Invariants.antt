use Rattle.std.proofs.Common.{◌≡◌, length}
use Rattle.std.specs.List.{count_by, range_with_len}
use Rattle.cu_fuse.proofs.Renaming.{renamed_to}
use Rattle.cu_fuse.specs.Choosing.{plan_view}
use Rattle.cu_fuse.specs.Inlining.{is_numbered}
use Rattle.cu_op.specs.Arrays.{is_inlined}
use Rattle.cu_fuse.proofs.choice.Choice.rename.Given as goal

abbrev pub invariant-loop-a : goal.invariant-loop-a
invariant-loop-a l = record {
  plan : plan_view l.self ≡ renamed_to (plan_view l.initial.self) l.a;
  others : l.others ≡ count_by (is_numbered (plan_view l.initial.self) (is_inlined l.initial.self.arrays.items)) (range_with_len 0 l.a);
  long : length l.self.arrays.items ≡ length l.initial.self.arrays.items;
}
