use Rattle.std.proofs.Common.{◌≡◌, ◌≤◌, ◌*◌, take}
use Rattle.cu_fuse.specs.Inlining.{read_count}
use Rattle.cu_fuse.proofs.choice.read_count.Given as goal

abbrev pub invariant-loop-planned : goal.invariant-loop-planned
invariant-loop-planned l = record {
  so_far : l.count ≡ read_count (take l.planned-index l.ops) l.a;
  few : l.count ≤ 8 * l.planned-index;
}
