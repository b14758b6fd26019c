-- When a copy is joined with the one that made its source, in other words (this project's own
-- rule).
use Rattle.std.specs.Prelude.{◌≡◌, ◌≢◌, ℕ, ◌+◌, ◌*◌, ◌^◌, ◌≤◌, ◌==◌, true, List, ◌++◌, count_by, flat_map}
use Rattle.cu_num.specs.Dtype.{size_of}
use Rattle.cu_shape.specs.Counts.{at_least_one}
use Rattle.cu_shape.specs.Index.{product}
use Rattle.cu_op.specs.Arrays.{grid_at, type_at}
use Rattle.cu_op.specs.Cells.{regions_of}
use Rattle.cu_op.specs.Operation.{reads_of, target_of}
use Rattle.cu_op.specs.Projection.{own_projection}
use Rattle.cu_op.specs.declared.operation.Planned.{Planned}
use Rattle.cu_fuse.specs.Copies.{copied_array, is_copy_op, joint_copy_op, least_between, most_bytes}
use Rattle.cu_fuse.specs.Fused.{SettingView}
use Rattle.cu_op.specs.Numbers.{stands_in}

-- Both are copies. The array isn't the output; the second copies it, and no operation behind it
-- reads it. The least region of whole chunks of both fits the memory. The joint copy has no more
-- tasks than both have, and needs at most what is allowed.
pub record MayJoin (s : SettingView) (maker reader : Planned) (behind : List Planned) (a : ℕ)
    : Type 0 where
  pub makes : is_copy_op maker.op ≡ true
  pub takes : is_copy_op reader.op ≡ true
  pub between : a ≢ s.out
  pub read : stands_in (reads_of reader.op) a ≡ true
  pub alone : count_by (λ b. b == a) (reads_of reader.op ++ flat_map (λ o. reads_of o.op) behind)
      ≡ 1
  pub elements : product (at_least_one (grid_at s.arrays (target_of reader.op)).shape) ≤ 2 ^ 40
  pub fits : product (least_between s.arrays (copied_array maker.op) (target_of reader.op))
      * size_of (type_at s.arrays (target_of reader.op)) ≤ most_bytes s
  pub tasks : regions_of s.arrays (joint_copy_op s maker.op reader.op)
      ≤ regions_of s.arrays maker.op + regions_of s.arrays reader.op
  pub allowed : own_projection s.arrays s.reserved (joint_copy_op s maker.op reader.op) ≤ s.allowed
