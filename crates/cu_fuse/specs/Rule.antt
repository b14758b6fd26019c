-- When a maker is merged into the reader of its array, in other words (this project's own rule).
use Rattle.std.specs.Prelude.{◌≡◌, ◌≢◌, ℕ, ◌≤◌, ◌==◌, true, List, ◌++◌, length, count_by, flat_map}
use Rattle.cu_op.specs.declared.operation.Planned.{Planned}
use Rattle.cu_op.specs.Arrays.{grid_at}
use Rattle.cu_op.specs.Operation.{reads_of, target_of}
use Rattle.cu_op.specs.Projection.{own_projection, instruction_count}
use Rattle.cu_fuse.specs.Fused.{SettingView, is_map, joint_op}
use Rattle.cu_op.specs.Numbers.{stands_in}

-- Both are maps. The array isn't the output; one input of the reader is the array, and no other of
-- it or of the operations behind it; and it has the grid of the array that the reader makes. Both
-- together have at most 8 inputs and 32 instructions, and need at most what is allowed.
pub record MayMerge (s : SettingView) (maker reader : Planned) (behind : List Planned) (a : ℕ)
    : Type 0 where
  pub makes : is_map maker.op ≡ true
  pub takes : is_map reader.op ≡ true
  pub between : a ≢ s.out
  pub read : stands_in (reads_of reader.op) a ≡ true
  pub alone : count_by (λ b. b == a) (reads_of reader.op ++ flat_map (λ o. reads_of o.op) behind)
      ≡ 1
  pub grid : grid_at s.arrays a ≡ grid_at s.arrays (target_of reader.op)
  pub inputs : length (reads_of (joint_op s maker reader a)) ≤ 8
  pub instructions : instruction_count (joint_op s maker reader a) ≤ 32
  pub allowed : own_projection s.arrays s.reserved (joint_op s maker reader a) ≤ s.allowed
