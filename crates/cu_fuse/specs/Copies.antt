-- Copies in one pass: a copy joined with the one that made its source, so that nothing is stored
-- between (this project's own rule).
use Rattle.std.specs.Prelude.{ℕ, ◌+◌, ◌-◌, ◌*◌, ◌/◌, ◌^◌, ◌&&◌, nat_le, Bool, true, false, List, [], ◌∷◌, if◌then◌else◌}
use Rattle.cu_num.specs.Dtype.{size_of}
use Rattle.cu_shape.specs.Counts.{at_least_one}
use Rattle.cu_shape.specs.Index.{product}
use Rattle.cu_rechunk.specs.Stages.{consolidated}
use Rattle.cu_op.specs.Arrays.{grid_at, type_at}
use Rattle.cu_op.specs.Cells.{regions_of}
use Rattle.cu_op.specs.Operation.{target_of}
use Rattle.cu_op.specs.PlanView.{PlanView}
use Rattle.cu_op.specs.Projection.{own_projection}
use Rattle.cu_op.specs.declared.layout.ArrayInfo.{ArrayInfo}
use Rattle.cu_op.specs.declared.operation.Op.{Op}
use Rattle.cu_op.specs.declared.operation.Op.TheVariants.{Copy}
use Rattle.cu_op.specs.declared.operation.Planned.{Planned}
use Rattle.cu_fuse.specs.Close.{closed, setting_of}
use Rattle.cu_fuse.specs.Fused.{SettingView, has_one_reader, is_between}
use Rattle.cu_fuse.specs.Least.{least_region}
use Rattle.cu_fuse.specs.Together.{all_together}

-- whether an operation is a copy, and the array that it copies
abbrev pub is_copy_op : Op → Bool
is_copy_op (Copy region source out) = true
is_copy_op op = false

abbrev pub copied_array : Op → ℕ
copied_array (Copy region source out) = source
copied_array op = 0

-- ---- the joint copy, from array `source` to array `out`

-- the least region that is whole chunks of both arrays
abbrev pub least_between : List ArrayInfo → ℕ → ℕ → List ℕ
least_between arrays source out =
    least_region (grid_at arrays out).shape (grid_at arrays source).chunk (grid_at arrays out).chunk

-- how many bytes a region has at most
abbrev pub most_bytes : SettingView → ℕ
most_bytes s = (s.allowed - s.reserved) / 2

-- the least region made larger, from the last axis on, as far as the array and the memory allow
abbrev pub joint_region : SettingView → ℕ → ℕ → List ℕ
joint_region s source out =
    consolidated (most_bytes s / size_of (type_at s.arrays out)) 1 (grid_at s.arrays out).shape
    (least_between s.arrays source out) (grid_at s.arrays out).shape

-- the second copy with the first, which makes its source; of operations that aren't copies the
-- second
abbrev pub joint_copy_op : SettingView → Op → Op → Op
joint_copy_op s (Copy first source mid) (Copy second read out) =
    Copy (joint_region s source out) source out
joint_copy_op s maker reader = reader

-- it belongs to the second one's node
abbrev pub joint_copy : SettingView → Planned → Planned → Planned
joint_copy s maker reader = record {
  op = joint_copy_op s maker.op reader.op;
  node = reader.node;
  projected = own_projection s.arrays s.reserved (joint_copy_op s maker.op reader.op);
}

-- ---- when a copy is joined with the one that made its source

abbrev pub are_copies : Planned → Planned → Bool
are_copies maker reader = is_copy_op maker.op && is_copy_op reader.op

-- the least region fits the memory (and no region has more than 2^40 elements, as the array, whose
-- axes of size 0 count as one, has no more)
abbrev pub has_region : SettingView → ℕ → ℕ → Bool
has_region s source out =
    nat_le (product (at_least_one (grid_at s.arrays out).shape)) (2 ^ 40)
    && nat_le (product (least_between s.arrays source out) * size_of (type_at s.arrays out))
    (most_bytes s)

-- the joint copy has no more tasks than both have
abbrev pub has_few_tasks : SettingView → Planned → Planned → Bool
has_few_tasks s maker reader =
    nat_le (regions_of s.arrays (joint_copy s maker reader).op)
    (regions_of s.arrays maker.op + regions_of s.arrays reader.op)

-- a region fits, with no more tasks, and the joint copy needs at most what is allowed
abbrev pub is_one_pass : SettingView → Planned → Planned → Bool
is_one_pass s maker reader =
    has_region s (copied_array maker.op) (target_of reader.op)
    && (has_few_tasks s maker reader && nat_le (joint_copy s maker reader).projected s.allowed)

-- all of this: both are copies, and the array between isn't the output and is read by the second
-- alone
abbrev pub may_join : SettingView → Planned → Planned → List Planned → ℕ → Bool
may_join s maker reader behind a =
    are_copies maker reader
    && (is_between s a && (has_one_reader reader behind a && is_one_pass s maker reader))

-- ---- the copies, in order

-- what they copy
abbrev pub copy_sources : List Planned → List ℕ
copy_sources [] = []
copy_sources (o ∷ os) =
    if is_copy_op o.op then (copied_array o.op ∷ copy_sources os) else copy_sources os

-- the operations of a plan whose copies are joined
abbrev pub joined_copies : SettingView → List Planned → List Planned
joined_copies s ops =
    all_together (may_join s) (λ maker reader a. joint_copy s maker reader) (copy_sources ops) ops

-- the plan of them
abbrev pub copies_joined : PlanView → PlanView
copies_joined p = closed (setting_of p) (joined_copies (setting_of p) p.ops)
