-- The operations that are left when makers are merged into their readers, one array after another
-- (this project's own rule).
use Rattle.std.specs.Prelude.{ℕ, suc, ◌+◌, ◌==◌, ◌&&◌, nat_le, not, Bool, List, [], ◌∷◌, ◌++◌, length, drop, map, Option, Some, None, is_some, option_map, unwrap_or, if◌then◌else◌}
use Rattle.std.specs.List.{list_any}
use Rattle.cu_op.specs.Numbers.{number_in, stands_in}
use Rattle.cu_op.specs.declared.layout.ArrayInfo.{ArrayInfo}
use Rattle.cu_op.specs.declared.operation.Op.{Op}
use Rattle.cu_op.specs.declared.operation.Planned.{Planned}
use Rattle.cu_op.specs.Arrays.{grid_at, same_grid}
use Rattle.cu_op.specs.Operation.{kernel_of, reads_of, writes_of, target_of}
use Rattle.cu_op.specs.Projection.{own_projection, instruction_count}
use Rattle.cu_fuse.specs.Merge.{merged_op}
use Rattle.cu_fuse.specs.Once.{loaded_by, one_load}

-- what stays while operations are merged: the arrays, the number of the output, two counts of
-- bytes, and whether maps load an array once
pub record SettingView : Type 0 where
  pub arrays : List ArrayInfo
  pub out : ℕ
  pub allowed : ℕ
  pub reserved : ℕ
  pub once : Bool

-- whether an operation is a map: it has a kernel
abbrev pub is_map : Op → Bool
is_map op = is_some (kernel_of op)

-- whether an operation reads array `a`
abbrev pub is_reader : ℕ → Planned → Bool
is_reader a o = stands_in (reads_of o.op) a

-- the number of the first operation that reads array `a`
abbrev pub reader_of : List Planned → ℕ → ℕ
reader_of [] a = 0
reader_of (o ∷ os) a = if is_reader a o then 0 else suc (reader_of os a)

-- the number stands in the list once
abbrev pub stands_once : List ℕ → ℕ → Bool
stands_once xs a = stands_in xs a && not (stands_in (drop (number_in xs a + 1) xs) a)

-- the reader of array `a` with its maker merged in
abbrev pub joint_op : SettingView → Planned → Planned → ℕ → Op
joint_op s maker reader a =
    loaded_by s.once (merged_op maker.op reader.op (number_in (reads_of reader.op) a))

-- it belongs to the reader's node
abbrev pub joint : SettingView → Planned → Planned → ℕ → Planned
joint s maker reader a = record {
  op = joint_op s maker reader a;
  node = reader.node;
  projected = own_projection s.arrays s.reserved (joint_op s maker reader a);
}

-- ---- when a maker is merged into a reader of its array

-- both are maps
abbrev pub are_maps : Planned → Planned → Bool
are_maps maker reader = is_map maker.op && is_map reader.op

-- the array isn't the output
abbrev pub is_between : SettingView → ℕ → Bool
is_between s a = not (a == s.out)

-- one input alone reads it: it stands once among the reader's inputs, and no operation behind the
-- reader reads it
abbrev pub has_one_reader : Planned → List Planned → ℕ → Bool
has_one_reader reader behind a =
    stands_once (reads_of reader.op) a && not (list_any (is_reader a) behind)

-- it has the grid of the array that the reader makes
abbrev pub has_grid_of : SettingView → Planned → ℕ → Bool
has_grid_of s reader a = same_grid (grid_at s.arrays a) (grid_at s.arrays (target_of reader.op))

-- both together have at most 8 inputs and 32 instructions, and need at most what is allowed
abbrev pub is_small : SettingView → Planned → Bool
is_small s both =
    nat_le (length (reads_of both.op)) 8
    && (nat_le (instruction_count both.op) 32 && nat_le both.projected s.allowed)

-- all of this
abbrev pub may_merge : SettingView → Planned → Planned → List Planned → ℕ → Bool
may_merge s maker reader behind a =
    are_maps maker reader
    && (is_between s a
    && (has_one_reader reader behind a
    && (has_grid_of s reader a && is_small s (joint s maker reader a))))

-- ---- the merges

-- the operations behind the maker of array `a`, with it merged into the first that reads the array,
-- where it may be
abbrev pub into_reader : SettingView → Planned → ℕ → List Planned → Option (List Planned)
into_reader s maker a [] = None
into_reader s maker a (o ∷ os) =
    if is_reader a o then (if may_merge s maker o os a then Some (joint s maker o a ∷ os) else None)
    else option_map (λ rest. o ∷ rest) (into_reader s maker a os)

-- the operations with the maker of array `a` merged into its reader, where it may be
abbrev pub merged_away : SettingView → ℕ → List Planned → List Planned
merged_away s a [] = []
merged_away s a (o ∷ os) =
    if stands_in (writes_of o.op) a then unwrap_or (into_reader s o a os) (o ∷ os)
    else (o ∷ merged_away s a os)

-- the inputs of the maps, in order
abbrev pub map_inputs : List Planned → List ℕ
map_inputs [] = []
map_inputs (o ∷ os) = if is_map o.op then reads_of o.op ++ map_inputs os else map_inputs os

-- one array after another
abbrev pub merged_all : SettingView → List ℕ → List Planned → List Planned
merged_all s [] ops = ops
merged_all s (a ∷ rest) ops = merged_all s rest (merged_away s a ops)

-- an operation that loads each array once
abbrev pub with_one_load : SettingView → Planned → Planned
with_one_load s o = record {
  op = one_load o.op;
  node = o.node;
  projected = own_projection s.arrays s.reserved (one_load o.op);
}

-- the operations before the merges
abbrev pub loaded_ops : SettingView → List Planned → List Planned
loaded_ops s ops = if s.once then map (with_one_load s) ops else ops

-- The operations of a plan after the merges. The inputs of its maps are taken in order: an array
-- that stands among them is taken in its turn, though a merge may have put it in again.
abbrev pub fused_ops : SettingView → List Planned → List Planned
fused_ops s ops = merged_all s (map_inputs (loaded_ops s ops)) (loaded_ops s ops)
