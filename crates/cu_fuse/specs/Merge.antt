-- A map with the maker of one of its inputs merged in (this project's own rule).
use Rattle.std.specs.Prelude.{◌≡◌, ◌≢◌, ℕ, ◌^◌, ◌<◌, List, ◌∷◌, ◌++◌, length, slice_get, Option, Some}
use Rattle.cu_op.specs.declared.kernel.Instr.{Instr}
use Rattle.cu_op.specs.declared.layout.ArrayInfo.{ArrayInfo}
use Rattle.cu_op.specs.declared.operation.Op.{Op}
use Rattle.cu_op.specs.declared.operation.Planned.{Planned}
use Rattle.cu_op.specs.Arrays.{grid_at}
use Rattle.cu_op.specs.Kind.Map.{map_of}
use Rattle.cu_op.specs.Operation.{kernel_of, reads_of, target_of}
use Rattle.cu_op.specs.Projection.{own_projection}
use Rattle.cu_fuse.specs.Runs.{HasReader}
use Rattle.cu_fuse.specs.Splice.{put_in, spliced}

-- a map of two kernels over the arrays of both operations: the maker's kernel stands in place of the
-- load of the reader's input number j, its inputs in place of the input
abbrev pub merged_map : Op → Op → ℕ → List Instr → List Instr → Op
merged_map maker reader j inner outer =
    map_of (spliced j (length (reads_of maker)) inner outer)
    (put_in j (reads_of maker) (reads_of reader)) (target_of reader)

-- this map, where both have a kernel; otherwise the reader
abbrev pub merged_by : Op → Op → ℕ → Option (List Instr) → Option (List Instr) → Op
merged_by maker reader j (Some inner) (Some outer) = merged_map maker reader j inner outer
merged_by maker reader j inner outer = reader

-- the second operation with the first, which makes its input number j, merged in; of operations
-- that aren't maps the second
abbrev pub merged_op : Op → Op → ℕ → Op
merged_op maker reader j = merged_by maker reader j (kernel_of maker) (kernel_of reader)

-- the maker of an array, its first reader, and the operations between and behind
pub record Around : Type 0 where
  pub maker : Planned
  pub between : List Planned
  pub reader : Planned
  pub behind : List Planned

-- these operations, and with one in place of maker and reader
abbrev pub apart_ops : Around → List Planned
apart_ops r = r.maker ∷ (r.between ++ (r.reader ∷ r.behind))

abbrev pub joined_ops : Around → Planned → List Planned
joined_ops r both = r.between ++ (both ∷ r.behind)

-- the maker is a map whose array the reader alone reads, as its input number j, and the reader is a
-- map over the same grid
pub record Joins (arrays : List ArrayInfo) (r : Around) (array j : ℕ) : Type 0 where
  pub inner : List Instr
  pub inner_ins : List ℕ
  pub outer : List Instr
  pub outer_ins : List ℕ
  pub out : ℕ
  pub makes : r.maker.op ≡ map_of inner inner_ins array
  pub takes : r.reader.op ≡ map_of outer outer_ins out
  pub input : slice_get outer_ins j ≡ Some array
  pub alone : (k : ℕ) → k ≢ j → slice_get outer_ins k ≡ Some array → ⊥
  pub between_apart : HasReader r.between array → ⊥
  pub behind_apart : HasReader r.behind array → ⊥
  pub grid : grid_at arrays array ≡ grid_at arrays out

-- the reader with its maker merged in, which belongs to the reader's node
pub record IsMerged (arrays : List ArrayInfo) (reserved : ℕ) (maker reader both : Planned) (j : ℕ)
    : Type 0 where
  pub op : both.op ≡ merged_op maker.op reader.op j
  pub node : both.node ≡ reader.node
  pub projected : both.projected ≡ own_projection arrays reserved both.op
  pub room : both.projected < 2 ^ 64
