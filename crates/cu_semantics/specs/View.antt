-- The elements of arrays that are made from nothing and of views (Python array API, "Creation Functions", "Manipulation Functions",
-- "Indexing"), each at an index of the result.
use Rattle.std.specs.Prelude.{ℕ, ◌-◌, ◌==◌, nat_lt, ℤ, pos, ◌+ℤ◌, ◌-ℤ◌, ◌*ℤ◌, Bool, true, false, List, [], ◌∷◌, ◌++◌, length, take, drop, slice_index, slice_index_or, slice_set, remove, count_by, Option, Some, unwrap_or, if◌then◌else◌}
use Rattle.std.specs.Int.{int_rem_euclid}
use Rattle.std.specs.List.{position_or_len}
use Rattle.std.specs.Ordering.{int_eq}
use Rattle.cu_shape.specs.Index.{place_of, index_at}
use Rattle.cu_shape.specs.Slice.{from_end, first_of}
use Rattle.cu_origin.specs.Pull.{for_each_axis}
use Rattle.cu_form.specs.declared.args.Arg.{Arg}
use Rattle.cu_node.specs.declared.index_item.IndexItem.{IndexItem}
use Rattle.cu_node.specs.declared.info.NodeInfo.{NodeInfo}
use Rattle.cu_semantics.specs.Argument.{NodeElements, element_from, shape_from, source_at}
use Rattle.cu_semantics.specs.Index.{axis_in, is_named, natural}

-- ---- from nothing

-- start + i * step
abbrev pub arange_at : ℤ → ℤ → List ℕ → ℤ
arange_at start step idx = start +ℤ pos (slice_index idx 0) *ℤ step

-- 1 on the k-th diagonal
abbrev pub eye_at : ℤ → List ℕ → ℤ
eye_at k idx = if int_eq (pos (slice_index idx 1) -ℤ pos (slice_index idx 0)) k then pos 1 else pos 0

-- ---- views of one array, each by the index of the array at which it is read

-- an entry that takes an axis
abbrev pub uses_axis : IndexItem → Bool
uses_axis IndexItem.New = false
uses_axis IndexItem.Ellipsis = false
uses_axis item = true

-- the index that a slice takes at i on an axis of size n
abbrev pub sliced_index : Option ℤ → Option ℤ → ℤ → ℕ → ℕ → ℕ
sliced_index start stop step n i = natural (pos (first_of start stop step n) +ℤ pos i *ℤ step)

-- Entries take the axes of the array in order; `spare` is the count of axes that no entry takes, for which an ellipsis stands. The
-- axes that are left follow at the end.
abbrev pub indexed_from : ℕ → List IndexItem → List ℕ → List ℕ → List ℕ
indexed_from spare (IndexItem.At x ∷ items) (n ∷ shape) idx = natural (from_end x n) ∷ indexed_from spare items shape idx
indexed_from spare (IndexItem.Slice start stop step ∷ items) (n ∷ shape) (i ∷ idx) = sliced_index start stop (unwrap_or step (pos 1)) n i ∷ indexed_from spare items shape idx
indexed_from spare (IndexItem.New ∷ items) shape (i ∷ idx) = indexed_from spare items shape idx
indexed_from spare (IndexItem.Ellipsis ∷ items) shape idx = take spare idx ++ indexed_from spare items (drop spare shape) (drop spare idx)
indexed_from spare items shape idx = idx

abbrev pub indexed : List IndexItem → List ℕ → List ℕ → List ℕ
indexed items shape idx = indexed_from (length shape - count_by uses_axis items) items shape idx

-- axis axes[j] of the array is axis j of the result
abbrev pub permuted_index : List ℤ → List ℕ → List ℕ
permuted_index axes idx = for_each_axis (length axes) (λ d. slice_index idx (position_or_len (λ axis. int_eq axis (pos d)) axes))

-- the index at the same place in row-major order
abbrev pub same_place : List ℕ → List ℕ → List ℕ → List ℕ
same_place shape result idx = index_at shape (place_of result idx)

-- counted from the other end on the axes that are named
abbrev pub flipped_index : Option (List ℤ) → List ℕ → List ℕ → List ℕ
flipped_index axes shape idx = for_each_axis (length shape) (λ d. if is_named (length shape) axes d then slice_index shape d - 1 - slice_index idx d else slice_index idx d)

-- the shift of an axis; 0 where it isn't named
abbrev pub shift_on : ℕ → List ℤ → List ℤ → ℕ → ℤ
shift_on rank shifts axes d = slice_index_or shifts (position_or_len (λ axis. axis_in rank axis == d) axes) (pos 0)

-- (i - shift) mod n on each axis
abbrev pub rolled_index : List ℤ → List ℤ → List ℕ → List ℕ → List ℕ
rolled_index shifts axes shape idx = for_each_axis (length shape) (λ d. natural (int_rem_euclid (pos (slice_index idx d) -ℤ shift_on (length shape) shifts axes d) (pos (slice_index shape d))))

-- ---- several arrays

-- the array whose range on the axis holds the index: the others' sizes before it are taken off
abbrev pub concat_at : List NodeInfo → NodeElements → ℕ → List Arg → List ℕ → ℤ
concat_at infos at axis [] idx = pos 0
concat_at infos at axis (arg ∷ args) idx =
    if nat_lt (slice_index idx axis) (slice_index (shape_from infos (Some arg)) axis) then element_from at (Some arg) idx
    else concat_at infos at axis args (slice_set idx axis (slice_index idx axis - slice_index (shape_from infos (Some arg)) axis))

-- the array with the index's number on the new axis, at the other axes
abbrev pub stack_at : NodeElements → ℕ → List Arg → List ℕ → ℤ
stack_at at axis args idx = source_at at args (slice_index idx axis) (remove idx axis)
