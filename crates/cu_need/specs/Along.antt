-- The memory of prefix sums and of groups by labels, in bytes (this project's own rule). `reserved` are the
-- bytes that are kept for everything else, `split_every` is how many partial results a task merges or carries over, `made` and `source`
-- tell of the node's array and of its first argument's.
use Rattle.std.specs.Prelude.{ℕ, ◌<◌, ℤ, length, Option, unwrap_or}
use Rattle.cu_node.specs.Axes.{axis_of}
use Rattle.cu_node.specs.declared.info.NodeInfo.{NodeInfo}
use Rattle.cu_typing.specs.Along.{summed_axis, labels_aligned}
use Rattle.cu_tree.specs.Needs.{with_merges, merge_need, product_need}
use Rattle.cu_tree.specs.Partials.{product_rounds}
pub use Rattle.cu_tree.specs.Sums.{sums_array, sums_arrays, sums_count, cumulative_need}
use Rattle.cu_copy.specs.Copies.{in_chunks, rechunked}
use Rattle.cu_copy.specs.declared.copies.Rechunk.{Rechunk}
use Rattle.cu_node.specs.Info.{IsInfo, chunk_bytes}

-- ---- prefix sums, whose arrays of sums and memory are told of where their rounds are

-- the axis along which is summed
abbrev pub sum_axis : NodeInfo → Option ℤ → ℕ
sum_axis source axis = unwrap_or (summed_axis (length source.dims) axis) 0

-- ---- groups by labels

-- the axis on which the groups are
abbrev pub group_axis : NodeInfo → ℤ → ℕ
group_axis source number = unwrap_or (axis_of number (length source.dims)) 0

-- the labels in the chunks of the array on the axis
abbrev pub labels_wanted : NodeInfo → ℤ → NodeInfo → Rechunk
labels_wanted source number labels = in_chunks labels (labels_aligned source (group_axis source number))

-- A chunk of the array and one of the labels to one of the groups, and merges where there are several chunks on the axis. The labels have
-- as many chunks as the array has there, and the groups' partial results are numbered on one more axis, as those of a product are.
abbrev pub group_need : ℕ → ℕ → NodeInfo → NodeInfo → Rechunk → ℕ
group_need reserved split_every made source labels =
    with_merges (product_rounds split_every (rechunked labels) made)
    (product_need reserved (chunk_bytes source) (chunk_bytes (rechunked labels)) (chunk_bytes made))
    (merge_need reserved split_every (chunk_bytes made))

-- the labels in the array's chunks, and the results of groups with one more axis
abbrev pub AreGroupsWithin : NodeInfo → NodeInfo → Type 0
AreGroupsWithin made labels = IsInfo labels × (0 < length labels.dims) × (length made.dims < 6)
