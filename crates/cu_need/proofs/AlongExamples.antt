-- Needs and counts of prefix sums and of groups by labels, with the numbers of the worked examples.
use Rattle.std.proofs.Common.{◌≡◌, pos, negsuc, [], ◌∷◌, Some, None, map, refl}
use Rattle.std.specs.Prelude.{slice_index}
use Rattle.cu_num.specs.declared.types.Dtype.TheVariants.{Int32, Int64, Int8}
use Rattle.cu_node.specs.Info.{info_of}
use Rattle.cu_node.specs.declared.info.NodeInfo.{NodeInfo}
use Rattle.cu_copy.specs.Copies.{rechunk_need, rechunked}
use Rattle.cu_tree.specs.Outlines.{cumulative_outline, outline_tasks, product_outline}
use Rattle.cu_need.specs.Along.{sum_axis, sums_array, sums_arrays, cumulative_need, labels_wanted, group_need}

-- five elements in chunks of one, and groups of two
abbrev ones : NodeInfo
ones = info_of Int32 (5 ∷ []) (1 ∷ [])

abbrev sums_of_ones : NodeInfo
sums_of_ones = info_of Int64 (5 ∷ []) (1 ∷ [])

sizes_of_sums : map (λ i. slice_index i.dims 0) (sums_arrays 2 0 5 (sums_array sums_of_ones ones 0)) ≡ 5 ∷ 3 ∷ 2 ∷ []
sizes_of_sums = refl

need_of_sums : cumulative_need 0 2 sums_of_ones ones (sum_axis ones None) ≡ 40
need_of_sums = refl

tasks_of_sums : outline_tasks (cumulative_outline 2 sums_of_ones ones (sum_axis ones (Some (negsuc 0)))) ≡ 25
tasks_of_sums = refl

-- one chunk: a scan alone
one_chunk : cumulative_need 100 2 (info_of Int64 (5 ∷ []) (5 ∷ [])) (info_of Int32 (5 ∷ []) (5 ∷ [])) 0 ≡ 200
one_chunk = refl

one_task : outline_tasks (cumulative_outline 2 (info_of Int64 (5 ∷ []) (5 ∷ [])) (info_of Int32 (5 ∷ []) (5 ∷ [])) 0) ≡ 1
one_task = refl

-- five elements in chunks of two, in three groups
abbrev twos : NodeInfo
twos = info_of Int32 (5 ∷ []) (2 ∷ [])

need_of_group_sums : group_need 0 4 (info_of Int64 (3 ∷ []) (3 ∷ [])) twos (labels_wanted twos (pos 0) twos) ≡ 144
need_of_group_sums = refl

need_of_group_least : group_need 0 4 (info_of Int32 (3 ∷ []) (3 ∷ [])) twos (labels_wanted twos (pos 0) twos) ≡ 72
need_of_group_least = refl

tasks_of_groups : outline_tasks (product_outline 4 (info_of Int64 (3 ∷ []) (3 ∷ [])) (rechunked (labels_wanted twos (pos 0) twos)) 8 8) ≡ 4
tasks_of_groups = refl

-- labels in one chunk are copied into chunks of two
labels_copied : rechunk_need 10 (labels_wanted twos (pos 0) (info_of Int8 (5 ∷ []) (5 ∷ []))) ≡ 20
labels_copied = refl
