-- The definitions on small lists and arrays.
use Rattle.std.proofs.Common.{◌≡◌, ℤ, pos, negsuc, ◌==◌, [], ◌∷◌, true, false, List, None, Some, refl}
use Rattle.cu_num.specs.Wrap.{wrapped}
use Rattle.cu_num.specs.declared.types.Dtype.TheVariants.{Int8}
use Rattle.cu_num.specs.declared.folds.FoldKind.TheVariants.{Sum, Prod, Min, Any, All}
use Rattle.cu_reduce.specs.Folds.{fold_of, reduced_to}
use Rattle.cu_reduce.specs.Groups.{groups_of, groups_along, group_counts, group_indices, group_of}
use Rattle.cu_reduce.specs.Parts.{part_indices, group_cuts}
use Rattle.cu_reduce.specs.Places.{Found, best_of, best_place, best_in, counted_place, numbered}
use Rattle.cu_reduce.specs.Products.{left_index, right_index}
use Rattle.cu_reduce.specs.Regions.{region_indices}
use Rattle.cu_reduce.specs.Running.{running}

-- ---- folds

nothing_sums : fold_of Sum [] ≡ pos 0
nothing_sums = refl

nothing_multiplies : fold_of Prod [] ≡ pos 1
nothing_multiplies = refl

all_of_nothing : fold_of All [] ≡ pos 1
all_of_nothing = refl

any_of_nothing : fold_of Any [] ≡ pos 0
any_of_nothing = refl

least_number : fold_of Min (pos 3 ∷ negsuc 1 ∷ pos 2 ∷ []) ≡ negsuc 1
least_number = refl

wrapped_sum : reduced_to Sum Int8 (Some (pos 100) ∷ Some (pos 100) ∷ []) ≡ Some (negsuc 55)
unfolding wrapped
wrapped_sum = refl

missing : reduced_to Sum Int8 (Some (pos 100) ∷ None ∷ []) ≡ None
missing = refl

on_the_way : running Sum Int8 (pos 0) (pos 100 ∷ pos 100 ∷ pos 1 ∷ []) ≡ negsuc 54
unfolding wrapped
on_the_way = refl

-- ---- places

three : ℤ → ℤ → ℤ → List Found
three x y z = numbered 0 (x ∷ y ∷ z ∷ [])

first_of_equal : best_of true (three (pos 2) (pos 1) (pos 1)) ≡ Some (record { value = pos 1; place = pos 1 })
unfolding three
first_of_equal = refl

greatest_place : best_of false (three (pos 2) (pos 7) (pos 7)) ≡ Some (record { value = pos 7; place = pos 1 })
unfolding three
greatest_place = refl

-- the earlier place wins, however the list is ordered
places_decide : best_in true (Some (record { value = pos 1; place = pos 9 }) ∷ Some (record { value = pos 1; place = pos 4 }) ∷ []) ≡ Some (record { value = pos 1; place = pos 4 })
places_decide = refl

place_in_list : best_place false (pos 2 ∷ pos 7 ∷ pos 7 ∷ []) ≡ 1
place_in_list = refl

along_an_axis : counted_place (Some 1) (2 ∷ 3 ∷ []) (1 ∷ 2 ∷ []) ≡ 2
along_an_axis = refl

in_the_whole : counted_place None (2 ∷ 3 ∷ []) (1 ∷ 2 ∷ []) ≡ 5
in_the_whole = refl

-- ---- regions and groups

a_region : region_indices (1 ∷ 2 ∷ []) (3 ∷ 4 ∷ []) ≡ (1 ∷ 2 ∷ []) ∷ (1 ∷ 3 ∷ []) ∷ (2 ∷ 2 ∷ []) ∷ (2 ∷ 3 ∷ []) ∷ []
a_region = refl

an_empty_region : region_indices (1 ∷ 2 ∷ []) (1 ∷ 4 ∷ []) ≡ []
an_empty_region = refl

-- five elements in groups of two, over the second axis of a 3 by 5 array
groups_of_two : group_counts (groups_along 1 2 (3 ∷ 5 ∷ [])) (3 ∷ 5 ∷ []) ≡ 3 ∷ 3 ∷ []
groups_of_two = refl

last_group : group_indices (groups_along 1 2 (3 ∷ 5 ∷ [])) (3 ∷ 5 ∷ []) (2 ∷ 2 ∷ []) ≡ (2 ∷ 4 ∷ []) ∷ []
last_group = refl

same_part : part_indices (group_cuts (groups_along 1 2 (3 ∷ 5 ∷ [])) (3 ∷ 5 ∷ [])) (2 ∷ 1 ∷ []) ≡ (2 ∷ 2 ∷ []) ∷ (2 ∷ 3 ∷ []) ∷ []
same_part = refl

-- an empty axis has one group, with no elements
empty_axis : group_counts (groups_of (λ d. d == 0) (0 ∷ 4 ∷ [])) (0 ∷ 4 ∷ []) ≡ 1 ∷ 4 ∷ []
empty_axis = refl

no_elements : group_indices (groups_of (λ d. d == 0) (0 ∷ 4 ∷ [])) (0 ∷ 4 ∷ []) (0 ∷ 1 ∷ []) ≡ []
no_elements = refl

axis_left_out : group_of (groups_of (λ d. d == 0) (2 ∷ 4 ∷ [])) (2 ∷ 4 ∷ []) (4 ∷ []) (3 ∷ []) ≡ 0 ∷ 3 ∷ []
axis_left_out = refl

-- ---- products

row_and_column : left_index (2 ∷ 3 ∷ []) (3 ∷ 4 ∷ []) (1 ∷ 2 ∷ []) 0 ≡ 1 ∷ 0 ∷ []
row_and_column = refl

of_a_column : right_index (2 ∷ 3 ∷ []) (3 ∷ []) (1 ∷ []) 2 ≡ 2 ∷ []
of_a_column = refl

batch_stretched : right_index (5 ∷ 2 ∷ 3 ∷ []) (1 ∷ 3 ∷ 4 ∷ []) (4 ∷ 1 ∷ 2 ∷ []) 0 ≡ 0 ∷ 0 ∷ 2 ∷ []
batch_stretched = refl
