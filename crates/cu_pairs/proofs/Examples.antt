-- The definitions on small arrays.
use Rattle.std.proofs.Common.{◌≡◌, pos, negsuc, [], ◌∷◌, true, false, None, Some, refl}
use Rattle.cu_num.specs.Element.{element_at}
use Rattle.cu_num.specs.Wrap.{wrapped}
use Rattle.cu_num.specs.declared.types.Dtype.TheVariants.{Int8}
use Rattle.cu_reduce.specs.Groups.{group_indices}
use Rattle.cu_reduce.specs.Places.{best_of}
use Rattle.std.specs.Prelude.{map}
use Rattle.cu_pairs.specs.Elements.{sought_groups, area, found, found_in_area, found_beside}

-- 3, 1, 1, 1, 2 in chunks of two: the chunks' least numbers and their places in the whole array
first_chunk : best_of true (map (found_in_area Int8 (3 ∷ 1 ∷ []) (area (5 ∷ []) (0 ∷ []) (2 ∷ []) (Some 0))) (group_indices (sought_groups (Some 0) (2 ∷ [])) (2 ∷ []) (0 ∷ []))) ≡ Some (found (pos 1) (pos 1))
unfolding element_at wrapped
first_chunk = refl

second_chunk : best_of true (map (found_in_area Int8 (1 ∷ 1 ∷ []) (area (5 ∷ []) (2 ∷ []) (2 ∷ []) (Some 0))) (group_indices (sought_groups (Some 0) (2 ∷ [])) (2 ∷ []) (0 ∷ []))) ≡ Some (found (pos 1) (pos 2))
unfolding element_at wrapped
second_chunk = refl

-- a part of two rows and two columns that begins at row 1 and column 2 of an array of four columns
of_all : best_of false (map (found_in_area Int8 (1 ∷ 7 ∷ 255 ∷ 7 ∷ []) (area (3 ∷ 4 ∷ []) (1 ∷ 2 ∷ []) (2 ∷ 2 ∷ []) None)) (group_indices (sought_groups None (2 ∷ 2 ∷ [])) (2 ∷ 2 ∷ []) (0 ∷ 0 ∷ []))) ≡ Some (found (pos 7) (pos 7))
unfolding element_at wrapped
of_all = refl

of_a_column : best_of true (map (found_in_area Int8 (1 ∷ 7 ∷ 255 ∷ 7 ∷ []) (area (3 ∷ 4 ∷ []) (1 ∷ 2 ∷ []) (2 ∷ 2 ∷ []) (Some 0))) (group_indices (sought_groups (Some 0) (2 ∷ 2 ∷ [])) (2 ∷ 2 ∷ []) (0 ∷ 0 ∷ []))) ≡ Some (found (negsuc 0) (pos 2))
unfolding element_at wrapped
of_a_column = refl

-- partial results in any order
as_good_and_earlier : best_of true (map (found_beside Int8 (1 ∷ 1 ∷ []) (4 ∷ 0 ∷ 0 ∷ 0 ∷ 0 ∷ 0 ∷ 0 ∷ 0 ∷ 2 ∷ 0 ∷ 0 ∷ 0 ∷ 0 ∷ 0 ∷ 0 ∷ 0 ∷ []) (2 ∷ [])) (group_indices (sought_groups (Some 0) (2 ∷ [])) (2 ∷ []) (0 ∷ []))) ≡ Some (found (pos 1) (pos 2))
unfolding element_at wrapped
as_good_and_earlier = refl
