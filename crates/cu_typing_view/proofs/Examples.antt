-- The definitions on worked examples.
use Rattle.std.proofs.Common.{◌≡◌, true, [], ◌∷◌, Some, None, Ok, Err, pos, negsuc, refl}
use Rattle.cu_num.specs.declared.types.Dtype.TheVariants.{Bool, Int8, Int16, Int32, Uint8}
use Rattle.cu_num.specs.Promotion.{promotion}
use Rattle.cu_node.specs.declared.literal.Literal.TheVariants.{Int, Truth}
use Rattle.cu_node.specs.declared.index_item.IndexItem.{IndexItem}
use Rattle.cu_node.specs.declared.index_item.IndexItem.TheVariants.{At, Slice, New, Ellipsis}
use Rattle.cu_node.specs.Fault.{fault, fault_at}
use Rattle.cu_node.specs.Info.{info_of}
use Rattle.cu_node.specs.declared.faults.FaultCode.TheVariants.{Promote, Shape, Axis, Scalar, Kind, Limit, ReshapeSize, Index}
use Rattle.cu_node.specs.declared.info.NodeInfo.{NodeInfo}
use Rattle.cu_typing_view.specs.Creation.{arange_count, holds_ends, typed_full, typed_arange, typed_eye}
use Rattle.cu_typing_view.specs.Pieces.{typed_concat, typed_stack}
use Rattle.cu_typing_view.specs.NewShapes.{typed_expand, typed_squeeze}
use Rattle.cu_typing_view.specs.Rearranged.{typed_triangle, typed_permute, typed_flip, typed_roll}
use Rattle.cu_typing_view.specs.Reshaped.{typed_reshape, typed_broadcast, typed_rechunk}
use Rattle.cu_typing_view.specs.Entries.{count_taken, typed_index}

-- ---- arrays that are made

filled : typed_full (2 ∷ 3 ∷ []) Int8 (Int (negsuc 127)) (1 ∷ 3 ∷ []) ≡ Ok (info_of Int8 (2 ∷ 3 ∷ []) (1 ∷ 3 ∷ []))
filled = refl

value_out_of_range_before_rank : typed_full (2 ∷ []) Int8 (Int (pos 128)) [] ≡ Err (fault Scalar)
value_out_of_range_before_rank = refl

-- a number is no truth value
one_of_bool : typed_full [] Bool (Int (pos 1)) [] ≡ Err (fault Scalar)
one_of_bool = refl

seven_axes : typed_full (1 ∷ 1 ∷ 1 ∷ 1 ∷ 1 ∷ 1 ∷ 1 ∷ []) Bool (Truth true) (1 ∷ 1 ∷ 1 ∷ 1 ∷ 1 ∷ 1 ∷ 1 ∷ []) ≡ Err (fault_at Limit 1)
seven_axes = refl

-- 0, 3, 6, 9
counted_up : typed_arange (pos 0) (pos 10) (pos 3) Int32 (4 ∷ []) ≡ Ok (info_of Int32 (4 ∷ []) (4 ∷ []))
unfolding arange_count holds_ends
counted_up = refl

-- 5, 3, 1, -1
counted_down : typed_arange (pos 5) (negsuc 1) (negsuc 1) Int8 (2 ∷ []) ≡ Ok (info_of Int8 (4 ∷ []) (2 ∷ []))
unfolding arange_count holds_ends
counted_down = refl

last_below_zero : typed_arange (pos 5) (negsuc 1) (negsuc 1) Uint8 (2 ∷ []) ≡ Err (fault Scalar)
unfolding arange_count holds_ends
last_below_zero = refl

-- with no numbers nothing is out of range
no_numbers : typed_arange (pos 300) (pos 300) (pos 1) Uint8 (2 ∷ []) ≡ Ok (info_of Uint8 (0 ∷ []) (2 ∷ []))
unfolding arange_count holds_ends
no_numbers = refl

step_0 : typed_arange (pos 300) (pos 0) (pos 0) Uint8 [] ≡ Err (fault Index)
unfolding arange_count holds_ends
step_0 = refl

bool_numbers_before_step_0 : typed_arange (pos 0) (pos 2) (pos 0) Bool (2 ∷ []) ≡ Err (fault Kind)
unfolding arange_count holds_ends
bool_numbers_before_step_0 = refl

empty_matrix : typed_eye 0 3 Int8 (1 ∷ 1 ∷ []) ≡ Ok (info_of Int8 (0 ∷ 3 ∷ []) (1 ∷ 1 ∷ []))
empty_matrix = refl

-- ---- pieces

concatenated : typed_concat (info_of Int8 (2 ∷ 3 ∷ []) (1 ∷ 2 ∷ []) ∷ info_of Uint8 (4 ∷ 3 ∷ []) (4 ∷ 3 ∷ []) ∷ []) (negsuc 1) ≡ Ok (info_of Int16 (6 ∷ 3 ∷ []) (1 ∷ 2 ∷ []))
unfolding promotion
concatenated = refl

-- the types come first, then the axis, then the shapes
types_before_axis : typed_concat (info_of Bool (2 ∷ []) (2 ∷ []) ∷ info_of Int8 [] [] ∷ []) (pos 7) ≡ Err (fault Promote)
unfolding promotion
types_before_axis = refl

axis_before_shapes : typed_concat (info_of Int8 (2 ∷ []) (2 ∷ []) ∷ info_of Int8 [] [] ∷ []) (pos 1) ≡ Err (fault Axis)
unfolding promotion
axis_before_shapes = refl

other_rank : typed_concat (info_of Int8 (2 ∷ 3 ∷ []) (2 ∷ 3 ∷ []) ∷ info_of Int8 (2 ∷ []) (2 ∷ []) ∷ []) (pos 1) ≡ Err (fault Shape)
unfolding promotion
other_rank = refl

rank_0_concatenated : typed_concat (info_of Int8 [] [] ∷ []) (pos 0) ≡ Err (fault Axis)
unfolding promotion
rank_0_concatenated = refl

stacked_at_the_end : typed_stack (info_of Int8 (2 ∷ []) (1 ∷ []) ∷ info_of Int8 (2 ∷ []) (2 ∷ []) ∷ info_of Int8 (2 ∷ []) (2 ∷ []) ∷ []) (negsuc 0) ≡ Ok (info_of Int8 (2 ∷ 3 ∷ []) (1 ∷ 1 ∷ []))
unfolding promotion
stacked_at_the_end = refl

-- ---- axes

abbrev matrix : NodeInfo
matrix = info_of Int8 (2 ∷ 3 ∷ []) (1 ∷ 2 ∷ [])

triangle_of_a_vector : typed_triangle (info_of Int8 (2 ∷ []) (2 ∷ [])) ≡ Err (fault Axis)
triangle_of_a_vector = refl

transposed : typed_permute matrix (pos 1 ∷ pos 0 ∷ []) ≡ Ok (info_of Int8 (3 ∷ 2 ∷ []) (2 ∷ 1 ∷ []))
transposed = refl

counted_from_the_end : typed_permute matrix (pos 0 ∷ negsuc 0 ∷ []) ≡ Err (fault Axis)
counted_from_the_end = refl

named_twice : typed_permute matrix (pos 0 ∷ pos 0 ∷ []) ≡ Err (fault Axis)
named_twice = refl

axis_missing : typed_permute matrix (pos 0 ∷ []) ≡ Err (fault Axis)
axis_missing = refl

expanded_behind : typed_expand matrix (negsuc 0) ≡ Ok (info_of Int8 (2 ∷ 3 ∷ 1 ∷ []) (1 ∷ 2 ∷ 1 ∷ []))
expanded_behind = refl

expanded_too_far : typed_expand matrix (pos 3) ≡ Err (fault Axis)
expanded_too_far = refl

squeezed : typed_squeeze (info_of Int8 (1 ∷ 3 ∷ 1 ∷ []) (1 ∷ 2 ∷ 1 ∷ [])) (negsuc 0 ∷ pos 0 ∷ []) ≡ Ok (info_of Int8 (3 ∷ []) (2 ∷ []))
squeezed = refl

squeezed_too_much : typed_squeeze matrix (pos 0 ∷ []) ≡ Err (fault Axis)
squeezed_too_much = refl

turned : typed_flip matrix None ≡ Ok matrix
turned = refl

turned_twice_on_one_axis : typed_flip matrix (Some (pos 1 ∷ negsuc 0 ∷ [])) ≡ Err (fault Axis)
turned_twice_on_one_axis = refl

one_shift_for_two_axes : typed_roll matrix (pos 1 ∷ []) (pos 0 ∷ pos 1 ∷ []) ≡ Err (fault Axis)
one_shift_for_two_axes = refl

-- ---- shapes

-- [[1, 2, 3], [4, 5, 6]] in chunks [1, 2] to [3, -1] and to [4, -1]
two_columns : typed_reshape matrix (pos 3 ∷ negsuc 0 ∷ []) ≡ Ok (info_of Int8 (3 ∷ 2 ∷ []) (1 ∷ 2 ∷ []))
two_columns = refl

four_rows : typed_reshape matrix (pos 4 ∷ negsuc 0 ∷ []) ≡ Err (fault ReshapeSize)
four_rows = refl

other_count : typed_reshape matrix (pos 7 ∷ []) ≡ Err (fault ReshapeSize)
other_count = refl

of_no_elements : typed_reshape (info_of Int8 (0 ∷ 3 ∷ []) (1 ∷ 3 ∷ [])) (negsuc 0 ∷ pos 5 ∷ []) ≡ Ok (info_of Int8 (0 ∷ 5 ∷ []) (1 ∷ 3 ∷ []))
of_no_elements = refl

what_is_left_of_zero : typed_reshape (info_of Int8 (0 ∷ 3 ∷ []) (1 ∷ 3 ∷ [])) (negsuc 0 ∷ pos 0 ∷ []) ≡ Err (fault ReshapeSize)
what_is_left_of_zero = refl

stretched : typed_broadcast (info_of Int8 (3 ∷ 1 ∷ []) (2 ∷ 1 ∷ [])) (2 ∷ 3 ∷ 4 ∷ []) (1 ∷ 3 ∷ 4 ∷ []) ≡ Ok (info_of Int8 (2 ∷ 3 ∷ 4 ∷ []) (1 ∷ 3 ∷ 4 ∷ []))
stretched = refl

not_stretched : typed_broadcast matrix (2 ∷ 2 ∷ []) (1 ∷ 1 ∷ []) ≡ Err (fault Shape)
not_stretched = refl

-- [3] with [1] gives [3], which isn't [1]
not_shrunk : typed_broadcast (info_of Int8 (3 ∷ []) (3 ∷ [])) (1 ∷ []) (1 ∷ []) ≡ Err (fault Shape)
not_shrunk = refl

fewer_axes : typed_broadcast matrix (3 ∷ []) (3 ∷ []) ≡ Err (fault Shape)
fewer_axes = refl

chunks_of_another_rank : typed_rechunk matrix (2 ∷ []) ≡ Err (fault Shape)
chunks_of_another_rank = refl

-- ---- an index

abbrev vector : NodeInfo
vector = info_of Int8 (5 ∷ []) (2 ∷ [])

abbrev all : IndexItem
all = Slice None None None

-- 0, 1, 2, 3, 4 in chunks of 2 with the step -2
reversed : typed_index vector (Slice None None (Some (negsuc 1)) ∷ []) ≡ Ok (info_of Int8 (3 ∷ []) (2 ∷ []))
unfolding count_taken
reversed = refl

one_element : typed_index vector (At (negsuc 4) ∷ []) ≡ Ok (info_of Int8 [] [])
one_element = refl

below_the_axis : typed_index vector (At (negsuc 5) ∷ []) ≡ Err (fault Index)
below_the_axis = refl

above_the_axis : typed_index vector (New ∷ At (pos 5) ∷ []) ≡ Err (fault_at Index 1)
above_the_axis = refl

slice_of_step_0 : typed_index matrix (all ∷ Slice None None (Some (pos 0)) ∷ []) ≡ Err (fault_at Index 1)
unfolding count_taken
slice_of_step_0 = refl

two_ellipses : typed_index matrix (Ellipsis ∷ At (pos 0) ∷ Ellipsis ∷ []) ≡ Err (fault_at Index 2)
two_ellipses = refl

three_entries : typed_index matrix (At (pos 0) ∷ Ellipsis ∷ all ∷ all ∷ []) ≡ Err (fault_at Index 3)
unfolding count_taken
three_entries = refl

last_column : typed_index matrix (Ellipsis ∷ At (negsuc 0) ∷ New ∷ []) ≡ Ok (info_of Int8 (2 ∷ 1 ∷ []) (1 ∷ 1 ∷ []))
last_column = refl

rows_that_follow : typed_index matrix (Slice (Some (pos 1)) (Some (pos 1)) None ∷ []) ≡ Ok (info_of Int8 (0 ∷ 3 ∷ []) (1 ∷ 2 ∷ []))
unfolding count_taken
rows_that_follow = refl

too_many_new_axes : typed_index matrix (New ∷ New ∷ New ∷ New ∷ New ∷ []) ≡ Err (fault_at Limit 1)
too_many_new_axes = refl

-- a wrong entry comes before the limit
wrong_entry_first : typed_index matrix (New ∷ New ∷ New ∷ New ∷ New ∷ At (pos 2) ∷ []) ≡ Err (fault_at Index 5)
wrong_entry_first = refl
