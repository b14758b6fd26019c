-- Nodes typed: the worked examples, each code, and the order of two faults at once. The shapes are NumPy's.
use Rattle.std.proofs.Common.{◌≡◌, ◌^◌, ◌+◌, ℕ, true, false, pos, negsuc, List, [], ◌∷◌, Some, None, Result, Ok, Err, refl}
use Rattle.cu_num.specs.Promotion.{promotion}
use Rattle.cu_num.specs.declared.types.Dtype.{Dtype}
use Rattle.cu_num.specs.declared.types.Dtype.TheVariants.{Bool, Int8, Int16, Int32, Int64, Uint8, Uint64}
use Rattle.cu_num.specs.declared.functions.Fn2.TheVariants.{Add, Equal}
use Rattle.cu_node.specs.declared.literal.Literal.TheVariants.{Int, Truth}
use Rattle.cu_node.specs.declared.element_op.ElementOp.TheVariants.{Two, Where, Astype, Extreme, Clip}
use Rattle.cu_num.specs.declared.folds.FoldKind.{FoldKind}
use Rattle.cu_num.specs.declared.folds.FoldKind.TheVariants as fold
use Rattle.cu_node.specs.Fault.{fault, fault_at}
use Rattle.cu_node.specs.Info.{info_of}
use Rattle.cu_node.specs.Limited.{limit}
use Rattle.cu_node.specs.declared.faults.FaultCode.TheVariants.{Kind, Scalar, Promote, Axis, Shape, EmptyReduce}
use Rattle.cu_node.specs.declared.faults.NodeFault.{NodeFault}
use Rattle.cu_node.specs.declared.info.NodeInfo.{NodeInfo}
use Rattle.cu_typing.specs.Along.{typed_cumulative, typed_groups}
use Rattle.cu_typing.specs.Elementwise.{typed_elementwise}
use Rattle.cu_typing.specs.Matmul.{typed_matmul}
use Rattle.cu_typing.specs.Reduction.{typed_reduction, typed_arg_place}
use Rattle.cu_typing.specs.declared.argument.Argument.{Argument}
use Rattle.cu_typing.specs.declared.argument.Argument.TheVariants.{Array, Written}

abbrev one : Dtype → Argument
one t = Array (info_of t (1 ∷ []) (1 ∷ []))

abbrev add : Argument → Argument → Result NodeInfo NodeFault
add x y = typed_elementwise (Two Add) (x ∷ y ∷ [])

-- ---- types

wraps : add (one Int8) (Written (Int (pos 1))) ≡ Ok (info_of Int8 (1 ∷ []) (1 ∷ []))
unfolding promotion
wraps = refl

promotes : add (one Uint8) (one Int8) ≡ Ok (info_of Int16 (1 ∷ []) (1 ∷ []))
unfolding promotion
promotes = refl

no_promotion : add (one Int64) (one Uint64) ≡ Err (fault Promote)
unfolding promotion
no_promotion = refl

kind_before_promotion : add (one Bool) (one Int8) ≡ Err (fault Kind)
unfolding promotion
kind_before_promotion = refl

bool_and_number : typed_elementwise (Two Equal) (one Bool ∷ one Int8 ∷ []) ≡ Err (fault Promote)
unfolding promotion
bool_and_number = refl

literal_out_of_range : add (one Int8) (Written (Int (pos 128))) ≡ Err (fault Scalar)
unfolding promotion
literal_out_of_range = refl

least_literal : add (one Int8) (Written (Int (negsuc 127))) ≡ Ok (info_of Int8 (1 ∷ []) (1 ∷ []))
unfolding promotion
least_literal = refl

truth_for_a_number : add (Written (Truth true)) (one Int8) ≡ Err (fault Scalar)
unfolding promotion
truth_for_a_number = refl

kind_before_literal : add (one Bool) (Written (Int (pos 1))) ≡ Err (fault Kind)
unfolding promotion
kind_before_literal = refl

no_condition : typed_elementwise Where (one Int8 ∷ one Int8 ∷ one Int8 ∷ []) ≡ Err (fault Kind)
unfolding promotion
no_condition = refl

chosen : typed_elementwise Where (one Bool ∷ Written (Int (pos 3)) ∷ one Int8 ∷ []) ≡ Ok (info_of Int8 (1 ∷ []) (1 ∷ []))
unfolding promotion
chosen = refl

comparison : typed_elementwise (Two Equal) (one Int8 ∷ one Int16 ∷ []) ≡ Ok (info_of Bool (1 ∷ []) (1 ∷ []))
unfolding promotion
comparison = refl

cast : typed_elementwise (Astype Uint8) (one Bool ∷ []) ≡ Ok (info_of Uint8 (1 ∷ []) (1 ∷ []))
unfolding promotion
cast = refl

-- the extremes of numbers promote as a sum does
greater_promotes : typed_elementwise (Extreme false) (one Int8 ∷ one Uint8 ∷ []) ≡ Ok (info_of Int16 (1 ∷ []) (1 ∷ []))
unfolding promotion
greater_promotes = refl

lesser_of_a_number : typed_elementwise (Extreme true) (Written (Int (pos 5)) ∷ one Int8 ∷ []) ≡ Ok (info_of Int8 (1 ∷ []) (1 ∷ []))
unfolding promotion
lesser_of_a_number = refl

greater_of_truth : typed_elementwise (Extreme false) (one Bool ∷ one Bool ∷ []) ≡ Err (fault Kind)
unfolding promotion
greater_of_truth = refl

greater_out_of_range : typed_elementwise (Extreme false) (one Uint8 ∷ Written (Int (negsuc 0)) ∷ []) ≡ Err (fault Scalar)
unfolding promotion
greater_out_of_range = refl

-- bounds at the ends of the type, one past each end, and exchanged
widest_bounds : typed_elementwise (Clip (negsuc 127) (pos 127)) (one Int8 ∷ []) ≡ Ok (info_of Int8 (1 ∷ []) (1 ∷ []))
unfolding promotion
widest_bounds = refl

low_bound_outside : typed_elementwise (Clip (negsuc 128) (pos 127)) (one Int8 ∷ []) ≡ Err (fault Scalar)
unfolding promotion
low_bound_outside = refl

high_bound_outside : typed_elementwise (Clip (negsuc 127) (pos 128)) (one Int8 ∷ []) ≡ Err (fault Scalar)
unfolding promotion
high_bound_outside = refl

bounds_exchanged : typed_elementwise (Clip (pos 5) (pos 2)) (one Int8 ∷ []) ≡ Ok (info_of Int8 (1 ∷ []) (1 ∷ []))
unfolding promotion
bounds_exchanged = refl

truth_between_bounds : typed_elementwise (Clip (pos 0) (pos 300)) (one Bool ∷ []) ≡ Err (fault Kind)
unfolding promotion
truth_between_bounds = refl

-- ---- shapes and chunks

abbrev of : List ℕ → List ℕ → Argument
of shape chunk = Array (info_of Int32 shape chunk)

rows_and_row : add (of (2 ∷ 3 ∷ []) (2 ∷ 3 ∷ [])) (of (3 ∷ []) (3 ∷ [])) ≡ Ok (info_of Int32 (2 ∷ 3 ∷ []) (2 ∷ 3 ∷ []))
unfolding promotion
rows_and_row = refl

rows_and_other_row : add (of (2 ∷ 3 ∷ []) (2 ∷ 3 ∷ [])) (of (2 ∷ []) (2 ∷ [])) ≡ Err (fault_at Shape 1)
unfolding promotion
rows_and_other_row = refl

-- the chunk of an axis is the first array's that isn't stretched there
stretched_chunk : add (of (1 ∷ 6 ∷ []) (1 ∷ 2 ∷ [])) (of (4 ∷ 6 ∷ []) (3 ∷ 5 ∷ [])) ≡ Ok (info_of Int32 (4 ∷ 6 ∷ []) (3 ∷ 2 ∷ []))
unfolding promotion
stretched_chunk = refl

-- the place is counted in the rank of all arguments
place_in_the_final_rank : typed_elementwise Where (Array (info_of Bool (2 ∷ []) (1 ∷ [])) ∷ of (3 ∷ []) (1 ∷ []) ∷ of (1 ∷ 1 ∷ 1 ∷ []) (1 ∷ 1 ∷ 1 ∷ []) ∷ []) ≡ Err (fault_at Shape 2)
unfolding promotion
place_in_the_final_rank = refl

-- the types come before the shapes
type_before_shape : add (Array (info_of Int64 (2 ∷ []) (1 ∷ []))) (Array (info_of Uint64 (3 ∷ []) (1 ∷ []))) ≡ Err (fault Promote)
unfolding promotion
type_before_shape = refl

-- 2^20 by 2^20 elements are the most; one more is refused
most_elements : add (of (2 ^ 20 ∷ 1 ∷ []) (2 ^ 12 ∷ 1 ∷ [])) (of (2 ^ 20 ∷ []) (2 ^ 12 ∷ [])) ≡ Ok (info_of Int32 (2 ^ 20 ∷ 2 ^ 20 ∷ []) (2 ^ 12 ∷ 2 ^ 12 ∷ []))
unfolding promotion
most_elements = refl

too_many_elements : add (of (2 ^ 20 ∷ 1 ∷ []) (2 ^ 14 ∷ 1 ∷ [])) (of ((2 ^ 20 + 1) ∷ []) (2 ^ 14 ∷ [])) ≡ Err (limit 2)
unfolding promotion
too_many_elements = refl

-- the second's aligned chunk has the first's size on axis 0 and its own on axis 1, on which it is stretched
aligned_chunk_too_large : add (of (2 ^ 14 ∷ 2 ∷ []) (2 ^ 14 ∷ 1 ∷ [])) (of (2 ^ 14 ∷ 1 ∷ []) (1 ∷ 2 ^ 13 ∷ [])) ≡ Err (limit 3)
unfolding promotion
aligned_chunk_too_large = refl

-- ---- reductions

sum_of_nothing : typed_reduction fold.Sum None false (info_of Int32 (0 ∷ []) (4 ∷ [])) ≡ Ok (info_of Int64 [] [])
unfolding promotion
sum_of_nothing = refl

greatest_of_nothing : typed_reduction fold.Max None false (info_of Int32 (0 ∷ []) (4 ∷ [])) ≡ Err (fault EmptyReduce)
unfolding promotion
greatest_of_nothing = refl

sum_of_an_axis : typed_reduction fold.Sum (Some (negsuc 0 ∷ [])) false (info_of Uint8 (0 ∷ 3 ∷ []) (1 ∷ 3 ∷ [])) ≡ Ok (info_of Uint64 (0 ∷ []) (1 ∷ []))
unfolding promotion
sum_of_an_axis = refl

kept_axes : typed_reduction fold.Min (Some (pos 1 ∷ [])) true (info_of Int8 (4 ∷ 5 ∷ []) (2 ∷ 3 ∷ [])) ≡ Ok (info_of Int8 (4 ∷ 1 ∷ []) (2 ∷ 1 ∷ []))
unfolding promotion
kept_axes = refl

sum_of_bools : typed_reduction fold.Sum (Some (pos 9 ∷ [])) false (info_of Bool (4 ∷ []) (2 ∷ [])) ≡ Err (fault Kind)
unfolding promotion
sum_of_bools = refl

axis_before_nothing : typed_reduction fold.Min (Some (pos 0 ∷ negsuc 0 ∷ [])) false (info_of Int8 (0 ∷ []) (2 ∷ [])) ≡ Err (fault Axis)
unfolding promotion
axis_before_nothing = refl

any_of_nothing : typed_reduction fold.Any None true (info_of Int8 (0 ∷ 2 ∷ []) (1 ∷ 1 ∷ [])) ≡ Ok (info_of Bool (1 ∷ 1 ∷ []) (1 ∷ 1 ∷ []))
unfolding promotion
any_of_nothing = refl

place_along : typed_arg_place (Some (pos 0)) false (info_of Int8 (4 ∷ 5 ∷ []) (2 ∷ 3 ∷ [])) ≡ Ok (info_of Int64 (5 ∷ []) (3 ∷ []))
unfolding promotion
place_along = refl

place_of_nothing : typed_arg_place (Some (pos 0)) false (info_of Int8 (0 ∷ 5 ∷ []) (2 ∷ 3 ∷ [])) ≡ Err (fault EmptyReduce)
unfolding promotion
place_of_nothing = refl

-- ---- matrix products

abbrev array : List ℕ → List ℕ → NodeInfo
array shape chunk = info_of Int32 shape chunk

matrix_and_vector : typed_matmul (array (2 ∷ 3 ∷ []) (2 ∷ 2 ∷ [])) (array (3 ∷ []) (2 ∷ [])) ≡ Ok (array (2 ∷ []) (2 ∷ []))
unfolding promotion
matrix_and_vector = refl

two_vectors : typed_matmul (array (3 ∷ []) (2 ∷ [])) (array (3 ∷ []) (2 ∷ [])) ≡ Ok (array [] [])
unfolding promotion
two_vectors = refl

vector_and_matrices : typed_matmul (array (4 ∷ []) (2 ∷ [])) (array (6 ∷ 4 ∷ 5 ∷ []) (3 ∷ 2 ∷ 3 ∷ [])) ≡ Ok (array (6 ∷ 5 ∷ []) (3 ∷ 3 ∷ []))
unfolding promotion
vector_and_matrices = refl

stretched_matrices : typed_matmul (array (2 ∷ 1 ∷ 3 ∷ 4 ∷ []) (1 ∷ 1 ∷ 2 ∷ 2 ∷ [])) (array (5 ∷ 4 ∷ 6 ∷ []) (3 ∷ 4 ∷ 5 ∷ [])) ≡ Ok (array (2 ∷ 5 ∷ 3 ∷ 6 ∷ []) (1 ∷ 3 ∷ 2 ∷ 5 ∷ []))
unfolding promotion
stretched_matrices = refl

five_axes : typed_matmul (array (2 ∷ 2 ∷ 2 ∷ 3 ∷ 4 ∷ []) (1 ∷ 1 ∷ 1 ∷ 3 ∷ 4 ∷ [])) (array (4 ∷ 5 ∷ []) (4 ∷ 5 ∷ [])) ≡ Ok (array (2 ∷ 2 ∷ 2 ∷ 3 ∷ 5 ∷ []) (1 ∷ 1 ∷ 1 ∷ 3 ∷ 5 ∷ []))
unfolding promotion
five_axes = refl

six_axes : typed_matmul (array (2 ∷ 2 ∷ 2 ∷ 2 ∷ 3 ∷ 4 ∷ []) (1 ∷ 1 ∷ 1 ∷ 1 ∷ 3 ∷ 4 ∷ [])) (array (4 ∷ 5 ∷ []) (4 ∷ 5 ∷ [])) ≡ Err (limit 1)
unfolding promotion
six_axes = refl

inner_sizes_differ : typed_matmul (array (2 ∷ 3 ∷ []) (2 ∷ 3 ∷ [])) (array (4 ∷ 5 ∷ []) (4 ∷ 5 ∷ [])) ≡ Err (fault Shape)
unfolding promotion
inner_sizes_differ = refl

leading_sizes_differ : typed_matmul (array (7 ∷ 2 ∷ 2 ∷ 3 ∷ []) (1 ∷ 1 ∷ 1 ∷ 1 ∷ [])) (array (3 ∷ 3 ∷ 5 ∷ []) (1 ∷ 1 ∷ 1 ∷ [])) ≡ Err (fault_at Shape 1)
unfolding promotion
leading_sizes_differ = refl

no_axes : typed_matmul (array [] []) (array (4 ∷ 5 ∷ []) (4 ∷ 5 ∷ [])) ≡ Err (fault Axis)
unfolding promotion
no_axes = refl

product_of_bools : typed_matmul (info_of Bool [] []) (array (4 ∷ []) (4 ∷ [])) ≡ Err (fault Kind)
unfolding promotion
product_of_bools = refl

product_without_type : typed_matmul (info_of Int64 [] []) (info_of Uint64 (4 ∷ []) (4 ∷ [])) ≡ Err (fault Promote)
unfolding promotion
product_without_type = refl

-- ---- prefix sums

five : Dtype → NodeInfo
five t = info_of t (5 ∷ []) (2 ∷ [])

summed : typed_cumulative None (five Int32) ≡ Ok (info_of Int64 (5 ∷ []) (2 ∷ []))
unfolding five
summed = refl

summed_unsigned : typed_cumulative (Some (negsuc 0)) (info_of Uint8 (2 ∷ 3 ∷ []) (1 ∷ 3 ∷ []))
    ≡ Ok (info_of Uint64 (2 ∷ 3 ∷ []) (1 ∷ 3 ∷ []))
summed_unsigned = refl

no_truths_summed : typed_cumulative None (five Bool) ≡ Err (fault Kind)
unfolding five
no_truths_summed = refl

axis_wanted : typed_cumulative None (info_of Int32 (2 ∷ 3 ∷ []) (1 ∷ 3 ∷ [])) ≡ Err (fault Axis)
axis_wanted = refl

no_axis : typed_cumulative None (info_of Int32 [] []) ≡ Err (fault Axis)
no_axis = refl

past_the_axes : typed_cumulative (Some (pos 1)) (five Int32) ≡ Err (fault Axis)
unfolding five
past_the_axes = refl

-- a chunk of sums is larger than that of the elements
sums_too_large : typed_cumulative None (info_of Int8 (2 ^ 28 ∷ []) (2 ^ 28 ∷ [])) ≡ Err (limit 3)
sums_too_large = refl

-- ---- groups by labels

in_three : FoldKind → NodeInfo → NodeInfo → Result NodeInfo NodeFault
in_three kind i labels = typed_groups kind (pos 0) 3 i labels

groups_of_sums : in_three fold.Sum (five Int32) (five Int32) ≡ Ok (info_of Int64 (3 ∷ []) (3 ∷ []))
unfolding five in_three
groups_of_sums = refl

groups_of_least : in_three fold.Min (five Int32) (five Uint8) ≡ Ok (info_of Int32 (3 ∷ []) (3 ∷ []))
unfolding five in_three
groups_of_least = refl

along_the_last : typed_groups fold.Min (negsuc 0) 4 (info_of Int8 (2 ∷ 5 ∷ []) (1 ∷ 2 ∷ [])) (five Int32)
    ≡ Ok (info_of Int8 (2 ∷ 4 ∷ []) (1 ∷ 4 ∷ []))
unfolding five
along_the_last = refl

truths_as_labels : in_three fold.Min (five Int32) (five Bool) ≡ Err (fault Kind)
unfolding five in_three
truths_as_labels = refl

-- a type comes before an axis, an axis before the labels' shape
no_such_axis : typed_groups fold.Sum (pos 1) 3 (five Int32) (info_of Int32 (4 ∷ []) (2 ∷ [])) ≡ Err (fault Axis)
unfolding five
no_such_axis = refl

label_missing : typed_groups fold.Sum (pos 1) 3 (info_of Int32 (2 ∷ 5 ∷ []) (1 ∷ 2 ∷ [])) (info_of Int32 (4 ∷ []) (2 ∷ []))
    ≡ Err (fault_at Shape 1)
label_missing = refl

labels_of_two_axes : in_three fold.Sum (five Int32) (info_of Int32 (5 ∷ 1 ∷ []) (2 ∷ 1 ∷ [])) ≡ Err (fault_at Shape 0)
unfolding five in_three
labels_of_two_axes = refl

six_axes_grouped : in_three fold.Sum (info_of Int32 (1 ∷ 1 ∷ 1 ∷ 1 ∷ 1 ∷ 1 ∷ []) (1 ∷ 1 ∷ 1 ∷ 1 ∷ 1 ∷ 1 ∷ [])) (info_of Int32 (1 ∷ []) (1 ∷ []))
    ≡ Err (limit 1)
unfolding in_three
six_axes_grouped = refl

-- the labels in the chunks of the array
labels_too_large : in_three fold.Sum (info_of Int8 (2 ^ 28 ∷ []) (2 ^ 28 ∷ [])) (info_of Int64 (2 ^ 28 ∷ []) (1 ∷ [])) ≡ Err (limit 3)
unfolding in_three
labels_too_large = refl
