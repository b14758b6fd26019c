-- The form of a node, on small nodes.
use Rattle.std.proofs.Common.{◌≡◌, ◌^◌, pos, negsuc, true, false, [], ◌∷◌, refl}
use Rattle.cu_num.specs.declared.functions.Fn2.TheVariants.{Add}
use Rattle.cu_num.specs.declared.types.Dtype.TheVariants.{Int32}
use Rattle.cu_form.specs.declared.args.Arg.{Arg}
use Rattle.cu_node.specs.declared.literal.Literal.{Literal}
use Rattle.cu_node.specs.declared.element_op.ElementOp.{ElementOp}
use Rattle.cu_node.specs.declared.new_shape.NewShape.{NewShape}
use Rattle.cu_form.specs.declared.form.Form.{Form}
use Rattle.cu_form.specs.Form.{takes_args, names_earlier, in_ranges}

-- a sum of an array and a number, and of two numbers
one_array : takes_args (Form.Elementwise (ElementOp.Two Add) (Arg.Int (pos 1) ∷ Arg.Node 0 ∷ [])) ≡ true
one_array = refl

no_array : takes_args (Form.Elementwise (ElementOp.Two Add) (Arg.Int (pos 1) ∷ Arg.Int (pos 2) ∷ [])) ≡ false
no_array = refl

-- a choice by a truth value that is written
written_choice : takes_args (Form.Elementwise ElementOp.Where (Arg.Truth true ∷ Arg.Node 0 ∷ Arg.Node 0 ∷ [])) ≡ false
written_choice = refl

-- the greater of a number and an array, of two numbers, and of one array
greater_of_number : takes_args (Form.Elementwise (ElementOp.Extreme false) (Arg.Int (pos 5) ∷ Arg.Node 0 ∷ [])) ≡ true
greater_of_number = refl

greater_of_numbers : takes_args (Form.Elementwise (ElementOp.Extreme false) (Arg.Int (pos 5) ∷ Arg.Int (pos 6) ∷ [])) ≡ false
greater_of_numbers = refl

lesser_of_one : takes_args (Form.Elementwise (ElementOp.Extreme true) (Arg.Node 0 ∷ [])) ≡ false
lesser_of_one = refl

-- a number between bounds
number_clipped : takes_args (Form.Elementwise (ElementOp.Clip (pos 2) (pos 5)) (Arg.Int (pos 7) ∷ [])) ≡ false
number_clipped = refl

-- the ends of the integers that may be written as bounds, and one past each
widest_bounds : in_ranges (Form.Elementwise (ElementOp.Clip (negsuc 9223372036854775807) (pos 18446744073709551615)) (Arg.Node 0 ∷ [])) ≡ true
widest_bounds = refl

bound_too_low : in_ranges (Form.Elementwise (ElementOp.Clip (negsuc 9223372036854775808) (pos 5)) (Arg.Node 0 ∷ [])) ≡ false
bound_too_low = refl

bound_too_high : in_ranges (Form.Elementwise (ElementOp.Clip (pos 2) (pos (2 ^ 64))) (Arg.Node 0 ∷ [])) ≡ false
bound_too_high = refl

-- a join of nothing, and of a number
nothing_joined : takes_args (Form.Concat [] (pos 0)) ≡ false
nothing_joined = refl

number_joined : takes_args (Form.Stack (Arg.Node 0 ∷ Arg.Int (pos 3) ∷ []) (pos 0)) ≡ false
number_joined = refl

-- node 1 names node 0, and itself
earlier_node : names_earlier 1 (Form.Matmul (Arg.Node 0 ∷ Arg.Node 0 ∷ [])) ≡ true
earlier_node = refl

itself : names_earlier 1 (Form.Matmul (Arg.Node 0 ∷ Arg.Node 1 ∷ [])) ≡ false
itself = refl

-- one size that is left, and two
one_left : in_ranges (Form.Reshape (Arg.Node 0 ∷ []) (NewShape.Sizes (pos 3 ∷ negsuc 0 ∷ []))) ≡ true
one_left = refl

two_left : in_ranges (Form.Reshape (Arg.Node 0 ∷ []) (NewShape.Sizes (negsuc 0 ∷ negsuc 0 ∷ []))) ≡ false
two_left = refl

-- the least and the greatest size of a chunk, and one past each
least_chunk : in_ranges (Form.Rechunk (Arg.Node 0 ∷ []) (1 ∷ 2 ^ 40 ∷ [])) ≡ true
least_chunk = refl

empty_chunk : in_ranges (Form.Rechunk (Arg.Node 0 ∷ []) (0 ∷ [])) ≡ false
empty_chunk = refl

large_size : in_ranges (Form.BroadcastTo (Arg.Node 0 ∷ []) (2 ^ 40 ∷ 1099511627777 ∷ []) []) ≡ false
large_size = refl

-- the integers that may be written, and one past each end
least_written : in_ranges (Form.Full [] Int32 (Literal.Int (negsuc 9223372036854775807)) []) ≡ true
least_written = refl

below_written : in_ranges (Form.Full [] Int32 (Literal.Int (negsuc 9223372036854775808)) []) ≡ false
below_written = refl

above_written : in_ranges (Form.Full [] Int32 (Literal.Int (pos (2 ^ 64))) []) ≡ false
above_written = refl

-- the least and the greatest number of groups, and one past each
one_group : in_ranges (Form.GroupBy true (Arg.Node 0 ∷ Arg.Node 1 ∷ []) (pos 0) 1) ≡ true
one_group = refl

most_groups : in_ranges (Form.GroupBy false (Arg.Node 0 ∷ Arg.Node 1 ∷ []) (pos 0) 65536) ≡ true
most_groups = refl

no_groups : in_ranges (Form.GroupBy true (Arg.Node 0 ∷ Arg.Node 1 ∷ []) (pos 0) 0) ≡ false
no_groups = refl

too_many_groups : in_ranges (Form.GroupBy true (Arg.Node 0 ∷ Arg.Node 1 ∷ []) (pos 0) 65537) ≡ false
too_many_groups = refl

-- labels that are missing
no_labels : takes_args (Form.GroupBy true (Arg.Node 0 ∷ []) (pos 0) 3) ≡ false
no_labels = refl
