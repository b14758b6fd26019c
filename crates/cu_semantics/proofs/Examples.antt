-- The meaning on small arrays, with the numbers of the worked examples.
use Rattle.std.proofs.Common.{◌≡◌, ℕ, ℤ, pos, negsuc, Bool, true, false, List, [], ◌∷◌, refl, None, Some, codes, get_or, map, length}
use Rattle.cu_num.specs.declared.folds.FoldKind.TheVariants.{Sum, Prod, Max}
use Rattle.cu_num.specs.declared.functions.Fn2.TheVariants.{Add, FloorDivide}
use Rattle.cu_num.specs.declared.types.Dtype.{Dtype}
use Rattle.cu_num.specs.declared.types.Dtype.TheVariants.{Int8, Int16, Int32, Int64, Uint8}
use Rattle.cu_num.specs.Wrap.{wrapped}
use Rattle.cu_num.specs.Division.{floor_quotient}
use Rattle.cu_shape.specs.Index.{place_of, indices_of}
use Rattle.cu_form.specs.declared.args.Arg.{Arg}
use Rattle.cu_node.specs.declared.index_item.IndexItem.{IndexItem}
use Rattle.cu_form.specs.declared.expr.Node.{Node}
use Rattle.cu_node.specs.declared.element_op.ElementOp.{ElementOp}
use Rattle.cu_form.specs.declared.form.Form.{Form}
use Rattle.cu_node.specs.Info.{info_of}
use Rattle.cu_node.specs.declared.info.NodeInfo.{NodeInfo}
use Rattle.cu_node.specs.declared.new_shape.NewShape.{NewShape}
use Rattle.cu_semantics.specs.Argument.{NodeElements}
use Rattle.cu_semantics.specs.Meaning.{meaning_after, no_elements}

-- inputs by their shapes and the lists of their elements
abbrev input_of : List (List ℕ) → List (List ℤ) → NodeElements
input_of shapes elements k idx = get_or (get_or elements k []) (place_of (get_or shapes k []) idx) (pos 0)

-- nodes of these forms
abbrev nodes_of : List Form → List Node
nodes_of [] = []
nodes_of (form ∷ forms) = record { name = codes "n"; form = form } ∷ nodes_of forms

-- all elements of node k, in row-major order, over inputs of these shapes and elements
abbrev all_of : List Form → List NodeInfo → List (List ℕ) → List (List ℤ) → ℕ → List ℕ → List ℤ
all_of forms infos shapes elements k shape = map (meaning_after infos (input_of shapes elements) (nodes_of forms) 0 no_elements k) (indices_of shape)

abbrev x : Form
x = Form.Input (codes "x")

-- the one node of a form over one input of this type, shape and elements, and its type and shape
abbrev over : Form → Dtype → List ℕ → List ℤ → Dtype → List ℕ → List ℤ
over form t shape elements result results =
    all_of (x ∷ form ∷ []) (info_of t shape [] ∷ info_of result results [] ∷ []) (shape ∷ []) (elements ∷ []) 1 results

abbrev one : List Arg
one = Arg.Node 0 ∷ []

abbrev six : List ℤ
six = pos 1 ∷ pos 2 ∷ pos 3 ∷ pos 4 ∷ pos 5 ∷ pos 6 ∷ []

-- ---- elementwise

-- a row is added to each row
row_added : all_of (x ∷ x ∷ Form.Elementwise (ElementOp.Two Add) (Arg.Node 0 ∷ Arg.Node 1 ∷ []) ∷ [])
    (info_of Int32 (2 ∷ 3 ∷ []) [] ∷ info_of Int32 (3 ∷ []) [] ∷ info_of Int32 (2 ∷ 3 ∷ []) [] ∷ []) ((2 ∷ 3 ∷ []) ∷ (3 ∷ []) ∷ [])
    (six ∷ (pos 10 ∷ pos 20 ∷ pos 30 ∷ []) ∷ []) 2 (2 ∷ 3 ∷ [])
    ≡ pos 11 ∷ pos 22 ∷ pos 33 ∷ pos 14 ∷ pos 25 ∷ pos 36 ∷ []
unfolding wrapped
row_added = refl

-- the greater and the lesser of -128 and 200, and of 5 and 1
abbrev extreme : Bool → List ℤ
extreme least =
    all_of (x ∷ x ∷ Form.Elementwise (ElementOp.Extreme least) (Arg.Node 0 ∷ Arg.Node 1 ∷ []) ∷ [])
    (info_of Int8 (2 ∷ []) [] ∷ info_of Uint8 (2 ∷ []) [] ∷ info_of Int16 (2 ∷ []) [] ∷ []) ((2 ∷ []) ∷ (2 ∷ []) ∷ [])
    ((negsuc 127 ∷ pos 5 ∷ []) ∷ (pos 200 ∷ pos 1 ∷ []) ∷ []) 2 (2 ∷ [])

the_greater : extreme false ≡ pos 200 ∷ pos 5 ∷ []
the_greater = refl

the_lesser : extreme true ≡ negsuc 127 ∷ pos 1 ∷ []
the_lesser = refl

-- 1 to 6 between 2 and 5, and where the bounds are exchanged
abbrev clipped : ℤ → ℤ → List ℤ
clipped min max = over (Form.Elementwise (ElementOp.Clip min max) one) Int32 (6 ∷ []) six Int32 (6 ∷ [])

between_bounds : clipped (pos 2) (pos 5) ≡ pos 2 ∷ pos 2 ∷ pos 3 ∷ pos 4 ∷ pos 5 ∷ pos 5 ∷ []
between_bounds = refl

exchanged_bounds : clipped (pos 5) (pos 2) ≡ pos 2 ∷ pos 2 ∷ pos 2 ∷ pos 2 ∷ pos 2 ∷ pos 2 ∷ []
exchanged_bounds = refl

-- 127 and 1 wrap to -128
sum_wraps : over (Form.Elementwise (ElementOp.Two Add) (Arg.Node 0 ∷ Arg.Int (pos 1) ∷ [])) Int8 (1 ∷ []) (pos 127 ∷ []) Int8 (1 ∷ []) ≡ negsuc 127 ∷ []
unfolding wrapped
sum_wraps = refl

-- -7 by 2 is -4
rounds_down : over (Form.Elementwise (ElementOp.Two FloorDivide) (Arg.Node 0 ∷ Arg.Int (pos 2) ∷ [])) Int8 (1 ∷ []) (negsuc 6 ∷ []) Int8 (1 ∷ []) ≡ negsuc 3 ∷ []
unfolding wrapped floor_quotient
rounds_down = refl

-- ---- views

reversed : over (Form.Index one (IndexItem.Slice None None (Some (negsuc 1)) ∷ [])) Int32 (5 ∷ []) (pos 0 ∷ pos 1 ∷ pos 2 ∷ pos 3 ∷ pos 4 ∷ []) Int32 (3 ∷ [])
    ≡ pos 4 ∷ pos 2 ∷ pos 0 ∷ []
reversed = refl

-- the last row, a new axis, and then each axis that is left
last_row : over (Form.Index one (IndexItem.At (negsuc 0) ∷ IndexItem.New ∷ IndexItem.Ellipsis ∷ [])) Int32 (2 ∷ 3 ∷ []) six Int32 (1 ∷ 3 ∷ []) ≡ pos 4 ∷ pos 5 ∷ pos 6 ∷ []
last_row = refl

reshaped : over (Form.Reshape one (NewShape.Sizes (pos 3 ∷ negsuc 0 ∷ []))) Int32 (2 ∷ 3 ∷ []) six Int32 (3 ∷ 2 ∷ []) ≡ six
reshaped = refl

transposed : over (Form.PermuteDims one (pos 1 ∷ pos 0 ∷ [])) Int32 (2 ∷ 3 ∷ []) six Int32 (3 ∷ 2 ∷ []) ≡ pos 1 ∷ pos 4 ∷ pos 2 ∷ pos 5 ∷ pos 3 ∷ pos 6 ∷ []
transposed = refl

flipped_rows : over (Form.Flip one (Some (negsuc 1 ∷ []))) Int32 (2 ∷ 3 ∷ []) six Int32 (2 ∷ 3 ∷ []) ≡ pos 4 ∷ pos 5 ∷ pos 6 ∷ pos 1 ∷ pos 2 ∷ pos 3 ∷ []
flipped_rows = refl

-- each row one place to the right
rolled_right : over (Form.Roll one (pos 1 ∷ []) (pos 1 ∷ [])) Int32 (2 ∷ 3 ∷ []) six Int32 (2 ∷ 3 ∷ []) ≡ pos 3 ∷ pos 1 ∷ pos 2 ∷ pos 6 ∷ pos 4 ∷ pos 5 ∷ []
rolled_right = refl

lower_triangle : over (Form.Triangle true one (pos 0)) Int32 (2 ∷ 3 ∷ []) six Int32 (2 ∷ 3 ∷ []) ≡ pos 1 ∷ pos 0 ∷ pos 0 ∷ pos 4 ∷ pos 5 ∷ pos 0 ∷ []
lower_triangle = refl

upper_triangle : over (Form.Triangle false one (pos 1)) Int32 (2 ∷ 3 ∷ []) six Int32 (2 ∷ 3 ∷ []) ≡ pos 0 ∷ pos 2 ∷ pos 3 ∷ pos 0 ∷ pos 0 ∷ pos 6 ∷ []
upper_triangle = refl

joined : over (Form.Concat (Arg.Node 0 ∷ Arg.Node 0 ∷ []) (negsuc 0)) Int32 (2 ∷ []) (pos 7 ∷ pos 8 ∷ []) Int32 (4 ∷ []) ≡ pos 7 ∷ pos 8 ∷ pos 7 ∷ pos 8 ∷ []
joined = refl

stacked : over (Form.Stack (Arg.Node 0 ∷ Arg.Node 0 ∷ []) (pos 1)) Int32 (2 ∷ []) (pos 7 ∷ pos 8 ∷ []) Int32 (2 ∷ 2 ∷ []) ≡ pos 7 ∷ pos 7 ∷ pos 8 ∷ pos 8 ∷ []
stacked = refl

stretched : over (Form.BroadcastTo one (2 ∷ 3 ∷ []) []) Int32 (2 ∷ 1 ∷ []) (pos 7 ∷ pos 8 ∷ []) Int32 (2 ∷ 3 ∷ []) ≡ pos 7 ∷ pos 7 ∷ pos 7 ∷ pos 8 ∷ pos 8 ∷ pos 8 ∷ []
stretched = refl

diagonal : over (Form.Eye 2 3 (pos 1) Int32 []) Int32 [] [] Int32 (2 ∷ 3 ∷ []) ≡ pos 0 ∷ pos 1 ∷ pos 0 ∷ pos 0 ∷ pos 0 ∷ pos 1 ∷ []
diagonal = refl

counted_down : over (Form.Arange (pos 5) (pos 0) (negsuc 1) Int32 []) Int32 [] [] Int32 (3 ∷ []) ≡ pos 5 ∷ pos 3 ∷ pos 1 ∷ []
counted_down = refl

-- ---- reductions

summed_rows : over (Form.Reduce Sum one (Some (pos 1 ∷ [])) false) Int32 (2 ∷ 3 ∷ []) six Int64 (2 ∷ []) ≡ pos 6 ∷ pos 15 ∷ []
unfolding wrapped
summed_rows = refl

summed_columns : over (Form.Reduce Sum one (Some (negsuc 1 ∷ [])) true) Int32 (2 ∷ 3 ∷ []) six Int64 (1 ∷ 3 ∷ []) ≡ pos 5 ∷ pos 7 ∷ pos 9 ∷ []
unfolding wrapped
summed_columns = refl

nothing_summed : over (Form.Reduce Sum one None false) Int32 (0 ∷ []) [] Int64 [] ≡ pos 0 ∷ []
unfolding wrapped
nothing_summed = refl

nothing_multiplied : over (Form.Reduce Prod one None false) Int32 (0 ∷ []) [] Int64 [] ≡ pos 1 ∷ []
unfolding wrapped
nothing_multiplied = refl

-- 3 times 2^64 wraps to 0
product_wraps : over (Form.Reduce Prod one None false) Int64 (3 ∷ []) (pos 4611686018427387904 ∷ pos 4 ∷ pos 3 ∷ []) Int64 [] ≡ pos 0 ∷ []
unfolding wrapped
product_wraps = refl

greatest_number : over (Form.Reduce Max one None false) Int8 (3 ∷ []) (negsuc 4 ∷ negsuc 1 ∷ negsuc 2 ∷ []) Int8 [] ≡ negsuc 1 ∷ []
unfolding wrapped
greatest_number = refl

-- the first of the equal places
first_least : over (Form.ArgPlace true one None false) Int32 (5 ∷ []) (pos 3 ∷ pos 1 ∷ pos 1 ∷ pos 1 ∷ pos 2 ∷ []) Int64 [] ≡ pos 1 ∷ []
first_least = refl

greatest_places : over (Form.ArgPlace false one (Some (pos 0)) false) Int32 (2 ∷ 3 ∷ []) six Int64 (3 ∷ []) ≡ pos 1 ∷ pos 1 ∷ pos 1 ∷ []
greatest_places = refl

-- a matrix by a vector
by_a_vector : all_of (x ∷ x ∷ Form.Matmul (Arg.Node 0 ∷ Arg.Node 1 ∷ []) ∷ []) (info_of Int32 (2 ∷ 3 ∷ []) [] ∷ info_of Int32 (3 ∷ []) [] ∷ info_of Int32 (2 ∷ []) [] ∷ [])
    ((2 ∷ 3 ∷ []) ∷ (3 ∷ []) ∷ []) (six ∷ (pos 1 ∷ pos 1 ∷ pos 1 ∷ []) ∷ []) 2 (2 ∷ []) ≡ pos 6 ∷ pos 15 ∷ []
unfolding wrapped
by_a_vector = refl

-- a matrix by its transpose, whose rows are the columns
by_the_transpose : all_of (x ∷ Form.PermuteDims one (pos 1 ∷ pos 0 ∷ []) ∷ Form.Matmul (Arg.Node 0 ∷ Arg.Node 1 ∷ []) ∷ [])
    (info_of Int32 (2 ∷ 3 ∷ []) [] ∷ info_of Int32 (3 ∷ 2 ∷ []) [] ∷ info_of Int32 (2 ∷ 2 ∷ []) [] ∷ []) ((2 ∷ 3 ∷ []) ∷ []) (six ∷ []) 2 (2 ∷ 2 ∷ [])
    ≡ pos 14 ∷ pos 32 ∷ pos 32 ∷ pos 77 ∷ []
unfolding wrapped
by_the_transpose = refl

-- ---- along an axis

up_to_each : over (Form.CumulativeSum one None) Int32 (5 ∷ []) (pos 1 ∷ pos 2 ∷ pos 3 ∷ pos 4 ∷ pos 5 ∷ []) Int64 (5 ∷ [])
    ≡ pos 1 ∷ pos 3 ∷ pos 6 ∷ pos 10 ∷ pos 15 ∷ []
unfolding wrapped
up_to_each = refl

down_the_columns : over (Form.CumulativeSum one (Some (pos 0))) Int32 (2 ∷ 3 ∷ []) six Int64 (2 ∷ 3 ∷ [])
    ≡ pos 1 ∷ pos 2 ∷ pos 3 ∷ pos 5 ∷ pos 7 ∷ pos 9 ∷ []
unfolding wrapped
down_the_columns = refl

along_the_rows : over (Form.CumulativeSum one (Some (negsuc 0))) Int32 (2 ∷ 3 ∷ []) six Int64 (2 ∷ 3 ∷ [])
    ≡ pos 1 ∷ pos 3 ∷ pos 6 ∷ pos 4 ∷ pos 9 ∷ pos 15 ∷ []
unfolding wrapped
along_the_rows = refl

-- an array and labels, of these shapes and elements, and the one node of a form over both
abbrev by_labels : Form → List ℕ → List ℤ → List ℤ → Dtype → List ℕ → List ℤ
by_labels form shape elements labels result results =
    all_of (x ∷ x ∷ form ∷ []) (info_of Int32 shape [] ∷ info_of Int32 (length labels ∷ []) [] ∷ info_of result results [] ∷ [])
    (shape ∷ (length labels ∷ []) ∷ []) (elements ∷ labels ∷ []) 2 results

abbrev two : List Arg
two = Arg.Node 0 ∷ Arg.Node 1 ∷ []

-- a label of 3 is in none of three groups, and a group of none sums to 0
summed_by_labels : by_labels (Form.GroupBy false two (pos 0) 3) (5 ∷ []) (pos 1 ∷ pos 2 ∷ pos 3 ∷ pos 4 ∷ pos 5 ∷ [])
    (pos 0 ∷ pos 1 ∷ pos 0 ∷ pos 3 ∷ pos 1 ∷ []) Int64 (3 ∷ []) ≡ pos 4 ∷ pos 7 ∷ pos 0 ∷ []
unfolding wrapped
summed_by_labels = refl

least_by_labels : by_labels (Form.GroupBy true two (pos 0) 3) (5 ∷ []) (pos 1 ∷ pos 2 ∷ pos 3 ∷ pos 4 ∷ pos 5 ∷ [])
    (pos 0 ∷ pos 1 ∷ pos 0 ∷ pos 3 ∷ pos 1 ∷ []) Int32 (3 ∷ []) ≡ pos 1 ∷ pos 2 ∷ pos 2147483647 ∷ []
unfolding wrapped
least_by_labels = refl

-- a label below 0 is in no group
by_labels_in_rows : by_labels (Form.GroupBy false two (negsuc 0) 2) (2 ∷ 3 ∷ []) six (pos 1 ∷ negsuc 0 ∷ pos 0 ∷ []) Int64 (2 ∷ 2 ∷ [])
    ≡ pos 3 ∷ pos 1 ∷ pos 6 ∷ pos 4 ∷ []
unfolding wrapped
by_labels_in_rows = refl
