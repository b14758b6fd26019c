-- The definitions of the kinds of operations on worked examples: reductions, searches for places, products, copies, and the input cells of tasks.
use Rattle.std.proofs.Common.{◌≡◌, ℕ, ℤ, zero, suc, ◌+◌, ◌*◌, inl, inr, List, [], ◌∷◌, Option, Some, None, true, refl, codes, pos, arith, map, false}
use Rattle.cu_num.specs.declared.folds.FoldKind.TheVariants.{Sum, Max}
use Rattle.cu_num.specs.declared.types.Dtype.{Dtype}
use Rattle.cu_num.specs.declared.types.Dtype.TheVariants.{Int32, Int64}
use Rattle.cu_num.specs.declared.layout.Encoding.TheVariants.{Plain}
use Rattle.cu_num.specs.declared.layout.Sep.TheVariants.{Slash}
use Rattle.cu_num.specs.declared.layout.Endian.TheVariants.{Little}
use Rattle.cu_num.specs.Wrap.{wrapped}
use Rattle.cu_origin.specs.declared.axes.Axes.{Axes}
use Rattle.cu_op.specs.declared.layout.ArrayInfo.{ArrayInfo}
use Rattle.cu_op.specs.declared.operation.Op.{Op}
use Rattle.cu_op.specs.declared.operation.Op.TheVariants.{Carry, Copy, Fold, Merge, PairFold, PairMerge, Mul, Map, Pull, Scan}
use Rattle.cu_op.specs.Chunks.{cell, walk}
use Rattle.cu_op.specs.Cells.{tasks_of}
use Rattle.cu_op.specs.Nested.{IsNestedAlong}
use Rattle.cu_op.specs.Partial.{partial_grid, chunk_groups}
use Rattle.cu_op.specs.Projection.{own_projection}
use Rattle.cu_op.specs.Elements.{Elements}
use Rattle.cu_op.specs.Value.{values_after}
use Rattle.cu_op.specs.Walks.{written_chunks, read_chunks, input_walks}
use Rattle.cu_num.specs.declared.functions.Fn2.TheVariants.{Add}
use Rattle.cu_origin.specs.declared.pull.Pull.TheVariants.{Concat}
use Rattle.cu_op.specs.declared.kernel.Instr.TheVariants.{Load, Two}
use Rattle.cu_op.specs.InputCells.{own_cells}

unfoldable array : Dtype → List ℕ → List ℕ → ArrayInfo
array t shape chunk = record {
  prefix = codes "a";
  layout = record { dtype = t; grid = record { shape = shape; chunk = chunk }; encoding = Plain Slash; endian = Little; fill = pos 0 };
  maker = None;
  inlined = false;
}

abbrev axes_of : ℕ → Axes
axes_of bits = record { 0 = bits }

abbrev value_after : List Op → List ArrayInfo → Elements → ℕ → List ℕ → Option ℤ
value_after ops arrays at a idx = values_after (map (λ op. record { op = op; node = 0; projected = 0 }) ops) arrays at a idx

-- ---- the sum of nothing: shape [0], chunk [4], over all axes; scratch 16, one source chunk 16, one result 8
unfoldable empty : List ArrayInfo
empty = array Int32 (0 ∷ []) (4 ∷ []) ∷ array Int64 [] [] ∷ []

empty_room : own_projection empty 0 (Fold Sum (axes_of 1) 0 1) ≡ 40
unfolding empty array
empty_room = refl

empty_tasks : tasks_of empty (Fold Sum (axes_of 1) 0 1) ≡ 1
unfolding empty array
empty_tasks = refl

empty_written : written_chunks empty (Fold Sum (axes_of 1) 0 1) 0 ≡ cell 1 [] ∷ []
unfolding empty array
empty_written = refl

empty_read : read_chunks empty (Fold Sum (axes_of 1) 0 1) 0 ≡ []
unfolding empty array
empty_read = refl

empty_value : value_after (Fold Sum (axes_of 1) 0 1 ∷ []) empty (λ a i. None) 1 [] ≡ Some (pos 0)
unfolding empty array wrapped
empty_value = refl

-- ---- the greatest of [6] in chunks of [4], in two partial results, then merged in one group of up to four
unfoldable six : List ArrayInfo
six = array Int32 (6 ∷ []) (4 ∷ []) ∷ array Int32 (2 ∷ []) (1 ∷ []) ∷ array Int32 [] [] ∷ []

-- 3, 8, 13, ..
unfoldable fives : Elements
fives zero (i ∷ is) = Some (pos (3 + 5 * i))
fives a idx = None

-- scratch 16, one source chunk 16, one result 4
fold_room : own_projection six 0 (Fold Max (axes_of 1) 0 1) ≡ 36
unfolding six array
fold_room = refl

fold_read : read_chunks six (Fold Max (axes_of 1) 0 1) 1 ≡ cell 0 (1 ∷ []) ∷ []
unfolding six array
fold_read = refl

fold_walk : input_walks six (Fold Max (axes_of 1) 0 1) 1 ≡ walk 0 (4 ∷ []) (6 ∷ []) ∷ []
unfolding six array
fold_walk = refl

fold_value : value_after (Fold Max (axes_of 1) 0 1 ∷ []) six fives 1 (0 ∷ []) ≡ Some (pos 18)
unfolding six array fives wrapped
fold_value = refl

-- scratch 4, four partial results also where there are two, one result 4
merge_room : own_projection six 0 (Merge Max 0 4 1 2) ≡ 24
unfolding six array
merge_room = refl

merge_tasks : tasks_of six (Merge Max 0 4 1 2) ≡ 1
unfolding six array
merge_tasks = refl

merge_read : read_chunks six (Merge Max 0 4 1 2) 0 ≡ cell 1 (0 ∷ []) ∷ cell 1 (1 ∷ []) ∷ []
unfolding six array
merge_read = refl

merge_value : value_after (Fold Max (axes_of 1) 0 1 ∷ Merge Max 0 4 1 2 ∷ []) six fives 2 [] ≡ Some (pos 28)
unfolding six array fives wrapped
merge_value = refl

-- the partial results of a kept axis stand in the source's chunks
rows_grid : partial_grid (chunk_groups (axes_of 2) (record { shape = 5 ∷ 7 ∷ []; chunk = 2 ∷ 3 ∷ [] })) (record { shape = 5 ∷ 7 ∷ []; chunk = 2 ∷ 3 ∷ [] }) ≡ record { shape = 5 ∷ 3 ∷ []; chunk = 2 ∷ 1 ∷ [] }
rows_grid = refl

-- ---- the least of 3, 1, 1, 1, 2 in chunks of two and its place, merged in twos
unfoldable five : List ArrayInfo
five = array Int32 (5 ∷ []) (2 ∷ []) ∷ array Int32 (3 ∷ []) (1 ∷ []) ∷ array Int64 (3 ∷ []) (1 ∷ []) ∷ array Int32 (2 ∷ []) (1 ∷ []) ∷ array Int64 (2 ∷ []) (1 ∷ []) ∷ array Int64 [] [] ∷ []

unfoldable some_ones : Elements
some_ones zero (zero ∷ is) = Some (pos 3)
some_ones zero (suc (suc (suc (suc i))) ∷ is) = Some (pos 2)
some_ones zero (i ∷ is) = Some (pos 1)
some_ones a idx = None

abbrev find : Op
find = PairFold true None 0 (Some 1) 2

abbrev merge_found : Op
merge_found = PairMerge true 0 2 1 2 (Some 3) 4

abbrev merge_last : Op
merge_last = PairMerge true 0 2 3 4 None 5

find_room : own_projection five 0 find ≡ 28
unfolding five array
find_room = refl

merge_found_room : own_projection five 0 merge_found ≡ 44
unfolding five array
merge_found_room = refl

-- the last stores no values and counts their chunk all the same
merge_last_room : own_projection five 0 merge_last ≡ 44
unfolding five array
merge_last_room = refl

found_tasks : tasks_of five find + tasks_of five merge_found + tasks_of five merge_last ≡ 6
unfolding five array
found_tasks = refl

find_written : written_chunks five find 1 ≡ cell 1 (1 ∷ []) ∷ cell 2 (1 ∷ []) ∷ []
unfolding five array
find_written = refl

merge_found_read : read_chunks five merge_found 1 ≡ cell 1 (2 ∷ []) ∷ cell 2 (2 ∷ []) ∷ []
unfolding five array
merge_found_read = refl

find_place : value_after (find ∷ []) five some_ones 2 (1 ∷ []) ≡ Some (pos 2)
unfolding five array some_ones
find_place = refl

find_value : value_after (find ∷ []) five some_ones 1 (2 ∷ []) ≡ Some (pos 2)
unfolding five array some_ones
find_value = refl

least_place : value_after (find ∷ merge_found ∷ merge_last ∷ []) five some_ones 5 [] ≡ Some (pos 1)
unfolding five array some_ones
least_place = refl

-- ---- [512, 512] of int32 from chunks [512, 64] by [192, 192] to [64, 512]
unfoldable square : List ArrayInfo
square = array Int32 (512 ∷ 512 ∷ []) (512 ∷ 64 ∷ []) ∷ array Int32 (512 ∷ 512 ∷ []) (192 ∷ 192 ∷ []) ∷ array Int32 (512 ∷ 512 ∷ []) (64 ∷ 512 ∷ []) ∷ []

abbrev to_middle : Op
to_middle = Copy (512 ∷ 192 ∷ []) 0 1

abbrev to_target : Op
to_target = Copy (192 ∷ 512 ∷ []) 1 2

middle_room : own_projection square 0 to_middle ≡ 540672
unfolding square array
middle_room = refl

target_room : own_projection square 0 to_target ≡ 540672
unfolding square array
target_room = refl

copy_tasks : tasks_of square to_middle + tasks_of square to_target ≡ 6
unfolding square array
copy_tasks = refl

middle_written : written_chunks square to_middle 2 ≡ cell 1 (0 ∷ 2 ∷ []) ∷ cell 1 (1 ∷ 2 ∷ []) ∷ cell 1 (2 ∷ 2 ∷ []) ∷ []
unfolding square array
middle_written = refl

middle_read : read_chunks square to_middle 2 ≡ cell 0 (0 ∷ 6 ∷ []) ∷ cell 0 (0 ∷ 7 ∷ []) ∷ []
unfolding square array
middle_read = refl

-- the last region is clipped at the edge and has two chunks
target_written : written_chunks square to_target 2 ≡ cell 2 (6 ∷ 0 ∷ []) ∷ cell 2 (7 ∷ 0 ∷ []) ∷ []
unfolding square array
target_written = refl

middle_nested : IsNestedAlong (512 ∷ 512 ∷ []) (192 ∷ 192 ∷ []) (512 ∷ 192 ∷ [])
middle_nested = (inl (omega arith), (inr (1, refl), tt))

copied : value_after (to_target ∷ []) square (λ a i. Some (pos 7)) 2 (500 ∷ 3 ∷ []) ≡ Some (pos 7)
unfolding square array
copied = refl

-- ---- products: [2, 3] by [3, 2] in one part, and in parts of two inner places and one
unfoldable whole_product : List ArrayInfo
whole_product = array Int64 (2 ∷ 3 ∷ []) (1 ∷ 3 ∷ []) ∷ array Int64 (3 ∷ 2 ∷ []) (3 ∷ 2 ∷ []) ∷ array Int64 (2 ∷ 2 ∷ []) (1 ∷ 2 ∷ []) ∷ []

unfoldable parted_product : List ArrayInfo
parted_product = array Int64 (2 ∷ 3 ∷ []) (1 ∷ 2 ∷ []) ∷ array Int64 (3 ∷ 2 ∷ []) (2 ∷ 2 ∷ []) ∷ array Int64 (2 ∷ 2 ∷ 2 ∷ []) (1 ∷ 2 ∷ 1 ∷ []) ∷ array Int64 (2 ∷ 2 ∷ []) (1 ∷ 2 ∷ []) ∷ []

-- 1, 2, 3 and 4, 5, 6; 1, 10 and 2, 20 and 3, 30
unfoldable matrices : Elements
matrices zero (i ∷ j ∷ is) = Some (pos (3 * i + j + 1))
matrices (suc zero) (i ∷ zero ∷ is) = Some (pos (i + 1))
matrices (suc zero) (i ∷ j ∷ is) = Some (pos (10 * (i + 1)))
matrices a idx = None

-- scratch 48, operands 24 and 48, result 16
product_room : own_projection whole_product 0 (Mul 0 1 2) ≡ 136
unfolding whole_product array
product_room = refl

product_value : value_after (Mul 0 1 2 ∷ []) whole_product matrices 2 (1 ∷ 1 ∷ []) ≡ Some (pos 320)
unfolding whole_product array matrices wrapped
product_value = refl

product_read : input_walks whole_product (Mul 0 1 2) 1 ≡ walk 0 (1 ∷ 0 ∷ []) (2 ∷ 3 ∷ []) ∷ walk 1 (0 ∷ 0 ∷ []) (3 ∷ 2 ∷ []) ∷ []
unfolding whole_product array
product_read = refl

parted_tasks : tasks_of parted_product (Mul 0 1 2) ≡ 4
unfolding parted_product array
parted_tasks = refl

parted_read : input_walks parted_product (Mul 0 1 2) 3 ≡ walk 0 (1 ∷ 2 ∷ []) (2 ∷ 3 ∷ []) ∷ walk 1 (2 ∷ 0 ∷ []) (3 ∷ 2 ∷ []) ∷ []
unfolding parted_product array
parted_read = refl

first_part : value_after (Mul 0 1 2 ∷ []) parted_product matrices 2 (1 ∷ 1 ∷ 0 ∷ []) ≡ Some (pos 140)
unfolding parted_product array matrices wrapped
first_part = refl

parts_summed : value_after (Mul 0 1 2 ∷ Merge Sum 2 4 2 3 ∷ []) parted_product matrices 3 (1 ∷ 1 ∷ []) ≡ Some (pos 320)
unfolding parted_product array matrices wrapped
parts_summed = refl

-- a matrix by a vector, [2, 3] in chunks [2, 2] by [3] in chunks [2]; a vector by a vector in one part; and [0, ..] inner places
unfoldable vectors : List ArrayInfo
vectors = array Int32 (2 ∷ 3 ∷ []) (2 ∷ 2 ∷ []) ∷ array Int32 (3 ∷ []) (2 ∷ []) ∷ array Int32 (2 ∷ 2 ∷ []) (2 ∷ 1 ∷ []) ∷ array Int32 (2 ∷ []) (2 ∷ []) ∷ []

unfoldable counting : Elements
counting zero (i ∷ j ∷ is) = Some (pos (3 * i + j + 1))
counting (suc zero) (i ∷ is) = Some (pos 1)
counting a idx = None

vector_rooms : (own_projection vectors 0 (Mul 0 1 2) ≡ 48) × (own_projection vectors 0 (Merge Sum 1 4 2 3) ≡ 48)
unfolding vectors array
vector_rooms = (refl, refl)

vector_read : read_chunks vectors (Mul 0 1 2) 1 ≡ cell 0 (0 ∷ 1 ∷ []) ∷ cell 1 (1 ∷ []) ∷ []
unfolding vectors array
vector_read = refl

vector_value : value_after (Mul 0 1 2 ∷ Merge Sum 1 4 2 3 ∷ []) vectors counting 3 (1 ∷ []) ≡ Some (pos 15)
unfolding vectors array counting wrapped
vector_value = refl

unfoldable inner : List ArrayInfo
inner = array Int32 (3 ∷ []) (3 ∷ []) ∷ array Int32 [] [] ∷ array Int32 (0 ∷ []) (3 ∷ []) ∷ []

inner_value : value_after (Mul 0 0 1 ∷ []) inner (λ a i. Some (pos 2)) 1 [] ≡ Some (pos 12)
unfolding inner array wrapped
inner_value = refl

-- a vector by itself is read once
inner_read : read_chunks inner (Mul 0 0 1) 0 ≡ cell 0 (0 ∷ []) ∷ []
unfolding inner array
inner_read = refl

-- no inner places: nothing is read and the sum is 0
nothing_read : read_chunks inner (Mul 2 2 1) 0 ≡ []
unfolding inner array
nothing_read = refl

nothing_value : value_after (Mul 2 2 1 ∷ []) inner (λ a i. Some (pos 2)) 1 [] ≡ Some (pos 0)
unfolding inner array wrapped
nothing_value = refl

-- ---- input cells

abbrev add : List ℕ → ℕ → Op
add ins out = Map (record { code = record { items = Load 0 ∷ Load 1 ∷ Two Add Int32 0 1 ∷ [] } }) (record { items = ins }) out

-- an array that is an input twice: its chunk stands twice in the list, and once in meaning
unfoldable sums : List ArrayInfo
sums = array Int32 (2 ∷ 3 ∷ []) (1 ∷ 2 ∷ []) ∷ array Int32 (3 ∷ []) (2 ∷ []) ∷ array Int32 (2 ∷ 1 ∷ []) (1 ∷ 1 ∷ []) ∷ array Int32 (2 ∷ 3 ∷ []) (1 ∷ 2 ∷ []) ∷ []

twice : own_cells sums (add (0 ∷ 0 ∷ []) 3) 3 ≡ cell 0 (1 ∷ 1 ∷ []) ∷ cell 0 (1 ∷ 1 ∷ []) ∷ []
unfolding sums array
twice = refl

-- an axis that the input lacks, and one on which it is stretched
broadcast : own_cells sums (add (1 ∷ 2 ∷ []) 3) 3 ≡ cell 1 (1 ∷ []) ∷ cell 2 (1 ∷ 0 ∷ []) ∷ []
unfolding sums array
broadcast = refl

-- a view needs its sources whole
joined : own_cells (array Int32 (3 ∷ []) (2 ∷ []) ∷ array Int32 (1 ∷ []) (2 ∷ []) ∷ array Int32 (4 ∷ []) (2 ∷ []) ∷ []) (Pull (Concat 0) (record { items = 0 ∷ 1 ∷ [] }) 2) 1
    ≡ cell 0 (0 ∷ []) ∷ cell 0 (1 ∷ []) ∷ cell 1 (0 ∷ []) ∷ []
unfolding array
joined = refl

-- [512, 512] from chunks [512, 64] to [192, 192] in regions [512, 192]: the last region has 128 columns
copied_cells : own_cells (array Int32 (512 ∷ 512 ∷ []) (512 ∷ 64 ∷ []) ∷ array Int32 (512 ∷ 512 ∷ []) (192 ∷ 192 ∷ []) ∷ []) (Copy (512 ∷ 192 ∷ []) 0 1) 2
    ≡ cell 0 (0 ∷ 6 ∷ []) ∷ cell 0 (0 ∷ 7 ∷ []) ∷ []
unfolding array
copied_cells = refl

-- a fold to an array that lacks the reduced axis, and of a source without elements
folded : own_cells (array Int32 (4 ∷ 3 ∷ []) (2 ∷ 3 ∷ []) ∷ array Int32 (4 ∷ []) (2 ∷ []) ∷ []) (Fold Sum (axes_of 2) 0 1) 1 ≡ cell 0 (1 ∷ 0 ∷ []) ∷ []
unfolding array
folded = refl

nothing_folded : own_cells (array Int32 (0 ∷ []) (4 ∷ []) ∷ array Int32 [] [] ∷ []) (Fold Sum (axes_of 1) 0 1) 0 ≡ []
unfolding array
nothing_folded = refl

-- places sought in the whole array: the result has a partial for each chunk
sought : own_cells (array Int32 (4 ∷ 3 ∷ []) (2 ∷ 2 ∷ []) ∷ array Int32 (2 ∷ 2 ∷ []) (1 ∷ 1 ∷ []) ∷ array Int32 (2 ∷ 2 ∷ []) (1 ∷ 1 ∷ []) ∷ []) (PairFold true None 0 (Some 1) 2) 2 ≡ cell 0 (1 ∷ 0 ∷ []) ∷ []
unfolding array
sought = refl

-- seven partial results in groups of three: the last group has one; the kept axis has the task's own chunk
unfoldable seven : List ArrayInfo
seven = array Int32 (7 ∷ 4 ∷ []) (1 ∷ 2 ∷ []) ∷ array Int32 (3 ∷ 4 ∷ []) (1 ∷ 2 ∷ []) ∷ array Int32 (7 ∷ 4 ∷ []) (1 ∷ 2 ∷ []) ∷ []

merged : own_cells seven (Merge Max 0 3 0 1) 3 ≡ cell 0 (3 ∷ 1 ∷ []) ∷ cell 0 (4 ∷ 1 ∷ []) ∷ cell 0 (5 ∷ 1 ∷ []) ∷ []
unfolding seven array
merged = refl

last_merged : own_cells seven (PairMerge true 0 3 0 2 None 1) 4 ≡ cell 0 (6 ∷ 0 ∷ []) ∷ cell 2 (6 ∷ 0 ∷ []) ∷ []
unfolding seven array
last_merged = refl

-- the last merge, whose result lacks the merged axis
wholly_merged : own_cells (array Int32 (2 ∷ 4 ∷ []) (1 ∷ 2 ∷ []) ∷ array Int32 (4 ∷ []) (2 ∷ []) ∷ []) (Merge Max 0 4 0 1) 1 ≡ cell 0 (0 ∷ 1 ∷ []) ∷ cell 0 (1 ∷ 1 ∷ []) ∷ []
unfolding array
wholly_merged = refl

-- [2, 3] by [3, 2] in parts of two inner places and one: the task of row 1 and the second part; a vector by itself; no inner place
product : own_cells (array Int32 (2 ∷ 3 ∷ []) (1 ∷ 2 ∷ []) ∷ array Int32 (3 ∷ 2 ∷ []) (2 ∷ 2 ∷ []) ∷ array Int32 (2 ∷ 2 ∷ 2 ∷ []) (1 ∷ 2 ∷ 1 ∷ []) ∷ []) (Mul 0 1 2) 3
    ≡ cell 0 (1 ∷ 1 ∷ []) ∷ cell 1 (1 ∷ 0 ∷ []) ∷ []
unfolding array
product = refl

squared : own_cells (array Int32 (3 ∷ []) (3 ∷ []) ∷ array Int32 [] [] ∷ []) (Mul 0 0 1) 0 ≡ cell 0 (0 ∷ []) ∷ cell 0 (0 ∷ []) ∷ []
unfolding array
squared = refl

nothing_multiplied : own_cells (array Int32 (0 ∷ []) (3 ∷ []) ∷ array Int32 [] [] ∷ []) (Mul 0 0 1) 0 ≡ []
unfolding array
nothing_multiplied = refl

-- ---- the prefix sums of 1, 2, 3, 4, 5 in chunks of one, with groups of two: the chunks' sums, merged twice, what is carried into each of
-- these from the last to the first, and the scan
unfoldable running : List ArrayInfo
running =
    array Int32 (5 ∷ []) (1 ∷ []) ∷ array Int64 (5 ∷ []) (1 ∷ []) ∷ array Int64 (3 ∷ []) (1 ∷ []) ∷ array Int64 (2 ∷ []) (1 ∷ [])
    ∷ array Int64 (2 ∷ []) (1 ∷ []) ∷ array Int64 (3 ∷ []) (1 ∷ []) ∷ array Int64 (5 ∷ []) (1 ∷ []) ∷ array Int64 (5 ∷ []) (1 ∷ []) ∷ []

unfoldable counted_up : Elements
counted_up zero (i ∷ is) = Some (pos (suc i))
counted_up a idx = None

abbrev summing : List Op
summing =
    Fold Sum (axes_of 1) 0 1 ∷ Merge Sum 0 2 1 2 ∷ Merge Sum 0 2 2 3 ∷ Carry 0 2 3 None 4 ∷ Carry 0 2 2 (Some 4) 5 ∷ Carry 0 2 1 (Some 5) 6 ∷ Scan 0 0 (Some 6) 7 ∷ []

running_rooms : map (own_projection running 0) summing ≡ 20 ∷ 32 ∷ 32 ∷ 40 ∷ 40 ∷ 40 ∷ 28 ∷ []
unfolding running array
running_rooms = refl

running_sums : map (λ k. value_after summing running counted_up 7 (k ∷ [])) (0 ∷ 1 ∷ 2 ∷ 3 ∷ 4 ∷ []) ≡ Some (pos 1) ∷ Some (pos 3) ∷ Some (pos 6) ∷ Some (pos 10) ∷ Some (pos 15) ∷ []
unfolding running array counted_up wrapped
running_sums = refl

-- the first place of a group has no sum before it there
first_carried : own_cells running (Carry 0 2 1 (Some 5) 6) 2 ≡ cell 5 (1 ∷ []) ∷ []
unfolding running array
first_carried = refl

next_carried : own_cells running (Carry 0 2 1 (Some 5) 6) 3 ≡ cell 1 (2 ∷ []) ∷ cell 5 (1 ∷ []) ∷ []
unfolding running array
next_carried = refl

scanned : own_cells running (Scan 0 0 (Some 6) 7) 3 ≡ cell 0 (3 ∷ []) ∷ cell 6 (3 ∷ []) ∷ []
unfolding running array
scanned = refl

-- what is read goes over the same chunks
first_walked : read_chunks running (Carry 0 2 1 (Some 5) 6) 2 ≡ cell 5 (1 ∷ []) ∷ []
unfolding running array
first_walked = refl
