-- Folds by labels on worked examples.
use Rattle.std.proofs.Common.{◌≡◌, ℕ, zero, suc, ◌+◌, List, [], ◌∷◌, Option, Some, None, refl, codes, pos, map, ℤ, false}
use Rattle.cu_num.specs.declared.folds.FoldKind.TheVariants.{Sum, Min}
use Rattle.cu_num.specs.declared.types.Dtype.{Dtype}
use Rattle.cu_num.specs.declared.types.Dtype.TheVariants.{Int32, Int64}
use Rattle.cu_num.specs.declared.layout.Encoding.TheVariants.{Plain}
use Rattle.cu_num.specs.declared.layout.Sep.TheVariants.{Slash}
use Rattle.cu_num.specs.declared.layout.Endian.TheVariants.{Little}
use Rattle.cu_num.specs.Wrap.{wrapped}
use Rattle.cu_op.specs.declared.layout.ArrayInfo.{ArrayInfo}
use Rattle.cu_op.specs.declared.operation.Op.{Op}
use Rattle.cu_op.specs.declared.operation.Op.TheVariants.{GroupFold, Merge}
use Rattle.cu_op.specs.Chunks.{cell, walk}
use Rattle.cu_op.specs.Cells.{tasks_of}
use Rattle.cu_op.specs.Elements.{Elements}
use Rattle.cu_op.specs.InputCells.{own_cells}
use Rattle.cu_op.specs.Projection.{own_projection}
use Rattle.cu_op.specs.Value.{values_after}
use Rattle.cu_op.specs.Walks.{read_chunks, input_walks}

unfoldable array : Dtype → List ℕ → List ℕ → ArrayInfo
array t shape chunk = record {
  prefix = codes "a";
  layout = record { dtype = t; grid = record { shape = shape; chunk = chunk }; encoding = Plain Slash; endian = Little; fill = pos 0 };
  maker = None;
  inlined = false;
}

abbrev values_of : List Op → List ArrayInfo → Elements → ℕ → List ℕ → List (Option ℤ)
values_of ops arrays at a qs = map (λ q. values_after (map (λ op. record { op = op; node = 0; projected = 0 }) ops) arrays at a (q ∷ [])) qs

-- ---- 1, 2, 3, 4, 5 with the labels 0, 1, 0, 3, 1 in chunks of two, and three groups: each part has two elements, the last one
unfoldable with_labels : Elements
with_labels zero (i ∷ is) = Some (pos (suc i))
with_labels (suc zero) (zero ∷ is) = Some (pos 0)
with_labels (suc zero) (suc (suc zero) ∷ is) = Some (pos 0)
with_labels (suc zero) (suc (suc (suc zero)) ∷ is) = Some (pos 3)
with_labels (suc zero) (i ∷ is) = Some (pos 1)
with_labels a idx = None

-- of this type are the results
unfoldable labelled : Dtype → List ArrayInfo
labelled t = array Int32 (5 ∷ []) (2 ∷ []) ∷ array Int32 (5 ∷ []) (2 ∷ []) ∷ array t (3 ∷ 3 ∷ []) (3 ∷ 1 ∷ []) ∷ array t (3 ∷ []) (3 ∷ []) ∷ []

abbrev sum_parts : Op
sum_parts = GroupFold Sum 0 3 0 1 2

abbrev merge_sums : Op
merge_sums = Merge Sum 1 4 2 3

abbrev least_parts : Op
least_parts = GroupFold Min 0 3 0 1 2

abbrev merge_least : Op
merge_least = Merge Min 1 4 2 3

group_sums : values_of (sum_parts ∷ merge_sums ∷ []) (labelled Int64) with_labels 3 (0 ∷ 1 ∷ 2 ∷ []) ≡ Some (pos 4) ∷ Some (pos 7) ∷ Some (pos 0) ∷ []
unfolding labelled array with_labels wrapped
group_sums = refl

group_least : values_of (least_parts ∷ merge_least ∷ []) (labelled Int32) with_labels 3 (0 ∷ 1 ∷ 2 ∷ []) ≡ Some (pos 1) ∷ Some (pos 2) ∷ Some (pos 2147483647) ∷ []
unfolding labelled array with_labels wrapped
group_least = refl

-- scratch 24, two chunks of 8, one result of 24; and scratch 24, four partial results and one
sum_rooms : map (own_projection (labelled Int64) 0) (sum_parts ∷ merge_sums ∷ []) ≡ 64 ∷ 144 ∷ []
unfolding labelled array
sum_rooms = refl

least_rooms : map (own_projection (labelled Int32) 0) (least_parts ∷ merge_least ∷ []) ≡ 40 ∷ 72 ∷ []
unfolding labelled array
least_rooms = refl

group_tasks : tasks_of (labelled Int64) sum_parts + tasks_of (labelled Int64) merge_sums ≡ 4
unfolding labelled array
group_tasks = refl

part_cells : own_cells (labelled Int64) sum_parts 1 ≡ cell 0 (1 ∷ []) ∷ cell 1 (1 ∷ []) ∷ []
unfolding labelled array
part_cells = refl

part_walked : read_chunks (labelled Int64) sum_parts 1 ≡ cell 0 (1 ∷ []) ∷ cell 1 (1 ∷ []) ∷ []
unfolding labelled array
part_walked = refl

-- the last part is clipped
last_walk : input_walks (labelled Int64) sum_parts 2 ≡ walk 0 (4 ∷ []) (5 ∷ []) ∷ walk 1 (4 ∷ []) (5 ∷ []) ∷ []
unfolding labelled array
last_walk = refl

-- ---- [2, 5] along its last axis: the rows stay, and the labels are those of the columns
unfoldable rows : List ArrayInfo
rows = array Int32 (2 ∷ 5 ∷ []) (1 ∷ 2 ∷ []) ∷ array Int32 (5 ∷ []) (2 ∷ []) ∷ array Int64 (2 ∷ 3 ∷ 3 ∷ []) (1 ∷ 3 ∷ 1 ∷ []) ∷ []

row_cells : own_cells rows (GroupFold Sum 1 3 0 1 2) 4 ≡ cell 0 (1 ∷ 1 ∷ []) ∷ cell 1 (1 ∷ []) ∷ []
unfolding rows array
row_cells = refl

row_walks : input_walks rows (GroupFold Sum 1 3 0 1 2) 4 ≡ walk 0 (1 ∷ 2 ∷ []) (2 ∷ 4 ∷ []) ∷ walk 1 (2 ∷ []) (4 ∷ []) ∷ []
unfolding rows array
row_walks = refl

-- ---- an axis without elements: one part, of which nothing is read, and all groups are empty
unfoldable nothing : List ArrayInfo
nothing = array Int32 (0 ∷ []) (2 ∷ []) ∷ array Int32 (0 ∷ []) (2 ∷ []) ∷ array Int64 (3 ∷ []) (3 ∷ []) ∷ []

nothing_read : own_cells nothing sum_parts 0 ≡ []
unfolding nothing array
nothing_read = refl

nothing_walked : read_chunks nothing sum_parts 0 ≡ []
unfolding nothing array
nothing_walked = refl

nothing_summed : values_of (sum_parts ∷ []) nothing (λ a i. None) 2 (0 ∷ 2 ∷ []) ≡ Some (pos 0) ∷ Some (pos 0) ∷ []
unfolding nothing array wrapped
nothing_summed = refl
