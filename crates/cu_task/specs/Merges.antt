-- Partial results that are read one behind another, and merged so. This project's own rules.
use Rattle.std.specs.Prelude.{◌≡◌, ℕ, zero, suc, ◌+◌, ◌*◌, ◌<◌, ℤ, false, List, [], ◌∷◌, length, Option, Some, slice_index}
use Rattle.cu_grid.specs.Counts.{IsWithin}
use Rattle.cu_grid.specs.declared.region.Region.{Region}
use Rattle.cu_num.specs.Element.{element_at}
use Rattle.cu_num.specs.declared.layout.Endian.TheVariants.{Little}
use Rattle.cu_num.specs.declared.types.Dtype.{Dtype}
use Rattle.cu_op.specs.Arrays.{grid_at, is_inlined, type_at}
use Rattle.cu_op.specs.Elements.{Elements}
use Rattle.cu_op.specs.TaskView.{TaskView, task_op, walk_at}
use Rattle.cu_op.specs.declared.layout.ArrayInfo.{ArrayInfo}
use Rattle.cu_op.specs.declared.walks.Walk.{Walk}
use Rattle.cu_shape.specs.Index.{differences, place_of, product}
use Rattle.cu_task.specs.Inputs.{IsMergeOf}
use Rattle.cu_task.specs.declared.merges.PartMerge.{PartMerge}

-- what a list has on all axes but one
abbrev pub without_axis : ℕ → List ℕ → List ℕ
without_axis axis [] = []
without_axis zero (n ∷ ns) = ns
without_axis (suc axis) (n ∷ ns) = n ∷ without_axis axis ns

-- the place of an index in an array of these sizes whose elements at one index on an axis stand row-major behind those at the index before
abbrev pub place_by_parts : ℕ → List ℕ → List ℕ → ℕ
place_by_parts axis sizes i = slice_index i axis * product (without_axis axis sizes) + place_of (without_axis axis sizes) (without_axis axis i)

-- a buffer has so the elements of a region
abbrev pub StandsByParts : Dtype → (List ℕ → Option ℤ) → ℕ → Region → List ℕ → Type 0
StandsByParts t element axis region buf = (idx : List ℕ) → IsWithin region.lo region.hi idx
    → element idx ≡ Some (element_at Little t buf (place_by_parts axis (differences region.hi region.lo) (differences idx region.lo)))

-- that of a walk over an array of a plan
abbrev pub HasWalkParts : TaskView → Elements → ℕ → Walk → List ℕ → Type 0
HasWalkParts t at axis w buf = StandsByParts (type_at t.plan.arrays w.array) (at w.array) axis w.region buf

-- the array of a walk is stored, in chunks of one index on an axis
pub record StandsApart (arrays : List ArrayInfo) (axis : ℕ) (w : Walk) : Type 0 where
  pub along : axis < length (grid_at arrays w.array).shape
  pub one : slice_index (grid_at arrays w.array).chunk axis ≡ 1
  pub stored : is_inlined arrays w.array ≡ false

-- the task merges partial results that stand so along the axis
pub record MergesParts (t : TaskView) (m : PartMerge) : Type 0 where
  pub merge : IsMergeOf (task_op t) m.kind m.axis m.out
  pub apart : StandsApart t.plan.arrays m.axis (walk_at t 0)
