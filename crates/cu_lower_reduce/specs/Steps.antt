-- The steps that a node adds to a plan, and what they keep over the arrays of the plan (this project's own rule).
use Rattle.std.specs.Prelude.{◌≡◌, ◌⊎◌, ℕ, ◌+◌, ◌-◌, ◌<◌, ◌≤◌, Bool, true, false, List, [], ◌∷◌, All, Contains, length, flat_map}
use Rattle.std.specs.List.{range_with_len}
pub use Rattle.cu_tree.specs.Outlines.{with_values}
use Rattle.cu_shape.specs.Counts.{counts_of}
use Rattle.cu_shape.specs.Index.{product}
use Rattle.cu_grid.specs.Grid.{RegularGrid}
use Rattle.cu_op.specs.Arrays.{grid_at, type_at}
use Rattle.cu_op.specs.Cells.{regions_of}
use Rattle.cu_op.specs.Operation.{reads_of, writes_of, Fits}
use Rattle.cu_op.specs.Projection.{own_projection}
use Rattle.cu_op.specs.Elements.{Elements}
use Rattle.cu_op.specs.Value.{rule}
use Rattle.cu_op.specs.declared.layout.ArrayInfo.{ArrayInfo}
use Rattle.cu_op.specs.declared.operation.Op.{Op}
use Rattle.cu_op.specs.declared.operation.Op.TheVariants.{Copy}
use Rattle.cu_node.specs.declared.info.NodeInfo.{NodeInfo}
use Rattle.cu_tree.specs.Outlines.{IsOutline}
use Rattle.cu_tree.specs.Partials.{chunks_of}
use Rattle.cu_tree.specs.declared.outline.Outlined.{Outlined}
use Rattle.cu_lower_reduce.specs.declared.step.Step.{Step}

-- ---- the arrays that steps make

-- what is known of the arrays that a step makes, values before places, and of those that several make
abbrev pub made_infos : Step → List NodeInfo
made_infos s = with_values s.values s.made

abbrev pub all_made : List Step → List NodeInfo
all_made steps = flat_map made_infos steps

abbrev pub grid_of : NodeInfo → RegularGrid
grid_of i = record { shape = i.dims; chunk = i.chunk }

-- How many tasks an operation has of whose result this is known: a copy has one for each of its regions, any other operation one for each
-- chunk of the result.
abbrev pub tasks_over : Op → NodeInfo → ℕ
tasks_over (Copy region source out) made = product (counts_of made.dims region)
tasks_over op made = chunks_of made

abbrev pub step_tasks : Step → ℕ
step_tasks s = tasks_over s.op s.made

-- this is known of the array with this number
pub record HasInfo (arrays : List ArrayInfo) (a : ℕ) (i : NodeInfo) : Type 0 where
  pub within : a < length arrays
  pub dtype : type_at arrays a ≡ i.dtype
  pub grid : grid_at arrays a ≡ grid_of i

-- this is known of the arrays from this number on
abbrev pub HaveInfos : List ArrayInfo → ℕ → List NodeInfo → Type 0
HaveInfos arrays first [] = Unit {0}
HaveInfos arrays first (i ∷ is) = HasInfo arrays first i × HaveInfos arrays (first + 1) is

-- this is known of these arrays, in order
abbrev pub HaveEach : List ArrayInfo → List ℕ → List NodeInfo → Type 0
HaveEach arrays [] [] = Unit {0}
HaveEach arrays (a ∷ ins) (i ∷ is) = HasInfo arrays a i × HaveEach arrays ins is
HaveEach arrays ins is = ⊥

-- ---- what steps keep

-- an argument of the node, or an array that an earlier step makes, of which the first has number `first`
abbrev pub IsGiven : List ℕ → ℕ → ℕ → ℕ → Type 0
IsGiven given first next a = Contains given a ⊎ ((first ≤ a) × (a < next))

-- A step whose first array has number `next`. It writes just its arrays, reads the node's arguments and what earlier steps make, fits, needs
-- its own projection, and its tasks go over as many regions as are counted of it.
pub record IsStep (arrays : List ArrayInfo) (reserved : ℕ) (given : List ℕ) (first next : ℕ) (s : Step) : Type 0 where
  pub writes : writes_of s.op ≡ range_with_len next (length (made_infos s))
  pub reads : All (IsGiven given first next) (reads_of s.op)
  pub fits : Fits arrays s.op
  pub need : s.need ≡ own_projection arrays reserved s.op
  pub tasks : regions_of arrays s.op ≡ step_tasks s

-- each step, one after another
abbrev pub AreSteps : List ArrayInfo → ℕ → List ℕ → ℕ → ℕ → List Step → Type 0
AreSteps arrays reserved given first next [] = Unit {0}
AreSteps arrays reserved given first next (s ∷ ss) = IsStep arrays reserved given first next s × AreSteps arrays reserved given first (next + length (made_infos s)) ss

-- these elements are what each step's rule makes of them
abbrev pub SolveSteps : List ArrayInfo → Elements → List Step → Type 0
SolveSteps arrays at steps = (s : Step) (a : ℕ) (idx : List ℕ) → Contains steps s → Contains (writes_of s.op) a → at a idx ≡ rule s.op arrays at a idx

-- the number of the last array that steps make, where the first has number `first`
abbrev pub last_made : ℕ → List Step → ℕ
last_made first steps = first + length (all_made steps) - 1

-- ---- what a node's steps come to

-- the operation is a copy
abbrev pub is_copy : Op → Bool
is_copy (Copy region source out) = true
is_copy op = false

-- an operation of which this is told, where so many bytes are reserved
abbrev pub stepped : ℕ → Op → Outlined → Step
stepped reserved op o = record { op = op; values = o.values; made = o.made; need = reserved + o.bytes }

-- the step is of this outline, and isn't a copy
abbrev pub IsOutlined : ℕ → Outlined → Step → Type 0
IsOutlined reserved o s = (s ≡ stepped reserved s.op o) × (is_copy s.op ≡ false)

-- so is each, in order
abbrev pub AreOutlined : ℕ → List Outlined → List Step → Type 0
AreOutlined reserved [] [] = Unit {0}
AreOutlined reserved (o ∷ os) (s ∷ ss) = IsOutlined reserved o s × AreOutlined reserved os ss
AreOutlined reserved os ss = ⊥

-- Steps of this outline, where so many bytes are reserved, which make an array of which `made` is known.
pub record ComeTo (reserved : ℕ) (outline : List Outlined) (made : NodeInfo) (steps : List Step) : Type 0 where
  pub outlined : AreOutlined reserved outline steps
  pub is_outline : IsOutline made outline
