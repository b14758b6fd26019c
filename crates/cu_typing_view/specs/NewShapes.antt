-- The typing of views that have as many elements in another shape (Python array API, "Manipulation Functions": `reshape`,
-- `expand_dims`, `squeeze`; the chunk shapes and the order of the faults are this project's rules).
use Rattle.std.specs.Prelude.{ℕ, ◌+◌, ◌==◌, ◌&&◌, ◌||◌, not, if◌then◌else◌, Bool, true, ℤ, List, [], ◌∷◌, ◌++◌, length, insert, Result}
use Rattle.cu_result.specs.Results.{◌>>=◌, check, need}
use Rattle.cu_node.specs.Axes.{axis_of, marked_of}
use Rattle.cu_node.specs.Fault.{fault}
use Rattle.cu_node.specs.Limited.{limited}
use Rattle.cu_node.specs.declared.faults.FaultCode.TheVariants.{Axis}
use Rattle.cu_node.specs.declared.faults.NodeFault.{NodeFault}
use Rattle.cu_node.specs.declared.info.NodeInfo.{NodeInfo}
use Rattle.cu_node.specs.declared.new_shape.NewShape.{NewShape}
use Rattle.cu_typing_view.specs.Reshaped.{typed_reshape}

-- an axis of size 1 is put in
abbrev pub typed_expand : NodeInfo → ℤ → Result NodeInfo NodeFault
typed_expand a number = do
  axis ← need (axis_of number (length a.dims + 1)) (fault Axis)
  limited a.dtype (insert a.dims axis 1) (insert a.chunk axis 1)

-- the numbers of the axes that aren't marked
abbrev pub unless_marked : Bool → ℕ → List ℕ
unless_marked m x = if m then [] else x ∷ []

abbrev pub unmarked : List ℕ → List Bool → List ℕ
unmarked [] ms = []
unmarked (x ∷ xs) [] = x ∷ xs
unmarked (x ∷ xs) (m ∷ ms) = unless_marked m x ++ unmarked xs ms

-- each marked axis has size 1
abbrev pub are_single : List ℕ → List Bool → Bool
are_single [] ms = true
are_single (n ∷ ns) [] = true
are_single (n ∷ ns) (m ∷ ms) = (not m || n == 1) && are_single ns ms

-- axes of size 1 are taken out
abbrev pub typed_squeeze : NodeInfo → List ℤ → Result NodeInfo NodeFault
typed_squeeze a axes = do
  marks ← need (marked_of (length a.dims) axes) (fault Axis)
  _ ← check (are_single a.dims marks) (fault Axis)
  limited a.dtype (unmarked a.dims marks) (unmarked a.chunk marks)

-- each by what is written
abbrev pub typed_new_shape : NodeInfo → NewShape → Result NodeInfo NodeFault
typed_new_shape a (NewShape.Sizes sizes) = typed_reshape a sizes
typed_new_shape a (NewShape.Expanded axis) = typed_expand a axis
typed_new_shape a (NewShape.Squeezed axes) = typed_squeeze a axes
