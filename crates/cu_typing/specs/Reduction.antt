-- The typing of reductions and of `argmin` and `argmax` (Python array API, "Statistical Functions", "Utility Functions",
-- "Searching Functions"; the types that are accepted, the chunk sizes and the order of the faults are this project's rules).
use Rattle.std.specs.Prelude.{ℕ, ◌==◌, true, false, not, ◌&&◌, if◌then◌else◌, ℤ, List, [], ◌∷◌, ◌++◌, length, Option, Some, None, option_map, Result}
use Rattle.std.specs.Prelude.{Bool as Test}
use Rattle.cu_result.specs.Results.{◌>>=◌, check, need}
use Rattle.cu_num.specs.Dtype.{is_integer}
use Rattle.cu_num.specs.Fold.{fold_accepts, fold_type}
use Rattle.cu_num.specs.declared.types.Dtype.{Dtype}
use Rattle.cu_num.specs.declared.types.Dtype.TheVariants.{Int64}
use Rattle.cu_shape.specs.Index.{product}
use Rattle.cu_num.specs.declared.folds.FoldKind.{FoldKind}
use Rattle.cu_num.specs.declared.folds.FoldKind.TheVariants as fold
use Rattle.cu_node.specs.Axes.{marked_of, all_marked}
use Rattle.cu_node.specs.Fault.{fault}
use Rattle.cu_node.specs.Limited.{limited}
use Rattle.cu_node.specs.declared.faults.FaultCode.TheVariants.{Kind, Axis, EmptyReduce}
use Rattle.cu_node.specs.declared.faults.NodeFault.{NodeFault}
use Rattle.cu_node.specs.declared.info.NodeInfo.{NodeInfo}

-- the least and the greatest of nothing are refused
abbrev pub needs_element : FoldKind → Test
needs_element fold.Min = true
needs_element fold.Max = true
needs_element kind = false

-- ---- axes

-- the axes that a list names; no list stands for all axes
abbrev pub marks_of : ℕ → Option (List ℤ) → Option (List Test)
marks_of rank (Some axes) = marked_of rank axes
marks_of rank None = Some all_marked

-- the sizes of the axes that are reduced
abbrev pub reduced_sizes : List ℕ → List Test → List ℕ
reduced_sizes [] ms = []
reduced_sizes (n ∷ ns) [] = []
reduced_sizes (n ∷ ns) (m ∷ ms) = if m then n ∷ reduced_sizes ns ms else reduced_sizes ns ms

-- a reduced axis is taken out, or has 1 in its place
abbrev pub kept_size : Test → Test → ℕ → List ℕ
kept_size keepdims true n = if keepdims then 1 ∷ [] else []
kept_size keepdims false n = n ∷ []

abbrev pub kept_sizes : Test → List ℕ → List Test → List ℕ
kept_sizes keepdims [] ms = []
kept_sizes keepdims (n ∷ ns) [] = n ∷ ns
kept_sizes keepdims (n ∷ ns) (m ∷ ms) = kept_size keepdims m n ++ kept_sizes keepdims ns ms

-- ---- the node

-- what a reduction does with types and elements
pub record ReductionRule : Type 0 where
  pub accepts : Test
  pub dtype : Dtype
  pub needs_element : Test

abbrev pub reduced : ReductionRule → Option (List ℤ) → Test → NodeInfo → Result NodeInfo NodeFault
reduced rule axes keepdims i = do
  _ ← check rule.accepts (fault Kind)
  marks ← need (marks_of (length i.dims) axes) (fault Axis)
  _ ← check (not (rule.needs_element && product (reduced_sizes i.dims marks) == 0)) (fault EmptyReduce)
  limited rule.dtype (kept_sizes keepdims i.dims marks) (kept_sizes keepdims i.chunk marks)

abbrev pub fold_rule : FoldKind → Dtype → ReductionRule
fold_rule kind t = record { accepts = fold_accepts kind t; dtype = fold_type kind t; needs_element = needs_element kind }

abbrev pub place_rule : Dtype → ReductionRule
place_rule t = record { accepts = is_integer t; dtype = Int64; needs_element = true }

abbrev pub typed_reduction : FoldKind → Option (List ℤ) → Test → NodeInfo → Result NodeInfo NodeFault
typed_reduction kind axes keepdims i = reduced (fold_rule kind i.dtype) axes keepdims i

-- the place along an axis, or in the whole array
abbrev pub typed_arg_place : Option ℤ → Test → NodeInfo → Result NodeInfo NodeFault
typed_arg_place axis keepdims i = reduced (place_rule i.dtype) (option_map (λ d. d ∷ []) axis) keepdims i
