-- A plan of one map over inputs, whose result stands behind them: what makes it sound.
use Rattle.std.specs.Prelude.{◌≡◌, ℕ, ◌^◌, ◌<◌, ◌≤◌, false, List, [], ◌∷◌, ◌++◌, All, length, None, Some}
use Rattle.cu_num.specs.Dtype.{IsInteger}
use Rattle.cu_num.specs.declared.types.Dtype.{Dtype}
use Rattle.cu_num.specs.declared.functions.Fn2.TheVariants.{Add}
use Rattle.cu_grid.specs.Grid.{RegularGrid}
use Rattle.cu_op.specs.declared.kernel.Instr.{Instr}
use Rattle.cu_op.specs.declared.kernel.Instr.TheVariants.{Load, Two}
use Rattle.cu_num.specs.declared.layout.Encoding.TheVariants.{Plain}
use Rattle.cu_num.specs.declared.layout.Sep.TheVariants.{Slash}
use Rattle.cu_op.specs.declared.layout.ArrayInfo.{ArrayInfo}
use Rattle.cu_op.specs.declared.operation.Op.{Op}
use Rattle.cu_op.specs.Kind.Map.{map_of}
use Rattle.cu_op.specs.Arrays.{grid_counts, array_chunk_count}
use Rattle.cu_shape.specs.Index.{product}
use Rattle.cu_op.specs.Layout.{IsArray}
use Rattle.cu_op.specs.Operation.{reads_of, kernel_of, target_of, Fits}

-- the operation is a map that makes this array
abbrev pub Makes : Op → ℕ → Type 0
Makes op array = (code : List Instr) × (kernel_of op ≡ Some code) × (target_of op ≡ array)

-- inputs, and an array that a map makes of them
pub record OneMap (inputs : List ArrayInfo) (made : ArrayInfo) (op : Op) : Type 0 where
  pub given : All IsArray inputs
  pub result : IsArray made
  pub makers : All (λ a. a.maker ≡ None) inputs
  pub maker : made.maker ≡ Some 0
  pub stored : All (λ a. a.inlined ≡ false) (inputs ++ made ∷ [])
  pub encoding : made.layout.encoding ≡ Plain Slash
  pub given_chunks : All (λ a. array_chunk_count a ≤ 65536) inputs
  pub result_chunks : array_chunk_count made ≤ 65536
  pub few : length inputs < 2 ^ 31
  pub makes : Makes op (length inputs)
  pub reads : All (λ a. a < length inputs) (reads_of op)
  pub fits : Fits (inputs ++ made ∷ []) op

-- the sum of the arrays i and j
abbrev pub addition_of : Dtype → ℕ → ℕ → ℕ → Op
addition_of t i j out = map_of (Load 0 ∷ Load 1 ∷ Two Add t 0 1 ∷ []) (i ∷ j ∷ []) out

-- an array with this grid and type
pub record HasGridAndType (g : RegularGrid) (t : Dtype) (a : ArrayInfo) : Type 0 where
  pub array : IsArray a
  pub grid : a.layout.grid ≡ g
  pub dtype : a.layout.dtype ≡ t

-- inputs of one grid and one integer type, two of which are added
pub record AddsAlike (inputs : List ArrayInfo) (made : ArrayInfo) (g : RegularGrid) (t : Dtype) (i j : ℕ) : Type 0 where
  pub integer : IsInteger t
  pub few_chunks : product (grid_counts g) ≤ 65536
  pub given : All (HasGridAndType g t) inputs
  pub makers : All (λ a. a.maker ≡ None) inputs
  pub stored : All (λ a. a.inlined ≡ false) (inputs ++ made ∷ [])
  pub few : length inputs < 2 ^ 31
  pub result : HasGridAndType g t made
  pub maker : made.maker ≡ Some 0
  pub encoding : made.layout.encoding ≡ Plain Slash
  pub first : i < length inputs
  pub second : j < length inputs
