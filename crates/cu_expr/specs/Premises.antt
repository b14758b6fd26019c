-- What the typing of an expression takes for granted.
use Rattle.std.specs.Prelude.{◌≡◌, ℕ, ◌≤◌, true, List, All, length, None}
use Rattle.cu_num.specs.Dtype.{size_of}
use Rattle.cu_grid.specs.Limits.{first_fault}
use Rattle.cu_op.specs.declared.layout.Layout.{Layout}
use Rattle.cu_form.specs.Form.{args_of, are_arrays}
use Rattle.cu_form.specs.declared.form.Form.{Form}
use Rattle.cu_expr.specs.declared.inputs.InputInfo.{InputInfo}

-- A layout's grid has at most 6 axes and no fault. Each layout that the reader of metadata accepts has these two.
pub record HasGrid (l : Layout) : Type 0 where
  pub axes : length l.grid.shape ≤ 6
  pub grid : first_fault l.grid.shape l.grid.chunk (size_of l.dtype) ≡ None

abbrev pub HaveGrids : List InputInfo → Type 0
HaveGrids inputs = All (λ i. HasGrid i.layout) inputs

-- of a form that takes arrays alone, from so many to so many of them, there are as many
abbrev pub HasArrays : Form → ℕ → Type 0
HasArrays form n = (least most : ℕ) → are_arrays least most (args_of form) ≡ true → (least ≤ n) × (n ≤ most)
