-- The plan of two sums, of which the second reads what the first makes; and that of one sum.
use Rattle.std.specs.Prelude.{ℕ, pos, false, List, [], ◌∷◌, Option, Some, None, codes}
use Rattle.cu_num.specs.declared.types.Dtype.TheVariants.{Int32}
use Rattle.cu_num.specs.declared.layout.Encoding.TheVariants.{Plain}
use Rattle.cu_num.specs.declared.layout.Sep.TheVariants.{Slash}
use Rattle.cu_num.specs.declared.layout.Endian.TheVariants.{Little}
use Rattle.cu_grid.specs.Grid.{RegularGrid}
use Rattle.cu_op.specs.OneMap.{addition_of}
use Rattle.cu_op.specs.PlanView.{PlanView}
use Rattle.cu_op.specs.declared.layout.ArrayInfo.{ArrayInfo}

-- six numbers in chunks of four
abbrev pub six_in_fours : RegularGrid
six_in_fours = record { shape = 6 ∷ []; chunk = 4 ∷ [] }

abbrev pub array_under : List ℕ → Option ℕ → ArrayInfo
array_under name maker = record {
  prefix = name;
  layout = record { dtype = Int32; grid = six_in_fours; encoding = Plain Slash; endian = Little; fill = pos 0 };
  maker = maker;
  inlined = false;
}

abbrev pub chain_arrays : List ArrayInfo
chain_arrays = array_under (codes "a") None ∷ array_under (codes "b") None ∷ array_under (codes "_cubed/y/0") (Some 0) ∷ array_under (codes "y") (Some 1) ∷ []

abbrev pub chain_plan : PlanView
chain_plan = record {
  arrays = chain_arrays;
  ops = record { op = addition_of Int32 0 1 2; node = 0; projected = 1600 } ∷ record { op = addition_of Int32 2 1 3; node = 1; projected = 1600 } ∷ [];
  out = 3;
  allowed = 1600;
  reserved = 0;
}

abbrev pub addition_arrays : List ArrayInfo
addition_arrays = array_under (codes "a") None ∷ array_under (codes "b") None ∷ array_under (codes "y") (Some 0) ∷ []

abbrev pub addition_plan : PlanView
addition_plan = record {
  arrays = addition_arrays;
  ops = record { op = addition_of Int32 0 1 2; node = 2; projected = 1600 } ∷ [];
  out = 2;
  allowed = 1600;
  reserved = 0;
}
