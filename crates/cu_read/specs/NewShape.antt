-- The rows of views that have as many elements in another shape, and the same as a relation (Python array API, "Manipulation
-- Functions": `reshape`, `expand_dims`, `squeeze`).
use Rattle.std.specs.Prelude.{◌≡◌, ℕ, List, codes, bytes_eq, Result, Ok, Err, if◌then◌else◌}
use Rattle.serde_json.specs.Data.{Data}
use Rattle.cu_node.specs.declared.new_shape.NewShape.{NewShape}
use Rattle.cu_form.specs.declared.form.Form.{Form}
use Rattle.cu_result.specs.Results.{◌>>=◌}
use Rattle.cu_read.specs.Args.{args_in, HasArgs}
use Rattle.cu_read.specs.Members.{integer_of, integers_of, new_sizes_of, IsObjectOf, Has}
use Rattle.cu_read.specs.Rows.{has_members, required}
use Rattle.cu_read.specs.declared.faults.NodeCode.{NodeCode}

-- A node with this operator says this shape: it has exactly the members of the operator's row, and these are the shape's.
abbrev pub IsNewShape : List ℕ → Data → NewShape → Type 0
IsNewShape op d (NewShape.Sizes sizes) = (op ≡ codes "reshape") × IsObjectOf 4 d × Has new_sizes_of (codes "shape") d sizes
IsNewShape op d (NewShape.Expanded axis) = (op ≡ codes "expand_dims") × IsObjectOf 4 d × Has integer_of (codes "axis") d axis
IsNewShape op d (NewShape.Squeezed axes) = (op ≡ codes "squeeze") × IsObjectOf 4 d × Has integers_of (codes "axes") d axes

-- the same of the form with this shape
abbrev pub SaysReshape : List (List ℕ) → List ℕ → Data → Form → Type 0
SaysReshape ids op d (Form.Reshape args shape) = IsNewShape op d shape × HasArgs ids d args
SaysReshape ids op d form = ⊥

abbrev pub reshape_in : Data → Result NewShape NodeCode
reshape_in d = do
  _ ← has_members 4 d
  sizes ← required new_sizes_of (codes "shape") d
  Ok (NewShape.Sizes sizes)

abbrev pub expand_dims_in : Data → Result NewShape NodeCode
expand_dims_in d = do
  _ ← has_members 4 d
  axis ← required integer_of (codes "axis") d
  Ok (NewShape.Expanded axis)

abbrev pub squeeze_in : Data → Result NewShape NodeCode
squeeze_in d = do
  _ ← has_members 4 d
  axes ← required integers_of (codes "axes") d
  Ok (NewShape.Squeezed axes)

-- the shape that an operator of this family says
abbrev pub new_shape_in : List ℕ → Data → Result NewShape NodeCode
new_shape_in op d =
    if bytes_eq op (codes "reshape") then reshape_in d
    else if bytes_eq op (codes "expand_dims") then expand_dims_in d
    else if bytes_eq op (codes "squeeze") then squeeze_in d
    else Err NodeCode.Unknown

-- the row of an operator of this family
abbrev pub new_shape_row : List ℕ → List (List ℕ) → Data → Result Form NodeCode
new_shape_row op ids d = do
  shape ← new_shape_in op d
  args ← args_in ids d
  Ok (Form.Reshape args shape)
