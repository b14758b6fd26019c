-- The arrays that a view reads: those of the nodes that its arguments name, in order.
use Rattle.std.specs.Prelude.{ℕ, List, [], ◌∷◌, map}
use Rattle.cu_num.specs.declared.types.Dtype.{Dtype}
use Rattle.cu_form.specs.Form.{args_of}
use Rattle.cu_form.specs.declared.args.Arg.{Arg}
use Rattle.cu_form.specs.declared.form.Form.{Form}
use Rattle.cu_node.specs.Info.{info_at}
use Rattle.cu_node.specs.declared.info.NodeInfo.{NodeInfo}

-- the nodes that arguments name
abbrev pub nodes_of : List Arg → List ℕ
nodes_of [] = []
nodes_of (Arg.Node n ∷ args) = n ∷ nodes_of args
nodes_of (Arg.Int x ∷ args) = nodes_of args
nodes_of (Arg.Truth b ∷ args) = nodes_of args

-- what is known of the arrays of these nodes
abbrev pub sources_of : List NodeInfo → List Arg → List NodeInfo
sources_of infos args = map (info_at infos) (nodes_of args)

-- the shapes and the types of arrays
abbrev pub shapes_of : List NodeInfo → List (List ℕ)
shapes_of is = map (λ i. i.dims) is

abbrev pub dtypes_of : List NodeInfo → List Dtype
dtypes_of is = map (λ i. i.dtype) is

-- the shapes of the arrays that a form reads
abbrev pub source_shapes : List NodeInfo → Form → List (List ℕ)
source_shapes infos form = shapes_of (sources_of infos (args_of form))

-- the shape of the first of them; rank 0 where there is none
abbrev pub first_shape : List NodeInfo → Form → List ℕ
first_shape infos form = (info_at (sources_of infos (args_of form)) 0).dims
