-- The elements of nodes, and of a node's arguments.
use Rattle.std.specs.Prelude.{ℕ, ℤ, pos, List, [], Option, Some, slice_get}
use Rattle.cu_num.specs.Scalar.{truth_number}
use Rattle.cu_shape.specs.Index.{back}
use Rattle.cu_form.specs.declared.args.Arg.{Arg}
use Rattle.cu_node.specs.Info.{info_at}
use Rattle.cu_node.specs.declared.info.NodeInfo.{NodeInfo}

-- for each node's number and index an element
abbrev pub NodeElements : Type 0
NodeElements = ℕ → List ℕ → ℤ

-- the shape of a node's array
abbrev pub shape_of_node : List NodeInfo → ℕ → List ℕ
shape_of_node infos k = (info_at infos k).dims

-- an argument's element at an index of the result: a node's through broadcasting, and a written value everywhere
abbrev pub argument_at : List NodeInfo → NodeElements → List ℕ → Arg → ℤ
argument_at infos at idx (Arg.Node n) = at n (back (shape_of_node infos n) idx)
argument_at infos at idx (Arg.Int x) = x
argument_at infos at idx (Arg.Truth b) = truth_number b

-- the element of the node that an argument names, at an index of that node; 0 where it names none
abbrev pub element_from : NodeElements → Option Arg → List ℕ → ℤ
element_from at (Some (Arg.Node n)) idx = at n idx
element_from at arg idx = pos 0

-- the shape of the node that an argument names; rank 0 where it names none
abbrev pub shape_from : List NodeInfo → Option Arg → List ℕ
shape_from infos (Some (Arg.Node n)) = shape_of_node infos n
shape_from infos arg = []

-- the same of argument number j
abbrev pub source_at : NodeElements → List Arg → ℕ → List ℕ → ℤ
source_at at args j = element_from at (slice_get args j)

abbrev pub source_shape : List NodeInfo → List Arg → ℕ → List ℕ
source_shape infos args j = shape_from infos (slice_get args j)
