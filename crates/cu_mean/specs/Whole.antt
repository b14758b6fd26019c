-- All nodes of an expression, element by element.
use Rattle.std.specs.Prelude.{◌≡◌, ℕ, ◌<◌, ℤ, true, Bool, List, Some, Ok, length, take, count_by, slice_get}
use Rattle.cu_shape.specs.Index.{product, index_at}
use Rattle.cu_form.specs.Expression.{Expression}
use Rattle.cu_form.specs.declared.expr.Node.{Node}
use Rattle.cu_node.specs.Info.{info_at}
use Rattle.cu_node.specs.declared.info.NodeInfo.{NodeInfo}
use Rattle.cu_semantics.specs.Argument.{NodeElements}
use Rattle.cu_semantics.specs.Meaning.{meaning_of}
use Rattle.cu_expr.specs.Typing.{typed}
use Rattle.cu_expr.specs.declared.inputs.InputInfo.{InputInfo}
use Rattle.cu_mean.specs.Node.{is_input}
use Rattle.cu_mean.specs.Plain.{PlainArray, IsPlain}
use Rattle.cu_mean.specs.Reading.{HasTypeAndShape}

-- the types are those of the expression over some stored arrays
pub record AreTypes (e : Expression) (infos : List NodeInfo) : Type 0 where
  pub inputs : List InputInfo
  pub types : typed inputs e ≡ Ok infos

-- ---- inputs

abbrev pub is_input_node : Node → Bool
is_input_node node = is_input node.form

-- how many input nodes come before a node
abbrev pub inputs_before : Expression → ℕ → ℕ
inputs_before e k = count_by is_input_node (take k e.nodes)

-- the array of a number is there, with the type and the shape
pub record IsInput (i : NodeInfo) (inputs : List PlainArray) (number : ℕ) (p : PlainArray) : Type 0 where
  pub there : slice_get inputs number ≡ Some p
  pub plain : IsPlain p
  pub info : HasTypeAndShape i p

-- there is an array for each input node, in the order of the nodes, of the node's type and shape
pub record AreInputNodes (e : Expression) (infos : List NodeInfo) (inputs : List PlainArray) : Type 0 where
  pub count : length inputs ≡ count_by is_input_node e.nodes
  pub each : (k : ℕ) (node : Node) → slice_get e.nodes k ≡ Some node → is_input node.form ≡ true → (p : PlainArray) × IsInput (info_at infos k) inputs (inputs_before e k) p

-- ---- elements

-- the array has the type and the shape, and at each place in row-major order the element of the index there
pub record HoldsElements (i : NodeInfo) (element : List ℕ → ℤ) (p : PlainArray) : Type 0 where
  pub info : HasTypeAndShape i p
  pub count : length p.cells ≡ product i.dims
  pub cells : (place : ℕ) → place < product i.dims → slice_get p.cells place ≡ Some (element (index_at i.dims place))

-- the arrays hold the elements of the input nodes
abbrev pub HoldInputs : Expression → List NodeInfo → NodeElements → List PlainArray → Type 0
HoldInputs e infos env inputs = (k : ℕ) (node : Node) (p : PlainArray) → slice_get e.nodes k ≡ Some node → is_input node.form ≡ true → slice_get inputs (inputs_before e k) ≡ Some p
    → HoldsElements (info_at infos k) (env k) p

-- there is an array for each node, which holds the elements that the expression means, where `env` has those of its inputs
pub record HoldMeaning (e : Expression) (infos : List NodeInfo) (env : NodeElements) (plains : List PlainArray) : Type 0 where
  pub count : length plains ≡ length e.nodes
  pub each : (k : ℕ) (p : PlainArray) → slice_get plains k ≡ Some p → HoldsElements (info_at infos k) (meaning_of e infos env k) p
