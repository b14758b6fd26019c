-- What stands while the nodes of an expression are gone over.
use Rattle.std.specs.Prelude.{◌≡◌, ℕ, ◌<◌, ℤ, pos, List, [], ◌∷◌, ◌++◌, Some, All, length, drop, get_or, slice_get}
use Rattle.cu_num.specs.Dtype.{InRange}
use Rattle.cu_shape.specs.Index.{product, index_at}
use Rattle.cu_form.specs.Expression.{Expression, IsExpression}
use Rattle.cu_form.specs.declared.form.Form.{Form}
use Rattle.cu_node.specs.Info.{IsInfo, info_at}
use Rattle.cu_node.specs.declared.info.NodeInfo.{NodeInfo}
use Rattle.cu_semantics.specs.Argument.{NodeElements}
use Rattle.cu_semantics.specs.Meaning.{meaning_of}
use Rattle.cu_mean.specs.Node.{IsElement}
use Rattle.cu_mean.specs.Plain.{PlainArray}
use Rattle.cu_mean.specs.Reading.{HasTypeAndShape, element_or_zero}
use Rattle.cu_mean.specs.Whole.{inputs_before, AreInputNodes, HoldsElements, AreTypes}

-- ---- one node

-- the elements of a node at the first places
pub record HasFirstElements (form : Form) (infos : List NodeInfo) (info : NodeInfo) (plains : List PlainArray) (places : ℕ) (cells : List ℤ) : Type 0 where
  pub count : length cells ≡ places
  pub each : (place : ℕ) → place < places → IsElement form infos info plains (index_at info.dims place) (get_or cells place (pos 0))

-- such elements at all places are numbers of the node's type
abbrev pub KeepType : Form → List NodeInfo → NodeInfo → List PlainArray → Type 0
KeepType form infos info plains = (cells : List ℤ) → HasFirstElements form infos info plains (product info.dims) cells → All (InRange info.dtype) cells

-- the array has the node's type and shape, and its elements
pub record IsEvaluated (form : Form) (infos : List NodeInfo) (info : NodeInfo) (plains : List PlainArray) (p : PlainArray) : Type 0 where
  pub same : HasTypeAndShape info p
  pub cells : HasFirstElements form infos info plains (product info.dims) p.cells

-- the node's array was added
pub record AddsComputed (form : Form) (infos : List NodeInfo) (info : NodeInfo) (old new : List PlainArray) : Type 0 where
  pub plain : PlainArray
  pub computed : IsEvaluated form infos info old plain
  pub added : new ≡ old ++ plain ∷ []

-- the first of the inputs that are left was moved
pub record MovesInput (rest plains new_rest new_plains : List PlainArray) : Type 0 where
  pub plain : PlainArray
  pub taken : rest ≡ plain ∷ new_rest
  pub added : new_plains ≡ plains ++ plain ∷ []

-- ---- all nodes

-- the elements of the input nodes, by the nodes' numbers
abbrev pub input_elements : Expression → List PlainArray → NodeElements
input_elements e inputs k idx = element_or_zero (slice_get inputs (inputs_before e k)) idx

-- an expression with its types, and an array for each input node
pub record IsEvaluation (e : Expression) (infos : List NodeInfo) (inputs : List PlainArray) : Type 0 where
  pub form : IsExpression e
  pub types : AreTypes e infos
  pub kept : All IsInfo infos
  pub arrays : AreInputNodes e infos inputs

-- there is an array for each of the first nodes, which holds the elements that the expression means
pub record HoldFirst (e : Expression) (infos : List NodeInfo) (env : NodeElements) (nodes : ℕ) (plains : List PlainArray) : Type 0 where
  pub count : length plains ≡ nodes
  pub each : (k : ℕ) (p : PlainArray) → slice_get plains k ≡ Some p → HoldsElements (info_at infos k) (meaning_of e infos env k) p

-- the first nodes are done, and the inputs of the others are left
pub record IsGoing (e : Expression) (infos : List NodeInfo) (inputs : List PlainArray) (nodes : ℕ) (rest plains : List PlainArray) : Type 0 where
  pub given : IsEvaluation e infos inputs
  pub left : rest ≡ drop (inputs_before e nodes) inputs
  pub first : HoldFirst e infos (input_elements e inputs) nodes plains
