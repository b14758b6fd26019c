-- What the evaluator takes for granted of a node, and what it gives at an index.
use Rattle.std.specs.Prelude.{◌≡◌, ℕ, ℤ, Bool, true, false, List, All, Ok}
use Rattle.cu_form.specs.Form.{in_ranges, takes_args}
use Rattle.cu_form.specs.declared.form.Form.{Form}
use Rattle.cu_node.specs.Info.{IsInfo, info_at, no_info}
use Rattle.cu_node.specs.declared.info.NodeInfo.{NodeInfo}
use Rattle.cu_semantics.specs.Argument.{NodeElements}
use Rattle.cu_semantics.specs.Rule.{rule_of}
use Rattle.cu_expr.specs.Typing.{told_of, typed_form}
use Rattle.cu_shape.specs.Index.{IsInside}
use Rattle.cu_mean.specs.Plain.{PlainArray}
use Rattle.cu_mean.specs.Reading.{elements_in, HaveTypesAndShapes}
use Rattle.cu_mean.specs.declared.scope.Scope.{Scope}

-- a node that is an input
abbrev pub is_input : Form → Bool
is_input (Form.Input name) = true
is_input form = false

-- the node has its arguments and the type that typing gives, and the arrays before it are there
pub record IsReadyNode (form : Form) (infos : List NodeInfo) (info : NodeInfo) (plains : List PlainArray) : Type 0 where
  pub computed : is_input form ≡ false
  pub ranges : in_ranges form ≡ true
  pub args : takes_args form ≡ true
  pub typed : typed_form no_info form (told_of infos form) ≡ Ok info
  pub kept : All IsInfo infos
  pub own : IsInfo info
  pub before : HaveTypesAndShapes infos plains

-- x is the node's element at the index, whatever number the node has
abbrev pub IsElement : Form → List NodeInfo → NodeInfo → List PlainArray → List ℕ → ℤ → Type 0
IsElement form infos info plains idx x = (env : NodeElements) (k : ℕ) → info_at infos k ≡ info → x ≡ rule_of infos env (elements_in plains) k form idx

-- the node is ready, and the index is one of its array
pub record IsReadyAt (form : Form) (scope : Scope) : Type 0 where
  pub ready : IsReadyNode form scope.infos.now scope.info.now scope.plains.now
  pub inside : IsInside scope.info.now.dims scope.idx.now

abbrev pub IsElementAt : Form → Scope → ℤ → Type 0
IsElementAt form scope x = IsElement form scope.infos.now scope.info.now scope.plains.now scope.idx.now x
