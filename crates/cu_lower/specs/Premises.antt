-- What the plan of an expression takes for granted, and what it has in return (this project's own rule).
use Rattle.std.specs.Prelude.{◌≡◌, ◌≢◌, ℕ, ◌+◌, ◌-◌, ◌<◌, ◌≤◌, ◌^◌, ℤ, pos, true, false, List, [], ◌∷◌, All, length, sum_by, slice_get, Some, None, Ok, unwrap_or}
use Rattle.cu_num.specs.declared.layout.Encoding.TheVariants.{Plain}
use Rattle.cu_num.specs.declared.layout.Sep.TheVariants.{Slash}
use Rattle.cu_shape.specs.Index.{IsInside}
use Rattle.cu_op.specs.Arrays.{array_at, maker_at}
use Rattle.cu_op.specs.Layout.{IsLayout}
use Rattle.cu_op.specs.Cells.{tasks_of}
use Rattle.cu_op.specs.PlanView.{PlanView, operation_at}
use Rattle.cu_op.specs.Sound.{made_chunks}
use Rattle.cu_op.specs.Elements.{Elements}
use Rattle.cu_op.specs.Value.{HasTypes}
use Rattle.cu_op.specs.declared.layout.ArrayInfo.{ArrayInfo}
use Rattle.cu_op.specs.declared.operation.Planned.{Planned}
use Rattle.cu_name.specs.Keys.{record_key_of, made_prefix_of}
use Rattle.cu_run_law.specs.Pieces.{PlanRun}
use Rattle.cu_zarr.specs.Key.{metadata_key_of}
use Rattle.cu_form.specs.Expression.{Expression, IsExpression}
use Rattle.cu_form.specs.declared.expr.Node.{Node}
use Rattle.cu_form.specs.declared.form.Form.{Form}
use Rattle.cu_node.specs.Info.{IsInfo, info_at}
use Rattle.cu_node.specs.declared.info.NodeInfo.{NodeInfo}
use Rattle.cu_semantics.specs.Argument.{NodeElements, shape_of_node}
use Rattle.cu_expr.specs.Typing.{typed}
use Rattle.cu_expr.specs.declared.inputs.InputInfo.{InputInfo}
use Rattle.cu_need.specs.Counts.{plan_counts, over_limit}
use Rattle.cu_need.specs.Live.{is_live}
use Rattle.cu_need.specs.declared.counts.PlanCounts.{PlanCounts}
use Rattle.cu_need.specs.Need.{own_need, first_over}
use Rattle.cu_need.specs.Operands.{copies_of}
use Rattle.cu_copy.specs.Copies.{max_mem}
use Rattle.cu_lower_reduce.specs.Copies.{is_copy}
use Rattle.cu_lower.specs.Inputs.{input_names, input_place}
use Rattle.cu_lower.specs.Plan.{plan_of}
use Rattle.cu_lower.specs.Parts.{is_computed, made_layout}
use Rattle.cu_lower.specs.declared.options.Options.{Options}

-- an accepted expression, no live node of which needs more memory than is allowed; the plan keeps its limits, and a task merges 2 to 64
-- partial results
pub record IsLowerable (e : Expression) (infos : List NodeInfo) (inputs : List InputInfo) (options : Options) : Type 0 where
  pub form : IsExpression e
  pub types : typed inputs e ≡ Ok infos
  pub kept : All IsInfo infos
  pub fills : All (λ i. IsLayout i.layout) inputs
  pub memory : first_over options.allowed options.reserved options.split_every e infos ≡ None
  pub counts : over_limit (plan_counts (max_mem options.allowed options.reserved) options.split_every e infos) ≡ None
  pub allowed : options.allowed ≤ 2 ^ 40
  pub several : 2 ≤ options.split_every
  pub few : options.split_every ≤ 64

-- node number k is live, and is the stored array with this name
pub record IsLiveInput (e : Expression) (k : ℕ) (name : List ℕ) : Type 0 where
  pub node : Node
  pub at : slice_get e.nodes k ≡ Some node
  pub form : node.form ≡ Form.Input name
  pub live : is_live e k ≡ true

-- no live input node uses the output's name
abbrev pub OutputDiffers : Expression → Type 0
OutputDiffers e = (k : ℕ) (name : List ℕ) → IsLiveInput e k name → name ≢ e.store_as

-- these are the elements of the live input nodes: those of the arrays with their names, 0 where an array has none
abbrev pub AreOfInputs : Expression → List NodeInfo → Elements → NodeElements → Type 0
AreOfInputs e infos env elements =
    (k : ℕ) (name idx : List ℕ) → IsLiveInput e k name → IsInside (shape_of_node infos k) idx → elements k idx ≡ unwrap_or (env (input_place e name) idx) (pos 0)

-- the arrays of the live input nodes have an element at each of their indices
abbrev pub AreThere : Expression → List NodeInfo → Elements → Type 0
AreThere e infos env = (k : ℕ) (name idx : List ℕ) → IsLiveInput e k name → IsInside (shape_of_node infos k) idx → (x : ℤ) × (env (input_place e name) idx ≡ Some x)

-- the inputs' arrays have elements of their types, and nodes these elements
pub record HaveElements (e : Expression) (infos : List NodeInfo) (inputs : List InputInfo) (options : Options) (env : Elements) (elements : NodeElements) : Type 0 where
  pub lowerable : IsLowerable e infos inputs options
  pub typed : HasTypes (plan_of e infos inputs options).arrays env
  pub given : AreOfInputs e infos env elements

-- An operation belongs to a live node and needs at most what is allowed. A copy belongs to a node that has copies, and any other operation
-- needs at most what the node does besides them.
pub record IsOfNode (e : Expression) (infos : List NodeInfo) (options : Options) (o : Planned) : Type 0 where
  pub node : Node
  pub at : slice_get e.nodes o.node ≡ Some node
  pub live : is_live e o.node ≡ true
  pub allowed : o.projected ≤ options.allowed
  pub copies : is_copy o.op ≡ true → copies_of infos e.out o.node node.form ≢ []
  pub need : is_copy o.op ≡ false → o.projected ≤ own_need options.reserved options.split_every infos o.node node.form

-- node number k is live, and is neither a rechunk nor an input
pub record IsComputedNode (e : Expression) (k : ℕ) (node : Node) : Type 0 where
  pub at : slice_get e.nodes k ≡ Some node
  pub live : is_live e k ≡ true
  pub form : is_computed node.form ≡ true

-- one of these operations belongs to node number k, isn't a copy, and needs as much as the node does besides its copies
pub record NeedsAsMuch (infos : List NodeInfo) (options : Options) (ops : List Planned) (k : ℕ) (node : Node) : Type 0 where
  pub at : ℕ
  pub below : at < length ops
  pub of_node : (operation_at ops at).node ≡ k
  pub other : is_copy (operation_at ops at).op ≡ false
  pub need : (operation_at ops at).projected ≡ own_need options.reserved options.split_every infos k node.form

-- the tasks of the plan's operations and the chunks of its made arrays are as many as are counted
pub record HasCounts (plan : PlanView) (counts : PlanCounts) : Type 0 where
  pub tasks : sum_by (λ o. tasks_of plan.arrays o.op) plan.ops ≡ counts.tasks
  pub cells : sum_by made_chunks plan.arrays ≡ counts.cells

-- the array of the stored node has the output's name and the node's type, shape and chunk shape, and an operation makes it
pub record IsOutput (e : Expression) (infos : List NodeInfo) (a : ArrayInfo) : Type 0 where
  pub name : a.prefix ≡ e.store_as
  pub layout : a.layout ≡ made_layout (info_at infos e.out)
  pub made : a.maker ≢ None

-- The arrays of the inputs that live nodes use come first, and are the only ones that no operation makes. Those behind them have the encoding
-- "default" with "/". The last is the output's, and the others are called `_cubed/NAME/K`, where K counts them from 0.
pub record HasArraysInOrder (e : Expression) (plan : PlanView) : Type 0 where
  pub inputs : length (input_names e) ≤ plan.out
  pub given : (a : ℕ) → a < length (input_names e) → maker_at plan.arrays a ≡ None
  pub places : (k : ℕ) (name : List ℕ) → IsLiveInput e k name → input_place e name < length (input_names e)
  pub others : (a : ℕ) → a < length plan.arrays → maker_at plan.arrays a ≡ None → a < length (input_names e)
  pub encodings : (a : ℕ) → a < length plan.arrays → maker_at plan.arrays a ≢ None → (array_at plan.arrays a).layout.encoding ≡ Plain Slash
  pub last : plan.out + 1 ≡ length plan.arrays
  pub names : (a : ℕ) → length (input_names e) ≤ a → a < plan.out → (array_at plan.arrays a).prefix ≡ made_prefix_of e.store_as (a - length (input_names e))

-- the run of a plan with a record and metadata, under the keys of the output's name
abbrev pub expression_run : Expression → PlanView → List ℕ → List ℕ → PlanRun
expression_run e plan recorded metadata = record { plan = plan; texts = (record_key_of e.store_as, recorded) ∷ (metadata_key_of e.store_as, metadata) ∷ [] }
