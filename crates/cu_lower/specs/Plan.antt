-- The plan of an expression (this project's own rule): the input arrays, and then what each live node adds, in order.
use Rattle.std.specs.Prelude.{ℕ, List, [], ◌∷◌, slice_index}
use Rattle.cu_form.specs.Expression.{Expression}
use Rattle.cu_form.specs.declared.expr.Node.{Node}
use Rattle.cu_node.specs.declared.info.NodeInfo.{NodeInfo}
use Rattle.cu_op.specs.PlanView.{PlanView}
use Rattle.cu_expr.specs.declared.inputs.InputInfo.{InputInfo}
use Rattle.cu_lower.specs.Inputs.{input_arrays}
use Rattle.cu_lower.specs.Parts.{Grown, with_live}
use Rattle.cu_lower.specs.declared.options.Options.{Options}

-- with what these nodes add, in order
abbrev pub grown_after : Expression → List NodeInfo → Options → Grown → List Node → Grown
grown_after e infos options g [] = g
grown_after e infos options g (n ∷ ns) = grown_after e infos options (with_live e infos options g n.form) ns

-- the input arrays alone
abbrev pub first_grown : Expression → List InputInfo → Grown
first_grown e inputs = record { arrays = input_arrays e inputs; ops = []; places = [] }

abbrev pub lowered : Expression → List NodeInfo → List InputInfo → Options → Grown
lowered e infos inputs options = grown_after e infos options (first_grown e inputs) e.nodes

-- the number of a node's array
abbrev pub array_of_node : Grown → ℕ → ℕ
array_of_node g k = slice_index g.places k

-- what was grown as a plan, whose result is the stored node's array
abbrev pub as_plan : Expression → Options → Grown → PlanView
as_plan e options g = record { arrays = g.arrays; ops = g.ops; out = array_of_node g e.out; allowed = options.allowed; reserved = options.reserved }

-- the plan of an expression, where `infos` is what is known of its nodes
abbrev pub plan_of : Expression → List NodeInfo → List InputInfo → Options → PlanView
plan_of e infos inputs options = as_plan e options (lowered e infos inputs options)
