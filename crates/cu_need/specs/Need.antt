-- The memory of each node (this project's own rule).
use Rattle.std.specs.Prelude.{◌≡◌, ℕ, ◌<◌, ◌≤◌, nat_lt, true, List, All, map, max, Option, Some, option_map, find, slice_get}
use Rattle.cu_form.specs.Expression.{Expression}
use Rattle.cu_form.specs.declared.expr.Node.{Node}
use Rattle.cu_form.specs.declared.form.Form.{Form}
use Rattle.cu_node.specs.Info.{IsInfo, info_at}
use Rattle.cu_node.specs.declared.info.NodeInfo.{NodeInfo}
use Rattle.cu_copy.specs.Copies.{IsRechunk, rechunk_need}
use Rattle.cu_need.specs.Cost.{cost_of}
use Rattle.cu_need.specs.Live.{is_live, live_nodes}
use Rattle.cu_need.specs.Operands.{operands_of, copies_of}
use Rattle.cu_need.specs.declared.need.NodeNeed.{NodeNeed}
use Rattle.cu_shape.specs.Counts.{largest}

-- the bytes that node k's operations need besides copies; the reserved bytes where it has none
abbrev pub own_need : ℕ → ℕ → List NodeInfo → ℕ → Form → ℕ
own_need reserved split_every infos k form = (cost_of form).need infos (info_at infos k) reserved split_every

-- The bytes that node k needs, where node `out` is stored: the greatest of these and of what each copy needs. An input that isn't stored is
-- read by the nodes that use it, and needs the reserved bytes alone.
abbrev pub need_of : ℕ → ℕ → List NodeInfo → ℕ → ℕ → Form → ℕ
need_of reserved split_every infos out k form = max (own_need reserved split_every infos k form) (largest (map (rechunk_need reserved) (copies_of infos out k form)))

-- the first live node that needs more than is allowed, with what it needs
abbrev pub first_over : ℕ → ℕ → ℕ → Expression → List NodeInfo → Option NodeNeed
first_over allowed reserved split_every e infos =
    option_map (λ numbered. record { node = numbered.0; need = need_of reserved split_every infos e.out numbered.0 numbered.1.form })
    (find (λ numbered. nat_lt allowed (need_of reserved split_every infos e.out numbered.0 numbered.1.form)) (live_nodes e))

-- a live node of the expression, with its number
pub record IsLiveNode (e : Expression) (k : ℕ) (node : Node) : Type 0 where
  pub at : slice_get e.nodes k ≡ Some node
  pub live : is_live e k ≡ true

-- a live node that needs more than is allowed, where none before it does
pub record IsFirstOver (allowed reserved split_every : ℕ) (e : Expression) (infos : List NodeInfo) (found : NodeNeed) : Type 0 where
  pub node : Node
  pub is_node : IsLiveNode e found.node node
  pub need : found.need ≡ need_of reserved split_every infos e.out found.node node.form
  pub over : allowed < found.need
  pub first : (j : ℕ) (earlier : Node) → j < found.node → IsLiveNode e j earlier → need_of reserved split_every infos e.out j earlier.form ≤ allowed

-- ---- what typing sees to

-- what the partial results of node k keep
abbrev pub ArePartialsWithin : List NodeInfo → ℕ → Form → Type 0
ArePartialsWithin infos k form = (cost_of form).partials infos (info_at infos k)

-- a node's partial results keep the limits, and so does each operand in the chunks that are wanted of it, and each copy
pub record IsNodeWithin (infos : List NodeInfo) (out k : ℕ) (form : Form) : Type 0 where
  pub partials : ArePartialsWithin infos k form
  pub operands : All IsRechunk (operands_of infos k form)
  pub copies : All IsRechunk (copies_of infos out k form)

-- the arrays of an expression's nodes, and those that its operations make, keep the limits
pub record AreWithinLimits (e : Expression) (infos : List NodeInfo) : Type 0 where
  pub arrays : All IsInfo infos
  pub nodes : (k : ℕ) (node : Node) → slice_get e.nodes k ≡ Some node → IsNodeWithin infos e.out k node.form

-- node k is typed over what is told of its arguments
abbrev pub IsTyped : List NodeInfo → ℕ → Form → Type 0
IsTyped infos k form = (cost_of form).typed infos (info_at infos k)
