-- What a contract sees of an expression, and the form that each expression has (this project's own form).
use Rattle.std.specs.Prelude.{◌≡◌, ℕ, ◌<◌, ◌≤◌, true, List, length, Some, slice_get}
use Rattle.cu_name.specs.Name.{is_name}
use Rattle.cu_form.specs.declared.expr.Node.{Node}
use Rattle.cu_form.specs.Form.{HasShortIndex, IsForm}

-- the nodes by their numbers, the number of the node that is stored, and the name under which it is stored
pub record Expression : Type 0 where
  pub nodes : List Node
  pub out : ℕ
  pub store_as : List ℕ

-- a node by its number: its id is a name, and its form is one of this number
pub record IsNode (number : ℕ) (node : Node) : Type 0 where
  pub name : is_name node.name ≡ true
  pub form : IsForm number node.form

-- no id stands at two numbers
abbrev pub IdsDiffer : List Node → Type 0
IdsDiffer nodes = (j k : ℕ) (m n : Node) → slice_get nodes j ≡ Some m → slice_get nodes k ≡ Some n → m.name ≡ n.name → j ≡ k

-- each index has fewer than 2^32 entries, so that a fault can tell its place
abbrev pub HaveShortIndices : List Node → Type 0
HaveShortIndices nodes = (k : ℕ) (node : Node) → slice_get nodes k ≡ Some node → HasShortIndex node.form

pub record IsExpression (e : Expression) : Type 0 where
  pub few : length e.nodes ≤ 256
  pub nodes : (k : ℕ) (node : Node) → slice_get e.nodes k ≡ Some node → IsNode k node
  pub ids : IdsDiffer e.nodes
  pub indices : HaveShortIndices e.nodes
  pub out : e.out < length e.nodes
  pub store_as : is_name e.store_as ≡ true
