-- Which nodes of an expression are live: the one that is stored, and each argument of a live node (this project's own rule).
use Rattle.std.specs.Prelude.{◌≡◌, ℕ, ◌+◌, ◌==◌, Bool, ◌&&◌, ◌||◌, true, false, List, [], ◌∷◌, Some, slice_get, filter}
use Rattle.std.specs.List.{list_any, enumerate_from}
use Rattle.cu_form.specs.Expression.{Expression}
use Rattle.cu_form.specs.Form.{args_of}
use Rattle.cu_form.specs.declared.args.Arg.{Arg}
use Rattle.cu_form.specs.declared.expr.Node.{Node}

-- the argument is the node with this number
abbrev pub is_node : ℕ → Arg → Bool
is_node j (Arg.Node n) = n == j
is_node j arg = false

-- the node with this number is an argument of the node
abbrev pub has_argument : Node → ℕ → Bool
has_argument node j = list_any (is_node j) (args_of node.form)

-- Node j is live by what the nodes from number k on say. The last nodes decide: a node says that its arguments are live where those
-- behind it say that it is.
abbrev pub is_live_from : ℕ → ℕ → List Node → ℕ → Bool
is_live_from out k [] j = j == out
is_live_from out k (n ∷ ns) j = is_live_from out (k + 1) ns j || (is_live_from out (k + 1) ns k && has_argument n j)

-- node j is live; no number past the last node is
abbrev pub is_live : Expression → ℕ → Bool
is_live e j = is_live_from e.out 0 e.nodes j

-- the live ones among these nodes, each with its number, where the first of them has number k
abbrev pub live_behind : Expression → ℕ → List Node → List (ℕ × Node)
live_behind e k nodes = filter (λ numbered. is_live e numbered.0) (enumerate_from k nodes)

-- the live nodes, each with its number
abbrev pub live_nodes : Expression → List (ℕ × Node)
live_nodes e = live_behind e 0 e.nodes

-- ---- the same in other words

-- a set of numbers has the stored node, and with each node its arguments
pub record IsClosed (e : Expression) (among : ℕ → Bool) : Type 0 where
  pub stored : among e.out ≡ true
  pub arguments : (k j : ℕ) (node : Node) → slice_get e.nodes k ≡ Some node → among k ≡ true → has_argument node j ≡ true → among j ≡ true

-- a live node has the node as its argument
pub record IsLiveArgument (e : Expression) (j : ℕ) : Type 0 where
  pub k : ℕ
  pub node : Node
  pub at : slice_get e.nodes k ≡ Some node
  pub live : is_live e k ≡ true
  pub argument : has_argument node j ≡ true
