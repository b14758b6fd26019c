-- The meaning of an expression: a whole number for each node and each index, by its operators alone.
use Rattle.std.specs.Prelude.{◌≡◌, ◌<◌, ℕ, ◌+◌, ◌==◌, ℤ, pos, List, [], ◌∷◌, if◌then◌else◌}
use Rattle.cu_form.specs.Expression.{Expression}
use Rattle.cu_form.specs.declared.expr.Node.{Node}
use Rattle.cu_node.specs.declared.info.NodeInfo.{NodeInfo}
use Rattle.cu_semantics.specs.Argument.{NodeElements}
use Rattle.cu_semantics.specs.Rule.{node_element}

-- the elements, with those of one more node
abbrev pub with_node : ℕ → (List ℕ → ℤ) → NodeElements → NodeElements
with_node k element at n = if n == k then element else at n

-- the elements after nodes that are numbered from k on
abbrev pub meaning_after : List NodeInfo → NodeElements → List Node → ℕ → NodeElements → NodeElements
meaning_after infos env [] k at = at
meaning_after infos env (node ∷ nodes) k at = meaning_after infos env nodes (k + 1) (with_node k (node_element infos env at k node.form) at)

-- of no node
abbrev pub no_elements : NodeElements
no_elements n idx = pos 0

-- The elements of an expression's nodes, where `infos` are the types and shapes of its nodes and `env` has the elements of its inputs.
abbrev pub meaning_of : Expression → List NodeInfo → NodeElements → NodeElements
meaning_of e infos env = meaning_after infos env e.nodes 0 no_elements

-- the elements of the nodes before number k agree
abbrev pub AgreeBelow : ℕ → NodeElements → NodeElements → Type 0
AgreeBelow k at other = (n : ℕ) (idx : List ℕ) → n < k → at n idx ≡ other n idx
