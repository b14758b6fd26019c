-- The input arrays of a plan: one for each name that a live input node uses (this project's own rule).
use Rattle.std.specs.Prelude.{ℕ, ◌+◌, Bool, false, List, [], ◌∷◌, ◌++◌, map, None, bytes_eq, if◌then◌else◌}
use Rattle.std.specs.List.{list_any, position_or_len}
use Rattle.cu_op.specs.declared.layout.ArrayInfo.{ArrayInfo}
use Rattle.cu_form.specs.Expression.{Expression}
use Rattle.cu_form.specs.declared.expr.Node.{Node}
use Rattle.cu_form.specs.declared.form.Form.{Form}
use Rattle.cu_expr.specs.declared.inputs.InputInfo.{InputInfo}
use Rattle.cu_need.specs.Live.{is_live}
use Rattle.cu_expr.specs.Inputs.{layout_named}

abbrev pub input_array : List InputInfo → List ℕ → ArrayInfo
input_array inputs name = record { prefix = name; layout = layout_named inputs name; maker = None; inlined = false }

-- the names with that of an input node, which is added behind them where it isn't among them
abbrev pub with_name : List (List ℕ) → Form → List (List ℕ)
with_name names (Form.Input name) = if list_any (bytes_eq name) names then names else names ++ name ∷ []
with_name names form = names

-- the names with those that live nodes use, where the first of the nodes has number k
abbrev pub names_after : (ℕ → Bool) → ℕ → List Node → List (List ℕ) → List (List ℕ)
names_after live k [] names = names
names_after live k (n ∷ ns) names = names_after live (k + 1) ns (if live k then with_name names n.form else names)

-- the names that live input nodes use, each once, in the order of these nodes
abbrev pub input_names : Expression → List (List ℕ)
input_names e = names_after (is_live e) 0 e.nodes []

abbrev pub input_arrays : Expression → List InputInfo → List ArrayInfo
input_arrays e inputs = map (input_array inputs) (input_names e)

-- the number of the input array with this name
abbrev pub input_place : Expression → List ℕ → ℕ
input_place e name = position_or_len (bytes_eq name) (input_names e)
