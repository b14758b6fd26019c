-- The outline of a node (this project's own rule): what it makes besides copies, and the memory of a task. Its tasks, its stored chunks and
-- its need follow.
use Rattle.std.specs.Prelude.{ℕ, List}
use Rattle.cu_form.specs.declared.form.Form.{Form}
use Rattle.cu_node.specs.Info.{info_at}
use Rattle.cu_node.specs.declared.info.NodeInfo.{NodeInfo}
use Rattle.cu_tree.specs.declared.outline.Outlined.{Outlined}
use Rattle.cu_need.specs.Cost.{cost_of}

-- of node k, besides copies, where a task merges `split_every` partial results
abbrev pub outline_of : ℕ → List NodeInfo → ℕ → Form → List Outlined
outline_of split_every infos k form = (cost_of form).outline infos (info_at infos k) split_every
