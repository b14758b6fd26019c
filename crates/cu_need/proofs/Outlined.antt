-- The table of needs has the greatest need of each outline.
use Rattle.std.proofs.Common.{◌≡◌, ℕ, ◌+◌, List}
use Rattle.cu_form.specs.declared.form.Form.{Form}
use Rattle.cu_node.specs.Info.{info_at}
use Rattle.cu_node.specs.declared.info.NodeInfo.{NodeInfo}
use Rattle.cu_tree.specs.Outlines.{outline_bytes}
use Rattle.cu_need.specs.Need.{own_need}
use Rattle.cu_need.specs.Outline.{outline_of}
use Rattle.cu_need.proofs.CostLaws.{laws_of}

pub table_most : (reserved split_every k : ℕ) (infos : List NodeInfo) (form : Form) → own_need reserved split_every infos k form ≡ reserved + outline_bytes (outline_of split_every infos k form)
table_most reserved split_every k infos form = (laws_of form).most infos (info_at infos k) reserved split_every
