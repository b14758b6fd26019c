-- Each node needs the reserved bytes at least.
use Rattle.std.proofs.Common.{ℕ, ◌≤◌, List, arith}
use Rattle.cu_form.specs.declared.form.Form.{Form}
use Rattle.cu_node.specs.declared.info.NodeInfo.{NodeInfo}
use Rattle.cu_need.specs.Need.{need_of, own_need}
use Rattle.cu_need.proofs.Outlined.{table_most}

pub node_need : (infos : List NodeInfo) (reserved split_every out k : ℕ) (f : Form) → reserved ≤ need_of reserved split_every infos out k f
node_need infos reserved split_every out k f =
    let own = table_most reserved split_every k infos f in
    let most : own_need reserved split_every infos k f ≤ need_of reserved split_every infos out k f = omega arith in
    omega (arith, own, most)
