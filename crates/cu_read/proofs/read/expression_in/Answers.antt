use Rattle.std.proofs.Common.{arith}
use Rattle.serde_json.specs.View.{view, items_view}
use Rattle.cu_read.proofs.NodesRead.{top_within}
use Rattle.cu_read.proofs.read.expression_in.Goals as goal

pub listed_in-requires : goal.listed_in-requires
listed_in-requires c =
    let few = c.requires in
    let within = top_within (view c.args.value.now) (items_view c.in_ok-items.items.now.items) c.in_ok-items.ensures in
    omega arith
