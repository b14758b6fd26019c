use Rattle.std.proofs.Math.ListN.{set}
use Rattle.std.proofs.lemmas.List.{get_or_read}
use Rattle.cu_fuse.specs.Choosing.{plan_view}
use Rattle.cu_op.specs.PlanView.{no_operation}
use Rattle.cu_fuse.proofs.choice.Choice.set_projected.Goals as goal

pub returns : goal.returns
returns c =
    let p = plan_view c.args.self.now in
    let was = get_or_read p.ops c.args.k c.index_mut.result.now c.requires c.index_mut.ensures.value no_operation in
    λ i. record p { ops = set p.ops c.args.k (record (was i) { projected = c.args.projected }) }
