use Rattle.cu_fuse.specs.Choosing.{plan_view}
use Rattle.cu_fuse.proofs.Flagged.{set_flag}
use Rattle.cu_fuse.proofs.choice.Choice.inline_array.Goals as goal

pub returns : goal.returns
returns c =
    let p = plan_view c.args.self.now in
    let arrays = set_flag p c.args.a c.index_mut.result.now c.requires c.index_mut.ensures.value in
    λ i. record p { arrays = arrays i }
