use Rattle.std.proofs.Math.ListN.{set}
use Rattle.std.proofs.lemmas.List.{get_or_read}
use Rattle.cu_fuse.specs.Choosing.{plan_view}
use Rattle.cu_op.specs.Arrays.{no_array}
use Rattle.cu_fuse.proofs.choice.Choice.set_prefix.Goals as goal

pub returns : goal.returns
returns c =
    let p = plan_view c.args.self.now in
    let was = get_or_read p.arrays c.args.a c.index_mut.result.now c.requires c.index_mut.ensures.value no_array in
    λ i. record p { arrays = set p.arrays c.args.a (record (was i) { prefix = c.args.prefix }) }
