use Rattle.std.proofs.Common.{◌-◌, length}
use Rattle.std.specs.Prelude.{slice_index, if◌then◌else◌}
use Rattle.cu_semantics.specs.Index.{is_named}
use Rattle.cu_mean.proofs.Steps.{pushed}
use Rattle.cu_mean.proofs.views.flipped.Goals as goal

pub loop-axis-preserved : goal.loop-axis-preserved
loop-axis-preserved c =
    let r = pushed (λ d. if is_named (length c.args.shape.now) c.args.axes.now d then slice_index c.args.shape.now d - 1 - slice_index c.args.idx.now d else slice_index c.args.idx.now d)
    c.loop-axis.read c.push.new.self c.loop-axis.axis c.flipped_on.result c.loop-axis.invariant.count c.loop-axis.invariant.read c.flipped_on.ensures c.push.ensures in
    record { count = r.0; read = r.1 }
