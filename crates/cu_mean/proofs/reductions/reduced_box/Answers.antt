use Rattle.std.proofs.Common.{length}
use Rattle.std.specs.Prelude.{slice_index, if◌then◌else◌}
use Rattle.cu_mean.specs.Axes.{axes_in}
use Rattle.cu_semantics.specs.Index.{is_named}
use Rattle.cu_mean.proofs.Steps.{pushed}
use Rattle.cu_mean.proofs.reductions.reduced_box.Goals as goal

pub loop-axis-preserved : goal.loop-axis-preserved
loop-axis-preserved c =
    let r = pushed (λ d. if is_named (length c.args.shape.now) (axes_in c.args.axes.now) d then slice_index c.args.shape.now d else 1) c.loop-axis.sizes c.push.new.self c.loop-axis.axis c.size_on.result
    c.loop-axis.invariant.count c.loop-axis.invariant.sizes c.size_on.ensures c.push.ensures in
    record { count = r.0; sizes = r.1 }
