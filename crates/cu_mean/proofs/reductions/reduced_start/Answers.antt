use Rattle.std.specs.Prelude.{slice_index, if◌then◌else◌}
use Rattle.cu_mean.specs.Axes.{axes_in}
use Rattle.cu_semantics.specs.Index.{is_named}
use Rattle.cu_semantics.specs.Reduction.{kept_before}
use Rattle.cu_mean.proofs.Steps.{pushed}
use Rattle.cu_mean.proofs.reductions.reduced_start.Goals as goal

pub loop-axis-preserved : goal.loop-axis-preserved
loop-axis-preserved c =
    let r = pushed (λ d. if is_named c.args.rank (axes_in c.args.axes.now) d then 0 else slice_index c.args.idx.now (if c.args.keepdims then d else kept_before c.args.rank (axes_in c.args.axes.now) d))
    c.loop-axis.start c.push.new.self c.loop-axis.axis c.first_on.result c.loop-axis.invariant.count c.loop-axis.invariant.start c.first_on.ensures c.push.ensures in
    record { count = r.0; start = r.1 }
