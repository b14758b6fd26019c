use Rattle.std.proofs.Common.{pos}
use Rattle.std.specs.Prelude.{slice_index}
use Rattle.std.specs.List.{position_or_len}
use Rattle.std.specs.Ordering.{int_eq}
use Rattle.cu_mean.proofs.Steps.{pushed}
use Rattle.cu_mean.proofs.views.permuted.Goals as goal

pub loop-axis-preserved : goal.loop-axis-preserved
loop-axis-preserved c =
    let r = pushed (λ d. slice_index c.args.idx.now (position_or_len (λ axis. int_eq axis (pos d)) c.args.axes.now)) c.loop-axis.read c.push.new.self c.loop-axis.axis c.permuted_on.result
    c.loop-axis.invariant.count c.loop-axis.invariant.read c.permuted_on.ensures c.push.ensures in
    record { count = r.0; read = r.1 }
