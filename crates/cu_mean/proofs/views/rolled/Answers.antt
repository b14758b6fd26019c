use Rattle.std.proofs.Common.{pos, length}
use Rattle.std.specs.Prelude.{◌-ℤ◌, slice_index}
use Rattle.std.specs.Int.{int_rem_euclid}
use Rattle.cu_semantics.specs.Index.{natural}
use Rattle.cu_semantics.specs.View.{shift_on}
use Rattle.cu_mean.proofs.Steps.{pushed}
use Rattle.cu_mean.proofs.views.rolled.Goals as goal

pub loop-axis-preserved : goal.loop-axis-preserved
loop-axis-preserved c =
    let r = pushed (λ d. natural (int_rem_euclid (pos (slice_index c.args.idx.now d) -ℤ shift_on (length c.args.shape.now) c.args.shifts.now c.args.axes.now d) (pos (slice_index c.args.shape.now d))))
    c.loop-axis.read c.push.new.self c.loop-axis.axis c.rolled_at.result c.loop-axis.invariant.count c.loop-axis.invariant.read c.rolled_at.ensures c.push.ensures in
    record { count = r.0; read = r.1 }
