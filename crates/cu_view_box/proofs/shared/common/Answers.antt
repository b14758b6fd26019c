use Rattle.std.proofs.Common.{◌≡◌, length, arith}
use Rattle.cu_view_box.proofs.Boxes.{in_both, each_axis}
use Rattle.cu_view_box.proofs.shared.common.Goals as goal

pub returns-clause-exact : goal.returns-clause-exact
returns-clause-exact c = λ idx.
    let a = c.args.a.now in
    let b = c.args.b.now in
    let kept = c.loop-axis.invariant.exact idx in
    let end : c.loop-axis.axis ≡ length c.args.a.now.lo = omega arith in
    let lo = c.requires.lo_rank in (
      λ w. (let p = kept.0 w in (p.0, in_both a.lo a.hi b.lo b.hi idx c.loop-axis.axis end c.requires.lo_rank c.requires.hi_rank p.0 p.1)),
      λ p. kept.1 (p.0, each_axis b.lo b.hi idx c.loop-axis.axis (omega arith) p.1),
    )
