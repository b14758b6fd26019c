use Rattle.std.proofs.Common.{◌-◌, ap, ◌∙◌}
use Rattle.cu_view_box.proofs.Boxes.{narrowed_exactly}
use Rattle.cu_view_box.proofs.shared.narrowed_on.Goals as goal

pub returns-clause-exact : goal.returns-clause-exact
returns-clause-exact c = λ idx.
    narrowed_exactly c.args.way.now c.args.region.now.lo c.args.region.now.hi c.args.base.now.lo c.args.base.now.hi idx c.cut.result.lo c.cut.result.hi c.args.axis
    c.args.low c.args.high c.read_within-interval.result.from c.read_within-interval.result.to c.saturating_sub-extent.result c.at-first.result
    c.requires.axis c.at-first.ensures (c.saturating_sub-extent.ensures ∙ ap (λ n. n - c.at-first.result) c.at.ensures)
    (c.requires.inside idx) (c.cut.ensures.exact idx) c.read_within-interval.ensures.exact
