use Rattle.std.proofs.Common.{ℕ, min, ap, ◌∙◌}
use Rattle.std.specs.Int.{div_ceil}
use Rattle.cu_view_box.proofs.Intervals.{downward_interval}
use Rattle.cu_view_box.proofs.way.downward.Goals as goal

pub returns-clause-exact : goal.returns-clause-exact
returns-clause-exact c = λ t.
    downward_interval c.args.first c.args.step c.args.extent c.args.low c.args.high c.below_extent.result.from c.below_extent.result.to t c.requires.step c.requires.inside
    (c.below_extent.ensures.from ∙ ap (λ (n : ℕ). min n c.args.extent) (c.div_ceil-from.ensures ∙ ap (λ (n : ℕ). div_ceil n c.args.step) c.saturating_sub.ensures))
    (c.below_extent.ensures.to ∙ ap (λ (n : ℕ). min n c.args.extent) (c.div_ceil-to.ensures ∙ ap (λ (n : ℕ). div_ceil n c.args.step) c.saturating_sub-2.ensures))
