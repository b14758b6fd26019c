use Rattle.std.proofs.Common.{◌≡◌, ◌≤◌, length, map, take, drop, get_or, ap, ◌∙◌, arith}
use Rattle.cu_lower_view.specs.Runs.{whole_run}
use Rattle.cu_lower_view.proofs.Loops.{wholes_more, wholes_full, told_none}
use Rattle.cu_lower_view.proofs.entries.with_whole.Goals as goal

pub returns-in_err-runs-clause-full : goal.returns-in_err-runs-clause-full
returns-in_err-runs-clause-full c =
    let within : c.min-end.result ≤ length c.args.sizes.now = omega (arith, c.min-end.ensures, c.rank-rank.ensures.rank) in
    told_none _ _ (wholes_full c.args.runs.items c.loop-axis.runs.items (map whole_run (take c.args.count (drop c.args.first c.args.sizes.now))) c.loop-axis.axis c.min-end.result c.args.sizes.now c.loop-axis-test.true within c.loop-axis.invariant.whole c.in_err-runs.ensures.full)

pub loop-axis-preserved : goal.loop-axis-preserved
loop-axis-preserved c =
    let within : c.min-end.result ≤ length c.args.sizes.now = omega (arith, c.min-end.ensures, c.rank-rank.ensures.rank) in
    let one : c.whole_run.result ≡ whole_run (get_or c.args.sizes.now c.loop-axis.axis 0) = c.whole_run.ensures ∙ ap whole_run c.at.ensures in
    record {
      whole = wholes_more _ _ _ _ c.loop-axis.axis c.min-end.result c.args.sizes.now c.loop-axis-test.true within c.loop-axis.invariant.whole one c.in_ok-runs.ensures.more;
    }
