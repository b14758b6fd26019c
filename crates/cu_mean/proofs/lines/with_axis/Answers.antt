use Rattle.std.proofs.Common.{◌+◌, ◌*◌, ◌≤◌, ap, ◌∙◌, arith}
use Rattle.cu_mean.proofs.lines.with_axis.Goals as goal

pub returns : goal.returns
returns c ds is ns span =
    let fits : c.args.start + c.args.count ≤ c.args.size = omega arith in
    record {
      first = c.in_ok-first.ensures.1 ∙ ap (λ n. n + c.args.behind.first) c.in_ok-before.ensures.1 ∙ (λ i. c.args.start * span.array i + span.first i);
      array = c.in_ok-array.ensures.1 ∙ ap (λ n. c.args.size * n) span.array;
      count = c.in_ok-count.ensures.1 ∙ ap (λ n. c.args.count * n) span.count;
      even = c.in_ok-stride.ensures c.args.size c.args.start ds is ns fits span;
    }
