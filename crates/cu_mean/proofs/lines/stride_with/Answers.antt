use Rattle.std.proofs.Common.{sym, ◌∙◌}
use Rattle.cu_mean.proofs.Evenly.{one_even}
use Rattle.cu_mean.proofs.lines.stride_with.Goals as goal

pub returns-then-behind-eq1 : goal.returns-then-behind-eq1
returns-then-behind-eq1 c size start ds is ns fits span =
    one_even size start c.args.count ds is ns c.args.behind.stride c.args.behind.array fits span.even (sym span.count ∙ c.if-behind-eq1.true) (sym span.array)
