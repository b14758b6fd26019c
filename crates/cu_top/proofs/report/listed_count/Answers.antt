use Rattle.std.proofs.Common.{◌∙◌, List, ap, length, sym}
use Rattle.cu_op.specs.Within.{listed_number}
use Rattle.cu_op.specs.declared.operation.Planned.{Planned}
use Rattle.cu_top.proofs.InnerNumbers.{count_is}
use Rattle.cu_top.proofs.report.listed_count.Goals as goal

pub returns : goal.returns
returns c =
    let p = c.args.plan.now in
    c.from.ensures ∙ c.listed_number.ensures ∙ ap (λ (os : List Planned). listed_number p (length os)) c.ops.ensures.ops ∙ sym (count_is p)
