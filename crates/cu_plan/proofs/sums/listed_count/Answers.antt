use Rattle.std.proofs.Common.{◌∙◌, List, ap, length, sym}
use Rattle.std.proofs.lemmas.List.Sums.{length-filter}
use Rattle.std.specs.List.{range_with_len}
use Rattle.cu_op.specs.Within.{is_listed, listed_number}
use Rattle.cu_op.specs.declared.operation.Planned.{Planned}
use Rattle.cu_plan.proofs.sums.listed_count.Goals as goal

pub returns : goal.returns
returns c =
    let p = c.args.plan.now in
    c.from.ensures ∙ c.listed_number.ensures ∙ ap (λ (os : List Planned). listed_number p (length os)) c.ops.ensures.ops
    ∙ sym (length-filter (is_listed p) (range_with_len 0 (length p.ops)))
