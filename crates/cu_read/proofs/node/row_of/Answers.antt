use Rattle.std.proofs.Common.{sym, ◌∙◌}
use Rattle.cu_read.proofs.Families.{known, unknown}
use Rattle.cu_read.proofs.node.row_of.Goals as goal

pub returns-in-Some : goal.returns-in-Some
returns-in-Some c = known c.creation_row.result c.in-Some.row _ _ c.creation_row.ensures (sym c.if_known.ensures ∙ c.in-Some.is)

pub returns-in-Some-if_known : goal.returns-in-Some-if_known
returns-in-Some-if_known c =
    unknown c.creation_row.result _ _ _ c.creation_row.ensures (sym c.if_known.ensures ∙ c.in_default.is)
    (known c.elementwise_row.result c.in-Some-if_known.row _ _ c.elementwise_row.ensures (sym c.if_known-2.ensures ∙ c.in-Some-if_known.is))

pub returns-in-Some-if_known-2 : goal.returns-in-Some-if_known-2
returns-in-Some-if_known-2 c =
    unknown c.creation_row.result _ _ _ c.creation_row.ensures (sym c.if_known.ensures ∙ c.in_default.is)
    (unknown c.elementwise_row.result _ _ _ c.elementwise_row.ensures (sym c.if_known-2.ensures ∙ c.in_default-if_known.is)
    (known c.view_row.result c.in-Some-if_known-2.row _ _ c.view_row.ensures (sym c.if_known-3.ensures ∙ c.in-Some-if_known-2.is)))

pub returns-in-Some-if_known-3 : goal.returns-in-Some-if_known-3
returns-in-Some-if_known-3 c =
    unknown c.creation_row.result _ _ _ c.creation_row.ensures (sym c.if_known.ensures ∙ c.in_default.is)
    (unknown c.elementwise_row.result _ _ _ c.elementwise_row.ensures (sym c.if_known-2.ensures ∙ c.in_default-if_known.is)
    (unknown c.view_row.result _ _ _ c.view_row.ensures (sym c.if_known-3.ensures ∙ c.in_default-if_known-2.is)
    (known c.reduction_row.result c.in-Some-if_known-3.row _ _ c.reduction_row.ensures (sym c.if_known-4.ensures ∙ c.in-Some-if_known-3.is))))

pub returns : goal.returns
returns c =
    unknown c.creation_row.result _ _ _ c.creation_row.ensures (sym c.if_known.ensures ∙ c.in_default.is)
    (unknown c.elementwise_row.result _ _ _ c.elementwise_row.ensures (sym c.if_known-2.ensures ∙ c.in_default-if_known.is)
    (unknown c.view_row.result _ _ _ c.view_row.ensures (sym c.if_known-3.ensures ∙ c.in_default-if_known-2.is)
    (unknown c.reduction_row.result _ _ _ c.reduction_row.ensures (sym c.if_known-4.ensures ∙ c.in_default-if_known-3.is) c.new_shape_row.ensures)))
