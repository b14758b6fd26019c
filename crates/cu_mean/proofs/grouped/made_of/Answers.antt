use Rattle.std.proofs.Common.{ap, ◌∙◌, rules}
use Rattle.std.specs.Int.{w128}
use Rattle.std.proofs.lemmas.Int.{to_z-of_z}
use Rattle.cu_num.specs.Wrap.{wrapped}
use Rattle.cu_mean.proofs.LabelledPlaces.{some_made}
use Rattle.cu_mean.proofs.grouped.made_of.Goals as goal

pub returns-else-members : goal.returns-else-members
returns-else-members c xs h =
    to_z-of_z w128 c.wrap-else-members.result (record { sfits = c.wrap-else-members.type_inv })
    ∙ c.wrap-else-members.ensures.value
    ∙ ap (wrapped c.args.t) (to_z-of_z w128 c.args.members.kept (search rules) ∙ h.0)
    ∙ some_made c.args.kind c.args.t xs c.args.members.none c.if-members.false h.1
