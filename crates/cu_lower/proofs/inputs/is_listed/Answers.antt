use Rattle.std.proofs.Common.{ap, ◌∙◌, length}
use Rattle.std.specs.Prelude.{nat_lt}
use Rattle.cu_lower.proofs.InputNames.{listed_by_place}
use Rattle.cu_lower.proofs.inputs.is_listed.Goals as goal

pub returns : goal.returns
returns c = ap (λ n. nat_lt n (length c.args.names.now)) c.place_of.ensures.place ∙ listed_by_place c.args.name.now c.args.names.now
