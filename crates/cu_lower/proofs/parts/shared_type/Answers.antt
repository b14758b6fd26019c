use Rattle.std.proofs.Common.{◌∙◌}
use Rattle.cu_lower.proofs.BoundedTypes.{clip_alone}
use Rattle.cu_lower.proofs.parts.shared_type.Goals as goal

pub returns-in-Clip-len1 : goal.returns-in-Clip-len1
returns-in-Clip-len1 c =
    c.array_type-in-Clip-len1.ensures
    ∙ clip_alone c.args.infos.now c.args.op c.args.args.now _ _ _ c.in-Clip-len1.is-0 c.in-Clip-len1.len_at_least c.in-Clip-len1.len_below c.requires
