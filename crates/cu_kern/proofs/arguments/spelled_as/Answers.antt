use Rattle.std.proofs.Common.{◌≤◌, ap, ◌∙◌, arith}
use Rattle.cu_num.specs.Dtype.{size_of}
use Rattle.cu_num.specs.Element.{element_at}
use Rattle.cu_num.specs.Wrap.{wrapped}
use Rattle.cu_num.specs.declared.layout.Endian.TheVariants.{Little}
use Rattle.cu_num.proofs.ElementBytes.{element_at-written_at_same}
use Rattle.cu_num.proofs.Wrapped.{wrapped_in_range}
use Rattle.cu_lane.proofs.Words.{kept}
use Rattle.cu_kern.proofs.Parts.{size_most}
use Rattle.cu_kern.proofs.arguments.spelled_as.Goals as goal

pub returns : goal.returns
returns c range =
    let most : size_of c.args.t ≤ 8 = size_most c.args.t in
    ap (λ bytes. element_at Little c.args.t bytes 0) c.save.ensures
    ∙ element_at-written_at_same Little c.args.t _ 0 _ (omega arith)
    ∙ ap (wrapped c.args.t) (kept c.args.x c.ranges.x)
    ∙ wrapped_in_range c.args.t c.args.x range
