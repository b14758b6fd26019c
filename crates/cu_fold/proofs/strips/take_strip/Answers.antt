use Rattle.std.proofs.Common.{◌*◌, take, sym, ap, ◌∙◌}
use Rattle.cu_num.specs.Dtype.{size_of}
use Rattle.cu_origin.specs.Pull.{has_axis}
use Rattle.cu_fold.proofs.Groups.{extent_is, results_is}
use Rattle.cu_fold.proofs.StripsTaken.{strip_taken}
use Rattle.cu_fold.proofs.strips.take_strip.Goals as goal

pub take_part-requires-clause-whole : goal.take_part-requires-clause-whole
take_part-requires-clause-whole c =
    c.product-whole.ensures ∙ sym (c.levels_of-levels.ensures.levels.same_extent ∙ extent_is (has_axis c.args.fold.now.axes) 0 c.args.fold.now.dims)

pub take_part-requires-clause-out : goal.take_part-requires-clause-out
take_part-requires-clause-out c =
    c.requires.out
    ∙ ap (λ r. r * size_of c.args.fold.now.acc) (sym (c.levels_of-levels.ensures.levels.same_results ∙ results_is (has_axis c.args.fold.now.axes) 0 c.args.fold.now.dims))

pub returns : goal.returns
returns c at agrees has =
    strip_taken c.args.fold.now (take c.levels_of-levels.result.count c.levels_of-levels.result.list) c.args.start c.args.count c.args.input.now c.args.out.now c.take_part.new.out at
    c.levels_of-levels.ensures.levels c.requires.places c.take_part.ensures agrees has
