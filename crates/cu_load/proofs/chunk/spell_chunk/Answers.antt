use Rattle.std.proofs.Common.{◌*◌, ap, ◌∙◌, arith, rules}
use Rattle.std.proofs.lemmas.Int.{to_z-of_z}
use Rattle.std.specs.Int.{w128}
use Rattle.std.specs.Prelude.{FitsSigned}
use Rattle.cu_num.specs.Dtype.{size_of}
use Rattle.cu_load.specs.LoadForm.{given_by}
use Rattle.cu_load.proofs.ChunkLemmas.{whole_chunk, whole_region, whole_sizes, laid_value}
use Rattle.cu_load.proofs.chunk.spell_chunk.Goals as goal

pub lay_part-requires-clause-region : goal.lay_part-requires-clause-region
lay_part-requires-clause-region c =
    whole_region c.args.form.now.layout.grid.shape c.whole_region-region.result.lo c.whole_region-region.result.hi c.whole_region-region.ensures.lo c.whole_region-region.ensures.hi

pub lay_part-requires-clause-whole : goal.lay_part-requires-clause-whole
lay_part-requires-clause-whole c =
    whole_chunk c.args.form.now.layout.grid c.args.coord.now c.whole_region-region.result.lo c.whole_region-region.result.hi c.whole_region-region.ensures.kept c.requires.coordinate c.whole_region-region.ensures.lo c.whole_region-region.ensures.hi

pub lay_part-requires-clause-input_length : goal.lay_part-requires-clause-input_length
lay_part-requires-clause-input_length c =
    rw (whole_sizes c.args.form.now.layout.grid.shape c.whole_region-region.result.lo c.whole_region-region.result.hi c.whole_region-region.ensures.lo c.whole_region-region.ensures.hi)
    (c.requires.input.long ∙ ap (λ n. n * size_of c.args.form.now.layout.dtype) c.requires.given.count)

pub returns : goal.returns
returns c =
    let fits : FitsSigned w128 c.args.form.now.layout.fill = search rules in
    let laid = rw (to_z-of_z w128 c.args.form.now.layout.fill fits) at c.lay_part.ensures.laid in
    laid_value (given_by c.args.form.now) c.args.coord.now c.whole_region-region.result.lo c.whole_region-region.result.hi c.args.input.now c.lay_part.new.chunk
    c.requires.given c.requires.input c.whole_region-region.ensures.lo c.whole_region-region.ensures.hi laid (omega arith)
