use Rattle.std.proofs.Common.{◌≡◌, ◌*◌, ap, ◌∙◌, sym, arith}
use Rattle.cu_num.specs.Dtype.{size_of}
use Rattle.cu_shape.specs.Index.{product}
use Rattle.cu_check.proofs.WholeRegion.{is_region, whole_sizes, is_placed}
use Rattle.cu_check.proofs.chunks.place_chunk.Goals as goal

pub take_part-requires-clause-region : goal.take_part-requires-clause-region
take_part-requires-clause-region c = rw (c.difference.ensures, c.shape-shape.ensures.value) (is_region c.args.layout.now.grid.shape)

pub take_part-requires-clause-out_length : goal.take_part-requires-clause-out_length
take_part-requires-clause-out_length c =
    let wide : c.from.result ≡ size_of c.args.layout.now.dtype = omega arith in
    rw (c.difference.ensures, c.shape-shape.ensures.value, wide) (c.requires.all_length ∙ ap (λ sizes. product sizes * size_of c.args.layout.now.dtype) (sym (whole_sizes c.args.layout.now.grid.shape)))

pub returns : goal.returns
returns c =
    let wide : c.from.result ≡ size_of c.args.layout.now.dtype = omega arith in
    is_placed c.args.layout.now c.args.coord.now c.args.chunk.now c.args.all.now c.take_part.new.out (rw (wide, c.difference.ensures, c.shape-shape.ensures.value) at c.take_part.ensures.taken)
