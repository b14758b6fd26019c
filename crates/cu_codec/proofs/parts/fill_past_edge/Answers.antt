use Rattle.std.proofs.Common.{◌≤◌, ◌*◌, suc, ap, ◌∙◌, arith, rules}
use Rattle.std.proofs.lemmas.Nat.{mul-le}
use Rattle.std.proofs.lemmas.Int.{to_z-of_z}
use Rattle.std.specs.Int.{w128}
use Rattle.cu_num.specs.Dtype.{size_of}
use Rattle.cu_num.specs.Element.{element_bytes}
use Rattle.cu_num.specs.declared.layout.Endian.TheVariants.{Little}
use Rattle.cu_shape.specs.Index.{product}
use Rattle.cu_codec.specs.Parts.{IsWholeChunk}
use Rattle.cu_codec.proofs.OneChunk.{no_fill}
use Rattle.cu_codec.proofs.parts.fill_past_edge.Goals as goal

pub returns-then-not-is_one_chunk-clause-filled : goal.returns-then-not-is_one_chunk-clause-filled
returns-then-not-is_one_chunk-clause-filled c p below outside =
    let far : suc p * size_of c.args.t ≤ product c.args.grid.now.chunk * size_of c.args.t = mul-le (suc p) (size_of c.args.t) (product c.args.grid.now.chunk) (size_of c.args.t) below (omega arith) in
    c.fill_with.ensures p (omega (arith, c.requires.chunk_length)) ∙ ap (element_bytes Little c.args.t) (to_z-of_z w128 c.args.fill c.ranges.fill)

pub returns-else-not-is_one_chunk-clause-filled : goal.returns-else-not-is_one_chunk-clause-filled
returns-else-not-is_one_chunk-clause-filled c =
    let one : IsWholeChunk c.args.grid.now.chunk c.args.coord.now c.chunk_region.result.lo c.chunk_region.result.hi = c.is_one_chunk.ensures.0 (search rules) in
    no_fill c.args.grid.now c.args.coord.now c.chunk_region.result.lo c.chunk_region.result.hi c.chunk_region.ensures.kept c.requires.coordinate c.chunk_region.ensures.inside one
    c.args.t c.args.fill c.args.chunk.now
