use Rattle.std.proofs.Common.{◌≡◌, ◌*◌, length, ap, ◌∙◌, arith, rules}
use Rattle.std.proofs.lemmas.List.{length-take-le}
use Rattle.cu_num.specs.Dtype.{size_of}
use Rattle.cu_shape.specs.Index.{product}
use Rattle.cu_codec.specs.Parts.{IsWholeChunk}
use Rattle.cu_codec.proofs.OneChunk.{one_chunk_differences}
use Rattle.cu_region.specs.Reading.{bytes_of}
use Rattle.cu_region.proofs.StoredReads.{on_ok_then, reads_part, reads_whole}
use Rattle.cu_region.proofs.read.read_part.Goals as goal

pub read_bytes-requires-clause-within : goal.read_bytes-requires-clause-within
read_bytes-requires-clause-within g c =
    let one : IsWholeChunk c.args.part.now.info.now.layout.grid.chunk c.args.part.now.coord c.args.part.now.region.now.lo c.args.part.now.region.now.hi = c.is_one_chunk.ensures.0 (search rules) in
    let sized = c.requires.out_length ∙ ap (λ x. product x * size_of c.args.part.now.info.now.layout.dtype)
    (one_chunk_differences c.args.part.now.info.now.layout.grid c.args.part.now.coord c.args.part.now.region.now.lo c.args.part.now.region.now.hi c.requires.part.grid c.requires.part.meets.0 c.requires.part.region one) in
    omega arith

pub returns-then-is_one_chunk-clause-part : goal.returns-then-is_one_chunk-clause-part
returns-then-is_one_chunk-clause-part g c =
    let one : IsWholeChunk c.args.part.now.info.now.layout.grid.chunk c.args.part.now.coord c.args.part.now.region.now.lo c.args.part.now.region.now.hi = c.is_one_chunk.ensures.0 (search rules) in
    let sized = c.requires.out_length ∙ ap (λ x. product x * size_of c.args.part.now.info.now.layout.dtype)
    (one_chunk_differences c.args.part.now.info.now.layout.grid c.args.part.now.coord c.args.part.now.region.now.lo c.args.part.now.region.now.hi c.requires.part.grid c.requires.part.meets.0 c.requires.part.region one) in
    let long : length c.read_bytes.new.buf ≡ bytes_of c.args.part.now.info.now.layout = omega arith in
    on_ok_then c.read_bytes.result
    (λ read. reads_whole c.args.part.now.info.now c.args.part.now.coord c.args.part.now.region.now c.args.out.now c.read_bytes.new.buf (g.C.Chunks.shown c.read_bytes.new.access).held
    c.requires.part.grid c.requires.part.region c.requires.part.meets.0 one read long c.requires.part.fill)
    (rw c.chunk_key-key.ensures at c.read_bytes.ensures.read)

pub returns-clause-part : goal.returns-clause-part
returns-clause-part g c =
    let wide : c.from.result ≡ size_of c.args.part.now.info.now.layout.dtype = omega arith in
    let took = rw wide at c.take_part.ensures.taken in
    let cut = length-take-le c.chunk_bytes.result c.args.scratch.now (omega arith) in
    let long : length c.fetch.new.buf ≡ bytes_of c.args.part.now.info.now.layout = omega arith in
    let read = rw c.chunk_key-key.ensures at c.in_ok-order.ensures.fetched in
    reads_part c.args.part.now.info.now c.in_ok-order.order c.args.part.now.coord c.args.part.now.region.now c.fetch.new.buf c.args.out.now c.take_part.new.out (g.C.Chunks.shown c.fetch.new.access).held
    c.requires.part.grid c.requires.part.region read long c.requires.part.fill took
