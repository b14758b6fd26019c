use Rattle.std.proofs.Common.{◌≡◌, arith}
use Rattle.cu_num.specs.Dtype.{size_of}
use Rattle.cu_region.proofs.StoredReads.{front_from_raw}
use Rattle.cu_region.proofs.read.read_bytes.Goals as goal

pub returns-clause-read : goal.returns-clause-read
returns-clause-read g c =
    let wide : c.from.result ≡ size_of c.args.layout.now.dtype = omega arith in
    let order = rw wide at c.reorder.ensures in
    front_from_raw c.args.layout.now (g.C.Chunks.shown c.fetch.new.access).held c.args.key.now c.in_ok-order.order c.fetch.new.buf c.reorder.new.bytes c.in_ok-order.ensures.fetched order
