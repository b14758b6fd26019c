use Rattle.std.proofs.Common.{◌/◌, sym, subst}
use Rattle.cu_shape.specs.Index.{product}
use Rattle.cu_rechunk.specs.Tiles.{Tiles}
use Rattle.cu_rechunk.proofs.Copies.{fits_of, planned, tiles_of}
use Rattle.cu_rechunk.proofs.staging.stages.Goals as goal

pub stages_in-requires-clause-source_fits : goal.stages_in-requires-clause-source_fits
stages_in-requires-clause-source_fits c =
    (fits_of (product c.args.source.now) (product c.args.target.now) c.args.item c.args.max_mem c.greater_bytes-bytes.result c.requires.some c.greater_bytes-bytes.ensures c.if-bytes-max_mem.false).0

pub stages_in-requires-clause-target_fits : goal.stages_in-requires-clause-target_fits
stages_in-requires-clause-target_fits c =
    (fits_of (product c.args.source.now) (product c.args.target.now) c.args.item c.args.max_mem c.greater_bytes-bytes.result c.requires.some c.greater_bytes-bytes.ensures c.if-bytes-max_mem.false).1

pub returns-clause-tiles : goal.returns-clause-tiles
returns-clause-tiles c =
    let f = fits_of (product c.args.source.now) (product c.args.target.now) c.args.item c.args.max_mem c.greater_bytes-bytes.result c.requires.some c.greater_bytes-bytes.ensures c.if-bytes-max_mem.false in
    subst (Tiles c.args.shape.now c.args.target.now c.args.item c.args.max_mem)
    (λ i. record { read = sym c.stages_in.ensures.read i; middle = sym c.stages_in.ensures.middle i; write = sym c.stages_in.ensures.write i })
    (tiles_of c.args.shape.now c.args.source.now c.args.target.now c.args.item c.args.max_mem c.requires.target_rank
    (planned c.args.shape.now c.args.source.now c.args.target.now (c.args.max_mem / c.args.item) c.requires.source_rank c.requires.target_rank c.requires.source_positive c.requires.target_positive f.0 f.1))
