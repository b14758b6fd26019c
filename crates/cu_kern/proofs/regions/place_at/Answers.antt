use Rattle.cu_kern.proofs.FirstPlaces.{piece_read}
use Rattle.cu_kern.proofs.ReadPlaces.{read_below}
use Rattle.cu_kern.proofs.regions.place_at.Goals as goal

pub returns-then-place-pace-clause-place : goal.returns-then-place-pace-clause-place
returns-then-place-pace-clause-place c = piece_read c.args.shape.now c.args.dims.now c.args.pace.run c.args.pace.step c.args.place c.requires.pace c.requires.within c.if-place-pace.true

pub returns-then-place-pace-clause-below : goal.returns-then-place-pace-clause-below
returns-then-place-pace-clause-below c =
    rw (piece_read c.args.shape.now c.args.dims.now c.args.pace.run c.args.pace.step c.args.place c.requires.pace c.requires.within c.if-place-pace.true) (read_below c.args.shape.now c.args.dims.now c.args.place c.requires.broadcasts c.requires.within)
