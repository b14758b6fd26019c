use Rattle.std.proofs.Common.{◌+◌, ◌*◌, ◌≤◌, length, refl, arith}
use Rattle.cu_kern.proofs.Pieces.{Piece, place_begins, strip_places, strip_read}
use Rattle.cu_kern.proofs.regions.strip_at.Goals as goal
use Rattle.cu_kern.proofs.regions.strip_at.Goals.{After-size-own}

-- the first element lies in the buffer
begins : (c : After-size-own) → c.args.region.lay.now.at + c.args.at * c.size-own.result ≤ length c.args.region.ins.now
begins c = place_begins c.args.region.lay.now c.args.dims.now (length c.args.region.ins.now) c.args.at c.size-own.result c.requires.fits c.requires.below c.size-own.ensures

pub overflow_mul-from : goal.overflow_mul-from
overflow_mul-from c = omega (arith, begins c)

pub overflow_add-from : goal.overflow_add-from
overflow_add-from c = omega (arith, begins c)

pub slice_bounds-result-count : goal.slice_bounds-result-count
slice_bounds-result-count c = omega (arith, begins (goal.at.slice_bounds-result-count c).After-size-own)

pub slice_bounds-result-start : goal.slice_bounds-result-start
slice_bounds-result-start c = omega (arith, begins (goal.at.slice_bounds-result-start c).After-size-own)

pub slice_bounds-result-end : goal.slice_bounds-result-end
slice_bounds-result-end c = omega (arith, begins (goal.at.slice_bounds-result-end c).After-size-own)

pub returns-clause-places : goal.returns-clause-places
returns-clause-places c =
    let p : Piece = record { place = c.args.place; run = c.args.pace.run; step = c.args.pace.step; count = c.args.count } in
    strip_places c.args.region.lay.now c.args.region.lay.now.dtype c.args.region.ins.now c.args.dims.now p _ _ (record {
      fits = c.requires.fits;
      dtype = refl;
      paced = c.requires.pace;
      step = c.requires.step;
      some = c.requires.some;
      within = c.requires.within;
      row = c.requires.row;
      begins = (λ i. c.args.region.lay.now.at + c.requires.at i * c.size-own.ensures i);
    }) refl

pub returns-clause-elements : goal.returns-clause-elements
returns-clause-elements c k h =
    let p : Piece = record { place = c.args.place; run = c.args.pace.run; step = c.args.pace.step; count = c.args.count } in
    strip_read c.args.region.lay.now c.args.region.lay.now.dtype c.args.region.ins.now c.args.dims.now p _ k (record {
      fits = c.requires.fits;
      dtype = refl;
      paced = c.requires.pace;
      step = c.requires.step;
      some = c.requires.some;
      within = c.requires.within;
      row = c.requires.row;
      begins = (λ i. c.args.region.lay.now.at + c.requires.at i * c.size-own.ensures i);
    }) h
