use Rattle.std.proofs.Common.{◌∙◌, sym, arith}
use Rattle.cu_grid.proofs.Covers.{bounds_of}
use Rattle.cu_view_box.proofs.Reshapes.{region_inside_shape}
use Rattle.cu_view_box.proofs.reshape.reshape_touches.Goals as goal

pub is_empty-requires : goal.is_empty-requires
is_empty-requires c = let b = bounds_of c.args.shape.now c.args.out.now.lo c.args.out.now.hi c.requires.out in record { rank = b.hi_rank ∙ sym b.lo_rank }

pub whole_behind-requires-clause-lo_rank : goal.whole_behind-requires-clause-lo_rank
whole_behind-requires-clause-lo_rank c = (bounds_of c.args.shape.now c.args.out.now.lo c.args.out.now.hi c.requires.out).lo_rank

pub whole_behind-requires-clause-hi_rank : goal.whole_behind-requires-clause-hi_rank
whole_behind-requires-clause-hi_rank c = (bounds_of c.args.shape.now c.args.out.now.lo c.args.out.now.hi c.requires.out).hi_rank

pub touches_below-requires-clause-inside : goal.touches_below-requires-clause-inside
touches_below-requires-clause-inside c = λ idx w. region_inside_shape c.args.shape.now c.args.out.now.lo c.args.out.now.hi idx c.requires.out w

pub touches_below-requires-clause-end : goal.touches_below-requires-clause-end
touches_below-requires-clause-end c = let r = (bounds_of c.args.shape.now c.args.out.now.lo c.args.out.now.hi c.requires.out).lo_rank in omega arith
