use Rattle.std.proofs.Common.{◌∙◌, sym}
use Rattle.cu_grid.proofs.Covers.{bounds_of}
use Rattle.cu_view_box.proofs.Reshapes.{region_inside_shape}
use Rattle.cu_view_box.proofs.reshape.reshape_hull.Goals as goal

pub is_empty-requires : goal.is_empty-requires
is_empty-requires c = let b = bounds_of c.args.shape.now c.args.out.now.lo c.args.out.now.hi c.requires.out in record { rank = b.hi_rank ∙ sym b.lo_rank }

pub hull_of_some-requires-clause-inside : goal.hull_of_some-requires-clause-inside
hull_of_some-requires-clause-inside c = λ idx w. region_inside_shape c.args.shape.now c.args.out.now.lo c.args.out.now.hi idx c.requires.out w
