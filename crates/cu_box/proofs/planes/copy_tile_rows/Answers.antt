use Rattle.std.proofs.Common.{[], ◌∷◌, length, arith}
use Rattle.cu_box.specs.StridedSteps.{later_start}
use Rattle.cu_box.proofs.StridedLoops.{can_behind, one_axis}
use Rattle.cu_box.proofs.StridedRuns.{dense_fits}
use Rattle.cu_box.proofs.planes.copy_tile_rows.Goals as goal

pub overflow_mul-bytes : goal.overflow_mul-bytes
overflow_mul-bytes g c =
    let outer = c.args.plane.outer in
    let inner = c.args.plane.inner in
    let start = c.args.plane.start in
    let can = can_behind g.row.N outer (inner ∷ []) start 0 c.args.source.now (length c.args.target.now) c.requires.can (one_axis inner c.requires.some) c.requires.rows in
    let f = dense_fits g.row.N inner (later_start start outer 0) (length c.args.source.now) (length c.args.target.now) can.places (c.is_dense.ensures c.if-not-is_dense.false) c.requires.some in
    omega (arith, f.0)
