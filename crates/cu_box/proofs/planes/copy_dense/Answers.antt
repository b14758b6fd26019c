use Rattle.std.proofs.Common.{◌+◌, ◌*◌, ◌≤◌, ℕ, length, sym, subst, arith}
use Rattle.cu_box.proofs.StridedRuns.{dense_fits, run_is_copied}
use Rattle.cu_box.proofs.planes.copy_dense.Goals as goal

pub overflow_mul-first : goal.overflow_mul-first
overflow_mul-first g c =
    let f = dense_fits g.row.N c.args.axis c.args.start (length c.args.source.now) (length c.args.target.now) c.requires.can.places c.requires.dense c.requires.some in
    omega (arith, f.0)

pub overflow_mul-at : goal.overflow_mul-at
overflow_mul-at g c =
    let f = dense_fits g.row.N c.args.axis c.args.start (length c.args.source.now) (length c.args.target.now) c.requires.can.places c.requires.dense c.requires.some in
    omega (arith, f.1)

pub copy_run-requires-clause-source_fits : goal.copy_run-requires-clause-source_fits
copy_run-requires-clause-source_fits g c =
    let f = dense_fits g.row.N c.args.axis c.args.start (length c.args.source.now) (length c.args.target.now) c.requires.can.places c.requires.dense c.requires.some in
    subst (λ (n : ℕ). c.args.start.from * g.row.N + n ≤ length c.args.source.now) (sym c.requires.bytes) f.0

pub copy_run-requires-clause-target_fits : goal.copy_run-requires-clause-target_fits
copy_run-requires-clause-target_fits g c =
    let f = dense_fits g.row.N c.args.axis c.args.start (length c.args.source.now) (length c.args.target.now) c.requires.can.places c.requires.dense c.requires.some in
    subst (λ (n : ℕ). c.args.start.to * g.row.N + n ≤ length c.args.target.now) (sym c.requires.bytes) f.1

pub returns : goal.returns
returns g c =
    let f = dense_fits g.row.N c.args.axis c.args.start (length c.args.source.now) (length c.args.target.now) c.requires.can.places c.requires.dense c.requires.some in
    let (run, order, written) = c.copy_run.ensures in
    run_is_copied g.row.N c.args.order c.args.start c.args.source.now c.args.target.now c.copy_run.new.target c.args.bytes run order written c.args.axis c.requires.dense c.requires.bytes f.0 f.1
