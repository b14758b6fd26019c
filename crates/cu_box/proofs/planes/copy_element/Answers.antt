use Rattle.std.proofs.Common.{length, refl, arith}
use Rattle.cu_box.proofs.StridedLoops.{element_fits}
use Rattle.cu_box.proofs.StridedRuns.{element_is_copied}
use Rattle.cu_box.proofs.planes.copy_element.Goals as goal

pub overflow_mul-first : goal.overflow_mul-first
overflow_mul-first g c =
    let f = element_fits g.row.N c.args.start c.args.source.now (length c.args.target.now) c.requires in
    omega (arith, f.0)

pub overflow_mul-at : goal.overflow_mul-at
overflow_mul-at g c =
    let f = element_fits g.row.N c.args.start c.args.source.now (length c.args.target.now) c.requires in
    omega (arith, f.1)

pub copy_array-requires-clause-source_fits : goal.copy_array-requires-clause-source_fits
copy_array-requires-clause-source_fits g c = (element_fits g.row.N c.args.start c.args.source.now (length c.args.target.now) c.requires).0

pub copy_array-requires-clause-target_fits : goal.copy_array-requires-clause-target_fits
copy_array-requires-clause-target_fits g c = (element_fits g.row.N c.args.start c.args.source.now (length c.args.target.now) c.requires).1

pub returns : goal.returns
returns g c =
    let f = element_fits g.row.N c.args.start c.args.source.now (length c.args.target.now) c.requires in
    let (run, order, written) = c.copy_array.ensures in
    element_is_copied g.row.N c.args.order c.args.start c.args.source.now c.args.target.now c.copy_array.new.target g.row.N run order written refl f.0 f.1
