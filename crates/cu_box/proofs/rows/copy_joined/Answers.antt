use Rattle.std.proofs.Common.{arith}
use Rattle.cu_box.proofs.Joined.{one_row_fits, one_row_short, one_row_copied}
use Rattle.cu_box.proofs.rows.copy_joined.Goals as goal

pub overflow_mul-joined : goal.overflow_mul-joined
overflow_mul-joined c =
    let short = one_row_short c.args.size c.args.rows c.args.rows.from c.args.source.now c.requires.size c.requires.some c.requires.together.0 c.requires.source_fits in
    omega (arith, short.0)

pub overflow_mul-bytes : goal.overflow_mul-bytes
overflow_mul-bytes c =
    let short = one_row_short c.args.size c.args.rows c.args.rows.from c.args.source.now c.requires.size c.requires.some c.requires.together.0 c.requires.source_fits in
    omega (arith, short.1)

pub copy_each-requires-clause-source_fits : goal.copy_each-requires-clause-source_fits
copy_each-requires-clause-source_fits c = one_row_fits c.args.size c.args.rows c.args.rows.from c.args.source.now c.requires.some c.requires.together.0 c.requires.source_fits

pub copy_each-requires-clause-target_fits : goal.copy_each-requires-clause-target_fits
copy_each-requires-clause-target_fits c = one_row_fits c.args.size c.args.rows c.args.rows.to c.args.target.now c.requires.some c.requires.together.1 c.requires.target_fits

pub returns : goal.returns
returns c = one_row_copied c.args.size _ c.args.rows c.args.source.now c.args.target.now c.copy_each.new.target c.requires.together.0 c.requires.together.1 c.copy_each.ensures
