use Rattle.std.proofs.Common.{◌≡◌, refl}
use Rattle.cu_op.specs.Grouping.{label_part, end_part}
use Rattle.cu_op.proofs.GroupLists.{axis_parts}
use Rattle.cu_op.proofs.kinds.group_fold.part_bounds.Goals as goal

pub first_place-first-requires-clause-small : goal.first_place-first-requires-clause-small
first_place-first-requires-clause-small c =
    let g = c.args.grid.now in
    let first : c.at_or.result ≡ label_part g c.args.region.now.lo = rw (c.at_or.ensures, c.rank-rank.ensures.rank, c.shape.ensures.value) refl in
    let s = axis_parts g c.args.axis (label_part g c.args.region.now.lo) (end_part g c.args.region.now.hi) c.shape.ensures.kept c.requires.along c.requires.first c.requires.last in
    rw first s.starts

pub first_place-end-requires-clause-small : goal.first_place-end-requires-clause-small
first_place-end-requires-clause-small c =
    let g = c.args.grid.now in
    let last : c.at_or-2.result ≡ end_part g c.args.region.now.hi = rw (c.at_or-2.ensures, c.rank-rank.ensures.rank, c.shape.ensures.value) refl in
    let s = axis_parts g c.args.axis (label_part g c.args.region.now.lo) (end_part g c.args.region.now.hi) c.shape.ensures.kept c.requires.along c.requires.first c.requires.last in
    rw last s.ends
