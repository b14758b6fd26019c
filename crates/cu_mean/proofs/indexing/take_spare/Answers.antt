use Rattle.std.proofs.Common.{◌+◌, ◌<◌, ◌++◌, ℕ, List, ap, sym, refl, drop, length, min, subst, arith}
use Rattle.std.specs.List.{slice_range}
use Rattle.cu_semantics.specs.View.{indexed_from}
use Rattle.cu_mean.specs.Indexing.{IsOutsideEach}
use Rattle.cu_mean.proofs.IndexEntries.{spare_step, longer_by, range_length}
use Rattle.cu_mean.proofs.indexing.take_spare.Goals as goal

pub returns-then-rank-end-gt-MOST_AXES-clause-taken : goal.returns-then-rank-end-gt-MOST_AXES-clause-taken
returns-then-rank-end-gt-MOST_AXES-clause-taken c items =
    let f = c.args.front.now in
    let shape = c.args.shape.now in
    let idx = c.args.idx.now in
    let end = min (f.at + c.args.spare) (length idx) in
    let ahead = min (f.axis + c.args.spare) (length shape) in
    let e = spare_step c.args.spare items shape idx f.axis f.at ahead end c.requires.front.at refl refl in
    let long : 6 < length f.read + length (slice_range idx f.at end) = omega (arith, range_length idx f.at end (omega arith)) in
    subst IsOutsideEach (sym (ap (λ (rest : List ℕ). f.read ++ rest) e)) (longer_by f.read (slice_range idx f.at end) (indexed_from c.args.spare items (drop ahead shape) (drop end idx)) long)
