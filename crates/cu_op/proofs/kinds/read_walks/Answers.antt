use Rattle.std.proofs.Common.{pred, map, sym, refl, ◌∙◌, arith}
use Rattle.std.proofs.lemmas.List.{length-map}
use Rattle.cu_shape.proofs.Places.{inside-length}
use Rattle.cu_op.specs.Arrays.{grid_at}
use Rattle.cu_op.proofs.AlongAxis.{axis_of_first, axis_of_last}
use Rattle.cu_op.proofs.ByLabels.{part_region}
use Rattle.cu_op.proofs.MapRegions.{no_longer}
use Rattle.cu_op.proofs.Matrices.{product_region}
use Rattle.cu_op.proofs.kinds.read_walks.Goals as goal

pub map_walks-requires-clause-lo : goal.map_walks-requires-clause-lo
map_walks-requires-clause-lo c =
    let reads = rw c.in-Map.is at c.requires.reads in
    let fits = rw c.in-Map.is at c.requires.fits in
    let first = rw c.in-Map.is at c.requires.first in
    rw c.as_slice.ensures.value (no_longer c.args.arrays.now c.in-Map.ins.items c.in-Map.out c.args.region.now.lo reads fits.inputs (inside-length (grid_at c.args.arrays.now c.in-Map.out).shape c.args.region.now.lo first))

pub map_walks-requires-clause-hi : goal.map_walks-requires-clause-hi
map_walks-requires-clause-hi c =
    let reads = rw c.in-Map.is at c.requires.reads in
    let fits = rw c.in-Map.is at c.requires.fits in
    let last = rw c.in-Map.is at c.requires.last in
    rw c.as_slice.ensures.value (no_longer c.args.arrays.now c.in-Map.ins.items c.in-Map.out c.args.region.now.hi reads fits.inputs
    (sym (length-map c.args.region.now.hi pred) ∙ inside-length (grid_at c.args.arrays.now c.in-Map.out).shape (map pred c.args.region.now.hi) last))

pub left_walk-requires-clause-region : goal.left_walk-requires-clause-region
left_walk-requires-clause-region c =
    let fits = rw c.in-Mul.is at c.requires.fits in
    let first = rw c.in-Mul.is at c.requires.first in
    let last = rw c.in-Mul.is at c.requires.last in
    product_region c.args.arrays.now c.in-Mul.left c.in-Mul.right c.in-Mul.out fits c.args.region.now.lo c.args.region.now.hi first last

pub right_walk-requires-clause-region : goal.right_walk-requires-clause-region
right_walk-requires-clause-region c =
    let fits = rw c.in-Mul.is at c.requires.fits in
    let first = rw c.in-Mul.is at c.requires.first in
    let last = rw c.in-Mul.is at c.requires.last in
    product_region c.args.arrays.now c.in-Mul.left c.in-Mul.right c.in-Mul.out fits c.args.region.now.lo c.args.region.now.hi first last

pub grouped_walk-requires-clause-source : goal.grouped_walk-requires-clause-source
grouped_walk-requires-clause-source c = let reads = rw c.in-GroupFold.is at c.requires.reads in reads 0 0 (omega arith)

pub grouped_walk-requires-clause-region : goal.grouped_walk-requires-clause-region
grouped_walk-requires-clause-region c =
    let fits = rw c.in-GroupFold.is at c.requires.fits in
    let first = rw c.in-GroupFold.is at c.requires.first in
    let last = rw c.in-GroupFold.is at c.requires.last in
    part_region c.args.arrays.now c.in-GroupFold.kind c.in-GroupFold.axis c.in-GroupFold.groups c.in-GroupFold.source c.in-GroupFold.labels c.in-GroupFold.out fits c.args.region.now.lo c.args.region.now.hi first last

pub labels_walk-requires-clause-source : goal.labels_walk-requires-clause-source
labels_walk-requires-clause-source c = let reads = rw c.in-GroupFold.is at c.requires.reads in reads 0 0 (omega arith)

pub labels_walk-requires-clause-region : goal.labels_walk-requires-clause-region
labels_walk-requires-clause-region c =
    let fits = rw c.in-GroupFold.is at c.requires.fits in
    let first = rw c.in-GroupFold.is at c.requires.first in
    let last = rw c.in-GroupFold.is at c.requires.last in
    part_region c.args.arrays.now c.in-GroupFold.kind c.in-GroupFold.axis c.in-GroupFold.groups c.in-GroupFold.source c.in-GroupFold.labels c.in-GroupFold.out fits c.args.region.now.lo c.args.region.now.hi first last

pub returns-in-GroupFold-clause-walks : goal.returns-in-GroupFold-clause-walks
returns-in-GroupFold-clause-walks c = rw (c.in-GroupFold.is, c.two_walks-in-GroupFold.ensures, c.grouped_walk.ensures, c.labels_walk.ensures) refl

pub map_walks-requires-clause-few : goal.map_walks-requires-clause-few
map_walks-requires-clause-few c = c.as_slice.ensures.fits

pub whole_walks-requires-clause-few : goal.whole_walks-requires-clause-few
whole_walks-requires-clause-few c = c.as_slice-in-Pull.ensures.fits

pub whole_walks-requires-clause-within : goal.whole_walks-requires-clause-within
whole_walks-requires-clause-within c = rw c.as_slice-in-Pull.ensures.value (rw c.in-Pull.is at c.requires.reads)

pub chunk_walk-requires-clause-out : goal.chunk_walk-requires-clause-out
chunk_walk-requires-clause-out c = rw c.in-Fold.is at c.requires.target

pub chunk_walk-requires-clause-result : goal.chunk_walk-requires-clause-result
chunk_walk-requires-clause-result c = let fits = rw c.in-Fold.is at c.requires.fits in fits.result

pub chunk_walk-requires-clause-first : goal.chunk_walk-requires-clause-first
chunk_walk-requires-clause-first c = rw c.in-Fold.is at c.requires.first

pub chunk_walk-requires-clause-last : goal.chunk_walk-requires-clause-last
chunk_walk-requires-clause-last c = rw c.in-Fold.is at c.requires.last

pub chunk_walk-requires-in-PairFold-clause-out : goal.chunk_walk-requires-in-PairFold-clause-out
chunk_walk-requires-in-PairFold-clause-out c = rw c.in-PairFold.is at c.requires.target

pub chunk_walk-requires-in-PairFold-clause-result : goal.chunk_walk-requires-in-PairFold-clause-result
chunk_walk-requires-in-PairFold-clause-result c = let fits = rw c.in-PairFold.is at c.requires.fits in fits.1.result

pub chunk_walk-requires-in-PairFold-clause-first : goal.chunk_walk-requires-in-PairFold-clause-first
chunk_walk-requires-in-PairFold-clause-first c = rw c.in-PairFold.is at c.requires.first

pub chunk_walk-requires-in-PairFold-clause-last : goal.chunk_walk-requires-in-PairFold-clause-last
chunk_walk-requires-in-PairFold-clause-last c = rw c.in-PairFold.is at c.requires.last

pub merge_walk-requires-clause-out : goal.merge_walk-requires-clause-out
merge_walk-requires-clause-out c = rw c.in-Merge.is at c.requires.target

pub merge_walk-requires-clause-some : goal.merge_walk-requires-clause-some
merge_walk-requires-clause-some c = let fits = rw c.in-Merge.is at c.requires.fits in fits.0.some

pub merge_walk-requires-clause-few : goal.merge_walk-requires-clause-few
merge_walk-requires-clause-few c = let fits = rw c.in-Merge.is at c.requires.fits in fits.0.few

pub merge_walk-requires-clause-result : goal.merge_walk-requires-clause-result
merge_walk-requires-clause-result c = let fits = rw c.in-Merge.is at c.requires.fits in fits.1.result

pub merge_walk-requires-clause-first : goal.merge_walk-requires-clause-first
merge_walk-requires-clause-first c = rw c.in-Merge.is at c.requires.first

pub merge_walk-requires-clause-last : goal.merge_walk-requires-clause-last
merge_walk-requires-clause-last c = rw c.in-Merge.is at c.requires.last

pub merge_walk-requires-in-PairMerge-clause-out : goal.merge_walk-requires-in-PairMerge-clause-out
merge_walk-requires-in-PairMerge-clause-out c = rw c.in-PairMerge.is at c.requires.target

pub merge_walk-requires-in-PairMerge-clause-some : goal.merge_walk-requires-in-PairMerge-clause-some
merge_walk-requires-in-PairMerge-clause-some c = let fits = rw c.in-PairMerge.is at c.requires.fits in fits.0.some

pub merge_walk-requires-in-PairMerge-clause-few : goal.merge_walk-requires-in-PairMerge-clause-few
merge_walk-requires-in-PairMerge-clause-few c = let fits = rw c.in-PairMerge.is at c.requires.fits in fits.0.few

pub merge_walk-requires-in-PairMerge-clause-result : goal.merge_walk-requires-in-PairMerge-clause-result
merge_walk-requires-in-PairMerge-clause-result c = let fits = rw c.in-PairMerge.is at c.requires.fits in fits.2.result

pub merge_walk-requires-in-PairMerge-clause-first : goal.merge_walk-requires-in-PairMerge-clause-first
merge_walk-requires-in-PairMerge-clause-first c = rw c.in-PairMerge.is at c.requires.first

pub merge_walk-requires-in-PairMerge-clause-last : goal.merge_walk-requires-in-PairMerge-clause-last
merge_walk-requires-in-PairMerge-clause-last c = rw c.in-PairMerge.is at c.requires.last

pub chunk_walk-requires-clause-source : goal.chunk_walk-requires-clause-source
chunk_walk-requires-clause-source c = let reads = rw c.in-Fold.is at c.requires.reads in reads 0 0 (omega arith)

pub chunk_walk-requires-in-PairFold-clause-source : goal.chunk_walk-requires-in-PairFold-clause-source
chunk_walk-requires-in-PairFold-clause-source c = let reads = rw c.in-PairFold.is at c.requires.reads in reads 0 0 (omega arith)

pub merge_walk-requires-clause-source : goal.merge_walk-requires-clause-source
merge_walk-requires-clause-source c = let reads = rw c.in-Merge.is at c.requires.reads in reads 0 0 (omega arith)

pub merge_walk-requires-in-PairMerge-clause-source : goal.merge_walk-requires-in-PairMerge-clause-source
merge_walk-requires-in-PairMerge-clause-source c = let reads = rw c.in-PairMerge.is at c.requires.reads in reads 0 0 (omega arith)

pub merge_walk-requires-in-PairMerge-2-clause-source : goal.merge_walk-requires-in-PairMerge-2-clause-source
merge_walk-requires-in-PairMerge-2-clause-source c = let reads = rw c.in-PairMerge.is at c.requires.reads in reads 1 0 (omega arith)

pub left_walk-requires-clause-left : goal.left_walk-requires-clause-left
left_walk-requires-clause-left c = let reads = rw c.in-Mul.is at c.requires.reads in reads 0 0 (omega arith)

pub left_walk-requires-clause-right : goal.left_walk-requires-clause-right
left_walk-requires-clause-right c = let reads = rw c.in-Mul.is at c.requires.reads in reads 1 0 (omega arith)

pub right_walk-requires-clause-left : goal.right_walk-requires-clause-left
right_walk-requires-clause-left c = let reads = rw c.in-Mul.is at c.requires.reads in reads 0 0 (omega arith)

pub right_walk-requires-clause-right : goal.right_walk-requires-clause-right
right_walk-requires-clause-right c = let reads = rw c.in-Mul.is at c.requires.reads in reads 1 0 (omega arith)

pub merge_walk-requires-in-PairMerge-2-clause-out : goal.merge_walk-requires-in-PairMerge-2-clause-out
merge_walk-requires-in-PairMerge-2-clause-out c = rw c.in-PairMerge.is at c.requires.target

pub merge_walk-requires-in-PairMerge-2-clause-some : goal.merge_walk-requires-in-PairMerge-2-clause-some
merge_walk-requires-in-PairMerge-2-clause-some c = let fits = rw c.in-PairMerge.is at c.requires.fits in fits.0.some

pub merge_walk-requires-in-PairMerge-2-clause-few : goal.merge_walk-requires-in-PairMerge-2-clause-few
merge_walk-requires-in-PairMerge-2-clause-few c = let fits = rw c.in-PairMerge.is at c.requires.fits in fits.0.few

pub merge_walk-requires-in-PairMerge-2-clause-result : goal.merge_walk-requires-in-PairMerge-2-clause-result
merge_walk-requires-in-PairMerge-2-clause-result c = let fits = rw c.in-PairMerge.is at c.requires.fits in rw fits.1.grid fits.2.result

pub merge_walk-requires-in-PairMerge-2-clause-first : goal.merge_walk-requires-in-PairMerge-2-clause-first
merge_walk-requires-in-PairMerge-2-clause-first c = rw c.in-PairMerge.is at c.requires.first

pub merge_walk-requires-in-PairMerge-2-clause-last : goal.merge_walk-requires-in-PairMerge-2-clause-last
merge_walk-requires-in-PairMerge-2-clause-last c = rw c.in-PairMerge.is at c.requires.last

pub returns-in-Map-clause-walks : goal.returns-in-Map-clause-walks
returns-in-Map-clause-walks c = rw (c.in-Map.is, c.map_walks.ensures, c.as_slice.ensures.value) refl

pub returns-in-Pull-clause-walks : goal.returns-in-Pull-clause-walks
returns-in-Pull-clause-walks c = rw (c.in-Pull.is, c.whole_walks.ensures, c.as_slice-in-Pull.ensures.value) refl

pub returns-in-Copy-clause-walks : goal.returns-in-Copy-clause-walks
returns-in-Copy-clause-walks c = rw (c.in-Copy.is, c.one_walk.ensures) refl

pub returns-in-Fold-clause-walks : goal.returns-in-Fold-clause-walks
returns-in-Fold-clause-walks c = rw (c.in-Fold.is, c.one_walk-in-Fold.ensures, c.chunk_walk.ensures) refl

pub returns-in-PairFold-clause-walks : goal.returns-in-PairFold-clause-walks
returns-in-PairFold-clause-walks c = rw (c.in-PairFold.is, c.one_walk-in-PairFold.ensures, c.chunk_walk-in-PairFold.ensures) refl

pub returns-in-Merge-clause-walks : goal.returns-in-Merge-clause-walks
returns-in-Merge-clause-walks c = rw (c.in-Merge.is, c.one_walk-in-Merge.ensures, c.merge_walk.ensures) refl

pub returns-in-PairMerge-clause-walks : goal.returns-in-PairMerge-clause-walks
returns-in-PairMerge-clause-walks c = rw (c.in-PairMerge.is, c.two_walks.ensures, c.merge_walk-in-PairMerge.ensures, c.merge_walk-in-PairMerge-2.ensures) refl

pub returns-in-Mul-clause-walks : goal.returns-in-Mul-clause-walks
returns-in-Mul-clause-walks c = rw (c.in-Mul.is, c.two_walks-in-Mul.ensures, c.left_walk.ensures, c.right_walk.ensures) refl

pub carry_walks-requires-clause-some : goal.carry_walks-requires-clause-some
carry_walks-requires-clause-some c = let fits = rw c.in-Carry.is at c.requires.fits in fits.some

pub carry_walks-requires-clause-first : goal.carry_walks-requires-clause-first
carry_walks-requires-clause-first c =
    let fits = rw c.in-Carry.is at c.requires.fits in
    let first = rw c.in-Carry.is at c.requires.first in
    axis_of_first (grid_at c.args.arrays.now c.in-Carry.out) (grid_at c.args.arrays.now c.in-Carry.sums) c.in-Carry.axis c.args.region.now.lo fits.grid fits.along first

pub carry_walks-requires-clause-last : goal.carry_walks-requires-clause-last
carry_walks-requires-clause-last c =
    let fits = rw c.in-Carry.is at c.requires.fits in
    let last = rw c.in-Carry.is at c.requires.last in
    axis_of_last (grid_at c.args.arrays.now c.in-Carry.out) (grid_at c.args.arrays.now c.in-Carry.sums) c.in-Carry.axis c.args.region.now.hi fits.grid fits.along last

pub scan_walks-requires-clause-source : goal.scan_walks-requires-clause-source
scan_walks-requires-clause-source c = let reads = rw c.in-Scan.is at c.requires.reads in reads 0 0 (omega arith)

pub scan_walks-requires-clause-along : goal.scan_walks-requires-clause-along
scan_walks-requires-clause-along c = let fits = rw c.in-Scan.is at c.requires.fits in fits.along

pub scan_walks-requires-clause-first : goal.scan_walks-requires-clause-first
scan_walks-requires-clause-first c =
    let fits = rw c.in-Scan.is at c.requires.fits in
    let first = rw c.in-Scan.is at c.requires.first in
    axis_of_first (grid_at c.args.arrays.now c.in-Scan.out) (grid_at c.args.arrays.now c.in-Scan.source) c.in-Scan.axis c.args.region.now.lo fits.grid fits.along first

pub scan_walks-requires-clause-last : goal.scan_walks-requires-clause-last
scan_walks-requires-clause-last c =
    let fits = rw c.in-Scan.is at c.requires.fits in
    let last = rw c.in-Scan.is at c.requires.last in
    axis_of_last (grid_at c.args.arrays.now c.in-Scan.out) (grid_at c.args.arrays.now c.in-Scan.source) c.in-Scan.axis c.args.region.now.hi fits.grid fits.along last

pub returns-in-Carry-clause-walks : goal.returns-in-Carry-clause-walks
returns-in-Carry-clause-walks c = rw (c.in-Carry.is, c.carry_walks.ensures) refl

pub returns-in-Scan-clause-walks : goal.returns-in-Scan-clause-walks
returns-in-Scan-clause-walks c = rw (c.in-Scan.is, c.scan_walks.ensures) refl
