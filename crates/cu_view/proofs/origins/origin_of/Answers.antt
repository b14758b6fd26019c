use Rattle.std.proofs.Common.{◌≡◌, ℕ, ◌≤◌, List, [], length, get_or, None, ap, arith}
use Rattle.cu_shape.specs.Broadcast.{broadcast_of, mismatch_of}
use Rattle.cu_shape.proofs.Places.{inside-length}
use Rattle.cu_origin.specs.Fits.{FitsSlice, FitsPermute, FitsConcat, FitsStack}
use Rattle.cu_origin.proofs.AxesInside.{inside_at}
use Rattle.cu_view.proofs.Fitting.{fits_as, one_source, first_is, slice_product, counted, permuted_rank, broadcast_rank}
use Rattle.cu_view.proofs.origins.origin_of.Goals as goal

pub sliced-requires-clause-same : goal.sliced-requires-clause-same
sliced-requires-clause-same c =
    let f = one_source (FitsSlice c.in-Slice.runs.items c.in-Slice.taken.items c.args.shape.now) c.args.sources.now (fits_as _ _ c.args.sources.now c.args.shape.now c.in-Slice.is c.requires.view.fits) in
    rw c.as_slice.ensures.value (slice_product c.in-Slice.runs.items c.in-Slice.taken.items c.args.shape.now (get_or c.args.sources.now 0 []) f.holds)

pub sliced-requires-clause-counted : goal.sliced-requires-clause-counted
sliced-requires-clause-counted c = counted c.args.shape.now c.requires.view.result_size

pub permuted-requires-clause-rank : goal.permuted-requires-clause-rank
permuted-requires-clause-rank c =
    let f = one_source (FitsPermute c.in-Permute.axes.items c.args.shape.now) c.args.sources.now (fits_as _ _ c.args.sources.now c.args.shape.now c.in-Permute.is c.requires.view.fits) in
    rw c.as_slice-in-Permute.ensures.value (permuted_rank c.in-Permute.axes.items c.args.shape.now (get_or c.args.sources.now 0 []) c.args.idx.now f.holds c.requires.inside)

pub permuted-requires-clause-each : goal.permuted-requires-clause-each
permuted-requires-clause-each c =
    let f = one_source (FitsPermute c.in-Permute.axes.items c.args.shape.now) c.args.sources.now (fits_as _ _ c.args.sources.now c.args.shape.now c.in-Permute.is c.requires.view.fits) in
    let r = f.holds.rank in
    rw c.as_slice-in-Permute.ensures.value (λ d l. f.holds.each d (omega arith))

pub place-requires-clause-counted : goal.place-requires-clause-counted
place-requires-clause-counted c = counted c.args.shape.now c.requires.view.result_size

pub concat_origin-requires-clause-axis : goal.concat_origin-requires-clause-axis
concat_origin-requires-clause-axis c =
    let f : FitsConcat c.in-Concat.axis c.args.sources.now c.args.shape.now = fits_as _ _ c.args.sources.now c.args.shape.now c.in-Concat.is c.requires.view.fits in
    let n = inside-length c.args.shape.now c.args.idx.now c.requires.inside in
    let b = f.below in
    omega arith

pub at-requires : goal.at-requires
at-requires c =
    let f : FitsStack c.in-Stack.axis c.args.sources.now c.args.shape.now = fits_as _ _ c.args.sources.now c.args.shape.now c.in-Stack.is c.requires.view.fits in
    let n = inside-length c.args.shape.now c.args.idx.now c.requires.inside in
    let b = f.below in
    omega arith

pub overflow_cast-result : goal.overflow_cast-result
overflow_cast-result c =
    let f : FitsStack c.in-Stack.axis c.args.sources.now c.args.shape.now = fits_as _ _ c.args.sources.now c.args.shape.now c.in-Stack.is c.requires.view.fits in
    let b = inside_at c.args.shape.now c.args.idx.now c.in-Stack.axis c.requires.inside f.below in
    let a = f.along in
    let few = c.requires.view.few in
    omega arith

pub removed-requires : goal.removed-requires
removed-requires c =
    let f : FitsStack c.in-Stack.axis c.args.sources.now c.args.shape.now = fits_as _ _ c.args.sources.now c.args.shape.now c.in-Stack.is c.requires.view.fits in
    let n = inside-length c.args.shape.now c.args.idx.now c.requires.inside in
    let b = f.below in
    omega arith

pub back-requires : goal.back-requires
back-requires c =
    let f = one_source (λ (s : List ℕ). (mismatch_of c.args.shape.now s ≡ None) × (broadcast_of c.args.shape.now s ≡ c.args.shape.now)) c.args.sources.now (fits_as _ _ c.args.sources.now c.args.shape.now c.in-Broadcast.is c.requires.view.fits) in
    let n = inside-length c.args.shape.now c.args.idx.now c.requires.inside in
    let one = f.one in
    let e = first_is c.args.sources.now c.index-sources-0-in-Broadcast.result (omega arith) c.index-sources-0-in-Broadcast.is in
    let r = broadcast_rank c.args.shape.now (get_or c.args.sources.now 0 []) f.holds.1 in
    let m : length c.index-sources-0-in-Broadcast.result ≡ length (get_or c.args.sources.now 0 []) = ap length e in
    omega arith

pub triangle_origin-requires : goal.triangle_origin-requires
triangle_origin-requires c =
    let f = one_source (λ (s : List ℕ). (s ≡ c.args.shape.now) × (2 ≤ length c.args.shape.now)) c.args.sources.now (fits_as _ _ c.args.sources.now c.args.shape.now c.in-Triangle.is c.requires.view.fits) in
    let n = inside-length c.args.shape.now c.args.idx.now c.requires.inside in
    let r = f.holds.1 in
    omega arith

pub at-requires-in-Arange : goal.at-requires-in-Arange
at-requires-in-Arange c =
    let f = fits_as _ _ c.args.sources.now c.args.shape.now c.in-Arange.is c.requires.view.fits in
    let n = inside-length c.args.shape.now c.args.idx.now c.requires.inside in
    let r = f.1 in
    omega arith

pub diagonal-requires : goal.diagonal-requires
diagonal-requires c =
    let f = fits_as _ _ c.args.sources.now c.args.shape.now c.in-Eye.is c.requires.view.fits in
    let n = inside-length c.args.shape.now c.args.idx.now c.requires.inside in
    let r = f.1 in
    omega arith
