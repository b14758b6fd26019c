use Rattle.std.proofs.Common.{◌≡◌, ℕ, ◌≤◌, None, List, [], length, get_or, ap, ◌∙◌, subst, arith, ◌==◌}
use Rattle.std.specs.List.{position_or_len}
use Rattle.std.proofs.lemmas.Bool.Decides.{nat_tests}
use Rattle.cu_shape.specs.Broadcast.{broadcast_of, mismatch_of}
use Rattle.cu_shape.specs.declared.slice.Run.{Run}
use Rattle.cu_shape.proofs.Places.{inside-length}
use Rattle.cu_origin.specs.Fits.{FitsSlice, FitsPermute}
use Rattle.cu_origin.specs.declared.pull.Pull.TheVariants.{Slice, Permute, Concat, Stack, Flip, Roll, Broadcast, Triangle}
use Rattle.cu_origin.proofs.AxesInside.{inside_at}
use Rattle.cu_view_box.specs.declared.way.Way.TheVariants.{Up}
use Rattle.cu_view.proofs.Asked.{ask_as, reads_back, size_small, source_small, lo_length, hi_within, concat_rank, stack_rank}
use Rattle.cu_view.proofs.Fitting.{one_source, first_is, broadcast_rank, permuted_shape}
use Rattle.cu_view.proofs.Slices.{IsRunWay, sliced_reads, sliced_over}
use Rattle.cu_view.proofs.Taken.{runs-length}
use Rattle.cu_view.proofs.WayReads.{along_over, permuted_reads, flipped_reads, flipped_over, broadcast_reads, broadcast_over, rolled_reads, stacked_reads, concat_reads}
use Rattle.cu_view.proofs.ways.way_on.Goals as goal

pub sliced_way-requires-clause-axis : goal.sliced_way-requires-clause-axis
sliced_way-requires-clause-axis c =
    let a = ask_as _ (Slice c.in-Slice.runs c.in-Slice.taken) c.args.sources.now c.args.shape.now c.args.region.now.lo c.args.region.now.hi c.args.number c.args.axis c.in-Slice.is c.requires.view c.requires.number c.requires.region c.requires.first c.requires.axis in
    let f = one_source (FitsSlice c.in-Slice.runs.items c.in-Slice.taken.items c.args.shape.now) c.args.sources.now a.fits in
    let n = runs-length c.in-Slice.runs.items (get_or c.args.sources.now 0 []) f.holds.inside in
    let e : length c.as_slice.result.now ≡ length c.in-Slice.runs.items = ap length c.as_slice.ensures.value in
    let l = a.in_source in
    omega arith

pub sliced_way-requires-clause-sizes : goal.sliced_way-requires-clause-sizes
sliced_way-requires-clause-sizes c =
    let a = ask_as _ (Slice c.in-Slice.runs c.in-Slice.taken) c.args.sources.now c.args.shape.now c.args.region.now.lo c.args.region.now.hi c.args.number c.args.axis c.in-Slice.is c.requires.view c.requires.number c.requires.region c.requires.first c.requires.axis in
    let f = one_source (FitsSlice c.in-Slice.runs.items c.in-Slice.taken.items c.args.shape.now) c.args.sources.now a.fits in
    rw c.as_slice.ensures.value f.holds.sizes

pub axis_of-requires-clause-has : goal.axis_of-requires-clause-has
axis_of-requires-clause-has c =
    let a = ask_as _ (Permute c.in-Permute.axes) c.args.sources.now c.args.shape.now c.args.region.now.lo c.args.region.now.hi c.args.number c.args.axis c.in-Permute.is c.requires.view c.requires.number c.requires.region c.requires.first c.requires.axis in
    let f = one_source (FitsPermute c.in-Permute.axes.items c.args.shape.now) c.args.sources.now a.fits in
    rw c.as_slice-in-Permute.ensures.value (f.holds.each c.args.axis a.in_source)

pub broadcast_way-requires-clause-ranks : goal.broadcast_way-requires-clause-ranks
broadcast_way-requires-clause-ranks c =
    let a = ask_as _ (Broadcast) c.args.sources.now c.args.shape.now c.args.region.now.lo c.args.region.now.hi c.args.number c.args.axis c.in-Broadcast.is c.requires.view c.requires.number c.requires.region c.requires.first c.requires.axis in
    let f = one_source (λ (s : List ℕ). (mismatch_of c.args.shape.now s ≡ None) × (broadcast_of c.args.shape.now s ≡ c.args.shape.now)) c.args.sources.now a.fits in
    let one = f.one in
    let e = first_is c.args.sources.now c.index-sources-0.result (omega arith) c.index-sources-0.is in
    let r = broadcast_rank c.args.shape.now (get_or c.args.sources.now 0 []) f.holds.1 in
    let m : length c.index-sources-0.result ≡ length (get_or c.args.sources.now 0 []) = ap length e in
    omega arith

pub returns-in-Slice-clause-over : goal.returns-in-Slice-clause-over
returns-in-Slice-clause-over c =
    let a = ask_as _ (Slice c.in-Slice.runs c.in-Slice.taken) c.args.sources.now c.args.shape.now c.args.region.now.lo c.args.region.now.hi c.args.number c.args.axis c.in-Slice.is c.requires.view c.requires.number c.requires.region c.requires.first c.requires.axis in
    let f = one_source (FitsSlice c.in-Slice.runs.items c.in-Slice.taken.items c.args.shape.now) c.args.sources.now a.fits in
    let w = subst (λ (xs : List Run). IsRunWay xs c.args.shape.now c.args.axis c.sliced_way.result) c.as_slice.ensures.value (c.sliced_way.ensures.one, c.sliced_way.ensures.longer) in
    let n = runs-length c.in-Slice.runs.items (get_or c.args.sources.now 0 []) f.holds.inside in
    let l = a.in_source in
    let one = f.one in
    sliced_over c.in-Slice.runs.items c.in-Slice.taken.items c.args.shape.now (get_or c.args.sources.now 0 []) c.args.region.now.lo c.args.region.now.hi c.sliced_way.result c.args.axis f.holds w (omega arith)
    (lo_length c.args.shape.now c.args.region.now.lo c.args.region.now.hi a.region) (hi_within c.args.shape.now c.args.region.now.lo c.args.region.now.hi a.region) (source_small c.args.sources.now c.args.axis a.source_sizes (omega arith) a.in_source)

pub returns-in-Slice-clause-reads : goal.returns-in-Slice-clause-reads
returns-in-Slice-clause-reads c =
    let a = ask_as _ (Slice c.in-Slice.runs c.in-Slice.taken) c.args.sources.now c.args.shape.now c.args.region.now.lo c.args.region.now.hi c.args.number c.args.axis c.in-Slice.is c.requires.view c.requires.number c.requires.region c.requires.first c.requires.axis in
    let f = one_source (FitsSlice c.in-Slice.runs.items c.in-Slice.taken.items c.args.shape.now) c.args.sources.now a.fits in
    let w = subst (λ (xs : List Run). IsRunWay xs c.args.shape.now c.args.axis c.sliced_way.result) c.as_slice.ensures.value (c.sliced_way.ensures.one, c.sliced_way.ensures.longer) in
    let n = runs-length c.in-Slice.runs.items (get_or c.args.sources.now 0 []) f.holds.inside in
    let l = a.in_source in
    reads_back _ (Slice c.in-Slice.runs c.in-Slice.taken) c.args.sources.now c.args.shape.now c.args.number c.args.region.now.lo c.args.axis c.sliced_way.result c.in-Slice.is
    (λ idx h e. sliced_reads c.in-Slice.runs.items c.in-Slice.taken.items c.args.shape.now (get_or c.args.sources.now 0 []) c.args.region.now.lo idx c.sliced_way.result c.args.axis f.holds w (omega arith) a.first h)

pub returns-in-Permute-clause-over : goal.returns-in-Permute-clause-over
returns-in-Permute-clause-over c =
    let a = ask_as _ (Permute c.in-Permute.axes) c.args.sources.now c.args.shape.now c.args.region.now.lo c.args.region.now.hi c.args.number c.args.axis c.in-Permute.is c.requires.view c.requires.number c.requires.region c.requires.first c.requires.axis in
    let f = one_source (FitsPermute c.in-Permute.axes.items c.args.shape.now) c.args.sources.now a.fits in
    let r = lo_length c.args.shape.now c.args.region.now.lo c.args.region.now.hi a.region in
    let s : length c.as_slice-in-Permute.result.now ≡ length c.in-Permute.axes.items = ap length c.as_slice-in-Permute.ensures.value in
    let b = c.axis_of.ensures.below in
    let m = permuted_shape c.in-Permute.axes.items c.args.shape.now (get_or c.args.sources.now 0 []) f.holds in
    along_over c.args.region.now.lo c.args.region.now.hi c.along.result c.axis_of.result 0 c.along.ensures (omega arith)

pub returns-in-Permute-clause-reads : goal.returns-in-Permute-clause-reads
returns-in-Permute-clause-reads c =
    let a = ask_as _ (Permute c.in-Permute.axes) c.args.sources.now c.args.shape.now c.args.region.now.lo c.args.region.now.hi c.args.number c.args.axis c.in-Permute.is c.requires.view c.requires.number c.requires.region c.requires.first c.requires.axis in
    let f = one_source (FitsPermute c.in-Permute.axes.items c.args.shape.now) c.args.sources.now a.fits in
    let s : length c.as_slice-in-Permute.result.now ≡ length c.in-Permute.axes.items = ap length c.as_slice-in-Permute.ensures.value in
    let b = c.axis_of.ensures.below in
    let m = permuted_shape c.in-Permute.axes.items c.args.shape.now (get_or c.args.sources.now 0 []) f.holds in
    let l = a.in_source in
    let k = f.holds.rank in
    reads_back _ (Permute c.in-Permute.axes) c.args.sources.now c.args.shape.now c.args.number c.args.region.now.lo c.args.axis c.along.result c.in-Permute.is
    (λ idx h e. permuted_reads c.in-Permute.axes.items c.args.region.now.lo idx c.along.result c.axis_of.result c.args.axis c.along.ensures (c.axis_of.ensures.place ∙ ap (λ (xs : List ℕ). position_or_len (λ (x : ℕ). x == c.args.axis) xs) c.as_slice-in-Permute.ensures.value) (omega arith) (a.first c.axis_of.result (omega arith)))

pub returns-in-Stack-clause-over : goal.returns-in-Stack-clause-over
returns-in-Stack-clause-over c =
    let a = ask_as _ (Stack c.in-Stack.new) c.args.sources.now c.args.shape.now c.args.region.now.lo c.args.region.now.hi c.args.number c.args.axis c.in-Stack.is c.requires.view c.requires.number c.requires.region c.requires.first c.requires.axis in
    let r = lo_length c.args.shape.now c.args.region.now.lo c.args.region.now.hi a.region in
    let m = stack_rank c.in-Stack.new c.args.sources.now c.args.shape.now c.args.number a.fits a.below in
    let l = a.in_source in
    let q = c.beside.ensures in
    along_over c.args.region.now.lo c.args.region.now.hi c.along-in-Stack.result c.beside.result 0 c.along-in-Stack.ensures (grind (arith, nat_tests))

pub returns-in-Stack-clause-reads : goal.returns-in-Stack-clause-reads
returns-in-Stack-clause-reads c =
    let a = ask_as _ (Stack c.in-Stack.new) c.args.sources.now c.args.shape.now c.args.region.now.lo c.args.region.now.hi c.args.number c.args.axis c.in-Stack.is c.requires.view c.requires.number c.requires.region c.requires.first c.requires.axis in
    let m = stack_rank c.in-Stack.new c.args.sources.now c.args.shape.now c.args.number a.fits a.below in
    let l = a.in_source in
    let o = a.fits.below in
    reads_back _ (Stack c.in-Stack.new) c.args.sources.now c.args.shape.now c.args.number c.args.region.now.lo c.args.axis c.along-in-Stack.result c.in-Stack.is
    (λ idx h e. let n = inside-length c.args.shape.now idx h in stacked_reads c.args.region.now.lo idx c.along-in-Stack.result c.in-Stack.new c.args.axis c.args.number (c.along-in-Stack.ensures ∙ ap (λ (x : ℕ). Up x 0 1) c.beside.ensures) (omega arith) (λ d b. a.first d (omega arith)) (omega arith))

pub returns-in-Flip-clause-over : goal.returns-in-Flip-clause-over
returns-in-Flip-clause-over c =
    let a = ask_as _ (Flip c.in-Flip.axes) c.args.sources.now c.args.shape.now c.args.region.now.lo c.args.region.now.hi c.args.number c.args.axis c.in-Flip.is c.requires.view c.requires.number c.requires.region c.requires.first c.requires.axis in
    let f = one_source (λ (s : List ℕ). s ≡ c.args.shape.now) c.args.sources.now a.fits in
    let n : length (get_or c.args.sources.now 0 []) ≡ length c.args.shape.now = ap length f.holds in
    let l = a.in_source in
    let r = lo_length c.args.shape.now c.args.region.now.lo c.args.region.now.hi a.region in
    flipped_over c.in-Flip.axes c.args.region.now.lo c.args.region.now.hi c.args.shape.now c.flipped_way.result c.args.axis c.flipped_way.ensures (omega arith) (hi_within c.args.shape.now c.args.region.now.lo c.args.region.now.hi a.region c.args.axis (omega arith)) (size_small c.args.shape.now c.args.axis a.result_size (omega arith))

pub returns-in-Flip-clause-reads : goal.returns-in-Flip-clause-reads
returns-in-Flip-clause-reads c =
    let a = ask_as _ (Flip c.in-Flip.axes) c.args.sources.now c.args.shape.now c.args.region.now.lo c.args.region.now.hi c.args.number c.args.axis c.in-Flip.is c.requires.view c.requires.number c.requires.region c.requires.first c.requires.axis in
    let f = one_source (λ (s : List ℕ). s ≡ c.args.shape.now) c.args.sources.now a.fits in
    let n : length (get_or c.args.sources.now 0 []) ≡ length c.args.shape.now = ap length f.holds in
    let l = a.in_source in
    reads_back _ (Flip c.in-Flip.axes) c.args.sources.now c.args.shape.now c.args.number c.args.region.now.lo c.args.axis c.flipped_way.result c.in-Flip.is
    (λ idx h e. flipped_reads c.in-Flip.axes c.args.region.now.lo c.args.shape.now idx c.flipped_way.result c.args.axis c.flipped_way.ensures (omega arith) (a.first c.args.axis (omega arith)))

pub returns-in-Roll-clause-over : goal.returns-in-Roll-clause-over
returns-in-Roll-clause-over c =
    let a = ask_as _ (Roll c.in-Roll.shifts) c.args.sources.now c.args.shape.now c.args.region.now.lo c.args.region.now.hi c.args.number c.args.axis c.in-Roll.is c.requires.view c.requires.number c.requires.region c.requires.first c.requires.axis in
    let f = one_source (λ (s : List ℕ). (s ≡ c.args.shape.now) × (length c.in-Roll.shifts.items ≡ length c.args.shape.now)) c.args.sources.now a.fits in
    let n : length (get_or c.args.sources.now 0 []) ≡ length c.args.shape.now = ap length f.holds.0 in
    let l = a.in_source in
    let r = lo_length c.args.shape.now c.args.region.now.lo c.args.region.now.hi a.region in
    along_over c.args.region.now.lo c.args.region.now.hi c.rolled_way.result c.args.axis _ c.rolled_way.ensures (omega arith)

pub returns-in-Roll-clause-reads : goal.returns-in-Roll-clause-reads
returns-in-Roll-clause-reads c =
    let a = ask_as _ (Roll c.in-Roll.shifts) c.args.sources.now c.args.shape.now c.args.region.now.lo c.args.region.now.hi c.args.number c.args.axis c.in-Roll.is c.requires.view c.requires.number c.requires.region c.requires.first c.requires.axis in
    let f = one_source (λ (s : List ℕ). (s ≡ c.args.shape.now) × (length c.in-Roll.shifts.items ≡ length c.args.shape.now)) c.args.sources.now a.fits in
    let n : length (get_or c.args.sources.now 0 []) ≡ length c.args.shape.now = ap length f.holds.0 in
    let l = a.in_source in
    let w = rw c.as_slice-in-Roll.ensures.value at c.rolled_way.ensures in
    reads_back _ (Roll c.in-Roll.shifts) c.args.sources.now c.args.shape.now c.args.number c.args.region.now.lo c.args.axis c.rolled_way.result c.in-Roll.is
    (λ idx h e. rolled_reads c.in-Roll.shifts.items c.args.region.now.lo c.args.shape.now idx c.args.number c.rolled_way.result c.args.axis w (omega arith) (a.first c.args.axis (omega arith)) h e)

pub returns-in-Broadcast-clause-over : goal.returns-in-Broadcast-clause-over
returns-in-Broadcast-clause-over c =
    let a = ask_as _ (Broadcast) c.args.sources.now c.args.shape.now c.args.region.now.lo c.args.region.now.hi c.args.number c.args.axis c.in-Broadcast.is c.requires.view c.requires.number c.requires.region c.requires.first c.requires.axis in
    let f = one_source (λ (s : List ℕ). (mismatch_of c.args.shape.now s ≡ None) × (broadcast_of c.args.shape.now s ≡ c.args.shape.now)) c.args.sources.now a.fits in
    let one = f.one in
    let e = first_is c.args.sources.now c.index-sources-0.result (omega arith) c.index-sources-0.is in
    let w = rw e at c.broadcast_way.ensures in
    let m = broadcast_rank c.args.shape.now (get_or c.args.sources.now 0 []) f.holds.1 in
    let l = a.in_source in
    broadcast_over (get_or c.args.sources.now 0 []) c.args.region.now.lo c.args.region.now.hi c.args.shape.now c.broadcast_way.result c.args.axis w a.in_source m (lo_length c.args.shape.now c.args.region.now.lo c.args.region.now.hi a.region)

pub returns-in-Broadcast-clause-reads : goal.returns-in-Broadcast-clause-reads
returns-in-Broadcast-clause-reads c =
    let a = ask_as _ (Broadcast) c.args.sources.now c.args.shape.now c.args.region.now.lo c.args.region.now.hi c.args.number c.args.axis c.in-Broadcast.is c.requires.view c.requires.number c.requires.region c.requires.first c.requires.axis in
    let f = one_source (λ (s : List ℕ). (mismatch_of c.args.shape.now s ≡ None) × (broadcast_of c.args.shape.now s ≡ c.args.shape.now)) c.args.sources.now a.fits in
    let one = f.one in
    let e = first_is c.args.sources.now c.index-sources-0.result (omega arith) c.index-sources-0.is in
    let w = rw e at c.broadcast_way.ensures in
    let m = broadcast_rank c.args.shape.now (get_or c.args.sources.now 0 []) f.holds.1 in
    let l = a.in_source in
    reads_back _ (Broadcast) c.args.sources.now c.args.shape.now c.args.number c.args.region.now.lo c.args.axis c.broadcast_way.result c.in-Broadcast.is
    (λ idx h q. broadcast_reads (get_or c.args.sources.now 0 []) c.args.region.now.lo c.args.shape.now idx c.broadcast_way.result c.args.axis w a.in_source m h (a.first _ (omega arith)))

pub returns-in-Concat-clause-over : goal.returns-in-Concat-clause-over
returns-in-Concat-clause-over c =
    let a = ask_as _ (Concat c.in-Concat.axis) c.args.sources.now c.args.shape.now c.args.region.now.lo c.args.region.now.hi c.args.number c.args.axis c.in-Concat.is c.requires.view c.requires.number c.requires.region c.requires.first c.requires.axis in
    let r = lo_length c.args.shape.now c.args.region.now.lo c.args.region.now.hi a.region in
    let m = concat_rank c.in-Concat.axis c.args.sources.now c.args.shape.now c.args.number a.fits a.below in
    let l = a.in_source in
    along_over c.args.region.now.lo c.args.region.now.hi c.along-in-Concat.result c.args.axis 0 c.along-in-Concat.ensures (omega arith)

pub returns-in-Concat-clause-reads : goal.returns-in-Concat-clause-reads
returns-in-Concat-clause-reads c =
    let a = ask_as _ (Concat c.in-Concat.axis) c.args.sources.now c.args.shape.now c.args.region.now.lo c.args.region.now.hi c.args.number c.args.axis c.in-Concat.is c.requires.view c.requires.number c.requires.region c.requires.first c.requires.axis in
    let m = concat_rank c.in-Concat.axis c.args.sources.now c.args.shape.now c.args.number a.fits a.below in
    let l = a.in_source in
    let o = a.fits.below in
    let t = a.fits.along in
    reads_back _ (Concat c.in-Concat.axis) c.args.sources.now c.args.shape.now c.args.number c.args.region.now.lo c.args.axis c.along-in-Concat.result c.in-Concat.is
    (λ idx h e. let n = inside-length c.args.shape.now idx h in let b = inside_at c.args.shape.now idx c.in-Concat.axis h o in concat_reads c.in-Concat.axis c.args.sources.now c.args.region.now.lo idx c.args.number c.along-in-Concat.result c.args.axis c.along-in-Concat.ensures (a.first c.args.axis (omega arith)) (omega arith) a.below (omega arith) e)

pub returns-in-Triangle-clause-over : goal.returns-in-Triangle-clause-over
returns-in-Triangle-clause-over c =
    let a = ask_as _ (Triangle c.in-Triangle.lower c.in-Triangle.k) c.args.sources.now c.args.shape.now c.args.region.now.lo c.args.region.now.hi c.args.number c.args.axis c.in-Triangle.is c.requires.view c.requires.number c.requires.region c.requires.first c.requires.axis in
    let f = one_source (λ (s : List ℕ). (s ≡ c.args.shape.now) × (2 ≤ length c.args.shape.now)) c.args.sources.now a.fits in
    let n : length (get_or c.args.sources.now 0 []) ≡ length c.args.shape.now = ap length f.holds.0 in
    let l = a.in_source in
    let r = lo_length c.args.shape.now c.args.region.now.lo c.args.region.now.hi a.region in
    along_over c.args.region.now.lo c.args.region.now.hi c.along-in-Triangle.result c.args.axis 0 c.along-in-Triangle.ensures (omega arith)
