use Rattle.std.proofs.Common.{◌≡◌, ℕ, List, [], ◌∷◌, Contains, ap, sym, ◌∙◌, subst}
use Rattle.std.specs.List.{count_by}
use Rattle.std.proofs.lemmas.Result.{err_from_is_err_and}
use Rattle.cu_grid.specs.Counts.{IsRegion}
use Rattle.cu_grid.specs.Cover.{covering}
use Rattle.cu_op.specs.declared.layout.ArrayInfo.{ArrayInfo}
use Rattle.cu_region.proofs.SteadyKeys.{first_contains, rest_contains}
use Rattle.cu_region.proofs.StoredReads.{fault_more}
use Rattle.std.specs.Prelude.{sum_by}
use Rattle.cu_region.proofs.Calls.{TallySoFar, tally_none_yet, tally_one_more, tally_all}
use Rattle.cu_store.specs.Chunks.{Adds}
use Rattle.cu_task.specs.ViewJobs.{buffer_in, job_weight, view_task_of, source_room}
use Rattle.cu_task.specs.Views.{source_in, may_read, tally_for, IsSourceKey, IsOfChunk}
use Rattle.cu_task.proofs.JobViews.{fitting}
use Rattle.cu_task.proofs.ViewChunks.{CallsSoFar, calls_none_yet, calls_one_more, calls_most, cover_calls, cover_coordinate, all_calls, exact_tally, sure_made}
use Rattle.cu_task.proofs.ViewElements.{SoFar, so_far_none, so_far_more, so_far_all, takes_before, known_after}
use Rattle.cu_store.proofs.StaysOpen.{open_same, open_then}
use Rattle.cu_task.proofs.views.read_within.Goals as goal

pub cover-coord-items-requires : goal.cover-coord-items-requires
cover-coord-items-requires g c = subst (λ (a : ArrayInfo). IsRegion a.layout.grid.shape c.args.part.now.region.lo c.args.part.now.region.hi) (sym c.source_array-from.ensures) c.requires.part.hull.0

pub loop-coord-init : goal.loop-coord-init
loop-coord-init g c =
    let e : c.into_iter-coord-iterator.result ≡ covering (source_in (view_task_of c.args.part.now.job.now) c.args.part.now.source).layout.grid.chunk c.args.part.now.region.lo c.args.part.now.region.hi
    = c.into_iter-coord-iterator.ensures.into_iter_gives ∙ c.cover-coord-items.ensures.chunks ∙ ap (λ (a : ArrayInfo). covering a.layout.grid.chunk c.args.part.now.region.lo c.args.part.now.region.hi) c.source_array-from.ensures in
    let fit = fitting c.args.part.now.job.now c.requires.part.job in
    record {
      left = λ coord has. cover_coordinate (view_task_of c.args.part.now.job.now) fit c.args.part.now.source c.requires.part.source c.args.part.now.region c.requires.part.hull coord (subst (λ (x : List (List ℕ)). Contains x coord) e has);
      calls = calls_none_yet (view_task_of c.args.part.now.job.now) c.args.part.now.source (count_by (may_read (view_task_of c.args.part.now.job.now) c.args.part.now.source) (covering (source_in (view_task_of c.args.part.now.job.now) c.args.part.now.source).layout.grid.chunk c.args.part.now.region.lo c.args.part.now.region.hi)) c.into_iter-coord-iterator.result (g.C.Chunks.shown c.args.access.now)
          (ap (count_by (may_read (view_task_of c.args.part.now.job.now) c.args.part.now.source)) e);
      open_ = open_same (g.C.Chunks.may_get c.args.store.now c.args.access.now) c.requires.belongs;
      takes = λ told known. so_far_none (view_task_of c.args.part.now.job.now) fit c.args.part.now.source c.requires.part.source c.args.part.now.region c.requires.part.hull told c.into_iter-coord-iterator.result (buffer_in (view_task_of c.args.part.now.job.now) c.args.room.now) (λ coord has. subst (λ (x : List (List ℕ)). Contains x coord) (sym e) has);
      called = λ exact. tally_none_yet (λ coord. tally_for (job_weight (g.C.Chunks.weight c.args.store.now) c.args.part.now.job.now) (view_task_of c.args.part.now.job.now) c.args.part.now.source coord) (sum_by (λ coord. tally_for (job_weight (g.C.Chunks.weight c.args.store.now) c.args.part.now.job.now) (view_task_of c.args.part.now.job.now) c.args.part.now.source coord) (covering (source_in (view_task_of c.args.part.now.job.now) c.args.part.now.source).layout.grid.chunk c.args.part.now.region.lo c.args.part.now.region.hi)) c.into_iter-coord-iterator.result (g.C.Chunks.tally c.args.access.now) (ap (sum_by (λ coord. tally_for (job_weight (g.C.Chunks.weight c.args.store.now) c.args.part.now.job.now) (view_task_of c.args.part.now.job.now) c.args.part.now.source coord)) e);
    }

pub read_piece-requires-clause-chunk : goal.read_piece-requires-clause-chunk
read_piece-requires-clause-chunk g c =
    let e : c.loop-coord.coord-iterator ≡ c.in-Some.coord ∷ c.next.new.self = c.in-Some.ensures.steps in
    record {
      job = c.requires.part.job;
      source = c.requires.part.source;
      coordinate = c.loop-coord.invariant.left c.in-Some.coord (subst (λ (x : List (List ℕ)). Contains x c.in-Some.coord) (sym e) (first_contains c.in-Some.coord c.next.new.self));
      hull = c.requires.part.hull;
    }

pub loop-coord-preserved : goal.loop-coord-preserved
loop-coord-preserved g c =
    let e : c.loop-coord.coord-iterator ≡ c.in-Some.coord ∷ c.next.new.self = c.in-Some.ensures.steps in
    let total = count_by (may_read (view_task_of c.args.part.now.job.now) c.args.part.now.source) (covering (source_in (view_task_of c.args.part.now.job.now) c.args.part.now.source).layout.grid.chunk c.args.part.now.region.lo c.args.part.now.region.hi) in
    let so_far = subst (λ (x : List (List ℕ)). CallsSoFar (view_task_of c.args.part.now.job.now) c.args.part.now.source (count_by (may_read (view_task_of c.args.part.now.job.now) c.args.part.now.source) (covering (source_in (view_task_of c.args.part.now.job.now) c.args.part.now.source).layout.grid.chunk c.args.part.now.region.lo c.args.part.now.region.hi)) x (g.C.Chunks.shown c.args.access.now) (g.C.Chunks.shown c.loop-coord.access)) e c.loop-coord.invariant.calls in
    record {
      left = λ coord has. c.loop-coord.invariant.left coord (subst (λ (x : List (List ℕ)). Contains x coord) (sym e) (rest_contains c.in-Some.coord c.next.new.self coord has));
      calls = calls_one_more (view_task_of c.args.part.now.job.now) c.args.part.now.source total c.in-Some.coord c.next.new.self (g.C.Chunks.shown c.args.access.now) (g.C.Chunks.shown c.loop-coord.access) (g.C.Chunks.shown c.read_piece.new.access) so_far c.read_piece.ensures.step;
      open_ = open_then c.loop-coord.invariant.open_ c.read_piece.ensures.open;
      takes = λ told known.
          let later = known_after (view_task_of c.args.part.now.job.now) c.args.part.now.source told total c.loop-coord.coord-iterator (g.C.Chunks.shown c.args.access.now) (g.C.Chunks.shown c.loop-coord.access) known c.loop-coord.invariant.calls in
          so_far_more (view_task_of c.args.part.now.job.now) c.args.part.now.source told c.in-Some.coord c.next.new.self (buffer_in (view_task_of c.args.part.now.job.now) c.args.room.now) (buffer_in (view_task_of c.args.part.now.job.now) c.loop-coord.room) (buffer_in (view_task_of c.args.part.now.job.now) c.read_piece.new.room)
          (subst (λ (x : List (List ℕ)). SoFar (view_task_of c.args.part.now.job.now) c.args.part.now.source told x (buffer_in (view_task_of c.args.part.now.job.now) c.args.room.now) (buffer_in (view_task_of c.args.part.now.job.now) c.loop-coord.room)) e (c.loop-coord.invariant.takes told known))
          (takes_before (view_task_of c.args.part.now.job.now) (fitting c.args.part.now.job.now c.requires.part.job) c.args.part.now.source (IsOfChunk (view_task_of c.args.part.now.job.now) c.args.part.now.source c.in-Some.coord) told (g.C.Chunks.shown c.loop-coord.access) later (buffer_in (view_task_of c.args.part.now.job.now) c.loop-coord.room) (buffer_in (view_task_of c.args.part.now.job.now) c.read_piece.new.room) (c.in_ok-read_piece.ensures.takes later.now later.known));
      called = λ exact. tally_one_more (λ coord. tally_for (job_weight (g.C.Chunks.weight c.args.store.now) c.args.part.now.job.now) (view_task_of c.args.part.now.job.now) c.args.part.now.source coord) (sum_by (λ coord. tally_for (job_weight (g.C.Chunks.weight c.args.store.now) c.args.part.now.job.now) (view_task_of c.args.part.now.job.now) c.args.part.now.source coord) (covering (source_in (view_task_of c.args.part.now.job.now) c.args.part.now.source).layout.grid.chunk c.args.part.now.region.lo c.args.part.now.region.hi)) c.in-Some.coord c.next.new.self (g.C.Chunks.tally c.args.access.now) (g.C.Chunks.tally c.loop-coord.access) (g.C.Chunks.tally c.read_piece.new.access)
          (subst (λ (x : List (List ℕ)). TallySoFar (λ coord. tally_for (job_weight (g.C.Chunks.weight c.args.store.now) c.args.part.now.job.now) (view_task_of c.args.part.now.job.now) c.args.part.now.source coord) (sum_by (λ coord. tally_for (job_weight (g.C.Chunks.weight c.args.store.now) c.args.part.now.job.now) (view_task_of c.args.part.now.job.now) c.args.part.now.source coord) (covering (source_in (view_task_of c.args.part.now.job.now) c.args.part.now.source).layout.grid.chunk c.args.part.now.region.lo c.args.part.now.region.hi)) x (g.C.Chunks.tally c.args.access.now) (g.C.Chunks.tally c.loop-coord.access)) e (c.loop-coord.invariant.called exact)) (c.read_piece.ensures.called exact);
    }

pub returns-clause-takes : goal.returns-clause-takes
returns-clause-takes g c told known =
    let e : c.loop-coord.coord-iterator ≡ [] = c.in-None.ensures.steps.0 in
    so_far_all (view_task_of c.args.part.now.job.now) c.args.part.now.source told (buffer_in (view_task_of c.args.part.now.job.now) c.args.room.now) (buffer_in (view_task_of c.args.part.now.job.now) c.loop-coord.room) (subst (λ (x : List (List ℕ)). SoFar (view_task_of c.args.part.now.job.now) c.args.part.now.source told x (buffer_in (view_task_of c.args.part.now.job.now) c.args.room.now) (buffer_in (view_task_of c.args.part.now.job.now) c.loop-coord.room)) e (c.loop-coord.invariant.takes told known))

pub returns-clause-step : goal.returns-clause-step
returns-clause-step g c =
    calls_most (view_task_of c.args.part.now.job.now) c.args.part.now.source (count_by (may_read (view_task_of c.args.part.now.job.now) c.args.part.now.source) (covering (source_in (view_task_of c.args.part.now.job.now) c.args.part.now.source).layout.grid.chunk c.args.part.now.region.lo c.args.part.now.region.hi)) c.loop-coord.coord-iterator (g.C.Chunks.shown c.args.access.now) (g.C.Chunks.shown c.loop-coord.access) c.loop-coord.invariant.calls
    (cover_calls (view_task_of c.args.part.now.job.now) (fitting c.args.part.now.job.now c.requires.part.job) c.args.part.now.source c.requires.part.source c.args.part.now.region c.requires.part.hull)

pub returns-clause-all : goal.returns-clause-all
returns-clause-all g c =
    let e : c.loop-coord.coord-iterator ≡ [] = c.in-None.ensures.steps.0 in
    let total = count_by (may_read (view_task_of c.args.part.now.job.now) c.args.part.now.source) (covering (source_in (view_task_of c.args.part.now.job.now) c.args.part.now.source).layout.grid.chunk c.args.part.now.region.lo c.args.part.now.region.hi) in
    sure_made (view_task_of c.args.part.now.job.now) c.args.part.now.source total (g.C.Chunks.shown c.args.access.now) (g.C.Chunks.shown c.loop-coord.access)
    (subst (λ (x : List (List ℕ)). CallsSoFar (view_task_of c.args.part.now.job.now) c.args.part.now.source (count_by (may_read (view_task_of c.args.part.now.job.now) c.args.part.now.source) (covering (source_in (view_task_of c.args.part.now.job.now) c.args.part.now.source).layout.grid.chunk c.args.part.now.region.lo c.args.part.now.region.hi)) x (g.C.Chunks.shown c.args.access.now) (g.C.Chunks.shown c.loop-coord.access)) e c.loop-coord.invariant.calls)
    (all_calls (view_task_of c.args.part.now.job.now) (fitting c.args.part.now.job.now c.requires.part.job) c.args.part.now.source c.requires.part.source c.args.part.now.region c.requires.part.hull)

pub returns-clause-called : goal.returns-clause-called
returns-clause-called g c exact =
    let e : c.loop-coord.coord-iterator ≡ [] = c.in-None.ensures.steps.0 in
    let all = exact_tally (view_task_of c.args.part.now.job.now) (fitting c.args.part.now.job.now c.requires.part.job) c.args.part.now.source c.requires.part.source c.args.part.now.region c.requires.part.hull (job_weight (g.C.Chunks.weight c.args.store.now) c.args.part.now.job.now) exact in
    subst (λ (n : ℕ). Adds n (g.C.Chunks.tally c.args.access.now) (g.C.Chunks.tally c.loop-coord.access)) all
    (tally_all (λ coord. tally_for (job_weight (g.C.Chunks.weight c.args.store.now) c.args.part.now.job.now) (view_task_of c.args.part.now.job.now) c.args.part.now.source coord) (sum_by (λ coord. tally_for (job_weight (g.C.Chunks.weight c.args.store.now) c.args.part.now.job.now) (view_task_of c.args.part.now.job.now) c.args.part.now.source coord) (covering (source_in (view_task_of c.args.part.now.job.now) c.args.part.now.source).layout.grid.chunk c.args.part.now.region.lo c.args.part.now.region.hi)) (g.C.Chunks.tally c.args.access.now) (g.C.Chunks.tally c.loop-coord.access) (subst (λ (x : List (List ℕ)). TallySoFar (λ coord. tally_for (job_weight (g.C.Chunks.weight c.args.store.now) c.args.part.now.job.now) (view_task_of c.args.part.now.job.now) c.args.part.now.source coord) (sum_by (λ coord. tally_for (job_weight (g.C.Chunks.weight c.args.store.now) c.args.part.now.job.now) (view_task_of c.args.part.now.job.now) c.args.part.now.source coord) (covering (source_in (view_task_of c.args.part.now.job.now) c.args.part.now.source).layout.grid.chunk c.args.part.now.region.lo c.args.part.now.region.hi)) x (g.C.Chunks.tally c.args.access.now) (g.C.Chunks.tally c.loop-coord.access)) e (c.loop-coord.invariant.called exact)))

pub returns-in_err-read_piece-clause-called : goal.returns-in_err-read_piece-clause-called
returns-in_err-read_piece-clause-called g c exact = let p = err_from_is_err_and c.from_residual.result c.from_residual.ensures.1 in rw p.1 tt

pub returns-in_err-read_piece-clause-step : goal.returns-in_err-read_piece-clause-step
returns-in_err-read_piece-clause-step g c =
    let e : c.loop-coord.coord-iterator ≡ c.in-Some.coord ∷ c.next.new.self = c.in-Some.ensures.steps in
    let total = count_by (may_read (view_task_of c.args.part.now.job.now) c.args.part.now.source) (covering (source_in (view_task_of c.args.part.now.job.now) c.args.part.now.source).layout.grid.chunk c.args.part.now.region.lo c.args.part.now.region.hi) in
    let so_far = subst (λ (x : List (List ℕ)). CallsSoFar (view_task_of c.args.part.now.job.now) c.args.part.now.source (count_by (may_read (view_task_of c.args.part.now.job.now) c.args.part.now.source) (covering (source_in (view_task_of c.args.part.now.job.now) c.args.part.now.source).layout.grid.chunk c.args.part.now.region.lo c.args.part.now.region.hi)) x (g.C.Chunks.shown c.args.access.now) (g.C.Chunks.shown c.loop-coord.access)) e c.loop-coord.invariant.calls in
    calls_most (view_task_of c.args.part.now.job.now) c.args.part.now.source total c.next.new.self (g.C.Chunks.shown c.args.access.now) (g.C.Chunks.shown c.read_piece.new.access)
    (calls_one_more (view_task_of c.args.part.now.job.now) c.args.part.now.source total c.in-Some.coord c.next.new.self (g.C.Chunks.shown c.args.access.now) (g.C.Chunks.shown c.loop-coord.access) (g.C.Chunks.shown c.read_piece.new.access) so_far c.read_piece.ensures.step)
    (cover_calls (view_task_of c.args.part.now.job.now) (fitting c.args.part.now.job.now c.requires.part.job) c.args.part.now.source c.requires.part.source c.args.part.now.region c.requires.part.hull)

pub returns-in_err-read_piece-clause-cause : goal.returns-in_err-read_piece-clause-cause
returns-in_err-read_piece-clause-cause g c =
    let p = err_from_is_err_and c.from_residual.result c.from_residual.ensures.1 in
    rw (p.1, p.2) (fault_more (g.C.Chunks.shown c.args.access.now) (g.C.Chunks.shown c.loop-coord.access) (g.C.Chunks.shown c.read_piece.new.access) (IsSourceKey (view_task_of c.args.part.now.job.now) c.args.part.now.source) (IsSourceKey (view_task_of c.args.part.now.job.now) c.args.part.now.source)
    (source_room (view_task_of c.args.part.now.job.now) c.args.part.now.source) c.in_err-read_piece.field-0.0 c.loop-coord.invariant.calls.2.count (λ key here. here) c.in_err-read_piece.ensures.cause)

pub read_piece-requires-clause-belongs : goal.read_piece-requires-clause-belongs
read_piece-requires-clause-belongs g c = c.loop-coord.invariant.open_.belongs

pub read_piece-requires-clause-may : goal.read_piece-requires-clause-may
read_piece-requires-clause-may g c key here = c.loop-coord.invariant.open_.gets key (c.requires.may key here)

pub returns-in_err-read_piece-clause-open : goal.returns-in_err-read_piece-clause-open
returns-in_err-read_piece-clause-open g c = open_then c.loop-coord.invariant.open_ c.read_piece.ensures.open

pub returns-clause-open : goal.returns-clause-open
returns-clause-open g c = c.loop-coord.invariant.open_
