-- The chunk from which a view makes an input of a map that is made by slabs: its call, and what its front shows.
use Rattle.std.proofs.Common.{◌≡◌, ◌<◌, ◌+◌, ℕ, Bool, true, List, [], ◌∷◌, length, Contains, Some, inl, inr, refl, ap, sym, ◌∙◌, subst, arith, if◌then◌else◌}
use Rattle.std.specs.Prelude.{slice_index, sum_by, OnOk, Result, Ok, Err}
use Rattle.cu_num.specs.Element.{element_bytes}
use Rattle.cu_num.specs.declared.layout.Endian.TheVariants.{Little}
use Rattle.cu_op.specs.Chunks.{cell}
use Rattle.cu_op.specs.TaskView.{TaskView, walk_at}
use Rattle.cu_op.specs.declared.cells.Cell.{Cell}
use Rattle.cu_origin.specs.declared.provenance.Provenance.{Provenance}
use Rattle.cu_origin.specs.declared.provenance.Provenance.TheVariants.{From}
use Rattle.cu_region.proofs.SteadyKeys.{first_or_rest, none_contained}
use Rattle.cu_region.specs.Reading.{key_at, HasFront, IsChunkReadFault}
use Rattle.cu_shape.specs.Index.{quotients}
use Rattle.cu_store.specs.Held.{Contents}
use Rattle.cu_store.specs.Steps.{Shown, NoChange, Steps}
use Rattle.cu_store.specs.declared.faults.TaskFault.{TaskFault}
use Rattle.cu_task.proofs.Fronts.{in_front}
use Rattle.cu_task.proofs.InputReads.{still_fewer}
use Rattle.cu_task.proofs.JobViews.{fitting, of_job}
use Rattle.cu_task.proofs.MadeParts.{alike_made}
use Rattle.cu_task.proofs.PullTask.{has_values, known_sources, source_key, view_fault}
use Rattle.cu_task.proofs.ViewChunks.{exact_tally, hull_meets, origin_inside}
use Rattle.cu_task.proofs.ViewElements.{takes_chunk}
use Rattle.cu_task.specs.Calls.{chunk_calls, chunk_tally}
use Rattle.cu_task.specs.OfTask.{calls_for_walk, cell_weight, stored_elements, tally_for_walk, HasMade, HoldsFor, IsOwnFault}
use Rattle.cu_task.specs.Slabs.{front_room, number_shown, view_task_in, view_type, IsOnlyChunk, IsSlabJob, ShowsInput}
use Rattle.cu_task.specs.Task.{IsTaskKey}
use Rattle.cu_task.specs.ViewJobs.{source_of_chunk, source_room, view_of_chunk, IsKeyOfSource}
use Rattle.cu_task.specs.Views.{may_read, needs_chunk, origin_in, source_tally, tally_for, view_tally, HasCome, HasPulled, IsOfChunk}
use Rattle.cu_task.specs.declared.slab_jobs.SlabJob.{SlabJob}
use Rattle.cu_task.specs.declared.views.SourceChunk.{SourceChunk}
use Rattle.cu_grid.specs.Counts.{IsWithin}

pub first_source : (s n : ℕ) → n ≡ 1 → s < n → s ≡ 0
first_source s n one below = omega (arith, one, below)

only_one : (c d : List ℕ) → Contains (c ∷ []) d → d ≡ c
only_one c d has = elim (first_or_rest c [] d has) [ inl here ↦ here | inr later ↦ absurd (none_contained d later) ]

-- what comes from a source comes from this chunk
pub only_place : (chunk : SourceChunk) → IsOnlyChunk chunk → (idx i : List ℕ) (s : ℕ) → IsWithin (view_of_chunk chunk).lo (view_of_chunk chunk).hi idx → origin_in (view_of_chunk chunk) idx ≡ From s i
    → (chunk.source ≡ s) × IsOfChunk (view_of_chunk chunk) chunk.source chunk.coord i
only_place chunk h idx i s w o =
    let fit = fitting chunk.job.now h.of_source.job in
    let low = (origin_inside (view_of_chunk chunk) fit idx i s w o).source in
    let same : chunk.source ≡ s = first_source chunk.source _ h.one h.of_source.source ∙ sym (first_source s _ h.one low) in
    let meets = hull_meets (view_of_chunk chunk) fit chunk.source h.of_source.source chunk.needed h.of_source.hull idx i w (o ∙ ap (λ (n : ℕ). From n i) (sym same)) in
    (same, only_one chunk.coord _ (subst (λ (xs : List (List ℕ)). Contains xs (quotients i (source_of_chunk chunk).layout.grid.chunk)) h.only meets))

module _ (t : TaskView) (job : SlabJob) (is : IsSlabJob t job) where
  abbrev inner : TaskView
  inner = view_task_in job

  below : job.chunk.now.source < length job.chunk.now.job.now.ins.now
  below = is.only.of_source.source

  -- one call is made for the view, of this chunk
  view_once : (weight : Cell → ℕ) → view_tally weight (view_of_chunk job.chunk.now) (length job.chunk.now.job.now.ins.now) ≡ weight (cell (slice_index job.chunk.now.job.now.ins.now job.chunk.now.source) job.chunk.now.coord)
  view_once weight =
      let v = view_of_chunk job.chunk.now in
      let s = job.chunk.now.source in
      let first = first_source job.chunk.now.source (length job.chunk.now.job.now.ins.now) is.only.one below in
      let reads : may_read (view_of_chunk job.chunk.now) job.chunk.now.source job.chunk.now.coord ≡ true
      = ap (λ (e : Bool). if e then needs_chunk (view_of_chunk job.chunk.now) job.chunk.now.source job.chunk.now.coord else true) is.only.exact ∙ is.only.needed in
      let own : tally_for weight (view_of_chunk job.chunk.now) job.chunk.now.source job.chunk.now.coord ≡ weight (cell (slice_index job.chunk.now.job.now.ins.now job.chunk.now.source) job.chunk.now.coord)
      = ap (λ (b : Bool). if b then weight (cell (slice_index job.chunk.now.job.now.ins.now job.chunk.now.source) job.chunk.now.coord) else 0) reads in
      let all = exact_tally (view_of_chunk job.chunk.now) (fitting job.chunk.now.job.now is.only.of_source.job) job.chunk.now.source below job.chunk.now.needed is.only.of_source.hull weight is.only.exact in
      let cover = ap (sum_by (λ coord. tally_for weight (view_of_chunk job.chunk.now) job.chunk.now.source coord)) is.only.only in
      let one : view_tally weight (view_of_chunk job.chunk.now) 1 ≡ source_tally weight (view_of_chunk job.chunk.now) 0
      = (let e : 0 + source_tally weight (view_of_chunk job.chunk.now) 0 ≡ source_tally weight (view_of_chunk job.chunk.now) 0 = omega arith in e) in
      let single : sum_by (λ coord. tally_for weight (view_of_chunk job.chunk.now) job.chunk.now.source coord) (job.chunk.now.coord ∷ []) ≡ tally_for weight (view_of_chunk job.chunk.now) job.chunk.now.source job.chunk.now.coord
      = omega arith in
      ap (view_tally weight (view_of_chunk job.chunk.now)) is.only.one ∙ one ∙ ap (source_tally weight (view_of_chunk job.chunk.now)) (sym first) ∙ sym all ∙ cover ∙ single ∙ own

  pub fetched_calls : calls_for_walk t (walk_at t job.place) ≡ 1
  fetched_calls =
      sym is.maps.inside.calls ∙ (of_job job.chunk.now.job.now is.only.of_source.job).calls (chunk_calls inner.plan inner.op) ∙ view_once (λ c. 1)

  pub fetched_tally : (weight : List ℕ → ℕ) → tally_for_walk weight t (walk_at t job.place) ≡ weight (key_at (source_of_chunk job.chunk.now) job.chunk.now.coord)
  fetched_tally weight =
      sym (is.maps.inside.tally weight)
      ∙ (of_job job.chunk.now.job.now is.only.of_source.job).tally (cell_weight weight inner) (chunk_tally (cell_weight weight inner) inner.plan inner.op)
      ∙ view_once (cell_weight weight inner)

  -- its key is one of the task's, and its fault too
  pub fetched_key : (key : List ℕ) → IsKeyOfSource job.chunk.now key → IsTaskKey t.plan t.op t.number key
  fetched_key key here =
      let o = of_job job.chunk.now.job.now is.only.of_source.job in
      is.maps.inside.keys key (source_key inner.plan is.only.of_source.job.sound inner.op inner.number inner.operation job.chunk.now.job.now.pull.now job.chunk.now.job.now.ins.now o job.chunk.now.source key below here)

  pub fetched_fault : (old new : Shown) (e : TaskFault) → IsChunkReadFault old new (IsKeyOfSource job.chunk.now) (source_room (view_of_chunk job.chunk.now) job.chunk.now.source) e → IsOwnFault t old new e
  fetched_fault old new e fault =
      let o = of_job job.chunk.now.job.now is.only.of_source.job in
      is.maps.inside.faults old new e
      (view_fault inner.plan is.only.of_source.job.sound inner.op inner.number inner.operation job.chunk.now.job.now.pull.now job.chunk.now.job.now.ins.now o old new e (job.chunk.now.source, below, fault))

  -- what its front shows
  pub front_shows : (held : Contents) (old new : Shown) (front : List ℕ) → length front ≡ front_room job → HoldsFor t held old → Steps NoChange 1 1 old new
      → HasFront (source_of_chunk job.chunk.now) job.chunk.now.coord new.held front → ShowsInput t job held front
  front_shows held old new front long still step has whole shown =
      let h = is.only.of_source in
      let o = of_job job.chunk.now.job.now is.only.of_source.job in
      let v = view_of_chunk job.chunk.now in
      let fit = fitting job.chunk.now.job.now is.only.of_source.job in
      let fewer = still_fewer (IsTaskKey t.plan t.op t.number) (IsTaskKey inner.plan inner.op inner.number) held old is.maps.inside.keys still in
      let known = known_sources inner.plan is.only.of_source.job.sound inner.op inner.number inner.operation job.chunk.now.job.now.pull.now job.chunk.now.job.now.ins.now o fewer.now old (fewer.told, fewer.steady) job.chunk.now.source below in
      let takes = takes_chunk (view_of_chunk job.chunk.now) fit job.chunk.now.source job.chunk.now.coord front whole whole (Some fewer.now) 1 1 old new below known step has
      (λ idx i w o part. in_front job.chunk.now is.only.of_source job.front is.front front long idx i w o part)
      (record {
        moved = λ idx i w o part. shown idx w ∙ ap (λ (x : Provenance). element_bytes Little (view_type job.chunk.now) (number_shown job.chunk.now front x)) o;
        others = λ idx w none. refl;
      }) in
      let pulled : HasPulled (view_of_chunk job.chunk.now) (length job.chunk.now.job.now.ins.now) (Some fewer.now) whole = record {
        come = λ idx i s w from low.
            let (same, part) = only_place job.chunk.now is.only idx i s w from in
            let origin = from ∙ ap (λ (n : ℕ). From n i) (sym same) in
            subst (λ (n : ℕ). HasCome (view_of_chunk job.chunk.now) (Some fewer.now) whole idx n i) same (takes.come idx i w origin part);
        constants = λ idx x w o. shown idx w ∙ ap (λ (y : Provenance). element_bytes Little (view_type job.chunk.now) (number_shown job.chunk.now front y)) o;
      } in
      let made : HasMade inner (stored_elements inner fewer.now) whole = λ idx w. o.value _ idx ∙ has_values (view_of_chunk job.chunk.now) fit fewer.now whole pulled idx w in
      let all = alike_made inner is.only.of_source.job.sound held old [] whole o.whole o.stores fewer made in
      is.maps.inside.values held whole all.output

pub on_ok_always : {T E A : Type 0} (r : Result T E) → A → OnOk r A
on_ok_always (Ok x) a = a
on_ok_always (Err e) a = tt
