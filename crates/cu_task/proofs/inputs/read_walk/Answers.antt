use Rattle.std.proofs.Common.{ℕ, List, Some, Option, sym, subst, ◌≡◌, ◌∙◌, ap, length}
use Rattle.cu_grid.specs.Cover.{Meets, covering}
use Rattle.cu_store.specs.Held.{Contents}
use Rattle.cu_op.specs.Arrays.{array_at, grid_at, no_array}
use Rattle.cu_op.specs.declared.layout.ArrayInfo.{ArrayInfo}
use Rattle.cu_op.proofs.CellsOfTasks.{coordinates_small}
use Rattle.cu_op.proofs.Plans.{grid_ok}
use Rattle.cu_region.specs.Reading.{IsChunkKey}
use Rattle.cu_region.specs.Steady.{IsSteady, HoldSame}
use Rattle.cu_task.proofs.InputReads.{reads_before, walk_key, walk_fault, on_err_more, on_ok_then, walk_tally}
use Rattle.std.specs.Prelude.{OnOk}
use Rattle.std.proofs.lemmas.List.{length-map}
use Rattle.cu_store.specs.Steps.{NoChange, Steps}
use Rattle.cu_op.specs.Layout.{IsArray}
use Rattle.cu_op.specs.Walks.{walk_cells}
use Rattle.cu_op.specs.Chunks.{cell}
use Rattle.cu_region.specs.Calls.{Made, chunks_met}
use Rattle.cu_op.specs.declared.walks.Walk.{Walk}
use Rattle.cu_store.specs.Chunks.{Adds}
use Rattle.cu_task.proofs.inputs.read_walk.Goals as goal

pub read_region_of-requires-clause-coordinates : goal.read_region_of-requires-clause-coordinates
read_region_of-requires-clause-coordinates g c coord m =
    let meets = subst (λ (i : ArrayInfo). Meets i.layout.grid c.args.walk.now.region.lo c.args.walk.now.region.hi coord) c.array.ensures.array m in
    coordinates_small c.args.task.now.plan c.args.walk.now.array coord c.array.ensures.sound c.requires.walk.0 meets.0

pub returns-clause-read : goal.returns-clause-read
returns-clause-read g c held still =
    let ok = grid_ok c.args.task.now.plan c.args.walk.now.array c.array.ensures.sound c.requires.walk.0 in
    let K : List ℕ → Type 0 = IsChunkKey (array_at c.args.task.now.plan.arrays c.args.walk.now.array) c.args.walk.now.region.lo c.args.walk.now.region.hi in
    let own : IsSteady K (Some still.now) (g.C.Chunks.shown c.args.access.now).late = λ key bytes here among. still.steady key bytes (walk_key c.args.task.now.plan.arrays c.args.walk.now key ok c.requires.walk here) among in
    let start : IsSteady K (g.C.Chunks.shown c.args.access.now).held (g.C.Chunks.shown c.args.access.now).late = subst (λ (o : Option Contents). IsSteady K o (g.C.Chunks.shown c.args.access.now).late) (sym still.told) own in
    let reads = (rw c.array.ensures.array at c.read_region_of.ensures.read) start in
    let same : HoldSame K (Some still.now) (g.C.Chunks.shown c.read_region_of.new.access).held = subst (λ (o : Option Contents). HoldSame K o (g.C.Chunks.shown c.read_region_of.new.access).held) still.told
    ((rw c.array.ensures.array at c.read_region_of.ensures.same) start) in
    on_ok_then c.read_region_of.result
    (λ read. reads_before (array_at c.args.task.now.plan.arrays c.args.walk.now.array) c.args.walk.now.region.lo c.args.walk.now.region.hi c.read_region_of.new.out held (Some still.now) ok c.requires.walk.1 (λ key here. still.same key (walk_key c.args.task.now.plan.arrays c.args.walk.now key ok c.requires.walk here))
    (reads_before (array_at c.args.task.now.plan.arrays c.args.walk.now.array) c.args.walk.now.region.lo c.args.walk.now.region.hi c.read_region_of.new.out still.now (g.C.Chunks.shown c.read_region_of.new.access).held ok c.requires.walk.1 same read))
    reads

pub returns-clause-cause : goal.returns-clause-cause
returns-clause-cause g c =
    let ok = grid_ok c.args.task.now.plan c.args.walk.now.array c.array.ensures.sound c.requires.walk.0 in
    on_err_more c.read_region_of.result
    (λ e h. walk_fault (g.C.Chunks.shown c.args.access.now) (g.C.Chunks.shown c.read_region_of.new.access) c.args.task.now.plan.arrays c.args.walk.now e ok c.requires.walk h)
    (rw c.array.ensures.array at c.read_region_of.ensures.cause)

pub read_region_of-requires-clause-may : goal.read_region_of-requires-clause-may
read_region_of-requires-clause-may g c =
    let ok = grid_ok c.args.task.now.plan c.args.walk.now.array c.array.ensures.sound c.requires.walk.0 in
    rw c.array.ensures.array (λ key here. c.requires.may key (walk_key c.args.task.now.plan.arrays c.args.walk.now key ok c.requires.walk here))

-- the chunks that a region meets are the cells of its walk
walk_calls : (arrays : List ArrayInfo) (w : Walk) (i : ArrayInfo) → i ≡ array_at arrays w.array → chunks_met i.layout.grid w.region.lo w.region.hi ≡ length (walk_cells arrays w)
walk_calls arrays w i e = ap (λ (a : ArrayInfo). chunks_met a.layout.grid w.region.lo w.region.hi) e ∙ sym (length-map (covering (grid_at arrays w.array).chunk w.region.lo w.region.hi) (cell w.array))

pub read_region_of-requires-clause-belongs : goal.read_region_of-requires-clause-belongs
read_region_of-requires-clause-belongs g c = c.requires.belongs

pub read_region_of-requires-clause-short : goal.read_region_of-requires-clause-short
read_region_of-requires-clause-short g c = (subst IsArray (sym c.array.ensures.array) (c.array.ensures.sound.arrays c.args.walk.now.array no_array c.requires.walk.0)).short

pub read_region_of-requires-clause-fill : goal.read_region_of-requires-clause-fill
read_region_of-requires-clause-fill g c = (subst IsArray (sym c.array.ensures.array) (c.array.ensures.sound.arrays c.args.walk.now.array no_array c.requires.walk.0)).fill

pub read_region_of-requires-clause-region : goal.read_region_of-requires-clause-region
read_region_of-requires-clause-region g c = rw c.array.ensures.array c.requires.walk.1

pub read_region_of-requires-clause-out_length : goal.read_region_of-requires-clause-out_length
read_region_of-requires-clause-out_length g c = rw c.array.ensures.array c.requires.room

pub read_region_of-requires-clause-scratch_length : goal.read_region_of-requires-clause-scratch_length
read_region_of-requires-clause-scratch_length g c = rw c.array.ensures.array c.requires.scratch

pub returns-clause-open : goal.returns-clause-open
returns-clause-open g c = c.read_region_of.ensures.open

pub returns-clause-elements : goal.returns-clause-elements
returns-clause-elements g c = rw c.array.ensures.array at c.read_region_of.ensures.elements

pub returns-clause-step : goal.returns-clause-step
returns-clause-step g c =
    let calls = walk_calls c.args.task.now.plan.arrays c.args.walk.now c.array.result.now c.array.ensures.array in
    subst (λ (n : ℕ). Steps NoChange 0 n (g.C.Chunks.shown c.args.access.now) (g.C.Chunks.shown c.read_region_of.new.access)) calls c.read_region_of.ensures.step

pub returns-clause-all : goal.returns-clause-all
returns-clause-all g c =
    let calls = walk_calls c.args.task.now.plan.arrays c.args.walk.now c.array.result.now c.array.ensures.array in
    subst (λ (n : ℕ). OnOk c.read_region_of.result (Made n (g.C.Chunks.shown c.args.access.now).calls (g.C.Chunks.shown c.read_region_of.new.access).calls)) calls c.read_region_of.ensures.calls_all

pub returns-clause-called : goal.returns-clause-called
returns-clause-called g c =
    let tally = walk_tally (g.C.Chunks.weight c.args.store.now) c.args.task.now.plan.arrays c.args.walk.now c.array.result.now c.array.ensures.array in
    subst (λ (n : ℕ). OnOk c.read_region_of.result (Adds n (g.C.Chunks.tally c.args.access.now) (g.C.Chunks.tally c.read_region_of.new.access))) tally c.read_region_of.ensures.called
