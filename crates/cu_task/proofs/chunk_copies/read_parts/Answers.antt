use Rattle.std.proofs.Common.{◌≡◌, List, [], ◌∷◌, ℕ, length, Contains, refl, ap, sym, ◌∙◌, subst, arith}
use Rattle.std.specs.Prelude.{sum_by}
use Rattle.std.proofs.lemmas.Result.{err_from_is_err_and}
use Rattle.cu_grid.specs.Counts.{IsRegion}
use Rattle.cu_grid.specs.Cover.{covering}
use Rattle.cu_grid.proofs.Meeting.{exact_of}
use Rattle.cu_store.specs.Chunks.{Adds}
use Rattle.cu_store.specs.Steps.{NoChange, Steps}
use Rattle.cu_store.proofs.StaysOpen.{open_same, open_then}
use Rattle.cu_store.proofs.Steps.{steps_then}
use Rattle.cu_op.specs.Arrays.{array_at, grid_at}
use Rattle.cu_op.specs.declared.layout.ArrayInfo.{ArrayInfo}
use Rattle.cu_region.specs.Calls.{chunks_met, region_tally, Made}
use Rattle.cu_region.specs.Reading.{key_at}
use Rattle.cu_region.proofs.Calls.{StepsSoFar, steps_none_yet, steps_one_more, steps_most, steps_made, TallySoFar, tally_none_yet, tally_one_more, tally_all}
use Rattle.cu_region.proofs.SteadyKeys.{first_contains, rest_contains}
use Rattle.cu_task.specs.ChunkCopies.{region_chunks, HasEachPart}
use Rattle.cu_task.specs.Inputs.{IsWalkKey}
use Rattle.cu_task.proofs.ChunkParts.{ComesSoFar, IsAnElement, IsHeldElement}
use Rattle.cu_task.proofs.InputReads.{still_after, walk_tally}
use Rattle.cu_task.proofs.ChunkReads.{all_elements, all_held, chunk_fault, chunk_key, elements_more, from_array, held_more, none_read, walk_calls}
use Rattle.cu_task.proofs.chunk_copies.read_parts.Goals as goal

pub array-from-requires : goal.array-from-requires
array-from-requires g c = c.requires.copy.reads.0

pub cover-coord-items-requires : goal.cover-coord-items-requires
cover-coord-items-requires g c = subst (λ (i : ArrayInfo). IsRegion i.layout.grid.shape c.args.walk.now.region.lo c.args.walk.now.region.hi) (sym c.array-from.ensures.array) c.requires.copy.reads.1

pub loop-coord-init : goal.loop-coord-init
loop-coord-init g c =
    let grid = grid_at c.args.task.now.plan.arrays c.args.walk.now.array in
    let e : c.into_iter-coord-iterator.result ≡ covering (grid_at c.args.task.now.plan.arrays c.args.walk.now.array).chunk c.args.walk.now.region.lo c.args.walk.now.region.hi
    = c.into_iter-coord-iterator.ensures.into_iter_gives ∙ c.cover-coord-items.ensures.chunks ∙ ap (λ (i : ArrayInfo). covering i.layout.grid.chunk c.args.walk.now.region.lo c.args.walk.now.region.hi) c.array-from.ensures.array in
    let ok = (from_array c.args.task.now c.args.walk.now c.requires.copy).grid in
    let exact = exact_of (grid_at c.args.task.now.plan.arrays c.args.walk.now.array) c.args.walk.now.region.lo c.args.walk.now.region.hi c.into_iter-coord-iterator.result ok c.requires.copy.reads.1 e in
    record {
      left = λ coord has. (exact coord).0 has;
      step = steps_none_yet NoChange (chunks_met (grid_at c.args.task.now.plan.arrays c.args.walk.now.array) c.args.walk.now.region.lo c.args.walk.now.region.hi) (length c.into_iter-coord-iterator.result) (g.C.Chunks.shown c.args.access.now) (ap length e);
      open_ = open_same (g.C.Chunks.may_get c.args.store.now c.args.access.now) c.requires.belongs;
      read = λ held still. none_read c.args.task.now c.args.walk.now c.requires.copy (IsHeldElement c.args.task.now (array_at c.args.task.now.plan.arrays c.args.walk.now.array) held) c.into_iter-coord-iterator.result c.args.output.now (λ coord meets. (exact coord).1 meets);
      elements = none_read c.args.task.now c.args.walk.now c.requires.copy (IsAnElement c.args.task.now) c.into_iter-coord-iterator.result c.args.output.now (λ coord meets. (exact coord).1 meets);
      called = tally_none_yet (λ coord. g.C.Chunks.weight c.args.store.now (key_at (array_at c.args.task.now.plan.arrays c.args.walk.now.array) coord)) (region_tally (g.C.Chunks.weight c.args.store.now) (array_at c.args.task.now.plan.arrays c.args.walk.now.array) c.args.walk.now.region.lo c.args.walk.now.region.hi) c.into_iter-coord-iterator.result (g.C.Chunks.tally c.args.access.now)
          (ap (sum_by (λ coord. g.C.Chunks.weight c.args.store.now (key_at (array_at c.args.task.now.plan.arrays c.args.walk.now.array) coord))) e);
    }

pub read_into_parts-requires-clause-may : goal.read_into_parts-requires-clause-may
read_into_parts-requires-clause-may g c =
    let e : c.loop-coord.coord-iterator ≡ c.in-Some.coord ∷ c.next.new.self = c.in-Some.ensures.steps in
    let meets = c.loop-coord.invariant.left c.in-Some.coord (subst (λ (x : List (List ℕ)). Contains x c.in-Some.coord) (sym e) (first_contains c.in-Some.coord c.next.new.self)) in
    c.loop-coord.invariant.open_.gets _ (c.requires.may _ (chunk_key c.args.task.now c.args.walk.now c.requires.copy c.in-Some.coord (key_at (array_at c.args.task.now.plan.arrays c.args.walk.now.array) c.in-Some.coord) meets refl))

pub read_into_parts-requires-clause-coordinate : goal.read_into_parts-requires-clause-coordinate
read_into_parts-requires-clause-coordinate g c =
    let e : c.loop-coord.coord-iterator ≡ c.in-Some.coord ∷ c.next.new.self = c.in-Some.ensures.steps in
    (c.loop-coord.invariant.left c.in-Some.coord (subst (λ (x : List (List ℕ)). Contains x c.in-Some.coord) (sym e) (first_contains c.in-Some.coord c.next.new.self))).0

pub loop-coord-preserved : goal.loop-coord-preserved
loop-coord-preserved g c =
    let e : c.loop-coord.coord-iterator ≡ c.in-Some.coord ∷ c.next.new.self = c.in-Some.ensures.steps in
    let meets = c.loop-coord.invariant.left c.in-Some.coord (subst (λ (x : List (List ℕ)). Contains x c.in-Some.coord) (sym e) (first_contains c.in-Some.coord c.next.new.self)) in
    let takes = c.in_ok-read_into_parts.ensures.takes in
    let met = chunks_met (grid_at c.args.task.now.plan.arrays c.args.walk.now.array) c.args.walk.now.region.lo c.args.walk.now.region.hi in
    let so_far = subst (λ (x : List (List ℕ)). StepsSoFar NoChange (chunks_met (grid_at c.args.task.now.plan.arrays c.args.walk.now.array) c.args.walk.now.region.lo c.args.walk.now.region.hi) (length x) (g.C.Chunks.shown c.args.access.now) (g.C.Chunks.shown c.loop-coord.access)) e c.loop-coord.invariant.step in
    record {
      left = λ coord has. c.loop-coord.invariant.left coord (subst (λ (x : List (List ℕ)). Contains x coord) (sym e) (rest_contains c.in-Some.coord c.next.new.self coord has));
      step = steps_one_more NoChange met (length c.next.new.self) (g.C.Chunks.shown c.args.access.now) (g.C.Chunks.shown c.loop-coord.access) (g.C.Chunks.shown c.read_into_parts.new.access) so_far c.read_into_parts.ensures.step;
      open_ = open_then c.loop-coord.invariant.open_ c.read_into_parts.ensures.open;
      read = λ held still.
          let later = still_after (IsWalkKey c.args.task.now.plan.arrays c.args.walk.now) held (g.C.Chunks.shown c.args.access.now) (g.C.Chunks.shown c.read_into_parts.new.access) _ _ still (steps_then c.loop-coord.invariant.step.2 c.read_into_parts.ensures.step) in
          held_more c.args.task.now c.args.walk.now c.requires.copy c.in-Some.coord c.next.new.self held (g.C.Chunks.shown c.read_into_parts.new.access) c.loop-coord.output c.read_into_parts.new.output meets later takes
          (subst (λ (x : List (List ℕ)). HasEachPart c.args.task.now (ComesSoFar c.args.task.now (grid_at c.args.task.now.plan.arrays c.args.walk.now.array) (IsHeldElement c.args.task.now (array_at c.args.task.now.plan.arrays c.args.walk.now.array) held) x) (region_chunks c.args.task.now) c.loop-coord.output) e (c.loop-coord.invariant.read held still));
      elements = elements_more c.args.task.now c.args.walk.now c.requires.copy c.in-Some.coord c.next.new.self (g.C.Chunks.shown c.read_into_parts.new.access).held c.loop-coord.output c.read_into_parts.new.output takes
          (subst (λ (x : List (List ℕ)). HasEachPart c.args.task.now (ComesSoFar c.args.task.now (grid_at c.args.task.now.plan.arrays c.args.walk.now.array) (IsAnElement c.args.task.now) x) (region_chunks c.args.task.now) c.loop-coord.output) e c.loop-coord.invariant.elements);
      called = tally_one_more (λ coord. g.C.Chunks.weight c.args.store.now (key_at (array_at c.args.task.now.plan.arrays c.args.walk.now.array) coord)) (region_tally (g.C.Chunks.weight c.args.store.now) (array_at c.args.task.now.plan.arrays c.args.walk.now.array) c.args.walk.now.region.lo c.args.walk.now.region.hi) c.in-Some.coord c.next.new.self (g.C.Chunks.tally c.args.access.now) (g.C.Chunks.tally c.loop-coord.access) (g.C.Chunks.tally c.read_into_parts.new.access)
          (subst (λ (x : List (List ℕ)). TallySoFar (λ coord. g.C.Chunks.weight c.args.store.now (key_at (array_at c.args.task.now.plan.arrays c.args.walk.now.array) coord)) (region_tally (g.C.Chunks.weight c.args.store.now) (array_at c.args.task.now.plan.arrays c.args.walk.now.array) c.args.walk.now.region.lo c.args.walk.now.region.hi) x (g.C.Chunks.tally c.args.access.now) (g.C.Chunks.tally c.loop-coord.access)) e c.loop-coord.invariant.called) c.read_into_parts.ensures.called;
    }

pub returns-in_err-read_into_parts-clause-step : goal.returns-in_err-read_into_parts-clause-step
returns-in_err-read_into_parts-clause-step g c =
    let e : c.loop-coord.coord-iterator ≡ c.in-Some.coord ∷ c.next.new.self = c.in-Some.ensures.steps in
    let met = chunks_met (grid_at c.args.task.now.plan.arrays c.args.walk.now.array) c.args.walk.now.region.lo c.args.walk.now.region.hi in
    let so_far = subst (λ (x : List (List ℕ)). StepsSoFar NoChange (chunks_met (grid_at c.args.task.now.plan.arrays c.args.walk.now.array) c.args.walk.now.region.lo c.args.walk.now.region.hi) (length x) (g.C.Chunks.shown c.args.access.now) (g.C.Chunks.shown c.loop-coord.access)) e c.loop-coord.invariant.step in
    subst (λ (n : ℕ). Steps NoChange 0 n (g.C.Chunks.shown c.args.access.now) (g.C.Chunks.shown c.read_into_parts.new.access)) (walk_calls c.args.task.now c.args.walk.now c.requires.copy)
    (steps_most NoChange met (length c.next.new.self) (g.C.Chunks.shown c.args.access.now) (g.C.Chunks.shown c.read_into_parts.new.access)
    (steps_one_more NoChange met (length c.next.new.self) (g.C.Chunks.shown c.args.access.now) (g.C.Chunks.shown c.loop-coord.access) (g.C.Chunks.shown c.read_into_parts.new.access) so_far c.read_into_parts.ensures.step))

pub returns-in_err-read_into_parts-clause-cause : goal.returns-in_err-read_into_parts-clause-cause
returns-in_err-read_into_parts-clause-cause g c =
    let e : c.loop-coord.coord-iterator ≡ c.in-Some.coord ∷ c.next.new.self = c.in-Some.ensures.steps in
    let meets = c.loop-coord.invariant.left c.in-Some.coord (subst (λ (x : List (List ℕ)). Contains x c.in-Some.coord) (sym e) (first_contains c.in-Some.coord c.next.new.self)) in
    let p = err_from_is_err_and c.from_residual.result c.from_residual.ensures.1 in
    rw (p.1, p.2) (chunk_fault c.args.task.now c.args.walk.now c.requires.copy c.in-Some.coord (g.C.Chunks.shown c.args.access.now) (g.C.Chunks.shown c.loop-coord.access) (g.C.Chunks.shown c.read_into_parts.new.access) c.in_err-read_into_parts.field-0.0 meets c.loop-coord.invariant.step.2.count c.in_err-read_into_parts.ensures.cause)

pub returns-in_err-read_into_parts-clause-open : goal.returns-in_err-read_into_parts-clause-open
returns-in_err-read_into_parts-clause-open g c = open_then c.loop-coord.invariant.open_ c.read_into_parts.ensures.open

pub returns-clause-open : goal.returns-clause-open
returns-clause-open g c = c.loop-coord.invariant.open_

pub returns-clause-step : goal.returns-clause-step
returns-clause-step g c =
    subst (λ (n : ℕ). Steps NoChange 0 n (g.C.Chunks.shown c.args.access.now) (g.C.Chunks.shown c.loop-coord.access)) (walk_calls c.args.task.now c.args.walk.now c.requires.copy)
    (steps_most NoChange (chunks_met (grid_at c.args.task.now.plan.arrays c.args.walk.now.array) c.args.walk.now.region.lo c.args.walk.now.region.hi) (length c.loop-coord.coord-iterator) (g.C.Chunks.shown c.args.access.now) (g.C.Chunks.shown c.loop-coord.access) c.loop-coord.invariant.step)

pub returns-clause-all : goal.returns-clause-all
returns-clause-all g c =
    let e : c.loop-coord.coord-iterator ≡ [] = c.in-None.ensures.steps.0 in
    subst (λ (n : ℕ). Made n (g.C.Chunks.shown c.args.access.now).calls (g.C.Chunks.shown c.loop-coord.access).calls) (walk_calls c.args.task.now c.args.walk.now c.requires.copy)
    (steps_made NoChange (chunks_met (grid_at c.args.task.now.plan.arrays c.args.walk.now.array) c.args.walk.now.region.lo c.args.walk.now.region.hi) (g.C.Chunks.shown c.args.access.now) (g.C.Chunks.shown c.loop-coord.access)
    (subst (λ (x : List (List ℕ)). StepsSoFar NoChange (chunks_met (grid_at c.args.task.now.plan.arrays c.args.walk.now.array) c.args.walk.now.region.lo c.args.walk.now.region.hi) (length x) (g.C.Chunks.shown c.args.access.now) (g.C.Chunks.shown c.loop-coord.access)) e c.loop-coord.invariant.step))

pub returns-clause-called : goal.returns-clause-called
returns-clause-called g c =
    let e : c.loop-coord.coord-iterator ≡ [] = c.in-None.ensures.steps.0 in
    let total = walk_tally (g.C.Chunks.weight c.args.store.now) c.args.task.now.plan.arrays c.args.walk.now (array_at c.args.task.now.plan.arrays c.args.walk.now.array) refl in
    subst (λ (n : ℕ). Adds n (g.C.Chunks.tally c.args.access.now) (g.C.Chunks.tally c.loop-coord.access)) total
    (tally_all (λ coord. g.C.Chunks.weight c.args.store.now (key_at (array_at c.args.task.now.plan.arrays c.args.walk.now.array) coord)) (region_tally (g.C.Chunks.weight c.args.store.now) (array_at c.args.task.now.plan.arrays c.args.walk.now.array) c.args.walk.now.region.lo c.args.walk.now.region.hi) (g.C.Chunks.tally c.args.access.now) (g.C.Chunks.tally c.loop-coord.access)
    (subst (λ (x : List (List ℕ)). TallySoFar (λ coord. g.C.Chunks.weight c.args.store.now (key_at (array_at c.args.task.now.plan.arrays c.args.walk.now.array) coord)) (region_tally (g.C.Chunks.weight c.args.store.now) (array_at c.args.task.now.plan.arrays c.args.walk.now.array) c.args.walk.now.region.lo c.args.walk.now.region.hi) x (g.C.Chunks.tally c.args.access.now) (g.C.Chunks.tally c.loop-coord.access)) e c.loop-coord.invariant.called))

pub returns-clause-read : goal.returns-clause-read
returns-clause-read g c held still =
    let e : c.loop-coord.coord-iterator ≡ [] = c.in-None.ensures.steps.0 in
    all_held c.args.task.now c.args.walk.now c.requires.copy held c.loop-coord.output (let long = c.loop-coord.auto.output in let room = c.requires.output in omega (arith, long, room))
    (subst (λ (x : List (List ℕ)). HasEachPart c.args.task.now (ComesSoFar c.args.task.now (grid_at c.args.task.now.plan.arrays c.args.walk.now.array) (IsHeldElement c.args.task.now (array_at c.args.task.now.plan.arrays c.args.walk.now.array) held) x) (region_chunks c.args.task.now) c.loop-coord.output) e (c.loop-coord.invariant.read held still))

pub returns-clause-elements : goal.returns-clause-elements
returns-clause-elements g c =
    let e : c.loop-coord.coord-iterator ≡ [] = c.in-None.ensures.steps.0 in
    all_elements c.args.task.now c.args.walk.now c.requires.copy c.loop-coord.output (let long = c.loop-coord.auto.output in let room = c.requires.output in omega (arith, long, room))
    (subst (λ (x : List (List ℕ)). HasEachPart c.args.task.now (ComesSoFar c.args.task.now (grid_at c.args.task.now.plan.arrays c.args.walk.now.array) (IsAnElement c.args.task.now) x) (region_chunks c.args.task.now) c.loop-coord.output) e c.loop-coord.invariant.elements)
