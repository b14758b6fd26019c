use Rattle.std.proofs.Common.{◌≡◌, List, [], ℕ, length, ap, refl, ◌∷◌, Contains, sym, ◌∙◌, subst, inl, inr}
use Rattle.cu_shape.specs.Index.{quotients}
use Rattle.std.proofs.lemmas.Result.{err_from_is_err_and}
use Rattle.cu_region.specs.Reading.{IsChunkKey, key_at, bytes_of}
use Rattle.cu_store.specs.Steps.{NoChange}
use Rattle.cu_store.proofs.Steps.{steps_then}
use Rattle.std.specs.Prelude.{sum_by}
use Rattle.cu_region.specs.Calls.{chunks_met, region_tally}
use Rattle.cu_region.proofs.Calls.{StepsSoFar, steps_none_yet, steps_one_more, steps_most, steps_made, TallySoFar, tally_none_yet, tally_one_more, tally_all}
use Rattle.cu_region.proofs.SteadyKeys.{hold_same, steady_then, first_contains, rest_contains, none_contained}
use Rattle.cu_region.proofs.StoredReads.{ReadsSoFar, reads_more, meets_own, fault_more, settled_region}
use Rattle.cu_store.proofs.StaysOpen.{open_same, open_then}
use Rattle.cu_region.proofs.read.read_region_of.Goals as goal

pub loop-coord-init : goal.loop-coord-init
loop-coord-init g c =
    let e : c.into_iter-coord-iterator.result ≡ c.cover-coord-items.result = c.into_iter-coord-iterator.ensures.into_iter_gives in
    let long : length c.into_iter-coord-iterator.result ≡ length c.cover-coord-items.result = ap length e in
    let all : length c.cover-coord-items.result ≡ chunks_met c.args.info.now.layout.grid c.args.region.now.lo c.args.region.now.hi = ap length c.cover-coord-items.ensures.chunks in
    record {
      left = λ coord has. (c.cover-coord-items.ensures.exactly coord).0 (subst (λ (x : List (List ℕ)). Contains x coord) e has);
      step = steps_none_yet NoChange (chunks_met c.args.info.now.layout.grid c.args.region.now.lo c.args.region.now.hi) (length c.into_iter-coord-iterator.result) (g.C.Chunks.shown c.args.access.now) (long ∙ all);
      open_ = open_same (g.C.Chunks.may_get c.args.store.now c.args.access.now) c.requires.belongs;
      read = λ steady idx w. inl (subst (λ (x : List (List ℕ)). Contains x (quotients idx c.args.info.now.layout.grid.chunk)) (sym e)
          ((c.cover-coord-items.ensures.exactly (quotients idx c.args.info.now.layout.grid.chunk)).1
          (meets_own c.args.info.now c.args.region.now.lo c.args.region.now.hi idx c.cover-coord-items.ensures.kept c.requires.region w)));
      called = tally_none_yet (λ coord. g.C.Chunks.weight c.args.store.now (key_at c.args.info.now coord)) (region_tally (g.C.Chunks.weight c.args.store.now) c.args.info.now c.args.region.now.lo c.args.region.now.hi) c.into_iter-coord-iterator.result (g.C.Chunks.tally c.args.access.now) (ap (sum_by (λ coord. g.C.Chunks.weight c.args.store.now (key_at c.args.info.now coord))) (e ∙ c.cover-coord-items.ensures.chunks));
    }

pub read_part-requires-clause-part : goal.read_part-requires-clause-part
read_part-requires-clause-part g c =
    let e : c.loop-coord.coord-iterator ≡ c.in-Some.coord ∷ c.next.new.self = c.in-Some.ensures.steps in
    let meets = c.loop-coord.invariant.left c.in-Some.coord (subst (λ (x : List (List ℕ)). Contains x c.in-Some.coord) (sym e) (first_contains c.in-Some.coord c.next.new.self)) in
    record {
      short = c.requires.short;
      fill = c.requires.fill;
      grid = c.cover-coord-items.ensures.kept;
      region = c.requires.region;
      meets = meets;
      small = c.requires.coordinates c.in-Some.coord meets;
    }

pub loop-coord-preserved : goal.loop-coord-preserved
loop-coord-preserved g c =
    let e : c.loop-coord.coord-iterator ≡ c.in-Some.coord ∷ c.next.new.self = c.in-Some.ensures.steps in
    let so_far = subst (λ (x : List (List ℕ)). StepsSoFar NoChange (chunks_met c.args.info.now.layout.grid c.args.region.now.lo c.args.region.now.hi) (length x) (g.C.Chunks.shown c.args.access.now) (g.C.Chunks.shown c.loop-coord.access)) e c.loop-coord.invariant.step in
    record {
      left = λ coord has. c.loop-coord.invariant.left coord (subst (λ (x : List (List ℕ)). Contains x coord) (sym e) (rest_contains c.in-Some.coord c.next.new.self coord has));
      step = steps_one_more NoChange (chunks_met c.args.info.now.layout.grid c.args.region.now.lo c.args.region.now.hi) (length c.next.new.self) (g.C.Chunks.shown c.args.access.now) (g.C.Chunks.shown c.loop-coord.access) (g.C.Chunks.shown c.read_part.new.access) so_far c.read_part.ensures.step;
      open_ = open_then c.loop-coord.invariant.open_ c.read_part.ensures.open;
      read = λ steady.
          let mid = steady_then (IsChunkKey c.args.info.now c.args.region.now.lo c.args.region.now.hi) steady c.loop-coord.invariant.step.2 in
          reads_more c.args.info.now c.args.region.now c.in-Some.coord c.loop-coord.out c.read_part.new.out c.next.new.self
          (g.C.Chunks.shown c.loop-coord.access).held (g.C.Chunks.shown c.read_part.new.access).held c.cover-coord-items.ensures.kept c.requires.region (hold_same (IsChunkKey c.args.info.now c.args.region.now.lo c.args.region.now.hi) mid c.read_part.ensures.step) c.in_ok-read_part.ensures.part
          (subst (λ (x : List (List ℕ)). ReadsSoFar c.args.info.now c.args.region.now.lo c.args.region.now.hi (g.C.Chunks.shown c.loop-coord.access).held x c.loop-coord.out) e (c.loop-coord.invariant.read steady));
      called = tally_one_more (λ coord. g.C.Chunks.weight c.args.store.now (key_at c.args.info.now coord)) (region_tally (g.C.Chunks.weight c.args.store.now) c.args.info.now c.args.region.now.lo c.args.region.now.hi) c.in-Some.coord c.next.new.self (g.C.Chunks.tally c.args.access.now) (g.C.Chunks.tally c.loop-coord.access) (g.C.Chunks.tally c.read_part.new.access)
          (subst (λ (x : List (List ℕ)). TallySoFar (λ coord. g.C.Chunks.weight c.args.store.now (key_at c.args.info.now coord)) (region_tally (g.C.Chunks.weight c.args.store.now) c.args.info.now c.args.region.now.lo c.args.region.now.hi) x (g.C.Chunks.tally c.args.access.now) (g.C.Chunks.tally c.loop-coord.access)) e c.loop-coord.invariant.called) c.read_part.ensures.called;
    }

pub returns-in_err-read_part-clause-step : goal.returns-in_err-read_part-clause-step
returns-in_err-read_part-clause-step g c =
    let e : c.loop-coord.coord-iterator ≡ c.in-Some.coord ∷ c.next.new.self = c.in-Some.ensures.steps in
    let so_far = subst (λ (x : List (List ℕ)). StepsSoFar NoChange (chunks_met c.args.info.now.layout.grid c.args.region.now.lo c.args.region.now.hi) (length x) (g.C.Chunks.shown c.args.access.now) (g.C.Chunks.shown c.loop-coord.access)) e c.loop-coord.invariant.step in
    steps_most NoChange (chunks_met c.args.info.now.layout.grid c.args.region.now.lo c.args.region.now.hi) (length c.next.new.self) (g.C.Chunks.shown c.args.access.now) (g.C.Chunks.shown c.read_part.new.access)
    (steps_one_more NoChange (chunks_met c.args.info.now.layout.grid c.args.region.now.lo c.args.region.now.hi) (length c.next.new.self) (g.C.Chunks.shown c.args.access.now) (g.C.Chunks.shown c.loop-coord.access) (g.C.Chunks.shown c.read_part.new.access) so_far c.read_part.ensures.step)

pub returns-clause-step : goal.returns-clause-step
returns-clause-step g c = steps_most NoChange (chunks_met c.args.info.now.layout.grid c.args.region.now.lo c.args.region.now.hi) (length c.loop-coord.coord-iterator) (g.C.Chunks.shown c.args.access.now) (g.C.Chunks.shown c.loop-coord.access) c.loop-coord.invariant.step

pub returns-clause-calls_all : goal.returns-clause-calls_all
returns-clause-calls_all g c =
    let e : c.loop-coord.coord-iterator ≡ [] = c.in-None.ensures.steps.0 in
    steps_made NoChange (chunks_met c.args.info.now.layout.grid c.args.region.now.lo c.args.region.now.hi) (g.C.Chunks.shown c.args.access.now) (g.C.Chunks.shown c.loop-coord.access)
    (subst (λ (x : List (List ℕ)). StepsSoFar NoChange (chunks_met c.args.info.now.layout.grid c.args.region.now.lo c.args.region.now.hi) (length x) (g.C.Chunks.shown c.args.access.now) (g.C.Chunks.shown c.loop-coord.access)) e c.loop-coord.invariant.step)

pub returns-clause-called : goal.returns-clause-called
returns-clause-called g c =
    let e : c.loop-coord.coord-iterator ≡ [] = c.in-None.ensures.steps.0 in
    tally_all (λ coord. g.C.Chunks.weight c.args.store.now (key_at c.args.info.now coord)) (region_tally (g.C.Chunks.weight c.args.store.now) c.args.info.now c.args.region.now.lo c.args.region.now.hi) (g.C.Chunks.tally c.args.access.now) (g.C.Chunks.tally c.loop-coord.access)
    (subst (λ (x : List (List ℕ)). TallySoFar (λ coord. g.C.Chunks.weight c.args.store.now (key_at c.args.info.now coord)) (region_tally (g.C.Chunks.weight c.args.store.now) c.args.info.now c.args.region.now.lo c.args.region.now.hi) x (g.C.Chunks.tally c.args.access.now) (g.C.Chunks.tally c.loop-coord.access)) e c.loop-coord.invariant.called)

pub returns-in_err-read_part-clause-steady : goal.returns-in_err-read_part-clause-steady
returns-in_err-read_part-clause-steady g c steady = steady_then (IsChunkKey c.args.info.now c.args.region.now.lo c.args.region.now.hi) steady (steps_then c.loop-coord.invariant.step.2 c.read_part.ensures.step)

pub returns-in_err-read_part-clause-same : goal.returns-in_err-read_part-clause-same
returns-in_err-read_part-clause-same g c steady = hold_same (IsChunkKey c.args.info.now c.args.region.now.lo c.args.region.now.hi) steady (steps_then c.loop-coord.invariant.step.2 c.read_part.ensures.step)

pub returns-in_err-read_part-clause-cause : goal.returns-in_err-read_part-clause-cause
returns-in_err-read_part-clause-cause g c =
    let e : c.loop-coord.coord-iterator ≡ c.in-Some.coord ∷ c.next.new.self = c.in-Some.ensures.steps in
    let p = err_from_is_err_and c.from_residual.result c.from_residual.ensures.1 in
    rw (p.1, p.2) (fault_more (g.C.Chunks.shown c.args.access.now) (g.C.Chunks.shown c.loop-coord.access) (g.C.Chunks.shown c.read_part.new.access)
    (λ key. key ≡ key_at c.args.info.now c.in-Some.coord) (IsChunkKey c.args.info.now c.args.region.now.lo c.args.region.now.hi) (bytes_of c.args.info.now.layout) c.in_err-read_part.field-0.0
    c.loop-coord.invariant.step.2.count
    (λ key same. (c.in-Some.coord, c.loop-coord.invariant.left c.in-Some.coord (subst (λ (x : List (List ℕ)). Contains x c.in-Some.coord) (sym e) (first_contains c.in-Some.coord c.next.new.self)), same))
    c.in_err-read_part.ensures.cause)

pub returns-clause-steady : goal.returns-clause-steady
returns-clause-steady g c steady = steady_then (IsChunkKey c.args.info.now c.args.region.now.lo c.args.region.now.hi) steady c.loop-coord.invariant.step.2

pub returns-clause-same : goal.returns-clause-same
returns-clause-same g c steady = hold_same (IsChunkKey c.args.info.now c.args.region.now.lo c.args.region.now.hi) steady c.loop-coord.invariant.step.2

pub returns-clause-read : goal.returns-clause-read
returns-clause-read g c steady =
    let e : c.loop-coord.coord-iterator ≡ [] = c.in-None.ensures.steps.0 in
    settled_region c.args.info.now c.args.region.now.lo c.args.region.now.hi c.loop-coord.out c.settle.new.bytes (g.C.Chunks.shown c.loop-coord.access).held (c.loop-coord.auto.out ∙ c.requires.out_length) c.settle.ensures
    (λ idx w. elim (c.loop-coord.invariant.read steady idx w) [
      | inl left ↦ absurd (none_contained (quotients idx c.args.info.now.layout.grid.chunk) (subst (λ (x : List (List ℕ)). Contains x (quotients idx c.args.info.now.layout.grid.chunk)) e left))
      | inr stored ↦ stored
    ])

pub read_part-requires-clause-may : goal.read_part-requires-clause-may
read_part-requires-clause-may g c =
    let e : c.loop-coord.coord-iterator ≡ c.in-Some.coord ∷ c.next.new.self = c.in-Some.ensures.steps in
    let meets = c.loop-coord.invariant.left c.in-Some.coord (subst (λ (x : List (List ℕ)). Contains x c.in-Some.coord) (sym e) (first_contains c.in-Some.coord c.next.new.self)) in
    c.loop-coord.invariant.open_.gets (key_at c.args.info.now c.in-Some.coord) (c.requires.may (key_at c.args.info.now c.in-Some.coord) (c.in-Some.coord, meets, refl))

pub returns-in_err-read_part-clause-open : goal.returns-in_err-read_part-clause-open
returns-in_err-read_part-clause-open g c = open_then c.loop-coord.invariant.open_ c.read_part.ensures.open

pub returns-clause-open : goal.returns-clause-open
returns-clause-open g c = c.loop-coord.invariant.open_
