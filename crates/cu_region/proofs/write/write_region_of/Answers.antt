use Rattle.std.proofs.Common.{◌≡◌, List, ℕ, length, ap, refl, [], ◌∷◌, Contains, sym, ◌∙◌, subst, inl, inr, ◌⊎◌}
use Rattle.std.proofs.lemmas.Result.{err_from_is_err_and}
use Rattle.cu_region.specs.Writing.{RegionPut, StoresChunk}
use Rattle.std.specs.Prelude.{sum_by}
use Rattle.cu_region.specs.Calls.{chunks_met, region_tally}
use Rattle.cu_region.proofs.Calls.{StepsSoFar, steps_none_yet, steps_one_more, steps_most, steps_made, TallySoFar, tally_none_yet, tally_one_more, tally_all}
use Rattle.cu_region.proofs.SteadyKeys.{first_contains, rest_contains, none_contained}
use Rattle.cu_region.proofs.StoredWrites.{stored_more, late_own_then, write_fault_more}
use Rattle.cu_store.proofs.StaysOpen.{open_same, open_then}
use Rattle.cu_region.specs.Reading.{key_at}
use Rattle.cu_region.proofs.Opened.{got_more}
use Rattle.cu_region.proofs.write.write_region_of.Goals as goal

pub loop-coord-init : goal.loop-coord-init
loop-coord-init g c =
    let e : c.into_iter-coord-iterator.result ≡ c.cover-coord-items.result = c.into_iter-coord-iterator.ensures.into_iter_gives in
    let long : length c.into_iter-coord-iterator.result ≡ length c.cover-coord-items.result = ap length e in
    let all : length c.cover-coord-items.result ≡ chunks_met c.args.info.now.layout.grid c.args.region.now.lo c.args.region.now.hi = ap length c.cover-coord-items.ensures.chunks in
    record {
      left = λ coord has. (c.cover-coord-items.ensures.exactly coord).0 (subst (λ (x : List (List ℕ)). Contains x coord) e has);
      step = steps_none_yet (RegionPut c.args.info.now c.args.region.now.lo c.args.region.now.hi c.args.input.now) (chunks_met c.args.info.now.layout.grid c.args.region.now.lo c.args.region.now.hi) (length c.into_iter-coord-iterator.result) (g.C.Chunks.shown c.args.access.now) (long ∙ all);
      open_ = open_same (g.C.Chunks.may_get c.args.store.now c.args.access.now) c.requires.belongs;
      got = λ coord meets. inl (subst (λ (x : List (List ℕ)). Contains x coord) (sym e) ((c.cover-coord-items.ensures.exactly coord).1 meets));
      stored = λ premise coord meets. inl (subst (λ (x : List (List ℕ)). Contains x coord) (sym e) ((c.cover-coord-items.ensures.exactly coord).1 meets));
      called = tally_none_yet (λ coord. g.C.Chunks.weight c.args.store.now (key_at c.args.info.now coord)) (region_tally (g.C.Chunks.weight c.args.store.now) c.args.info.now c.args.region.now.lo c.args.region.now.hi) c.into_iter-coord-iterator.result (g.C.Chunks.tally c.args.access.now) (ap (sum_by (λ coord. g.C.Chunks.weight c.args.store.now (key_at c.args.info.now coord))) (e ∙ c.cover-coord-items.ensures.chunks));
    }

pub write_part-requires-clause-part : goal.write_part-requires-clause-part
write_part-requires-clause-part g c =
    let e : c.loop-coord.coord-iterator ≡ c.in-Some.coord ∷ c.next.new.self = c.in-Some.ensures.steps in
    let meets = c.loop-coord.invariant.left c.in-Some.coord (subst (λ (x : List (List ℕ)). Contains x c.in-Some.coord) (sym e) (first_contains c.in-Some.coord c.next.new.self)) in
    record {
      short = c.requires.short;
      fill = c.requires.fill;
      grid = c.cover-coord-items.ensures.kept;
      region = c.requires.region;
      meets = meets;
      small = c.requires.coordinates c.in-Some.coord meets;
    }

pub loop-coord-preserved : goal.loop-coord-preserved
loop-coord-preserved g c =
    let e : c.loop-coord.coord-iterator ≡ c.in-Some.coord ∷ c.next.new.self = c.in-Some.ensures.steps in
    let so_far = subst (λ (x : List (List ℕ)). StepsSoFar (RegionPut c.args.info.now c.args.region.now.lo c.args.region.now.hi c.args.input.now) (chunks_met c.args.info.now.layout.grid c.args.region.now.lo c.args.region.now.hi) (length x) (g.C.Chunks.shown c.args.access.now) (g.C.Chunks.shown c.loop-coord.access)) e c.loop-coord.invariant.step in
    record {
      left = λ coord has. c.loop-coord.invariant.left coord (subst (λ (x : List (List ℕ)). Contains x coord) (sym e) (rest_contains c.in-Some.coord c.next.new.self coord has));
      step = steps_one_more (RegionPut c.args.info.now c.args.region.now.lo c.args.region.now.hi c.args.input.now) (chunks_met c.args.info.now.layout.grid c.args.region.now.lo c.args.region.now.hi) (length c.next.new.self) (g.C.Chunks.shown c.args.access.now) (g.C.Chunks.shown c.loop-coord.access) (g.C.Chunks.shown c.write_part.new.access) so_far c.write_part.ensures.step;
      open_ = open_then c.loop-coord.invariant.open_ c.write_part.ensures.open;
      got = got_more c.args.info.now c.args.region.now.lo c.args.region.now.hi (g.C.Chunks.may_get c.args.store.now c.loop-coord.access) (g.C.Chunks.may_get c.args.store.now c.write_part.new.access) c.in-Some.coord c.next.new.self c.write_part.ensures.open.gets c.in_ok-write_part.ensures.got
          (λ coord m. subst (λ (x : List (List ℕ)). Contains x coord ⊎ g.C.Chunks.may_get c.args.store.now c.loop-coord.access (key_at c.args.info.now coord)) e (c.loop-coord.invariant.got coord m));
      stored = λ premise.
          let mid = late_own_then c.args.info.now c.args.region.now.lo c.args.region.now.hi c.args.input.now c.requires.coordinates premise c.loop-coord.invariant.step.2 in
          stored_more c.args.info.now c.args.region.now.lo c.args.region.now.hi c.args.input.now c.requires.coordinates c.in-Some.coord c.next.new.self mid c.write_part.ensures.step c.in_ok-write_part.ensures.stored
          (λ coord m. subst (λ (x : List (List ℕ)). Contains x coord ⊎ StoresChunk c.args.info.now c.args.region.now.lo c.args.region.now.hi c.args.input.now (g.C.Chunks.shown c.loop-coord.access).held coord) e (c.loop-coord.invariant.stored premise coord m));
      called = tally_one_more (λ coord. g.C.Chunks.weight c.args.store.now (key_at c.args.info.now coord)) (region_tally (g.C.Chunks.weight c.args.store.now) c.args.info.now c.args.region.now.lo c.args.region.now.hi) c.in-Some.coord c.next.new.self (g.C.Chunks.tally c.args.access.now) (g.C.Chunks.tally c.loop-coord.access) (g.C.Chunks.tally c.write_part.new.access)
          (subst (λ (x : List (List ℕ)). TallySoFar (λ coord. g.C.Chunks.weight c.args.store.now (key_at c.args.info.now coord)) (region_tally (g.C.Chunks.weight c.args.store.now) c.args.info.now c.args.region.now.lo c.args.region.now.hi) x (g.C.Chunks.tally c.args.access.now) (g.C.Chunks.tally c.loop-coord.access)) e c.loop-coord.invariant.called) c.write_part.ensures.called;
    }

pub returns-in_err-write_part-clause-step : goal.returns-in_err-write_part-clause-step
returns-in_err-write_part-clause-step g c =
    let e : c.loop-coord.coord-iterator ≡ c.in-Some.coord ∷ c.next.new.self = c.in-Some.ensures.steps in
    let so_far = subst (λ (x : List (List ℕ)). StepsSoFar (RegionPut c.args.info.now c.args.region.now.lo c.args.region.now.hi c.args.input.now) (chunks_met c.args.info.now.layout.grid c.args.region.now.lo c.args.region.now.hi) (length x) (g.C.Chunks.shown c.args.access.now) (g.C.Chunks.shown c.loop-coord.access)) e c.loop-coord.invariant.step in
    steps_most (RegionPut c.args.info.now c.args.region.now.lo c.args.region.now.hi c.args.input.now) (chunks_met c.args.info.now.layout.grid c.args.region.now.lo c.args.region.now.hi) (length c.next.new.self) (g.C.Chunks.shown c.args.access.now) (g.C.Chunks.shown c.write_part.new.access)
    (steps_one_more (RegionPut c.args.info.now c.args.region.now.lo c.args.region.now.hi c.args.input.now) (chunks_met c.args.info.now.layout.grid c.args.region.now.lo c.args.region.now.hi) (length c.next.new.self) (g.C.Chunks.shown c.args.access.now) (g.C.Chunks.shown c.loop-coord.access) (g.C.Chunks.shown c.write_part.new.access) so_far c.write_part.ensures.step)

pub returns-clause-step : goal.returns-clause-step
returns-clause-step g c = steps_most (RegionPut c.args.info.now c.args.region.now.lo c.args.region.now.hi c.args.input.now) (chunks_met c.args.info.now.layout.grid c.args.region.now.lo c.args.region.now.hi) (length c.loop-coord.coord-iterator) (g.C.Chunks.shown c.args.access.now) (g.C.Chunks.shown c.loop-coord.access) c.loop-coord.invariant.step

pub returns-clause-calls_all : goal.returns-clause-calls_all
returns-clause-calls_all g c =
    let e : c.loop-coord.coord-iterator ≡ [] = c.in-None.ensures.steps.0 in
    steps_made (RegionPut c.args.info.now c.args.region.now.lo c.args.region.now.hi c.args.input.now) (chunks_met c.args.info.now.layout.grid c.args.region.now.lo c.args.region.now.hi) (g.C.Chunks.shown c.args.access.now) (g.C.Chunks.shown c.loop-coord.access)
    (subst (λ (x : List (List ℕ)). StepsSoFar (RegionPut c.args.info.now c.args.region.now.lo c.args.region.now.hi c.args.input.now) (chunks_met c.args.info.now.layout.grid c.args.region.now.lo c.args.region.now.hi) (length x) (g.C.Chunks.shown c.args.access.now) (g.C.Chunks.shown c.loop-coord.access)) e c.loop-coord.invariant.step)

pub returns-clause-called : goal.returns-clause-called
returns-clause-called g c =
    let e : c.loop-coord.coord-iterator ≡ [] = c.in-None.ensures.steps.0 in
    tally_all (λ coord. g.C.Chunks.weight c.args.store.now (key_at c.args.info.now coord)) (region_tally (g.C.Chunks.weight c.args.store.now) c.args.info.now c.args.region.now.lo c.args.region.now.hi) (g.C.Chunks.tally c.args.access.now) (g.C.Chunks.tally c.loop-coord.access)
    (subst (λ (x : List (List ℕ)). TallySoFar (λ coord. g.C.Chunks.weight c.args.store.now (key_at c.args.info.now coord)) (region_tally (g.C.Chunks.weight c.args.store.now) c.args.info.now c.args.region.now.lo c.args.region.now.hi) x (g.C.Chunks.tally c.args.access.now) (g.C.Chunks.tally c.loop-coord.access)) e c.loop-coord.invariant.called)

pub returns-in_err-write_part-clause-cause : goal.returns-in_err-write_part-clause-cause
returns-in_err-write_part-clause-cause g c =
    let p = err_from_is_err_and c.from_residual.result c.from_residual.ensures.1 in
    rw (p.1, p.2) (write_fault_more (g.C.Chunks.shown c.args.access.now).faults (g.C.Chunks.shown c.loop-coord.access).faults (g.C.Chunks.shown c.write_part.new.access).faults (g.C.Chunks.shown c.write_part.new.access).lacks c.in_err-write_part.field-0.0
    c.loop-coord.invariant.step.2.count c.in_err-write_part.ensures.cause)

pub returns-clause-stored : goal.returns-clause-stored
returns-clause-stored g c premise coord meets =
    let e : c.loop-coord.coord-iterator ≡ [] = c.in-None.ensures.steps.0 in
    elim (c.loop-coord.invariant.stored premise coord meets) [
      | inl left ↦ absurd (none_contained coord (subst (λ (x : List (List ℕ)). Contains x coord) e left))
      | inr stored ↦ stored
    ]

pub write_part-requires-clause-may : goal.write_part-requires-clause-may
write_part-requires-clause-may g c =
    let e : c.loop-coord.coord-iterator ≡ c.in-Some.coord ∷ c.next.new.self = c.in-Some.ensures.steps in
    let meets = c.loop-coord.invariant.left c.in-Some.coord (subst (λ (x : List (List ℕ)). Contains x c.in-Some.coord) (sym e) (first_contains c.in-Some.coord c.next.new.self)) in
    λ bytes value. c.requires.may (key_at c.args.info.now c.in-Some.coord) bytes (bytes, refl, (c.in-Some.coord, meets, refl, value))

pub returns-in_err-write_part-clause-open : goal.returns-in_err-write_part-clause-open
returns-in_err-write_part-clause-open g c = open_then c.loop-coord.invariant.open_ c.write_part.ensures.open

pub returns-clause-open : goal.returns-clause-open
returns-clause-open g c = c.loop-coord.invariant.open_

pub returns-clause-got : goal.returns-clause-got
returns-clause-got g c key (coord, meets, is) =
    let e : c.loop-coord.coord-iterator ≡ [] = c.in-None.ensures.steps.0 in
    subst (λ (x : List ℕ). g.C.Chunks.may_get c.args.store.now c.loop-coord.access x) (sym is)
    (elim (c.loop-coord.invariant.got coord meets) [
      | inl left ↦ absurd (none_contained coord (subst (λ (x : List (List ℕ)). Contains x coord) e left))
      | inr got ↦ got
    ])
