use Rattle.std.proofs.Common.{◌≡◌, ◌⊎◌, inl, inr, ◌+◌, ◌-◌, ℕ, List, [], ◌∷◌, length, take, drop, Contains, sym, ap, ◌∙◌, subst, arith}
use Rattle.std.specs.Prelude.{sum_by}
use Rattle.std.proofs.lemmas.List.{drop-drop, length-drop, length-take-le}
use Rattle.std.proofs.lemmas.Result.{err_from_is_err_and}
use Rattle.cu_store.specs.Chunks.{Adds}
use Rattle.cu_store.specs.Steps.{Steps}
use Rattle.cu_store.proofs.StaysOpen.{open_same, open_then}
use Rattle.cu_store.proofs.Steps.{steps_then, steps_wider}
use Rattle.cu_op.proofs.TaskCells.{region_lengths}
use Rattle.cu_region.specs.Calls.{region_tally, Made}
use Rattle.cu_region.specs.Reading.{key_at}
use Rattle.cu_region.specs.Writing.{AreElements}
use Rattle.cu_region.proofs.Calls.{TallySoFar, tally_none_yet, tally_one_more, tally_all}
use Rattle.cu_region.proofs.SteadyKeys.{first_contains, first_or_rest, none_contained, rest_contains}
use Rattle.cu_region.proofs.StoredWrites.{write_fault_more}
use Rattle.cu_task.specs.ChunkCopies.{region_chunks, made_info, own_lo, own_hi, part_room, room_of_parts, ArePartsOfType, CarriesPart, HasEachPart}
use Rattle.cu_task.specs.OfTask.{ChangeBy}
use Rattle.cu_task.proofs.ChunkParts.{HeldSoFar, WritesSoFar}
use Rattle.cu_task.proofs.CopyByChunks.{all_here, few_here, first_room, got_all, held_more, holds_all, made_chunk, no_writes, one_write, room_here, writes_made, writes_most, written_calls, written_tally}
use Rattle.cu_task.proofs.chunk_copies.write_parts.Goals as goal

pub region_bytes-requires-clause-ranks : goal.region_bytes-requires-clause-ranks
region_bytes-requires-clause-ranks g c =
    let e = region_lengths _ _ _ c.chunk_region-region.ensures.inside in
    e.1 ∙ sym e.0

pub region_bytes-requires-clause-few : goal.region_bytes-requires-clause-few
region_bytes-requires-clause-few g c =
    let e : c.loop-coord.coord-iterator ≡ c.in-Some.coord ∷ c.next.new.self = c.in-Some.ensures.steps in
    let meets = c.loop-coord.invariant.meets c.in-Some.coord (subst (λ (x : List (List ℕ)). Contains x c.in-Some.coord) (sym e) (first_contains c.in-Some.coord c.next.new.self)) in
    few_here c.args.task.now c.target_array-info.ensures.sound c.target_array-info.result.now c.in-Some.coord c.chunk_region-region.result.lo c.chunk_region-region.result.hi c.target_array-info.ensures.info meets.0 c.chunk_region-region.ensures.lo c.chunk_region-region.ensures.hi

pub loop-coord-init : goal.loop-coord-init
loop-coord-init g c =
    let all : c.into_iter-coord-iterator.result ≡ region_chunks c.args.task.now = c.into_iter-coord-iterator.ensures.into_iter_gives ∙ c.cover-coord-items.ensures.chunks
    ∙ all_here c.args.task.now c.target_array-info.ensures.sound c.target_array-info.result.now c.region.result.now.lo c.region.result.now.hi c.target_array-info.ensures.info c.region.ensures.lo c.region.ensures.hi in
    record {
      meets = λ coord has. made_chunk c.args.task.now c.target_array-info.ensures.sound coord (subst (λ (x : List (List ℕ)). Contains x coord) all has);
      room = (let same = ap (room_of_parts c.args.task.now) all in omega (arith, same));
      elements = subst (λ (x : List (List ℕ)). ArePartsOfType c.args.task.now x c.args.output.now) (sym all) c.requires.elements;
      carries = λ start has. subst (λ (x : List (List ℕ)). HasEachPart c.args.task.now (CarriesPart c.args.task.now start) x c.args.output.now) (sym all) has;
      open_ = open_same (g.C.Chunks.may_get c.args.store.now c.args.access.now) c.requires.belongs;
      got = λ coord there. inl (subst (λ (x : List (List ℕ)). Contains x coord) (sym all) there);
      step = no_writes c.args.task.now c.target_array-info.ensures.sound c.args.output.now (length c.into_iter-coord-iterator.result) (g.C.Chunks.shown c.args.access.now) (ap length all);
      stored = λ env start calls has ready before coord there. inl (subst (λ (x : List (List ℕ)). Contains x coord) (sym all) there);
      called = tally_none_yet (λ coord. g.C.Chunks.weight c.args.store.now (key_at (made_info c.args.task.now) coord)) (region_tally (g.C.Chunks.weight c.args.store.now) (made_info c.args.task.now) (own_lo c.args.task.now) (own_hi c.args.task.now)) c.into_iter-coord-iterator.result (g.C.Chunks.tally c.args.access.now)
          (ap (sum_by (λ coord. g.C.Chunks.weight c.args.store.now (key_at (made_info c.args.task.now) coord))) all);
    }

pub write_part-requires-clause-puts : goal.write_part-requires-clause-puts
write_part-requires-clause-puts g c =
    let e : c.loop-coord.coord-iterator ≡ c.in-Some.coord ∷ c.next.new.self = c.in-Some.ensures.steps in
    let mine : c.region_bytes.result ≡ part_room c.args.task.now c.in-Some.coord = c.region_bytes.ensures
    ∙ room_here c.args.task.now c.target_array-info.ensures.sound c.target_array-info.result.now c.in-Some.coord c.chunk_region-region.result.lo c.chunk_region-region.result.hi c.target_array-info.ensures.info c.chunk_region-region.ensures.lo c.chunk_region-region.ensures.hi in
    let wide : c.loop-coord.from + c.region_bytes.result - c.loop-coord.from ≡ part_room c.args.task.now c.in-Some.coord = omega (arith, mine) in
    let has = subst (λ (x : List (List ℕ)). HasEachPart c.args.task.now (CarriesPart c.args.task.now c.requires.puts.start) x (drop c.loop-coord.from c.args.output.now)) e (c.loop-coord.invariant.carries c.requires.puts.start c.requires.puts.carries) in
    record {
      start = c.requires.puts.start;
      carries = subst (λ (n : ℕ). CarriesPart c.args.task.now c.requires.puts.start c.in-Some.coord (take n (drop c.loop-coord.from c.args.output.now))) (sym wide) has.0;
      changes = c.requires.puts.changes;
    }

pub write_part-requires-clause-meets : goal.write_part-requires-clause-meets
write_part-requires-clause-meets g c =
    let e : c.loop-coord.coord-iterator ≡ c.in-Some.coord ∷ c.next.new.self = c.in-Some.ensures.steps in
    c.loop-coord.invariant.meets c.in-Some.coord (subst (λ (x : List (List ℕ)). Contains x c.in-Some.coord) (sym e) (first_contains c.in-Some.coord c.next.new.self))

pub write_part-requires-clause-part : goal.write_part-requires-clause-part
write_part-requires-clause-part g c =
    let e : c.loop-coord.coord-iterator ≡ c.in-Some.coord ∷ c.next.new.self = c.in-Some.ensures.steps in
    let mine : c.region_bytes.result ≡ part_room c.args.task.now c.in-Some.coord = c.region_bytes.ensures
    ∙ room_here c.args.task.now c.target_array-info.ensures.sound c.target_array-info.result.now c.in-Some.coord c.chunk_region-region.result.lo c.chunk_region-region.result.hi c.target_array-info.ensures.info c.chunk_region-region.ensures.lo c.chunk_region-region.ensures.hi in
    let first = first_room c.args.task.now c.target_array-info.ensures.sound c.in-Some.coord c.next.new.self c.loop-coord.coord-iterator e in
    let room = c.loop-coord.invariant.room in
    let all = c.requires.output in
    let left = length-drop c.loop-coord.from c.args.output.now in
    length-take-le (c.loop-coord.from + c.region_bytes.result - c.loop-coord.from) (drop c.loop-coord.from c.args.output.now) (omega (arith, first, room, mine, all, left)) ∙ omega (arith, mine)

pub write_part-requires-clause-elements : goal.write_part-requires-clause-elements
write_part-requires-clause-elements g c =
    let e : c.loop-coord.coord-iterator ≡ c.in-Some.coord ∷ c.next.new.self = c.in-Some.ensures.steps in
    let mine : c.region_bytes.result ≡ part_room c.args.task.now c.in-Some.coord = c.region_bytes.ensures
    ∙ room_here c.args.task.now c.target_array-info.ensures.sound c.target_array-info.result.now c.in-Some.coord c.chunk_region-region.result.lo c.chunk_region-region.result.hi c.target_array-info.ensures.info c.chunk_region-region.ensures.lo c.chunk_region-region.ensures.hi in
    let wide : c.loop-coord.from + c.region_bytes.result - c.loop-coord.from ≡ part_room c.args.task.now c.in-Some.coord = omega (arith, mine) in
    let has = subst (λ (x : List (List ℕ)). ArePartsOfType c.args.task.now x (drop c.loop-coord.from c.args.output.now)) e c.loop-coord.invariant.elements in
    subst (λ (n : ℕ). AreElements (made_info c.args.task.now).layout.dtype (take n (drop c.loop-coord.from c.args.output.now))) (sym wide) has.0

pub loop-coord-preserved : goal.loop-coord-preserved
loop-coord-preserved g c =
    let task = c.args.task.now in
    let sound = c.target_array-info.ensures.sound in
    let e : c.loop-coord.coord-iterator ≡ c.in-Some.coord ∷ c.next.new.self = c.in-Some.ensures.steps in
    let mine : c.region_bytes.result ≡ part_room c.args.task.now c.in-Some.coord = c.region_bytes.ensures
    ∙ room_here c.args.task.now c.target_array-info.ensures.sound c.target_array-info.result.now c.in-Some.coord c.chunk_region-region.result.lo c.chunk_region-region.result.hi c.target_array-info.ensures.info c.chunk_region-region.ensures.lo c.chunk_region-region.ensures.hi in
    let wide : c.loop-coord.from + c.region_bytes.result - c.loop-coord.from ≡ part_room c.args.task.now c.in-Some.coord = omega (arith, mine) in
    let first = first_room c.args.task.now c.target_array-info.ensures.sound c.in-Some.coord c.next.new.self c.loop-coord.coord-iterator e in
    let room = c.loop-coord.invariant.room in
    let shift : drop (part_room c.args.task.now c.in-Some.coord) (drop c.loop-coord.from c.args.output.now) ≡ drop (c.loop-coord.from + c.region_bytes.result) c.args.output.now
    = drop-drop (part_room c.args.task.now c.in-Some.coord) c.loop-coord.from c.args.output.now ∙ ap (λ n. drop (c.loop-coord.from + n) c.args.output.now) (sym mine) in
    let elements = subst (λ (x : List (List ℕ)). ArePartsOfType c.args.task.now x (drop c.loop-coord.from c.args.output.now)) e c.loop-coord.invariant.elements in
    record {
      meets = λ coord has. c.loop-coord.invariant.meets coord (subst (λ (x : List (List ℕ)). Contains x coord) (sym e) (rest_contains c.in-Some.coord c.next.new.self coord has));
      room = omega (arith, first, room, mine);
      elements = subst (λ (xs : List ℕ). ArePartsOfType c.args.task.now c.next.new.self xs) shift elements.1;
      carries = λ start has.
          let carried = subst (λ (x : List (List ℕ)). HasEachPart c.args.task.now (CarriesPart c.args.task.now start) x (drop c.loop-coord.from c.args.output.now)) e (c.loop-coord.invariant.carries start has) in
          subst (λ (xs : List ℕ). HasEachPart c.args.task.now (CarriesPart c.args.task.now start) c.next.new.self xs) shift carried.1;
      open_ = open_then c.loop-coord.invariant.open_ c.write_part.ensures.open;
      got = λ coord there. elim (subst (λ (x : List (List ℕ)). Contains x coord ⊎ g.C.Chunks.may_get c.args.store.now c.loop-coord.access (key_at (made_info c.args.task.now) coord)) e (c.loop-coord.invariant.got coord there)) [
        | inl left ↦ elim (first_or_rest c.in-Some.coord c.next.new.self coord left) [
          | inl here ↦ inr (subst (λ (x : List ℕ). g.C.Chunks.may_get c.args.store.now c.write_part.new.access (key_at (made_info c.args.task.now) x)) (sym here) c.in_ok-write_part.ensures.got)
          | inr later ↦ inl later
        ]
        | inr got ↦ inr (c.write_part.ensures.open.gets _ got)
      ];
      step = one_write task sound c.args.output.now (length c.next.new.self) (g.C.Chunks.shown c.args.access.now) (g.C.Chunks.shown c.loop-coord.access) (g.C.Chunks.shown c.write_part.new.access)
          (subst (λ (x : List (List ℕ)). WritesSoFar c.args.task.now c.args.output.now (length x) (g.C.Chunks.shown c.args.access.now) (g.C.Chunks.shown c.loop-coord.access)) e c.loop-coord.invariant.step) c.in_ok-write_part.ensures.all
          (λ start has.
          let carried = subst (λ (x : List (List ℕ)). HasEachPart c.args.task.now (CarriesPart c.args.task.now start) x (drop c.loop-coord.from c.args.output.now)) e (c.loop-coord.invariant.carries start has) in
          c.write_part.ensures.step start (subst (λ (n : ℕ). CarriesPart c.args.task.now start c.in-Some.coord (take n (drop c.loop-coord.from c.args.output.now))) (sym wide) carried.0));
      stored = λ env start calls has ready before.
          let carried = subst (λ (x : List (List ℕ)). HasEachPart c.args.task.now (CarriesPart c.args.task.now start) x (drop c.loop-coord.from c.args.output.now)) e (c.loop-coord.invariant.carries start has) in
          let carries = subst (λ (n : ℕ). CarriesPart c.args.task.now start c.in-Some.coord (take n (drop c.loop-coord.from c.args.output.now))) (sym wide) carried.0 in
          let mid = steps_then before (c.loop-coord.invariant.step.3 start has) in
          held_more task sound c.requires.own env start (g.C.Chunks.shown c.loop-coord.access) (g.C.Chunks.shown c.write_part.new.access) (calls + c.loop-coord.invariant.step.0) c.in-Some.coord c.next.new.self ready mid (c.write_part.ensures.step start carries)
          (c.in_ok-write_part.ensures.stored env start (calls + c.loop-coord.invariant.step.0) carries ready mid)
          (subst (λ (x : List (List ℕ)). HeldSoFar c.args.task.now env (g.C.Chunks.shown c.loop-coord.access) x) e (c.loop-coord.invariant.stored env start calls has ready before));
      called = tally_one_more (λ coord. g.C.Chunks.weight c.args.store.now (key_at (made_info c.args.task.now) coord)) (region_tally (g.C.Chunks.weight c.args.store.now) (made_info c.args.task.now) (own_lo c.args.task.now) (own_hi c.args.task.now)) c.in-Some.coord c.next.new.self (g.C.Chunks.tally c.args.access.now) (g.C.Chunks.tally c.loop-coord.access) (g.C.Chunks.tally c.write_part.new.access)
          (subst (λ (x : List (List ℕ)). TallySoFar (λ coord. g.C.Chunks.weight c.args.store.now (key_at (made_info c.args.task.now) coord)) (region_tally (g.C.Chunks.weight c.args.store.now) (made_info c.args.task.now) (own_lo c.args.task.now) (own_hi c.args.task.now)) x (g.C.Chunks.tally c.args.access.now) (g.C.Chunks.tally c.loop-coord.access)) e c.loop-coord.invariant.called) c.in_ok-write_part.ensures.called;
    }

pub returns-in_err-write_part-clause-step : goal.returns-in_err-write_part-clause-step
returns-in_err-write_part-clause-step g c start has =
    let e : c.loop-coord.coord-iterator ≡ c.in-Some.coord ∷ c.next.new.self = c.in-Some.ensures.steps in
    let mine : c.region_bytes.result ≡ part_room c.args.task.now c.in-Some.coord = c.region_bytes.ensures
    ∙ room_here c.args.task.now c.target_array-info.ensures.sound c.target_array-info.result.now c.in-Some.coord c.chunk_region-region.result.lo c.chunk_region-region.result.hi c.target_array-info.ensures.info c.chunk_region-region.ensures.lo c.chunk_region-region.ensures.hi in
    let wide : c.loop-coord.from + c.region_bytes.result - c.loop-coord.from ≡ part_room c.args.task.now c.in-Some.coord = omega (arith, mine) in
    let carried = subst (λ (x : List (List ℕ)). HasEachPart c.args.task.now (CarriesPart c.args.task.now start) x (drop c.loop-coord.from c.args.output.now)) e (c.loop-coord.invariant.carries start has) in
    let one = c.write_part.ensures.step start (subst (λ (n : ℕ). CarriesPart c.args.task.now start c.in-Some.coord (take n (drop c.loop-coord.from c.args.output.now))) (sym wide) carried.0) in
    let count = c.loop-coord.invariant.step.1 in
    let left = ap length e in
    let all = written_calls c.args.task.now c.target_array-info.ensures.sound c.requires.copy in
    steps_wider (λ key value own. own) (omega arith) (omega (arith, count, left, all)) (steps_then (c.loop-coord.invariant.step.3 start has) one)

pub returns-in_err-write_part-clause-cause : goal.returns-in_err-write_part-clause-cause
returns-in_err-write_part-clause-cause g c =
    let p = err_from_is_err_and c.from_residual.result c.from_residual.ensures.1 in
    let before = c.loop-coord.invariant.step.3 c.requires.puts.start c.requires.puts.carries in
    rw (p.1, p.2) (write_fault_more (g.C.Chunks.shown c.args.access.now).faults (g.C.Chunks.shown c.loop-coord.access).faults (g.C.Chunks.shown c.write_part.new.access).faults (g.C.Chunks.shown c.write_part.new.access).lacks c.in_err-write_part.field-0.0
    before.count c.in_err-write_part.ensures.cause)

pub returns-in_err-write_part-clause-open : goal.returns-in_err-write_part-clause-open
returns-in_err-write_part-clause-open g c = open_then c.loop-coord.invariant.open_ c.write_part.ensures.open

pub returns-in_err-write_part-clause-stored : goal.returns-in_err-write_part-clause-stored
returns-in_err-write_part-clause-stored g c env start calls has ready before = let p = err_from_is_err_and c.from_residual.result c.from_residual.ensures.1 in rw p.1 tt

pub returns-clause-open : goal.returns-clause-open
returns-clause-open g c = c.loop-coord.invariant.open_

pub returns-clause-got : goal.returns-clause-got
returns-clause-got g c =
    let e : c.loop-coord.coord-iterator ≡ [] = c.in-None.ensures.steps.0 in
    got_all c.args.task.now c.target_array-info.ensures.sound c.requires.copy (g.C.Chunks.may_get c.args.store.now c.loop-coord.access)
    (λ coord there. elim (c.loop-coord.invariant.got coord there) [
      | inl left ↦ absurd (none_contained coord (subst (λ (x : List (List ℕ)). Contains x coord) e left))
      | inr got ↦ got
    ])

pub returns-clause-step : goal.returns-clause-step
returns-clause-step g c start has =
    subst (λ (n : ℕ). Steps (ChangeBy c.args.task.now start) 0 n (g.C.Chunks.shown c.args.access.now) (g.C.Chunks.shown c.loop-coord.access)) (sym (written_calls c.args.task.now c.target_array-info.ensures.sound c.requires.copy))
    (writes_most c.args.task.now c.target_array-info.ensures.sound c.args.output.now (length c.loop-coord.coord-iterator) (g.C.Chunks.shown c.args.access.now) (g.C.Chunks.shown c.loop-coord.access) start c.loop-coord.invariant.step has)

pub returns-clause-stored : goal.returns-clause-stored
returns-clause-stored g c env start calls has ready before =
    let e : c.loop-coord.coord-iterator ≡ [] = c.in-None.ensures.steps.0 in
    holds_all c.args.task.now c.target_array-info.ensures.sound c.requires.copy env (g.C.Chunks.shown c.loop-coord.access)
    (λ coord there. elim (c.loop-coord.invariant.stored env start calls has ready before coord there) [
      | inl left ↦ absurd (none_contained coord (subst (λ (x : List (List ℕ)). Contains x coord) e left))
      | inr held ↦ held
    ])

pub returns-clause-all : goal.returns-clause-all
returns-clause-all g c =
    let e : c.loop-coord.coord-iterator ≡ [] = c.in-None.ensures.steps.0 in
    subst (λ (n : ℕ). Made n (g.C.Chunks.shown c.args.access.now).calls (g.C.Chunks.shown c.loop-coord.access).calls) (sym (written_calls c.args.task.now c.target_array-info.ensures.sound c.requires.copy))
    (writes_made c.args.task.now c.target_array-info.ensures.sound c.args.output.now (g.C.Chunks.shown c.args.access.now) (g.C.Chunks.shown c.loop-coord.access)
    (subst (λ (x : List (List ℕ)). WritesSoFar c.args.task.now c.args.output.now (length x) (g.C.Chunks.shown c.args.access.now) (g.C.Chunks.shown c.loop-coord.access)) e c.loop-coord.invariant.step))

pub returns-clause-called : goal.returns-clause-called
returns-clause-called g c =
    let e : c.loop-coord.coord-iterator ≡ [] = c.in-None.ensures.steps.0 in
    subst (λ (n : ℕ). Adds n (g.C.Chunks.tally c.args.access.now) (g.C.Chunks.tally c.loop-coord.access)) (written_tally c.args.task.now c.target_array-info.ensures.sound (g.C.Chunks.weight c.args.store.now) c.requires.copy)
    (tally_all (λ coord. g.C.Chunks.weight c.args.store.now (key_at (made_info c.args.task.now) coord)) (region_tally (g.C.Chunks.weight c.args.store.now) (made_info c.args.task.now) (own_lo c.args.task.now) (own_hi c.args.task.now)) (g.C.Chunks.tally c.args.access.now) (g.C.Chunks.tally c.loop-coord.access)
    (subst (λ (x : List (List ℕ)). TallySoFar (λ coord. g.C.Chunks.weight c.args.store.now (key_at (made_info c.args.task.now) coord)) (region_tally (g.C.Chunks.weight c.args.store.now) (made_info c.args.task.now) (own_lo c.args.task.now) (own_hi c.args.task.now)) x (g.C.Chunks.tally c.args.access.now) (g.C.Chunks.tally c.loop-coord.access)) e c.loop-coord.invariant.called))
