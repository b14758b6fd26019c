use Rattle.std.proofs.Common.{◌≡◌, inl, ℕ, ◌+◌, ◌≤◌, List, [], ◌++◌, Contains, length, ap, sym, ◌∙◌, subst, arith}
use Rattle.std.proofs.lemmas.List.Sums.{sum_by-cons}
use Rattle.std.proofs.lemmas.Result.{err_from_is_err_and}
use Rattle.cu_op.specs.Arrays.{chunk_room}
use Rattle.cu_op.specs.Schedule.{op_of}
use Rattle.cu_op.specs.TaskView.{walk_at, task_op, IsReadAsIs, TaskView}
use Rattle.cu_op.specs.Walks.{input_walks, walk_cells}
use Rattle.cu_op.specs.declared.walks.Walk.{Walk}
use Rattle.cu_region.specs.Calls.{Made}
use Rattle.cu_store.specs.Chunks.{Adds}
use Rattle.cu_store.specs.Steps.{NoChange, Steps}
use Rattle.cu_task.specs.Inputs.{last_bytes, room_of_walks, walk_room, IsMergeOf, IsWalkKey}
use Rattle.cu_task.specs.Merges.{HasWalkParts}
use Rattle.cu_task.specs.OfTask.{held_inputs, kept_bytes, made_bytes, weight_of_walk, AreOfItsType, HasMade}
use Rattle.cu_task.specs.Task.{IsTaskKey, StillHolds}
use Rattle.cu_task.specs.declared.merges.PartMerge.{PartMerge}
use Rattle.cu_task.proofs.InputReads.{still_fewer}
use Rattle.cu_task.proofs.Inside.{own_fault, own_key, read_of, scratch_of_work}
use Rattle.cu_task.proofs.PartMerges.{merge_computes, merge_stores, part_calls, part_tally, reads_one, region_listed}
use Rattle.cu_task.proofs.Tails.{last_part}
use Rattle.cu_task.proofs.TaskKinds.{none_stored}
use Rattle.cu_task.proofs.TaskRooms.{kept_computing}
use Rattle.cu_task.proofs.TaskRegions.{scratch_read}
use Rattle.cu_task.proofs.merges.merge_by_parts.Goals as goal

-- it keeps the bytes of its one region
kept_walk : (t : TaskView) (m : PartMerge) → IsMergeOf (task_op t) m.kind m.axis m.out → kept_bytes t ≡ walk_room t.plan.arrays (walk_at t 0) + 0
kept_walk t m is =
    kept_computing t.plan.arrays (task_op t) t.number (merge_computes (task_op t) m is)
    ∙ ap (room_of_walks t.plan.arrays) (reads_one t m is)
    ∙ sum_by-cons (walk_room t.plan.arrays) (walk_at t 0) []

-- what it makes stands at the end of its memory
made_last : (scratch inputs output : List ℕ) (made : ℕ) → length output ≡ made → last_bytes made ((scratch ++ inputs) ++ output) ≡ output
made_last scratch inputs output made long = last_part (scratch ++ inputs) output made long

pub read_parts-requires-clause-may : goal.read_parts-requires-clause-may
read_parts-requires-clause-may g c =
    let task = c.args.task.now in
    let m = c.args.merge.now in
    let sound = c.input_walk-walk.ensures.sound in
    let listed = region_listed task m c.requires.merge.merge in
    rw c.input_walk-walk.ensures.walk (λ key here. c.requires.may key (own_key task.plan sound task.op task.number (walk_at task 0) listed (inl c.requires.merge.apart.stored) key here))

pub read_parts-requires-clause-scratch : goal.read_parts-requires-clause-scratch
read_parts-requires-clause-scratch g c =
    let task = c.args.task.now in
    let m = c.args.merge.now in
    let sound = c.input_walk-walk.ensures.sound in
    let listed = region_listed task m c.requires.merge.merge in
    let own = scratch_read task.plan.arrays (op_of task.plan task.op) (walk_at task 0).array (read_of task.plan sound task.op task.number (walk_at task 0) listed) in
    let work = scratch_of_work task.plan task.op in
    let kept = kept_walk task m c.requires.merge.merge in
    let room = c.requires.room in
    let made = c.result_bytes.ensures.bytes in
    let read : c.walk_bytes.result ≡ walk_room task.plan.arrays (walk_at task 0) = c.walk_bytes.ensures.bytes ∙ ap (walk_room task.plan.arrays) c.input_walk-walk.ensures.walk in
    let front = c.split_at_mut-reads.ensures.front_len in
    let front2 = c.split_at_mut-scratch.ensures.front_len in
    let fits : chunk_room task.plan.arrays (walk_at task 0).array ≤ length c.split_at_mut-scratch.result.0.now = omega (arith, own, work, kept, room, made, read, front, front2) in
    rw c.input_walk-walk.ensures.walk fits

pub returns-in_err-read_parts-clause-step : goal.returns-in_err-read_parts-clause-step
returns-in_err-read_parts-clause-step g c =
    let task = c.args.task.now in
    let calls = ap (λ (w : Walk). length (walk_cells task.plan.arrays w)) c.input_walk-walk.ensures.walk ∙ sym (part_calls task c.input_walk-walk.ensures.sound c.args.merge.now c.requires.merge) in
    subst (λ (n : ℕ). Steps NoChange 0 n (g.C.Chunks.shown c.args.access.now) (g.C.Chunks.shown c.read_parts.new.access)) calls c.read_parts.ensures.step

pub returns-in_err-read_parts-clause-cause : goal.returns-in_err-read_parts-clause-cause
returns-in_err-read_parts-clause-cause g c =
    let task = c.args.task.now in
    let m = c.args.merge.now in
    let sound = c.input_walk-walk.ensures.sound in
    let listed = region_listed task m c.requires.merge.merge in
    let p = err_from_is_err_and c.from_residual.result c.from_residual.ensures.1 in
    let w = c.input_walk-walk.result in
    let here = subst (λ (v : Walk). Contains (input_walks task.plan.arrays (op_of task.plan task.op) task.number) v) (sym c.input_walk-walk.ensures.walk) listed in
    let as_is = subst (IsReadAsIs task.plan.arrays) (sym c.input_walk-walk.ensures.walk) (inl c.requires.merge.apart.stored) in
    rw (p.1, p.2) (own_fault task.plan sound task.op task.number w here as_is (g.C.Chunks.shown c.args.access.now) (g.C.Chunks.shown c.read_parts.new.access) _ c.in_err-read_parts.ensures.cause)

pub returns-clause-made : goal.returns-clause-made
returns-clause-made g c held still =
    let task = c.args.task.now in
    let m = c.args.merge.now in
    let sound = c.input_walk-walk.ensures.sound in
    let listed = region_listed task m c.requires.merge.merge in
    let walk = c.input_walk-walk.ensures.walk in
    let key = own_key task.plan sound task.op task.number (walk_at task 0) listed (inl c.requires.merge.apart.stored) in
    let fewer = still_fewer (IsTaskKey task.plan task.op task.number) (IsWalkKey task.plan.arrays (walk_at task 0)) held (g.C.Chunks.shown c.args.access.now) key still in
    let read = c.in_ok-read_parts.ensures.read held (subst (λ (w : Walk). StillHolds (IsWalkKey task.plan.arrays w) held (g.C.Chunks.shown c.args.access.now)) (sym walk) fewer) in
    let parts = subst (λ (w : Walk). HasWalkParts task (held_inputs task held) m.axis w c.read_parts.new.out) walk read in
    let tail = made_last c.read_parts.new.scratch c.read_parts.new.out c.merge_parts.new.output in
    record {
      output = subst (HasMade task (held_inputs task held)) (sym (tail (made_bytes task) (omega (arith, c.requires.room, c.result_bytes.ensures.bytes, c.split_at_mut-reads.ensures.back_len, c.merge_parts.auto.output)))) (c.merge_parts.ensures.values (held_inputs task held) parts);
      values = λ array is. absurd (none_stored array (merge_stores (op_of task.plan task.op) m c.requires.merge.merge ∙ is));
    }

pub returns-clause-elements : goal.returns-clause-elements
returns-clause-elements g c =
    let task = c.args.task.now in
    let m = c.args.merge.now in
    let tail = made_last c.read_parts.new.scratch c.read_parts.new.out c.merge_parts.new.output in
    record {
      output = subst (AreOfItsType task) (sym (tail (made_bytes task) (omega (arith, c.requires.room, c.result_bytes.ensures.bytes, c.split_at_mut-reads.ensures.back_len, c.merge_parts.auto.output)))) c.merge_parts.ensures.elements;
      values = λ array is. absurd (none_stored array (merge_stores (op_of task.plan task.op) m c.requires.merge.merge ∙ is));
    }

pub returns-clause-step : goal.returns-clause-step
returns-clause-step g c =
    let task = c.args.task.now in
    let calls = ap (λ (w : Walk). length (walk_cells task.plan.arrays w)) c.input_walk-walk.ensures.walk ∙ sym (part_calls task c.input_walk-walk.ensures.sound c.args.merge.now c.requires.merge) in
    subst (λ (n : ℕ). Steps NoChange 0 n (g.C.Chunks.shown c.args.access.now) (g.C.Chunks.shown c.read_parts.new.access)) calls c.read_parts.ensures.step

pub returns-clause-all : goal.returns-clause-all
returns-clause-all g c _ =
    let task = c.args.task.now in
    let calls = ap (λ (w : Walk). length (walk_cells task.plan.arrays w)) c.input_walk-walk.ensures.walk ∙ sym (part_calls task c.input_walk-walk.ensures.sound c.args.merge.now c.requires.merge) in
    subst (λ (n : ℕ). Made n (g.C.Chunks.shown c.args.access.now).calls (g.C.Chunks.shown c.read_parts.new.access).calls) calls c.in_ok-read_parts.ensures.all

pub returns-clause-called : goal.returns-clause-called
returns-clause-called g c _ =
    let task = c.args.task.now in
    let weight = g.C.Chunks.weight c.args.store.now in
    let tally = ap (weight_of_walk weight task) c.input_walk-walk.ensures.walk ∙ sym (part_tally task c.input_walk-walk.ensures.sound c.args.merge.now c.requires.merge weight) in
    subst (λ (n : ℕ). Adds n (g.C.Chunks.tally c.args.access.now) (g.C.Chunks.tally c.read_parts.new.access)) tally c.in_ok-read_parts.ensures.called
