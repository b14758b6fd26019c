use Rattle.std.proofs.Common.{◌≡◌, ◌≤◌, ◌<◌, ◌+◌, ◌++◌, ℕ, List, [], Contains, length, drop, refl, sym, ap, append_assoc, ◌∙◌, subst, arith, rules}
use Rattle.std.specs.Prelude.{OnOk}
use Rattle.std.proofs.lemmas.List.{length-append}
use Rattle.std.proofs.lemmas.List.Elements.{All-contains_itself}
use Rattle.std.proofs.lemmas.List.Sums.{sum_by-append, sum_by-cons}
use Rattle.std.proofs.lemmas.Result.{err_from_is_err_and}
use Rattle.cu_store.specs.Steps.{NoChange, Steps}
use Rattle.cu_store.proofs.StaysOpen.{open_then}
use Rattle.cu_store.proofs.Steps.{steps_same, steps_then, steps_wider}
use Rattle.cu_op.specs.Arrays.{type_at}
use Rattle.cu_op.specs.Chunks.{walk}
use Rattle.cu_op.specs.Schedule.{op_of}
use Rattle.cu_op.specs.Sound.{Sound}
use Rattle.cu_op.specs.TaskView.{task_op, walk_at, IsReadAsIs, TaskView}
use Rattle.cu_op.specs.Walks.{cells_of_walks, input_walks, walk_cells}
use Rattle.cu_op.specs.declared.walks.Walk.{Walk}
use Rattle.cu_op.proofs.TaskCells.{fit_of}
use Rattle.cu_region.specs.Calls.{Made}
use Rattle.cu_region.specs.Writing.{AreElements}
use Rattle.cu_store.specs.Chunks.{Adds}
use Rattle.cu_task.specs.Calls.{chunk_calls, chunk_tally}
use Rattle.cu_task.specs.Inputs.{last_bytes, room_of_walks, walk_room, HasRegions, IsWalkKey}
use Rattle.cu_task.specs.Slabs.{other_place}
use Rattle.cu_task.specs.OfTask.{calls_for_walk, calls_for_walks, calls_to_read, cell_weight, found_bytes, held_inputs, made_bytes, tally_for_walk, tally_for_walks, tally_to_read, walks_from, weight_of_walk, AreOfItsType, HasMade, HasWalk}
use Rattle.cu_task.specs.Task.{HasResult, IsTaskKey}
use Rattle.cu_task.specs.Routes.{IsRouteOf}
use Rattle.cu_task.specs.TaskRoom.{output_in, found_values_in}
use Rattle.cu_task.proofs.InputReads.{all_added, all_made, on_err_more, on_ok_then, regions_more, still_after, still_fewer}
use Rattle.cu_task.proofs.Inside.{own_fault, own_key, own_sure, read_has, read_of, scratch_of_work, steps_of_own, stored_calls, stored_tally}
use Rattle.cu_task.proofs.JobViews.{job_is_view}
use Rattle.cu_task.proofs.MadeParts.{alike_made, at_end, later_fault, next_walk}
use Rattle.cu_task.proofs.PartialFolds.{fold_computes, fold_stores}
use Rattle.cu_task.proofs.SlabReads.{on_ok_always}
use Rattle.cu_task.proofs.SlabTask.{placed_calls, placed_rooms, placed_tally, slabs_elements, slabs_made}
use Rattle.cu_task.proofs.StripTask.{folded_calls, folded_made, folded_tally}
use Rattle.cu_task.proofs.Tails.{last_left, last_of_part, last_part, last_with, length-last_bytes, part_before_last}
use Rattle.cu_task.proofs.TaskKinds.{computed_calls, computed_tally, none_stored, of_copy, of_map, of_pull}
use Rattle.cu_task.proofs.TaskRegions.{scratch_read}
use Rattle.cu_task.proofs.TaskRooms.{kept_computing}
use Rattle.cu_task.proofs.making.+make.Goals as goal

-- ---- make_result

pub make_result-compute_result-requires : goal.make_result-compute_result-requires
make_result-compute_result-requires g t c κs sub = (
  omega (arith, c.decreases),
  (
    search rules,
    (
      search rules,
      (
        search rules,
        (
          c.requires.belongs,
          (c.requires.may, (subst (IsRouteOf (op_of c.args.task.now.plan c.args.task.now.op)) c.in-Computing.is c.route_of.ensures.route, (c.requires.room, c.requires.words))),
        ),
      ),
    ),
  ),
)

pub make_result-shapes_of-shapes-requires-clause-few : goal.make_result-shapes_of-shapes-requires-clause-few
make_result-shapes_of-shapes-requires-clause-few g t c =
    let way = subst (IsRouteOf (op_of c.args.task.now.plan c.args.task.now.op)) c.in-View.is c.route_of.ensures.route in
    way.1

pub make_result-shapes_of-shapes-requires-clause-within : goal.make_result-shapes_of-shapes-requires-clause-within
make_result-shapes_of-shapes-requires-clause-within g t c =
    let way = subst (IsRouteOf (op_of c.args.task.now.plan c.args.task.now.op)) c.in-View.is c.route_of.ensures.route in
    (of_pull c.args.task.now.plan c.args.task.now.op (op_of c.args.task.now.plan c.args.task.now.op) c.args.task.now.number c.in-View.pull.now c.in-View.ins.now (fit_of c.args.task.now.plan c.route_of.ensures.sound c.args.task.now.op c.args.task.now.operation) way.0).reads

pub make_result-pull_result-requires-clause-job : goal.make_result-pull_result-requires-clause-job
make_result-pull_result-requires-clause-job g t c =
    let way = subst (IsRouteOf (op_of c.args.task.now.plan c.args.task.now.op)) c.in-View.is c.route_of.ensures.route in
    job_is_view _ c.route_of.ensures.sound way.0 way.1 (search rules)

pub make_result-pull_result-requires-clause-room : goal.make_result-pull_result-requires-clause-room
make_result-pull_result-requires-clause-room g t c =
    let own = scratch_of_work c.args.task.now.plan c.args.task.now.op in
    let most = c.requires.room in
    omega (arith, own, most)

pub make_result-copy_region-requires-clause-scratch : goal.make_result-copy_region-requires-clause-scratch
make_result-copy_region-requires-clause-scratch g t c =
    let own = scratch_of_work c.args.task.now.plan c.args.task.now.op in
    let most = c.requires.room in
    let made = c.result_bytes.ensures.bytes in
    let front = c.split_at_mut-scratch.ensures.front_len in
    omega (arith, own, most, made, front)

pub make_result-copy_region-requires-clause-output : goal.make_result-copy_region-requires-clause-output
make_result-copy_region-requires-clause-output g t c =
    let most = c.requires.room in
    let made = c.result_bytes.ensures.bytes in
    let back = c.split_at_mut-scratch.ensures.back_len in
    omega (arith, most, made, back)

pub make_result-overflow_sub-before : goal.make_result-overflow_sub-before
make_result-overflow_sub-before g t c =
    let most = c.requires.room in
    let made = c.result_bytes.ensures.bytes in
    omega (arith, most, made)

pub make_result-returns-in-View-clause-made : goal.make_result-returns-in-View-clause-made
make_result-returns-in-View-clause-made g t c held still =
    let way = subst (IsRouteOf (op_of c.args.task.now.plan c.args.task.now.op)) c.in-View.is c.route_of.ensures.route in
    let view = (of_pull c.args.task.now.plan c.args.task.now.op (op_of c.args.task.now.plan c.args.task.now.op) c.args.task.now.number c.in-View.pull.now c.in-View.ins.now (fit_of c.args.task.now.plan c.route_of.ensures.sound c.args.task.now.op c.args.task.now.operation) way.0) in
    on_ok_then c.pull_result.result
    (λ made. alike_made c.args.task.now c.route_of.ensures.sound held (g.C.Chunks.shown c.args.access.now) _ _ view.whole view.stores still made)
    (c.pull_result.ensures.values still.now (still.told, still.steady))

pub make_result-returns-in-View-clause-elements : goal.make_result-returns-in-View-clause-elements
make_result-returns-in-View-clause-elements g t c =
    let way = subst (IsRouteOf (op_of c.args.task.now.plan c.args.task.now.op)) c.in-View.is c.route_of.ensures.route in
    let view = (of_pull c.args.task.now.plan c.args.task.now.op (op_of c.args.task.now.plan c.args.task.now.op) c.args.task.now.number c.in-View.pull.now c.in-View.ins.now (fit_of c.args.task.now.plan c.route_of.ensures.sound c.args.task.now.op c.args.task.now.operation) way.0) in
    on_ok_then c.pull_result.result
    (λ elements. record { output = elements; values = λ array is. absurd (none_stored array (sym view.stores ∙ is)) })
    c.pull_result.ensures.elements

pub make_result-returns-in-View-clause-all : goal.make_result-returns-in-View-clause-all
make_result-returns-in-View-clause-all g t c sure = c.pull_result.ensures.all (own_sure c.args.task.now.plan c.args.task.now.op sure)

pub make_result-returns-in-View-clause-called : goal.make_result-returns-in-View-clause-called
make_result-returns-in-View-clause-called g t c sure = c.pull_result.ensures.called (own_sure c.args.task.now.plan c.args.task.now.op sure)

pub make_result-returns-in-Copying-clause-made : goal.make_result-returns-in-Copying-clause-made
make_result-returns-in-Copying-clause-made g t c held still =
    let task = c.args.task.now in
    let copy = of_copy c.args.task.now.plan c.args.task.now.op (op_of c.args.task.now.plan c.args.task.now.op) c.args.task.now.number (fit_of c.args.task.now.plan c.route_of.ensures.sound c.args.task.now.op c.args.task.now.operation) (subst (IsRouteOf (op_of c.args.task.now.plan c.args.task.now.op)) c.in-Copying.is c.route_of.ensures.route) in
    let made = c.result_bytes.ensures.bytes in
    let most = c.requires.room in
    let back = c.split_at_mut-scratch.ensures.back_len in
    let long = c.copy_region.auto.output in
    let tail = last_part c.copy_region.new.scratch c.copy_region.new.output (made_bytes c.args.task.now) (omega (arith, made, most, back, long)) in
    on_ok_then c.copy_region.result
    (λ made. alike_made c.args.task.now c.route_of.ensures.sound held (g.C.Chunks.shown c.args.access.now) _ _ copy.whole copy.stores still (subst (HasMade task _) (sym tail) made))
    (c.copy_region.ensures.values still.now (still.told, still.steady))

pub make_result-returns-in-Copying-clause-elements : goal.make_result-returns-in-Copying-clause-elements
make_result-returns-in-Copying-clause-elements g t c =
    let task = c.args.task.now in
    let copy = of_copy c.args.task.now.plan c.args.task.now.op (op_of c.args.task.now.plan c.args.task.now.op) c.args.task.now.number (fit_of c.args.task.now.plan c.route_of.ensures.sound c.args.task.now.op c.args.task.now.operation) (subst (IsRouteOf (op_of c.args.task.now.plan c.args.task.now.op)) c.in-Copying.is c.route_of.ensures.route) in
    let made = c.result_bytes.ensures.bytes in
    let most = c.requires.room in
    let back = c.split_at_mut-scratch.ensures.back_len in
    let long = c.copy_region.auto.output in
    let tail = last_part c.copy_region.new.scratch c.copy_region.new.output (made_bytes c.args.task.now) (omega (arith, made, most, back, long)) in
    on_ok_then c.copy_region.result
    (λ elements. record { output = subst (AreOfItsType task) (sym tail) elements; values = λ array is. absurd (none_stored array (sym copy.stores ∙ is)) })
    c.copy_region.ensures.elements

pub make_result-returns-in-Copying-clause-all : goal.make_result-returns-in-Copying-clause-all
make_result-returns-in-Copying-clause-all g t c _ = c.copy_region.ensures.all

pub make_result-returns-in-Copying-clause-called : goal.make_result-returns-in-Copying-clause-called
make_result-returns-in-Copying-clause-called g t c _ = c.copy_region.ensures.called

-- ---- compute_result

pub compute_result-read_inputs-requires : goal.compute_result-read_inputs-requires
compute_result-read_inputs-requires g t c κs sub =
    let kept = kept_computing c.args.task.now.plan.arrays (op_of c.args.task.now.plan c.args.task.now.op) c.args.task.now.number c.requires.computing in
    let room = c.requires.room in
    let made = c.result_bytes.ensures.bytes in
    let found = c.value_bytes.ensures in
    let front = c.split_at_mut-reads.ensures.front_len in (
      omega (arith, c.decreases),
      (search rules, (search rules, (search rules, (c.requires.belongs, (c.requires.may, (omega arith, (omega (arith, kept, room, made, found, front), c.requires.words))))))),
    )

pub compute_result-overflow_sub-before_output : goal.compute_result-overflow_sub-before_output
compute_result-overflow_sub-before_output g t c =
    let room = c.requires.room in
    let made = c.result_bytes.ensures.bytes in
    omega (arith, room, made)

pub compute_result-overflow_sub-before_values : goal.compute_result-overflow_sub-before_values
compute_result-overflow_sub-before_values g t c =
    let room = c.requires.room in
    let made = c.result_bytes.ensures.bytes in
    let found = c.value_bytes.ensures in
    omega (arith, room, made, found)

pub compute_result-kept_bytes-requires : goal.compute_result-kept_bytes-requires
compute_result-kept_bytes-requires g t c =
    let room = c.requires.room in
    omega (arith, room)

pub compute_result-overflow_sub-before_inputs : goal.compute_result-overflow_sub-before_inputs
compute_result-overflow_sub-before_inputs g t c =
    let room = c.requires.room in
    let made = c.result_bytes.ensures.bytes in
    let found = c.value_bytes.ensures in
    let kept = c.kept_bytes.ensures in
    omega (arith, room, made, found, kept)

pub compute_result-compute-requires-clause-words : goal.compute_result-compute-requires-clause-words
compute_result-compute-requires-clause-words g t c =
    let own = steps_of_own c.args.task.now.plan c.args.task.now.op in
    let most = c.requires.words in
    let long = c.read_inputs.auto.words in
    omega (arith, own, most, long)

pub compute_result-compute-requires-clause-inputs : goal.compute_result-compute-requires-clause-inputs
compute_result-compute-requires-clause-inputs g t c =
    let kept = kept_computing c.args.task.now.plan.arrays (op_of c.args.task.now.plan c.args.task.now.op) c.args.task.now.number c.requires.computing in
    let room = c.requires.room in
    let made = c.result_bytes.ensures.bytes in
    let found = c.value_bytes.ensures in
    let own = c.kept_bytes.ensures in
    let front = c.split_at_mut-reads.ensures.front_len in
    let long = c.read_inputs.auto.room in
    let back = c.split_at_mut-inputs.ensures.back_len in
    omega (arith, kept, room, made, found, own, front, long, back)

pub compute_result-compute-requires-clause-values : goal.compute_result-compute-requires-clause-values
compute_result-compute-requires-clause-values g t c =
    let room = c.requires.room in
    let made = c.result_bytes.ensures.bytes in
    let found = c.value_bytes.ensures in
    let front = c.split_at_mut-front.ensures.front_len in
    let back = c.split_at_mut-reads.ensures.back_len in
    omega (arith, room, made, found, front, back)

pub compute_result-compute-requires-clause-output : goal.compute_result-compute-requires-clause-output
compute_result-compute-requires-clause-output g t c =
    let room = c.requires.room in
    let made = c.result_bytes.ensures.bytes in
    let back = c.split_at_mut-front.ensures.back_len in
    omega (arith, room, made, back)

pub compute_result-returns-clause-made : goal.compute_result-returns-clause-made
compute_result-returns-clause-made g t c held still =
    let task = c.args.task.now in
    let at = held_inputs c.args.task.now held in
    let room = c.requires.room in
    let made = c.result_bytes.ensures.bytes in
    let found = c.value_bytes.ensures in
    let own = c.kept_bytes.ensures in
    let front = c.split_at_mut-front.ensures.front_len in
    let back = c.split_at_mut-front.ensures.back_len in
    let front2 = c.split_at_mut-reads.ensures.front_len in
    let back2 = c.split_at_mut-reads.ensures.back_len in
    let kept = kept_computing c.args.task.now.plan.arrays (op_of c.args.task.now.plan c.args.task.now.op) c.args.task.now.number c.requires.computing in
    let long = c.read_inputs.auto.room in
    let output = c.compute.auto.output in
    let values = c.compute.auto.values in
    let inputs : c.split_at_mut-inputs.result.1.now ≡ last_bytes (room_of_walks task.plan.arrays (walks_from task 0)) c.read_inputs.new.room
    = c.split_at_mut-inputs.ensures.back ∙ last_left c.read_inputs.new.room _ (room_of_walks task.plan.arrays (walks_from task 0)) (omega (arith, room, made, found, own, front2, kept, long)) in
    let read = subst (HasRegions task.plan.arrays at (walks_from task 0)) (sym inputs) (c.in_ok-read_inputs.ensures.read held still) in
    let tail = last_part ((c.split_at_mut-inputs.result.0.now ++ c.split_at_mut-inputs.result.1.now) ++ c.compute.new.values) c.compute.new.output (made_bytes c.args.task.now) (omega (arith, room, made, back, output)) in
    let before = ap (λ (bytes : List ℕ). found_values_in c.args.task.now bytes) (append_assoc (c.split_at_mut-inputs.result.0.now ++ c.split_at_mut-inputs.result.1.now) c.compute.new.values c.compute.new.output)
    ∙ part_before_last (c.split_at_mut-inputs.result.0.now ++ c.split_at_mut-inputs.result.1.now) c.compute.new.values c.compute.new.output (found_bytes c.args.task.now) (made_bytes c.args.task.now) (omega (arith, room, made, found, front, back2, values)) (omega (arith, room, made, back, output)) in
    record {
      output = subst (HasMade task at) (sym tail) (c.compute.ensures.output at read);
      values = λ array is. subst (HasResult task.plan task.op task.number array at) (sym before) (c.compute.ensures.values array is at read);
    }

pub compute_result-returns-clause-elements : goal.compute_result-returns-clause-elements
compute_result-returns-clause-elements g t c =
    let task = c.args.task.now in
    let room = c.requires.room in
    let made = c.result_bytes.ensures.bytes in
    let found = c.value_bytes.ensures in
    let own = c.kept_bytes.ensures in
    let front = c.split_at_mut-front.ensures.front_len in
    let back = c.split_at_mut-front.ensures.back_len in
    let front2 = c.split_at_mut-reads.ensures.front_len in
    let back2 = c.split_at_mut-reads.ensures.back_len in
    let output = c.compute.auto.output in
    let values = c.compute.auto.values in
    let tail = last_part ((c.split_at_mut-inputs.result.0.now ++ c.split_at_mut-inputs.result.1.now) ++ c.compute.new.values) c.compute.new.output (made_bytes c.args.task.now) (omega (arith, room, made, back, output)) in
    let before = ap (λ (bytes : List ℕ). found_values_in c.args.task.now bytes) (append_assoc (c.split_at_mut-inputs.result.0.now ++ c.split_at_mut-inputs.result.1.now) c.compute.new.values c.compute.new.output)
    ∙ part_before_last (c.split_at_mut-inputs.result.0.now ++ c.split_at_mut-inputs.result.1.now) c.compute.new.values c.compute.new.output (found_bytes c.args.task.now) (made_bytes c.args.task.now) (omega (arith, room, made, found, front, back2, values)) (omega (arith, room, made, back, output)) in
    record {
      output = subst (AreOfItsType task) (sym tail) c.compute.ensures.output_elements;
      values = λ array is. subst (AreElements (type_at task.plan.arrays array)) (sym before) (c.compute.ensures.value_elements array is);
    }

pub compute_result-returns-clause-step : goal.compute_result-returns-clause-step
compute_result-returns-clause-step g t c =
    let calls = computed_calls (chunk_calls c.args.task.now.plan c.args.task.now.op) c.args.task.now.plan.arrays (op_of c.args.task.now.plan c.args.task.now.op) c.args.task.now.number c.requires.computing in
    subst (λ (n : ℕ). Steps NoChange 0 n (g.C.Chunks.shown c.args.access.now) (g.C.Chunks.shown c.read_inputs.new.access)) (sym calls) c.read_inputs.ensures.step

pub compute_result-returns-clause-all : goal.compute_result-returns-clause-all
compute_result-returns-clause-all g t c sure =
    let calls = computed_calls (chunk_calls c.args.task.now.plan c.args.task.now.op) c.args.task.now.plan.arrays (op_of c.args.task.now.plan c.args.task.now.op) c.args.task.now.number c.requires.computing in
    subst (λ (n : ℕ). Made n (g.C.Chunks.shown c.args.access.now).calls (g.C.Chunks.shown c.read_inputs.new.access).calls) (sym calls) (c.in_ok-read_inputs.ensures.all sure)

pub compute_result-returns-clause-called : goal.compute_result-returns-clause-called
compute_result-returns-clause-called g t c sure =
    let weight = cell_weight (g.C.Chunks.weight c.args.store.now) c.args.task.now in
    let tally = computed_tally weight (chunk_tally weight c.args.task.now.plan c.args.task.now.op) c.args.task.now.plan.arrays (op_of c.args.task.now.plan c.args.task.now.op) c.args.task.now.number c.requires.computing in
    subst (λ (n : ℕ). Adds n (g.C.Chunks.tally c.args.access.now) (g.C.Chunks.tally c.read_inputs.new.access)) (sym tally) (c.in_ok-read_inputs.ensures.called sure)

pub compute_result-returns-in_err-read_inputs-clause-step : goal.compute_result-returns-in_err-read_inputs-clause-step
compute_result-returns-in_err-read_inputs-clause-step g t c =
    let calls = computed_calls (chunk_calls c.args.task.now.plan c.args.task.now.op) c.args.task.now.plan.arrays (op_of c.args.task.now.plan c.args.task.now.op) c.args.task.now.number c.requires.computing in
    subst (λ (n : ℕ). Steps NoChange 0 n (g.C.Chunks.shown c.args.access.now) (g.C.Chunks.shown c.read_inputs.new.access)) (sym calls) c.read_inputs.ensures.step

pub compute_result-returns-in_err-read_inputs-clause-made : goal.compute_result-returns-in_err-read_inputs-clause-made
compute_result-returns-in_err-read_inputs-clause-made g t c held still = let p = err_from_is_err_and c.from_residual.result c.from_residual.ensures.1 in rw p.1 tt

pub compute_result-returns-in_err-read_inputs-clause-elements : goal.compute_result-returns-in_err-read_inputs-clause-elements
compute_result-returns-in_err-read_inputs-clause-elements g t c = let p = err_from_is_err_and c.from_residual.result c.from_residual.ensures.1 in rw p.1 tt

pub compute_result-returns-in_err-read_inputs-clause-all : goal.compute_result-returns-in_err-read_inputs-clause-all
compute_result-returns-in_err-read_inputs-clause-all g t c sure = let p = err_from_is_err_and c.from_residual.result c.from_residual.ensures.1 in rw p.1 tt

pub compute_result-returns-in_err-read_inputs-clause-called : goal.compute_result-returns-in_err-read_inputs-clause-called
compute_result-returns-in_err-read_inputs-clause-called g t c sure = let p = err_from_is_err_and c.from_residual.result c.from_residual.ensures.1 in rw p.1 tt

pub compute_result-returns-in_err-read_inputs-clause-cause : goal.compute_result-returns-in_err-read_inputs-clause-cause
compute_result-returns-in_err-read_inputs-clause-cause g t c = let p = err_from_is_err_and c.from_residual.result c.from_residual.ensures.1 in rw (p.1, p.2) c.in_err-read_inputs.ensures.cause

-- ---- fold_by_strips

pub fold_by_strips-read_inputs-requires : goal.fold_by_strips-read_inputs-requires
fold_by_strips-read_inputs-requires g t c κs sub =
    let map = c.args.map.now in
    let st = c.requires.map.inside in
    let before = st.before in
    let own = kept_computing map.plan.arrays (op_of map.plan map.op) map.number (of_map (op_of map.plan map.op) c.requires.map.map).computes in
    let room = c.requires.room in
    let made = c.result_bytes.ensures.bytes in
    let strip = c.kept_bytes.ensures in
    let front = c.split_at_mut-front.ensures.front_len in
    let back = c.split_at_mut-front.ensures.back_len in
    let front2 = c.split_at_mut-reads.ensures.front_len in
    let back2 = c.split_at_mut-reads.ensures.back_len in
    let fits = st.scratch in
    let words = c.requires.words in
    let own_words = st.words in (
      omega (arith, c.decreases, before),
      (
        search rules,
        (
          search rules,
          (
            search rules,
            (
              c.requires.belongs,
              (
                (λ key here. c.requires.may key (st.keys key here)),
                (omega arith, (omega (arith, own, room, made, strip, front, front2, fits), omega (arith, words, own_words))),
              ),
            ),
          ),
        ),
      ),
    )

pub fold_by_strips-overflow_sub-before_output : goal.fold_by_strips-overflow_sub-before_output
fold_by_strips-overflow_sub-before_output g t c =
    let room = c.requires.room in
    let made = c.result_bytes.ensures.bytes in
    omega (arith, room, made)

pub fold_by_strips-overflow_sub-before_strip : goal.fold_by_strips-overflow_sub-before_strip
fold_by_strips-overflow_sub-before_strip g t c =
    let room = c.requires.room in
    let made = c.result_bytes.ensures.bytes in
    let strip = c.kept_bytes.ensures in
    omega (arith, room, made, strip)

pub fold_by_strips-overflow_sub-before_inputs : goal.fold_by_strips-overflow_sub-before_inputs
fold_by_strips-overflow_sub-before_inputs g t c =
    let room = c.requires.room in
    let made = c.result_bytes.ensures.bytes in
    let strip = c.kept_bytes.ensures in
    let kept = c.kept_bytes-2.ensures in
    let fits = c.requires.map.inside.scratch in
    omega (arith, room, made, strip, kept, fits)

pub fold_by_strips-fold_map-requires-clause-inputs : goal.fold_by_strips-fold_map-requires-clause-inputs
fold_by_strips-fold_map-requires-clause-inputs g t c =
    let map = c.args.map.now in
    let own = kept_computing map.plan.arrays (op_of map.plan map.op) map.number (of_map (op_of map.plan map.op) c.requires.map.map).computes in
    let room = c.requires.room in
    let made = c.result_bytes.ensures.bytes in
    let strip = c.kept_bytes.ensures in
    let front = c.split_at_mut-front.ensures.front_len in
    let back = c.split_at_mut-front.ensures.back_len in
    let front2 = c.split_at_mut-reads.ensures.front_len in
    let back2 = c.split_at_mut-reads.ensures.back_len in
    let kept = c.kept_bytes-2.ensures in
    let fits = c.requires.map.inside.scratch in
    let long = c.read_inputs.auto.room in
    let last = c.split_at_mut-inputs.ensures.back_len in
    omega (arith, own, room, made, strip, front, front2, kept, fits, long, last)

pub fold_by_strips-fold_map-requires-clause-output : goal.fold_by_strips-fold_map-requires-clause-output
fold_by_strips-fold_map-requires-clause-output g t c =
    let room = c.requires.room in
    let made = c.result_bytes.ensures.bytes in
    let back = c.split_at_mut-front.ensures.back_len in
    omega (arith, room, made, back)

pub fold_by_strips-fold_map-requires-clause-strip : goal.fold_by_strips-fold_map-requires-clause-strip
fold_by_strips-fold_map-requires-clause-strip g t c =
    let task = c.args.task.now in
    let own = kept_computing task.plan.arrays (op_of task.plan task.op) task.number (fold_computes (op_of task.plan task.op) c.requires.map.fold) in
    let room = c.requires.room in
    let made = c.result_bytes.ensures.bytes in
    let strip = c.kept_bytes.ensures in
    let front = c.split_at_mut-front.ensures.front_len in
    let back = c.split_at_mut-front.ensures.back_len in
    let front2 = c.split_at_mut-reads.ensures.front_len in
    let back2 = c.split_at_mut-reads.ensures.back_len in
    omega (arith, own, room, made, strip, front, back2)

pub fold_by_strips-fold_map-requires-clause-words : goal.fold_by_strips-fold_map-requires-clause-words
fold_by_strips-fold_map-requires-clause-words g t c =
    let own = steps_of_own c.args.map.now.plan c.args.map.now.op in
    let most = c.requires.words in
    let fewer = c.requires.map.inside.words in
    let long = c.read_inputs.auto.words in
    omega (arith, own, most, fewer, long)

pub fold_by_strips-returns-clause-made : goal.fold_by_strips-returns-clause-made
fold_by_strips-returns-clause-made g t c held still =
    let task = c.args.task.now in
    let map = c.args.map.now in
    let own = kept_computing map.plan.arrays (op_of map.plan map.op) map.number (of_map (op_of map.plan map.op) c.requires.map.map).computes in
    let room = c.requires.room in
    let made = c.result_bytes.ensures.bytes in
    let strip = c.kept_bytes.ensures in
    let front = c.split_at_mut-front.ensures.front_len in
    let back = c.split_at_mut-front.ensures.back_len in
    let front2 = c.split_at_mut-reads.ensures.front_len in
    let back2 = c.split_at_mut-reads.ensures.back_len in
    let kept = c.kept_bytes-2.ensures in
    let fits = c.requires.map.inside.scratch in
    let long = c.read_inputs.auto.room in
    let output = c.fold_map.auto.output in
    let fewer = still_fewer (IsTaskKey task.plan task.op task.number) (IsTaskKey map.plan map.op map.number) held (g.C.Chunks.shown c.args.access.now) c.requires.map.inside.keys still in
    let inputs : c.split_at_mut-inputs.result.1.now ≡ last_bytes (room_of_walks map.plan.arrays (walks_from map 0)) c.read_inputs.new.room
    = c.split_at_mut-inputs.ensures.back ∙ last_left c.read_inputs.new.room _ (room_of_walks map.plan.arrays (walks_from map 0)) (omega (arith, own, room, made, strip, front, front2, kept, fits, long)) in
    let read = subst (HasRegions map.plan.arrays (held_inputs map held) (walks_from map 0)) (sym inputs) (c.in_ok-read_inputs.ensures.read held fewer) in
    let tail = last_part ((c.split_at_mut-inputs.result.0.now ++ c.split_at_mut-inputs.result.1.now) ++ c.fold_map.new.strip) c.fold_map.new.output (made_bytes c.args.task.now) (omega (arith, room, made, back, output)) in
    record {
      output = subst (HasMade task (held_inputs task held)) (sym tail) (folded_made task map c.requires.map held _ _ read c.fold_map.ensures.values);
      values = λ array is. absurd (none_stored array (fold_stores (op_of task.plan task.op) c.requires.map.fold ∙ is));
    }

pub fold_by_strips-returns-clause-elements : goal.fold_by_strips-returns-clause-elements
fold_by_strips-returns-clause-elements g t c =
    let room = c.requires.room in
    let made = c.result_bytes.ensures.bytes in
    let back = c.split_at_mut-front.ensures.back_len in
    let output = c.fold_map.auto.output in
    let tail = last_part ((c.split_at_mut-inputs.result.0.now ++ c.split_at_mut-inputs.result.1.now) ++ c.fold_map.new.strip) c.fold_map.new.output (made_bytes c.args.task.now) (omega (arith, room, made, back, output)) in
    record {
      output = subst (AreOfItsType c.args.task.now) (sym tail) c.fold_map.ensures.elements;
      values = λ array is. absurd (none_stored array (fold_stores (op_of c.args.task.now.plan c.args.task.now.op) c.requires.map.fold ∙ is));
    }

pub fold_by_strips-returns-clause-step : goal.fold_by_strips-returns-clause-step
fold_by_strips-returns-clause-step g t c =
    subst (λ (n : ℕ). Steps NoChange 0 n (g.C.Chunks.shown c.args.access.now) (g.C.Chunks.shown c.read_inputs.new.access))
    (sym (folded_calls c.args.task.now c.args.map.now c.requires.map)) c.read_inputs.ensures.step

pub fold_by_strips-returns-clause-all : goal.fold_by_strips-returns-clause-all
fold_by_strips-returns-clause-all g t c sure =
    subst (λ (n : ℕ). Made n (g.C.Chunks.shown c.args.access.now).calls (g.C.Chunks.shown c.read_inputs.new.access).calls)
    (sym (folded_calls c.args.task.now c.args.map.now c.requires.map)) (c.in_ok-read_inputs.ensures.all (c.requires.map.inside.sure sure))

pub fold_by_strips-returns-clause-called : goal.fold_by_strips-returns-clause-called
fold_by_strips-returns-clause-called g t c sure =
    subst (λ (n : ℕ). Adds n (g.C.Chunks.tally c.args.access.now) (g.C.Chunks.tally c.read_inputs.new.access))
    (sym (folded_tally c.args.task.now c.args.map.now c.requires.map (g.C.Chunks.weight c.args.store.now))) (c.in_ok-read_inputs.ensures.called (c.requires.map.inside.sure sure))

pub fold_by_strips-returns-in_err-read_inputs-clause-step : goal.fold_by_strips-returns-in_err-read_inputs-clause-step
fold_by_strips-returns-in_err-read_inputs-clause-step g t c =
    subst (λ (n : ℕ). Steps NoChange 0 n (g.C.Chunks.shown c.args.access.now) (g.C.Chunks.shown c.read_inputs.new.access))
    (sym (folded_calls c.args.task.now c.args.map.now c.requires.map)) c.read_inputs.ensures.step

pub fold_by_strips-returns-in_err-read_inputs-clause-made : goal.fold_by_strips-returns-in_err-read_inputs-clause-made
fold_by_strips-returns-in_err-read_inputs-clause-made g t c held still = let p = err_from_is_err_and c.from_residual.result c.from_residual.ensures.1 in rw p.1 tt

pub fold_by_strips-returns-in_err-read_inputs-clause-elements : goal.fold_by_strips-returns-in_err-read_inputs-clause-elements
fold_by_strips-returns-in_err-read_inputs-clause-elements g t c = let p = err_from_is_err_and c.from_residual.result c.from_residual.ensures.1 in rw p.1 tt

pub fold_by_strips-returns-in_err-read_inputs-clause-all : goal.fold_by_strips-returns-in_err-read_inputs-clause-all
fold_by_strips-returns-in_err-read_inputs-clause-all g t c sure = let p = err_from_is_err_and c.from_residual.result c.from_residual.ensures.1 in rw p.1 tt

pub fold_by_strips-returns-in_err-read_inputs-clause-called : goal.fold_by_strips-returns-in_err-read_inputs-clause-called
fold_by_strips-returns-in_err-read_inputs-clause-called g t c sure = let p = err_from_is_err_and c.from_residual.result c.from_residual.ensures.1 in rw p.1 tt

pub fold_by_strips-returns-in_err-read_inputs-clause-cause : goal.fold_by_strips-returns-in_err-read_inputs-clause-cause
fold_by_strips-returns-in_err-read_inputs-clause-cause g t c =
    let p = err_from_is_err_and c.from_residual.result c.from_residual.ensures.1 in
    rw (p.1, p.2) (c.requires.map.inside.faults (g.C.Chunks.shown c.args.access.now) (g.C.Chunks.shown c.read_inputs.new.access) _ c.in_err-read_inputs.ensures.cause)

-- ---- read_inputs

pub read_inputs-returns-then-place-input_walks-clause-read : goal.read_inputs-returns-then-place-input_walks-clause-read
read_inputs-returns-then-place-input_walks-clause-read g t c held still =
    let walks = input_walks c.args.task.now.plan.arrays (op_of c.args.task.now.plan c.args.task.now.op) c.args.task.now.number in
    let none : drop c.args.place walks ≡ [] = at_end walks c.args.place (search rules) in
    rw none tt

pub read_inputs-returns-then-place-input_walks-clause-step : goal.read_inputs-returns-then-place-input_walks-clause-step
read_inputs-returns-then-place-input_walks-clause-step g t c =
    steps_wider (λ key value none. none) (omega arith) (omega arith) (steps_same NoChange (g.C.Chunks.shown c.args.access.now))

pub read_inputs-returns-then-place-input_walks-clause-called : goal.read_inputs-returns-then-place-input_walks-clause-called
read_inputs-returns-then-place-input_walks-clause-called g t c sure =
    let walks = input_walks c.args.task.now.plan.arrays (op_of c.args.task.now.plan c.args.task.now.op) c.args.task.now.number in
    let none : drop c.args.place walks ≡ [] = at_end walks c.args.place (search rules) in
    let nothing : tally_for_walks (g.C.Chunks.weight c.args.store.now) c.args.task.now (drop c.args.place walks) ≡ 0 = ap (tally_for_walks (g.C.Chunks.weight c.args.store.now) c.args.task.now) none in
    omega (arith, nothing)

pub read_inputs-read_input-requires : goal.read_inputs-read_input-requires
read_inputs-read_input-requires g t c κs sub =
    let arrays = c.args.task.now.plan.arrays in
    let walks = input_walks c.args.task.now.plan.arrays (op_of c.args.task.now.plan c.args.task.now.op) c.args.task.now.number in
    let below : c.args.place < length walks = search rules in
    let next = next_walk walks c.args.place (walk 0 [] []) below in
    let sum = ap (room_of_walks arrays) next ∙ sum_by-cons (walk_room arrays) (walk_at c.args.task.now c.args.place) (drop (c.args.place + 1) walks) in
    let others = c.bytes_from.ensures in
    let front = c.split_at_mut-own.ensures.front_len in
    let room = c.requires.room in
    let words = c.requires.words in
    let long = c.read_inputs.auto.room in
    let words_len = c.read_inputs.auto.words in (
      omega (arith, c.decreases),
      (
        search rules,
        (
          search rules,
          (
            search rules,
            (
              c.read_inputs.ensures.open.belongs,
              (
                (λ key here. c.read_inputs.ensures.open.gets key (c.requires.may key here)),
                (omega (arith, below), (omega (arith, sum, others, front, room, long), omega (arith, words, words_len))),
              ),
            ),
          ),
        ),
      ),
    )

pub read_inputs-bytes_from-requires-clause-small : goal.read_inputs-bytes_from-requires-clause-small
read_inputs-bytes_from-requires-clause-small g t c =
    let arrays = c.args.task.now.plan.arrays in
    let walks = input_walks c.args.task.now.plan.arrays (op_of c.args.task.now.plan c.args.task.now.op) c.args.task.now.number in
    let below : c.args.place < length walks = search rules in
    let next = next_walk walks c.args.place (walk 0 [] []) below in
    let sum = ap (room_of_walks arrays) next ∙ sum_by-cons (walk_room arrays) (walk_at c.args.task.now c.args.place) (drop (c.args.place + 1) walks) in
    let room = c.requires.room in
    omega (arith, sum, room)

pub read_inputs-overflow_sub-before_others : goal.read_inputs-overflow_sub-before_others
read_inputs-overflow_sub-before_others g t c =
    let arrays = c.args.task.now.plan.arrays in
    let walks = input_walks c.args.task.now.plan.arrays (op_of c.args.task.now.plan c.args.task.now.op) c.args.task.now.number in
    let below : c.args.place < length walks = search rules in
    let next = next_walk walks c.args.place (walk 0 [] []) below in
    let sum = ap (room_of_walks arrays) next ∙ sum_by-cons (walk_room arrays) (walk_at c.args.task.now c.args.place) (drop (c.args.place + 1) walks) in
    let others = c.bytes_from.ensures in
    let room = c.requires.room in
    let long = c.read_inputs.auto.room in
    omega (arith, sum, others, room, long)

pub read_inputs-read_inputs-requires : goal.read_inputs-read_inputs-requires
read_inputs-read_inputs-requires g t c κs sub =
    let arrays = c.args.task.now.plan.arrays in
    let walks = input_walks c.args.task.now.plan.arrays (op_of c.args.task.now.plan c.args.task.now.op) c.args.task.now.number in
    let below : c.args.place < length walks = search rules in
    let next = next_walk walks c.args.place (walk 0 [] []) below in
    let sum = ap (room_of_walks arrays) next ∙ sum_by-cons (walk_room arrays) (walk_at c.args.task.now c.args.place) (drop (c.args.place + 1) walks) in
    let few = subst (λ (ws : List Walk). length ws ≤ 8) c.input_walks.ensures.walks c.input_walks.ensures.few in
    let room = c.requires.room in (
      omega (arith, c.decreases, below, few),
      (search rules, (search rules, (search rules, (c.requires.belongs, (c.requires.may, (omega (arith, below), (omega (arith, sum, room), c.requires.words))))))),
    )

pub read_inputs-returns-clause-read : goal.read_inputs-returns-clause-read
read_inputs-returns-clause-read g t c held still =
    let task = c.args.task.now in
    let arrays = c.args.task.now.plan.arrays in
    let walks = input_walks c.args.task.now.plan.arrays (op_of c.args.task.now.plan c.args.task.now.op) c.args.task.now.number in
    let below : c.args.place < length walks = search rules in
    let next = next_walk walks c.args.place (walk 0 [] []) below in
    let sum = ap (room_of_walks arrays) next ∙ sum_by-cons (walk_room arrays) (walk_at c.args.task.now c.args.place) (drop (c.args.place + 1) walks) in
    let w = walk_at task c.args.place in
    let ws = drop (c.args.place + 1) walks in
    let at = held_inputs task held in
    let others = c.bytes_from.ensures in
    let front = c.split_at_mut-own.ensures.front_len in
    let back = c.split_at_mut-own.ensures.back_len in
    let room = c.requires.room in
    let long = c.read_inputs.auto.room in
    let own_long = c.read_input.auto.room in
    let behind : c.split_at_mut-own.result.1.now ≡ last_bytes (room_of_walks arrays ws) c.read_inputs.new.room
    = c.split_at_mut-own.ensures.back ∙ last_left c.read_inputs.new.room _ (room_of_walks arrays ws) (omega (arith, sum, others, room, long)) in
    let first = subst (HasRegions arrays at ws) (sym behind) (c.in_ok-read_inputs.ensures.read held still) in
    let later = still_after (IsTaskKey task.plan task.op task.number) held (g.C.Chunks.shown c.args.access.now) (g.C.Chunks.shown c.read_inputs.new.access) 0 (calls_for_walks task ws) still c.read_inputs.ensures.step in
    let fits : walk_room arrays w ≤ length c.read_input.new.room = omega (arith, sum, others, front, room, long, own_long) in
    let together : last_bytes (room_of_walks arrays (drop c.args.place walks)) (c.read_input.new.room ++ c.split_at_mut-own.result.1.now) ≡ last_bytes (walk_room arrays w) c.read_input.new.room ++ c.split_at_mut-own.result.1.now
    = ap (λ (n : ℕ). last_bytes n (c.read_input.new.room ++ c.split_at_mut-own.result.1.now)) sum
    ∙ last_with c.read_input.new.room c.split_at_mut-own.result.1.now (walk_room arrays w) (room_of_walks arrays ws) (omega (arith, sum, others, back, room, long)) fits in
    on_ok_then c.read_input.result
    (λ has. subst (HasRegions arrays at (drop c.args.place walks)) (sym together)
    (subst (λ (xs : List Walk). HasRegions arrays at xs (last_bytes (walk_room arrays w) c.read_input.new.room ++ c.split_at_mut-own.result.1.now)) (sym next)
    (regions_more arrays w ws at (last_bytes (walk_room arrays w) c.read_input.new.room) c.split_at_mut-own.result.1.now (length-last_bytes (walk_room arrays w) c.read_input.new.room fits) has first)))
    (c.read_input.ensures.read held later)

-- the calls for the region at a place, and for those behind it
next_calls : (t : TaskView) (place : ℕ) → place < length (input_walks t.plan.arrays (task_op t) t.number)
    → calls_for_walks t (walks_from t place) ≡ calls_for_walk t (walk_at t place) + calls_for_walks t (walks_from t (place + 1))
next_calls t place below =
    let walks = input_walks t.plan.arrays (task_op t) t.number in
    ap (calls_for_walks t) (next_walk walks place (walk 0 [] []) below)
    ∙ sum_by-append (chunk_calls t.plan t.op) (walk_cells t.plan.arrays (walk_at t place)) (cells_of_walks t.plan.arrays (drop (place + 1) walks))

-- and what they add to a tally
next_tally : (weight : List ℕ → ℕ) (t : TaskView) (place : ℕ) → place < length (input_walks t.plan.arrays (task_op t) t.number)
    → tally_for_walks weight t (walks_from t place) ≡ tally_for_walk weight t (walk_at t place) + tally_for_walks weight t (walks_from t (place + 1))
next_tally weight t place below =
    let walks = input_walks t.plan.arrays (task_op t) t.number in
    ap (tally_for_walks weight t) (next_walk walks place (walk 0 [] []) below)
    ∙ sum_by-append (chunk_tally (cell_weight weight t) t.plan t.op) (walk_cells t.plan.arrays (walk_at t place)) (cells_of_walks t.plan.arrays (drop (place + 1) walks))

pub read_inputs-returns-clause-step : goal.read_inputs-returns-clause-step
read_inputs-returns-clause-step g t c =
    let calls = next_calls c.args.task.now c.args.place (search rules) in
    steps_wider (λ key value none. none) (omega arith) (omega (arith, calls)) (steps_then c.read_inputs.ensures.step c.read_input.ensures.step)

pub read_inputs-returns-clause-all : goal.read_inputs-returns-clause-all
read_inputs-returns-clause-all g t c sure =
    let task = c.args.task.now in
    let calls = next_calls c.args.task.now c.args.place (search rules) in
    let total : calls_for_walks task (walks_from task c.args.place) ≡ calls_for_walks task (walks_from task (c.args.place + 1)) + calls_for_walk task (walk_at task c.args.place) = omega (arith, calls) in
    on_ok_then c.read_input.result
    (λ made. subst (λ (n : ℕ). Made n (g.C.Chunks.shown c.args.access.now).calls (g.C.Chunks.shown c.read_input.new.access).calls) (sym total)
    (all_made (g.C.Chunks.shown c.args.access.now).calls (g.C.Chunks.shown c.read_inputs.new.access).calls (g.C.Chunks.shown c.read_input.new.access).calls
    (calls_for_walks task (walks_from task (c.args.place + 1))) (calls_for_walk task (walk_at task c.args.place)) (c.in_ok-read_inputs.ensures.all sure) made))
    (c.read_input.ensures.all sure)

pub read_inputs-returns-clause-called : goal.read_inputs-returns-clause-called
read_inputs-returns-clause-called g t c sure =
    let task = c.args.task.now in
    let weight = g.C.Chunks.weight c.args.store.now in
    let tally = next_tally weight task c.args.place (search rules) in
    let total : tally_for_walks weight task (walks_from task c.args.place) ≡ tally_for_walks weight task (walks_from task (c.args.place + 1)) + tally_for_walk weight task (walk_at task c.args.place) = omega (arith, tally) in
    on_ok_then c.read_input.result
    (λ called. subst (λ (n : ℕ). Adds n (g.C.Chunks.tally c.args.access.now) (g.C.Chunks.tally c.read_input.new.access)) (sym total)
    (all_added (g.C.Chunks.tally c.args.access.now) (g.C.Chunks.tally c.read_inputs.new.access) (g.C.Chunks.tally c.read_input.new.access)
    (tally_for_walks weight task (walks_from task (c.args.place + 1))) (tally_for_walk weight task (walk_at task c.args.place)) (c.in_ok-read_inputs.ensures.called sure) called))
    (c.read_input.ensures.called sure)

pub read_inputs-returns-clause-cause : goal.read_inputs-returns-clause-cause
read_inputs-returns-clause-cause g t c =
    on_err_more c.read_input.result
    (λ e fault. later_fault (g.C.Chunks.shown c.args.access.now) (g.C.Chunks.shown c.read_inputs.new.access) (g.C.Chunks.shown c.read_input.new.access) c.args.task.now.plan c.args.task.now.op c.args.task.now.number e c.read_inputs.ensures.step.count fault)
    c.read_input.ensures.cause

pub read_inputs-returns-clause-open : goal.read_inputs-returns-clause-open
read_inputs-returns-clause-open g t c = open_then c.read_inputs.ensures.open c.read_input.ensures.open

pub read_inputs-returns-in_err-read_inputs-clause-open : goal.read_inputs-returns-in_err-read_inputs-clause-open
read_inputs-returns-in_err-read_inputs-clause-open g t c = c.read_inputs.ensures.open

pub read_inputs-returns-in_err-read_inputs-clause-step : goal.read_inputs-returns-in_err-read_inputs-clause-step
read_inputs-returns-in_err-read_inputs-clause-step g t c =
    let calls = next_calls c.args.task.now c.args.place (search rules) in
    steps_wider (λ key value none. none) (omega arith) (omega (arith, calls)) c.read_inputs.ensures.step

pub read_inputs-returns-in_err-read_inputs-clause-read : goal.read_inputs-returns-in_err-read_inputs-clause-read
read_inputs-returns-in_err-read_inputs-clause-read g t c held still = let p = err_from_is_err_and c.from_residual.result c.from_residual.ensures.1 in rw p.1 tt

pub read_inputs-returns-in_err-read_inputs-clause-all : goal.read_inputs-returns-in_err-read_inputs-clause-all
read_inputs-returns-in_err-read_inputs-clause-all g t c sure = let p = err_from_is_err_and c.from_residual.result c.from_residual.ensures.1 in rw p.1 tt

pub read_inputs-returns-in_err-read_inputs-clause-called : goal.read_inputs-returns-in_err-read_inputs-clause-called
read_inputs-returns-in_err-read_inputs-clause-called g t c sure = let p = err_from_is_err_and c.from_residual.result c.from_residual.ensures.1 in rw p.1 tt

pub read_inputs-returns-in_err-read_inputs-clause-cause : goal.read_inputs-returns-in_err-read_inputs-clause-cause
read_inputs-returns-in_err-read_inputs-clause-cause g t c = let p = err_from_is_err_and c.from_residual.result c.from_residual.ensures.1 in rw (p.1, p.2) c.in_err-read_inputs.ensures.cause

-- ---- read_input

-- the region that is read as it is
as_listed : (t : TaskView) (place : ℕ) (w : Walk) → place < length (input_walks t.plan.arrays (task_op t) t.number) → w ≡ walk_at t place
    → Contains (input_walks t.plan.arrays (task_op t) t.number) w
as_listed t place w below same =
    subst (λ (v : Walk). Contains (input_walks t.plan.arrays (task_op t) t.number) v) (sym same) (All-contains_itself (input_walks t.plan.arrays (task_op t) t.number) place (walk 0 [] []) below)

pub read_input-read_walk-requires-clause-may : goal.read_input-read_walk-requires-clause-may
read_input-read_walk-requires-clause-may g t c key here =
    let task = c.args.task.now in
    let w = c.input_walk-walk.result in
    let listed = as_listed task c.args.place w c.requires.place c.input_walk-walk.ensures.walk in
    let as_is = subst (IsReadAsIs task.plan.arrays) (sym c.input_walk-walk.ensures.walk) (c.inner_task.ensures.none c.in-None.is) in
    c.requires.may key (own_key task.plan c.input_walk-walk.ensures.sound task.op task.number w listed as_is key here)

pub read_input-read_walk-requires-clause-scratch : goal.read_input-read_walk-requires-clause-scratch
read_input-read_walk-requires-clause-scratch g t c =
    let task = c.args.task.now in
    let w = c.input_walk-walk.result in
    let listed = as_listed task c.args.place w c.requires.place c.input_walk-walk.ensures.walk in
    let own = scratch_read task.plan.arrays (op_of task.plan task.op) w.array (read_of task.plan c.input_walk-walk.ensures.sound task.op task.number w listed) in
    let work = scratch_of_work task.plan task.op in
    let most = c.requires.room in
    let same = ap (walk_room task.plan.arrays) c.input_walk-walk.ensures.walk in
    let bytes = c.walk_bytes.ensures.bytes in
    let front = c.split_at_mut-scratch.ensures.front_len in
    omega (arith, own, work, most, same, bytes, front)

pub read_input-overflow_sub-before : goal.read_input-overflow_sub-before
read_input-overflow_sub-before g t c =
    let most = c.requires.room in
    let same = ap (walk_room c.args.task.now.plan.arrays) c.input_walk-walk.ensures.walk in
    let bytes = c.walk_bytes.ensures.bytes in
    omega (arith, most, same, bytes)

pub read_input-read_walk-requires-clause-room : goal.read_input-read_walk-requires-clause-room
read_input-read_walk-requires-clause-room g t c =
    let most = c.requires.room in
    let same = ap (walk_room c.args.task.now.plan.arrays) c.input_walk-walk.ensures.walk in
    let bytes = c.walk_bytes.ensures.bytes in
    let back = c.split_at_mut-scratch.ensures.back_len in
    omega (arith, most, same, bytes, back)

pub read_input-returns-in-None-clause-read : goal.read_input-returns-in-None-clause-read
read_input-returns-in-None-clause-read g t c held still =
    let task = c.args.task.now in
    let w = c.input_walk-walk.result in
    let s = c.input_walk-walk.ensures.sound in
    let same = c.input_walk-walk.ensures.walk in
    let listed = as_listed task c.args.place w c.requires.place same in
    let as_is = subst (IsReadAsIs task.plan.arrays) (sym same) (c.inner_task.ensures.none c.in-None.is) in
    let fewer = still_fewer (IsTaskKey task.plan task.op task.number) (IsWalkKey task.plan.arrays w) held (g.C.Chunks.shown c.args.access.now) (own_key task.plan s task.op task.number w listed as_is) still in
    let most = c.requires.room in
    let rooms = ap (walk_room task.plan.arrays) same in
    let bytes = c.walk_bytes.ensures.bytes in
    let back = c.split_at_mut-scratch.ensures.back_len in
    let long = c.read_walk.auto.out in
    let tail = last_part c.read_walk.new.scratch c.read_walk.new.out (walk_room task.plan.arrays (walk_at task c.args.place)) (omega (arith, most, rooms, bytes, back, long)) in
    on_ok_then c.read_walk.result
    (λ reads. subst (HasWalk task (held_inputs task held) (walk_at task c.args.place)) (sym tail)
    (subst (λ (v : Walk). HasWalk task (held_inputs task held) v c.read_walk.new.out) same (read_has task.plan s w held c.read_walk.new.out c.input_walk-walk.ensures.over as_is reads)))
    (c.read_walk.ensures.read held fewer)

as_calls : (t : TaskView) (s : Sound t.plan) (place : ℕ) (w : Walk) → w ≡ walk_at t place → IsReadAsIs t.plan.arrays (walk_at t place)
    → length (walk_cells t.plan.arrays w) ≡ calls_for_walk t (walk_at t place)
as_calls t s place w same as_is = ap (λ (v : Walk). length (walk_cells t.plan.arrays v)) same ∙ sym (stored_calls t.plan s t.op (walk_at t place) as_is)

as_tally : (weight : List ℕ → ℕ) (t : TaskView) (s : Sound t.plan) (place : ℕ) (w : Walk) → w ≡ walk_at t place → IsReadAsIs t.plan.arrays (walk_at t place)
    → weight_of_walk weight t w ≡ tally_for_walk weight t (walk_at t place)
as_tally weight t s place w same as_is = ap (weight_of_walk weight t) same ∙ sym (stored_tally t.plan s (cell_weight weight t) t.op (walk_at t place) as_is)

pub read_input-returns-in-None-clause-step : goal.read_input-returns-in-None-clause-step
read_input-returns-in-None-clause-step g t c =
    let calls = as_calls c.args.task.now c.input_walk-walk.ensures.sound c.args.place c.input_walk-walk.result c.input_walk-walk.ensures.walk (c.inner_task.ensures.none c.in-None.is) in
    subst (λ (n : ℕ). Steps NoChange 0 n (g.C.Chunks.shown c.args.access.now) (g.C.Chunks.shown c.read_walk.new.access)) calls c.read_walk.ensures.step

pub read_input-returns-in-None-clause-all : goal.read_input-returns-in-None-clause-all
read_input-returns-in-None-clause-all g t c sure =
    let calls = as_calls c.args.task.now c.input_walk-walk.ensures.sound c.args.place c.input_walk-walk.result c.input_walk-walk.ensures.walk (c.inner_task.ensures.none c.in-None.is) in
    subst (λ (n : ℕ). OnOk c.read_walk.result (Made n (g.C.Chunks.shown c.args.access.now).calls (g.C.Chunks.shown c.read_walk.new.access).calls)) calls c.read_walk.ensures.all

pub read_input-returns-in-None-clause-called : goal.read_input-returns-in-None-clause-called
read_input-returns-in-None-clause-called g t c sure =
    let tally = as_tally (g.C.Chunks.weight c.args.store.now) c.args.task.now c.input_walk-walk.ensures.sound c.args.place c.input_walk-walk.result c.input_walk-walk.ensures.walk (c.inner_task.ensures.none c.in-None.is) in
    subst (λ (n : ℕ). OnOk c.read_walk.result (Adds n (g.C.Chunks.tally c.args.access.now) (g.C.Chunks.tally c.read_walk.new.access))) tally c.read_walk.ensures.called

pub read_input-returns-in-None-clause-cause : goal.read_input-returns-in-None-clause-cause
read_input-returns-in-None-clause-cause g t c =
    let task = c.args.task.now in
    let w = c.input_walk-walk.result in
    let listed = as_listed task c.args.place w c.requires.place c.input_walk-walk.ensures.walk in
    let as_is = subst (IsReadAsIs task.plan.arrays) (sym c.input_walk-walk.ensures.walk) (c.inner_task.ensures.none c.in-None.is) in
    on_err_more c.read_walk.result
    (λ e fault. own_fault task.plan c.input_walk-walk.ensures.sound task.op task.number w listed as_is (g.C.Chunks.shown c.args.access.now) (g.C.Chunks.shown c.read_walk.new.access) e fault)
    c.read_walk.ensures.cause

-- and one that is made
pub read_input-make_result-requires : goal.read_input-make_result-requires
read_input-make_result-requires g t c κs sub =
    let st = c.in-Some.ensures.made in
    let before = st.before in
    let room = c.requires.room in
    let made = st.room in
    let own = st.scratch in
    let only = st.only in
    let words = c.requires.words in
    let own_words = st.words in (
      omega (arith, c.decreases, before),
      (
        search rules,
        (
          search rules,
          (
            search rules,
            (
              c.requires.belongs,
              (
                (λ key here. c.requires.may key (st.keys key here)),
                (omega (arith, room, made, own, only), omega (arith, words, own_words)),
              ),
            ),
          ),
        ),
      ),
    )

pub read_input-returns-in-Some-clause-read : goal.read_input-returns-in-Some-clause-read
read_input-returns-in-Some-clause-read g t c held still =
    let task = c.args.task.now in
    let inner = c.in-Some.inner in
    let st = c.in-Some.ensures.made in
    let fewer = still_fewer (IsTaskKey task.plan task.op task.number) (IsTaskKey inner.plan inner.op inner.number) held (g.C.Chunks.shown c.args.access.now) st.keys still in
    on_ok_then c.make_result.result
    (λ made. subst (λ (n : ℕ). HasWalk task (held_inputs task held) (walk_at task c.args.place) (last_bytes n c.make_result.new.room)) st.room (st.values held (output_in inner c.make_result.new.room) made.output))
    (c.make_result.ensures.made held fewer)

pub read_input-returns-in-Some-clause-step : goal.read_input-returns-in-Some-clause-step
read_input-returns-in-Some-clause-step g t c =
    subst (λ (n : ℕ). Steps NoChange 0 n (g.C.Chunks.shown c.args.access.now) (g.C.Chunks.shown c.make_result.new.access)) c.in-Some.ensures.made.calls c.make_result.ensures.step

pub read_input-returns-in-Some-clause-all : goal.read_input-returns-in-Some-clause-all
read_input-returns-in-Some-clause-all g t c sure =
    subst (λ (n : ℕ). OnOk c.make_result.result (Made n (g.C.Chunks.shown c.args.access.now).calls (g.C.Chunks.shown c.make_result.new.access).calls)) c.in-Some.ensures.made.calls (c.make_result.ensures.all (c.in-Some.ensures.made.sure sure))

pub read_input-returns-in-Some-clause-called : goal.read_input-returns-in-Some-clause-called
read_input-returns-in-Some-clause-called g t c sure =
    subst (λ (n : ℕ). OnOk c.make_result.result (Adds n (g.C.Chunks.tally c.args.access.now) (g.C.Chunks.tally c.make_result.new.access))) (c.in-Some.ensures.made.tally (g.C.Chunks.weight c.args.store.now)) (c.make_result.ensures.called (c.in-Some.ensures.made.sure sure))

pub read_input-returns-in-Some-clause-cause : goal.read_input-returns-in-Some-clause-cause
read_input-returns-in-Some-clause-cause g t c =
    on_err_more c.make_result.result (c.in-Some.ensures.made.faults (g.C.Chunks.shown c.args.access.now) (g.C.Chunks.shown c.make_result.new.access)) c.make_result.ensures.cause

-- ---- map_shown

pub map_shown-shapes_of-shapes-requires-clause-few : goal.map_shown-shapes_of-shapes-requires-clause-few
map_shown-shapes_of-shapes-requires-clause-few g t c = c.requires.view.few

pub map_shown-shapes_of-shapes-requires-clause-within : goal.map_shown-shapes_of-shapes-requires-clause-within
map_shown-shapes_of-shapes-requires-clause-within g t c =
    let maker = c.args.input.now.maker in
    let view = c.requires.view in
    (of_pull maker.plan maker.op (task_op maker) maker.number c.args.input.now.pull.now c.args.input.now.ins.now (fit_of maker.plan view.sound maker.op maker.operation) view.view).reads

pub map_shown-only_chunk-requires : goal.map_shown-only_chunk-requires
map_shown-only_chunk-requires g t c =
    let view = c.requires.view in
    job_is_view _ view.sound view.view view.few (search rules)

pub map_shown-compute_result-requires : goal.map_shown-compute_result-requires
map_shown-compute_result-requires g t c κs sub = (
  omega (arith, c.decreases),
  (search rules, (search rules, (search rules, (c.requires.belongs, (c.requires.may, ((of_map (task_op c.args.task.now) c.requires.input.maps.map).computes, (c.requires.room, c.requires.words))))))),
)

pub map_shown-map_from_chunk-requires : goal.map_shown-map_from_chunk-requires
map_shown-map_from_chunk-requires g t c κs sub =
    let only = c.in-Some.ensures in (
      omega (arith, c.decreases),
      (
        search rules,
        (
          search rules,
          (
            search rules,
            (
              c.requires.belongs,
              (
                c.requires.may,
                (
                  c.requires.input,
                  (
                    record {
                      of_source = record { job = only.view; source = (let one = only.one in omega (arith, one)); coordinate = only.coordinate; hull = only.hull };
                      one = only.one;
                      exact = only.exact;
                      needed = only.needs;
                      only = only.only;
                    },
                    (c.requires.room, c.requires.words),
                  ),
                ),
              ),
            ),
          ),
        ),
      ),
    )

-- ---- map_from_chunk

pub map_from_chunk-compute_result-requires : goal.map_from_chunk-compute_result-requires
map_from_chunk-compute_result-requires g t c κs sub = (
  omega (arith, c.decreases),
  (search rules, (search rules, (search rules, (c.requires.belongs, (c.requires.may, ((of_map (task_op c.args.task.now) c.requires.input.maps.map).computes, (c.requires.room, c.requires.words))))))),
)

-- ---- map_by_slabs

pub map_by_slabs-front_bytes-requires-clause-chunk : goal.map_by_slabs-front_bytes-requires-clause-chunk
map_by_slabs-front_bytes-requires-clause-chunk g t c = c.requires.job.only.of_source

pub map_by_slabs-front_bytes-requires-clause-front : goal.map_by_slabs-front_bytes-requires-clause-front
map_by_slabs-front_bytes-requires-clause-front g t c = c.requires.job.front

pub map_by_slabs-split_at_mut-front-requires : goal.map_by_slabs-split_at_mut-front-requires
map_by_slabs-split_at_mut-front-requires g t c =
    let own = c.front_bytes.ensures.bytes in
    let fits = c.requires.fits.strip in
    omega (arith, own, fits)

pub map_by_slabs-overflow_sub-before : goal.map_by_slabs-overflow_sub-before
map_by_slabs-overflow_sub-before g t c =
    let own = c.front_bytes.ensures.bytes in
    let fits = c.requires.fits.strip in
    let back = c.split_at_mut-front.ensures.back_len in
    omega (arith, own, fits, back)

pub map_by_slabs-read_shown-requires : goal.map_by_slabs-read_shown-requires
map_by_slabs-read_shown-requires g t c κs sub =
    let own = c.front_bytes.ensures.bytes in
    let chunk = c.requires.fits.chunk in
    let fits = c.requires.fits.strip in
    let room = c.requires.room in
    let rooms = placed_rooms c.args.task.now c.args.job.now.place c.requires.job.maps.maps c.requires.job.maps.listed in
    let front = c.split_at_mut-front.ensures.front_len in
    let back = c.split_at_mut-front.ensures.back_len in
    let reads = c.split_at_mut-reads.ensures.front_len in (
      omega (arith, c.decreases),
      (
        search rules,
        (
          search rules,
          (
            search rules,
            (
              c.requires.belongs,
              (c.requires.may, (c.requires.job, (omega (arith, own, front), (omega (arith, own, chunk, fits, room, rooms, back, reads), c.requires.words)))),
            ),
          ),
        ),
      ),
    )

pub map_by_slabs-make_slabs-requires-clause-front : goal.map_by_slabs-make_slabs-requires-clause-front
map_by_slabs-make_slabs-requires-clause-front g t c =
    let own = c.front_bytes.ensures.bytes in
    let front = c.split_at_mut-front.ensures.front_len in
    let long = c.read_shown.auto.front in
    omega (arith, own, front, long)

pub map_by_slabs-make_slabs-requires-clause-memory : goal.map_by_slabs-make_slabs-requires-clause-memory
map_by_slabs-make_slabs-requires-clause-memory g t c =
    let own = c.front_bytes.ensures.bytes in
    let fits = c.requires.fits.strip in
    let back = c.split_at_mut-front.ensures.back_len in
    let reads = c.split_at_mut-reads.ensures.front_len in
    let gap = c.split_at_mut-reads.ensures.back_len in
    let long = c.read_shown.auto.room in
    let all = length-append c.read_shown.new.room c.split_at_mut-reads.result.1.now in
    omega (arith, own, fits, back, reads, gap, long, all)

pub map_by_slabs-make_slabs-requires-clause-words : goal.map_by_slabs-make_slabs-requires-clause-words
map_by_slabs-make_slabs-requires-clause-words g t c =
    let own = steps_of_own c.args.task.now.plan c.args.task.now.op in
    let most = c.requires.words in
    let long = c.read_shown.auto.words in
    omega (arith, own, most, long)

pub map_by_slabs-returns-clause-made : goal.map_by_slabs-returns-clause-made
map_by_slabs-returns-clause-made g t c held still =
    let task = c.args.task.now in
    let own = c.front_bytes.ensures.bytes in
    let fits = c.requires.fits.strip in
    let back = c.split_at_mut-front.ensures.back_len in
    let reads = c.split_at_mut-reads.ensures.front_len in
    let gap = c.split_at_mut-reads.ensures.back_len in
    let long = c.read_shown.auto.room in
    let all = length-append c.read_shown.new.room c.split_at_mut-reads.result.1.now in
    let new = c.make_slabs.auto.memory in
    let tail = last_of_part c.read_shown.new.front c.make_slabs.new.memory (made_bytes c.args.task.now) (omega (arith, own, fits, back, reads, gap, long, all, new)) in
    record {
      output = subst (HasMade task (held_inputs task held)) (sym tail)
          (slabs_made task c.args.job.now c.requires.job c.read_shown.new.front (c.read_shown.new.room ++ c.split_at_mut-reads.result.1.now) c.make_slabs.new.memory (omega (arith, own, fits, back, reads, gap, long, all, new)) c.make_slabs.ensures
          held c.read_shown.new.room c.split_at_mut-reads.result.1.now refl (omega (arith, own, fits, back, reads, gap)) (omega (arith, own, fits, back, reads, long)) (c.in_ok-read_shown.ensures.shown held still) (c.in_ok-read_shown.ensures.other held still));
      values = λ array is. absurd (none_stored array (sym (of_map (task_op task) c.requires.job.maps.maps.map).stores ∙ is));
    }

pub map_by_slabs-returns-clause-elements : goal.map_by_slabs-returns-clause-elements
map_by_slabs-returns-clause-elements g t c =
    let task = c.args.task.now in
    let own = c.front_bytes.ensures.bytes in
    let fits = c.requires.fits.strip in
    let back = c.split_at_mut-front.ensures.back_len in
    let reads = c.split_at_mut-reads.ensures.front_len in
    let gap = c.split_at_mut-reads.ensures.back_len in
    let long = c.read_shown.auto.room in
    let all = length-append c.read_shown.new.room c.split_at_mut-reads.result.1.now in
    let new = c.make_slabs.auto.memory in
    let tail = last_of_part c.read_shown.new.front c.make_slabs.new.memory (made_bytes c.args.task.now) (omega (arith, own, fits, back, reads, gap, long, all, new)) in
    record {
      output = subst (AreOfItsType task) (sym tail)
          (slabs_elements task c.args.job.now c.requires.job c.read_shown.new.front (c.read_shown.new.room ++ c.split_at_mut-reads.result.1.now) c.make_slabs.new.memory (omega (arith, own, fits, back, reads, gap, long, all, new)) c.make_slabs.ensures);
      values = λ array is. absurd (none_stored array (sym (of_map (task_op task) c.requires.job.maps.maps.map).stores ∙ is));
    }

pub map_by_slabs-returns-clause-all : goal.map_by_slabs-returns-clause-all
map_by_slabs-returns-clause-all g t c sure = c.in_ok-read_shown.ensures.all sure

pub map_by_slabs-returns-clause-called : goal.map_by_slabs-returns-clause-called
map_by_slabs-returns-clause-called g t c sure = c.in_ok-read_shown.ensures.called sure

pub map_by_slabs-returns-in_err-read_shown-clause-made : goal.map_by_slabs-returns-in_err-read_shown-clause-made
map_by_slabs-returns-in_err-read_shown-clause-made g t c held still = let p = err_from_is_err_and c.from_residual.result c.from_residual.ensures.1 in rw p.1 tt

pub map_by_slabs-returns-in_err-read_shown-clause-elements : goal.map_by_slabs-returns-in_err-read_shown-clause-elements
map_by_slabs-returns-in_err-read_shown-clause-elements g t c = let p = err_from_is_err_and c.from_residual.result c.from_residual.ensures.1 in rw p.1 tt

pub map_by_slabs-returns-in_err-read_shown-clause-all : goal.map_by_slabs-returns-in_err-read_shown-clause-all
map_by_slabs-returns-in_err-read_shown-clause-all g t c sure = let p = err_from_is_err_and c.from_residual.result c.from_residual.ensures.1 in rw p.1 tt

pub map_by_slabs-returns-in_err-read_shown-clause-called : goal.map_by_slabs-returns-in_err-read_shown-clause-called
map_by_slabs-returns-in_err-read_shown-clause-called g t c sure = let p = err_from_is_err_and c.from_residual.result c.from_residual.ensures.1 in rw p.1 tt

pub map_by_slabs-returns-in_err-read_shown-clause-cause : goal.map_by_slabs-returns-in_err-read_shown-clause-cause
map_by_slabs-returns-in_err-read_shown-clause-cause g t c = let p = err_from_is_err_and c.from_residual.result c.from_residual.ensures.1 in rw (p.1, p.2) c.in_err-read_shown.ensures.cause

-- ---- read_shown

pub read_shown-returns-in_ok-read_input-clause-step : goal.read_shown-returns-in_ok-read_input-clause-step
read_shown-returns-in_ok-read_input-clause-step g t c =
    let calls = placed_calls c.args.task.now c.args.job.now.place c.requires.job.maps.maps c.requires.job.maps.listed in
    steps_wider (λ key value none. none) (omega arith) (omega (arith, calls)) (steps_then c.read_input.ensures.step c.fetch_shown.ensures.step)

pub read_shown-returns-in_ok-read_input-clause-all : goal.read_shown-returns-in_ok-read_input-clause-all
read_shown-returns-in_ok-read_input-clause-all g t c sure =
    let calls = placed_calls c.args.task.now c.args.job.now.place c.requires.job.maps.maps c.requires.job.maps.listed in
    let total : calls_to_read c.args.task.now ≡ calls_for_walk c.args.task.now (walk_at c.args.task.now (other_place c.args.job.now.place)) + calls_for_walk c.args.task.now (walk_at c.args.task.now c.args.job.now.place) = omega (arith, calls) in
    on_ok_then c.fetch_shown.result
    (λ made. subst (λ (n : ℕ). Made n (g.C.Chunks.shown c.args.access.now).calls (g.C.Chunks.shown c.fetch_shown.new.access).calls) (sym total)
    (all_made (g.C.Chunks.shown c.args.access.now).calls (g.C.Chunks.shown c.read_input.new.access).calls (g.C.Chunks.shown c.fetch_shown.new.access).calls (calls_for_walk c.args.task.now (walk_at c.args.task.now (other_place c.args.job.now.place))) (calls_for_walk c.args.task.now (walk_at c.args.task.now c.args.job.now.place)) (c.in_ok-read_input.ensures.all sure) made))
    (c.fetch_shown.ensures.all sure)

pub read_shown-returns-in_ok-read_input-clause-called : goal.read_shown-returns-in_ok-read_input-clause-called
read_shown-returns-in_ok-read_input-clause-called g t c sure =
    let tally = placed_tally (g.C.Chunks.weight c.args.store.now) c.args.task.now c.args.job.now.place c.requires.job.maps.maps c.requires.job.maps.listed in
    let total : tally_to_read (g.C.Chunks.weight c.args.store.now) c.args.task.now ≡ tally_for_walk (g.C.Chunks.weight c.args.store.now) c.args.task.now (walk_at c.args.task.now (other_place c.args.job.now.place)) + tally_for_walk (g.C.Chunks.weight c.args.store.now) c.args.task.now (walk_at c.args.task.now c.args.job.now.place) = omega (arith, tally) in
    on_ok_then c.fetch_shown.result
    (λ called. subst (λ (n : ℕ). Adds n (g.C.Chunks.tally c.args.access.now) (g.C.Chunks.tally c.fetch_shown.new.access)) (sym total)
    (all_added (g.C.Chunks.tally c.args.access.now) (g.C.Chunks.tally c.read_input.new.access) (g.C.Chunks.tally c.fetch_shown.new.access) (tally_for_walk (g.C.Chunks.weight c.args.store.now) c.args.task.now (walk_at c.args.task.now (other_place c.args.job.now.place))) (tally_for_walk (g.C.Chunks.weight c.args.store.now) c.args.task.now (walk_at c.args.task.now c.args.job.now.place)) (c.in_ok-read_input.ensures.called sure) called))
    (c.fetch_shown.ensures.called sure)

pub read_shown-returns-in_ok-read_input-clause-shown : goal.read_shown-returns-in_ok-read_input-clause-shown
read_shown-returns-in_ok-read_input-clause-shown g t c held still =
    let later = still_after (IsTaskKey c.args.task.now.plan c.args.task.now.op c.args.task.now.number) held (g.C.Chunks.shown c.args.access.now) (g.C.Chunks.shown c.read_input.new.access) 0 (calls_for_walk c.args.task.now (walk_at c.args.task.now (other_place c.args.job.now.place))) still c.read_input.ensures.step in
    c.fetch_shown.ensures.read held later

pub read_shown-returns-in_ok-read_input-clause-other : goal.read_shown-returns-in_ok-read_input-clause-other
read_shown-returns-in_ok-read_input-clause-other g t c held still =
    on_ok_always c.fetch_shown.result (c.in_ok-read_input.ensures.read held still)

pub read_shown-returns-in_ok-read_input-clause-open : goal.read_shown-returns-in_ok-read_input-clause-open
read_shown-returns-in_ok-read_input-clause-open g t c =
    open_then c.read_input.ensures.open c.fetch_shown.ensures.open

pub read_shown-returns-in_ok-read_input-clause-cause : goal.read_shown-returns-in_ok-read_input-clause-cause
read_shown-returns-in_ok-read_input-clause-cause g t c =
    on_err_more c.fetch_shown.result
    (λ e fault. later_fault (g.C.Chunks.shown c.args.access.now) (g.C.Chunks.shown c.read_input.new.access) (g.C.Chunks.shown c.fetch_shown.new.access) c.args.task.now.plan c.args.task.now.op c.args.task.now.number e c.read_input.ensures.step.count fault)
    c.fetch_shown.ensures.cause

pub read_shown-returns-in_err-read_input-clause-shown : goal.read_shown-returns-in_err-read_input-clause-shown
read_shown-returns-in_err-read_input-clause-shown g t c held still =
    let p = err_from_is_err_and c.from_residual.result c.from_residual.ensures.1 in rw p.1 tt

pub read_shown-returns-in_err-read_input-clause-other : goal.read_shown-returns-in_err-read_input-clause-other
read_shown-returns-in_err-read_input-clause-other g t c held still =
    let p = err_from_is_err_and c.from_residual.result c.from_residual.ensures.1 in rw p.1 tt

pub read_shown-returns-in_err-read_input-clause-elements : goal.read_shown-returns-in_err-read_input-clause-elements
read_shown-returns-in_err-read_input-clause-elements g t c =
    let p = err_from_is_err_and c.from_residual.result c.from_residual.ensures.1 in rw p.1 tt

pub read_shown-returns-in_err-read_input-clause-all : goal.read_shown-returns-in_err-read_input-clause-all
read_shown-returns-in_err-read_input-clause-all g t c sure =
    let p = err_from_is_err_and c.from_residual.result c.from_residual.ensures.1 in rw p.1 tt

pub read_shown-returns-in_err-read_input-clause-called : goal.read_shown-returns-in_err-read_input-clause-called
read_shown-returns-in_err-read_input-clause-called g t c sure =
    let p = err_from_is_err_and c.from_residual.result c.from_residual.ensures.1 in rw p.1 tt

pub read_shown-returns-in_err-read_input-clause-step : goal.read_shown-returns-in_err-read_input-clause-step
read_shown-returns-in_err-read_input-clause-step g t c =
    let calls = placed_calls c.args.task.now c.args.job.now.place c.requires.job.maps.maps c.requires.job.maps.listed in
    steps_wider (λ key value none. none) (omega arith) (omega (arith, calls)) c.read_input.ensures.step

pub read_shown-returns-in_err-read_input-clause-open : goal.read_shown-returns-in_err-read_input-clause-open
read_shown-returns-in_err-read_input-clause-open g t c =
    c.read_input.ensures.open

pub read_shown-returns-in_err-read_input-clause-cause : goal.read_shown-returns-in_err-read_input-clause-cause
read_shown-returns-in_err-read_input-clause-cause g t c =
    let p = err_from_is_err_and c.from_residual.result c.from_residual.ensures.1 in rw (p.1, p.2) c.in_err-read_input.ensures.cause

pub read_shown-returns-in_ok-fetch_shown-clause-step : goal.read_shown-returns-in_ok-fetch_shown-clause-step
read_shown-returns-in_ok-fetch_shown-clause-step g t c =
    let calls = placed_calls c.args.task.now c.args.job.now.place c.requires.job.maps.maps c.requires.job.maps.listed in
    steps_wider (λ key value none. none) (omega arith) (omega (arith, calls)) (steps_then c.fetch_shown-else-other-job.ensures.step c.read_input-else-other-job.ensures.step)

pub read_shown-returns-in_ok-fetch_shown-clause-all : goal.read_shown-returns-in_ok-fetch_shown-clause-all
read_shown-returns-in_ok-fetch_shown-clause-all g t c sure =
    let calls = placed_calls c.args.task.now c.args.job.now.place c.requires.job.maps.maps c.requires.job.maps.listed in
    let total : calls_to_read c.args.task.now ≡ calls_for_walk c.args.task.now (walk_at c.args.task.now c.args.job.now.place) + calls_for_walk c.args.task.now (walk_at c.args.task.now (other_place c.args.job.now.place)) = omega (arith, calls) in
    on_ok_then c.read_input-else-other-job.result
    (λ made. subst (λ (n : ℕ). Made n (g.C.Chunks.shown c.args.access.now).calls (g.C.Chunks.shown c.read_input-else-other-job.new.access).calls) (sym total)
    (all_made (g.C.Chunks.shown c.args.access.now).calls (g.C.Chunks.shown c.fetch_shown-else-other-job.new.access).calls (g.C.Chunks.shown c.read_input-else-other-job.new.access).calls (calls_for_walk c.args.task.now (walk_at c.args.task.now c.args.job.now.place)) (calls_for_walk c.args.task.now (walk_at c.args.task.now (other_place c.args.job.now.place))) (c.in_ok-fetch_shown.ensures.all sure) made))
    (c.read_input-else-other-job.ensures.all sure)

pub read_shown-returns-in_ok-fetch_shown-clause-called : goal.read_shown-returns-in_ok-fetch_shown-clause-called
read_shown-returns-in_ok-fetch_shown-clause-called g t c sure =
    let tally = placed_tally (g.C.Chunks.weight c.args.store.now) c.args.task.now c.args.job.now.place c.requires.job.maps.maps c.requires.job.maps.listed in
    let total : tally_to_read (g.C.Chunks.weight c.args.store.now) c.args.task.now ≡ tally_for_walk (g.C.Chunks.weight c.args.store.now) c.args.task.now (walk_at c.args.task.now c.args.job.now.place) + tally_for_walk (g.C.Chunks.weight c.args.store.now) c.args.task.now (walk_at c.args.task.now (other_place c.args.job.now.place)) = omega (arith, tally) in
    on_ok_then c.read_input-else-other-job.result
    (λ called. subst (λ (n : ℕ). Adds n (g.C.Chunks.tally c.args.access.now) (g.C.Chunks.tally c.read_input-else-other-job.new.access)) (sym total)
    (all_added (g.C.Chunks.tally c.args.access.now) (g.C.Chunks.tally c.fetch_shown-else-other-job.new.access) (g.C.Chunks.tally c.read_input-else-other-job.new.access) (tally_for_walk (g.C.Chunks.weight c.args.store.now) c.args.task.now (walk_at c.args.task.now c.args.job.now.place)) (tally_for_walk (g.C.Chunks.weight c.args.store.now) c.args.task.now (walk_at c.args.task.now (other_place c.args.job.now.place))) (c.in_ok-fetch_shown.ensures.called sure) called))
    (c.read_input-else-other-job.ensures.called sure)

pub read_shown-returns-in_ok-fetch_shown-clause-other : goal.read_shown-returns-in_ok-fetch_shown-clause-other
read_shown-returns-in_ok-fetch_shown-clause-other g t c held still =
    let later = still_after (IsTaskKey c.args.task.now.plan c.args.task.now.op c.args.task.now.number) held (g.C.Chunks.shown c.args.access.now) (g.C.Chunks.shown c.fetch_shown-else-other-job.new.access) 0 (calls_for_walk c.args.task.now (walk_at c.args.task.now c.args.job.now.place)) still c.fetch_shown-else-other-job.ensures.step in
    c.read_input-else-other-job.ensures.read held later

pub read_shown-returns-in_ok-fetch_shown-clause-shown : goal.read_shown-returns-in_ok-fetch_shown-clause-shown
read_shown-returns-in_ok-fetch_shown-clause-shown g t c held still =
    on_ok_always c.read_input-else-other-job.result (c.in_ok-fetch_shown.ensures.read held still)

pub read_shown-returns-in_ok-fetch_shown-clause-elements : goal.read_shown-returns-in_ok-fetch_shown-clause-elements
read_shown-returns-in_ok-fetch_shown-clause-elements g t c =
    on_ok_always c.read_input-else-other-job.result c.in_ok-fetch_shown.ensures.elements

pub read_shown-returns-in_ok-fetch_shown-clause-open : goal.read_shown-returns-in_ok-fetch_shown-clause-open
read_shown-returns-in_ok-fetch_shown-clause-open g t c =
    open_then c.fetch_shown-else-other-job.ensures.open c.read_input-else-other-job.ensures.open

pub read_shown-returns-in_ok-fetch_shown-clause-cause : goal.read_shown-returns-in_ok-fetch_shown-clause-cause
read_shown-returns-in_ok-fetch_shown-clause-cause g t c =
    on_err_more c.read_input-else-other-job.result
    (λ e fault. later_fault (g.C.Chunks.shown c.args.access.now) (g.C.Chunks.shown c.fetch_shown-else-other-job.new.access) (g.C.Chunks.shown c.read_input-else-other-job.new.access) c.args.task.now.plan c.args.task.now.op c.args.task.now.number e c.fetch_shown-else-other-job.ensures.step.count fault)
    c.read_input-else-other-job.ensures.cause

pub read_shown-returns-in_err-fetch_shown-clause-shown : goal.read_shown-returns-in_err-fetch_shown-clause-shown
read_shown-returns-in_err-fetch_shown-clause-shown g t c held still =
    let p = err_from_is_err_and c.from_residual-in_err-fetch_shown.result c.from_residual-in_err-fetch_shown.ensures.1 in rw p.1 tt

pub read_shown-returns-in_err-fetch_shown-clause-other : goal.read_shown-returns-in_err-fetch_shown-clause-other
read_shown-returns-in_err-fetch_shown-clause-other g t c held still =
    let p = err_from_is_err_and c.from_residual-in_err-fetch_shown.result c.from_residual-in_err-fetch_shown.ensures.1 in rw p.1 tt

pub read_shown-returns-in_err-fetch_shown-clause-elements : goal.read_shown-returns-in_err-fetch_shown-clause-elements
read_shown-returns-in_err-fetch_shown-clause-elements g t c =
    let p = err_from_is_err_and c.from_residual-in_err-fetch_shown.result c.from_residual-in_err-fetch_shown.ensures.1 in rw p.1 tt

pub read_shown-returns-in_err-fetch_shown-clause-all : goal.read_shown-returns-in_err-fetch_shown-clause-all
read_shown-returns-in_err-fetch_shown-clause-all g t c sure =
    let p = err_from_is_err_and c.from_residual-in_err-fetch_shown.result c.from_residual-in_err-fetch_shown.ensures.1 in rw p.1 tt

pub read_shown-returns-in_err-fetch_shown-clause-called : goal.read_shown-returns-in_err-fetch_shown-clause-called
read_shown-returns-in_err-fetch_shown-clause-called g t c sure =
    let p = err_from_is_err_and c.from_residual-in_err-fetch_shown.result c.from_residual-in_err-fetch_shown.ensures.1 in rw p.1 tt

pub read_shown-returns-in_err-fetch_shown-clause-step : goal.read_shown-returns-in_err-fetch_shown-clause-step
read_shown-returns-in_err-fetch_shown-clause-step g t c =
    let calls = placed_calls c.args.task.now c.args.job.now.place c.requires.job.maps.maps c.requires.job.maps.listed in
    steps_wider (λ key value none. none) (omega arith) (omega (arith, calls)) c.fetch_shown-else-other-job.ensures.step

pub read_shown-returns-in_err-fetch_shown-clause-open : goal.read_shown-returns-in_err-fetch_shown-clause-open
read_shown-returns-in_err-fetch_shown-clause-open g t c =
    c.fetch_shown-else-other-job.ensures.open

pub read_shown-returns-in_err-fetch_shown-clause-cause : goal.read_shown-returns-in_err-fetch_shown-clause-cause
read_shown-returns-in_err-fetch_shown-clause-cause g t c =
    let p = err_from_is_err_and c.from_residual-in_err-fetch_shown.result c.from_residual-in_err-fetch_shown.ensures.1 in rw (p.1, p.2) c.in_err-fetch_shown.ensures.cause

pub read_shown-read_input-requires : goal.read_shown-read_input-requires
read_shown-read_input-requires g t c κs sub =
    let two = c.requires.job.maps.maps.two in let listed = c.requires.job.maps.listed in (
      omega (arith, c.decreases),
      (search rules, (search rules, (search rules, (c.requires.belongs, (c.requires.may, (omega (arith, two), (c.requires.room, c.requires.words))))))),
    )

pub read_shown-fetch_shown-requires-clause-belongs : goal.read_shown-fetch_shown-requires-clause-belongs
read_shown-fetch_shown-requires-clause-belongs g t c = c.read_input.ensures.open.belongs

pub read_shown-fetch_shown-requires-clause-may : goal.read_shown-fetch_shown-requires-clause-may
read_shown-fetch_shown-requires-clause-may g t c key here = c.read_input.ensures.open.gets key (c.requires.may key here)
