use Rattle.std.proofs.Common.{◌≡◌, ℕ, List, length, true, sym, subst, arith, rules}
use Rattle.std.proofs.lemmas.Bool.{OnTrue_at}
use Rattle.std.proofs.lemmas.Result.{err_from_is_err_and}
use Rattle.cu_store.specs.Held.{Contents}
use Rattle.cu_store.specs.Steps.{Shown, Steps}
use Rattle.cu_store.proofs.Steps.{steps_then, steps_wider, steps_none}
use Rattle.cu_op.specs.Schedule.{op_of}
use Rattle.cu_op.specs.TaskView.{TaskView}
use Rattle.cu_op.specs.Walks.{written_chunks}
use Rattle.cu_op.specs.Arrays.{type_at}
use Rattle.cu_region.specs.Writing.{AreElements}
use Rattle.cu_task.specs.OfTask.{held_inputs, tally_to_read, tally_to_write, AreOfItsType, HasMade, HoldsFor}
use Rattle.cu_task.specs.Calls.{read_calls}
use Rattle.cu_task.specs.Task.{HasResult, IsTaskKey, TaskChange}
use Rattle.cu_task.specs.TaskRoom.{output_in, found_values_in, AreAllOfTheirTypes, HasMadeAll, IsAllMadeOver}
use Rattle.cu_task.specs.declared.room.TaskRoom.{TaskRoom}
use Rattle.cu_task.proofs.InputReads.{on_err_more, on_ok_then, all_added, all_made, still_first}
use Rattle.cu_task.proofs.Inside.{scratch_of_work}
use Rattle.cu_task.proofs.TaskRooms.{lent_parts}
use Rattle.cu_task.proofs.TaskSteps.{write_fault}
use Rattle.cu_store.proofs.StaysOpen.{open_then}
use Rattle.cu_task.proofs.run.run_plan_task.Goals as goal

-- the parts of what was made
made_over : (t : TaskView) (shown : Shown) (bytes : List ℕ) (room : TaskRoom) → room.values.now ≡ found_values_in t bytes → room.output.now ≡ output_in t bytes
    → ((held : Contents) → HoldsFor t held shown → HasMadeAll t (held_inputs t held) (found_values_in t bytes) (output_in t bytes)) → IsAllMadeOver t shown room
made_over t shown bytes room found output made = record {
  output = λ held known. subst (HasMade t (held_inputs t held)) (sym output) (made held (still_first (IsTaskKey t.plan t.op t.number) held shown known.0 known.1)).output;
  values = λ array is held known. subst (HasResult t.plan t.op t.number array (held_inputs t held)) (sym found) ((made held (still_first (IsTaskKey t.plan t.op t.number) held shown known.0 known.1)).values array is);
}

types_of : (t : TaskView) (bytes : List ℕ) (room : TaskRoom) → room.values.now ≡ found_values_in t bytes → room.output.now ≡ output_in t bytes
    → AreAllOfTheirTypes t (found_values_in t bytes) (output_in t bytes) → AreAllOfTheirTypes t room.values.now room.output.now
types_of t bytes room found output are = record {
  output = subst (AreOfItsType t) (sym output) are.output;
  values = λ array is. subst (AreElements (type_at t.plan.arrays array)) (sym found) (are.values array is);
}

pub copy_by_chunks-requires-clause-copy : goal.copy_by_chunks-requires-clause-copy
copy_by_chunks-requires-clause-copy g c =
    let yes : c.is_copied_by_chunks.result ≡ true = search rules in
    OnTrue_at yes c.is_copied_by_chunks.ensures.copy

pub copy_by_chunks-requires-clause-parts : goal.copy_by_chunks-requires-clause-parts
copy_by_chunks-requires-clause-parts g c =
    let yes : c.is_copied_by_chunks.result ≡ true = search rules in
    OnTrue_at yes c.is_copied_by_chunks.ensures.room

pub copy_by_chunks-requires-clause-room : goal.copy_by_chunks-requires-clause-room
copy_by_chunks-requires-clause-room g c =
    let lent = lent_parts c.args.task.now c.is_copied_by_chunks.ensures.sound (length c.args.bytes.now) (length c.args.words.now) c.requires.words c.requires.room in
    let fit = lent.fit in
    let own = scratch_of_work c.args.task.now.plan c.args.task.now.op in
    omega (arith, fit, own)

pub returns-then-is_copied_by_chunks-clause-all : goal.returns-then-is_copied_by_chunks-clause-all
returns-then-is_copied_by_chunks-clause-all g c sure = c.copy_by_chunks.ensures.all

pub returns-then-is_copied_by_chunks-clause-called : goal.returns-then-is_copied_by_chunks-clause-called
returns-then-is_copied_by_chunks-clause-called g c sure = c.copy_by_chunks.ensures.called

pub returns-then-is_copied_by_chunks-clause-stored : goal.returns-then-is_copied_by_chunks-clause-stored
returns-then-is_copied_by_chunks-clause-stored g c env ready = c.copy_by_chunks.ensures.stored env ready

pub returns-in_err-make_result-clause-step : goal.returns-in_err-make_result-clause-step
returns-in_err-make_result-clause-step g c =
    steps_none (steps_wider (λ key value none. none) (omega arith) (omega arith) c.make_result.ensures.step)

pub returns-in_err-make_result-clause-cause : goal.returns-in_err-make_result-clause-cause
returns-in_err-make_result-clause-cause g c =
    let p = err_from_is_err_and c.from_residual.result c.from_residual.ensures.1 in
    rw (p.1, p.2) c.in_err-make_result.ensures.cause

pub returns-clause-stored : goal.returns-clause-stored
returns-clause-stored g c env ready =
    let first : Steps (TaskChange c.args.task.now.plan c.args.task.now.op c.args.task.now.number (g.C.Chunks.shown c.args.access.now)) 0 (read_calls c.args.task.now.plan c.args.task.now.op c.args.task.now.number) (g.C.Chunks.shown c.args.access.now) (g.C.Chunks.shown c.make_result.new.access) = steps_none c.make_result.ensures.step in
    c.write_results.ensures.stored env (g.C.Chunks.shown c.args.access.now) (read_calls c.args.task.now.plan c.args.task.now.op c.args.task.now.number) (made_over c.args.task.now (g.C.Chunks.shown c.args.access.now) c.make_result.new.room c.split-room.result c.split-room.ensures.values c.split-room.ensures.output c.in_ok-make_result.ensures.made) ready first

pub returns-clause-step : goal.returns-clause-step
returns-clause-step g c =
    let first : Steps (TaskChange c.args.task.now.plan c.args.task.now.op c.args.task.now.number (g.C.Chunks.shown c.args.access.now)) 0 (read_calls c.args.task.now.plan c.args.task.now.op c.args.task.now.number) (g.C.Chunks.shown c.args.access.now) (g.C.Chunks.shown c.make_result.new.access) = steps_none c.make_result.ensures.step in
    steps_then first (c.write_results.ensures.step (g.C.Chunks.shown c.args.access.now) (made_over c.args.task.now (g.C.Chunks.shown c.args.access.now) c.make_result.new.room c.split-room.result c.split-room.ensures.values c.split-room.ensures.output c.in_ok-make_result.ensures.made))

pub returns-clause-all : goal.returns-clause-all
returns-clause-all g c sure =
    on_ok_then c.write_results.result (λ second. all_made (g.C.Chunks.shown c.args.access.now).calls (g.C.Chunks.shown c.make_result.new.access).calls (g.C.Chunks.shown c.write_results.new.access).calls (read_calls c.args.task.now.plan c.args.task.now.op c.args.task.now.number) (length (written_chunks c.args.task.now.plan.arrays (op_of c.args.task.now.plan c.args.task.now.op) c.args.task.now.number)) (c.in_ok-make_result.ensures.all sure) second) c.write_results.ensures.all

pub returns-clause-called : goal.returns-clause-called
returns-clause-called g c sure =
    let task = c.args.task.now in
    let weight = g.C.Chunks.weight c.args.store.now in
    on_ok_then c.write_results.result
    (λ second. all_added (g.C.Chunks.tally c.args.access.now) (g.C.Chunks.tally c.make_result.new.access) (g.C.Chunks.tally c.write_results.new.access) (tally_to_read weight task) (tally_to_write weight task)
    (c.in_ok-make_result.ensures.called sure) second)
    c.write_results.ensures.called

pub returns-in_err-make_result-clause-called : goal.returns-in_err-make_result-clause-called
returns-in_err-make_result-clause-called g c sure = let p = err_from_is_err_and c.from_residual.result c.from_residual.ensures.1 in rw p.1 tt

pub returns-clause-cause : goal.returns-clause-cause
returns-clause-cause g c =
    on_err_more c.write_results.result (λ e h. write_fault c.args.task.now.plan c.is_copied_by_chunks.ensures.sound c.args.task.now.op c.args.task.now.number c.args.task.now.operation c.args.task.now.within (g.C.Chunks.shown c.args.access.now) (g.C.Chunks.shown c.make_result.new.access) (g.C.Chunks.shown c.write_results.new.access) e c.make_result.ensures.step.count h) c.write_results.ensures.cause

pub write_results-requires-clause-puts : goal.write_results-requires-clause-puts
write_results-requires-clause-puts g c = record { start = g.C.Chunks.shown c.args.access.now; made = made_over c.args.task.now (g.C.Chunks.shown c.args.access.now) c.make_result.new.room c.split-room.result c.split-room.ensures.values c.split-room.ensures.output c.in_ok-make_result.ensures.made; changes = c.requires.puts }

pub make_result-requires-clause-belongs : goal.make_result-requires-clause-belongs
make_result-requires-clause-belongs g c = c.requires.belongs

pub make_result-requires-clause-may : goal.make_result-requires-clause-may
make_result-requires-clause-may g c = c.requires.may

pub make_result-requires-clause-room : goal.make_result-requires-clause-room
make_result-requires-clause-room g c =
    let lent = lent_parts c.args.task.now c.is_copied_by_chunks.ensures.sound (length c.args.bytes.now) (length c.args.words.now) c.requires.words c.requires.room in
    lent.fit

pub write_results-requires-clause-belongs : goal.write_results-requires-clause-belongs
write_results-requires-clause-belongs g c = c.make_result.ensures.open.belongs

pub write_results-requires-clause-room : goal.write_results-requires-clause-room
write_results-requires-clause-room g c = c.split-room.ensures.room

pub write_results-requires-clause-elements : goal.write_results-requires-clause-elements
write_results-requires-clause-elements g c = types_of c.args.task.now c.make_result.new.room c.split-room.result c.split-room.ensures.values c.split-room.ensures.output c.in_ok-make_result.ensures.elements

pub returns-in_err-make_result-clause-open : goal.returns-in_err-make_result-clause-open
returns-in_err-make_result-clause-open g c = c.make_result.ensures.open

pub returns-clause-open : goal.returns-clause-open
returns-clause-open g c = open_then c.make_result.ensures.open c.write_results.ensures.open

pub returns-clause-got : goal.returns-clause-got
returns-clause-got g c = c.write_results.ensures.got

pub returns-in_err-make_result-clause-stored : goal.returns-in_err-make_result-clause-stored
returns-in_err-make_result-clause-stored g c env ready = let p = err_from_is_err_and c.from_residual.result c.from_residual.ensures.1 in rw p.1 tt

pub returns-in_err-make_result-clause-got : goal.returns-in_err-make_result-clause-got
returns-in_err-make_result-clause-got g c = let p = err_from_is_err_and c.from_residual.result c.from_residual.ensures.1 in rw p.1 tt

pub returns-in_err-make_result-clause-all : goal.returns-in_err-make_result-clause-all
returns-in_err-make_result-clause-all g c sure = let p = err_from_is_err_and c.from_residual.result c.from_residual.ensures.1 in rw p.1 tt

pub split-room-requires : goal.split-room-requires
split-room-requires g c =
    let lent = lent_parts c.args.task.now c.is_copied_by_chunks.ensures.sound (length c.args.bytes.now) (length c.args.words.now) c.requires.words c.requires.room in
    let fit = lent.fit in
    let long = c.make_result.auto.room in
    omega (arith, fit, long)
