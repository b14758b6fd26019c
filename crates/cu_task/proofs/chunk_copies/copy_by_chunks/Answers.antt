use Rattle.std.proofs.Common.{ℕ, length, sym, subst, arith}
use Rattle.std.proofs.lemmas.Result.{err_from_is_err_and}
use Rattle.cu_store.specs.Chunks.{Adds}
use Rattle.cu_store.specs.Steps.{Steps}
use Rattle.cu_store.proofs.Steps.{steps_none, steps_then, steps_wider}
use Rattle.cu_store.proofs.StaysOpen.{open_then}
use Rattle.cu_op.specs.Chunks.{walk}
use Rattle.cu_op.specs.Schedule.{op_of}
use Rattle.cu_op.specs.Walks.{walk_cells}
use Rattle.cu_region.specs.Calls.{Made}
use Rattle.cu_task.specs.Calls.{weight_in}
use Rattle.cu_task.specs.OfTask.{calls_to_read, calls_to_write, tally_to_read, tally_to_write, ChangeBy}
use Rattle.cu_task.proofs.CopyByChunks.{carries_parts, chunk_copy}
use Rattle.cu_task.proofs.CopyTask.{copy_walk}
use Rattle.cu_task.proofs.Inside.{own_fault, own_key}
use Rattle.cu_task.proofs.InputReads.{all_added, all_made, on_err_more, on_ok_then}
use Rattle.cu_task.proofs.TaskKinds.{copy_some}
use Rattle.cu_task.proofs.TaskRegions.{scratch_read}
use Rattle.cu_task.proofs.TaskSteps.{write_fault}
use Rattle.cu_task.proofs.chunk_copies.copy_by_chunks.Goals as goal

pub input_walk-walk-requires : goal.input_walk-walk-requires
input_walk-walk-requires g c = copy_some c.args.task.now.plan.arrays (op_of c.args.task.now.plan c.args.task.now.op) c.args.task.now.number c.requires.copy

pub overflow_sub-before_parts : goal.overflow_sub-before_parts
overflow_sub-before_parts g c =
    let made = c.result_bytes.ensures.bytes in
    let room = c.requires.room in
    omega (arith, made, room)

pub read_parts-requires-clause-may : goal.read_parts-requires-clause-may
read_parts-requires-clause-may g c =
    let own = copy_walk c.args.task.now.plan c.args.task.now.op c.args.task.now.number c.input_walk-walk.result c.input_walk-walk.ensures.sound c.args.task.now.operation c.requires.copy c.input_walk-walk.ensures.walk in
    λ key here. c.requires.may key (own_key c.args.task.now.plan c.input_walk-walk.ensures.sound c.args.task.now.op c.args.task.now.number c.input_walk-walk.result own.listed own.as_is key here)

pub read_parts-requires-clause-copy : goal.read_parts-requires-clause-copy
read_parts-requires-clause-copy g c = chunk_copy c.args.task.now c.input_walk-walk.ensures.sound c.input_walk-walk.result c.requires.copy c.input_walk-walk.ensures.walk c.input_walk-walk.ensures.over

pub read_parts-requires-clause-output : goal.read_parts-requires-clause-output
read_parts-requires-clause-output g c =
    let made = c.result_bytes.ensures.bytes in
    let room = c.requires.room in
    let parts = c.requires.parts in
    let back = c.split_at_mut-scratch.ensures.back_len in
    omega (arith, made, room, parts, back)

pub read_parts-requires-clause-scratch : goal.read_parts-requires-clause-scratch
read_parts-requires-clause-scratch g c =
    let own = copy_walk c.args.task.now.plan c.args.task.now.op c.args.task.now.number c.input_walk-walk.result c.input_walk-walk.ensures.sound c.args.task.now.operation c.requires.copy c.input_walk-walk.ensures.walk in
    let chunk = scratch_read c.args.task.now.plan.arrays (op_of c.args.task.now.plan c.args.task.now.op) c.input_walk-walk.result.array own.copy.among in
    let made = c.result_bytes.ensures.bytes in
    let room = c.requires.room in
    let front = c.split_at_mut-scratch.ensures.front_len in
    omega (arith, chunk, made, room, front)

pub write_parts-requires-clause-belongs : goal.write_parts-requires-clause-belongs
write_parts-requires-clause-belongs g c = c.read_parts.ensures.open.belongs

pub write_parts-requires-clause-output : goal.write_parts-requires-clause-output
write_parts-requires-clause-output g c =
    let made = c.result_bytes.ensures.bytes in
    let room = c.requires.room in
    let parts = c.requires.parts in
    let back = c.split_at_mut-scratch.ensures.back_len in
    let long = c.read_parts.auto.output in
    omega (arith, made, room, parts, back, long)

pub write_parts-requires-clause-scratch : goal.write_parts-requires-clause-scratch
write_parts-requires-clause-scratch g c =
    let made = c.result_bytes.ensures.bytes in
    let room = c.requires.room in
    let front = c.split_at_mut-scratch.ensures.front_len in
    let long = c.read_parts.auto.scratch in
    omega (arith, made, room, front, long)

pub write_parts-requires-clause-puts : goal.write_parts-requires-clause-puts
write_parts-requires-clause-puts g c =
    let copy = chunk_copy c.args.task.now c.input_walk-walk.ensures.sound c.input_walk-walk.result c.requires.copy c.input_walk-walk.ensures.walk c.input_walk-walk.ensures.over in
    let made = c.result_bytes.ensures.bytes in
    let room = c.requires.room in
    let parts = c.requires.parts in
    let back = c.split_at_mut-scratch.ensures.back_len in
    let long = c.read_parts.auto.output in
    record {
      start = g.C.Chunks.shown c.args.access.now;
      carries = carries_parts c.args.task.now c.input_walk-walk.ensures.sound c.input_walk-walk.result c.requires.copy c.input_walk-walk.ensures.walk copy.types (g.C.Chunks.shown c.args.access.now) c.read_parts.new.output (omega (arith, made, room, parts, back, long)) c.in_ok-read_parts.ensures.read;
      changes = c.requires.puts;
    }

pub returns-in_err-read_parts-clause-open : goal.returns-in_err-read_parts-clause-open
returns-in_err-read_parts-clause-open g c = c.read_parts.ensures.open

pub returns-in_err-read_parts-clause-stored : goal.returns-in_err-read_parts-clause-stored
returns-in_err-read_parts-clause-stored g c env ready = let p = err_from_is_err_and c.from_residual.result c.from_residual.ensures.1 in rw p.1 tt

pub returns-in_err-read_parts-clause-step : goal.returns-in_err-read_parts-clause-step
returns-in_err-read_parts-clause-step g c =
    let own = copy_walk c.args.task.now.plan c.args.task.now.op c.args.task.now.number c.input_walk-walk.result c.input_walk-walk.ensures.sound c.args.task.now.operation c.requires.copy c.input_walk-walk.ensures.walk in
    let calls = own.calls in
    steps_none (steps_wider (λ key value none. none) (omega arith) (omega (arith, calls)) c.read_parts.ensures.step)

pub returns-in_err-read_parts-clause-cause : goal.returns-in_err-read_parts-clause-cause
returns-in_err-read_parts-clause-cause g c =
    let p = err_from_is_err_and c.from_residual.result c.from_residual.ensures.1 in
    let own = copy_walk c.args.task.now.plan c.args.task.now.op c.args.task.now.number c.input_walk-walk.result c.input_walk-walk.ensures.sound c.args.task.now.operation c.requires.copy c.input_walk-walk.ensures.walk in
    rw (p.1, p.2) (own_fault c.args.task.now.plan c.input_walk-walk.ensures.sound c.args.task.now.op c.args.task.now.number c.input_walk-walk.result own.listed own.as_is (g.C.Chunks.shown c.args.access.now) (g.C.Chunks.shown c.read_parts.new.access) c.in_err-read_parts.field-0.0 c.in_err-read_parts.ensures.cause)

pub returns-clause-open : goal.returns-clause-open
returns-clause-open g c = open_then c.read_parts.ensures.open c.write_parts.ensures.open

pub returns-clause-got : goal.returns-clause-got
returns-clause-got g c = c.write_parts.ensures.got

pub returns-clause-stored : goal.returns-clause-stored
returns-clause-stored g c env ready =
    let own = copy_walk c.args.task.now.plan c.args.task.now.op c.args.task.now.number c.input_walk-walk.result c.input_walk-walk.ensures.sound c.args.task.now.operation c.requires.copy c.input_walk-walk.ensures.walk in
    let copy = chunk_copy c.args.task.now c.input_walk-walk.ensures.sound c.input_walk-walk.result c.requires.copy c.input_walk-walk.ensures.walk c.input_walk-walk.ensures.over in
    let made = c.result_bytes.ensures.bytes in
    let room = c.requires.room in
    let parts = c.requires.parts in
    let back = c.split_at_mut-scratch.ensures.back_len in
    let long = c.read_parts.auto.output in
    let carries = carries_parts c.args.task.now c.input_walk-walk.ensures.sound c.input_walk-walk.result c.requires.copy c.input_walk-walk.ensures.walk copy.types (g.C.Chunks.shown c.args.access.now) c.read_parts.new.output (omega (arith, made, room, parts, back, long)) c.in_ok-read_parts.ensures.read in
    c.write_parts.ensures.stored env (g.C.Chunks.shown c.args.access.now) (length (walk_cells c.args.task.now.plan.arrays c.input_walk-walk.result)) carries ready (steps_none c.read_parts.ensures.step)

pub returns-clause-step : goal.returns-clause-step
returns-clause-step g c =
    let own = copy_walk c.args.task.now.plan c.args.task.now.op c.args.task.now.number c.input_walk-walk.result c.input_walk-walk.ensures.sound c.args.task.now.operation c.requires.copy c.input_walk-walk.ensures.walk in
    let copy = chunk_copy c.args.task.now c.input_walk-walk.ensures.sound c.input_walk-walk.result c.requires.copy c.input_walk-walk.ensures.walk c.input_walk-walk.ensures.over in
    let made = c.result_bytes.ensures.bytes in
    let room = c.requires.room in
    let parts = c.requires.parts in
    let back = c.split_at_mut-scratch.ensures.back_len in
    let long = c.read_parts.auto.output in
    let carries = carries_parts c.args.task.now c.input_walk-walk.ensures.sound c.input_walk-walk.result c.requires.copy c.input_walk-walk.ensures.walk copy.types (g.C.Chunks.shown c.args.access.now) c.read_parts.new.output (omega (arith, made, room, parts, back, long)) c.in_ok-read_parts.ensures.read in
    let first : Steps (ChangeBy c.args.task.now (g.C.Chunks.shown c.args.access.now)) 0 (calls_to_read c.args.task.now) (g.C.Chunks.shown c.args.access.now) (g.C.Chunks.shown c.read_parts.new.access)
    = subst (λ (n : ℕ). Steps (ChangeBy c.args.task.now (g.C.Chunks.shown c.args.access.now)) 0 n (g.C.Chunks.shown c.args.access.now) (g.C.Chunks.shown c.read_parts.new.access)) (sym own.calls) (steps_none c.read_parts.ensures.step) in
    steps_then first (c.write_parts.ensures.step (g.C.Chunks.shown c.args.access.now) carries)

pub returns-clause-all : goal.returns-clause-all
returns-clause-all g c =
    let own = copy_walk c.args.task.now.plan c.args.task.now.op c.args.task.now.number c.input_walk-walk.result c.input_walk-walk.ensures.sound c.args.task.now.operation c.requires.copy c.input_walk-walk.ensures.walk in
    let first = subst (λ (n : ℕ). Made n (g.C.Chunks.shown c.args.access.now).calls (g.C.Chunks.shown c.read_parts.new.access).calls) (sym own.calls) c.in_ok-read_parts.ensures.all in
    on_ok_then c.write_parts.result (λ second. all_made (g.C.Chunks.shown c.args.access.now).calls (g.C.Chunks.shown c.read_parts.new.access).calls (g.C.Chunks.shown c.write_parts.new.access).calls (calls_to_read c.args.task.now) (calls_to_write c.args.task.now) first second) c.write_parts.ensures.all

pub returns-clause-called : goal.returns-clause-called
returns-clause-called g c =
    let own = copy_walk c.args.task.now.plan c.args.task.now.op c.args.task.now.number c.input_walk-walk.result c.input_walk-walk.ensures.sound c.args.task.now.operation c.requires.copy c.input_walk-walk.ensures.walk in
    let weight = g.C.Chunks.weight c.args.store.now in
    let first = subst (λ (n : ℕ). Adds n (g.C.Chunks.tally c.args.access.now) (g.C.Chunks.tally c.read_parts.new.access)) (sym (own.tally (weight_in (g.C.Chunks.weight c.args.store.now) c.args.task.now.plan.arrays))) c.in_ok-read_parts.ensures.called in
    on_ok_then c.write_parts.result (λ second. all_added (g.C.Chunks.tally c.args.access.now) (g.C.Chunks.tally c.read_parts.new.access) (g.C.Chunks.tally c.write_parts.new.access) (tally_to_read weight c.args.task.now) (tally_to_write weight c.args.task.now) first second) c.write_parts.ensures.called

pub returns-clause-cause : goal.returns-clause-cause
returns-clause-cause g c =
    on_err_more c.write_parts.result (λ e h. write_fault c.args.task.now.plan c.input_walk-walk.ensures.sound c.args.task.now.op c.args.task.now.number c.args.task.now.operation c.args.task.now.within (g.C.Chunks.shown c.args.access.now) (g.C.Chunks.shown c.read_parts.new.access) (g.C.Chunks.shown c.write_parts.new.access) e c.read_parts.ensures.step.count h) c.write_parts.ensures.cause
