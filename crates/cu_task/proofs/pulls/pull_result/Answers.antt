use Rattle.std.proofs.Common.{ℕ, ◌-◌, ◌∙◌, length, sym, subst, arith, None, Some}
use Rattle.std.proofs.lemmas.List.{length-append, length-drop}
use Rattle.std.specs.Prelude.{slice_index}
use Rattle.cu_store.specs.Steps.{NoChange, Steps}
use Rattle.cu_op.specs.Schedule.{op_of}
use Rattle.cu_store.specs.Chunks.{Adds}
use Rattle.cu_task.specs.Calls.{chunk_calls, chunk_tally, read_calls}
use Rattle.cu_task.specs.ViewJobs.{buffer_in, buffer_room, job_weight, view_task_of}
use Rattle.cu_task.specs.Views.{HasPulled}
use Rattle.cu_task.proofs.InputReads.{on_ok_then, on_err_more}
use Rattle.cu_task.proofs.JobViews.{fitting, of_job}
use Rattle.cu_task.proofs.PullTask.{source_key, has_values, has_elements, known_sources, view_fault, sure_all, made_from}
use Rattle.cu_task.proofs.Tails.{last_part}
use Rattle.cu_task.proofs.TaskRegions.{scratch_read}
use Rattle.cu_task.proofs.pulls.pull_result.Goals as goal

pub overflow_sub-before : goal.overflow_sub-before
overflow_sub-before g c =
    let made = c.result_bytes.ensures.bytes in
    let room = c.requires.room in
    omega (arith, made, room)

pub lay_numbers-requires-clause-output : goal.lay_numbers-requires-clause-output
lay_numbers-requires-clause-output g c =
    let made = c.result_bytes.ensures.bytes in
    let back = c.split_at_mut-output.ensures.back_len in
    let room = c.requires.room in
    omega (arith, made, back, room)

pub read_sources-requires-clause-room : goal.read_sources-requires-clause-room
read_sources-requires-clause-room g c source below =
    let o = of_job c.args.job.now c.requires.job in
    let most = scratch_read c.args.job.now.task.now.plan.arrays (op_of c.args.job.now.task.now.plan c.args.job.now.task.now.op) (slice_index c.args.job.now.ins.now source) (o.among source below) in
    let room = c.requires.room in
    let long = c.lay_numbers.auto.output in
    let front = c.split_at_mut-output.ensures.front_len in
    let back = c.split_at_mut-output.ensures.back_len in
    let all = length-append c.split_at_mut-output.result.0.now c.lay_numbers.new.output in
    omega (arith, most, room, long, front, back, all)

pub returns-clause-values : goal.returns-clause-values
returns-clause-values g c held known =
    let o = of_job c.args.job.now c.requires.job in
    let fit = fitting c.args.job.now c.requires.job in
    let made = c.result_bytes.ensures.bytes in
    let back = c.split_at_mut-output.ensures.back_len in
    let room = c.requires.room in
    let long = c.lay_numbers.auto.output in
    let tail = last_part c.split_at_mut-output.result.0.now c.lay_numbers.new.output (buffer_room (view_task_of c.args.job.now)) (omega (arith, made, back, room, long)) in
    let first = subst (HasPulled (view_task_of c.args.job.now) 0 (Some held)) (sym tail) (c.lay_numbers.ensures (Some held)) in
    on_ok_then c.read_sources.result
    (λ has idx w. o.value _ idx ∙ has_values (view_task_of c.args.job.now) fit held (buffer_in (view_task_of c.args.job.now) c.read_sources.new.room) has idx w)
    (c.read_sources.ensures.pulled (Some held) (known_sources c.args.job.now.task.now.plan c.requires.job.sound c.args.job.now.task.now.op c.args.job.now.task.now.number c.args.job.now.task.now.operation c.args.job.now.pull.now c.args.job.now.ins.now o held (g.C.Chunks.shown c.args.access.now) known) first)

pub returns-clause-elements : goal.returns-clause-elements
returns-clause-elements g c =
    let fit = fitting c.args.job.now c.requires.job in
    let made = c.result_bytes.ensures.bytes in
    let back = c.split_at_mut-output.ensures.back_len in
    let room = c.requires.room in
    let long = c.lay_numbers.auto.output in
    let tail = last_part c.split_at_mut-output.result.0.now c.lay_numbers.new.output (buffer_room (view_task_of c.args.job.now)) (omega (arith, made, back, room, long)) in
    let first = subst (HasPulled (view_task_of c.args.job.now) 0 None) (sym tail) (c.lay_numbers.ensures None) in
    let kept = c.read_sources.auto.room in
    let all = length-append c.split_at_mut-output.result.0.now c.lay_numbers.new.output in
    let cut = length-drop (length c.read_sources.new.room - buffer_room (view_task_of c.args.job.now)) c.read_sources.new.room in
    on_ok_then c.read_sources.result
    (λ has. has_elements (view_task_of c.args.job.now) fit (buffer_in (view_task_of c.args.job.now) c.read_sources.new.room) (omega (arith, cut, kept, all, long, made, back, room)) has)
    (c.read_sources.ensures.pulled None (λ source below. tt) first)

pub returns-clause-step : goal.returns-clause-step
returns-clause-step g c =
    let o = of_job c.args.job.now c.requires.job in
    subst (λ (n : ℕ). Steps NoChange 0 n (g.C.Chunks.shown c.args.access.now) (g.C.Chunks.shown c.read_sources.new.access)) (sym (o.calls (chunk_calls c.args.job.now.task.now.plan c.args.job.now.task.now.op))) c.read_sources.ensures.step

pub returns-clause-all : goal.returns-clause-all
returns-clause-all g c sure =
    let o = of_job c.args.job.now c.requires.job in
    let old = g.C.Chunks.shown c.args.access.now in
    let new = g.C.Chunks.shown c.read_sources.new.access in
    let step = subst (λ (n : ℕ). Steps NoChange 0 n old new) (sym (o.calls (chunk_calls c.args.job.now.task.now.plan c.args.job.now.task.now.op))) c.read_sources.ensures.step in
    on_ok_then c.read_sources.result
    (λ rose. made_from (read_calls c.args.job.now.task.now.plan c.args.job.now.task.now.op c.args.job.now.task.now.number) old new step (sure_all c.args.job.now.pull.now _ _ old.calls new.calls (o.sure sure) (o.calls (chunk_calls c.args.job.now.task.now.plan c.args.job.now.task.now.op)) rose)) c.read_sources.ensures.all

pub returns-clause-called : goal.returns-clause-called
returns-clause-called g c sure =
    let o = of_job c.args.job.now c.requires.job in
    let weight = job_weight (g.C.Chunks.weight c.args.store.now) c.args.job.now in
    on_ok_then c.read_sources.result
    (λ called. subst (λ (n : ℕ). Adds n (g.C.Chunks.tally c.args.access.now) (g.C.Chunks.tally c.read_sources.new.access)) (sym (o.tally weight (chunk_tally weight c.args.job.now.task.now.plan c.args.job.now.task.now.op))) called)
    (c.read_sources.ensures.called (o.sure sure))

pub returns-clause-cause : goal.returns-clause-cause
returns-clause-cause g c =
    let o = of_job c.args.job.now c.requires.job in
    on_err_more c.read_sources.result
    (λ e fault. view_fault c.args.job.now.task.now.plan c.requires.job.sound c.args.job.now.task.now.op c.args.job.now.task.now.number c.args.job.now.task.now.operation c.args.job.now.pull.now c.args.job.now.ins.now o (g.C.Chunks.shown c.args.access.now) (g.C.Chunks.shown c.read_sources.new.access) e fault) c.read_sources.ensures.cause

pub read_sources-requires-clause-may : goal.read_sources-requires-clause-may
read_sources-requires-clause-may g c =
    let o = of_job c.args.job.now c.requires.job in
    λ source below key here. c.requires.may key (source_key c.args.job.now.task.now.plan c.requires.job.sound c.args.job.now.task.now.op c.args.job.now.task.now.number c.args.job.now.task.now.operation c.args.job.now.pull.now c.args.job.now.ins.now o source key below here)
