use Rattle.std.proofs.Common.{◌≡◌, ℕ, length, sym, ap, ◌∙◌, subst, arith}
use Rattle.std.specs.Prelude.{OnOk, sum_by}
use Rattle.cu_store.specs.Chunks.{Adds}
use Rattle.cu_task.specs.Calls.{weight_in}
use Rattle.cu_store.specs.Steps.{Steps}
use Rattle.cu_store.proofs.Steps.{steps_wider}
use Rattle.cu_op.specs.Arrays.{array_at}
use Rattle.cu_op.specs.Cells.{task_lo, task_hi}
use Rattle.cu_op.specs.Operation.{target_of}
use Rattle.cu_op.specs.Schedule.{op_of}
use Rattle.cu_op.specs.Chunks.{walk}
use Rattle.cu_op.specs.Walks.{walk_cells}
use Rattle.cu_region.specs.Calls.{Made}
use Rattle.cu_region.specs.Writing.{LateIsOwn, RegionPut, StoresRegion}
use Rattle.cu_task.proofs.InputReads.{on_ok_then}
use Rattle.cu_task.proofs.TaskRegions.{only_calls, only_tally, target_written}
use Rattle.cu_task.proofs.TaskSteps.{carries, puts_cells, late_own, holds_chunk, only_array}
use Rattle.cu_task.specs.Asks.{AllowsRegion, MayReadRegion}
use Rattle.cu_task.proofs.Allowed.{got_cell, allows_within}
use Rattle.cu_task.proofs.results.write_only.Goals as goal

pub returns-clause-step : goal.returns-clause-step
returns-clause-step g c start over =
    let target : c.target-array.result ≡ (target_of (op_of c.args.task.now.plan c.args.task.now.op)) = c.target-array.ensures ∙ ap target_of c.operation.ensures.operation in
    let same = carries c.args.task.now.plan c.operation.ensures.sound c.args.task.now.op c.args.task.now.number c.args.task.now.operation c.args.task.now.within (target_of (op_of c.args.task.now.plan c.args.task.now.op)) (target_written (op_of c.args.task.now.plan c.args.task.now.op)) start c.args.output.now over in
    let calls = only_calls c.args.task.now.plan.arrays (op_of c.args.task.now.plan c.args.task.now.op) c.args.task.now.number c.requires.only in
    let put = subst (λ (n : ℕ). Steps (RegionPut (array_at c.args.task.now.plan.arrays (target_of (op_of c.args.task.now.plan c.args.task.now.op))) (task_lo c.args.task.now.plan.arrays (op_of c.args.task.now.plan c.args.task.now.op) c.args.task.now.number) (task_hi c.args.task.now.plan.arrays (op_of c.args.task.now.plan c.args.task.now.op) c.args.task.now.number) c.args.output.now) 0 n (g.C.Chunks.shown c.args.access.now) (g.C.Chunks.shown c.write_array.new.access)) (sym calls) (subst (λ (a : ℕ). Steps (RegionPut (array_at c.args.task.now.plan.arrays a) (task_lo c.args.task.now.plan.arrays (op_of c.args.task.now.plan c.args.task.now.op) c.args.task.now.number) (task_hi c.args.task.now.plan.arrays (op_of c.args.task.now.plan c.args.task.now.op) c.args.task.now.number) c.args.output.now) 0 (length (walk_cells c.args.task.now.plan.arrays (walk a (task_lo c.args.task.now.plan.arrays (op_of c.args.task.now.plan c.args.task.now.op) c.args.task.now.number) (task_hi c.args.task.now.plan.arrays (op_of c.args.task.now.plan c.args.task.now.op) c.args.task.now.number)))) (g.C.Chunks.shown c.args.access.now) (g.C.Chunks.shown c.write_array.new.access)) target c.write_array.ensures.step) in
    steps_wider (puts_cells c.args.task.now.plan c.operation.ensures.sound c.args.task.now.op c.args.task.now.number c.args.task.now.operation c.args.task.now.within (target_of (op_of c.args.task.now.plan c.args.task.now.op)) (target_written (op_of c.args.task.now.plan c.args.task.now.op)) start c.args.output.now same) (omega arith) (omega arith) put

pub returns-clause-stored : goal.returns-clause-stored
returns-clause-stored g c env start calls over ready before =
    let target : c.target-array.result ≡ (target_of (op_of c.args.task.now.plan c.args.task.now.op)) = c.target-array.ensures ∙ ap target_of c.operation.ensures.operation in
    let same = carries c.args.task.now.plan c.operation.ensures.sound c.args.task.now.op c.args.task.now.number c.args.task.now.operation c.args.task.now.within (target_of (op_of c.args.task.now.plan c.args.task.now.op)) (target_written (op_of c.args.task.now.plan c.args.task.now.op)) start c.args.output.now over in
    let stored = subst (λ (a : ℕ). LateIsOwn (array_at c.args.task.now.plan.arrays a) (task_lo c.args.task.now.plan.arrays (op_of c.args.task.now.plan c.args.task.now.op) c.args.task.now.number) (task_hi c.args.task.now.plan.arrays (op_of c.args.task.now.plan c.args.task.now.op) c.args.task.now.number) c.args.output.now (g.C.Chunks.shown c.args.access.now).late → OnOk c.write_array.result (StoresRegion (array_at c.args.task.now.plan.arrays a) (task_lo c.args.task.now.plan.arrays (op_of c.args.task.now.plan c.args.task.now.op) c.args.task.now.number) (task_hi c.args.task.now.plan.arrays (op_of c.args.task.now.plan c.args.task.now.op) c.args.task.now.number) c.args.output.now (g.C.Chunks.shown c.write_array.new.access).held)) target c.write_array.ensures.stored in
    on_ok_then c.write_array.result (λ stores cell there. holds_chunk c.args.task.now.plan c.operation.ensures.sound c.args.task.now.op c.args.task.now.number c.args.task.now.operation c.args.task.now.within (target_of (op_of c.args.task.now.plan c.args.task.now.op)) (target_written (op_of c.args.task.now.plan c.args.task.now.op)) env start (g.C.Chunks.shown c.write_array.new.access) c.args.output.now same ready stores cell (only_array c.args.task.now.plan c.operation.ensures.sound c.args.task.now.op c.args.task.now.number c.args.task.now.operation c.args.task.now.within (target_of (op_of c.args.task.now.plan c.args.task.now.op)) c.requires.only cell there) there) (stored (late_own c.args.task.now.plan c.operation.ensures.sound c.args.task.now.op c.args.task.now.number c.args.task.now.operation c.args.task.now.within (target_of (op_of c.args.task.now.plan c.args.task.now.op)) (target_written (op_of c.args.task.now.plan c.args.task.now.op)) c.requires.own env start (g.C.Chunks.shown c.args.access.now) 0 calls c.args.output.now same ready before))

pub returns-clause-all : goal.returns-clause-all
returns-clause-all g c =
    let target : c.target-array.result ≡ (target_of (op_of c.args.task.now.plan c.args.task.now.op)) = c.target-array.ensures ∙ ap target_of c.operation.ensures.operation in
    let calls = only_calls c.args.task.now.plan.arrays (op_of c.args.task.now.plan c.args.task.now.op) c.args.task.now.number c.requires.only in
    subst (λ (n : ℕ). OnOk c.write_array.result (Made n (g.C.Chunks.shown c.args.access.now).calls (g.C.Chunks.shown c.write_array.new.access).calls)) (sym calls) (subst (λ (a : ℕ). OnOk c.write_array.result (Made (length (walk_cells c.args.task.now.plan.arrays (walk a (task_lo c.args.task.now.plan.arrays (op_of c.args.task.now.plan c.args.task.now.op) c.args.task.now.number) (task_hi c.args.task.now.plan.arrays (op_of c.args.task.now.plan c.args.task.now.op) c.args.task.now.number)))) (g.C.Chunks.shown c.args.access.now).calls (g.C.Chunks.shown c.write_array.new.access).calls)) target c.write_array.ensures.all)

pub returns-clause-called : goal.returns-clause-called
returns-clause-called g c =
    let target : c.target-array.result ≡ (target_of (op_of c.args.task.now.plan c.args.task.now.op)) = c.target-array.ensures ∙ ap target_of c.operation.ensures.operation in
    let tally = only_tally (weight_in (g.C.Chunks.weight c.args.store.now) c.args.task.now.plan.arrays) c.args.task.now.plan.arrays (op_of c.args.task.now.plan c.args.task.now.op) c.args.task.now.number c.requires.only in
    subst (λ (n : ℕ). OnOk c.write_array.result (Adds n (g.C.Chunks.tally c.args.access.now) (g.C.Chunks.tally c.write_array.new.access))) (sym tally)
    (subst (λ (a : ℕ). OnOk c.write_array.result (Adds (sum_by (weight_in (g.C.Chunks.weight c.args.store.now) c.args.task.now.plan.arrays) (walk_cells c.args.task.now.plan.arrays (walk a (task_lo c.args.task.now.plan.arrays (op_of c.args.task.now.plan c.args.task.now.op) c.args.task.now.number) (task_hi c.args.task.now.plan.arrays (op_of c.args.task.now.plan c.args.task.now.op) c.args.task.now.number)))) (g.C.Chunks.tally c.args.access.now) (g.C.Chunks.tally c.write_array.new.access))) target c.write_array.ensures.called)

pub write_array-requires-clause-puts : goal.write_array-requires-clause-puts
write_array-requires-clause-puts g c =
    let target : c.target-array.result ≡ (target_of (op_of c.args.task.now.plan c.args.task.now.op)) = c.target-array.ensures ∙ ap target_of c.operation.ensures.operation in
    let p = c.requires.puts in
    let same = carries c.args.task.now.plan c.operation.ensures.sound c.args.task.now.op c.args.task.now.number c.args.task.now.operation c.args.task.now.within (target_of (op_of c.args.task.now.plan c.args.task.now.op)) (target_written (op_of c.args.task.now.plan c.args.task.now.op)) p.0 c.args.output.now p.1 in
    subst (λ (a : ℕ). AllowsRegion c.args.task.now.plan c.args.task.now.op c.args.task.now.number a c.args.output.now (g.C.Chunks.may_put c.args.store.now)) (sym target)
    (allows_within (puts_cells c.args.task.now.plan c.operation.ensures.sound c.args.task.now.op c.args.task.now.number c.args.task.now.operation c.args.task.now.within (target_of (op_of c.args.task.now.plan c.args.task.now.op)) (target_written (op_of c.args.task.now.plan c.args.task.now.op)) p.0 c.args.output.now same) p.2)

pub returns-clause-got : goal.returns-clause-got
returns-clause-got g c =
    let target : c.target-array.result ≡ (target_of (op_of c.args.task.now.plan c.args.task.now.op)) = c.target-array.ensures ∙ ap target_of c.operation.ensures.operation in
    on_ok_then c.write_array.result
    (λ got cell there. got_cell c.args.task.now.plan c.operation.ensures.sound c.args.task.now.op c.args.task.now.number (target_of (op_of c.args.task.now.plan c.args.task.now.op)) (g.C.Chunks.may_get c.args.store.now c.write_array.new.access) c.args.task.now.operation c.args.task.now.within cell there
    (only_array c.args.task.now.plan c.operation.ensures.sound c.args.task.now.op c.args.task.now.number c.args.task.now.operation c.args.task.now.within (target_of (op_of c.args.task.now.plan c.args.task.now.op)) c.requires.only cell there)
    (subst (λ (a : ℕ). MayReadRegion c.args.task.now.plan c.args.task.now.op c.args.task.now.number a (g.C.Chunks.may_get c.args.store.now c.write_array.new.access)) target got))
    c.write_array.ensures.got

pub write_array-requires-clause-belongs : goal.write_array-requires-clause-belongs
write_array-requires-clause-belongs g c = c.requires.belongs

pub write_array-requires-clause-scratch : goal.write_array-requires-clause-scratch
write_array-requires-clause-scratch g c = c.requires.scratch

pub returns-clause-open : goal.returns-clause-open
returns-clause-open g c = c.write_array.ensures.open

pub returns-clause-cause : goal.returns-clause-cause
returns-clause-cause g c = c.write_array.ensures.cause
