use Rattle.std.proofs.Common.{◌≡◌, inl, inr, ℕ, ◌+◌, List, Contains, length, refl, sym, ap, ◌∙◌, subst, arith}
use Rattle.std.specs.Prelude.{OnOk, sum_by}
use Rattle.cu_store.specs.Chunks.{Adds}
use Rattle.cu_task.specs.Calls.{weight_in}
use Rattle.cu_store.specs.Steps.{Steps}
use Rattle.cu_store.proofs.Steps.{steps_then, steps_wider}
use Rattle.cu_op.specs.Arrays.{array_at, type_at}
use Rattle.cu_op.specs.Cells.{task_lo, task_hi}
use Rattle.cu_op.specs.Operation.{target_of, writes_of}
use Rattle.cu_op.specs.Schedule.{op_of}
use Rattle.cu_op.specs.Chunks.{walk}
use Rattle.cu_op.specs.Walks.{walk_cells}
use Rattle.cu_op.proofs.TaskCells.{fit_of}
use Rattle.cu_region.specs.Calls.{Made}
use Rattle.cu_region.specs.Writing.{LateIsOwn, RegionPut, StoresRegion, AreElements}
use Rattle.cu_task.specs.Task.{TaskChange, result_room}
use Rattle.cu_task.proofs.InputReads.{on_ok_then, all_added, all_made}
use Rattle.cu_task.proofs.TaskKinds.{both_written, stored_room}
use Rattle.cu_task.proofs.TaskRegions.{both_calls, both_tally, target_written}
use Rattle.cu_task.proofs.TaskSteps.{carries, puts_cells, late_own, holds_chunk, still_holds, either_array}
use Rattle.cu_task.specs.Asks.{AllowsRegion, MayReadRegion}
use Rattle.cu_task.proofs.Allowed.{got_cell, allows_within}
use Rattle.cu_store.proofs.StaysOpen.{open_then}
use Rattle.cu_task.proofs.Inside.{scratch_of_work}
use Rattle.std.proofs.lemmas.Result.{err_from_is_err_and}
use Rattle.cu_task.proofs.results.write_both.Goals as goal

pub write_array-requires-clause-array : goal.write_array-requires-clause-array
write_array-requires-clause-array g c =
    (subst (λ (xs : List ℕ). Contains xs c.args.array) (sym (both_written (op_of c.args.task.now.plan c.args.task.now.op) c.args.array c.requires.stored)) (0, omega arith, refl))

pub write_array-requires-clause-output : goal.write_array-requires-clause-output
write_array-requires-clause-output g c =
    c.requires.room.values ∙ stored_room c.args.task.now.plan.arrays c.args.task.now.op (op_of c.args.task.now.plan c.args.task.now.op) c.args.task.now.number c.args.array (fit_of c.args.task.now.plan c.operation.ensures.sound c.args.task.now.op c.args.task.now.operation) c.requires.stored

pub write_array-requires-clause-elements : goal.write_array-requires-clause-elements
write_array-requires-clause-elements g c = c.requires.elements.values c.args.array c.requires.stored

pub returns-in_err-write_array-clause-step : goal.returns-in_err-write_array-clause-step
returns-in_err-write_array-clause-step g c start over =
    let same_values = carries c.args.task.now.plan c.operation.ensures.sound c.args.task.now.op c.args.task.now.number c.args.task.now.operation c.args.task.now.within c.args.array (subst (λ (xs : List ℕ). Contains xs c.args.array) (sym (both_written (op_of c.args.task.now.plan c.args.task.now.op) c.args.array c.requires.stored)) (0, omega arith, refl)) start c.args.room.now.values.now (over.values c.args.array c.requires.stored) in
    let calls_both = both_calls c.args.task.now.plan.arrays (op_of c.args.task.now.plan c.args.task.now.op) c.args.task.now.number c.args.array (both_written (op_of c.args.task.now.plan c.args.task.now.op) c.args.array c.requires.stored) in
    let first : Steps (TaskChange c.args.task.now.plan c.args.task.now.op c.args.task.now.number start) 0 (length (walk_cells c.args.task.now.plan.arrays (walk c.args.array (task_lo c.args.task.now.plan.arrays (op_of c.args.task.now.plan c.args.task.now.op) c.args.task.now.number) (task_hi c.args.task.now.plan.arrays (op_of c.args.task.now.plan c.args.task.now.op) c.args.task.now.number)))) (g.C.Chunks.shown c.args.access.now) (g.C.Chunks.shown c.write_array.new.access) = steps_wider (puts_cells c.args.task.now.plan c.operation.ensures.sound c.args.task.now.op c.args.task.now.number c.args.task.now.operation c.args.task.now.within c.args.array (subst (λ (xs : List ℕ). Contains xs c.args.array) (sym (both_written (op_of c.args.task.now.plan c.args.task.now.op) c.args.array c.requires.stored)) (0, omega arith, refl)) start c.args.room.now.values.now same_values) (omega arith) (omega arith) c.write_array.ensures.step in
    steps_wider (λ key value change. change) (omega arith) (omega (arith, calls_both)) first

pub write_array-requires-2-clause-array : goal.write_array-requires-2-clause-array
write_array-requires-2-clause-array g c =
    let target : c.target-target.result ≡ (target_of (op_of c.args.task.now.plan c.args.task.now.op)) = c.target-target.ensures ∙ ap target_of c.operation.ensures.operation in
    subst (λ (a : ℕ). Contains (writes_of (op_of c.args.task.now.plan c.args.task.now.op)) a) (sym target) (target_written (op_of c.args.task.now.plan c.args.task.now.op))

pub write_array-requires-2-clause-output : goal.write_array-requires-2-clause-output
write_array-requires-2-clause-output g c =
    let target : c.target-target.result ≡ (target_of (op_of c.args.task.now.plan c.args.task.now.op)) = c.target-target.ensures ∙ ap target_of c.operation.ensures.operation in
    subst (λ (a : ℕ). length c.args.room.now.output.now ≡ result_room c.args.task.now.plan c.args.task.now.op c.args.task.now.number a) (sym target) c.requires.room.output

pub write_array-requires-2-clause-elements : goal.write_array-requires-2-clause-elements
write_array-requires-2-clause-elements g c =
    let target : c.target-target.result ≡ (target_of (op_of c.args.task.now.plan c.args.task.now.op)) = c.target-target.ensures ∙ ap target_of c.operation.ensures.operation in
    subst (λ (a : ℕ). AreElements (type_at c.args.task.now.plan.arrays a) c.args.room.now.output.now) (sym target) c.requires.elements.output

pub returns-clause-step : goal.returns-clause-step
returns-clause-step g c start over =
    let target : c.target-target.result ≡ (target_of (op_of c.args.task.now.plan c.args.task.now.op)) = c.target-target.ensures ∙ ap target_of c.operation.ensures.operation in
    let same_values = carries c.args.task.now.plan c.operation.ensures.sound c.args.task.now.op c.args.task.now.number c.args.task.now.operation c.args.task.now.within c.args.array (subst (λ (xs : List ℕ). Contains xs c.args.array) (sym (both_written (op_of c.args.task.now.plan c.args.task.now.op) c.args.array c.requires.stored)) (0, omega arith, refl)) start c.args.room.now.values.now (over.values c.args.array c.requires.stored) in
    let same_places = carries c.args.task.now.plan c.operation.ensures.sound c.args.task.now.op c.args.task.now.number c.args.task.now.operation c.args.task.now.within (target_of (op_of c.args.task.now.plan c.args.task.now.op)) (target_written (op_of c.args.task.now.plan c.args.task.now.op)) start c.args.room.now.output.now over.output in
    let calls_both = both_calls c.args.task.now.plan.arrays (op_of c.args.task.now.plan c.args.task.now.op) c.args.task.now.number c.args.array (both_written (op_of c.args.task.now.plan c.args.task.now.op) c.args.array c.requires.stored) in
    let first : Steps (TaskChange c.args.task.now.plan c.args.task.now.op c.args.task.now.number start) 0 (length (walk_cells c.args.task.now.plan.arrays (walk c.args.array (task_lo c.args.task.now.plan.arrays (op_of c.args.task.now.plan c.args.task.now.op) c.args.task.now.number) (task_hi c.args.task.now.plan.arrays (op_of c.args.task.now.plan c.args.task.now.op) c.args.task.now.number)))) (g.C.Chunks.shown c.args.access.now) (g.C.Chunks.shown c.write_array.new.access) = steps_wider (puts_cells c.args.task.now.plan c.operation.ensures.sound c.args.task.now.op c.args.task.now.number c.args.task.now.operation c.args.task.now.within c.args.array (subst (λ (xs : List ℕ). Contains xs c.args.array) (sym (both_written (op_of c.args.task.now.plan c.args.task.now.op) c.args.array c.requires.stored)) (0, omega arith, refl)) start c.args.room.now.values.now same_values) (omega arith) (omega arith) c.write_array.ensures.step in
    let second : Steps (TaskChange c.args.task.now.plan c.args.task.now.op c.args.task.now.number start) 0 (length (walk_cells c.args.task.now.plan.arrays (walk (target_of (op_of c.args.task.now.plan c.args.task.now.op)) (task_lo c.args.task.now.plan.arrays (op_of c.args.task.now.plan c.args.task.now.op) c.args.task.now.number) (task_hi c.args.task.now.plan.arrays (op_of c.args.task.now.plan c.args.task.now.op) c.args.task.now.number)))) (g.C.Chunks.shown c.write_array.new.access) (g.C.Chunks.shown c.write_array-2.new.access) = steps_wider (puts_cells c.args.task.now.plan c.operation.ensures.sound c.args.task.now.op c.args.task.now.number c.args.task.now.operation c.args.task.now.within (target_of (op_of c.args.task.now.plan c.args.task.now.op)) (target_written (op_of c.args.task.now.plan c.args.task.now.op)) start c.args.room.now.output.now same_places) (omega arith) (omega arith) (subst (λ (a : ℕ). Steps (RegionPut (array_at c.args.task.now.plan.arrays a) (task_lo c.args.task.now.plan.arrays (op_of c.args.task.now.plan c.args.task.now.op) c.args.task.now.number) (task_hi c.args.task.now.plan.arrays (op_of c.args.task.now.plan c.args.task.now.op) c.args.task.now.number) c.args.room.now.output.now) 0 (length (walk_cells c.args.task.now.plan.arrays (walk a (task_lo c.args.task.now.plan.arrays (op_of c.args.task.now.plan c.args.task.now.op) c.args.task.now.number) (task_hi c.args.task.now.plan.arrays (op_of c.args.task.now.plan c.args.task.now.op) c.args.task.now.number)))) (g.C.Chunks.shown c.write_array.new.access) (g.C.Chunks.shown c.write_array-2.new.access)) target c.write_array-2.ensures.step) in
    steps_wider (λ key value change. change) (omega arith) (omega (arith, calls_both)) (steps_then first second)

pub returns-clause-stored : goal.returns-clause-stored
returns-clause-stored g c env start calls over ready before =
    let target : c.target-target.result ≡ (target_of (op_of c.args.task.now.plan c.args.task.now.op)) = c.target-target.ensures ∙ ap target_of c.operation.ensures.operation in
    let same_values = carries c.args.task.now.plan c.operation.ensures.sound c.args.task.now.op c.args.task.now.number c.args.task.now.operation c.args.task.now.within c.args.array (subst (λ (xs : List ℕ). Contains xs c.args.array) (sym (both_written (op_of c.args.task.now.plan c.args.task.now.op) c.args.array c.requires.stored)) (0, omega arith, refl)) start c.args.room.now.values.now (over.values c.args.array c.requires.stored) in
    let same_places = carries c.args.task.now.plan c.operation.ensures.sound c.args.task.now.op c.args.task.now.number c.args.task.now.operation c.args.task.now.within (target_of (op_of c.args.task.now.plan c.args.task.now.op)) (target_written (op_of c.args.task.now.plan c.args.task.now.op)) start c.args.room.now.output.now over.output in
    let first : Steps (TaskChange c.args.task.now.plan c.args.task.now.op c.args.task.now.number start) 0 (length (walk_cells c.args.task.now.plan.arrays (walk c.args.array (task_lo c.args.task.now.plan.arrays (op_of c.args.task.now.plan c.args.task.now.op) c.args.task.now.number) (task_hi c.args.task.now.plan.arrays (op_of c.args.task.now.plan c.args.task.now.op) c.args.task.now.number)))) (g.C.Chunks.shown c.args.access.now) (g.C.Chunks.shown c.write_array.new.access) = steps_wider (puts_cells c.args.task.now.plan c.operation.ensures.sound c.args.task.now.op c.args.task.now.number c.args.task.now.operation c.args.task.now.within c.args.array (subst (λ (xs : List ℕ). Contains xs c.args.array) (sym (both_written (op_of c.args.task.now.plan c.args.task.now.op) c.args.array c.requires.stored)) (0, omega arith, refl)) start c.args.room.now.values.now same_values) (omega arith) (omega arith) c.write_array.ensures.step in
    let second : Steps (TaskChange c.args.task.now.plan c.args.task.now.op c.args.task.now.number start) 0 (length (walk_cells c.args.task.now.plan.arrays (walk (target_of (op_of c.args.task.now.plan c.args.task.now.op)) (task_lo c.args.task.now.plan.arrays (op_of c.args.task.now.plan c.args.task.now.op) c.args.task.now.number) (task_hi c.args.task.now.plan.arrays (op_of c.args.task.now.plan c.args.task.now.op) c.args.task.now.number)))) (g.C.Chunks.shown c.write_array.new.access) (g.C.Chunks.shown c.write_array-2.new.access) = steps_wider (puts_cells c.args.task.now.plan c.operation.ensures.sound c.args.task.now.op c.args.task.now.number c.args.task.now.operation c.args.task.now.within (target_of (op_of c.args.task.now.plan c.args.task.now.op)) (target_written (op_of c.args.task.now.plan c.args.task.now.op)) start c.args.room.now.output.now same_places) (omega arith) (omega arith) (subst (λ (a : ℕ). Steps (RegionPut (array_at c.args.task.now.plan.arrays a) (task_lo c.args.task.now.plan.arrays (op_of c.args.task.now.plan c.args.task.now.op) c.args.task.now.number) (task_hi c.args.task.now.plan.arrays (op_of c.args.task.now.plan c.args.task.now.op) c.args.task.now.number) c.args.room.now.output.now) 0 (length (walk_cells c.args.task.now.plan.arrays (walk a (task_lo c.args.task.now.plan.arrays (op_of c.args.task.now.plan c.args.task.now.op) c.args.task.now.number) (task_hi c.args.task.now.plan.arrays (op_of c.args.task.now.plan c.args.task.now.op) c.args.task.now.number)))) (g.C.Chunks.shown c.write_array.new.access) (g.C.Chunks.shown c.write_array-2.new.access)) target c.write_array-2.ensures.step) in
    let values = c.in_ok-write_array.ensures.stored (late_own c.args.task.now.plan c.operation.ensures.sound c.args.task.now.op c.args.task.now.number c.args.task.now.operation c.args.task.now.within c.args.array (subst (λ (xs : List ℕ). Contains xs c.args.array) (sym (both_written (op_of c.args.task.now.plan c.args.task.now.op) c.args.array c.requires.stored)) (0, omega arith, refl)) c.requires.own env start (g.C.Chunks.shown c.args.access.now) 0 calls c.args.room.now.values.now same_values ready before) in
    let between : Steps (TaskChange c.args.task.now.plan c.args.task.now.op c.args.task.now.number start) 0 (calls + (length (walk_cells c.args.task.now.plan.arrays (walk c.args.array (task_lo c.args.task.now.plan.arrays (op_of c.args.task.now.plan c.args.task.now.op) c.args.task.now.number) (task_hi c.args.task.now.plan.arrays (op_of c.args.task.now.plan c.args.task.now.op) c.args.task.now.number))))) start (g.C.Chunks.shown c.write_array.new.access) = steps_then before first in
    let stored = subst (λ (a : ℕ). LateIsOwn (array_at c.args.task.now.plan.arrays a) (task_lo c.args.task.now.plan.arrays (op_of c.args.task.now.plan c.args.task.now.op) c.args.task.now.number) (task_hi c.args.task.now.plan.arrays (op_of c.args.task.now.plan c.args.task.now.op) c.args.task.now.number) c.args.room.now.output.now (g.C.Chunks.shown c.write_array.new.access).late → OnOk c.write_array-2.result (StoresRegion (array_at c.args.task.now.plan.arrays a) (task_lo c.args.task.now.plan.arrays (op_of c.args.task.now.plan c.args.task.now.op) c.args.task.now.number) (task_hi c.args.task.now.plan.arrays (op_of c.args.task.now.plan c.args.task.now.op) c.args.task.now.number) c.args.room.now.output.now (g.C.Chunks.shown c.write_array-2.new.access).held)) target c.write_array-2.ensures.stored in
    on_ok_then c.write_array-2.result (λ places cell there. elim (either_array c.args.task.now.plan c.operation.ensures.sound c.args.task.now.op c.args.task.now.number c.args.task.now.operation c.args.task.now.within c.args.array (target_of (op_of c.args.task.now.plan c.args.task.now.op)) (both_written (op_of c.args.task.now.plan c.args.task.now.op) c.args.array c.requires.stored) cell there) [
      | inl here ↦ let (bytes, value, held) = holds_chunk c.args.task.now.plan c.operation.ensures.sound c.args.task.now.op c.args.task.now.number c.args.task.now.operation c.args.task.now.within c.args.array (subst (λ (xs : List ℕ). Contains xs c.args.array) (sym (both_written (op_of c.args.task.now.plan c.args.task.now.op) c.args.array c.requires.stored)) (0, omega arith, refl)) env start (g.C.Chunks.shown c.write_array.new.access) c.args.room.now.values.now same_values ready values cell here there in
          (bytes, value, still_holds c.args.task.now.plan c.operation.ensures.sound c.args.task.now.op c.args.task.now.number c.args.task.now.operation c.args.task.now.within c.requires.own env start (g.C.Chunks.shown c.write_array.new.access) (g.C.Chunks.shown c.write_array-2.new.access) 0 (calls + (length (walk_cells c.args.task.now.plan.arrays (walk c.args.array (task_lo c.args.task.now.plan.arrays (op_of c.args.task.now.plan c.args.task.now.op) c.args.task.now.number) (task_hi c.args.task.now.plan.arrays (op_of c.args.task.now.plan c.args.task.now.op) c.args.task.now.number))))) (length (walk_cells c.args.task.now.plan.arrays (walk (target_of (op_of c.args.task.now.plan c.args.task.now.op)) (task_lo c.args.task.now.plan.arrays (op_of c.args.task.now.plan c.args.task.now.op) c.args.task.now.number) (task_hi c.args.task.now.plan.arrays (op_of c.args.task.now.plan c.args.task.now.op) c.args.task.now.number)))) cell bytes ready between second there value held)
      | inr here ↦ holds_chunk c.args.task.now.plan c.operation.ensures.sound c.args.task.now.op c.args.task.now.number c.args.task.now.operation c.args.task.now.within (target_of (op_of c.args.task.now.plan c.args.task.now.op)) (target_written (op_of c.args.task.now.plan c.args.task.now.op)) env start (g.C.Chunks.shown c.write_array-2.new.access) c.args.room.now.output.now same_places ready places cell here there
    ]) (stored (late_own c.args.task.now.plan c.operation.ensures.sound c.args.task.now.op c.args.task.now.number c.args.task.now.operation c.args.task.now.within (target_of (op_of c.args.task.now.plan c.args.task.now.op)) (target_written (op_of c.args.task.now.plan c.args.task.now.op)) c.requires.own env start (g.C.Chunks.shown c.write_array.new.access) 0 (calls + (length (walk_cells c.args.task.now.plan.arrays (walk c.args.array (task_lo c.args.task.now.plan.arrays (op_of c.args.task.now.plan c.args.task.now.op) c.args.task.now.number) (task_hi c.args.task.now.plan.arrays (op_of c.args.task.now.plan c.args.task.now.op) c.args.task.now.number))))) c.args.room.now.output.now same_places ready between))

pub returns-clause-all : goal.returns-clause-all
returns-clause-all g c =
    let target : c.target-target.result ≡ (target_of (op_of c.args.task.now.plan c.args.task.now.op)) = c.target-target.ensures ∙ ap target_of c.operation.ensures.operation in
    let calls_both = both_calls c.args.task.now.plan.arrays (op_of c.args.task.now.plan c.args.task.now.op) c.args.task.now.number c.args.array (both_written (op_of c.args.task.now.plan c.args.task.now.op) c.args.array c.requires.stored) in
    let second = subst (λ (a : ℕ). OnOk c.write_array-2.result (Made (length (walk_cells c.args.task.now.plan.arrays (walk a (task_lo c.args.task.now.plan.arrays (op_of c.args.task.now.plan c.args.task.now.op) c.args.task.now.number) (task_hi c.args.task.now.plan.arrays (op_of c.args.task.now.plan c.args.task.now.op) c.args.task.now.number)))) (g.C.Chunks.shown c.write_array.new.access).calls (g.C.Chunks.shown c.write_array-2.new.access).calls)) target c.write_array-2.ensures.all in
    on_ok_then c.write_array-2.result (λ made. subst (λ (n : ℕ). Made n (g.C.Chunks.shown c.args.access.now).calls (g.C.Chunks.shown c.write_array-2.new.access).calls) (sym calls_both) (all_made (g.C.Chunks.shown c.args.access.now).calls (g.C.Chunks.shown c.write_array.new.access).calls (g.C.Chunks.shown c.write_array-2.new.access).calls (length (walk_cells c.args.task.now.plan.arrays (walk c.args.array (task_lo c.args.task.now.plan.arrays (op_of c.args.task.now.plan c.args.task.now.op) c.args.task.now.number) (task_hi c.args.task.now.plan.arrays (op_of c.args.task.now.plan c.args.task.now.op) c.args.task.now.number)))) (length (walk_cells c.args.task.now.plan.arrays (walk (target_of (op_of c.args.task.now.plan c.args.task.now.op)) (task_lo c.args.task.now.plan.arrays (op_of c.args.task.now.plan c.args.task.now.op) c.args.task.now.number) (task_hi c.args.task.now.plan.arrays (op_of c.args.task.now.plan c.args.task.now.op) c.args.task.now.number)))) c.in_ok-write_array.ensures.all made)) second

pub returns-clause-called : goal.returns-clause-called
returns-clause-called g c =
    let target : c.target-target.result ≡ (target_of (op_of c.args.task.now.plan c.args.task.now.op)) = c.target-target.ensures ∙ ap target_of c.operation.ensures.operation in
    let tally = both_tally (weight_in (g.C.Chunks.weight c.args.store.now) c.args.task.now.plan.arrays) c.args.task.now.plan.arrays (op_of c.args.task.now.plan c.args.task.now.op) c.args.task.now.number c.args.array (both_written (op_of c.args.task.now.plan c.args.task.now.op) c.args.array c.requires.stored) in
    let values = c.in_ok-write_array.ensures.called in
    let places = subst (λ (a : ℕ). OnOk c.write_array-2.result (Adds (sum_by (weight_in (g.C.Chunks.weight c.args.store.now) c.args.task.now.plan.arrays) (walk_cells c.args.task.now.plan.arrays (walk a (task_lo c.args.task.now.plan.arrays (op_of c.args.task.now.plan c.args.task.now.op) c.args.task.now.number) (task_hi c.args.task.now.plan.arrays (op_of c.args.task.now.plan c.args.task.now.op) c.args.task.now.number)))) (g.C.Chunks.tally c.write_array.new.access) (g.C.Chunks.tally c.write_array-2.new.access))) target c.write_array-2.ensures.called in
    on_ok_then c.write_array-2.result
    (λ called. subst (λ (n : ℕ). Adds n (g.C.Chunks.tally c.args.access.now) (g.C.Chunks.tally c.write_array-2.new.access)) (sym tally)
    (all_added (g.C.Chunks.tally c.args.access.now) (g.C.Chunks.tally c.write_array.new.access) (g.C.Chunks.tally c.write_array-2.new.access)
    (sum_by (weight_in (g.C.Chunks.weight c.args.store.now) c.args.task.now.plan.arrays) (walk_cells c.args.task.now.plan.arrays (walk c.args.array (task_lo c.args.task.now.plan.arrays (op_of c.args.task.now.plan c.args.task.now.op) c.args.task.now.number) (task_hi c.args.task.now.plan.arrays (op_of c.args.task.now.plan c.args.task.now.op) c.args.task.now.number)))) (sum_by (weight_in (g.C.Chunks.weight c.args.store.now) c.args.task.now.plan.arrays) (walk_cells c.args.task.now.plan.arrays (walk (target_of (op_of c.args.task.now.plan c.args.task.now.op)) (task_lo c.args.task.now.plan.arrays (op_of c.args.task.now.plan c.args.task.now.op) c.args.task.now.number) (task_hi c.args.task.now.plan.arrays (op_of c.args.task.now.plan c.args.task.now.op) c.args.task.now.number)))) values called)) places

pub returns-in_err-write_array-clause-called : goal.returns-in_err-write_array-clause-called
returns-in_err-write_array-clause-called g c = let p = err_from_is_err_and c.from_residual.result c.from_residual.ensures.1 in rw p.1 tt

pub write_array-requires-clause-puts : goal.write_array-requires-clause-puts
write_array-requires-clause-puts g c =
    let p = c.requires.puts in
    let same = carries c.args.task.now.plan c.operation.ensures.sound c.args.task.now.op c.args.task.now.number c.args.task.now.operation c.args.task.now.within c.args.array (subst (λ (xs : List ℕ). Contains xs c.args.array) (sym (both_written (op_of c.args.task.now.plan c.args.task.now.op) c.args.array c.requires.stored)) (0, omega arith, refl)) p.start c.args.room.now.values.now (p.made.values c.args.array c.requires.stored) in
    allows_within (puts_cells c.args.task.now.plan c.operation.ensures.sound c.args.task.now.op c.args.task.now.number c.args.task.now.operation c.args.task.now.within c.args.array (subst (λ (xs : List ℕ). Contains xs c.args.array) (sym (both_written (op_of c.args.task.now.plan c.args.task.now.op) c.args.array c.requires.stored)) (0, omega arith, refl)) p.start c.args.room.now.values.now same) p.changes

pub write_array-requires-2-clause-puts : goal.write_array-requires-2-clause-puts
write_array-requires-2-clause-puts g c =
    let target : c.target-target.result ≡ (target_of (op_of c.args.task.now.plan c.args.task.now.op)) = c.target-target.ensures ∙ ap target_of c.operation.ensures.operation in
    let p = c.requires.puts in
    let same = carries c.args.task.now.plan c.operation.ensures.sound c.args.task.now.op c.args.task.now.number c.args.task.now.operation c.args.task.now.within (target_of (op_of c.args.task.now.plan c.args.task.now.op)) (target_written (op_of c.args.task.now.plan c.args.task.now.op)) p.start c.args.room.now.output.now p.made.output in
    subst (λ (a : ℕ). AllowsRegion c.args.task.now.plan c.args.task.now.op c.args.task.now.number a c.args.room.now.output.now (g.C.Chunks.may_put c.args.store.now)) (sym target)
    (allows_within (puts_cells c.args.task.now.plan c.operation.ensures.sound c.args.task.now.op c.args.task.now.number c.args.task.now.operation c.args.task.now.within (target_of (op_of c.args.task.now.plan c.args.task.now.op)) (target_written (op_of c.args.task.now.plan c.args.task.now.op)) p.start c.args.room.now.output.now same) p.changes)

pub returns-clause-open : goal.returns-clause-open
returns-clause-open g c = open_then c.write_array.ensures.open c.write_array-2.ensures.open

pub returns-clause-got : goal.returns-clause-got
returns-clause-got g c =
    let target : c.target-target.result ≡ (target_of (op_of c.args.task.now.plan c.args.task.now.op)) = c.target-target.ensures ∙ ap target_of c.operation.ensures.operation in
    let K = g.C.Chunks.may_get c.args.store.now c.write_array-2.new.access in
    on_ok_then c.write_array-2.result
    (λ got cell there. elim (either_array c.args.task.now.plan c.operation.ensures.sound c.args.task.now.op c.args.task.now.number c.args.task.now.operation c.args.task.now.within c.args.array (target_of (op_of c.args.task.now.plan c.args.task.now.op)) (both_written (op_of c.args.task.now.plan c.args.task.now.op) c.args.array c.requires.stored) cell there) [
      | inl first ↦ got_cell c.args.task.now.plan c.operation.ensures.sound c.args.task.now.op c.args.task.now.number c.args.array K c.args.task.now.operation c.args.task.now.within cell there first
          (λ key here. c.write_array-2.ensures.open.gets key (c.in_ok-write_array.ensures.got key here))
      | inr second ↦ got_cell c.args.task.now.plan c.operation.ensures.sound c.args.task.now.op c.args.task.now.number (target_of (op_of c.args.task.now.plan c.args.task.now.op)) K c.args.task.now.operation c.args.task.now.within cell there second
          (subst (λ (a : ℕ). MayReadRegion c.args.task.now.plan c.args.task.now.op c.args.task.now.number a K) target got)
    ])
    c.write_array-2.ensures.got

pub returns-in_err-write_array-clause-open : goal.returns-in_err-write_array-clause-open
returns-in_err-write_array-clause-open g c = c.write_array.ensures.open

pub write_array-requires-clause-belongs : goal.write_array-requires-clause-belongs
write_array-requires-clause-belongs g c = c.requires.belongs

pub write_array-requires-clause-scratch : goal.write_array-requires-clause-scratch
write_array-requires-clause-scratch g c =
    let own = scratch_of_work c.args.task.now.plan c.args.task.now.op in
    let most = c.requires.room.scratch in
    omega (arith, own, most)

pub write_array-requires-2-clause-belongs : goal.write_array-requires-2-clause-belongs
write_array-requires-2-clause-belongs g c = c.write_array.ensures.open.belongs

pub write_array-requires-2-clause-scratch : goal.write_array-requires-2-clause-scratch
write_array-requires-2-clause-scratch g c =
    let own = scratch_of_work c.args.task.now.plan c.args.task.now.op in
    let most = c.requires.room.scratch in
    let long = c.write_array.auto.scratch in
    omega (arith, own, most, long)

pub returns-in_err-write_array-clause-got : goal.returns-in_err-write_array-clause-got
returns-in_err-write_array-clause-got g c = let p = err_from_is_err_and c.from_residual.result c.from_residual.ensures.1 in rw p.1 tt

pub returns-in_err-write_array-clause-stored : goal.returns-in_err-write_array-clause-stored
returns-in_err-write_array-clause-stored g c env start calls over ready steps = let p = err_from_is_err_and c.from_residual.result c.from_residual.ensures.1 in rw p.1 tt

pub returns-in_err-write_array-clause-all : goal.returns-in_err-write_array-clause-all
returns-in_err-write_array-clause-all g c = let p = err_from_is_err_and c.from_residual.result c.from_residual.ensures.1 in rw p.1 tt

pub returns-in_err-write_array-clause-cause : goal.returns-in_err-write_array-clause-cause
returns-in_err-write_array-clause-cause g c = let p = err_from_is_err_and c.from_residual.result c.from_residual.ensures.1 in rw (p.1, p.2) c.in_err-write_array.ensures.cause
