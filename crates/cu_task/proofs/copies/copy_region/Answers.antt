use Rattle.std.proofs.Common.{◌≡◌, ◌*◌, ℕ, List, Some, refl, sym, ap, ◌∙◌, subst, arith}
use Rattle.std.specs.Prelude.{OnOk}
use Rattle.cu_num.specs.Dtype.{size_of}
use Rattle.cu_num.specs.declared.types.Dtype.{Dtype}
use Rattle.cu_shape.specs.Index.{product, differences}
use Rattle.cu_grid.specs.Counts.{IsWithin}
use Rattle.cu_store.specs.Chunks.{Adds}
use Rattle.cu_store.specs.Held.{Contents}
use Rattle.cu_store.specs.Steps.{NoChange, Steps}
use Rattle.cu_op.specs.Arrays.{array_at, type_at}
use Rattle.cu_op.specs.Cells.{task_lo, task_hi}
use Rattle.cu_op.specs.Operation.{target_of}
use Rattle.cu_op.specs.PlanView.{PlanView, op_of}
use Rattle.cu_op.specs.Value.{stored_inputs}
use Rattle.cu_op.specs.declared.walks.Walk.{Walk}
use Rattle.cu_region.specs.Calls.{Made}
use Rattle.cu_region.specs.Reading.{ReadsRegion}
use Rattle.cu_region.specs.Writing.{AreElements, buffer_element}
use Rattle.cu_task.specs.Calls.{weight_in}
use Rattle.cu_task.specs.Inputs.{IsWalkKey}
use Rattle.cu_task.specs.Task.{HasResult}
use Rattle.cu_task.proofs.CopyTask.{copy_walk}
use Rattle.cu_task.proofs.Inside.{own_fault, own_key}
use Rattle.cu_task.proofs.InputReads.{on_ok_then, on_err_more, still_first}
use Rattle.cu_task.proofs.TaskKinds.{copy_some, OfCopy}
use Rattle.cu_task.proofs.TaskRegions.{scratch_read}
use Rattle.cu_task.proofs.copies.copy_region.Goals as goal

-- what is read is what the copy's rule gives
copied_values : (p : PlanView) (k task : ℕ) (w : Walk) → OfCopy p (op_of p k) task w → (held : Contents) (out : List ℕ) → ReadsRegion (array_at p.arrays w.array) w.region.lo w.region.hi (Some held) out
    → HasResult p k task (target_of (op_of p k)) (stored_inputs p.arrays held) out
copied_values p k task w copy held out reads idx within =
    let region : IsWithin w.region.lo w.region.hi idx = rw (copy.lo, copy.hi) within in
    let typed = ap (λ (t : Dtype). buffer_element t w.region.lo w.region.hi out idx) copy.types in
    let placed : buffer_element (type_at p.arrays (target_of (op_of p k))) w.region.lo w.region.hi out idx ≡ buffer_element (type_at p.arrays (target_of (op_of p k))) (task_lo p.arrays (op_of p k) task) (task_hi p.arrays (op_of p k) task) out idx = rw (copy.lo, copy.hi) refl in
    copy.value (stored_inputs p.arrays held) idx ∙ reads idx region ∙ typed ∙ placed

pub input_walk-walk-requires : goal.input_walk-walk-requires
input_walk-walk-requires g c = copy_some c.args.task.now.plan.arrays (op_of c.args.task.now.plan c.args.task.now.op) c.args.task.now.number c.requires.copy

pub read_walk-requires-clause-room : goal.read_walk-requires-clause-room
read_walk-requires-clause-room g c =
    let own = copy_walk c.args.task.now.plan c.args.task.now.op c.args.task.now.number c.input_walk-walk.result c.input_walk-walk.ensures.sound c.args.task.now.operation c.requires.copy c.input_walk-walk.ensures.walk in
    c.requires.output ∙ ap (λ (t : Dtype). product (differences (task_hi c.args.task.now.plan.arrays (op_of c.args.task.now.plan c.args.task.now.op) c.args.task.now.number) (task_lo c.args.task.now.plan.arrays (op_of c.args.task.now.plan c.args.task.now.op) c.args.task.now.number)) * size_of t) (sym own.copy.types)
    ∙ rw (own.copy.lo, own.copy.hi) refl

pub read_walk-requires-clause-scratch : goal.read_walk-requires-clause-scratch
read_walk-requires-clause-scratch g c =
    let own = copy_walk c.args.task.now.plan c.args.task.now.op c.args.task.now.number c.input_walk-walk.result c.input_walk-walk.ensures.sound c.args.task.now.operation c.requires.copy c.input_walk-walk.ensures.walk in
    let chunk = scratch_read c.args.task.now.plan.arrays (op_of c.args.task.now.plan c.args.task.now.op) c.input_walk-walk.result.array own.copy.among in
    let scratch = c.requires.scratch in
    omega (arith, chunk, scratch)

pub returns-clause-values : goal.returns-clause-values
returns-clause-values g c held known =
    let own = copy_walk c.args.task.now.plan c.args.task.now.op c.args.task.now.number c.input_walk-walk.result c.input_walk-walk.ensures.sound c.args.task.now.operation c.requires.copy c.input_walk-walk.ensures.walk in
    let still = still_first (IsWalkKey c.args.task.now.plan.arrays c.input_walk-walk.result) held (g.C.Chunks.shown c.args.access.now) known.0 (λ key bytes here among. known.1 key bytes (own_key c.args.task.now.plan c.input_walk-walk.ensures.sound c.args.task.now.op c.args.task.now.number c.input_walk-walk.result own.listed own.as_is key here) among) in
    on_ok_then c.read_walk.result
    (λ reads. copied_values c.args.task.now.plan c.args.task.now.op c.args.task.now.number c.input_walk-walk.result own.copy held c.read_walk.new.out reads)
    (c.read_walk.ensures.read held still)

pub returns-clause-elements : goal.returns-clause-elements
returns-clause-elements g c =
    let own = copy_walk c.args.task.now.plan c.args.task.now.op c.args.task.now.number c.input_walk-walk.result c.input_walk-walk.ensures.sound c.args.task.now.operation c.requires.copy c.input_walk-walk.ensures.walk in
    on_ok_then c.read_walk.result (λ each. subst (λ (t : Dtype). AreElements t c.read_walk.new.out) own.copy.types each) c.read_walk.ensures.elements

pub returns-clause-step : goal.returns-clause-step
returns-clause-step g c =
    let own = copy_walk c.args.task.now.plan c.args.task.now.op c.args.task.now.number c.input_walk-walk.result c.input_walk-walk.ensures.sound c.args.task.now.operation c.requires.copy c.input_walk-walk.ensures.walk in
    subst (λ (n : ℕ). Steps NoChange 0 n (g.C.Chunks.shown c.args.access.now) (g.C.Chunks.shown c.read_walk.new.access)) (sym own.calls) c.read_walk.ensures.step

pub returns-clause-all : goal.returns-clause-all
returns-clause-all g c =
    let own = copy_walk c.args.task.now.plan c.args.task.now.op c.args.task.now.number c.input_walk-walk.result c.input_walk-walk.ensures.sound c.args.task.now.operation c.requires.copy c.input_walk-walk.ensures.walk in
    subst (λ (n : ℕ). OnOk c.read_walk.result (Made n (g.C.Chunks.shown c.args.access.now).calls (g.C.Chunks.shown c.read_walk.new.access).calls)) (sym own.calls) c.read_walk.ensures.all

pub returns-clause-called : goal.returns-clause-called
returns-clause-called g c =
    let own = copy_walk c.args.task.now.plan c.args.task.now.op c.args.task.now.number c.input_walk-walk.result c.input_walk-walk.ensures.sound c.args.task.now.operation c.requires.copy c.input_walk-walk.ensures.walk in
    subst (λ (n : ℕ). OnOk c.read_walk.result (Adds n (g.C.Chunks.tally c.args.access.now) (g.C.Chunks.tally c.read_walk.new.access))) (sym (own.tally (weight_in (g.C.Chunks.weight c.args.store.now) c.args.task.now.plan.arrays))) c.read_walk.ensures.called

pub returns-clause-cause : goal.returns-clause-cause
returns-clause-cause g c =
    let own = copy_walk c.args.task.now.plan c.args.task.now.op c.args.task.now.number c.input_walk-walk.result c.input_walk-walk.ensures.sound c.args.task.now.operation c.requires.copy c.input_walk-walk.ensures.walk in
    on_err_more c.read_walk.result (λ e fault. own_fault c.args.task.now.plan c.input_walk-walk.ensures.sound c.args.task.now.op c.args.task.now.number c.input_walk-walk.result own.listed own.as_is (g.C.Chunks.shown c.args.access.now) (g.C.Chunks.shown c.read_walk.new.access) e fault) c.read_walk.ensures.cause

pub read_walk-requires-clause-belongs : goal.read_walk-requires-clause-belongs
read_walk-requires-clause-belongs g c = c.requires.belongs

pub read_walk-requires-clause-walk : goal.read_walk-requires-clause-walk
read_walk-requires-clause-walk g c = c.input_walk-walk.ensures.over

pub read_walk-requires-clause-may : goal.read_walk-requires-clause-may
read_walk-requires-clause-may g c =
    let own = copy_walk c.args.task.now.plan c.args.task.now.op c.args.task.now.number c.input_walk-walk.result c.input_walk-walk.ensures.sound c.args.task.now.operation c.requires.copy c.input_walk-walk.ensures.walk in
    λ key here. c.requires.may key (own_key c.args.task.now.plan c.input_walk-walk.ensures.sound c.args.task.now.op c.args.task.now.number c.input_walk-walk.result own.listed own.as_is key here)

pub returns-clause-open : goal.returns-clause-open
returns-clause-open g c = c.read_walk.ensures.open
