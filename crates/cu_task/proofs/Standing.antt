-- What makes the region of an array that a task reads fits into the task.
use Rattle.cu_op.proofs.Plans.{inner_kind}
use Rattle.cu_op.proofs.TaskCells.{fit_of}
use Rattle.cu_op.specs.Arrays.{is_inlined, type_at}
use Rattle.cu_op.specs.Cells.{task_lo, task_hi}
use Rattle.cu_op.specs.Operation.{compared_array, reads_of, target_of, writes_one_chunk}
use Rattle.cu_op.specs.PlanView.{PlanView, op_of}
use Rattle.cu_op.specs.Projection.{input_room}
use Rattle.cu_op.specs.Sound.{Sound}
use Rattle.cu_op.specs.TaskView.{task_op, IsInnerRegion, StandsFor, TaskView}
use Rattle.cu_op.specs.Value.{stored_inputs}
use Rattle.cu_op.specs.Walks.{input_walks, walk_cells}
use Rattle.cu_op.specs.Within.{with_inlined}
use Rattle.cu_op.specs.declared.layout.ArrayInfo.{ArrayInfo}
use Rattle.cu_op.specs.declared.operation.Op.{Op}
use Rattle.cu_op.specs.declared.operation.Op.TheVariants.{PairFold, PairMerge}
use Rattle.cu_op.specs.declared.walks.Walk.{Walk}
use Rattle.cu_shape.specs.Index.{differences}
use Rattle.cu_task.proofs.Inside.{inner_calls, inner_fault, inner_has, inner_key, inner_room, inner_steps, inner_sure, inner_tally, inputs_small, read_of, readable_of}
use Rattle.cu_task.proofs.TaskRooms.{kept_fit}
use Rattle.cu_task.specs.Calls.{chunk_calls, chunk_tally, read_calls, read_tally, weight_in, HasSureCalls}
use Rattle.cu_task.specs.Inputs.{walk_room, HasRegion}
use Rattle.cu_task.specs.Inside.{StandsInside}
use Rattle.cu_task.specs.Task.{kept_room, result_room, room_beside, steps_within, work_room, HasResult, IsTaskFault, IsTaskKey}
use Rattle.std.specs.Prelude.{sum_by}
use Rattle.std.proofs.Common.{◌≡◌, ℕ, ◌+◌, ◌*◌, ◌<◌, ◌≤◌, ◌^◌, true, List, Contains, refl, sym, subst, arith}

-- an operation that writes one chunk finds no values
none_found : (arrays : List ArrayInfo) (op : Op) (task : ℕ) → writes_one_chunk op ≡ true → room_beside arrays op task (compared_array op) ≡ 0
none_found arrays (PairFold least axis source values out) task e = cc
none_found arrays (PairMerge least axis group value_source place_source values out) task e = cc
none_found arrays op task e = refl

module _ (t inner : TaskView) (w : Walk) (s : Sound t.plan) (listed : Contains (input_walks t.plan.arrays (task_op t) t.number) w) (stands : StandsFor t w inner) where
  abbrev p : PlanView
  p = t.plan

  abbrev j : ℕ
  j = inner.op

  f : is_inlined p.arrays w.array ≡ true
  f = stands.inlined

  region : IsInnerRegion p w j inner.number
  region = stands.region

  read : Contains (reads_of (op_of p t.op)) w.array
  read = read_of p s t.op t.number w listed

  made_room : result_room p j inner.number (target_of (op_of p j)) ≡ walk_room p.arrays w
  made_room = let i = region in rw (i.lo, i.hi, i.target) refl

  kept_most : kept_room p.arrays (op_of p j) inner.number ≤ input_room p.arrays (op_of p j)
  kept_most = let m = region.makes in kept_fit p s j (op_of p j) inner.number (fit_of p s j m.operation) m.number

  -- over the plan of the task
  over : (P : PlanView → Type 0) → P p → P inner.plan
  over P h = subst P (sym stands.plan) h

  pub stands_inside : StandsInside t w inner
  stands_inside = record {
    before = stands.before;
    typed = over (λ (q : PlanView). type_at q.arrays (target_of (op_of q j)) ≡ type_at p.arrays w.array)
        (let i = region in rw i.target refl);
    sizes = over (λ (q : PlanView). differences (task_hi q.arrays (op_of q j) inner.number) (task_lo q.arrays (op_of q j) inner.number) ≡ differences w.region.hi w.region.lo)
        (let i = region in rw (i.lo, i.hi) refl);
    room = over (λ (q : PlanView). result_room q j inner.number (target_of (op_of q j)) ≡ walk_room p.arrays w) made_room;
    only = over (λ (q : PlanView). room_beside q.arrays (op_of q j) inner.number (compared_array (op_of q j)) ≡ 0)
        (none_found p.arrays (op_of p j) inner.number (inner_kind p j w.array s (readable_of p s t.op w.array t.operation read).0 f region.maker));
    small = over (λ (q : PlanView). kept_room q.arrays (op_of q j) inner.number < 2 ^ 64)
        (let most = kept_most in let small = inputs_small p j s region.makes.operation in omega (arith, most, small));
    scratch = over (λ (q : PlanView). kept_room q.arrays (op_of q j) inner.number + work_room q j ≤ work_room p t.op)
        (let most = kept_most in let room = inner_room p s t.op w.array j t.operation read f region.maker in omega (arith, most, room));
    words = over (λ (q : PlanView). 64 * steps_within q j ≤ 64 * steps_within p t.op)
        (let steps = inner_steps p s t.op w.array j t.operation read f region.maker in omega (arith, steps));
    keys = over (λ (q : PlanView). (key : List ℕ) → IsTaskKey q j inner.number key → IsTaskKey p t.op t.number key)
        (inner_key p s t.op t.number j inner.number w t.operation listed f region);
    faults = λ old new e. over (λ (q : PlanView). IsTaskFault old new q j inner.number e → IsTaskFault old new p t.op t.number e)
        (inner_fault p s t.op t.number j inner.number w t.operation listed f region old new e);
    calls = over (λ (q : PlanView). read_calls q j inner.number ≡ sum_by (chunk_calls p t.op) (walk_cells p.arrays w))
        (sym (inner_calls p s t.op w j inner.number (readable_of p s t.op w.array t.operation read) f region));
    tally = λ weight. over (λ (q : PlanView). read_tally (weight_in weight q.arrays) q j inner.number ≡ sum_by (chunk_tally (weight_in weight p.arrays) p t.op) (walk_cells p.arrays w))
        (sym (inner_tally p s (weight_in weight p.arrays) t.op w j inner.number (readable_of p s t.op w.array t.operation read) f region));
    sure = over (λ (q : PlanView). HasSureCalls p t.op → HasSureCalls q j) (inner_sure p s t.op w.array j t.operation read f region.maker);
    values = λ held buf. over (λ (q : PlanView). HasResult q j inner.number (target_of (op_of q j)) (with_inlined q (stored_inputs q.arrays held)) buf
        → HasRegion (type_at p.arrays w.array) (with_inlined p (stored_inputs p.arrays held) w.array) w.region.lo w.region.hi buf)
        (inner_has p s t.op t.number j inner.number w t.operation listed f region (stored_inputs p.arrays held) buf);
  }
