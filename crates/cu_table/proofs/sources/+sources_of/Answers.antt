use Rattle.std.proofs.Common.{◌+◌, ◌<◌, length, refl, arith, ap, sym, ◌∙◌, subst}
use Rattle.cu_op.specs.PlanView.{PlanView}
use Rattle.cu_op.specs.TaskView.{task_op}
use Rattle.cu_op.specs.Walks.{input_walks}
use Rattle.cu_op.specs.Within.{fetched_chunks}
use Rattle.cu_op.specs.declared.layout.ArrayInfo.{ArrayInfo}
use Rattle.cu_table.specs.Sources.{TellsOf}
use Rattle.cu_table.proofs.Needs.{all_tell, array_is, awaited_tells, empty_tells, fetched_at, inner_tells, one_more, one_partial, stored_tells, TellsBefore}
use Rattle.cu_table.proofs.sources.+sources_of.Goals as goal
use Rattle.cu_table.proofs.sources.+sources_of.Goals.{then-array+in-Some, then-array+in-None, else-array, in-Complete, in-Partial}

pub sources_of-requires : goal.sources_of-requires
sources_of-requires t c = ((let b = c.in-Some.ensures.made.before in omega (arith, b)), c.requires ∙ ap (λ (p : PlanView). length p.ops) (sym c.in-Some.ensures.made.plan))

pub loop-place-preserved : goal.loop-place-preserved
loop-place-preserved level c =
    let t = c.args.task.now in
    let counts = c.args.undone.now in
    let h = c.loop-place-test.true in
    let within : c.loop-place.place < length (input_walks t.plan.arrays (task_op t) t.number) = (let e = ap length c.input_walks-place-end.ensures.walks in omega (arith, h, e)) in
    let info = array_is t c.array.ensures.sound counts c.loop-place.place within c.input_walks.result.now c.index-input_walks-place.result c.array.result.now c.input_walks.ensures.walks c.array.ensures.array in
    let own : TellsOf t counts (fetched_at t c.loop-place.place) c.if-array.own =
    elim c.if-array.branch [
      | then-array+in-Some w ↦
          let made = ap (λ (i : ArrayInfo). i.inlined) info ∙ w.if-array.true in
          subst (TellsOf t counts (fetched_at t c.loop-place.place)) (sym w.own-is)
          (inner_tells t c.array.ensures.sound counts c.loop-place.place within made w.in-Some.inner w.in-Some.ensures.made w.sources_of.result w.sources_of.ensures)
      | then-array+in-None w ↦
          let made = ap (λ (i : ArrayInfo). i.inlined) info ∙ w.if-array.true in
          subst (TellsOf t counts (fetched_at t c.loop-place.place)) (sym w.own-is)
          (empty_tells t c.array.ensures.sound counts c.loop-place.place made (w.in-None.ensures.none refl))
      | else-array w ↦
          let stored = ap (λ (i : ArrayInfo). i.inlined) info ∙ w.if-array.false in
          subst (TellsOf t counts (fetched_at t c.loop-place.place)) (sym w.own-is)
          (stored_tells t c.array.ensures.sound counts c.loop-place.place stored w.stored_source-own.result w.stored_source-own.ensures)
    ] in
    elim c.match-own.branch [
      | in-Complete w ↦
          subst (TellsBefore t counts (c.loop-place.place + 1)) (sym w.found-is)
          (one_more t c.array.ensures.sound counts c.loop-place.place c.loop-place.found c.loop-place.invariant (subst (TellsOf t counts (fetched_at t c.loop-place.place)) w.in-Complete.is own))
      | in-Partial w ↦ subst (TellsBefore t counts (c.loop-place.place + 1)) (sym w.found-is)
          (one_partial t c.array.ensures.sound counts c.loop-place.place (subst (TellsOf t counts (fetched_at t c.loop-place.place)) w.in-Partial.is own))
    ]

pub returns-in-Awaited : goal.returns-in-Awaited
returns-in-Awaited level c =
    let t = c.args.task.now in
    let counts = c.args.undone.now in
    let h = c.loop-place-test.true in
    let within : c.loop-place.place < length (input_walks t.plan.arrays (task_op t) t.number) = (let e = ap length c.input_walks-place-end.ensures.walks in omega (arith, h, e)) in
    let info = array_is t c.array.ensures.sound counts c.loop-place.place within c.input_walks.result.now c.index-input_walks-place.result c.array.result.now c.input_walks.ensures.walks c.array.ensures.array in
    let own : TellsOf t counts (fetched_at t c.loop-place.place) c.if-array.own =
    elim c.if-array.branch [
      | then-array+in-Some w ↦
          let made = ap (λ (i : ArrayInfo). i.inlined) info ∙ w.if-array.true in
          subst (TellsOf t counts (fetched_at t c.loop-place.place)) (sym w.own-is)
          (inner_tells t c.array.ensures.sound counts c.loop-place.place within made w.in-Some.inner w.in-Some.ensures.made w.sources_of.result w.sources_of.ensures)
      | then-array+in-None w ↦
          let made = ap (λ (i : ArrayInfo). i.inlined) info ∙ w.if-array.true in
          subst (TellsOf t counts (fetched_at t c.loop-place.place)) (sym w.own-is)
          (empty_tells t c.array.ensures.sound counts c.loop-place.place made (w.in-None.ensures.none refl))
      | else-array w ↦
          let stored = ap (λ (i : ArrayInfo). i.inlined) info ∙ w.if-array.false in
          subst (TellsOf t counts (fetched_at t c.loop-place.place)) (sym w.own-is)
          (stored_tells t c.array.ensures.sound counts c.loop-place.place stored w.stored_source-own.result w.stored_source-own.ensures)
    ] in
    awaited_tells t c.array.ensures.sound counts c.in-Awaited.field-0 c.if-array.own (fetched_at t c.loop-place.place) (fetched_chunks t.plan t.op t.number) c.in-Awaited.is own

pub returns : goal.returns
returns level c =
    all_tell c.args.task.now c.input_walks-place-end.ensures.sound c.args.undone.now c.loop-place.place c.loop-place.found
    (let e = ap length c.input_walks-place-end.ensures.walks in let a = c.loop-place-test.false in let b = c.loop-place.auto.place-end in omega (arith, e, a, b)) c.loop-place.invariant
