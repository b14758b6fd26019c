use Rattle.std.proofs.Common.{◌+◌, subst, sym, arith}
use Rattle.cu_work.specs.Tried.{IsStoppedBy, chosen_below}
use Rattle.cu_work.proofs.TriedTasks.{chosen_few, passed_so, ran_so, starts_fit, stopped_by, stopped_step, these_inputs}
use Rattle.cu_work.proofs.trying.run_chosen.Goals as goal
use Rattle.cu_work.proofs.trying.run_chosen.Goals.{then-chosen-number+in-Ok, else-chosen-number}

pub run_tries-requires-clause-inputs : goal.run_tries-requires-clause-inputs
run_tries-requires-clause-inputs g c =
    these_inputs c.range_law.ensures.values c.args.plan.now c.ops-ops.ensures.sound c.args.part.now c.requires.part c.args.chosen.now c.args.retries (g.D.PutStore.shown c.args.depot.now) c.requires.whole c.loop-number.number (let t = c.loop-number-test.true in omega (arith, t)) (g.D.PutStore.shown c.loop-number.depot) c.loop-number.memory c.loop-number.counts c.loop-number.invariant
    c.requires.ready.0 c.requires.ready.1 c.if-chosen-number.true

pub overflow_add-counts-in-Ok : goal.overflow_add-counts-in-Ok
overflow_add-counts-in-Ok g c =
    let so_far = c.loop-number.invariant.starts in
    let few = starts_fit c.args.retries (chosen_below c.args.chosen.now c.loop-number.number) c.loop-number.number c.in-Ok.failures c.loop-number.counts.starts c.loop-number.counts.failures
    so_far.0 so_far.1 (chosen_few c.args.chosen.now c.loop-number.number) c.requires.few c.in-Ok.ensures.tried.0 in
    let same = c.from.ensures in
    let t = c.loop-number-test.true in
    let whole = c.requires.whole in
    let fits = c.fits-part in
    omega (arith, few, same, t, whole, fits)

pub returns-in-Err-clause-step : goal.returns-in-Err-clause-step
returns-in-Err-clause-step g c =
    stopped_step c.range_law.ensures.values c.args.plan.now c.ops-ops.ensures.sound c.args.part.now c.requires.part c.args.chosen.now c.args.retries (g.D.PutStore.shown c.args.depot.now) c.requires.whole c.loop-number.number (let t = c.loop-number-test.true in omega (arith, t)) (g.D.PutStore.shown c.loop-number.depot) c.loop-number.memory c.loop-number.counts c.loop-number.invariant
    c.if-chosen-number.true (g.D.PutStore.shown c.run_tries.new.depot) c.run_tries.ensures.step

pub returns-in-Err-clause-stopped : goal.returns-in-Err-clause-stopped
returns-in-Err-clause-stopped g c =
    subst (IsStoppedBy c.args.plan.now c.args.part.now c.args.chosen.now (c.args.retries + 1) ((g.D.PutStore.shown c.args.depot.now), g.D.PutStore.shown c.run_tries.new.depot)) (sym c.task_fault.ensures)
    (stopped_by c.range_law.ensures.values c.args.plan.now c.ops-ops.ensures.sound c.args.part.now c.requires.part c.args.chosen.now c.args.retries (g.D.PutStore.shown c.args.depot.now) c.requires.whole c.loop-number.number (let t = c.loop-number-test.true in omega (arith, t)) (g.D.PutStore.shown c.loop-number.depot) c.loop-number.memory c.loop-number.counts c.loop-number.invariant
    c.if-chosen-number.true (g.D.PutStore.shown c.run_tries.new.depot) c.run_tries.ensures.step c.in-Err.fault c.in-Err.ensures.tried)

pub loop-number-preserved : goal.loop-number-preserved
loop-number-preserved g c =
    elim c.if-chosen-number.branch [
      | then-chosen-number+in-Ok w ↦
          rw (w.depot-is, w.memory-is, w.counts-is, w.from.ensures, w.from-in-Ok.ensures)
          (ran_so c.range_law.ensures.values c.args.plan.now c.ops-ops.ensures.sound c.args.part.now c.requires.part c.args.chosen.now c.args.retries (g.D.PutStore.shown c.args.depot.now) c.requires.whole c.loop-number.number (let t = c.loop-number-test.true in omega (arith, t)) (g.D.PutStore.shown c.loop-number.depot) c.loop-number.memory c.loop-number.counts c.loop-number.invariant
          w.if-chosen-number.true (g.D.PutStore.shown w.run_tries.new.depot) w.run_tries.ensures.step w.run_tries.new.memory w.run_tries.ensures.memory w.in-Ok.ensures.done w.in-Ok.failures w.in-Ok.ensures.tried)
      | else-chosen-number w ↦
          rw (w.depot-is, w.memory-is, w.counts-is)
          (passed_so c.range_law.ensures.values c.args.plan.now c.ops-ops.ensures.sound c.args.part.now c.requires.part c.args.chosen.now c.args.retries (g.D.PutStore.shown c.args.depot.now) c.requires.whole c.loop-number.number (let t = c.loop-number-test.true in omega (arith, t)) (g.D.PutStore.shown c.loop-number.depot) c.loop-number.memory c.loop-number.counts c.loop-number.invariant
          w.if-chosen-number.false)
    ]
