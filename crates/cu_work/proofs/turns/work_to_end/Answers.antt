use Rattle.std.proofs.Common.{◌∙◌, sym, refl, subst, ℕ}
use Rattle.cu_op.specs.PlanView.{PlanView}
use Rattle.cu_op.specs.Sound.{Sound}
use Rattle.cu_table.specs.declared.claim.Claim.TheVariants as claim
use Rattle.cu_table.specs.Numbers.{IsTask}
use Rattle.cu_table.specs.Table.{start_event}
use Rattle.cu_board.specs.Board.{IsResting, IsRunning, MayReport}
use Rattle.cu_task.specs.Serving.{HasSeenInputs}
use Rattle.cu_work.proofs.StoredChunks.{region}
use Rattle.cu_work.proofs.Turning.{same_after, runs_after, task_after, inputs_after, writes_inputs, finished_after, idle_after, broken_after, halted_after, reported_after, later_same, later_then, later_any, later_again, own_rests, worker_after}
use Rattle.cu_work.proofs.OwnCounts.{counted_turn, counted_still}
use Rattle.cu_work.specs.Workers.{HasCounted}
use Rattle.cu_work.proofs.turns.work_to_end.Goals as goal

pub try_in_rooms-ended-requires-clause-task : goal.try_in_rooms-ended-requires-clause-task
try_in_rooms-ended-requires-clause-task g c κs within =
    let r = c.in-Run in
    subst (λ (p : PlanView). IsTask p r.op r.task) c.requires.plan
    (task_after c.args.board.now.table c.loop.worker.seat.view c.claim.new.seat.view r.op r.task r.copy (g.Y.Yard.knows c.claim.new.pass) r.ensures.claimed)

pub try_in_rooms-ended-requires-clause-inputs : goal.try_in_rooms-ended-requires-clause-inputs
try_in_rooms-ended-requires-clause-inputs g c κs within =
    let made = c.args.board.now.table in
    let r = c.in-Run in
    let k = g.Y.Yard.knows c.claim.new.pass in
    let turn = r.ensures.claimed in
    let sound = subst Sound (sym c.requires.plan) c.ops-ops.ensures.sound in
    let is = task_after made c.loop.worker.seat.view c.claim.new.seat.view r.op r.task r.copy k turn in
    subst (λ (p : PlanView). HasSeenInputs p r.op r.task k.seen) c.requires.plan
    (inputs_after made c.loop.worker.seat.view c.claim.new.seat.view r.op r.task r.copy k turn
    (writes_inputs made.settings.plan sound r.op r.task is
    (λ cell among. (c.input_cells_law.ensures.cells made.settings.plan r.op r.task cell sound is.operation (region made.settings.plan sound r.op r.task is)).0 among))
    (c.step_law.ensures.ready turn.before.settings turn.before.done turn.before.history turn.before.state turn.after.state
    (start_event turn.before.settings.plan c.loop.worker.seat.view.number r.op r.task) turn.found.legal turn.answer.0.step refl))

pub report-requires-clause-may : goal.report-requires-clause-may
report-requires-clause-may g c κs within =
    let r = c.in-Run in
    subst (λ (p : PlanView). MayReport p r.op r.task c.try_in_rooms-ended.result (g.Y.Yard.knows c.try_in_rooms-ended.new.pass)) (sym c.requires.plan) c.try_in_rooms-ended.ensures.may

pub report-requires-clause-running : goal.report-requires-clause-running
report-requires-clause-running g c κs within =
    let made = c.args.board.now.table in
    let r = c.in-Run in
    let k = g.Y.Yard.knows c.claim.new.pass in
    let same = same_after made c.loop.worker.seat.view c.claim.new.seat.view (claim.Run r.op r.task r.copy) k r.ensures.claimed in
    subst (λ (n : ℕ). IsRunning n r.op r.task c.claim.new.seat.view.front) (sym same.1)
    (runs_after made c.loop.worker.seat.view c.claim.new.seat.view r.op r.task r.copy k r.ensures.claimed)

pub loop-preserved-in-Run : goal.loop-preserved-in-Run
loop-preserved-in-Run g c =
    let made = c.args.board.now.table in
    let r = c.in-Run in
    let e = c.report.ensures in
    let i = c.loop.invariant in
    let specs = (g.Y.Yard.serves c.args.yard.now).specs in
    let first = g.Y.Yard.knows c.args.worker.now.pass in
    let k0 = g.Y.Yard.knows c.loop.worker.pass in
    let k = g.Y.Yard.knows c.claim.new.pass in
    let l = g.Y.Yard.knows c.try_in_rooms-ended.new.pass in
    let m = g.Y.Yard.knows c.report.new.pass in
    let same = same_after made c.loop.worker.seat.view c.claim.new.seat.view (claim.Run r.op r.task r.copy) k r.ensures.claimed in
    let after = reported_after made c.claim.new.seat.view c.report.new.seat.view r.op r.task c.try_in_rooms-ended.result e.reported in
    let number = same.1 ∙ i.2.number_is in (
      tt,
      tt,
      record {
        own = e.own;
        seat_is = (e.board ∙ r.ensures.board ∙ i.2.seat_is.0, after.0 ∙ same.0 ∙ i.2.seat_is.1);
        number_is = after.1 ∙ number;
        resting = subst (λ (n : ℕ). IsResting n c.report.new.seat.view.front) number after.2;
      },
      i.3,
      c.try_in_rooms-ended.ensures.rooms ∙ i.4,
      later_again specs first l m (later_then specs first k l (later_then specs first k0 k i.5 (later_any specs k0 k r.ensures.later)) c.try_in_rooms-ended.ensures.later) e.same,
      subst (HasCounted c.args.plan.now c.report.new.seat.view) (sym e.same)
          (counted_turn c.args.plan.now made c.loop.worker.seat.view c.claim.new.seat.view c.report.new.seat.view r.op r.task r.copy c.try_in_rooms-ended.result (g.Y.Yard.serves c.args.yard.now) k0 k l
          r.ensures.claimed e.reported r.ensures.count r.ensures.calls c.try_in_rooms-ended.ensures.tried i.6),
    )

pub returns-in-Halted-clause-ended : goal.returns-in-Halted-clause-ended
returns-in-Halted-clause-ended g c =
    let i = c.loop.invariant in
    let turn = c.in-Halted.ensures.claimed in
    (halted_after c.args.board.now.table c.loop.worker.seat.view c.claim.new.seat.view c.in-Halted.fault c.halt_outcome.result (g.Y.Yard.knows c.claim.new.pass) turn
    (subst (λ (n : ℕ). IsResting n c.loop.worker.seat.view.front) (sym i.2.number_is) i.2.resting)
    (c.ended_law.ensures.fault turn.before.settings turn.before.done turn.before.history turn.before.state c.in-Halted.fault turn.found.legal turn.answer.1) c.halt_outcome.ensures).1

pub returns-in-Halted-clause-worker : goal.returns-in-Halted-clause-worker
returns-in-Halted-clause-worker g c =
    let i = c.loop.invariant in
    let turn = c.in-Halted.ensures.claimed in
    worker_after c.claim.new.seat c.claim.new.pass i.2 c.claim.ensures.own c.claim.ensures.board (same_after c.args.board.now.table c.loop.worker.seat.view c.claim.new.seat.view (claim.Halted c.in-Halted.fault) (g.Y.Yard.knows c.claim.new.pass) turn)
    (halted_after c.args.board.now.table c.loop.worker.seat.view c.claim.new.seat.view c.in-Halted.fault c.halt_outcome.result (g.Y.Yard.knows c.claim.new.pass) turn (own_rests i.2)
    (c.ended_law.ensures.fault turn.before.settings turn.before.done turn.before.history turn.before.state c.in-Halted.fault turn.found.legal turn.answer.1) c.halt_outcome.ensures).0

pub returns-in-Finished-clause-later : goal.returns-in-Finished-clause-later
returns-in-Finished-clause-later g c = later_then (g.Y.Yard.serves c.args.yard.now).specs (g.Y.Yard.knows c.args.worker.now.pass) (g.Y.Yard.knows c.loop.worker.pass) (g.Y.Yard.knows c.claim.new.pass) c.loop.invariant.5 (later_any (g.Y.Yard.serves c.args.yard.now).specs (g.Y.Yard.knows c.loop.worker.pass) (g.Y.Yard.knows c.claim.new.pass) c.in-Finished.ensures.later)

pub returns-in-Finished-clause-number : goal.returns-in-Finished-clause-number
returns-in-Finished-clause-number g c = c.loop.invariant.3

pub returns-in-Finished-clause-rooms : goal.returns-in-Finished-clause-rooms
returns-in-Finished-clause-rooms g c = c.loop.invariant.4

pub returns-in-Broken-clause-later : goal.returns-in-Broken-clause-later
returns-in-Broken-clause-later g c = later_then (g.Y.Yard.serves c.args.yard.now).specs (g.Y.Yard.knows c.args.worker.now.pass) (g.Y.Yard.knows c.loop.worker.pass) (g.Y.Yard.knows c.claim.new.pass) c.loop.invariant.5 (later_any (g.Y.Yard.serves c.args.yard.now).specs (g.Y.Yard.knows c.loop.worker.pass) (g.Y.Yard.knows c.claim.new.pass) c.in-Broken.ensures.later)

pub returns-in-Broken-clause-number : goal.returns-in-Broken-clause-number
returns-in-Broken-clause-number g c = c.loop.invariant.3

pub returns-in-Broken-clause-rooms : goal.returns-in-Broken-clause-rooms
returns-in-Broken-clause-rooms g c = c.loop.invariant.4

pub returns-in-Halted-clause-later : goal.returns-in-Halted-clause-later
returns-in-Halted-clause-later g c = later_then (g.Y.Yard.serves c.args.yard.now).specs (g.Y.Yard.knows c.args.worker.now.pass) (g.Y.Yard.knows c.loop.worker.pass) (g.Y.Yard.knows c.claim.new.pass) c.loop.invariant.5 (later_any (g.Y.Yard.serves c.args.yard.now).specs (g.Y.Yard.knows c.loop.worker.pass) (g.Y.Yard.knows c.claim.new.pass) c.in-Halted.ensures.later)

pub returns-in-Halted-clause-number : goal.returns-in-Halted-clause-number
returns-in-Halted-clause-number g c = c.loop.invariant.3

pub returns-in-Halted-clause-rooms : goal.returns-in-Halted-clause-rooms
returns-in-Halted-clause-rooms g c = c.loop.invariant.4

pub returns-in-Finished-clause-worker : goal.returns-in-Finished-clause-worker
returns-in-Finished-clause-worker g c = worker_after c.claim.new.seat c.claim.new.pass c.loop.invariant.2 c.claim.ensures.own c.claim.ensures.board (same_after c.args.board.now.table c.loop.worker.seat.view c.claim.new.seat.view (claim.Finished) (g.Y.Yard.knows c.claim.new.pass) c.in-Finished.ensures.claimed) ((finished_after c.args.board.now.table c.loop.worker.seat.view c.claim.new.seat.view (g.Y.Yard.knows c.claim.new.pass) c.in-Finished.ensures.claimed (own_rests c.loop.invariant.2)).0)

pub returns-in-Finished-clause-ended : goal.returns-in-Finished-clause-ended
returns-in-Finished-clause-ended g c = (finished_after c.args.board.now.table c.loop.worker.seat.view c.claim.new.seat.view (g.Y.Yard.knows c.claim.new.pass) c.in-Finished.ensures.claimed (own_rests c.loop.invariant.2)).1

pub returns-in-Broken-clause-worker : goal.returns-in-Broken-clause-worker
returns-in-Broken-clause-worker g c = worker_after c.claim.new.seat c.claim.new.pass c.loop.invariant.2 c.claim.ensures.own c.claim.ensures.board (same_after c.args.board.now.table c.loop.worker.seat.view c.claim.new.seat.view (claim.Broken c.in-Broken.op c.in-Broken.task) (g.Y.Yard.knows c.claim.new.pass) c.in-Broken.ensures.claimed) ((broken_after c.args.board.now.table c.loop.worker.seat.view c.claim.new.seat.view c.in-Broken.op c.in-Broken.task (g.Y.Yard.knows c.claim.new.pass) c.in-Broken.ensures.claimed (own_rests c.loop.invariant.2)).0)

pub returns-in-Broken-clause-ended : goal.returns-in-Broken-clause-ended
returns-in-Broken-clause-ended g c = (broken_after c.args.board.now.table c.loop.worker.seat.view c.claim.new.seat.view c.in-Broken.op c.in-Broken.task (g.Y.Yard.knows c.claim.new.pass) c.in-Broken.ensures.claimed (own_rests c.loop.invariant.2)).1

pub loop-init : goal.loop-init
loop-init g c = (tt, tt, c.requires.worker, refl, refl, later_same (g.Y.Yard.serves c.args.yard.now).specs (g.Y.Yard.knows c.args.worker.now.pass), c.requires.counted)

pub loop-preserved : goal.loop-preserved
loop-preserved g c = (
  tt,
  tt,
  worker_after c.claim.new.seat c.claim.new.pass c.loop.invariant.2 c.claim.ensures.own c.claim.ensures.board (same_after c.args.board.now.table c.loop.worker.seat.view c.claim.new.seat.view claim.Idle (g.Y.Yard.knows c.claim.new.pass) c.in-Idle.ensures.claimed) (idle_after c.args.board.now.table c.loop.worker.seat.view c.claim.new.seat.view (g.Y.Yard.knows c.claim.new.pass) c.in-Idle.ensures.claimed (own_rests c.loop.invariant.2)),
  c.loop.invariant.3,
  c.loop.invariant.4,
  later_then (g.Y.Yard.serves c.args.yard.now).specs (g.Y.Yard.knows c.args.worker.now.pass) (g.Y.Yard.knows c.loop.worker.pass) (g.Y.Yard.knows c.claim.new.pass) c.loop.invariant.5 (later_any (g.Y.Yard.serves c.args.yard.now).specs (g.Y.Yard.knows c.loop.worker.pass) (g.Y.Yard.knows c.claim.new.pass) c.in-Idle.ensures.later),
  counted_still c.args.plan.now c.args.board.now.table c.loop.worker.seat.view c.claim.new.seat.view claim.Idle (g.Y.Yard.knows c.loop.worker.pass) (g.Y.Yard.knows c.claim.new.pass)
      c.in-Idle.ensures.claimed c.in-Idle.ensures.claimed.answer.0 c.in-Idle.ensures.unless_run c.loop.invariant.6,
)

pub returns-in-Finished-clause-counted : goal.returns-in-Finished-clause-counted
returns-in-Finished-clause-counted g c =
    counted_still c.args.plan.now c.args.board.now.table c.loop.worker.seat.view c.claim.new.seat.view claim.Finished (g.Y.Yard.knows c.loop.worker.pass) (g.Y.Yard.knows c.claim.new.pass)
    c.in-Finished.ensures.claimed c.in-Finished.ensures.claimed.answer.0 c.in-Finished.ensures.unless_run c.loop.invariant.6

pub returns-in-Broken-clause-counted : goal.returns-in-Broken-clause-counted
returns-in-Broken-clause-counted g c =
    counted_still c.args.plan.now c.args.board.now.table c.loop.worker.seat.view c.claim.new.seat.view (claim.Broken c.in-Broken.op c.in-Broken.task) (g.Y.Yard.knows c.loop.worker.pass) (g.Y.Yard.knows c.claim.new.pass)
    c.in-Broken.ensures.claimed c.in-Broken.ensures.claimed.answer.0 c.in-Broken.ensures.unless_run c.loop.invariant.6

pub returns-in-Halted-clause-counted : goal.returns-in-Halted-clause-counted
returns-in-Halted-clause-counted g c =
    counted_still c.args.plan.now c.args.board.now.table c.loop.worker.seat.view c.claim.new.seat.view (claim.Halted c.in-Halted.fault) (g.Y.Yard.knows c.loop.worker.pass) (g.Y.Yard.knows c.claim.new.pass)
    c.in-Halted.ensures.claimed c.in-Halted.ensures.claimed.answer.0 c.in-Halted.ensures.unless_run c.loop.invariant.6
