use Rattle.std.proofs.Common.{◌≡◌, ◌≤◌, ◌+◌, ◌*◌, Bool, length, refl, sym, ◌∙◌, subst}
use Rattle.cu_store.specs.Yard.{shown_by}
use Rattle.cu_op.specs.PlanView.{PlanView}
use Rattle.cu_task.specs.Serving.{ServesPlan, HasSeenInputs}
use Rattle.cu_table.specs.Numbers.{IsTask, task_count}
use Rattle.cu_table.specs.Step.{Settings}
use Rattle.cu_table.specs.Table.{TableView, Goes, start_event, end_of, report_kind, is_late, KeepsFault}
use Rattle.cu_work.specs.Alone.{HasRun, HasSeenDone, Tried}
use Rattle.cu_work.proofs.AloneTurns.{ran_first, nobody_runs, turn_task, turn_inputs, turn_runs, turn_on_time, turn_done, fewer_left, finished_decided, halted_decided}
use Rattle.cu_work.proofs.AloneTries.{tried_first, tried_more, tried_calls, tried_workers}
use Rattle.cu_work.proofs.alone.drive_alone.Goals as goal

pub loop-op-init : goal.loop-op-init
loop-op-init g c = record {
  own = c.requires.own;
  rooms = refl;
  ran = ran_first (g.Y.Yard.serves c.args.yard.now) c.args.table.now (g.Y.Yard.knows c.args.pass.now) c.history-history.ensures.legal c.requires.fresh
      (subst (λ (p : PlanView). HasSeenDone p c.args.table.now.state (g.Y.Yard.knows c.args.pass.now).seen) (sym c.requires.plan) c.requires.seen);
  tried = tried_first c.args.table.now (g.Y.Yard.knows c.args.pass.now) c.requires.fresh;
}

pub claim-requires : goal.claim-requires
claim-requires g c = nobody_runs c.loop-op.table.state 0 c.loop-op.invariant.ran.resting

pub try_in_yard-ended-requires-clause-own : goal.try_in_yard-ended-requires-clause-own
try_in_yard-ended-requires-clause-own g c κs within = c.loop-op.invariant.own

pub try_in_yard-ended-requires-clause-rooms : goal.try_in_yard-ended-requires-clause-rooms
try_in_yard-ended-requires-clause-rooms g c κs within = c.loop-op.invariant.rooms ∙ c.requires.rooms

pub try_in_yard-ended-requires-clause-inputs : goal.try_in_yard-ended-requires-clause-inputs
try_in_yard-ended-requires-clause-inputs g c κs within =
    let k = g.Y.Yard.knows c.loop-op.pass in
    subst (λ (p : PlanView). HasSeenInputs p c.in-Run.op c.in-Run.task k.seen) c.requires.plan
    (turn_inputs (g.Y.Yard.serves c.args.yard.now) c.args.table.now c.loop-op.table c.claim.new.self c.claim.new.self (g.Y.Yard.knows c.args.pass.now) (k, k) c.in-Run.op c.in-Run.task
    c.history-history.ensures.sound (subst (λ (p : PlanView). ServesPlan p (g.Y.Yard.serves c.args.yard.now)) (sym c.requires.plan) c.requires.serves) c.loop-op.invariant.ran c.in-Run.ensures.answer.0)

pub try_in_yard-ended-requires-clause-operation : goal.try_in_yard-ended-requires-clause-operation
try_in_yard-ended-requires-clause-operation g c κs within =
    let k = g.Y.Yard.knows c.loop-op.pass in
    (subst (λ (p : PlanView). IsTask p c.in-Run.op c.in-Run.task) c.requires.plan (turn_task (g.Y.Yard.serves c.args.yard.now) c.args.table.now c.loop-op.table c.claim.new.self c.claim.new.self (g.Y.Yard.knows c.args.pass.now) (k, k) c.in-Run.op c.in-Run.task
    c.history-history.ensures.sound (subst (λ (p : PlanView). ServesPlan p (g.Y.Yard.serves c.args.yard.now)) (sym c.requires.plan) c.requires.serves) c.loop-op.invariant.ran c.in-Run.ensures.answer.0)).operation

pub try_in_yard-ended-requires-clause-task : goal.try_in_yard-ended-requires-clause-task
try_in_yard-ended-requires-clause-task g c κs within =
    let k = g.Y.Yard.knows c.loop-op.pass in
    (subst (λ (p : PlanView). IsTask p c.in-Run.op c.in-Run.task) c.requires.plan (turn_task (g.Y.Yard.serves c.args.yard.now) c.args.table.now c.loop-op.table c.claim.new.self c.claim.new.self (g.Y.Yard.knows c.args.pass.now) (k, k) c.in-Run.op c.in-Run.task
    c.history-history.ensures.sound (subst (λ (p : PlanView). ServesPlan p (g.Y.Yard.serves c.args.yard.now)) (sym c.requires.plan) c.requires.serves) c.loop-op.invariant.ran c.in-Run.ensures.answer.0)).number

pub report-requires : goal.report-requires
report-requires g c =
    let k = g.Y.Yard.knows c.loop-op.pass in
    turn_runs (g.Y.Yard.serves c.args.yard.now) c.args.table.now c.loop-op.table c.claim.new.self c.claim.new.self (g.Y.Yard.knows c.args.pass.now) (k, k) c.in-Run.op c.in-Run.task
    c.history-history.ensures.sound (subst (λ (p : PlanView). ServesPlan p (g.Y.Yard.serves c.args.yard.now)) (sym c.requires.plan) c.requires.serves) c.loop-op.invariant.ran c.in-Run.ensures.answer.0

pub loop-op-smaller : goal.loop-op-smaller
loop-op-smaller g c =
    let t = c.loop-op.table in
    let u = c.claim.new.self in
    let goes = c.in-Run.ensures.answer.0 in
    fewer_left (2 * (c.args.table.now.settings.retries + 2) * task_count c.args.table.now.settings.plan) t u c.report.new.self (start_event t.settings.plan 0 c.in-Run.op c.in-Run.task)
    (end_of (report_kind (is_late u.settings.plan u.state c.in-Run.op c.in-Run.task) c.try_in_yard-ended.result) 0 c.in-Run.op c.in-Run.task) goes c.report.ensures.reported.0
    (subst (λ (s : Settings). length u.history ≤ 2 * (s.retries + 2) * task_count s.plan) (goes.settings ∙ c.loop-op.invariant.ran.settings)
    (c.history_law.ensures.few u.settings u.done u.history (u.state, c.claim.ensures.legal)))

pub loop-op-preserved : goal.loop-op-preserved
loop-op-preserved g c =
    let yard = g.Y.Yard.serves c.args.yard.now in
    let first = c.args.table.now in
    let t = c.loop-op.table in
    let u = c.claim.new.self in
    let v = c.report.new.self in
    let old = g.Y.Yard.knows c.args.pass.now in
    let k = g.Y.Yard.knows c.loop-op.pass in
    let l = g.Y.Yard.knows c.try_in_yard-ended.new.pass in
    let r = c.try_in_yard-ended.result in
    let serves = subst (λ (p : PlanView). ServesPlan p yard) (sym c.requires.plan) c.requires.serves in
    let late = turn_on_time yard first t u v old (k, l) c.in-Run.op c.in-Run.task c.history-history.ensures.sound serves c.loop-op.invariant.ran c.in-Run.ensures.answer.0 in
    record {
      own = c.try_in_yard-ended.ensures.own;
      rooms = c.try_in_yard-ended.ensures.rooms ∙ c.loop-op.invariant.rooms;
      ran = turn_done yard first t u v old (k, l) c.in-Run.op c.in-Run.task c.history-history.ensures.sound serves c.loop-op.invariant.ran c.in-Run.ensures.answer.0
          c.report.ensures.legal r
          (subst (λ (p : PlanView). Tried p c.in-Run.op c.in-Run.task yard (k, l) r) (sym c.requires.plan) c.try_in_yard-ended.ensures.tried)
          (subst (λ (b : Bool). Goes u v (end_of (report_kind b r) 0 c.in-Run.op c.in-Run.task)) late c.report.ensures.reported.0)
          (subst (λ (b : Bool). KeepsFault (report_kind b r) r v.state) late c.report.ensures.reported.1);
      tried = tried_more yard first t u v old (k, l) c.in-Run.op c.in-Run.task c.loop-op.invariant.ran c.in-Run.ensures.answer.0 r
          (subst (λ (p : PlanView). Tried p c.in-Run.op c.in-Run.task yard (k, l) r) (sym c.requires.plan) c.try_in_yard-ended.ensures.tried)
          (subst (λ (b : Bool). Goes u v (end_of (report_kind b r) 0 c.in-Run.op c.in-Run.task)) late c.report.ensures.reported.0) c.loop-op.invariant.tried;
    }

pub unreachable-requires : goal.unreachable-requires
unreachable-requires g c =
    let t = c.loop-op.table in
    c.in-Idle.ensures.answer.2
    (c.alone_law.ensures t.settings t.done t.history t.state c.claim.ensures.sound c.loop-op.invariant.ran.legal c.loop-op.invariant.ran.resting c.in-Idle.ensures.answer.3.0)

pub returns-in-Finished-clause-own : goal.returns-in-Finished-clause-own
returns-in-Finished-clause-own g c = c.loop-op.invariant.own

pub returns-in-Finished-clause-ran : goal.returns-in-Finished-clause-ran
returns-in-Finished-clause-ran g c =
    subst (λ (x : TableView). HasRun (g.Y.Yard.serves c.args.yard.now) c.args.table.now x (g.Y.Yard.knows c.args.pass.now) (g.Y.Yard.knows c.loop-op.pass)) (sym c.in-Finished.ensures.answer.0)
    c.loop-op.invariant.ran

pub returns-in-Broken-clause-own : goal.returns-in-Broken-clause-own
returns-in-Broken-clause-own g c = c.loop-op.invariant.own

pub returns-in-Broken-clause-ran : goal.returns-in-Broken-clause-ran
returns-in-Broken-clause-ran g c =
    subst (λ (x : TableView). HasRun (g.Y.Yard.serves c.args.yard.now) c.args.table.now x (g.Y.Yard.knows c.args.pass.now) (g.Y.Yard.knows c.loop-op.pass)) (sym c.in-Broken.ensures.answer.0)
    c.loop-op.invariant.ran

pub returns-in-Halted-clause-own : goal.returns-in-Halted-clause-own
returns-in-Halted-clause-own g c = c.loop-op.invariant.own

pub returns-in-Halted-clause-ran : goal.returns-in-Halted-clause-ran
returns-in-Halted-clause-ran g c =
    subst (λ (x : TableView). HasRun (g.Y.Yard.serves c.args.yard.now) c.args.table.now x (g.Y.Yard.knows c.args.pass.now) (g.Y.Yard.knows c.loop-op.pass)) (sym c.in-Halted.ensures.answer.0)
    c.loop-op.invariant.ran

pub returns-in-Finished-clause-decided : goal.returns-in-Finished-clause-decided
returns-in-Finished-clause-decided g c =
    let t = c.loop-op.table in
    finished_decided c.args.plan.now t c.claim.new.self
    (subst (λ (s : Settings). s.plan ≡ c.args.plan.now) (sym c.loop-op.invariant.ran.settings) c.requires.plan) c.in-Finished.ensures.answer.0 c.in-Finished.ensures.answer.1
    c.in-Finished.ensures.answer.2

pub returns-in-Halted-clause-decided : goal.returns-in-Halted-clause-decided
returns-in-Halted-clause-decided g c =
    halted_decided c.args.plan.now c.args.table.now.settings.plan (g.Y.Yard.serves c.args.yard.now) (shown_by (g.Y.Yard.knows c.loop-op.pass)) c.loop-op.table c.claim.new.self c.in-Halted.fault
    c.halt_outcome.result c.halt_outcome.ensures c.in-Halted.ensures.answer.0 (c.loop-op.invariant.ran.cause c.in-Halted.fault c.in-Halted.ensures.answer.1) c.in-Halted.ensures.answer.1

pub returns-in-Finished-clause-tries : goal.returns-in-Finished-clause-tries
returns-in-Finished-clause-tries g c =
    tried_calls c.args.table.now c.loop-op.table (g.Y.Yard.knows c.args.pass.now) (g.Y.Yard.knows c.loop-op.pass) c.args.plan.now c.requires.plan c.loop-op.invariant.tried

pub returns-in-Broken-clause-tries : goal.returns-in-Broken-clause-tries
returns-in-Broken-clause-tries g c =
    tried_calls c.args.table.now c.loop-op.table (g.Y.Yard.knows c.args.pass.now) (g.Y.Yard.knows c.loop-op.pass) c.args.plan.now c.requires.plan c.loop-op.invariant.tried

pub returns-in-Halted-clause-tries : goal.returns-in-Halted-clause-tries
returns-in-Halted-clause-tries g c =
    tried_calls c.args.table.now c.loop-op.table (g.Y.Yard.knows c.args.pass.now) (g.Y.Yard.knows c.loop-op.pass) c.args.plan.now c.requires.plan c.loop-op.invariant.tried

pub returns-in-Finished-clause-workers : goal.returns-in-Finished-clause-workers
returns-in-Finished-clause-workers g c =
    tried_workers c.args.table.now c.loop-op.table c.claim.new.self (g.Y.Yard.knows c.args.pass.now) (g.Y.Yard.knows c.loop-op.pass) c.in-Finished.ensures.answer.0 c.loop-op.invariant.tried

pub returns-in-Broken-clause-workers : goal.returns-in-Broken-clause-workers
returns-in-Broken-clause-workers g c =
    tried_workers c.args.table.now c.loop-op.table c.claim.new.self (g.Y.Yard.knows c.args.pass.now) (g.Y.Yard.knows c.loop-op.pass) c.in-Broken.ensures.answer.0 c.loop-op.invariant.tried

pub returns-in-Halted-clause-workers : goal.returns-in-Halted-clause-workers
returns-in-Halted-clause-workers g c =
    tried_workers c.args.table.now c.loop-op.table c.claim.new.self (g.Y.Yard.knows c.args.pass.now) (g.Y.Yard.knows c.loop-op.pass) c.in-Halted.ensures.answer.0 c.loop-op.invariant.tried
