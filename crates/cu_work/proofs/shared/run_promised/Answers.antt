use Rattle.std.proofs.Common.{◌≡◌, ◌≤◌, ℕ, Bool, IsTrue, All, ◌+◌, ap, sym, ◌∙◌, refl, subst, arith}
use Rattle.std.specs.Prelude.{min}
use Rattle.std.proofs.lemmas.List.Elements.{All-replicate}
use Rattle.cu_store.specs.Faults.{last_count}
use Rattle.cu_work.proofs.SharedCalls.{shared_once, calls_started, calls_by_starts, calls_of_all}
use Rattle.cu_work.specs.Rooms.{RoomSizes, rooms_of}
use Rattle.cu_store.specs.Share.{Lent, KeysDiffer, MayShare, IsShared, MayGiveBack, PutPromised, HoldsSeen}
use Rattle.cu_store.specs.Steps.{Steps}
use Rattle.cu_run_law.specs.Pieces.{chunks_alone}
use Rattle.cu_table.specs.Machine.{Machine}
use Rattle.cu_table.specs.Table.{TableView}
use Rattle.cu_op.specs.PlanView.{PlanView}
use Rattle.cu_work.specs.Alone.{HasSeenDone, IsDecided}
use Rattle.cu_work.specs.Shared.{IfLacked, most_copies, worker_count}
use Rattle.cu_work.proofs.Lent.{few_workers, rooms_many, some_workers}
use Rattle.cu_work.proofs.Started.{of_fewer}
use Rattle.cu_work.proofs.PlanChunks.{chunks_apart, specs_differ}
use Rattle.cu_work.proofs.SharedRuns.{lent_is, may_share, serves, seen_first, may_give_back, shared_step, shared_done, shared_bad, shared_input, shared_lacked}
use Rattle.cu_store.proofs.Steps.{steps_none, steps_wider}
use Rattle.cu_work.proofs.shared.run_promised.Goals as goal

-- the calls to share, and those of a pass that began with none
few_calls : (start mid new first last tries tasks : ℕ) → mid ≤ start + tries → first ≡ 0 → last ≤ first + tasks → new ≤ mid + last → new ≤ start + tries + tasks
few_calls start mid new first last tries tasks shared none ran back = omega arith

-- those to share alone
some_calls : (start new tries tasks : ℕ) → new ≤ start + tries → new ≤ start + tries + tasks
some_calls start new tries tasks few = omega (arith, few)

-- the failures of the tasks are counted by the depot
failures_counted : (n start mid new first last : ℕ) → start ≤ mid → first ≡ 0 → min (first + n) last_count ≤ last → new ≡ min (mid + last) last_count → min (start + n) last_count ≤ new
failures_counted n start mid new first last shared none rose back = omega arith

pub share_tries-requires-clause-apart : goal.share_tries-requires-clause-apart
share_tries-requires-clause-apart g c κs within =
    subst KeysDiffer (sym (c.deref.ensures.value ∙ c.requires.memory.specs)) (specs_differ c.args.plan.now (chunks_apart (chunks_alone c.args.plan.now) c.requires.apart c.requires.inputs))

pub share_tries-requires-clause-may : goal.share_tries-requires-clause-may
share_tries-requires-clause-may g c κs within =
    let start = g.D.PutStore.shown c.args.depot.now in
    subst (λ (l : Lent). MayShare l start)
    (lent_is c.args.plan.now start.held c.deref.result.now c.make-promise.result.map (c.deref.ensures.value ∙ c.requires.memory.specs) (c.make-promise.ensures ∙ c.requires.names))
    (may_share c.args.plan.now c.ops-sound.ensures.sound c.requires.apart c.requires.inputs start c.requires.open)

pub work-end-requires-clause-serves : goal.work-end-requires-clause-serves
work-end-requires-clause-serves g c κs within =
    let start = g.D.PutStore.shown c.args.depot.now in
    let mid = g.D.PutStore.shown c.share_tries.new.depot in
    let yard = g.D.Yard.Yard.serves c.in-Ok.yard in
    let first = g.D.Yard.Yard.knows c.in-Ok.pass in
    let wants = g.D.SharedStore.yards_lack c.args.depot.now in
    serves c.args.plan.now c.ops-sound.ensures.sound c.requires.apart c.requires.inputs start c.requires.open (c.args.options.now.retries + 1) mid c.share_tries.ensures.step wants yard first
    (subst (λ (l : Lent). IsShared l wants mid yard first)
    (sym (lent_is c.args.plan.now start.held c.deref.result.now c.make-promise.result.map (c.deref.ensures.value ∙ c.requires.memory.specs) (c.make-promise.ensures ∙ c.requires.names)))
    c.in-Ok.ensures.shared)

pub work-end-requires-clause-seen : goal.work-end-requires-clause-seen
work-end-requires-clause-seen g c κs within =
    let start = g.D.PutStore.shown c.args.depot.now in
    let mid = g.D.PutStore.shown c.share_tries.new.depot in
    let yard = g.D.Yard.Yard.serves c.in-Ok.yard in
    let first = g.D.Yard.Yard.knows c.in-Ok.pass in
    let wants = g.D.SharedStore.yards_lack c.args.depot.now in
    subst (λ (m : Machine). HasSeenDone c.args.plan.now m first.seen) (sym (ap (λ (t : TableView). t.state) c.requires.memory.table))
    (seen_first c.args.plan.now c.ops-sound.ensures.sound c.requires.apart c.requires.inputs start c.requires.open (c.args.options.now.retries + 1) mid c.share_tries.ensures.step wants yard first
    (subst (λ (l : Lent). IsShared l wants mid yard first)
    (sym (lent_is c.args.plan.now start.held c.deref.result.now c.make-promise.result.map (c.deref.ensures.value ∙ c.requires.memory.specs) (c.make-promise.ensures ∙ c.requires.names)))
    c.in-Ok.ensures.shared)
    c.args.memory.table.done c.requires.found)

pub unshare-requires-clause-may : goal.unshare-requires-clause-may
unshare-requires-clause-may g c =
    let start = g.D.PutStore.shown c.args.depot.now in
    let mid = g.D.PutStore.shown c.share_tries.new.depot in
    let yard = g.D.Yard.Yard.serves c.in-Ok.yard in
    let first = g.D.Yard.Yard.knows c.in-Ok.pass in
    let last = g.D.Yard.Yard.knows c.work-end.new.pass in
    let wants = g.D.SharedStore.yards_lack c.args.depot.now in
    let same = lent_is c.args.plan.now start.held c.deref.result.now c.make-promise.result.map (c.deref.ensures.value ∙ c.requires.memory.specs) (c.make-promise.ensures ∙ c.requires.names) in
    subst (λ (l : Lent). MayGiveBack l mid yard last) (same ∙ sym c.in-Ok.ensures.lent)
    (may_give_back c.args.plan.now c.ops-sound.ensures.sound c.requires.apart c.requires.inputs start c.requires.open (c.args.options.now.retries + 1) mid c.share_tries.ensures.step wants yard first
    (subst (λ (l : Lent). IsShared l wants mid yard first) (sym same) c.in-Ok.ensures.shared)
    c.args.memory.table c.work-end.result.table last (ap (λ (t : TableView). t.settings.plan) c.requires.memory.table) c.work-end.ensures.worked)

pub returns-in-Ok-clause-step : goal.returns-in-Ok-clause-step
returns-in-Ok-clause-step g c =
    let start = g.D.PutStore.shown c.args.depot.now in
    let mid = g.D.PutStore.shown c.share_tries.new.depot in
    let new = g.D.PutStore.shown c.unshare.new.self in
    let yard = g.D.Yard.Yard.serves c.in-Ok.yard in
    let first = g.D.Yard.Yard.knows c.in-Ok.pass in
    let last = g.D.Yard.Yard.knows c.work-end.new.pass in
    let wants = g.D.SharedStore.yards_lack c.args.depot.now in
    let same = lent_is c.args.plan.now start.held c.deref.result.now c.make-promise.result.map (c.deref.ensures.value ∙ c.requires.memory.specs) (c.make-promise.ensures ∙ c.requires.names) in
    let lent = c.in-Ok.ensures.lent ∙ sym same in
    shared_step c.args.plan.now c.ops-sound.ensures.sound c.requires.apart c.requires.inputs start c.requires.open (c.args.options.now.retries + 1) mid c.share_tries.ensures.step wants yard first
    (subst (λ (l : Lent). IsShared l wants mid yard first) (sym same) c.in-Ok.ensures.shared)
    c.args.memory.table c.work-end.result.table last (ap (λ (t : TableView). t.settings.plan) c.requires.memory.table) c.work-end.ensures.worked new
    (subst (λ (l : Lent). Steps (PutPromised l) 0 last.calls mid new) lent c.unshare.ensures.step) (subst (λ (l : Lent). HoldsSeen l last.seen new.held) lent c.unshare.ensures.held) c.unshare.ensures.counts

pub returns-in-Ok-clause-done : goal.returns-in-Ok-clause-done
returns-in-Ok-clause-done g c =
    let start = g.D.PutStore.shown c.args.depot.now in
    let mid = g.D.PutStore.shown c.share_tries.new.depot in
    let new = g.D.PutStore.shown c.unshare.new.self in
    let yard = g.D.Yard.Yard.serves c.in-Ok.yard in
    let first = g.D.Yard.Yard.knows c.in-Ok.pass in
    let last = g.D.Yard.Yard.knows c.work-end.new.pass in
    let wants = g.D.SharedStore.yards_lack c.args.depot.now in
    let same = lent_is c.args.plan.now start.held c.deref.result.now c.make-promise.result.map (c.deref.ensures.value ∙ c.requires.memory.specs) (c.make-promise.ensures ∙ c.requires.names) in
    let lent = c.in-Ok.ensures.lent ∙ sym same in
    shared_done c.args.plan.now c.ops-sound.ensures.sound c.requires.apart c.requires.inputs start c.requires.open (c.args.options.now.retries + 1) mid c.share_tries.ensures.step wants yard first
    (subst (λ (l : Lent). IsShared l wants mid yard first) (sym same) c.in-Ok.ensures.shared)
    c.args.memory.table c.work-end.result.table last (ap (λ (t : TableView). t.settings.plan) c.requires.memory.table) c.work-end.ensures.worked new
    (subst (λ (l : Lent). Steps (PutPromised l) 0 last.calls mid new) lent c.unshare.ensures.step) (subst (λ (l : Lent). HoldsSeen l last.seen new.held) lent c.unshare.ensures.held) c.unshare.ensures.counts
    (g.D.Yard.Yard.laws.fits c.in-Ok.yard c.work-end.new.pass c.work-end.ensures.own)

pub returns-in-Ok-clause-bad : goal.returns-in-Ok-clause-bad
returns-in-Ok-clause-bad g c =
    let start = g.D.PutStore.shown c.args.depot.now in
    let mid = g.D.PutStore.shown c.share_tries.new.depot in
    let new = g.D.PutStore.shown c.unshare.new.self in
    let yard = g.D.Yard.Yard.serves c.in-Ok.yard in
    let first = g.D.Yard.Yard.knows c.in-Ok.pass in
    let last = g.D.Yard.Yard.knows c.work-end.new.pass in
    let wants = g.D.SharedStore.yards_lack c.args.depot.now in
    let same = lent_is c.args.plan.now start.held c.deref.result.now c.make-promise.result.map (c.deref.ensures.value ∙ c.requires.memory.specs) (c.make-promise.ensures ∙ c.requires.names) in
    let lent = c.in-Ok.ensures.lent ∙ sym same in
    shared_bad c.args.plan.now c.ops-sound.ensures.sound c.requires.apart c.requires.inputs start c.requires.open (c.args.options.now.retries + 1) mid c.share_tries.ensures.step wants yard first
    (subst (λ (l : Lent). IsShared l wants mid yard first) (sym same) c.in-Ok.ensures.shared)
    c.args.memory.table c.work-end.result.table last (ap (λ (t : TableView). t.settings.plan) c.requires.memory.table) c.work-end.ensures.worked new
    (subst (λ (l : Lent). Steps (PutPromised l) 0 last.calls mid new) lent c.unshare.ensures.step) (subst (λ (l : Lent). HoldsSeen l last.seen new.held) lent c.unshare.ensures.held) c.unshare.ensures.counts (g.D.Yard.Yard.laws.fits c.in-Ok.yard c.work-end.new.pass c.work-end.ensures.own) c.work-end.result.outcome c.work-end.ensures.decided

pub returns-in-Ok-clause-input : goal.returns-in-Ok-clause-input
returns-in-Ok-clause-input g c =
    let start = g.D.PutStore.shown c.args.depot.now in
    let mid = g.D.PutStore.shown c.share_tries.new.depot in
    let new = g.D.PutStore.shown c.unshare.new.self in
    let yard = g.D.Yard.Yard.serves c.in-Ok.yard in
    let first = g.D.Yard.Yard.knows c.in-Ok.pass in
    let last = g.D.Yard.Yard.knows c.work-end.new.pass in
    let wants = g.D.SharedStore.yards_lack c.args.depot.now in
    let same = lent_is c.args.plan.now start.held c.deref.result.now c.make-promise.result.map (c.deref.ensures.value ∙ c.requires.memory.specs) (c.make-promise.ensures ∙ c.requires.names) in
    let lent = c.in-Ok.ensures.lent ∙ sym same in
    shared_input c.args.plan.now c.ops-sound.ensures.sound c.requires.apart c.requires.inputs start c.requires.open (c.args.options.now.retries + 1) mid c.share_tries.ensures.step wants yard first
    (subst (λ (l : Lent). IsShared l wants mid yard first) (sym same) c.in-Ok.ensures.shared)
    c.args.memory.table c.work-end.result.table last (ap (λ (t : TableView). t.settings.plan) c.requires.memory.table) c.work-end.ensures.worked new
    (subst (λ (l : Lent). Steps (PutPromised l) 0 last.calls mid new) lent c.unshare.ensures.step) (subst (λ (l : Lent). HoldsSeen l last.seen new.held) lent c.unshare.ensures.held) c.unshare.ensures.counts (g.D.Yard.Yard.laws.fits c.in-Ok.yard c.work-end.new.pass c.work-end.ensures.own) c.work-end.result.outcome c.work-end.ensures.decided

pub returns-in-Ok-clause-lacked : goal.returns-in-Ok-clause-lacked
returns-in-Ok-clause-lacked g c =
    let start = g.D.PutStore.shown c.args.depot.now in
    let mid = g.D.PutStore.shown c.share_tries.new.depot in
    let new = g.D.PutStore.shown c.unshare.new.self in
    let yard = g.D.Yard.Yard.serves c.in-Ok.yard in
    let first = g.D.Yard.Yard.knows c.in-Ok.pass in
    let last = g.D.Yard.Yard.knows c.work-end.new.pass in
    let wants = g.D.SharedStore.yards_lack c.args.depot.now in
    let same = lent_is c.args.plan.now start.held c.deref.result.now c.make-promise.result.map (c.deref.ensures.value ∙ c.requires.memory.specs) (c.make-promise.ensures ∙ c.requires.names) in
    let lent = c.in-Ok.ensures.lent ∙ sym same in
    subst (λ (b : Bool). IfLacked c.work-end.result.outcome (IsTrue b)) (sym (c.unshare.ensures.lack ∙ c.share_tries.ensures.lack))
    (shared_lacked c.args.plan.now c.ops-sound.ensures.sound c.requires.apart c.requires.inputs start c.requires.open (c.args.options.now.retries + 1) mid c.share_tries.ensures.step wants yard first
    (subst (λ (l : Lent). IsShared l wants mid yard first) (sym same) c.in-Ok.ensures.shared)
    c.args.memory.table c.work-end.result.table last (ap (λ (t : TableView). t.settings.plan) c.requires.memory.table) c.work-end.ensures.worked new
    (subst (λ (l : Lent). Steps (PutPromised l) 0 last.calls mid new) lent c.unshare.ensures.step) (subst (λ (l : Lent). HoldsSeen l last.seen new.held) lent c.unshare.ensures.held) c.unshare.ensures.counts c.work-end.result.outcome c.work-end.ensures.decided)

pub returns-in-Ok-clause-lack : goal.returns-in-Ok-clause-lack
returns-in-Ok-clause-lack g c = c.unshare.ensures.lack ∙ c.share_tries.ensures.lack

pub returns-in-Ok-clause-refused : goal.returns-in-Ok-clause-refused
returns-in-Ok-clause-refused g c = tt

pub returns-in-Ok-clause-cause : goal.returns-in-Ok-clause-cause
returns-in-Ok-clause-cause g c = tt

pub returns-in-Err-clause-lack : goal.returns-in-Err-clause-lack
returns-in-Err-clause-lack g c = c.share_tries.ensures.lack

pub returns-in-Err-clause-step : goal.returns-in-Err-clause-step
returns-in-Err-clause-step g c = steps_none (steps_wider (λ key value none. none) (omega arith) (omega arith) c.share_tries.ensures.step)

pub returns-in-Err-clause-driven : goal.returns-in-Err-clause-driven
returns-in-Err-clause-driven g c = tt

pub returns-in-Err-clause-done : goal.returns-in-Err-clause-done
returns-in-Err-clause-done g c = λ env left. tt

pub returns-in-Err-clause-bad : goal.returns-in-Err-clause-bad
returns-in-Err-clause-bad g c = tt

pub returns-in-Err-clause-input : goal.returns-in-Err-clause-input
returns-in-Err-clause-input g c = λ env left. tt

pub returns-in-Err-clause-lacked : goal.returns-in-Err-clause-lacked
returns-in-Err-clause-lacked g c = tt

pub returns-in-Err-clause-tries : goal.returns-in-Err-clause-tries
returns-in-Err-clause-tries g c = λ m most. tt

pub returns-in-Err-clause-refused : goal.returns-in-Err-clause-refused
returns-in-Err-clause-refused g c = c.share_tries.ensures.step

pub returns-in-Err-clause-cause : goal.returns-in-Err-clause-cause
returns-in-Err-clause-cause g c = c.in-Err.ensures.cause

pub work-end-requires-clause-own : goal.work-end-requires-clause-own
work-end-requires-clause-own g c κs within = c.in-Ok.ensures.own

pub work-end-requires-clause-some : goal.work-end-requires-clause-some
work-end-requires-clause-some g c κs within =
    let o = c.args.options.now in
    let d = c.args.memory.table.done in
    some_workers o.workers (most_copies o.backups d) c.args.memory.rooms.len c.requires.workers
    (rooms_many (worker_count o d) c.args.memory.rooms.len (rooms_of c.args.plan.now) c.args.memory.rooms.items c.args.memory.rooms.ok.0 c.requires.memory.rooms)

pub work-end-requires-clause-few : goal.work-end-requires-clause-few
work-end-requires-clause-few g c κs within =
    let o = c.args.options.now in
    let d = c.args.memory.table.done in
    let len = rooms_many (worker_count o d) c.args.memory.rooms.len (rooms_of c.args.plan.now) c.args.memory.rooms.items c.args.memory.rooms.ok.0 c.requires.memory.rooms in
    let few = few_workers o.workers (most_copies o.backups d) c.args.memory.rooms.len len in
    omega (arith, few)

pub work-end-requires-clause-rooms : goal.work-end-requires-clause-rooms
work-end-requires-clause-rooms g c κs within = subst (All (λ (r : RoomSizes). r ≡ rooms_of c.args.plan.now)) (sym c.requires.memory.rooms)
    (All-replicate (λ (r : RoomSizes). r ≡ rooms_of c.args.plan.now) (worker_count c.args.options.now c.args.memory.table.done) (rooms_of c.args.plan.now) refl)

pub work-end-requires-clause-plan : goal.work-end-requires-clause-plan
work-end-requires-clause-plan g c κs within = ap (λ (t : TableView). t.settings.plan) c.requires.memory.table

pub work-end-requires-clause-fresh : goal.work-end-requires-clause-fresh
work-end-requires-clause-fresh g c κs within = ap (λ (t : TableView). t.history) c.requires.memory.table

pub unshare-requires-clause-own : goal.unshare-requires-clause-own
unshare-requires-clause-own g c = c.work-end.ensures.own

pub returns-in-Ok-clause-driven : goal.returns-in-Ok-clause-driven
returns-in-Ok-clause-driven g c =
    let w = c.work-end.ensures.worked in
    record {
      settings = w.settings;
      done = w.done;
      legal = w.legal;
      resting = w.resting;
      decided = subst (λ (p : PlanView). IsDecided p c.work-end.result.table.state c.work-end.result.outcome) (sym (ap (λ (t : TableView). t.settings.plan) c.requires.memory.table)) c.work-end.ensures.decided;
      rose = failures_counted _ _ _ _ _ _ c.share_tries.ensures.step.count c.in-Ok.ensures.shared.faults w.rose c.unshare.ensures.counts.faults;
    }

pub returns-in-Ok-clause-workers : goal.returns-in-Ok-clause-workers
returns-in-Ok-clause-workers g c =
    let o = c.args.options.now in
    let d = c.args.memory.table.done in
    let len = rooms_many (worker_count o d) c.args.memory.rooms.len (rooms_of c.args.plan.now) c.args.memory.rooms.items c.args.memory.rooms.ok.0 c.requires.memory.rooms in
    of_fewer c.args.memory.rooms.len o.workers (some_workers o.workers (most_copies o.backups d) c.args.memory.rooms.len c.requires.workers len)
    (few_workers o.workers (most_copies o.backups d) c.args.memory.rooms.len len)
    c.args.memory.table.settings c.work-end.result.table.history c.work-end.ensures.workers

pub returns-in-Ok-clause-tries : goal.returns-in-Ok-clause-tries
returns-in-Ok-clause-tries g c = λ m most.
    few_calls _ _ _ _ _ _ _ c.share_tries.ensures.step.calls.1 c.in-Ok.ensures.shared.calls
    (calls_by_starts c.args.options.now c.args.plan.now c.args.memory.table.done c.args.memory.table c.work-end.result.table c.requires.memory.table (g.D.Yard.Yard.serves c.in-Ok.yard)
    (g.D.Yard.Yard.knows c.in-Ok.pass) (g.D.Yard.Yard.knows c.work-end.new.pass) c.work-end.ensures.worked m most)
    c.unshare.ensures.step.calls.1

pub returns-in-Ok-clause-calls : goal.returns-in-Ok-clause-calls
returns-in-Ok-clause-calls g c =
    few_calls _ _ _ _ _ _ _ c.share_tries.ensures.step.calls.1 c.in-Ok.ensures.shared.calls
    (calls_of_all c.args.options.now c.args.plan.now c.args.memory.table.done c.args.memory.table c.work-end.result.table c.requires.memory.table (g.D.Yard.Yard.serves c.in-Ok.yard)
    (g.D.Yard.Yard.knows c.in-Ok.pass) (g.D.Yard.Yard.knows c.work-end.new.pass) c.work-end.ensures.worked (returns-in-Ok-clause-workers g c))
    c.unshare.ensures.step.calls.1

pub returns-in-Ok-clause-once : goal.returns-in-Ok-clause-once
returns-in-Ok-clause-once g c =
    shared_once c.args.plan.now c.work-end.result.table.history (g.D.PutStore.shown c.args.depot.now) (g.D.PutStore.shown c.share_tries.new.depot) (g.D.PutStore.shown c.unshare.new.self)
    (g.D.Yard.Yard.knows c.in-Ok.pass) (g.D.Yard.Yard.knows c.work-end.new.pass) c.share_tries.ensures.once c.in-Ok.ensures.shared.calls c.in-Ok.ensures.shared.faults
    (calls_started c.args.options.now c.args.plan.now c.args.memory.table.done c.args.memory.table c.work-end.result.table c.requires.memory.table (g.D.Yard.Yard.serves c.in-Ok.yard)
    (g.D.Yard.Yard.knows c.in-Ok.pass) (g.D.Yard.Yard.knows c.work-end.new.pass) c.work-end.ensures.worked)
    c.work-end.ensures.worked.rose c.unshare.ensures.step.calls.1 c.unshare.ensures.counts.faults

pub returns-in-Ok-clause-begun_once : goal.returns-in-Ok-clause-begun_once
returns-in-Ok-clause-begun_once g c = tt

pub returns-in-Err-clause-once : goal.returns-in-Err-clause-once
returns-in-Err-clause-once g c = tt

pub returns-in-Err-clause-begun_once : goal.returns-in-Err-clause-begun_once
returns-in-Err-clause-begun_once g c = c.share_tries.ensures.once

pub returns-in-Err-clause-workers : goal.returns-in-Err-clause-workers
returns-in-Err-clause-workers g c = tt

pub returns-in-Err-clause-calls : goal.returns-in-Err-clause-calls
returns-in-Err-clause-calls g c = some_calls _ _ _ _ c.share_tries.ensures.step.calls.1
