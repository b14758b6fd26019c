use Rattle.std.proofs.Common.{◌≡◌, ℕ, ◌<◌, ◌≤◌, List, map, length, ap, refl, sym, ◌∙◌, subst, rules, arith, ne_eqb}
use Rattle.std.specs.Prelude.{slice_index_or, sum_by}
use Rattle.cu_store.specs.Yard.{Known}
use Rattle.cu_op.specs.PlanView.{PlanView}
use Rattle.cu_table.specs.Table.{TableView}
use Rattle.cu_lock.specs.Rule.{AllBelow, IsKnownFront}
use Rattle.cu_board.specs.Board.{IsLegal, halted_fault}
use Rattle.cu_board.specs.Views.{SeatAt}
use Rattle.cu_work.specs.Alone.{IsDecided}
use Rattle.cu_history.specs.declared.entry.Entry.{Entry}
use Rattle.cu_table.specs.Step.{Settings}
use Rattle.cu_work.specs.Starts.{IsOfWorkers, started_calls}
use Rattle.cu_work.specs.Workers.{AreWorkersOf, AreNumbered, HaveCounted, HaveRooms, HasWorked, TookIn, front_of}
use Rattle.cu_work.proofs.Crews.{each_at}
use Rattle.cu_work.proofs.OwnCounts.{calls_in_all, failures_in_all}
use Rattle.cu_work.proofs.Started.{of_several}
use Rattle.cu_work.specs.declared.worker.Worker.{Worker}
use Rattle.cu_work.proofs.Worked.{written_back, nobody_left, first_decides, board_worked, untouched}
use Rattle.cu_work.proofs.together.work_at_board.Goals as goal

pub returns-in-Err-hire-clause-refused : goal.returns-in-Err-hire-clause-refused
returns-in-Err-hire-clause-refused g c =
    let ok = c.in-Ok.ensures.ok in
    let e = c.in-Err-hire.ensures in
    let t = c.close-table.result.0 in
    let root : c.hire.new.root ≡ _ = e.refused.1 ∙ ok.2 in (
      untouched g.Y.Yard.knows g.Y.Yard.owns c.in-Ok.made.0.table c.in-Ok.made.0.pass t c.close-table.result.1 c.close-table.ensures.state
          (subst IsLegal (sym ok.0) c.history-history.ensures.legal) (ap (λ (x : TableView). x.history) ok.0 ∙ c.requires.fresh)
          (subst (λ (s : SeatAt). AllBelow s.view.number t.history) root c.close-table.ensures.below)
          ∙ ok.0,
      e.refused.0,
      e.same ∙ c.split-first.ensures.first,
    )

pub drive-outcome-requires-clause-workers : goal.drive-outcome-requires-clause-workers
drive-outcome-requires-clause-workers g c κs within =
    subst (AreWorkersOf g.Y.Yard.owns c.args.yard.now c.in-Ok.made.0.board) (sym c.deref_mut.ensures.value) c.in-Ok-hire.ensures.workers.0

pub drive-outcome-requires-clause-numbers : goal.drive-outcome-requires-clause-numbers
drive-outcome-requires-clause-numbers g c κs within = subst AreNumbered (sym c.deref_mut.ensures.value) c.in-Ok-hire.ensures.numbers

pub drive-outcome-requires-clause-rooms : goal.drive-outcome-requires-clause-rooms
drive-outcome-requires-clause-rooms g c κs within =
    subst (HaveRooms c.args.plan.now) (sym c.deref_mut.ensures.value) (c.in-Ok-hire.ensures.rooms c.args.plan.now c.requires.rooms)

pub drive-outcome-requires-clause-counted : goal.drive-outcome-requires-clause-counted
drive-outcome-requires-clause-counted g c κs within =
    subst (HaveCounted g.Y.Yard.knows c.args.plan.now) (sym c.deref_mut.ensures.value) (c.in-Ok-hire.ensures.counted c.args.plan.now)

pub dismiss-table-requires-clause-workers : goal.dismiss-table-requires-clause-workers
dismiss-table-requires-clause-workers g c κs within =
    let ws = c.drive-outcome.new.workers in
    let items = c.in-Ok-hire.workers.items in
    let len : length items ≡ c.in-Ok-hire.workers.len = search rules in
    subst (AreWorkersOf g.Y.Yard.owns c.args.yard.now c.in-Ok.made.0.board)
    (sym (written_back ws items c.in-Ok-hire.workers.len (c.drive-outcome.ensures.count ∙ ap length c.deref_mut.ensures.value) (sym len)))
    c.drive-outcome.ensures.workers

pub join-requires : goal.join-requires
join-requires g c =
    (c.dismiss-table.ensures.own, c.dismiss-table.ensures.state.yard c.args.yard.now (subst (g.Y.Yard.owns c.args.yard.now) (sym c.in-Ok.ensures.ok.1) c.split-first.ensures.own.1))

pub returns-clause-worked : goal.returns-clause-worked
returns-clause-worked g c =
    let ok = c.in-Ok.ensures.ok in
    let d = c.dismiss-table.ensures in
    let t = c.dismiss-table.result.0 in
    let last = c.dismiss-table.result.1 in
    let ws = c.drive-outcome.new.workers in
    let items = c.in-Ok-hire.workers.items in
    let len : length items ≡ c.in-Ok-hire.workers.len = search rules in
    let count : length ws ≡ length items = c.drive-outcome.ensures.count ∙ ap length c.deref_mut.ensures.value in
    let same = written_back ws items c.in-Ok-hire.workers.len count (sym len) in
    let fronts : (i : ℕ) (v : Worker g.row.Y.Denot g.row.Y-Pass.Denot) → i < length ws → IsKnownFront t.history (halted_fault t.state.ended) (front_of (slice_index_or ws i v).seat) =
    λ i v low. subst (λ (l : List (Worker g.row.Y.Denot g.row.Y-Pass.Denot)). IsKnownFront t.history (halted_fault t.state.ended) (front_of (slice_index_or l i v).seat)) same
    (d.fronts i v (subst (λ (k : ℕ). i < k) (count ∙ len) low)) in
    let resting = nobody_left g.Y.Yard.owns c.args.yard.now c.in-Ok.made.0.board ws c.drive-outcome.ensures.workers t fronts (subst (λ (k : ℕ). AllBelow k t.history) (sym (count ∙ len)) d.below)
    (λ w. c.own_law.ensures.running t.settings t.done t.history t.state w d.state.legal) in
    let owned = d.state.yard c.args.yard.now (subst (g.Y.Yard.owns c.args.yard.now) (sym ok.1) c.split-first.ensures.own.1) in
    let plan = sym (ap (λ (x : TableView). x.settings.plan) ok.0 ∙ c.requires.plan) in
    let below = subst (λ (k : ℕ). AllBelow k t.history) (sym (count ∙ len)) d.below in
    let calls = calls_in_all g.Y.Yard.knows g.Y.Yard.owns c.args.yard.now c.in-Ok.made.0.board c.args.plan.now ws c.drive-outcome.ensures.workers c.drive-outcome.ensures.counted t fronts below in
    let failures = failures_in_all g.Y.Yard.knows g.Y.Yard.owns c.args.yard.now c.in-Ok.made.0.board c.args.plan.now ws c.drive-outcome.ensures.workers c.drive-outcome.ensures.counted t fronts below in
    let one = g.Y.Yard.laws.same last c.join.new.pass (g.Y.Yard.laws.one_yard c.args.yard.now last c.join.new.pass owned c.join.ensures.own) in
    subst (λ (x : TableView × Known). HasWorked (g.Y.Yard.serves c.args.yard.now) x.0 t x.1 (g.Y.Yard.knows c.join.new.pass))
    (λ i. (ok.0 i, (c.in-Ok-hire.ensures.same ∙ c.split-first.ensures.first) i))
    (board_worked g.Y.Yard.knows g.Y.Yard.owns c.in-Ok.made.0.table c.in-Ok.made.0.pass t last d.state (g.Y.Yard.serves c.args.yard.now)
    (map (λ (w : Worker g.row.Y.Denot g.row.Y-Pass.Denot). g.Y.Yard.knows w.pass) ws) (g.Y.Yard.knows c.hire.new.pass)
    (g.Y.Yard.knows c.dismiss-table.new.pass) (g.Y.Yard.knows c.join.new.pass)
    (subst (λ (l : List (Worker g.row.Y.Denot g.row.Y-Pass.Denot)). TookIn (map (λ (w : Worker g.row.Y.Denot g.row.Y-Pass.Denot). g.Y.Yard.knows w.pass) l) (g.Y.Yard.knows c.hire.new.pass)
    (g.Y.Yard.knows c.dismiss-table.new.pass)) same d.took)
    c.join.ensures.joined one resting (ap (λ (k : Known). k.calls) (ap g.Y.Yard.knows ok.1 ∙ c.split-first.ensures.second))
    (subst (λ (q : PlanView). sum_by (λ k. k.calls) (map (λ (w : Worker g.row.Y.Denot g.row.Y-Pass.Denot). g.Y.Yard.knows w.pass) ws) ≤ started_calls q t.history) plan calls) failures)

pub returns-clause-workers : goal.returns-clause-workers
returns-clause-workers g c =
    let ok = c.in-Ok.ensures.ok in
    let d = c.dismiss-table.ensures in
    let t = c.dismiss-table.result.0 in
    let s = d.state.same.0 ∙ ap (λ (x : TableView). x.settings) ok.0 in
    let len : length c.in-Ok-hire.workers.items ≡ c.in-Ok-hire.workers.len = search rules in
    let rooms = sym len ∙ c.in-Ok-hire.ensures.workers.1 in
    subst (λ (x : Settings). IsOfWorkers c.args.rooms.len x t.history) s
    (of_several c.args.rooms.len (ne_eqb c.args.rooms.len 1 c.requires.several) t.settings t.done t.history t.state d.state.legal
    (λ k e low. each_at (λ (x : Entry). x.worker < c.args.rooms.len) t.history k e low (subst (λ (n : ℕ). AllBelow n t.history) rooms d.below)))

pub returns-clause-decided : goal.returns-clause-decided
returns-clause-decided g c =
    let ok = c.in-Ok.ensures.ok in
    let d = c.dismiss-table.ensures in
    let t = c.dismiss-table.result.0 in
    let ws = c.drive-outcome.new.workers in
    let items = c.in-Ok-hire.workers.items in
    let len : length items ≡ c.in-Ok-hire.workers.len = search rules in
    let count : length ws ≡ length items = c.drive-outcome.ensures.count ∙ ap length c.deref_mut.ensures.value in
    let same = written_back ws items c.in-Ok-hire.workers.len count (sym len) in
    let fronts : (i : ℕ) (v : Worker g.row.Y.Denot g.row.Y-Pass.Denot) → i < length ws → IsKnownFront t.history (halted_fault t.state.ended) (front_of (slice_index_or ws i v).seat) =
    λ i v low. subst (λ (l : List (Worker g.row.Y.Denot g.row.Y-Pass.Denot)). IsKnownFront t.history (halted_fault t.state.ended) (front_of (slice_index_or l i v).seat)) same
    (d.fronts i v (subst (λ (k : ℕ). i < k) (count ∙ len) low)) in
    let some : 0 < length ws =
    let many = c.in-Ok-hire.ensures.workers.1 in
    let any = c.requires.some in
    omega (arith, count, many, any) in
    subst (λ (p : PlanView). IsDecided p t.state c.drive-outcome.result) (ap (λ (x : TableView). x.settings.plan) ok.0 ∙ c.requires.plan)
    (subst (λ (p : PlanView). IsDecided p t.state c.drive-outcome.result) (ap (λ s. s.plan) d.state.same.0)
    (first_decides g.Y.Yard.owns c.args.yard.now c.in-Ok.made.0.board ws c.drive-outcome.ensures.workers t fronts g.Y.Yard.knows c.in-Ok.made.0.table c.drive-outcome.result some
    c.outcome_law.ensures (λ i v low. c.drive-outcome.ensures.ended i v (subst (λ (k : ℕ). i < k) c.drive-outcome.ensures.count low)) c.drive-outcome.ensures.answer d.state.same d.state.legal))

pub returns-clause-own : goal.returns-clause-own
returns-clause-own g c = c.join.ensures.own

pub returns-clause-refused : goal.returns-clause-refused
returns-clause-refused g c = tt

pub returns-in-Err-hire-clause-own : goal.returns-in-Err-hire-clause-own
returns-in-Err-hire-clause-own g c = c.hire.ensures.own

pub returns-in-Err-hire-clause-worked : goal.returns-in-Err-hire-clause-worked
returns-in-Err-hire-clause-worked g c = tt

pub returns-in-Err-hire-clause-workers : goal.returns-in-Err-hire-clause-workers
returns-in-Err-hire-clause-workers g c = tt

pub returns-in-Err-hire-clause-decided : goal.returns-in-Err-hire-clause-decided
returns-in-Err-hire-clause-decided g c = tt

pub returns-in-Err-clause-own : goal.returns-in-Err-clause-own
returns-in-Err-clause-own g c = c.split-first.ensures.own.0

pub returns-in-Err-clause-worked : goal.returns-in-Err-clause-worked
returns-in-Err-clause-worked g c = tt

pub returns-in-Err-clause-workers : goal.returns-in-Err-clause-workers
returns-in-Err-clause-workers g c = tt

pub returns-in-Err-clause-decided : goal.returns-in-Err-clause-decided
returns-in-Err-clause-decided g c = tt

pub returns-in-Err-clause-refused : goal.returns-in-Err-clause-refused
returns-in-Err-clause-refused g c = (c.in-Err.ensures.err.0, refl, c.split-first.ensures.first)

pub split-first-requires : goal.split-first-requires
split-first-requires g c = c.requires.own

pub hire-requires-clause-own : goal.hire-requires-clause-own
hire-requires-clause-own g c κs within = c.split-first.ensures.own.0

pub hire-requires-clause-few : goal.hire-requires-clause-few
hire-requires-clause-few g c κs within = c.requires.few

pub hire-requires-clause-root : goal.hire-requires-clause-root
hire-requires-clause-root g c κs within = c.in-Ok.ensures.ok.2

pub drive-outcome-requires-clause-plan : goal.drive-outcome-requires-clause-plan
drive-outcome-requires-clause-plan g c κs within = ap (λ (x : TableView). x.settings.plan) c.in-Ok.ensures.ok.0 ∙ c.requires.plan

pub drive-outcome-requires-clause-own : goal.drive-outcome-requires-clause-own
drive-outcome-requires-clause-own g c κs within = subst (g.Y.Yard.owns c.args.yard.now) (sym c.in-Ok.ensures.ok.1) c.split-first.ensures.own.1

pub drive-outcome-requires-clause-serves : goal.drive-outcome-requires-clause-serves
drive-outcome-requires-clause-serves g c κs within = c.requires.serves

pub dismiss-table-requires-clause-own : goal.dismiss-table-requires-clause-own
dismiss-table-requires-clause-own g c κs within = c.hire.ensures.own
