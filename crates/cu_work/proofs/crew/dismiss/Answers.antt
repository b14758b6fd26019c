use Rattle.std.proofs.Common.{◌≡◌, ◌∙◌, sym, ap, List, ℕ, [], ◌∷◌, ◌++◌, map, length, take, ◌-◌, append-nil, append_assoc, rules, subst, ◌<◌}
use Rattle.std.specs.Prelude.{Contains}
use Rattle.cu_lock.specs.Rule.{AllBelow, Each, IsKnownFront}
use Rattle.cu_lock.specs.declared.view.KnownFront.{KnownFront}
use Rattle.cu_board.specs.Board.{halted_fault}
use Rattle.cu_board.specs.Views.{SeatAt}
use Rattle.cu_work.specs.Workers.{AreWorkersOf, TookIn, front_of}
use Rattle.cu_work.specs.declared.worker.Worker.{Worker}
use Rattle.cu_work.proofs.Crews.{has_numbers, each_mapped, took_none, took_one, worker_behind}
use Rattle.cu_work.proofs.crew.dismiss.Goals as goal

pub loop-worker-init : goal.loop-worker-init
loop-worker-init g c = (
  ([], sym (append-nil c.args.workers.items), c.requires.root.joined, took_none (g.Y.Yard.knows c.args.pass.now)),
  c.requires.root.seat_is.0,
  c.requires.root.seat_is.1,
  c.requires.root.number,
  c.requires.own,
)

pub close-requires-clause-all : goal.close-requires-clause-all
close-requires-clause-all g c κs within =
    let inv = c.loop-worker.invariant in
    let (rest, whole, joined, took) = inv.0 in
    let e = c.in_default.ensures in
    let empty : c.loop-worker.workers.items ≡ [] = e.items ∙ append-nil c.pop.new.self.items ∙ e.rest ∙ ap (λ (n : ℕ). take (n - 1) c.loop-worker.workers.items) e.cases.0 in
    let all : c.args.workers.items ≡ rest = whole ∙ ap (λ (l : List (Worker g.row.Y.Denot g.row.Y-Pass.Denot)). l ++ rest) empty in
    let len : length c.args.workers.items ≡ c.args.workers.len = search rules in
    let crew = subst (AreWorkersOf g.Y.Yard.owns c.args.yard.now c.args.board.board) all c.requires.workers in
    λ n low. subst (λ (ks : List KnownFront). Contains (map (λ (k : KnownFront). k.number) ks) n) (sym joined)
    (has_numbers g.Y.Yard.owns c.args.yard.now c.args.board.board rest crew n
    (subst (λ (k : ℕ). n < k) (inv.3 ∙ sym len ∙ ap length all) low))

pub returns-clause-fronts : goal.returns-clause-fronts
returns-clause-fronts g c =
    let inv = c.loop-worker.invariant in
    let (rest, whole, joined, took) = inv.0 in
    let e = c.in_default.ensures in
    let empty : c.loop-worker.workers.items ≡ [] = e.items ∙ append-nil c.pop.new.self.items ∙ e.rest ∙ ap (λ (n : ℕ). take (n - 1) c.loop-worker.workers.items) e.cases.0 in
    let all : c.args.workers.items ≡ rest = whole ∙ ap (λ (l : List (Worker g.row.Y.Denot g.row.Y-Pass.Denot)). l ++ rest) empty in
    let len : length c.args.workers.items ≡ c.args.workers.len = search rules in
    let t = c.close.result.0 in
    λ i d low. each_mapped (IsKnownFront t.history (halted_fault t.state.ended)) (λ (w : Worker g.row.Y.Denot g.row.Y-Pass.Denot). front_of w.seat) c.args.workers.items i d (subst (λ (k : ℕ). i < k) (sym len) low)
    (subst (Each (IsKnownFront t.history (halted_fault t.state.ended))) (joined ∙ ap (map (λ (w : Worker g.row.Y.Denot g.row.Y-Pass.Denot). front_of w.seat)) (sym all)) c.close.ensures.joined)

pub loop-worker-preserved : goal.loop-worker-preserved
loop-worker-preserved g c =
    let inv = c.loop-worker.invariant in
    let (rest, whole, joined, took) = inv.0 in
    let w = c.in-Some.worker in
    let j = c.join.ensures in (
      (
        w ∷ rest,
        whole ∙ ap (λ (l : List (Worker g.row.Y.Denot g.row.Y-Pass.Denot)). l ++ rest) c.in-Some.ensures.items ∙ append_assoc c.pop.new.self.items (w ∷ []) rest,
        ap (λ (s : SeatAt). s.view.joined) j ∙ ap (λ (l : List KnownFront). front_of w.seat ∷ l) joined,
        took_one (map (λ (x : Worker g.row.Y.Denot g.row.Y-Pass.Denot). g.Y.Yard.knows x.pass) rest) (g.Y.Yard.knows c.args.pass.now) (g.Y.Yard.knows c.loop-worker.pass) (g.Y.Yard.knows w.pass) (g.Y.Yard.knows c.join-in-Some.new.pass) took c.join-in-Some.ensures.joined,
      ),
      ap (λ (s : SeatAt). s.board) j ∙ inv.1,
      ap (λ (s : SeatAt). s.view.root) j ∙ inv.2,
      ap (λ (s : SeatAt). s.view.number) j ∙ inv.3,
      c.join-in-Some.ensures.own,
    )

pub join-requires-clause-seat : goal.join-requires-clause-seat
join-requires-clause-seat g c κs within = (c.loop-worker.invariant.1, c.loop-worker.invariant.2)

pub join-requires-clause-other : goal.join-requires-clause-other
join-requires-clause-other g c κs within =
    let (rest, whole, joined, took) = c.loop-worker.invariant.0 in
    let w = c.in-Some.worker in
    let all = whole ∙ ap (λ (l : List (Worker g.row.Y.Denot g.row.Y-Pass.Denot)). l ++ rest) c.in-Some.ensures.items ∙ append_assoc c.pop.new.self.items (w ∷ []) rest in
    (worker_behind g.Y.Yard.owns c.args.yard.now c.args.board.board c.pop.new.self.items rest w (subst (AreWorkersOf g.Y.Yard.owns c.args.yard.now c.args.board.board) all c.requires.workers)).seat_is

pub join-requires-in-Some : goal.join-requires-in-Some
join-requires-in-Some g c =
    let (rest, whole, joined, took) = c.loop-worker.invariant.0 in
    let w = c.in-Some.worker in
    let all = whole ∙ ap (λ (l : List (Worker g.row.Y.Denot g.row.Y-Pass.Denot)). l ++ rest) c.in-Some.ensures.items ∙ append_assoc c.pop.new.self.items (w ∷ []) rest in
    (c.loop-worker.invariant.4, (worker_behind g.Y.Yard.owns c.args.yard.now c.args.board.board c.pop.new.self.items rest w (subst (AreWorkersOf g.Y.Yard.owns c.args.yard.now c.args.board.board) all c.requires.workers)).own)

pub close-requires-clause-seat : goal.close-requires-clause-seat
close-requires-clause-seat g c κs within = (c.loop-worker.invariant.1, c.loop-worker.invariant.2)

pub returns-clause-own : goal.returns-clause-own
returns-clause-own g c = c.loop-worker.invariant.4

pub returns-clause-state : goal.returns-clause-state
returns-clause-state g c = c.close.ensures.state

pub returns-clause-below : goal.returns-clause-below
returns-clause-below g c = subst (λ (n : ℕ). AllBelow n c.close.result.0.history) c.loop-worker.invariant.3 c.close.ensures.below

pub returns-clause-took : goal.returns-clause-took
returns-clause-took g c =
    let (rest, whole, joined, took) = c.loop-worker.invariant.0 in
    let e = c.in_default.ensures in
    let empty : c.loop-worker.workers.items ≡ [] = e.items ∙ append-nil c.pop.new.self.items ∙ e.rest ∙ ap (λ (n : ℕ). take (n - 1) c.loop-worker.workers.items) e.cases.0 in
    let all : c.args.workers.items ≡ rest = whole ∙ ap (λ (l : List (Worker g.row.Y.Denot g.row.Y-Pass.Denot)). l ++ rest) empty in
    subst (λ (l : List (Worker g.row.Y.Denot g.row.Y-Pass.Denot)). TookIn (map (λ (x : Worker g.row.Y.Denot g.row.Y-Pass.Denot). g.Y.Yard.knows x.pass) l) (g.Y.Yard.knows c.args.pass.now) (g.Y.Yard.knows c.loop-worker.pass)) (sym all) took
