use Rattle.std.proofs.Common.{◌≡◌, ◌<◌, ◌≤◌, ◌∙◌, refl, sym, ap, List, ℕ, suc, ◌+◌, length, None, arith, rules, subst}
use Rattle.cu_board.specs.Views.{SeatAt}
use Rattle.cu_store.specs.Yard.{uncounted}
use Rattle.cu_history.specs.declared.entry.Entry.{Entry}
use Rattle.cu_history.specs.History.{own}
use Rattle.cu_table.specs.Own.{left_running}
use Rattle.std.specs.Prelude.{All, vec_len}
use Rattle.std.proofs.lemmas.List.Elements.{All-head, All-tail, All-push}
use Rattle.cu_work.specs.Rooms.{RoomSizes, rooms_of}
use Rattle.cu_work.specs.Workers.{IsWorkerOf, AreWorkersOf, AreNumbered, HaveCounted, IsRootOf}
use Rattle.cu_work.specs.declared.worker.Worker.{Worker}
use Rattle.cu_work.specs.declared.outcome.Outcome.TheVariants.{Lacked}
use Rattle.cu_work.proofs.Crews.{crew_snoc, numbered_snoc, counted_snoc}
use Rattle.cu_work.proofs.OwnCounts.{counted_first}
use Rattle.cu_work.proofs.crew.hire.Goals as goal

-- while a room is left the list has a place for its worker
room_left : (number len cap rest all more : ℕ) → number ≡ len → number + rest ≡ all → all ≤ cap → rest ≡ suc more → len < cap
room_left number len cap rest all more is total within step = omega arith

pub loop-room-preserved : goal.loop-room-preserved
loop-room-preserved g c =
    let i = c.loop-room.invariant in
    let p = c.push_reserved.ensures in
    let s = c.split-seat.ensures in
    let y = c.split-pass.ensures in
    let w : Worker g.row.Y.Denot g.row.Y-Pass.Denot = record { number = c.loop-room.number; rooms = c.in-Some.room; seat = c.split-seat.result; pass = c.split-pass.result; outcome = Lacked } in
    let len : length c.loop-room.workers.items ≡ c.loop-room.workers.len = search rules in
    let one : IsWorkerOf g.Y.Yard.owns c.args.yard.now c.args.board.now.board c.loop-room.number c.split-seat.result c.split-pass.result = record {
      own = y.own.1;
      seat_is = (ap (λ (x : SeatAt). x.board) s.seat ∙ i.6.seat_is.0, ap (λ (x : SeatAt). x.view.root) s.seat);
      number_is = ap (λ (x : SeatAt). x.view.number) s.seat ∙ i.6.number;
      resting = ap (λ (x : SeatAt). left_running None (own c.loop-room.number x.view.front)) s.seat ∙ ap (λ (h : List Entry). left_running None (own c.loop-room.number h)) i.7;
    } in
    let step = ap length c.in-Some.ensures.steps.0 in
    let total = i.3 in (
      tt,
      tt,
      search rules,
      omega (arith, step, total),
      i.4,
      search rules,
      record {
        seat_is = (ap (λ (x : SeatAt). x.board) s.root ∙ i.6.seat_is.0, ap (λ (x : SeatAt). x.view.root) s.root ∙ i.6.seat_is.1);
        number = ap (λ (x : SeatAt). x.view.number) s.root ∙ ap (λ (n : ℕ). n + 1) i.6.number;
        joined = ap (λ (x : SeatAt). x.view.joined) s.root ∙ i.6.joined;
      },
      ap (λ (x : SeatAt). x.view.front) s.root ∙ i.7,
      subst (AreWorkersOf g.Y.Yard.owns c.args.yard.now c.args.board.now.board) (sym p.items)
          (crew_snoc g.Y.Yard.owns c.args.yard.now c.args.board.now.board c.loop-room.workers.items w i.8
          (subst (λ (k : ℕ). IsWorkerOf g.Y.Yard.owns c.args.yard.now c.args.board.now.board k c.split-seat.result c.split-pass.result) (i.2 ∙ sym len) one)),
      subst AreNumbered (sym p.items) (numbered_snoc c.loop-room.workers.items w i.9 (i.2 ∙ sym len)),
      y.own.0,
      y.first ∙ i.11,
      λ q given.
          let (rest, before) = i.12 q given in
          let all = subst (All (λ (r : RoomSizes). r ≡ rooms_of q)) c.in-Some.ensures.steps.0 rest in (
            All-tail (λ (r : RoomSizes). r ≡ rooms_of q) c.in-Some.room _ all,
            subst (All (λ (x : Worker g.row.Y.Denot g.row.Y-Pass.Denot). x.rooms ≡ rooms_of q)) (sym p.items)
                (All-push (λ (x : Worker g.row.Y.Denot g.row.Y-Pass.Denot). x.rooms ≡ rooms_of q) c.loop-room.workers.items w before
                (All-head (λ (r : RoomSizes). r ≡ rooms_of q) c.in-Some.room _ all)),
          ),
      subst (All (λ (x : Worker g.row.Y.Denot g.row.Y-Pass.Denot). g.Y.Yard.knows x.pass ≡ uncounted (g.Y.Yard.knows c.args.pass.now))) (sym p.items)
          (All-push (λ (x : Worker g.row.Y.Denot g.row.Y-Pass.Denot). g.Y.Yard.knows x.pass ≡ uncounted (g.Y.Yard.knows c.args.pass.now)) c.loop-room.workers.items w i.13
          (y.second ∙ ap uncounted i.11)),
      λ q. subst (HaveCounted g.Y.Yard.knows q) (sym p.items)
          (counted_snoc g.Y.Yard.knows q c.loop-room.workers.items w (i.14 q)
          (counted_first q c.split-seat.result.view (g.Y.Yard.knows c.split-pass.result) (g.Y.Yard.knows c.loop-room.pass)
          (ap (λ (x : SeatAt). x.view.front) s.seat ∙ i.7) y.second)),
    )

pub returns-clause-rooms : goal.returns-clause-rooms
returns-clause-rooms g c = λ p given. (c.loop-room.invariant.12 p given).1

pub split-seat-requires-clause-seat : goal.split-seat-requires-clause-seat
split-seat-requires-clause-seat g c κs within = c.loop-room.invariant.6.seat_is

pub split-seat-requires-clause-number : goal.split-seat-requires-clause-number
split-seat-requires-clause-number g c κs within = c.loop-room.invariant.6.number

pub split-pass-requires : goal.split-pass-requires
split-pass-requires g c = c.loop-room.invariant.10

pub returns-clause-own : goal.returns-clause-own
returns-clause-own g c = c.loop-room.invariant.10

pub returns-clause-same : goal.returns-clause-same
returns-clause-same g c = c.loop-room.invariant.11

pub returns-clause-numbers : goal.returns-clause-numbers
returns-clause-numbers g c = c.loop-room.invariant.9

pub returns-clause-counted : goal.returns-clause-counted
returns-clause-counted g c = c.loop-room.invariant.14

pub returns-clause-refused : goal.returns-clause-refused
returns-clause-refused g c = tt

pub returns-clause-passes : goal.returns-clause-passes
returns-clause-passes g c = c.loop-room.invariant.13

pub returns-clause-workers : goal.returns-clause-workers
returns-clause-workers g c =
    let i = c.loop-room.invariant in
    let none = c.in-None.ensures.steps.0 in
    let left = c.loop-room.room-iterator.rest.ok.0 in
    let total = i.3 in
    let all : c.loop-room.number ≡ vec_len c.args.rooms = omega (arith, none, left, total) in
    let len = c.loop-room.workers.ok.0 in (
      i.8,
      omega (arith, i.2, all, len),
      subst (λ (n : ℕ). IsRootOf c.args.board.now.board n c.loop-room.root) all i.6,
    )

pub push_reserved-requires : goal.push_reserved-requires
push_reserved-requires g c =
    let i = c.loop-room.invariant in
    let step = ap length c.in-Some.ensures.steps.0 in
    room_left _ _ _ _ _ _ i.2 i.3 i.5 step

pub overflow_add-number : goal.overflow_add-number
overflow_add-number g c =
    let i = c.loop-room.invariant in
    let step = ap length c.in-Some.ensures.steps.0 in
    omega (arith, i.3, i.4, step)

pub returns-in_default-clause-own : goal.returns-in_default-clause-own
returns-in_default-clause-own g c = c.requires.own

pub returns-in_default-clause-same : goal.returns-in_default-clause-same
returns-in_default-clause-same g c = refl

pub returns-in_default-clause-workers : goal.returns-in_default-clause-workers
returns-in_default-clause-workers g c = tt

pub returns-in_default-clause-numbers : goal.returns-in_default-clause-numbers
returns-in_default-clause-numbers g c = tt

pub returns-in_default-clause-passes : goal.returns-in_default-clause-passes
returns-in_default-clause-passes g c = tt

pub returns-in_default-clause-counted : goal.returns-in_default-clause-counted
returns-in_default-clause-counted g c = λ p. tt

pub returns-in_default-clause-refused : goal.returns-in_default-clause-refused
returns-in_default-clause-refused g c = (refl, refl)

pub returns-in_default-clause-rooms : goal.returns-in_default-clause-rooms
returns-in_default-clause-rooms g c = λ p given. tt
