use Rattle.std.proofs.Common.{◌≡◌, ◌<◌, ◌+◌, ◌++◌, ℕ, List, length, map, drop, get_or, refl, ap, sym, ◌∙◌, arith}
use Rattle.std.proofs.Math.ListN.{set}
use Rattle.std.specs.List.{range_with_len}
use Rattle.std.proofs.lemmas.List.{length-set}
use Rattle.cu_fuse.proofs.ChosenRooms.{needs_projection}
use Rattle.cu_fuse.proofs.Filling.{filled_all, filled_at, filled_next}
use Rattle.cu_fuse.proofs.Finished.{room_at, rooms_long}
use Rattle.cu_fuse.specs.Choosing.{plan_view}
use Rattle.cu_fuse.specs.Rooms.{needs, room_within}
use Rattle.cu_fuse.specs.declared.room.Room.{Room}
use Rattle.cu_op.specs.PlanView.{PlanView, no_operation, operation_at}
use Rattle.cu_op.specs.Projection.{projection}
use Rattle.cu_op.specs.declared.operation.Planned.{Planned}
use Rattle.cu_fuse.proofs.choice.Choice.set_needs.Goals as goal

abbrev no_room : Room
no_room = record { steps = 0; reads = 0; scratch = 0; inputs = 0; output = 0 }

abbrev needed : PlanView → ℕ → Planned
needed p j = record (operation_at p.ops j) { projected = projection p j }

-- what is computed for an operation is its projection
value_is : (p : PlanView) (k reserved n : ℕ) (rooms : List Room) → rooms ≡ map (room_within p) (range_with_len 0 (length p.ops)) → k < length p.ops
    → reserved ≡ p.reserved → n ≡ needs reserved (get_or rooms k no_room) → n ≡ projection p k
value_is p k reserved n rooms e l r is =
    is ∙ (λ i. needs (r i) (room_at p (length p.ops) k rooms no_room e l i)) ∙ needs_projection p k

pub loop-k-init : goal.loop-k-init
loop-k-init c = record { plan = refl; long = refl }

pub bounds-rooms-k : goal.bounds-rooms-k
bounds-rooms-k c =
    let p = plan_view c.args.self.now in
    let all = rooms_long p (length p.ops) c.args.rooms.now c.requires.rooms in
    let t = c.loop-k-test.true in
    let e = c.len-k-end.ensures in
    omega (arith, all, t, e)

pub needs-needs-requires : goal.needs-needs-requires
needs-needs-requires c =
    let p = plan_view c.args.self.now in
    let all = rooms_long p (length p.ops) c.args.rooms.now c.requires.rooms in
    let t = c.loop-k-test.true in
    let e = c.len-k-end.ensures in
    let steps = (c.requires.modest c.loop-k.k no_room (omega (arith, all, t, e))).steps in
    omega (arith, steps)

pub overflow_cast-projected : goal.overflow_cast-projected
overflow_cast-projected c =
    let p = plan_view c.args.self.now in
    let t = c.loop-k-test.true in
    let e = c.len-k-end.ensures in
    let within : c.loop-k.k < length p.ops = omega (arith, t, e) in
    let is = value_is p c.loop-k.k c.loop-k.self.reserved c.needs-needs.result c.args.rooms.now c.requires.rooms within
    (ap (λ (q : PlanView). q.reserved) c.loop-k.invariant.plan) c.needs-needs.ensures in
    let small = c.requires.small c.loop-k.k within in
    omega (arith, is, small)

pub set_projected-requires : goal.set_projected-requires
set_projected-requires c =
    let t = c.loop-k-test.true in
    let e = c.len-k-end.ensures in
    let long = c.loop-k.invariant.long in
    omega (arith, t, e, long)

pub loop-k-preserved : goal.loop-k-preserved
loop-k-preserved c =
    let p = plan_view c.args.self.now in
    let q = plan_view c.loop-k.self in
    let k = c.loop-k.k in
    let t = c.loop-k-test.true in
    let e = c.len-k-end.ensures in
    let within : k < length p.ops = omega (arith, t, e) in
    let ops = ap (λ (r : PlanView). r.ops) c.loop-k.invariant.plan in
    let is = value_is p k q.reserved c.needs-needs.result c.args.rooms.now c.requires.rooms within
    (ap (λ (r : PlanView). r.reserved) c.loop-k.invariant.plan) c.needs-needs.ensures in
    let here = filled_at (needed p) p.ops q.ops k ops no_operation within in
    let y : Planned = record (operation_at q.ops k) { projected = c.needs-needs.result } in
    let next : set q.ops k y ≡ map (needed p) (range_with_len 0 (k + 1)) ++ drop (k + 1) p.ops =
    filled_next (needed p) p.ops q.ops k ops no_operation y within (λ i. record (here i) { projected = is i }) in
    record {
      plan = c.set_projected.ensures ∙ (λ i. record (c.loop-k.invariant.plan i) { ops = next i });
      long = ap (λ (r : PlanView). length r.ops) c.set_projected.ensures ∙ length-set q.ops k y ∙ c.loop-k.invariant.long;
    }

pub returns : goal.returns
returns c =
    let p = plan_view c.args.self.now in
    let k = c.loop-k.k in
    let f = c.loop-k-test.false in
    let b = c.loop-k.auto.k-end in
    let e = c.len-k-end.ensures in
    let all : length p.ops ≡ k = omega (arith, f, b, e) in
    let whole : map (needed p) (range_with_len 0 k) ++ drop k p.ops ≡ map (needed p) (range_with_len 0 (length p.ops)) =
    filled_all (needed p) p.ops (map (needed p) (range_with_len 0 k) ++ drop k p.ops) k refl all ∙ ap (λ (n : ℕ). map (needed p) (range_with_len 0 n)) (sym all) in
    c.loop-k.invariant.plan ∙ (λ i. record p { ops = whole i })

pub offset_bounds-rooms-k : goal.offset_bounds-rooms-k
offset_bounds-rooms-k c =
    let p = plan_view c.args.self.now in
    let all = rooms_long p (length p.ops) c.args.rooms.now c.requires.rooms in
    let t = c.loop-k-test.true in
    let e = c.len-k-end.ensures in
    omega (arith, all, t, e)
