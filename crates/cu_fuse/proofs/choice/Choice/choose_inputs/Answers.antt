use Rattle.std.proofs.Common.{◌≡◌, ◌<◌, ◌^◌, ℕ, List, All, length, get_or, refl, ap, sym, ◌∙◌, subst, arith}
use Rattle.std.proofs.lemmas.List.{get_or_read}
use Rattle.cu_fuse.proofs.Choices.{all_reads, all_writes, done, first_is, own_small}
use Rattle.cu_fuse.specs.Choosing.{all_stored, plan_view}
use Rattle.cu_fuse.specs.Rooms.{own_room}
use Rattle.cu_op.specs.Operation.{reads_of, writes_of}
use Rattle.cu_op.specs.PlanView.{PlanView, no_operation, op_of}
use Rattle.cu_op.specs.Projection.{input_room}
use Rattle.cu_op.specs.declared.layout.ArrayInfo.{ArrayInfo}
use Rattle.cu_op.specs.declared.operation.Op.{Op}
use Rattle.cu_op.specs.declared.operation.Planned.{Planned}
use Rattle.cu_fuse.proofs.choice.Choice.choose_inputs.Goals as goal

op_is : (p : PlanView) (k : ℕ) (x : Planned) → k < length p.ops → x ≡ get_or p.ops k x → x.op ≡ op_of p k
op_is p k x l e = ap (λ (o : Planned). o.op) (get_or_read p.ops k x l e no_operation)

-- the reads of an operation of a plan that differs in what is inlined alone
same_reads : (p q : PlanView) (k n : ℕ) → all_stored q ≡ all_stored p → n ≡ length (reads_of (op_of p k)) → length (reads_of (op_of q k)) ≡ n
same_reads p q k n e l = ap (λ (r : PlanView). length (reads_of (op_of r k))) e ∙ sym l

pub own_room-room-requires-clause-reads : goal.own_room-room-requires-clause-reads
own_room-room-requires-clause-reads c =
    let p = plan_view c.args.self.now in
    subst (λ (l : List ArrayInfo). All (λ a. a < length l) (reads_of c.index-2.result.now.op)) (sym c.deref.ensures.value)
    (subst (λ (op : Op). All (λ a. a < length p.arrays) (reads_of op)) (sym (op_is p c.args.k c.index-2.result.now c.requires.reader c.index-2.ensures))
    (all_reads p c.args.k 0 c.requires.chosen c.requires.reader))

pub own_room-room-requires-clause-writes : goal.own_room-room-requires-clause-writes
own_room-room-requires-clause-writes c =
    let p = plan_view c.args.self.now in
    subst (λ (l : List ArrayInfo). All (λ a. a < length l) (writes_of c.index-2.result.now.op)) (sym c.deref.ensures.value)
    (subst (λ (op : Op). All (λ a. a < length p.arrays) (writes_of op)) (sym (op_is p c.args.k c.index-2.result.now c.requires.reader c.index-2.ensures))
    (all_writes p c.args.k 0 c.requires.chosen c.requires.reader))

pub own_room-room-requires-clause-small : goal.own_room-room-requires-clause-small
own_room-room-requires-clause-small c =
    let p = plan_view c.args.self.now in
    let op = op_is p c.args.k c.index-2.result.now c.requires.reader c.index-2.ensures in
    let same : input_room c.deref.result.now c.index-2.result.now.op ≡ input_room p.arrays (op_of p c.args.k) =
    (λ t. input_room (c.deref.ensures.value t) (op t)) in
    subst (λ (n : ℕ). n < 2 ^ 64) (sym same) (own_small p c.args.k 0 c.requires.chosen c.requires.reader)

pub loop-i-init : goal.loop-i-init
loop-i-init c =
    let p = plan_view c.args.self.now in
    let op = op_is p c.args.k c.index-2.result.now c.requires.reader c.index-2.ensures in
    record {
      chosen = c.requires.chosen;
      plan = refl;
      room = c.own_room-room.ensures.room ∙ (λ t. own_room (c.deref.ensures.value t) (op t)) ∙ sym (first_is p c.args.k 0 c.requires.chosen refl);
      modest = record { steps = c.own_room-room.ensures.steps; reads = c.own_room-room.ensures.reads };
      rooms = c.requires.rooms;
    }

pub choose-next-requires-clause-reader : goal.choose-next-requires-clause-reader
choose-next-requires-clause-reader c =
    let long = ap (λ (q : PlanView). length q.ops) c.loop-i.invariant.plan in
    let within = c.requires.reader in
    omega (arith, long, within)

pub choose-next-requires-clause-within : goal.choose-next-requires-clause-within
choose-next-requires-clause-within c =
    let p = plan_view c.args.self.now in
    let all = c.len-count.ensures.value ∙ ap length (c.reads.ensures ∙ ap reads_of (op_is p c.args.k c.index.result.now c.requires.reader c.index.ensures)) in
    let long = same_reads p (plan_view c.loop-i.self) c.args.k c.len-count.result c.loop-i.invariant.plan all in
    let t = c.loop-i-test.true in
    omega (arith, long, t)

pub loop-i-preserved : goal.loop-i-preserved
loop-i-preserved c = record {
  chosen = c.choose-next.ensures.chosen;
  plan = c.choose-next.ensures.plan ∙ c.loop-i.invariant.plan;
  room = c.choose-next.ensures.room;
  modest = c.choose-next.ensures.modest;
  rooms = c.choose-next.ensures.rooms;
}

pub returns-clause-chosen : goal.returns-clause-chosen
returns-clause-chosen c =
    let p = plan_view c.args.self.now in
    let q = plan_view c.loop-i.self in
    let all = c.len-count.ensures.value ∙ ap length (c.reads.ensures ∙ ap reads_of (op_is p c.args.k c.index.result.now c.requires.reader c.index.ensures)) in
    let long = same_reads p q c.args.k c.len-count.result c.loop-i.invariant.plan all in
    let f = c.loop-i-test.false in
    let e = c.loop-i.auto.i-end in
    done q c.args.k c.loop-i.i c.loop-i.invariant.chosen (omega (arith, long, f, e))
